-- Some texts and their units, to check the definitions against.
use Rattle.std.specs.Prelude.{[], ◌∷◌, ◌++◌, codes}
use Rattle.std.specs.Str.{byte}
use Rattle.latex2mathml_tex_grammar.specs.Refusal.{LoneBackslash, ForbiddenCharacter, refusal_at}
use Rattle.latex2mathml_tex_grammar.specs.Units.{Space, Open, Close, Command, Character, Next, End, Stop, unit, HasUnits}

-- the units of some texts
pub record AreUnitsOfExamples : Type 0 where
  pub nothing : HasUnits 0 [] (End 0)
  -- white space after a command of letters is ignored
  pub letters : HasUnits 0 (codes "\\le x y")
      (Next (unit (Command (codes "le")) 0)
      (Next (unit (Character (byte "x")) 4)
      (Next (unit Space 5)
      (Next (unit (Character (byte "y")) 6) (End 7)))))
  -- after any other command it is white space
  pub symbol : HasUnits 0 (codes "\\, \\é")
      (Next (unit (Command (codes ",")) 0)
      (Next (unit Space 2)
      (Next (unit (Command (0xC3 ∷ 0xA9 ∷ [])) 3) (End 6))))
  -- a backslash at the end of a line counts as one before a space
  pub line_end : HasUnits 0 (codes "\\\n{}")
      (Next (unit (Command (codes " ")) 0)
      (Next (unit Open 2)
      (Next (unit Close 3) (End 4))))
  -- a comment ends with its line, or with the text
  pub comments : HasUnits 0 (codes "a%\\{\nb%")
      (Next (unit (Character (byte "a")) 0)
      (Next (unit (Character (byte "b")) 5) (End 7)))
  -- the units before what is refused are units
  pub lone : HasUnits 0 (codes "1\\")
      (Next (unit (Character (byte "1")) 0) (Stop (refusal_at LoneBackslash 1)))
  pub forbidden : HasUnits 0 (codes "\\" ++ 7 ∷ []) (Stop (refusal_at (ForbiddenCharacter 7) 1))
