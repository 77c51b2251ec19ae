-- What some texts expand to.
use Rattle.std.specs.Prelude.{ℕ, List, codes}
use Rattle.std.specs.Str.{byte}
use Rattle.latex2mathml_tex_grammar.specs.{Cutting.units_of, Expansion.Expands, Operands.none_due, UsualMacros.usual_macros}
use Rattle.latex2mathml_tex_grammar.specs.Refusal.{MissingArgument, TooManyExpansions, refusal_at}
use Rattle.latex2mathml_tex_grammar.specs.Units.{Open, Close, Command, Character, Units, Next, End, Stop, unit}

-- the text expands to these units, where only the usual macros hold, four macros can be used and fifteen units can be put
abbrev pub ExpandsTo : List ℕ → Units → Type 0
ExpandsTo text units = Expands usual_macros 4 15 none_due (units_of 0 text) units

-- the units that some texts expand to
pub record AreExpansionExamples : Type 0 where
  -- a definition leaves nothing, and holds from there on. A body has the place of the use, an argument keeps its own.
  pub defined : ExpandsTo (codes "\\R\\def\\R#1{x#1}\\R y")
      (Next (unit (Command (codes "R")) 0) (Next (unit (Character (byte "x")) 15) (Next (unit (Character (byte "y")) 18) (End 19))))
  -- what replaces a macro is read again
  pub again : ExpandsTo (codes "\\def\\a{\\b}\\def\\b{z}\\a")
      (Next (unit (Character (byte "z")) 19) (End 21))
  -- another name for a macro keeps what replaces it
  pub kept : ExpandsTo (codes "\\def\\b{x}\\let\\a=\\b\\def\\b{y}\\a")
      (Next (unit (Character (byte "x")) 27) (End 29))
  -- and one for a command means that command, also where a macro has its name
  pub another : ExpandsTo (codes "\\let\\a\\b\\def\\b{x}\\a\\b")
      (Next (unit (Command (codes "b")) 17) (Next (unit (Character (byte "x")) 19) (End 21)))
  -- a macro that uses itself is refused
  pub endless : ExpandsTo (codes "\\def\\a{x\\a}\\a")
      (Next (unit (Character (byte "x")) 11) (Next (unit (Character (byte "x")) 11) (Next (unit (Character (byte "x")) 11) (Next (unit (Character (byte "x")) 11) (Stop (refusal_at TooManyExpansions 11))))))
  -- and so is one that lacks an argument
  pub lacking : ExpandsTo (codes "{\\bra}") (Next (unit Open 0) (Stop (refusal_at MissingArgument 1)))
  -- with a star, a pair of delimiters stretches
  pub starred : ExpandsTo (codes "\\DeclarePairedDelimiter\\n()\\n*x")
      (Next (unit (Command (codes "mathopen")) 27) (Next (unit Open 27) (Next (unit Close 27) (Next (unit (Command (codes "mathclose")) 27) (Next (unit Open 27)
      (Next (unit (Command (codes "left")) 27) (Next (unit (Character (byte "(")) 27) (Next (unit (Character (byte "x")) 30) (Next (unit (Command (codes "right")) 27) (Next (unit (Character (byte ")")) 27) (Next (unit Close 27) (End 31))))))))))))
  -- without one, it has the usual size
  pub unstarred : ExpandsTo (codes "\\DeclarePairedDelimiter\\n()\\n x")
      (Next (unit (Command (codes "mathopen")) 27) (Next (unit Open 27) (Next (unit (Character (byte "(")) 27) (Next (unit Close 27) (Next (unit (Character (byte "x")) 30)
      (Next (unit (Command (codes "mathclose")) 27) (Next (unit Open 27) (Next (unit (Character (byte ")")) 27) (Next (unit Close 27) (End 31))))))))))
  -- an operand of a fraction is taken whole
  pub whole : ExpandsTo (codes "\\def\\d{ab}\\frac\\d\\d\\d")
      (Next (unit (Command (codes "frac")) 10) (Next (unit Open 15) (Next (unit (Character (byte "a")) 15) (Next (unit (Character (byte "b")) 15) (Next (unit Close 15)
      (Next (unit Open 17) (Next (unit (Character (byte "a")) 17) (Next (unit (Character (byte "b")) 17) (Next (unit Close 17) (Next (unit (Character (byte "a")) 19) (Next (unit (Character (byte "b")) 19) (End 21))))))))))))
  -- behind an argument in brackets, too
  pub behind : ExpandsTo (codes "\\def\\d{ab}\\sqrt[\\d]\\d")
      (Next (unit (Command (codes "sqrt")) 10) (Next (unit (Character (byte "[")) 15) (Next (unit (Character (byte "a")) 16) (Next (unit (Character (byte "b")) 16) (Next (unit (Character (byte "]")) 18)
      (Next (unit Open 19) (Next (unit (Character (byte "a")) 19) (Next (unit (Character (byte "b")) 19) (Next (unit Close 19) (End 21))))))))))
  -- that of a root without a degree is not
  pub first : ExpandsTo (codes "\\def\\d{ab}\\sqrt\\d")
      (Next (unit (Command (codes "sqrt")) 10) (Next (unit (Character (byte "a")) 15) (Next (unit (Character (byte "b")) 15) (End 17))))
  -- a bar divides a set: what takes its place puts each part in braces, and has the place of the bar
  pub divided : ExpandsTo (codes "\\set{x|y}")
      (Next (unit (Command (codes "mathinner")) 0) (Next (unit Open 0) (Next (unit (Command (codes "lbrace")) 0) (Next (unit (Command (codes ",")) 0) (Next (unit Open 0) (Next (unit (Character (byte "x")) 5)
      (Next (unit Close 6) (Next (unit (Command (codes "mid")) 6) (Next (unit Open 6) (Next (unit (Character (byte "y")) 7)
      (Next (unit Close 0) (Next (unit (Command (codes ",")) 0) (Next (unit (Command (codes "rbrace")) 0) (Next (unit Close 0) (End 9)))))))))))))))
  -- bars in braces do not divide, and two bars are a double one
  pub doubled : ExpandsTo (codes "\\Braket{{|}||}")
      (Next (unit (Command (codes "left")) 0) (Next (unit (Command (codes "langle")) 0) (Next (unit Open 0) (Next (unit Open 8) (Next (unit (Character (byte "|")) 9) (Next (unit Close 10)
      (Next (unit Close 11) (Next (unit (Command (codes ",")) 11) (Next (unit (Command (codes "middle")) 11) (Next (unit (Command (codes "|")) 11) (Next (unit (Command (codes ",")) 11) (Next (unit Open 11)
      (Next (unit Close 0) (Next (unit (Command (codes "right")) 0) (Next (unit (Command (codes "rangle")) 0) (End 14))))))))))))))))
