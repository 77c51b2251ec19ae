-- The table of usual macros is sorted, and looking up in it is looking up by name.
use Rattle.std.proofs.Common.{◌≡◌, ℕ, ◌<◌, true, List, [], ◌∷◌, Some, if◌then◌else◌, length, map, refl, ap, ◌∙◌, arith}
use Rattle.std.specs.Str.{bytes_eq}
use Rattle.std.proofs.lemmas.List.{length-map}
use Rattle.latex2mathml_tex_grammar.specs.{Macros.Macro, Sorted.ascending, UsualMacros.entry_macro, UsualMacros.macro_with, UsualMacros.usual_entries}
use Rattle.latex2mathml_tex_units.specs.{Bodies.by_name, Bodies.entry_of, Bodies.named_entry, declared.macros.usual.Usual.Usual}
use Rattle.latex2mathml_tex_commands.proofs.Lookups.{looked_up}

abbrev pub its_macro : List ℕ × (ℕ × List ℕ) → Macro
its_macro r = macro_with r.1.0 r.1.1

pub macro_is : (entries : List Usual) (name : List ℕ) → entry_macro (map entry_of entries) name ≡ looked_up its_macro (map named_entry entries) name
macro_is [] name = refl
macro_is (e ∷ entries) name = ap (λ m. if bytes_eq e.name.now name then Some (macro_with e.arity e.body.now) else m) (macro_is entries name)

-- the usual macros are sorted

named_again : (entries : List Usual) → map named_entry entries ≡ map by_name (map entry_of entries)
named_again [] = refl
named_again (e ∷ entries) = ap (λ rs. named_entry e ∷ rs) (named_again entries)

ascending-usual : ascending (map by_name usual_entries) ≡ true
unfolding usual_entries ascending
ascending-usual = refl

length-usual : length usual_entries < 512
unfolding usual_entries
length-usual = omega arith

pub usual_ordered : (entries : List Usual) → map entry_of entries ≡ usual_entries → ascending (map named_entry entries) ≡ true
usual_ordered entries e = ap ascending (named_again entries ∙ ap (map by_name) e) ∙ ascending-usual

pub usual_few : (entries : List Usual) → map entry_of entries ≡ usual_entries → length entries < 512
usual_few entries e =
    let same : length (map entry_of entries) ≡ length entries = simp length-map in
    omega (arith, same, ap length e, length-usual)
