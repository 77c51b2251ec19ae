-- The innermost row waits for an atom.
use Rattle.std.proofs.Common.{ℕ, IsTrue, List, [], ◌∷◌, reverse, subst, sym}
use Rattle.std.proofs.lemmas.List.{reverse-append}
use Rattle.latex2mathml_tex_commands.specs.declared.meaning.Style.{Style}
use Rattle.latex2mathml_tex_atoms.specs.declared.{atoms.Context.Context, atoms.Row.Row}
use Rattle.latex2mathml_tex.specs.Innermost.{IsInnermost, none_begun, on_top}
use Rattle.latex2mathml_tex.specs.Steps.{Awaits, CanBegin, atom_made, first_accepts}
use Rattle.latex2mathml_tex.specs.declared.parse.{Parser.Parser, endings.Ending.Ending, frames.Frame.Frame}
use Rattle.latex2mathml_tex.specs.declared.parse.frames.Frame.TheVariants as frame

row_accepts : (style : Style) (fs others : List Frame) (e : Ending) (place : ℕ) (k : Context) (row : Row) → IsInnermost style fs (frame.Row e place k row) others → IsTrue (first_accepts atom_made (reverse fs))
row_accepts style fs others e place k row (none_begun h _ is) = rw h search
row_accepts style fs others e place k row (on_top h) = rw h (subst (λ l. IsTrue (first_accepts atom_made l)) (sym (reverse-append others (frame.Row e place k row ∷ []))) search)

pub row_awaits : (p : Parser) (e : Ending) (place : ℕ) (row : Row) (k : Context) (others : List Frame) → IsInnermost p.style p.frames.stack.items (frame.Row e place k row) others → CanBegin 0 p → Awaits atom_made p
row_awaits p e place row k others inner can = record { accepted = row_accepts p.style p.frames.stack.items others e place k row inner; nested = can.awaits.nested }
