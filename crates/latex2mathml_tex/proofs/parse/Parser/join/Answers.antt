use Rattle.std.proofs.Common.{◌≤◌, ℕ, arith, option_map, subst}
use Rattle.latex2mathml_tex_grammar.specs.Units.{Units}
use Rattle.latex2mathml_tex_commands.specs.Meanings.{alphabet_of}
use Rattle.latex2mathml_tex_units.specs.Left.{unit_count, units_at}
use Rattle.latex2mathml_tex_grammar.proofs.Ligatures.{joined_shortens}
use Rattle.latex2mathml_tex.specs.Steps.{left_of}
use Rattle.latex2mathml_tex.proofs.{Rows.step_within, Wording.joined_given}
use Rattle.latex2mathml_tex.proofs.parse.Parser.join.Goals as goal

pub returns : goal.returns
returns c =
    let p = c.args.self.now in
    let i = c.take_joined-whole.new.self in
    let first = c.args.first in
    let less : unit_count (units_at i) ≤ unit_count (left_of p) = subst (λ (found : ℕ × Units). unit_count found.1 ≤ unit_count (left_of p)) c.take_joined-whole.ensures.taken (joined_shortens first (left_of p)) in
    record {
      holds = λ s g. c.show.ensures.holds s (rw c.word_character.ensures (joined_given s p i c.args.words first c.take_joined-whole.result (option_map alphabet_of c.args.alphabet) c.take_joined-whole.ensures.taken g));
      step = step_within p (record p { input = i }) c.show.new.self c.show.new.next c.show.result 13 13 (omega (arith, less)) c.show.ensures.step;
    }
