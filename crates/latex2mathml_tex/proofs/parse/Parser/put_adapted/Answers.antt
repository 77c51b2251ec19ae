use Rattle.std.proofs.Common.{refl}
use Rattle.latex2mathml_builder.specs.Built.{elements_in}
use Rattle.latex2mathml_tex.specs.{Innermost.on_top, Levels.Leads, Steps.left_of}
use Rattle.latex2mathml_tex.specs.declared.parse.frames.Frame.TheVariants as frame
use Rattle.latex2mathml_tex.proofs.{Opening.out_of_frame, Rows.atom_put, Rows.row_put_back, Rows.row_there}
use Rattle.latex2mathml_tex.proofs.parse.Parser.put_adapted.Goals as goal

pub returns-clause-holds : goal.returns-clause-holds
returns-clause-holds c = λ s g.
    let p = c.args.self.now in
    let (e, (place, (others, inner))) = row_there p c.row.result c.row.ensures c.requires.awaits in
    let items = c.in_ok-set_row.ensures e place c.row.result.0 c.row.result.1 others inner in
    let put = c.in_ok-row.ensures in
    let leads = atom_put s p (frame.Row e place c.row.result.0 c.row.result.1) others e place c.row.result.0 c.row.result.1 c.in_ok-row.row c.args.core (elements_in c.with_atom.new.builder) inner refl put.row put.below put.rest g in
    record {
      style = g.style;
      claims = out_of_frame (λ l. Leads l (left_of p)) s p.style g.style c.set_row.new.self.stack.items others (frame.Row e place c.row.result.0 c.in_ok-row.row) (elements_in c.with_atom.new.builder) (on_top items) leads;
    }

pub returns-clause-step : goal.returns-clause-step
returns-clause-step c =
    let p = c.args.self.now in
    let (e, (place, (others, inner))) = row_there p c.row.result c.row.ensures c.requires.awaits in
    let items = c.in_ok-set_row.ensures e place c.row.result.0 c.row.result.1 others inner in
    let put = c.in_ok-row.ensures in
    row_put_back p (record p { frames = c.set_row.new.self; builder = c.with_atom.new.builder }) (frame.Row e place c.row.result.0 c.row.result.1) others e place c.row.result.0 c.row.result.1 c.in_ok-row.row inner refl c.requires put.below put.rest put.count items refl
