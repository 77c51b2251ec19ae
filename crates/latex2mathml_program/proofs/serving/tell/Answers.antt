use Rattle.std.proofs.KnownBytes.{Keeps-refl}
use Rattle.latex2mathml_program.proofs.Lines.{none_told, some_told}
use Rattle.latex2mathml_program.proofs.serving.tell.Goals as goal

pub returns-then-is_empty : goal.returns-then-is_empty
returns-then-is_empty g c = record {
  told = none_told c.args.all.now _ _ c.if-is_empty.ensures (c.requires, Keeps-refl _);
}

pub returns : goal.returns
returns g c = record {
  told = some_told c.args.all.now _ _ c.if-is_empty.ensures c.put_all_unconverted.ensures.put;
}
