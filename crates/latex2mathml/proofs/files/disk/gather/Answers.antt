use Rattle.std.proofs.Common.{◌∙◌, arith}
use Rattle.latex2mathml.proofs.Gathered.{name_gathered, names_kept, unread_counted, unread_kept}
use Rattle.latex2mathml.proofs.files.disk.gather.Goals as goal

pub loop-entry-preserved-in-Ok : goal.loop-entry-preserved-in-Ok
loop-entry-preserved-in-Ok g c =
    let before = c.loop-entry.invariant in
    let goes = c.in-Some.ensures.goes.on before.2 in (
      name_gathered c.loop-entry.yielded c.in-Some.entry c.in-Ok.entry c.loop-entry.names.items c.push.new.self.items _ c.in-Ok.is c.in_ok-push-in-Ok.ensures.items
          (c.in_ok-from_str-in-Ok.ensures.ok ∙ c.file_name.ensures) before.0,
      unread_kept c.loop-entry.yielded c.in-Some.entry c.in-Ok.entry c.loop-entry.unread c.in-Ok.is before.1,
      goes.1,
      omega (arith, before.3, goes.2),
    )

pub loop-entry-preserved : goal.loop-entry-preserved
loop-entry-preserved g c =
    let before = c.loop-entry.invariant in
    let goes = c.in-Some.ensures.goes.on before.2 in (
      names_kept c.loop-entry.yielded c.in-Some.entry c.in-Err.field-0 c.loop-entry.names.items c.in-Err.is before.0,
      unread_counted c.loop-entry.yielded c.in-Some.entry c.in-Err.field-0 c.loop-entry.unread c.in-Err.is before.1,
      goes.1,
      omega (arith, before.3, goes.2),
    )
