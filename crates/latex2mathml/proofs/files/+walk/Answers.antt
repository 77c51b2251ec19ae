use Rattle.std.proofs.Common.{◌≡◌, true, false, ◌++◌, ◌-◌, [], refl, sym, ap, ◌∙◌, append-nil, append_assoc, arith}
use Rattle.latex2mathml.specs.Files.{Converted, Left, NoMore, NotConverted, NotListed, TooLow, entry_path}
use Rattle.latex2mathml.proofs.Walks.{all_walked, asked_more, asked_nothing, next_walked, one_listed}
use Rattle.latex2mathml.proofs.files.+walk.Goals as goal

pub returns-in-Ok : goal.returns-in-Ok
returns-in-Ok g t c = record {
  walked = (_, [], asked_more _ _ _ _ _ c.in-File.ensures.asked c.in-Ok.ensures.asked, sym (append-nil _), Converted (c.if-not-is_document.ensures.document.0 refl));
}

pub returns-then-not-is_document : goal.returns-then-not-is_document
returns-then-not-is_document g t c = record {
  walked = (_, [], c.in-File.ensures.asked, sym (append-nil _), Left (λ document. let k : false ≡ true = c.if-not-is_document.ensures.document.1 document in cc));
}

pub returns-in-Other : goal.returns-in-Other
returns-in-Other g t c = record { walked = (_, [], c.in-Other.ensures.asked, sym (append-nil _), Left tt) }

pub returns-in-Err : goal.returns-in-Err
returns-in-Err g t c = record {
  walked = one_listed _ _ _ _ _ _ _ _ _ (asked_more _ _ _ _ _ c.in-File.ensures.asked c.in-Err.ensures.asked) c.add.ensures.added
      (λ one so. NotConverted (c.if-not-is_document.ensures.document.0 refl) c.in-Err.ensures.fault so);
}

pub returns-then-levels-eq0 : goal.returns-then-levels-eq0
returns-then-levels-eq0 g t c = record {
  walked = one_listed _ _ _ _ _ _ _ _ _ c.in-Directory.ensures.asked c.add-then-levels-eq0.ensures.added (λ one so. TooLow (omega arith) so);
}

pub returns-in_default : goal.returns-in_default
returns-in_default g t c = record {
  walked = one_listed _ _ _ _ _ _ _ _ _ (asked_more _ _ _ _ _ c.in-Directory.ensures.asked (rw c.in_default.is at c.in_ok-names.ensures.asked)) c.add-in_default.ensures.added (λ one so. NotListed (omega arith) so);
}

pub loop-name-init : goal.loop-name-init
loop-name-init g t c = ([], [], asked_nothing _, sym (append-nil _), NoMore)

pub loop-name-preserved : goal.loop-name-preserved
loop-name-preserved g t c =
    let before = c.loop-name.invariant in
    let walked = c.in_ok-walk.ensures.walked in (
      before.0 ++ walked.0,
      before.1 ++ walked.1,
      asked_more _ _ _ _ _ before.2 walked.2,
      walked.3 ∙ ap (λ l. l ++ walked.1) before.3 ∙ append_assoc _ before.1 walked.1,
      next_walked (c.args.levels - 1) c.args.path.now c.as_str-in-loop-name.result.now c.deref-name-items.result.now c.loop-name.name-index c.name-item.result before.0 walked.0 before.1 walked.1 (omega arith) c.name-item.is
          (c.as_str-in-loop-name.ensures.value ∙ c.in_ok-entry.ensures.entry ∙ ap (entry_path c.args.path.now) c.as_str.ensures.value)
          before.4 walked.4,
    )

pub returns : goal.returns
returns g t c =
    let walked = c.loop-name.invariant in
    let unread = c.in_ok-add_unread.ensures.added in
    record {
      walked = all_walked c.args.levels c.args.path.now c.in-Some.field-0 c.sort.new.self.items c.deref-name-items.result.now c.loop-name.name-index _ _ _ _ walked.0 c.args.unconverted.now.items c.add_unread.new.unconverted.items c.loop-name.unconverted.items unread.0 walked.1 (omega arith)
          c.in-Directory.ensures.asked (rw c.in-Some.is at c.in_ok-names.ensures.asked) walked.2 unread.2 unread.3 c.sort.ensures.permutation c.in_ok-sort.ensures.sorted c.deref-name-items.ensures.value (omega arith) walked.4 unread.1 walked.3;
    }
