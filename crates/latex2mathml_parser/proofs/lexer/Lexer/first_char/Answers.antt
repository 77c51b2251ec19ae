use Rattle.std.proofs.Common.{◌∙◌, ap}
use Rattle.latex2mathml_parser.specs.Unread.{token_list, unread_in}
use Rattle.latex2mathml_parser.proofs.{Sights.seen, Starts.none_of_nothing, Starts.same_slices, Starts.starts_behind_one, Starts.starts_here}
use Rattle.latex2mathml_parser.proofs.lexer.Lexer.first_char.Goals as goal

pub returns-then-is_empty-clause-sight : goal.returns-then-is_empty-clause-sight
returns-then-is_empty-clause-sight c = rw (← c.self.view_is) (ap token_list (none_of_nothing _ _ c.if-is_empty.ensures))

pub returns-then-not-is_space-clause-sight : goal.returns-then-not-is_space-clause-sight
returns-then-not-is_space-clause-sight c = rw (← c.self.view_is) (seen _ _ _ _ c.in-Some.c _ (starts_here _ _ c.in-Some.c _ c.in-Some.ensures.first (cc)) c.in-Some.ensures.first)

pub returns-then-not-is_space-2-clause-sight : goal.returns-then-not-is_space-2-clause-sight
returns-then-not-is_space-2-clause-sight c =
    let starts = starts_behind_one _ _ c.in-Some.c _ c.in-Some-first_ascii.second _ c.in-Some.ensures.first (cc) c.in-Some-first_ascii.ensures.first (cc) in
    rw (← c.self.view_is) (seen _ _ _ _ c.in-Some-first_ascii.second _ starts c.in-Some-first_ascii.ensures.first)

pub returns-then-not-is_space-2-clause-same : goal.returns-then-not-is_space-2-clause-same
returns-then-not-is_space-2-clause-same c =
    let starts = starts_behind_one _ _ c.in-Some.c _ c.in-Some-first_ascii.second _ c.in-Some.ensures.first (cc) c.in-Some-first_ascii.ensures.first (cc) in
    ap (λ ss. unread_in ss c.self.inside.tokens c.self.inside.comparisons) (same_slices _ _ _ _ starts) ∙ c.self.view_is
