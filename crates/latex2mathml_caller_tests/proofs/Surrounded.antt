-- Documents of the tests: the prose of one is that of a page, and the other has no prose.
use Rattle.std.proofs.Common.{false, [], ◌∷◌, refl, codes, arith}
use Rattle.latex2mathml.specs.Documents.{prose, inline, display, IsWhole, nothing, single, whole}
use Rattle.latex2mathml.specs.Elements.{above, close_tag, lowest, open_tag}
use Rattle.latex2mathml.specs.Surroundings.{HasBalancedProse, HasPageProse}

open_whole : IsWhole (codes "<p>")
open_whole =
    single (omega arith) (omega arith) (single (omega arith) (omega arith) (single (omega arith) (omega arith) nothing))

close_whole : IsWhole (codes "</p>")
close_whole =
    single (omega arith) (omega arith) (single (omega arith) (omega arith) (single (omega arith) (omega arith) (single (omega arith) (omega arith) nothing)))

body_whole : IsWhole (codes "x")
body_whole = single (omega arith) (omega arith) nothing

-- a paragraph with a formula in it
pub paragraph : HasPageProse (codes "<p>$x$</p>")
paragraph =
    let base = lowest (codes "p" ∷ []) false in (
      prose (codes "<p>") ∷ inline (codes "x") ∷ prose (codes "</p>") ∷ [],
      record {
        well_formed = ((λ e. cc, whole open_whole), open_whole, ((λ e. cc, body_whole), tt, ((λ e. cc, whole close_whole), tt, tt)));
        spelled = refl;
      },
      (
        codes "p" ∷ [],
        (
          false,
          (
            above (codes "p") [] false base,
            record { events = open_tag (codes "p") [] ∷ []; are_events = refl; spelled = refl; runs = refl },
            (
              above (codes "p") (codes "math" ∷ []) false base,
              refl,
              (base, record { events = close_tag (codes "p") ∷ []; are_events = refl; spelled = refl; runs = refl }, refl),
            ),
          ),
        ),
      ),
    )

-- a formula alone
pub formula : HasBalancedProse (codes "$$x$$")
formula = (
  display (codes "x") ∷ [],
  record { well_formed = ((λ e. cc, body_whole), tt, tt); spelled = refl },
  (codes "math" ∷ [], (false, (lowest (codes "math" ∷ []) false, refl, refl))),
)
