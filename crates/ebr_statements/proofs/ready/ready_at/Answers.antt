use Rattle.std.proofs.Common.{◌∙◌, subst}
use Rattle.ebr_cross.specs.Catalogue.{View}
use Rattle.ebr_exec.specs.Places.{names_of}
use Rattle.ebr_bodies.specs.Ready.{all_ready}
use Rattle.ebr_statements.specs.inside.Held.{GiveReady}
use Rattle.ebr_statements.proofs.ready.ready_at.Goals as goal

pub returns-clause-ready : goal.returns-clause-ready
returns-clause-ready c = λ lists keys current is seen t changing.
    subst (λ fs. GiveReady (View lists) c.all_ready.result (all_ready (names_of lists) fs)) (c.as_slice.ensures ∙ c.in_ok-firings.ensures lists t changing is seen)
    (c.all_ready.ensures.ready lists keys current is)
