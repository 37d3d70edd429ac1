use Rattle.std.proofs.Common.{refl, ap, subst, ◌∙◌}
use Rattle.ebr_seats.specs.Seats.{Begin}
use Rattle.ebr_core.proofs.Starting.{starts}
use Rattle.ebr_core.proofs.parts.Parts.over.Goals as goal

pub returns-in-Ok-clause-sound : goal.returns-in-Ok-clause-sound
returns-in-Ok-clause-sound g c =
    let p = c.in-Ok.ensures in
    let seats = subst (λ e. Begin c.args.sessions e c.in-Ok.places.seats.items) c.default.ensures.default p.seats in
    starts g.K.Keep.as_keeper _ c.args.sessions c.args.recovered refl p.living p.books p.history refl p.room (c.first_current.ensures.holds c.args.recovered c.args.sessions c.requires.are seats c.requires.ready)
    (ap (λ k. (g.K.Keep.as_keeper k).stopped) c.first_current.ensures.keeper ∙ c.requires.ready.stopped)
