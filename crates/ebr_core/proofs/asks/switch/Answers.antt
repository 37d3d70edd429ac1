use Rattle.std.proofs.Common.{refl, subst, sym, ap, ◌∙◌}
use Rattle.ebr_tx.specs.Data.{IsLive, own}
use Rattle.std.specs.Prelude.{is_some}
use Rattle.ebr_seats.proofs.Live.{has_seat, own_lives}
use Rattle.ebr_core.proofs.HeldAgain.{seat_held}
use Rattle.ebr_core.proofs.Switched.{has_begun, not_there, is_set}
use Rattle.ebr_core.proofs.asks.switch.Goals as goal

pub begun-requires : goal.begun-requires
begun-requires g c =
    subst (IsLive c.args.current.now.world.tx.contents) (sym c.own_of.ensures)
    (own_lives c.args.current.now.world.tx.contents c.args.current.now.seats.items c.args.s (seat_held g.K.Keep.as_keeper c.args.current.now c.args.s c.requires))

pub set_edition-requires : goal.set_edition-requires
set_edition-requires g c = has_seat c.args.current.now.world.tx.contents c.args.current.now.seats.items c.args.s (seat_held g.K.Keep.as_keeper c.args.current.now c.args.s c.requires)

pub returns-then-begun : goal.returns-then-begun
returns-then-begun g c = λ db e x h has.
    has_begun g.K.Keep.as_keeper c.args.current.now db h c.args.s x c.args.name.now
    (sym c.if-begun.true ∙ c.begun.ensures ∙ ap (λ t. is_some (own c.args.current.now.world.tx.contents t).begun) c.own_of.ensures)

pub returns-in-Err : goal.returns-in-Err
returns-in-Err g c = λ db e x h has.
    not_there g.K.Keep.as_keeper c.args.current.now db h c.args.s x c.args.name.now
    (sym c.if-begun.false ∙ c.begun.ensures ∙ ap (λ t. is_some (own c.args.current.now.world.tx.contents t).begun) c.own_of.ensures)
    c.in-Err.code (sym c.in-Err.is ∙ c.edition_named.ensures.answer)

pub returns-in-Ok : goal.returns-in-Ok
returns-in-Ok g c = λ db e x h has.
    is_set g.K.Keep.as_keeper c.args.current.now db h c.args.s x c.args.name.now _ c.in-Ok.e has.there refl refl refl refl
    (sym c.if-begun.false ∙ c.begun.ensures ∙ ap (λ t. is_some (own c.args.current.now.world.tx.contents t).begun) c.own_of.ensures)
    (sym c.in-Ok.is ∙ c.edition_named.ensures.answer)
    (c.set_edition.ensures c.args.current.now.world.tx.contents (g.K.Keep.as_keeper c.args.current.now.world.keeper).used db x h.seated has.there)
