use Rattle.std.proofs.Common.{sym, ap, ◌∙◌}
use Rattle.std.specs.List.{filter_map}
use Rattle.ebr_cross.specs.Definitions.{outcome}
use Rattle.ebr_record.specs.Keeper.{used_by}
use Rattle.ebr_database.specs.Database.{data_of}
use Rattle.ebr_seats.specs.declared.seat.Seat.{Seat}
use Rattle.ebr_seats.proofs.Live.{own_lives}
use Rattle.ebr_core.specs.Machine.{lists_of, recorded, defined, editions_in_use}
use Rattle.ebr_core.proofs.HeldAgain.{seat_held}
use Rattle.ebr_core.proofs.Carrying.{editions_are, defined_on, held_by_other, held_behind, not_begun}
use Rattle.ebr_core.proofs.define.define.Goals as goal

pub is_held-requires : goal.is_held-requires
is_held-requires g c = own_lives c.args.current.now.world.tx.contents c.args.current.now.seats.items c.args.s (seat_held g.K.Keep.as_keeper c.args.current.now c.args.s c.requires.held)

pub returns-then-is_held-clause-carries : goal.returns-then-is_held-clause-carries
returns-then-is_held-clause-carries g c = λ db d x h has same.
    held_by_other g.K.Keep.as_keeper c.args.current.now db c.args.s d c.args.what.now c.args.text.now h (sym c.if-is_held.true ∙ c.is_held.ensures (lists_of db) h.catalogue_is)

pub returns-in_err-sessions-clause-carries : goal.returns-in_err-sessions-clause-carries
returns-in_err-sessions-clause-carries g c = λ db d x h has same.
    not_begun g.K.Keep.as_keeper c.args.current.now db (recorded (defined (lists_of db) (data_of db) c.args.s d (editions_in_use db) c.args.what.now c.args.text.now) (used_by db.records)) c.from_residual.result c.from_residual.ensures.1

pub returns-clause-held : goal.returns-clause-held
returns-clause-held g c =
    let h = c.requires.held in
    held_behind g.K.Keep.as_keeper c.args.current.now c.carry_out.new.current h.database (recorded (outcome (lists_of h.database) c.args.e c.as_slice-2.result.now c.args.what.now c.args.text.now) (used_by h.database.records)) c.carry_out.result
    (c.carry_out.ensures h.database h.edition h.session h.holds h.has)

pub returns-clause-carries : goal.returns-clause-carries
returns-clause-carries g c = λ db d x h has same.
    defined_on g.K.Keep.as_keeper c.args.current.now c.carry_out.new.current db c.args.s c.args.e d c.as_slice-2.result.now c.args.what.now c.args.text.now c.carry_out.result c.args.current.now.world.tx.contents h.seated.data_is
    (c.as_slice-2.ensures ∙ c.in_ok-sessions.ensures ∙ ap (filter_map (λ (seat : Seat). seat.edition)) c.as_slice.ensures.value
    ∙ editions_are (g.K.Keep.as_keeper c.args.current.now.world.keeper).used c.args.current.now.world.tx.contents c.args.current.now.seats.items db h.seated)
    (sym c.if-is_held.false ∙ c.is_held.ensures (lists_of db) h.catalogue_is) same (c.carry_out.ensures db d x h has)
