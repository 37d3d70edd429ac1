use Rattle.std.proofs.Common.{subst, sym}
use Rattle.ebr_core.specs.Records.{catalogue_of}
use Rattle.ebr_recovery.specs.Recovery.{Recovers}
use Rattle.ebr_recovery.proofs.Recovering.{carried, is_new}
use Rattle.ebr_recovery.proofs.recovery.Recovery.define.Goals as goal

pub carry_out-done-requires-clause-new : goal.carry_out-done-requires-clause-new
carry_out-done-requires-clause-new c =
    let h = c.requires.stands in
    let p = c.in-Ok.ensures.plans (catalogue_of h.records) h.stands.lists in
    is_new h.records h.sessions c.args.self.now.catalogue c.args.self.now.transactions.contents h.stands c.args.r.now c.in-Ok.made p.1

pub returns-in-Ok : goal.returns-in-Ok
returns-in-Ok c = λ sessions records stands.
    let p = c.in-Ok.ensures.plans (catalogue_of records) stands.lists in
    let new = c.carry_out-done.new.self in
    subst (λ x. Recovers sessions records c.args.r.now new x) (sym c.without.ensures)
    (carried records sessions c.args.self.now.catalogue c.args.self.now.transactions.contents stands c.args.r.now c.in-Ok.made p.1 new c.carry_out-done.result c.requires.definition p.0 c.requires.room
    c.in-Ok.ensures.follows (c.carry_out-done.ensures.catalogue (catalogue_of records) stands.lists) c.carry_out-done.ensures.data c.carry_out-done.ensures.fault)
