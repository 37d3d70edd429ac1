use Rattle.std.proofs.Common.{sym, subst}
use Rattle.std.specs.Prelude.{Err}
use Rattle.ebr_base.specs.Answers.{Answers}
use Rattle.ebr_cross.specs.Definitions.{outcome}
use Rattle.ebr_record.specs.Keeper.{used_by}
use Rattle.ebr_database.proofs.Keeping.{stays}
use Rattle.ebr_core.specs.Machine.{lists_of, recorded}
use Rattle.ebr_core.specs.inside.Defined.{IsNew}
use Rattle.ebr_core.specs.inside.Defining.{Carries, IsRefused}
use Rattle.ebr_core.proofs.Carrying.{defines_so, not_planned_so}
use Rattle.ebr_core.proofs.define.carry_out.Goals as goal

pub keep_and_apply-requires-clause-small : goal.keep_and_apply-requires-clause-small
keep_and_apply-requires-clause-small g c =
    let h = c.requires.held in
    (defines_so g.K.Keep.as_keeper c.args.current.now h.database c.args.e c.args.sessions.now c.args.what.now c.args.text.now c.in-Ok.planned h.holds c.requires.text
    (c.in-Ok.ensures.answer (lists_of h.database) h.holds.catalogue_is)).small

pub keep_and_apply-requires-clause-new : goal.keep_and_apply-requires-clause-new
keep_and_apply-requires-clause-new g c =
    let h = c.requires.held in
    subst (λ d. IsNew d c.in-Ok.planned) (sym h.holds.seated.data_is)
    (defines_so g.K.Keep.as_keeper c.args.current.now h.database c.args.e c.args.sessions.now c.args.what.now c.args.text.now c.in-Ok.planned h.holds c.requires.text
    (c.in-Ok.ensures.answer (lists_of h.database) h.holds.catalogue_is)).new

pub returns-in-Ok : goal.returns-in-Ok
returns-in-Ok g c = λ db e x h has.
    let is = c.in-Ok.ensures.answer (lists_of db) h.catalogue_is in
    subst (λ out. Carries g.K.Keep.as_keeper c.args.current.now c.keep_and_apply.new.current c.keep_and_apply.result db (recorded out (used_by db.records))) (sym is)
    (c.keep_and_apply.ensures db h (defines_so g.K.Keep.as_keeper c.args.current.now db c.args.e c.args.sessions.now c.args.what.now c.args.text.now c.in-Ok.planned h c.requires.text is))

pub returns-in-Err-Raised : goal.returns-in-Err-Raised
returns-in-Err-Raised g c = λ db e x h has.
    let out = outcome (lists_of db) c.args.e c.args.sessions.now c.args.what.now c.args.text.now in
    subst (λ code. IsRefused g.K.Keep.as_keeper c.args.current.now c.args.current.now db (recorded out (used_by db.records)) code) (sym c.in-Err-Raised.code-is)
    (not_planned_so g.K.Keep.as_keeper c.args.current.now db out c.in-Err-Raised.code h
    (subst (λ stop. Answers (Err stop) out) c.in-Err-Raised.field-0-is (c.in-Err-Raised.ensures.answer (lists_of db) h.catalogue_is)))

pub returns-in-Err-NoMemory : goal.returns-in-Err-NoMemory
returns-in-Err-NoMemory g c = λ db e x h has.
    stays (g.K.Keep.as_keeper c.args.current.now.world.keeper) (recorded (outcome (lists_of db) c.args.e c.args.sessions.now c.args.what.now c.args.text.now) (used_by db.records)).made
