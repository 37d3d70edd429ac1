use Rattle.std.proofs.Common.{[], ap, sym, subst, ◌∙◌}
use Rattle.std.specs.Prelude.{Err}
use Rattle.ebr_asks.specs.declared.answer.Answer.TheVariants as answer
use Rattle.ebr_record.specs.Keeper.{used_by}
use Rattle.ebr_database.specs.Shows.{GaveUp}
use Rattle.ebr_database.specs.Database.{data_of}
use Rattle.ebr_core.specs.Machine.{lists_of, editions_in_use, recorded, defined}
use Rattle.ebr_core.specs.inside.Defining.{Carries}
use Rattle.ebr_core.proofs.Carrying.{replied_made, replied_refused}
use Rattle.ebr_core.proofs.define.defined.Goals as goal

pub answer_to-requires : goal.answer_to-requires
answer_to-requires g c = c.in-Ok.ensures.held

pub returns-in-Ok : goal.returns-in-Ok
returns-in-Ok g c = λ db d x h has same.
    let m = c.in-Ok.ensures.carries db d x h has same in
    replied_made g.K.Keep.as_keeper c.args.current.now c.define.new.current c.answer_to.new.current db c.args.e d c.args.what.now _ m c.answer_to.result same (c.answer_to.ensures _ m.holds)

pub returns-in-Err-Refused : goal.returns-in-Err-Refused
returns-in-Err-Refused g c = λ db d x h has same.
    let o = recorded (defined (lists_of db) (data_of db) c.args.s d (editions_in_use db) c.args.what.now c.args.text.now) (used_by db.records) in
    replied_refused g.K.Keep.as_keeper c.args.current.now c.define.new.current db d c.args.what.now o c.in-Err-Refused.code c.refusal.result (c.refusal.ensures ∙ ap (λ k. answer.Refused k 0 []) c.in-Err-Refused.code-is)
    (subst (λ f. Carries g.K.Keep.as_keeper c.args.current.now c.define.new.current (Err f) db o) c.in-Err-Refused.field-0-is (c.in-Err-Refused.ensures.carries db d x h has same))

pub returns-in-Err-Halted : goal.returns-in-Err-Halted
returns-in-Err-Halted g c = λ db d x h has same.
    let o = recorded (defined (lists_of db) (data_of db) c.args.s d (editions_in_use db) c.args.what.now c.args.text.now) (used_by db.records) in
    subst (λ w. GaveUp (g.K.Keep.as_keeper c.args.current.now.world.keeper) (g.K.Keep.as_keeper c.define.new.current.world.keeper) o.made w) (sym c.in-Err-Halted.why-is)
    (subst (λ f. Carries g.K.Keep.as_keeper c.args.current.now c.define.new.current (Err f) db o) c.in-Err-Halted.field-0-is (c.in-Err-Halted.ensures.carries db d x h has same))
