use Rattle.std.proofs.Common.{sym, ap, subst, ◌∙◌}
use Rattle.std.proofs.lemmas.Result.{err_from_is_err_and}
use Rattle.std.specs.Prelude.{Ok, Err}
use Rattle.ebr_record.specs.Keeper.{used_by}
use Rattle.ebr_core.specs.Machine.{lists_of, recorded}
use Rattle.ebr_core.specs.inside.Defining.{Carries}
use Rattle.ebr_core.proofs.Carrying.{carried, carried_short, not_carried, with_keeper}
use Rattle.ebr_core.proofs.define.keep_and_apply.Goals as goal

pub returns-in_err-keep_planned : goal.returns-in_err-keep_planned
returns-in_err-keep_planned g c = λ db h made.
    let p = err_from_is_err_and c.from_residual.result c.from_residual.ensures.1 in
    subst (λ r. Carries g.K.Keep.as_keeper c.args.current.now (with_keeper c.args.current.now c.keep_planned.new.keeper) r db (recorded (Ok c.args.planned.now) (used_by db.records)))
    (sym (p.1 ∙ ap (λ f. Err f) p.2))
    (not_carried g.K.Keep.as_keeper c.args.current.now db h c.args.planned.now c.keep_planned.new.keeper c.in_err-keep_planned.field-0.0 c.in_err-keep_planned.ensures)

pub returns-in_err-apply : goal.returns-in_err-apply
returns-in_err-apply g c = λ db h made.
    carried_short g.K.Keep.as_keeper c.args.current.now db h c.args.planned.now c.keep_planned.new.keeper c.apply.new.current c.in_err-apply.ensures.keeper c.in_ok-keep_planned.ensures
    c.from_residual-in_err-apply.result c.from_residual-in_err-apply.ensures.1

pub returns : goal.returns
returns g c = λ db h made.
    carried g.K.Keep.as_keeper c.args.current.now db h c.args.planned.now c.keep_planned.new.keeper c.apply.new.current c.in_ok-apply.ensures.keeper c.in_ok-keep_planned.ensures made
    (c.in_ok-apply.ensures.applied (lists_of db) h.own_keys h.views_are h.books_are h.catalogue_is)
