use Rattle.std.proofs.Common.{◌-◌, List, drop, min, ap, sym, subst, ◌∙◌}
use Rattle.std.specs.Prelude.{sum_by}
use Rattle.ebr_base.specs.declared.row.Change.{Change}
use Rattle.ebr_tx.specs.Limits.{change_length}
use Rattle.ebr_tx.specs.inside.Filed.{IsCounted}
use Rattle.ebr_tx.proofs.Counting.{undone_fits, counted_cut}
use Rattle.ebr_tx.proofs.transaction.cut.Goals as goal

pub overflow_sub-result : goal.overflow_sub-result
overflow_sub-result c =
    undone_fits c.args.changes.now.changes c.args.length c.args.n c.min-kept.result c.changes_length-undone.result c.requires
    (c.min-kept.ensures ∙ ap (λ m. min m c.args.n) c.len.ensures.changes)
    (c.changes_length-undone.ensures ∙ ap (λ (cs : List Change). min 134217729 (sum_by change_length cs)) (c.rest_from.ensures ∙ ap (drop c.min-kept.result) c.as_slice.ensures))

pub returns-clause-counted : goal.returns-clause-counted
returns-clause-counted c =
    subst (IsCounted (c.args.length - c.changes_length-undone.result)) (sym c.cut.ensures.changes)
    (counted_cut c.args.changes.now.changes c.args.length c.args.n c.min-kept.result c.changes_length-undone.result c.requires
    (c.min-kept.ensures ∙ ap (λ m. min m c.args.n) c.len.ensures.changes)
    (c.changes_length-undone.ensures ∙ ap (λ (cs : List Change). min 134217729 (sum_by change_length cs)) (c.rest_from.ensures ∙ ap (drop c.min-kept.result) c.as_slice.ensures)))
