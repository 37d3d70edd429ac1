use Rattle.std.proofs.Common.{sym, ap, ◌∙◌}
use Rattle.ebr_sqlcheck.specs.inside.Found.{has_column}
use Rattle.ebr_sqlcheck.specs.inside.Found.{with_last}
use Rattle.ebr_sqlcheck.proofs.ByName.{one_more}
use Rattle.ebr_sqlcheck.proofs.lookup.columns_of.Goals as goal

pub loop-at-preserved : goal.loop-at-preserved
loop-at-preserved c = λ n.
    c.in_ok-add_columns.ensures n
    ∙ ap (with_last (has_column n c.index-list-at.result) c.loop-at.at) (c.loop-at.invariant n)
    ∙ sym (one_more (has_column n) c.args.list.now c.loop-at.at c.index-list-at.result c.loop-at-test.true c.index-list-at.is)
