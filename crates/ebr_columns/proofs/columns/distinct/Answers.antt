use Rattle.std.proofs.Common.{rules, ◌≡◌, true, false, sym, ◌∙◌}
use Rattle.ebr_columns.proofs.Distinct.{found-twice, one-more-once}
use Rattle.ebr_columns.proofs.columns.distinct.Goals as goal

pub returns-then-not-branch : goal.returns-then-not-branch
returns-then-not-branch c =
    let there : c.in_ok-insert.field-0 ≡ false = search rules in
    found-twice c.args.names.now c.loop-name.name-index c.loop-name.set.keys c.name-item.result c.in_ok-clone_in.field-0 c.loop-name-test.true c.loop-name.invariant c.in_ok-clone_in.ensures c.name-item.is
    (sym there ∙ c.in_ok-insert.ensures.added)

pub loop-name-preserved : goal.loop-name-preserved
loop-name-preserved c =
    let added : c.in_ok-insert.field-0 ≡ true = search rules in
    one-more-once c.args.names.now c.loop-name.name-index c.loop-name.set.keys c.insert.new.self.keys c.name-item.result c.in_ok-clone_in.field-0 c.loop-name-test.true c.loop-name.invariant c.in_ok-clone_in.ensures c.name-item.is
    (sym added ∙ c.in_ok-insert.ensures.added) c.in_ok-insert.ensures.keys
