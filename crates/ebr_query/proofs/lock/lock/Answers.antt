use Rattle.std.proofs.Common.{◌≡◌, ◌+◌, List, drop, arith, rules}
use Rattle.std.proofs.lemmas.Grind.{common_steps}
use Rattle.ebr_base.specs.declared.value.Value.{Value}
use Rattle.ebr_tx.specs.Data.{names_of, own}
use Rattle.ebr_query.specs.Queries.{with_locks, AddsLocks}
use Rattle.ebr_query.proofs.Added.{more-added}
use Rattle.ebr_query.proofs.lock.lock.Goals as goal

pub loop-row-preserved : goal.loop-row-preserved
loop-row-preserved c =
    let first = c.args.tx.now.contents in
    let before = c.loop-row.tx.contents in
    let after = c.lock.new.self.contents in
    let t = c.args.t in
    let k = c.loop-row.invariant in
    let a : (values : List (List Value)) → with_locks values t after (drop (c.loop-row.row-index + 1) c.args.rows.now) ≡ with_locks values t first c.args.rows.now = grind (arith, common_steps) in
    let b : names_of after.live ≡ names_of first.live = search rules in
    let d : (own after t).begun ≡ (own first t).begun = search rules in
    let l : AddsLocks first t after = more-added first before after t _ k.3 c.in_ok-lock.ensures.locked in
    (a, b, d, l)
