use Rattle.std.proofs.Common.{Bool, rules}
use Rattle.std.specs.Ordering.{is_lt}
use Rattle.std.proofs.lemmas.Fn.{always_returns_same}
use Rattle.std.proofs.lemmas.List.Sorted.{ranks_by}
use Rattle.ebr_query.specs.declared.order.KeyedRow.{KeyedRow}
use Rattle.ebr_query.specs.Order.{keys_order}
use Rattle.ebr_query.proofs.Ranks.{keys_total}
use Rattle.ebr_query.proofs.Sorting.{sorted-is}
use Rattle.ebr_query.proofs.order.in_order.Goals as goal

pub returns : goal.returns
returns c =
    let flags = c.args.descending.now in
    let before : KeyedRow → KeyedRow → Bool = λ a b. is_lt (keys_order flags a.keys b.keys) in
    let o = ranks_by (keys_total flags) (λ (k : KeyedRow). k.keys) in
    sorted-is before o _ _ (c.in_ok-sort_by.ensures.sorted before o (always_returns_same _ _ _ (λ a r f called. search rules)))
    (c.sort_by.ensures.stable before o (always_returns_same _ _ _ (λ a r f called. search rules)))
