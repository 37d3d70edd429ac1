use Rattle.std.proofs.Common.{◌≡◌, not, ◌&&◌, is_some, take, count_by}
use Rattle.ebr_base.specs.Keys.{same_key}
use Rattle.ebr_editions.specs.inside.Held.{held_visible}
use Rattle.ebr_editions.proofs.actuals.Actuals.others.Given as goal

-- the count of those among the keys so far
abbrev pub invariant-loop-k : goal.invariant-loop-k
invariant-loop-k g l = l.count ≡ count_by (λ k. not (same_key k l.key) && is_some (held_visible l.chain.made l.self l.e k)) (take l.k-index l.k-items)
