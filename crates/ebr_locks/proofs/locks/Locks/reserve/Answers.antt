use Rattle.std.proofs.Common.{◌≡◌, ◌<◌, false, List, length, ◌∙◌, arith}
use Rattle.ebr_base.specs.declared.numbers.TheConstants.{MAX_COUNT}
use Rattle.ebr_locks.specs.Locks.{Lock, AreLocks, is_locked}
use Rattle.ebr_locks.proofs.FiledLemmas.{nobody}
use Rattle.ebr_locks.proofs.PlaceLemmas.{placed_none, placed_more}
use Rattle.ebr_locks.proofs.locks.Locks.reserve.Goals as goal

pub invariant_of-self-then-is_some : goal.invariant_of-self-then-is_some
invariant_of-self-then-is_some c = placed_none c.self.inside.list c.give_back.new.list c.self.inside.place c.self.invariant c.give_back.ensures

pub push-requires-clause-free : goal.push-requires-clause-free
push-requires-clause-free c = nobody c.args.row c.give_back.new.list c.holder.result c.is_some.result c.holder.ensures c.is_some.ensures c.if-is_some.false

pub invariant_of-self-in_err-push : goal.invariant_of-self-in_err-push
invariant_of-self-in_err-push c = placed_none c.self.inside.list c.push.new.self c.self.inside.place c.self.invariant (c.in_err-push.ensures.err ∙ c.give_back.ensures)

pub invariant_of-self-2 : goal.invariant_of-self-2
invariant_of-self-2 c =
    let taken : List Lock = c.give_back.new.list in
    let free : is_locked c.args.row taken ≡ false = nobody c.args.row taken c.holder.result c.is_some.result c.holder.ensures c.is_some.ensures c.if-is_some.false in
    let few : length taken < MAX_COUNT = omega (arith, c.if-len-ge-MAX_COUNT.false, c.len.ensures) in
    let locks : AreLocks taken = (placed_none c.self.inside.list taken c.self.inside.place c.self.invariant c.give_back.ensures).locks in
    placed_more taken c.push.new.self (c.args.row, c.args.tx) c.in_ok-push.ensures.ok free few locks
