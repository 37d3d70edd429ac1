use Rattle.std.proofs.Common.{◌≡◌, ◌++◌, take}
use Rattle.ebr_memory.specs.Levels.{with_top}
use Rattle.ebr_memory.proofs.stacks.Stacks.push_copies.Given as goal

abbrev pub invariant-loop-at : goal.invariant-loop-at
invariant-loop-at g l = with_top (take l.at l.items ++ l.self.top) l.self ≡ with_top (l.items ++ l.initial.self.top) l.initial.self
