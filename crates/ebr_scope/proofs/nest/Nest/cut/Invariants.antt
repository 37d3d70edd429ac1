use Rattle.std.proofs.Common.{◌≡◌, ◌-◌, drop, length}
use Rattle.ebr_scope.proofs.nest.Nest.cut.Given as goal

abbrev pub invariant-loop-turn : goal.invariant-loop-turn
invariant-loop-turn l = drop (l._turn-end - l._turn) l.self ≡ drop (length l.initial.self - l.fn.depth) l.initial.self
