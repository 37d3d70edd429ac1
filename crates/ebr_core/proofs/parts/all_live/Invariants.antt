use Rattle.std.proofs.Common.{◌≡◌, true}
use Rattle.std.specs.Prelude.{replicate}
use Rattle.ebr_core.proofs.parts.all_live.Given as goal

-- the sessions so far
abbrev pub invariant-loop-turn : goal.invariant-loop-turn
invariant-loop-turn l = l.living.items ≡ replicate l._turn true
