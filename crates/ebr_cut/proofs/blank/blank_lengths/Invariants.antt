use Rattle.std.proofs.Common.{◌≡◌, ◌+◌, ◌-◌, length, drop}
use Rattle.ebr_cut.specs.inside.Ahead.{Sees}
use Rattle.ebr_cut.proofs.Lengths.{KnowsLast}
use Rattle.ebr_cut.proofs.blank.blank_lengths.Given as goal

-- the lengths of the last rests, and what stands ahead of the place
abbrev pub invariant-loop-count : goal.invariant-loop-count
invariant-loop-count l = record {
  known : KnowsLast l.count l.lengths l.script;
  long : length l.lengths ≡ l.count + 1;
  seen : Sees (drop (length l.script - l.count) l.script) l.seen;
}
