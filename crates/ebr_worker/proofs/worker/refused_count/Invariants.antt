use Rattle.std.proofs.Common.{◌≡◌, ◌≤◌, take}
use Rattle.std.specs.List.{count_by}
use Rattle.ebr_worker.specs.Ends.{is_refused}
use Rattle.ebr_worker.proofs.worker.refused_count.Given as goal

-- those so far that were refused
abbrev pub invariant-loop-exchange : goal.invariant-loop-exchange
invariant-loop-exchange l = record {
  same : l.count ≡ count_by is_refused (take l.exchange-index l.transcript);
  within : l.count ≤ l.exchange-index;
}
