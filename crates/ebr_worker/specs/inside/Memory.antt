-- A keeper in memory, as the engine sees it.
use Rattle.std.specs.Prelude.{Bool, true, false, List, [], length, Some}
use Rattle.ebr_record.specs.declared.record.Record.{Record}
use Rattle.ebr_record.specs.Keeper.{Keeper, used_by}
use Rattle.ebr_record.specs.InMemory.{LeftSince}

-- The records that it has kept, and whether it found no memory for one.
pub record Kept : Type 0 where
  pub records : List Record
  pub stopped : Bool

abbrev pub nothing_kept : Kept
nothing_kept = record { records = []; stopped = false }

-- what it tells as a keeper: all of it, and that no disk failed
abbrev pub as_keeper : Kept → Keeper
as_keeper k = record {
  records = Some k.records;
  used = used_by k.records;
  faults = 0;
  stopped = k.stopped;
  moment = length k.records;
  tells = true;
  may_leave = LeftSince k.records;
}
