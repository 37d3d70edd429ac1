use Rattle.std.proofs.Common.{◌≡◌, ◌++◌, drop, map}
use Rattle.std.specs.List.{flat_map}
use Rattle.ebr_dump.specs.Dump.{Dump, editions_in, ended, line_of, tables_in}
use Rattle.ebr_dump.proofs.lines.dump.Given as goal

-- the lines so far, and those of the records that are left
abbrev pub invariant-loop-r : goal.invariant-loop-r
invariant-loop-r l = l.text ++ flat_map ended (map (line_of (editions_in l.records) (tables_in l.records)) (drop l.r-index l.records)) ≡ Dump l.records
