use Rattle.std.proofs.Common.{◌≡◌, ◌++◌, drop}
use Rattle.std.specs.List.{filter_map}
use Rattle.ebr_exec.specs.Places.{source_table}
use Rattle.ebr_statements.proofs.tables.sources.Given as goal

abbrev pub invariant-loop-source : goal.invariant-loop-source
invariant-loop-source l = l.tables ++ filter_map (source_table l.v) (drop l.source-index l.from) ≡ filter_map (source_table l.v) l.from
