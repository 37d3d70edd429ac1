use Rattle.std.proofs.Common.{◌≡◌, ◌++◌, drop}
use Rattle.std.specs.List.{filter_map}
use Rattle.ebr_dump.specs.Dump.{edition_made}
use Rattle.ebr_dump.specs.inside.Lent.{lent_names}
use Rattle.ebr_dump.proofs.names.edition_names.Given as goal

-- the names so far, and those of the records that are left
abbrev pub invariant-loop-r : goal.invariant-loop-r
invariant-loop-r l = lent_names l.names.items ++ filter_map edition_made (drop l.r-index l.records) ≡ filter_map edition_made l.records
