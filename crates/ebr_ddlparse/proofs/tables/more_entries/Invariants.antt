use Rattle.std.proofs.Common.{◌≡◌, ◌-◌, map}
use Rattle.ebr_ddlparse.specs.Tables.{the_column}
use Rattle.ebr_ddlparse.proofs.Entries.{from, Total}
use Rattle.ebr_ddlparse.proofs.tables.more_entries.Given as goal

abbrev pub invariant-loop-turn : goal.invariant-loop-turn
invariant-loop-turn l = from (l._turn-end - l._turn) (map the_column l.columns) l.tokens ≡ Total l.fn.first l.fn.tokens
