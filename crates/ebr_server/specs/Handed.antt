-- What a run hands back, as the program's definitions see it.
use Rattle.std.specs.Prelude.{ℕ, List, Option}
use Rattle.ebr_server.specs.declared.command.Outcome.{Outcome}
use Rattle.ebr_server.specs.Program.{Handed}

-- of the report how often a write failed and what it holds, where it tells
abbrev pub handed : {C S R D : Type 0} → (R → ℕ) → (R → Option (List ℕ)) → Outcome C S R D → Handed S D
handed faults held x = record { code = x.code; recovered = x.recovered; history = x.history; ends = x.ends; sinks = x.sinks; disk = x.disk; faults = faults x.report; held = held x.report }
