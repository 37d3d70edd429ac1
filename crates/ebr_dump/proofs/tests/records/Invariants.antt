use Rattle.std.specs.Prelude.{All}
use Rattle.ebr_record.specs.Payload.{HasPayload}
use Rattle.ebr_dump.proofs.tests.records.Given as goal

abbrev pub invariant-loop-at : goal.invariant-loop-at
invariant-loop-at l = All HasPayload l.records
