use Rattle.std.specs.Int.{w64}
use Rattle.std.proofs.lemmas.Int.{to_z-of_z}
use Rattle.ebr_value.proofs.Places.{part_made}
use Rattle.ebr_value.proofs.part.part.Goals as goal

pub returns-in_ok-from_slice-in-Some : goal.returns-in_ok-from_slice-in-Some
returns-in_ok-from_slice-in-Some c =
    let p = to_z-of_z w64 c.args.p c.ranges.p in
    let n = to_z-of_z w64 c.args.c c.ranges.c in
    part_made c.args.text.now c.rest_from-rest.result.now c.in_ok-from_slice-in-Some.field-0 c.args.p c.args.c c.in-Some.skipped c.min-count.result c.unsigned_abs.result c.text.result
    c.text.ensures c.in_ok-from_slice-in-Some.ensures c.rest_from-rest.ensures c.min-count.ensures (rw n at c.unsigned_abs.ensures.value) (rw p at c.in-Some.ensures) (rw n at c.if-c-gt0.true)
