use Rattle.std.proofs.Common.{◌≡◌, length, Some, slice_get, rules, arith}
use Rattle.ebr_machine.proofs.Over.{only_one}
use Rattle.ebr_machine.proofs.subprograms.unguarded.Goals as goal

pub returns : goal.returns
returns c =
    let e : Some c.in-Some.first.now ≡ slice_get c.args.code.now 0 = search rules in
    let l : c.len.result ≡ length c.args.code.now = search rules in
    let one : length c.args.code.now ≡ 1 = omega (arith, l) in
    c.statements.ensures (only_one c.args.code.now c.in-Some.first.now e one)
