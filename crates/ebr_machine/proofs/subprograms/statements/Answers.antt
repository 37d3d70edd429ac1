use Rattle.std.proofs.Common.{◌≡◌, length, rules, arith}
use Rattle.ebr_machine.proofs.Over.{guarded_alone}
use Rattle.ebr_machine.proofs.subprograms.statements.Goals as goal

pub returns-else-len-gt0 : goal.returns-else-len-gt0
returns-else-len-gt0 c e =
    let l : c.len.result ≡ length c.in-Guard.handlers = search rules in
    let none : length c.in-Guard.handlers ≡ 0 = omega (arith, l) in
    guarded_alone c.args.code.now c.in-Guard.body c.args.only.now c.in-Guard.field-1 c.in-Guard.handlers e c.in-Guard.is none
