use Rattle.std.proofs.Common.{◌≡◌, ◌++◌, drop}
use Rattle.ebr_code.specs.Codes.{listed, arguments_code}
use Rattle.ebr_exprcode.proofs.calls.arguments.Given as goal

abbrev pub invariant-loop-e : goal.invariant-loop-e
invariant-loop-e l = l.out ++ listed (arguments_code (drop l.e-index l.e-items) l.rest) l.around ≡ l.initial.out ++ listed (arguments_code l.e-items l.fn.parameters) l.around
