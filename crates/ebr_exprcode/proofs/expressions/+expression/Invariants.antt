use Rattle.std.proofs.Common.{◌≡◌, ◌++◌, drop, map}
use Rattle.ebr_code.specs.Codes.{expr_code, term_code, further_code, summed_code, among_code, listed}
use Rattle.ebr_exprcode.proofs.expressions.+expression.Given as goal

abbrev pub invariant-further-loop-e : goal.invariant-further-loop-e
invariant-further-loop-e l =
    l.out ++ further_code l.op (map expr_code (drop l.e-index l.e-items)) l.around ≡ l.initial.out ++ further_code l.op (map expr_code l.e-items) l.around

abbrev pub invariant-summed-loop-addend : goal.invariant-summed-loop-addend
invariant-summed-loop-addend l =
    l.out ++ summed_code (map term_code (drop l.addend-index l.addend-items)) l.around ≡ l.initial.out ++ summed_code (map term_code l.addend-items) l.around

abbrev pub invariant-among-loop-e : goal.invariant-among-loop-e
invariant-among-loop-e l =
    l.out ++ among_code (map expr_code (drop l.e-index l.e-items)) l.around ≡ l.initial.out ++ among_code (map expr_code l.e-items) l.around

abbrev pub invariant-operands-loop-e : goal.invariant-operands-loop-e
invariant-operands-loop-e l =
    l.out ++ listed (map expr_code (drop l.e-index l.e-items)) l.around ≡ l.initial.out ++ listed (map expr_code l.e-items) l.around
