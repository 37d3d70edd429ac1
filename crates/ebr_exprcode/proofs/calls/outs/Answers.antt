use Rattle.std.proofs.Common.{◌≡◌, ◌+◌, ◌∷◌, drop, arith, rules}
use Rattle.std.proofs.lemmas.Grind.{common_steps}
use Rattle.ebr_run.specs.Statements.{outs}
use Rattle.ebr_exprcode.specs.inside.Arguments.{first_mode, out_of}
use Rattle.ebr_exprcode.proofs.Laws.{more_with}
use Rattle.ebr_exprcode.proofs.Procedures.{outs_step}
use Rattle.ebr_exprcode.proofs.calls.outs.Goals as goal

pub loop-e-preserved : goal.loop-e-preserved
loop-e-preserved c =
    let e : drop c.loop-e.e-index c.as_slice-e-items.result.now ≡ c.e-item.result ∷ drop (c.loop-e.e-index + 1) c.as_slice-e-items.result.now = grind (arith, common_steps) in
    more_with (λ ps es. outs c.args.around.now es ps) (λ ps x. out_of (first_mode ps) c.args.around.now x) (λ ps x. drop 1 ps) (outs_step c.args.around.now)
    _ _ _ _ _ _ _ _ e c.loop-e.invariant (search rules) (search rules)
