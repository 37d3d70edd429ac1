use Rattle.std.proofs.Common.{◌≡◌, ◌+◌, ◌∷◌, [], drop, refl, arith, rules}
use Rattle.std.proofs.lemmas.Grind.{common_steps}
use Rattle.ebr_scope.specs.Lent.{env}
use Rattle.ebr_scope.specs.Names.{raised}
use Rattle.ebr_validity.specs.Sites.{Raises}
use Rattle.ebr_rules.proofs.Laws.{more}
use Rattle.ebr_validity.specs.Statements.{catches}
use Rattle.ebr_check.proofs.statement.catches.Goals as goal

pub loop-path-preserved : goal.loop-path-preserved
loop-path-preserved c =
    let e : drop c.loop-path.path-index c.args.list.now ≡ c.path-item.result ∷ drop (c.loop-path.path-index + 1) c.args.list.now = grind (arith, common_steps) in
    more (λ ps. catches ps (env c.args.place.now c.args.known.now)) (λ p. Raises (raised c.args.place.now.seen.now.view c.args.known.now p) ∷ []) (λ x xs. refl)
    _ _ _ _ _ _ e c.loop-path.invariant (search rules)
