-- Handlers whose exceptions stand with their full names.
use Rattle.std.proofs.Common.{◌≡◌, ◌&&◌, not, List, [], ◌∷◌, map, refl, ap, ◌∙◌}
use Rattle.ebr_ast.specs.declared.statement.Caught.{Caught}
use Rattle.ebr_ast.specs.declared.statement.Caught.TheVariants as caught
use Rattle.ebr_scope.specs.Around.{Env}
use Rattle.ebr_validity.specs.Rules.{is_others, others_is_last}
use Rattle.ebr_validity.specs.Statements.{caught_in_full}

same_others : (e : Env) (c : Caught) → is_others (caught_in_full e c) ≡ is_others c
same_others e caught.Others = refl
same_others e (caught.Named paths) = refl

-- OTHERS is the last one where it was
pub same_last : (e : Env) (cs : List Caught) → others_is_last (map (caught_in_full e) cs) ≡ others_is_last cs
same_last e [] = refl
same_last e (c ∷ []) = refl
same_last e (c ∷ d ∷ cs) =
    ap (λ b. not b && others_is_last (map (caught_in_full e) (d ∷ cs))) (same_others e c) ∙ ap (λ b. not (is_others c) && b) (same_last e (d ∷ cs))
