-- One element more of a list in which a statement of SQL has names.
use Rattle.std.proofs.Common.{◌≡◌, List, ◌∷◌, map, Option, ℕ, refl}
use Rattle.ebr_sqlcheck.specs.Sources.{Relation}
use Rattle.ebr_scope.specs.Around.{Env}
use Rattle.ebr_validity.specs.Embedded.{InSql, each}
use Rattle.ebr_rules.specs.Noted.{noted}
use Rattle.ebr_rules.proofs.Laws.{more}

pub each_more : {X : Type 0} (f : X → InSql) (relations : List Relation) (env : Env) (items rest : List X) (x : X) (l l' r : Option ℕ)
    → items ≡ x ∷ rest → noted (each (map f items) relations env) l ≡ r → l' ≡ noted (f x relations env) l → noted (each (map f rest) relations env) l' ≡ r
each_more f relations env = more (λ xs. each (map f xs) relations env) (λ x. f x relations env) (λ x xs. refl)
