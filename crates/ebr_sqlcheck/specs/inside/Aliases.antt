-- The aliases of sources, as a set holds them.
use Rattle.std.specs.Prelude.{◌≡◌, ℕ, List, map}
use Rattle.std.specs.Borrow.{Bor}
use Rattle.ebr_sqlcheck.specs.Sources.{Relation}

-- the keys are the aliases of sources, in order
abbrev pub HasAliases : List Relation → List (Bor (List ℕ)) → Type 0
HasAliases before keys = map (λ (k : Bor (List ℕ)). k.now) keys ≡ map (λ (r : Relation). r.alias) before
