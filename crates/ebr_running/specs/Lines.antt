-- Lines that were printed.
use Rattle.std.specs.Prelude.{◌≡◌, ℕ, List, ◌++◌}

-- the second ones begin with the first ones
pub record Extends (before after : List (List ℕ)) : Type 0 where
  pub rest : List (List ℕ)
  pub whole : after ≡ before ++ rest
