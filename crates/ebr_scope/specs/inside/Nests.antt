-- Where the innermost of a name stands in a nest, and how the code's map stands to it.
use Rattle.std.specs.Prelude.{ℕ, List, [], ◌∷◌, Bool, ◌&&◌, cond, map, Option, Some, None, ◌≡◌}
use Rattle.std.specs.Map.{lookup, set_value}
use Rattle.std.specs.Str.{bytes_eq}
use Rattle.ebr_scope.specs.declared.nest.Nested as inside
use Rattle.ebr_scope.specs.Nests.{Key, place}

abbrev pub key : inside.Nested → Key
key e = (e.name.now, e.counts)

-- the entries of the map
abbrev pub Places : Type 0
Places = List (List ℕ × Option ℕ)

-- what the map has of a name; a name of which none is left may stay in it
abbrev pub joined : Option (Option ℕ) → Option ℕ
joined None = None
joined (Some at) = at

abbrev pub place_in : Places → List ℕ → Option ℕ
place_in places n = joined (lookup (bytes_eq n) places)

-- each keeps the place of the one of its name that it hides
abbrev pub Hides : List inside.Nested → Type 0
Hides [] = Unit
Hides (e ∷ es) = (e.hides ≡ place e.name.now (map key es)) × Hides es

pub record IsNest (places : Places) (nested : List inside.Nested) : Type 0 where
  pub found : (n : List ℕ) → place_in places n ≡ place n (map key nested)
  pub hidden : Hides nested

-- the map after a name was put at a place
abbrev pub Notes : List ℕ → Bool → ℕ → Places → Places → Type 0
Notes name counts at old new = (n : List ℕ) → lookup (bytes_eq n) new ≡ cond (counts && bytes_eq name n) (Some (Some at)) (lookup (bytes_eq n) old)

-- the map after the innermost one was taken away
abbrev pub restored : inside.Nested → Places → Places
restored e places = cond e.counts (set_value (bytes_eq e.name.now) places e.hides) places
