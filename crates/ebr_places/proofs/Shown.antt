-- A declared name as contracts see it, and what the checks know of it.
use Rattle.std.proofs.Common.{◌≡◌, List, [], ◌∷◌, map, refl, ap}
use Rattle.ebr_run.specs.Scope.{Named, entry_of}
use Rattle.ebr_places.specs.declared.names.Entry as inside
use Rattle.ebr_places.specs.Lent.{lent}
use Rattle.ebr_places.specs.inside.Kept.{known_entry}

abbrev pub shown : inside.Entry → Named
shown e = record { entry = known_entry e; denoted = lent e.denoted }

-- what the checks know of all of them
pub all_told : (es : List inside.Entry) → map known_entry es ≡ map entry_of (map shown es)
all_told [] = refl
all_told (e ∷ es) = ap (λ l. known_entry e ∷ l) (all_told es)
