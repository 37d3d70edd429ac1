-- Where the innermost of a name stands in a nest.
use Rattle.std.specs.Prelude.{ℕ, List, [], ◌∷◌, Bool, ◌&&◌, if◌then◌else◌, length, Option, Some, None}
use Rattle.std.specs.Str.{bytes_eq}

-- a name, with whether it is one to be found
abbrev pub Key : Type 0
Key = List ℕ × Bool

-- the place, counted from the outermost, of the innermost one of a name
abbrev pub place : List ℕ → List Key → Option ℕ
place n [] = None
place n (k ∷ ks) = if k.1 && bytes_eq n k.0 then Some (length ks) else place n ks
