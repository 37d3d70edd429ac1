-- How words are told apart one after the other.
use Rattle.std.specs.Prelude.{ℕ, Bool, true, not, ◌&&◌, List, [], ◌∷◌, ◌++◌}
use Rattle.std.specs.List.{list_any}
use Rattle.std.specs.Str.{bytes_eq}

-- Each word differs from those behind it, and from the others.
abbrev pub each_apart : List (List ℕ) → List (List ℕ) → Bool
each_apart [] others = true
each_apart (w ∷ words) others = not (list_any (bytes_eq w) (words ++ others)) && each_apart words others
