-- The first rule that is broken, by going from place to place with the least number so far.
use Rattle.std.specs.Prelude.{ℕ, Bool, true, false, min, List, [], ◌∷◌, Option, Some, None}
use Rattle.ebr_validity.specs.Sites.{Site}
use Rattle.ebr_validity.specs.Rules.{Rule, rules}

-- the lesser of the number of a rule and that of another, if there is one
abbrev pub lesser : Option ℕ → ℕ → ℕ
lesser None k = k
lesser (Some j) k = min j k

abbrev pub lower : ℕ → Bool → Option ℕ → Option ℕ
lower k true l = l
lower k false l = Some (lesser l k)

abbrev pub judged : List Rule → Site → Option ℕ → Option ℕ
judged [] s l = l
judged (r ∷ rs) s l = judged rs s (lower r.0 (r.1 s) l)

abbrev pub noted : List Site → Option ℕ → Option ℕ
noted [] l = l
noted (s ∷ ss) l = noted ss (judged rules s l)
