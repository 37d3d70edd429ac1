-- Places in texts, counted in bytes from 1.
use Rattle.std.specs.Prelude.{◌≡◌, ℕ, zero, suc, ◌<◌, ℤ, pos, negsuc, ◌+ℤ◌, ◌+◌, int_le, Bool, ◌&&◌, if◌then◌else◌, nat_eq, List, [], ◌∷◌, ◌++◌, length, Option, Some, None}
use Rattle.std.specs.Option.{option_map}
use Rattle.std.specs.List.{starts_with}

-- The place where a part of a text of n bytes begins: 0 counts as 1, and a negative one counts from the end.
abbrev pub start : ℕ → ℤ → ℤ
start n (pos zero) = pos 1
start n (pos (suc p)) = pos (suc p)
start n (negsuc p) = pos (n + 1) +ℤ negsuc p

-- Whether it is a place of a text of n bytes.
abbrev pub is_place : ℕ → ℤ → Bool
is_place n s = int_le (pos 1) s && int_le s (pos n)

-- how many bytes stand before the first suffix that passes
abbrev pub first_place : (List ℕ → Bool) → List ℕ → Option ℕ
first_place test [] = if test [] then Some 0 else None
first_place test (b ∷ bs) = if test (b ∷ bs) then Some 0 else option_map (λ n. n + 1) (first_place test bs)

-- y stands in the text at place n: n - 1 bytes come before it, and some or none behind it.
abbrev pub StandsAt : List ℕ → List ℕ → ℕ → Type 0
StandsAt text y n = (before after : List ℕ) × (text ≡ before ++ (y ++ after)) × (n ≡ length before + 1)

-- y stands at place n and at none before; 0 says that it stands nowhere.
abbrev pub IsFirstPlace : List ℕ → List ℕ → ℕ → Type 0
IsFirstPlace text y zero = (m : ℕ) → StandsAt text y m → ⊥
IsFirstPlace text y (suc n) = StandsAt text y (suc n) × ((m : ℕ) → m < suc n → StandsAt text y m → ⊥)

-- The first place of y in a text, and 0 where there is none.
abbrev pub counted : Option ℕ → ℕ
counted None = 0
counted (Some n) = n + 1

abbrev pub place_of : List ℕ → List ℕ → ℕ
place_of text y = counted (first_place (λ rest. starts_with nat_eq rest y) text)
