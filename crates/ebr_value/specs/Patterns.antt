-- The patterns of LIKE (Oracle Database SQL Language Reference 19c, Pattern-matching Conditions): `%` stands for any bytes
-- or none, `_` for any one byte, each other byte for itself. There is no escape character (own).
use Rattle.std.specs.Prelude.{◌≡◌, ℕ, Bool, true, false, ◌&&◌, ◌||◌, ◌⊎◌, if◌then◌else◌, ◌==◌, List, [], ◌∷◌, ◌++◌, length}
use Rattle.std.specs.Prelude.{Ok}
use Rattle.std.specs.List.{list_any}
use Rattle.ebr_base.specs.declared.value.Value.{Value}
use Rattle.ebr_base.specs.declared.value.Value.TheVariants as value
use Rattle.ebr_value.specs.Outcomes.{Outcome}
use Rattle.ebr_value.specs.Texts.{fits_text, null_if}

-- The bytes are some that one byte of a pattern stands for.
abbrev pub StandsFor : ℕ → List ℕ → Type 0
StandsFor p part = (p ≡ 37) ⊎ (((p ≡ 95) × (length part ≡ 1)) ⊎ (part ≡ p ∷ []))

-- The text is like the pattern: it is one part after the other, as many as the pattern has bytes, each one that its byte
-- stands for.
abbrev pub IsLike : List ℕ → List ℕ → Type 0
IsLike text [] = text ≡ []
IsLike text (p ∷ ps) = (part rest : List ℕ) × (text ≡ part ++ rest) × StandsFor p part × IsLike rest ps

-- a text, what is left of it without its first byte, without its first two, and so on down to nothing
abbrev pub suffixes : List ℕ → List (List ℕ)
suffixes [] = [] ∷ []
suffixes (b ∷ bs) = (b ∷ bs) ∷ suffixes bs

abbrev pub is_empty : List ℕ → Bool
is_empty [] = true
is_empty (b ∷ bs) = false

-- whether a text begins with a byte that p stands for, and what follows passes
abbrev pub after_one : ℕ → (List ℕ → Bool) → List ℕ → Bool
after_one p test [] = false
after_one p test (b ∷ bs) = (p == 95 || p == b) && test bs

-- Whether a text is like a pattern: what follows `%` is like some suffix.
abbrev pub like : List ℕ → List ℕ → Bool
like [] text = is_empty text
like (p ∷ ps) text = if p == 37 then list_any (like ps) (suffixes text) else after_one p (like ps) text

-- x LIKE y
abbrev pub likeness : Value → Value → Outcome
likeness (value.Text x) (value.Text y) = Ok (value.Bool (like y x))
likeness x y = null_if (fits_text x && fits_text y)
