-- The bytes of a key, one value after the other.
use Rattle.std.proofs.Common.{◌≡◌, ℕ, ◌+◌, ◌<◌, List, [], ◌∷◌, ◌++◌, None, get_or, length, take, refl, sym, ap, ◌∙◌, arith}
use Rattle.std.proofs.lemmas.List.{append-nil, map-append, take_more}
use Rattle.std.proofs.lemmas.List.Concat.{flat_map-append}
use Rattle.ebr_base.specs.declared.value.Value.{Value}
use Rattle.ebr_versions.specs.Keys.{key_of, value_at}
use Rattle.ebr_versions.specs.inside.Print.{value_bytes, key_bytes, number_in, one_number}

pub one_value : (key : List Value) (d : Value) → length key ≡ 1 → number_in (get_or key 0 d) ≡ one_number key
one_value [] d e = absurd (omega (arith, e))
one_value (v ∷ []) d e = refl
one_value (v ∷ w ∷ vs) d e = absurd (omega (arith, e))

pub more_values : (key : List Value) → (length key ≡ 1 → ⊥) → None ≡ one_number key
more_values [] n = refl
more_values (v ∷ []) n = absurd (n refl)
more_values (v ∷ w ∷ vs) n = refl

pub one_place : (places : List ℕ) (values : List Value) (d : ℕ) → length places ≡ 1 → number_in (value_at values (get_or places 0 d)) ≡ one_number (key_of places values)
one_place [] values d e = absurd (omega (arith, e))
one_place (p ∷ []) values d e = refl
one_place (p ∷ q ∷ ps) values d e = absurd (omega (arith, e))

pub more_places : (places : List ℕ) (values : List Value) → (length places ≡ 1 → ⊥) → None ≡ one_number (key_of places values)
more_places [] values n = refl
more_places (p ∷ []) values n = absurd (n refl)
more_places (p ∷ q ∷ ps) values n = refl

-- one more value
bytes_push : (key : List Value) (v : Value) → key_bytes (key ++ v ∷ []) ≡ key_bytes key ++ value_bytes v
bytes_push key v = flat_map-append value_bytes key (v ∷ []) ∙ ap (λ (bs : List ℕ). key_bytes key ++ bs) (append-nil (value_bytes v))

pub bytes_more : (key : List Value) (i : ℕ) (v : Value) → i < length key → get_or key i v ≡ v → key_bytes (take i key) ++ value_bytes v ≡ key_bytes (take (i + 1) key)
bytes_more key i v l e = sym (ap key_bytes (take_more key i v l ∙ ap (λ (w : Value). take i key ++ w ∷ []) e) ∙ bytes_push (take i key) v)

pub places_more : (places : List ℕ) (values : List Value) (i d : ℕ) → i < length places
    → key_bytes (key_of (take i places) values) ++ value_bytes (value_at values (get_or places i d)) ≡ key_bytes (key_of (take (i + 1) places) values)
places_more places values i d l =
    sym (ap (λ (ps : List ℕ). key_bytes (key_of ps values)) (take_more places i d l)
    ∙ ap key_bytes (map-append (value_at values) (take i places) (get_or places i d ∷ [])) ∙ bytes_push (key_of (take i places) values) (value_at values (get_or places i d)))
