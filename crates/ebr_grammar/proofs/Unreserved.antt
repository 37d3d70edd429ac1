-- A word that is not reserved is of the kind of a name.
use Rattle.std.proofs.Common.{◌≡◌, ℕ, Bool, true, false, List, [], ◌∷◌, length, refl, sym, ap, ◌∙◌, inl, inr}
use Rattle.std.specs.Prelude.{◌||◌, if◌then◌else◌, ◌==◌, map}
use Rattle.std.specs.List.{list_all}
use Rattle.std.specs.Str.{bytes_eq}
use Rattle.std.proofs.lemmas.Slice.Eq.{bytes_eq-Decides}
use Rattle.ebr_base.specs.Word.{is_reserved}
use Rattle.ebr_grammar.specs.declared.kind.Kind.{Kind}
use Rattle.ebr_grammar.specs.declared.kind.Kind.TheVariants as k
use Rattle.ebr_grammar.specs.declared.kind.TheConstants.{TWO, THREE, FOUR, FIVE, SIX, SEVEN, EIGHT, NINE, TEN, ELEVEN, TWELVE, FOURTEEN, TWENTY_TWO, TWENTY_THREE}
use Rattle.ebr_grammar.specs.Kinds.{same, member, lookup, word_kind, name_kinds}
use Rattle.ebr_grammar.proofs.Next.{and_true, or_true, not_both}

abbrev is_name : Kind → Bool
is_name kind = member kind name_kinds

-- an entry is a reserved word, or its kind is that of a name
abbrev fits : List ℕ × Kind → Bool
fits x = is_reserved x.0 || is_name x.1

found_is_name : (table : List (List ℕ × Kind)) (word : List ℕ) → list_all fits table ≡ true → is_reserved word ≡ false → is_name (lookup table word) ≡ true
unfolding same name_kinds
found_is_name [] word all free = refl
found_is_name (x ∷ table) word all free =
    let parts = and_true (fits x) (list_all fits table) all in
    step (bytes_eq x.0 word) (λ e. (bytes_eq-Decides x.0 word).0 e) (found_is_name table word parts.1 free)
  where
    step : (b : Bool) → (b ≡ true → x.0 ≡ word) → is_name (lookup table word) ≡ true → is_name (if b then x.1 else lookup table word) ≡ true
    step true is rest =
        elim (or_true (is_reserved x.0) (is_name x.1) (and_true (fits x) (list_all fits table) all).0) [
          | inl reserved ↦ absurd (not_both (is_reserved word) (ap is_reserved (sym (is refl)) ∙ reserved) free)
          | inr name ↦ name
        ]
    step false is rest = rest

either_kind : (b : Bool) (x y : Kind) → is_name x ≡ true → is_name y ≡ true → is_name (if b then x else y) ≡ true
either_kind true x y p q = p
either_kind false x y p q = q

other_is_name : is_name k.Name ≡ true
unfolding same name_kinds
other_is_name = refl

fit_2 : list_all fits (map (λ x. (x.0.now, x.1)) TWO) ≡ true
unfolding same name_kinds is_reserved
fit_2 = refl

fit_3 : list_all fits (map (λ x. (x.0.now, x.1)) THREE) ≡ true
unfolding same name_kinds is_reserved
fit_3 = refl

fit_4 : list_all fits (map (λ x. (x.0.now, x.1)) FOUR) ≡ true
unfolding same name_kinds is_reserved
fit_4 = refl

fit_5 : list_all fits (map (λ x. (x.0.now, x.1)) FIVE) ≡ true
unfolding same name_kinds is_reserved
fit_5 = refl

fit_6 : list_all fits (map (λ x. (x.0.now, x.1)) SIX) ≡ true
unfolding same name_kinds is_reserved
fit_6 = refl

fit_7 : list_all fits (map (λ x. (x.0.now, x.1)) SEVEN) ≡ true
unfolding same name_kinds is_reserved
fit_7 = refl

fit_8 : list_all fits (map (λ x. (x.0.now, x.1)) EIGHT) ≡ true
unfolding same name_kinds is_reserved
fit_8 = refl

fit_9 : list_all fits (map (λ x. (x.0.now, x.1)) NINE) ≡ true
unfolding same name_kinds is_reserved
fit_9 = refl

fit_10 : list_all fits (map (λ x. (x.0.now, x.1)) TEN) ≡ true
unfolding same name_kinds is_reserved
fit_10 = refl

fit_11 : list_all fits (map (λ x. (x.0.now, x.1)) ELEVEN) ≡ true
unfolding same name_kinds is_reserved
fit_11 = refl

fit_12 : list_all fits (map (λ x. (x.0.now, x.1)) TWELVE) ≡ true
unfolding same name_kinds is_reserved
fit_12 = refl

fit_14 : list_all fits (map (λ x. (x.0.now, x.1)) FOURTEEN) ≡ true
unfolding same name_kinds is_reserved
fit_14 = refl

fit_22 : list_all fits (map (λ x. (x.0.now, x.1)) TWENTY_TWO) ≡ true
unfolding same name_kinds is_reserved
fit_22 = refl

fit_23 : list_all fits (map (λ x. (x.0.now, x.1)) TWENTY_THREE) ≡ true
unfolding same name_kinds is_reserved
fit_23 = refl

pub free_is_name : (word : List ℕ) → is_reserved word ≡ false → is_name (word_kind word) ≡ true
unfolding word_kind
free_is_name word free =
    either_kind (length word == 2) (lookup (map (λ x. (x.0.now, x.1)) TWO) word) _ (found_is_name (map (λ x. (x.0.now, x.1)) TWO) word fit_2 free) (
    either_kind (length word == 3) (lookup (map (λ x. (x.0.now, x.1)) THREE) word) _ (found_is_name (map (λ x. (x.0.now, x.1)) THREE) word fit_3 free) (
    either_kind (length word == 4) (lookup (map (λ x. (x.0.now, x.1)) FOUR) word) _ (found_is_name (map (λ x. (x.0.now, x.1)) FOUR) word fit_4 free) (
    either_kind (length word == 5) (lookup (map (λ x. (x.0.now, x.1)) FIVE) word) _ (found_is_name (map (λ x. (x.0.now, x.1)) FIVE) word fit_5 free) (
    either_kind (length word == 6) (lookup (map (λ x. (x.0.now, x.1)) SIX) word) _ (found_is_name (map (λ x. (x.0.now, x.1)) SIX) word fit_6 free) (
    either_kind (length word == 7) (lookup (map (λ x. (x.0.now, x.1)) SEVEN) word) _ (found_is_name (map (λ x. (x.0.now, x.1)) SEVEN) word fit_7 free) (
    either_kind (length word == 8) (lookup (map (λ x. (x.0.now, x.1)) EIGHT) word) _ (found_is_name (map (λ x. (x.0.now, x.1)) EIGHT) word fit_8 free) (
    either_kind (length word == 9) (lookup (map (λ x. (x.0.now, x.1)) NINE) word) _ (found_is_name (map (λ x. (x.0.now, x.1)) NINE) word fit_9 free) (
    either_kind (length word == 10) (lookup (map (λ x. (x.0.now, x.1)) TEN) word) _ (found_is_name (map (λ x. (x.0.now, x.1)) TEN) word fit_10 free) (
    either_kind (length word == 11) (lookup (map (λ x. (x.0.now, x.1)) ELEVEN) word) _ (found_is_name (map (λ x. (x.0.now, x.1)) ELEVEN) word fit_11 free) (
    either_kind (length word == 12) (lookup (map (λ x. (x.0.now, x.1)) TWELVE) word) _ (found_is_name (map (λ x. (x.0.now, x.1)) TWELVE) word fit_12 free) (
    either_kind (length word == 14) (lookup (map (λ x. (x.0.now, x.1)) FOURTEEN) word) _ (found_is_name (map (λ x. (x.0.now, x.1)) FOURTEEN) word fit_14 free) (
    either_kind (length word == 22) (lookup (map (λ x. (x.0.now, x.1)) TWENTY_TWO) word) _ (found_is_name (map (λ x. (x.0.now, x.1)) TWENTY_TWO) word fit_22 free) (
    either_kind (length word == 23) (lookup (map (λ x. (x.0.now, x.1)) TWENTY_THREE) word) _ (found_is_name (map (λ x. (x.0.now, x.1)) TWENTY_THREE) word fit_23 free) (
    other_is_name))))))))))))))
