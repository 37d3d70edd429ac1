-- Values at their places.
use Rattle.std.proofs.Common.{◌≡◌, ℕ, ◌+◌, ◌<◌, ◌≤◌, ⊎_elim, List, [], ◌∷◌, drop, length, get_or, Option, Some, None, refl, sym, ap, ◌∙◌}
use Rattle.std.specs.Prelude.{slice_get, slice_set}
use Rattle.std.proofs.lemmas.List.{drop_more, drop_all}
use Rattle.std.proofs.lemmas.Option.{slice_get_within, get_or_from_slice_get, slice_get_cases}
use Rattle.ebr_base.specs.declared.value.Value.{Value}
use Rattle.ebr_bodies.specs.Bodies.{put}

module _ {A : Type 0} where
  from_some : (at : ℕ) (xs : List A) (x : A) → slice_get xs at ≡ Some x → drop at xs ≡ x ∷ drop (at + 1) xs
  from_some at xs x e = drop_more xs at x (slice_get_within xs at x e) ∙ ap (λ y. y ∷ drop (at + 1) xs) (get_or_from_slice_get xs at x x e)

  no_some : (x : A) → ◌≡◌ {A = Option A} (Some x) None → ⊥
  no_some x h = cc

  from_none : (at : ℕ) (xs : List A) → slice_get xs at ≡ None → drop at xs ≡ []
  from_none at xs e =
      ⊎_elim (λ (s : (x : A) × (at < length xs) × (slice_get xs at ≡ Some x) × (get_or xs at x ≡ x)). absurd (no_some s.0 (sym s.2 ∙ e)))
      (λ (past : (length xs ≤ at) × (slice_get xs at ≡ None)). drop_all at xs past.0) (slice_get_cases xs at).1

-- no value is left
pub put_none : (places : List ℕ) (row : List Value) → put places [] row ≡ row
put_none [] row = refl
put_none (p ∷ ps) row = refl

module _ (places : List ℕ) (values row : List Value) (at : ℕ) where
  pub one_put : (d : ℕ) (v : Value) → at < length places → slice_get values at ≡ Some v → put (drop at places) (drop at values) row ≡ put (drop (at + 1) places) (drop (at + 1) values) (slice_set row (get_or places at d) v)
  one_put d v h e = ap (λ ps. put ps (drop at values) row) (drop_more places at d h) ∙ ap (λ vs. put (get_or places at d ∷ drop (at + 1) places) vs row) (from_some at values v e)

  pub all_put : slice_get values at ≡ None → put (drop at places) (drop at values) row ≡ row
  all_put e = ap (λ vs. put (drop at places) vs row) (from_none at values e) ∙ put_none (drop at places) row
