-- Tables by their ids, which ascend.
use Rattle.std.proofs.Common.{◌≡◌, ℕ, zero, suc, ◌+◌, ◌<◌, ◌≤◌, ⊎_elim, Bool, true, false, ◌==◌, List, [], ◌∷◌, Option, Some, None, length, refl, sym, ap, subst, ◌∙◌, arith}
use Rattle.std.specs.Prelude.{slice_get, find}
use Rattle.std.proofs.lemmas.Bool.{eqb-true, eq-eqb, cases_lt, false_from_ne_true}
use Rattle.std.proofs.lemmas.Option.{same_Some, slice_get_within}
use Rattle.ebr_base.specs.declared.numbers.TableId.{TableId}
use Rattle.ebr_base.specs.declared.table.TableDef.{TableDef}
use Rattle.ebr_tables.specs.Tables.{IdsAscend, table_of_id}
use Rattle.ebr_tables.specs.inside.Keyed.{IsBetween}

above_all : (low made : ℕ) (ts : List TableDef) (k : ℕ) (t : TableDef) → IdsAscend low made ts → slice_get ts k ≡ Some t → low < t.id.0
above_all low made [] k t ids e = cc
above_all low made (x ∷ xs) zero t ids e = subst (λ (y : TableDef). low < y.id.0) (same_Some x t e) ids.0
above_all low made (x ∷ xs) (suc k) t ids e =
    let first : low < x.id.0 = ids.0 in
    let more : x.id.0 < t.id.0 = above_all x.id.0 made xs k t ids.2 e in
    omega (arith, first, more)

ascend : (low made : ℕ) (ts : List TableDef) (i j : ℕ) (t u : TableDef) → IdsAscend low made ts → i < j → slice_get ts i ≡ Some t → slice_get ts j ≡ Some u → t.id.0 < u.id.0
ascend low made [] i j t u ids l e f = cc
ascend low made (x ∷ xs) i zero t u ids l e f = absurd (omega (arith, l))
ascend low made (x ∷ xs) zero (suc j) t u ids l e f = subst (λ (y : TableDef). y.id.0 < u.id.0) (same_Some x t e) (above_all x.id.0 made xs j u ids.2 f)
ascend low made (x ∷ xs) (suc i) (suc j) t u ids l e f = ascend x.id.0 made xs i j t u ids.2 (omega (arith, l)) e f

find_at : (p : TableDef → Bool) (ts : List TableDef) (n : ℕ) (t : TableDef) → slice_get ts n ≡ Some t → p t ≡ true → ((k : ℕ) (u : TableDef) → k < n → slice_get ts k ≡ Some u → p u ≡ false) → find p ts ≡ Some t
find_at p [] n t e passes before = cc
find_at p (x ∷ xs) zero t e passes before = let here : p x ≡ true = ap p (same_Some x t e) ∙ passes in rw here e
find_at p (x ∷ xs) (suc n) t e passes before =
    let fails : p x ≡ false = before 0 x (omega arith) refl in
    rw fails (find_at p xs n t e passes (λ k u l f. before (suc k) u (omega (arith, l)) f))

find_none : (p : TableDef → Bool) (ts : List TableDef) → ((k : ℕ) (u : TableDef) → slice_get ts k ≡ Some u → p u ≡ false) → find p ts ≡ None
find_none p [] fails = refl
find_none p (x ∷ xs) fails = let here : p x ≡ false = fails 0 x refl in rw here (find_none p xs (λ k u f. fails (suc k) u f))

pub between_first : (ts : List TableDef) (id n : ℕ) → n ≡ length ts → IsBetween ts id 0 n
between_first ts id n e = record {
  ordered = omega arith;
  within = omega (arith, e);
  lower = λ k t l f. absurd (omega (arith, l));
  higher = λ k t l f. let within : k < length ts = slice_get_within ts k t f in absurd (omega (arith, within, l, e));
}

module _ (made : ℕ) (ts : List TableDef) (ids : IdsAscend 0 made ts) (id low high at : ℕ) (t : TableDef) (between : IsBetween ts id low high) (here : slice_get ts at ≡ Some t) where
  pub between_upper : t.id.0 < id → at < high → IsBetween ts id (at + 1) high
  between_upper less l = record {
    ordered = omega (arith, l);
    within = between.within;
    lower = λ k u m f. ⊎_elim
        (λ (a : k < at). let order : u.id.0 < t.id.0 = ascend 0 made ts k at u t ids a f here in omega (arith, order, less))
        (λ (b : at ≤ k). let same : k ≡ at = omega (arith, m, b) in subst (λ (y : TableDef). y.id.0 < id) (same_Some t u (sym here ∙ ap (slice_get ts) (sym same) ∙ f)) less) (cases_lt k at);
    higher = between.higher;
  }

  pub between_lower : id < t.id.0 → low ≤ at → IsBetween ts id low at
  between_lower more l = record {
    ordered = l;
    within = let within : at < length ts = slice_get_within ts at t here in omega (arith, within);
    lower = between.lower;
    higher = λ k u m f. ⊎_elim
        (λ (a : at < k). let order : t.id.0 < u.id.0 = ascend 0 made ts at k t u ids a here f in omega (arith, order, more))
        (λ (b : k ≤ at). let same : k ≡ at = omega (arith, m, b) in subst (λ (y : TableDef). id < y.id.0) (same_Some t u (sym here ∙ ap (slice_get ts) (sym same) ∙ f)) more) (cases_lt at k);
  }

  pub found_here : t.id.0 ≡ id → table_of_id (record { 0 = id }) ts ≡ Some t
  found_here same = find_at (λ (u : TableDef). u.id.0 == id) ts at t here (eq-eqb t.id.0 id same)
      (λ k u l f. false_from_ne_true (u.id.0 == id) (λ e.
      let order : u.id.0 < t.id.0 = ascend 0 made ts k at u t ids l f here in
      let is : u.id.0 ≡ id = eqb-true u.id.0 id e in
      absurd (omega (arith, order, is, same))))

pub not_found : (ts : List TableDef) (id low high : ℕ) → IsBetween ts id low high → high ≤ low → None ≡ table_of_id (record { 0 = id }) ts
not_found ts id low high between done = sym (find_none (λ (u : TableDef). u.id.0 == id) ts (λ k u f. false_from_ne_true (u.id.0 == id) (λ e.
    let is : u.id.0 ≡ id = eqb-true u.id.0 id e in
    ⊎_elim (λ (a : k < low). let less : u.id.0 < id = between.lower k u a f in absurd (omega (arith, less, is)))
    (λ (b : low ≤ k). let more : id < u.id.0 = between.higher k u (omega (arith, b, done)) f in absurd (omega (arith, more, is))) (cases_lt k low))))
