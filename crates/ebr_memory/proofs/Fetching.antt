-- What a fetch gives, by the place of the row.
use Rattle.std.proofs.Common.{◌≡◌, ℕ, zero, suc, ◌+◌, Bool, true, false, if◌then◌else◌, List, [], ◌∷◌, drop, Option, Some, None, refl, ap, sym, ◌∙◌, add-one}
use Rattle.std.specs.Prelude.{slice_get}
use Rattle.ebr_base.specs.declared.value.Value.{Value}
use Rattle.ebr_sqlcheck.specs.Types.{Known}
use Rattle.ebr_run.specs.Cursors.{Open, Row, NoRow, Unfit, after_fetch, fetched, row_fits}

abbrev Rows : Type 0
Rows = List (List Value)

behind : (rows : Rows) (n : ℕ) (row : List Value) → Some row ≡ slice_get rows n → drop n rows ≡ row ∷ drop (suc n) rows
behind [] n row e = cc
behind (r ∷ rows) zero row e = cc
behind (r ∷ rows) (suc n) row e = behind rows n row e

past : (rows : Rows) (n : ℕ) → None ≡ slice_get rows n → drop n rows ≡ []
past [] zero e = refl
past [] (suc n) e = refl
past (r ∷ rows) zero e = cc
past (r ∷ rows) (suc n) e = past rows n e

module _ (ts : List Known) (rows : Rows) (n : ℕ) (found : Option Bool) where
  -- no row is left
  pub no_row : None ≡ slice_get rows n → NoRow ≡ fetched ts (Open (drop n rows) n found)
  no_row e = sym (ap (λ left. fetched ts (Open left n found)) (past rows n e))

  pub stays : None ≡ slice_get rows n → Open (drop n rows) n (Some false) ≡ after_fetch (Open (drop n rows) n found)
  stays e = ap (λ left. Open left n (Some false)) (past rows n e) ∙ sym (ap (λ left. after_fetch (Open left n found)) (past rows n e))

  -- the row at the place
  given : (row : List Value) → Some row ≡ slice_get rows n → (b : Bool) → row_fits ts row ≡ b → fetched ts (Open (drop n rows) n found) ≡ (if b then Row row else Unfit)
  given row e b fits = ap (λ left. fetched ts (Open left n found)) (behind rows n row e) ∙ ap (λ b. if b then Row row else Unfit) fits

  pub fitting_row : (row values : List Value) → Some row ≡ slice_get rows n → row_fits ts row ≡ true → values ≡ row → Row values ≡ fetched ts (Open (drop n rows) n found)
  fitting_row row values e fits is = ap Row is ∙ sym (given row e true fits)

  pub unfit_row : (row : List Value) → Some row ≡ slice_get rows n → row_fits ts row ≡ false → Unfit ≡ fetched ts (Open (drop n rows) n found)
  unfit_row row e fits = sym (given row e false fits)

  pub goes_on : (row : List Value) (next : ℕ) → Some row ≡ slice_get rows n → next ≡ n + 1 → Open (drop next rows) next (Some true) ≡ after_fetch (Open (drop n rows) n found)
  goes_on row next e more = ap (λ k. Open (drop k rows) k (Some true)) (more ∙ add-one n) ∙ sym (ap (λ left. after_fetch (Open left n found)) (behind rows n row e))
