-- What stays where one transaction is changed: the names, and of that one what the change keeps.
use Rattle.std.proofs.Common.{◌≡◌, ℕ, zero, suc, ◌+◌, add-one, ◌<◌, ◌≤◌, ⊎_elim, true, false, not, ◌==◌, List, [], ◌∷◌, ◌++◌, None, refl, sym, ap, subst, ◌∙◌, arith}
use Rattle.std.specs.Prelude.{All, filter, find, unwrap_or}
use Rattle.std.specs.List.{list_any}
use Rattle.std.proofs.lemmas.Bool.{and_from, or_left, or_right, eq-eqb, cases_lt}
use Rattle.std.proofs.lemmas.List.{map-append}
use Rattle.std.proofs.lemmas.List.Elements.{All-nil, All-push}
use Rattle.std.proofs.lemmas.List.Folds.{list_any-append}
use Rattle.ebr_base.specs.declared.numbers.SessionId.{SessionId}
use Rattle.ebr_base.specs.declared.row.TxId.{TxId}
use Rattle.ebr_locks.specs.Locks.{same_tx}
use Rattle.ebr_tx.specs.Calls.{first_transactions}
use Rattle.ebr_tx.specs.Data.{Transaction, named_at, is_named, names_of, IsIn, not_begun, changed}
use Rattle.ebr_tx.proofs.LiveLemmas.{names-changed, names-filter}
use Rattle.ebr_tx.proofs.SoundLemmas.{find-changed, own_found}

-- the names where one transaction is taken out
pub names-without : (t : TxId) (live after : List Transaction) → after ≡ filter (λ (x : Transaction). not (is_named t x)) live → names_of after ≡ filter (λ n. not (same_tx n t)) (names_of live)
names-without t live after is = ap names_of is ∙ sym (names-filter (λ n. not (same_tx n t)) live)

-- the transactions of all sessions at first
in-more : (names : List TxId) (m t : TxId) → IsIn names t → IsIn (names ++ m ∷ []) t
in-more names m t e = list_any-append (λ n. same_tx n t) names (m ∷ []) ∙ or_left (list_any (λ n. same_tx n t) names) (list_any (λ n. same_tx n t) (m ∷ [])) e

in-last : (names : List TxId) (m t : TxId) → same_tx m t ≡ true → IsIn (names ++ m ∷ []) t
in-last names m t e =
    list_any-append (λ n. same_tx n t) names (m ∷ [])
    ∙ or_right (list_any (λ n. same_tx n t) names) (list_any (λ n. same_tx n t) (m ∷ [])) (or_left (same_tx m t) false e)

pub first-sessions : (n : ℕ) (s : SessionId) → 1 ≤ s.0 → s.0 ≤ n → IsIn (names_of (first_transactions n)) (named_at s 0)
first-sessions zero s low high = absurd (omega arith)
first-sessions (suc n) s low high =
    subst (λ names. IsIn names (named_at s 0)) (sym (map-append (λ (x : Transaction). x.id) (first_transactions n) (not_begun (named_at (record { 0 = suc n }) 0) ∷ [])))
    (⊎_elim (λ (h : s.0 < suc n). in-more (names_of (first_transactions n)) (named_at (record { 0 = suc n }) 0) (named_at s 0) (first-sessions n s low (within h)))
    (λ (h : suc n ≤ s.0). in-last (names_of (first_transactions n)) (named_at (record { 0 = suc n }) 0) (named_at s 0) (and_from (suc n == s.0) true (eq-eqb (suc n) s.0 (last h)) refl)) (cases_lt s.0 (suc n)))
  where
    within : s.0 < suc n → s.0 ≤ n
    within h = omega arith

    last : suc n ≤ s.0 → suc n ≡ s.0
    last h = omega arith

pub first-more : (n : ℕ) → first_transactions n ++ not_begun (named_at (record { 0 = n + 1 }) 0) ∷ [] ≡ first_transactions (n + 1)
first-more n = let one : n + 1 ≡ suc n = add-one n in rw one refl

pub first-begun : (n : ℕ) → All (λ (x : Transaction). x.begun ≡ None) (first_transactions n)
first-begun zero = All-nil (λ (x : Transaction). x.begun ≡ None)
first-begun (suc n) = All-push (λ (x : Transaction). x.begun ≡ None) (first_transactions n) (not_begun (named_at (record { 0 = suc n }) 0)) (first-begun n) refl

module _ (t : TxId) (f : Transaction → Transaction) (keeps : (x : Transaction) → (f x).id ≡ x.id) (live after : List Transaction) (is : after ≡ changed t f live) where
  pub stacks-stay : names_of after ≡ names_of live
  stacks-stay = ap names_of is ∙ names-changed t f keeps live

  pub own-after : IsIn (names_of live) t → unwrap_or (find (is_named t) after) (not_begun t) ≡ f (unwrap_or (find (is_named t) live) (not_begun t))
  own-after there =
      ap (λ xs. unwrap_or (find (is_named t) xs) (not_begun t)) is
      ∙ ap (λ o. unwrap_or o (not_begun t)) (find-changed t f keeps live (unwrap_or (find (is_named t) live) (not_begun t)) (own_found t live there))
