-- The first seats are those of the first sessions.
use Rattle.std.proofs.Common.{◌≡◌, ℕ, zero, suc, ◌<◌, ◌≤◌, ⊎_elim, Bool, true, false, cond, List, [], ◌∷◌, ◌++◌, refl, sym, ap, subst, ◌∙◌, append-nil, arith}
use Rattle.std.specs.Prelude.{◌==◌, replicate, slice_get}
use Rattle.std.specs.List.{AllByRecursion}
use Rattle.std.proofs.lemmas.Bool.{ne_eqb, eq-eqb, cases_lt}
use Rattle.std.proofs.lemmas.List.{map-append}
use Rattle.std.proofs.lemmas.List.Elements.{filter-append}
use Rattle.ebr_base.specs.declared.numbers.EditionNo.{EditionNo}
use Rattle.ebr_base.specs.declared.numbers.SessionId.{SessionId}
use Rattle.ebr_tx.specs.Data.{Transaction, Data, is_of_session, names_of, stack_of, named_at, not_begun}
use Rattle.ebr_tx.specs.Calls.{first_transactions}
use Rattle.ebr_database.specs.Storable.{IsStorableBy}
use Rattle.ebr_database.specs.Database.{data_of, session_at}
use Rattle.ebr_seats.specs.Ends.{begun_in}
use Rattle.ebr_seats.specs.Seats.{Begin, IsSeatOf, Sits, first_seat, seat_at}

abbrev numbered : ℕ → SessionId
numbered n = record { 0 = n }

stack_more : (n : ℕ) (s : SessionId) (b : Bool) → (suc n == s.0) ≡ b → stack_of (names_of (first_transactions (suc n))) s ≡ stack_of (names_of (first_transactions n)) s ++ cond b (named_at (numbered (suc n)) 0 ∷ []) []
stack_more n s b is =
    ap (λ ns. stack_of ns s) (map-append (λ (x : Transaction). x.id) (first_transactions n) (not_begun (named_at (numbered (suc n)) 0) ∷ []))
    ∙ filter-append (is_of_session s) (names_of (first_transactions n)) (named_at (numbered (suc n)) 0 ∷ [])
    ∙ ap (λ c. stack_of (names_of (first_transactions n)) s ++ cond c (named_at (numbered (suc n)) 0 ∷ []) []) is

none_above : (n : ℕ) (s : SessionId) → n < s.0 → stack_of (names_of (first_transactions n)) s ≡ []
none_above zero s less = refl
none_above (suc n) s less =
    stack_more n s false (ne_eqb (suc n) s.0 (λ e. omega (arith, e, less)))
    ∙ append-nil (stack_of (names_of (first_transactions n)) s) ∙ none_above n s (omega (arith, less))

pub one_of : (n : ℕ) (s : SessionId) → 1 ≤ s.0 → s.0 ≤ n → stack_of (names_of (first_transactions n)) s ≡ named_at s 0 ∷ []
one_of zero s low high = absurd (omega (arith, low, high))
one_of (suc n) s low high = ⊎_elim (λ (h : s.0 < suc n). earlier h (one_of n s low (below h))) (λ (h : suc n ≤ s.0). last (same h)) (cases_lt s.0 (suc n))
  where
    same : suc n ≤ s.0 → suc n ≡ s.0
    same h = omega (arith, h, high)

    below : s.0 < suc n → s.0 ≤ n
    below h = omega (arith, h)

    earlier : s.0 < suc n → stack_of (names_of (first_transactions n)) s ≡ named_at s 0 ∷ [] → stack_of (names_of (first_transactions (suc n))) s ≡ named_at s 0 ∷ []
    earlier h before =
        stack_more n s false (ne_eqb (suc n) s.0 (λ e. omega (arith, e, h)))
        ∙ append-nil (stack_of (names_of (first_transactions n)) s) ∙ before

    last : suc n ≡ s.0 → stack_of (names_of (first_transactions (suc n))) s ≡ named_at s 0 ∷ []
    last e =
        stack_more n s true (eq-eqb (suc n) s.0 e)
        ∙ ap (λ xs. xs ++ named_at (numbered (suc n)) 0 ∷ []) (none_above n s (omega (arith, e)))
        ∙ ap (λ k. named_at (numbered k) 0 ∷ []) e

storable_first : (n : ℕ) → AllByRecursion IsStorableBy (first_transactions n)
storable_first zero = tt
storable_first (suc n) = push (first_transactions n) (storable_first n)
  where
    push : (xs : List Transaction) → AllByRecursion IsStorableBy xs → AllByRecursion IsStorableBy (xs ++ not_begun (named_at (numbered (suc n)) 0) ∷ [])
    push [] all = (tt, tt)
    push (x ∷ xs) all = (all.0, push xs all.1)

module _ (n : ℕ) (e : EditionNo) (d : Data) (live : d.live ≡ first_transactions n) where
  sits_first : (s : SessionId) → 1 ≤ s.0 → s.0 ≤ n → IsSeatOf d s (first_seat e) (begun_in e)
  sits_first s low high = record {
    edition = refl;
    call = refl;
    asks = refl;
    carried = refl;
    stack = ap (λ l. stack_of (names_of l) s) live ∙ one_of n s low high;
    mark = tt;
    closed = λ x. refl;
  }

  sits_in : (k m : ℕ) (s : SessionId) → (m < k → IsSeatOf d s (first_seat e) (begun_in e)) → Sits d s (slice_get (replicate k (first_seat e)) m) (slice_get (replicate k (begun_in e)) m)
  sits_in zero m s h = tt
  sits_in (suc k) zero s h = h (omega arith)
  sits_in (suc k) (suc m) s h = sits_in k m s (λ less. h (omega (arith, less)))

  at_number : (m : ℕ) (s : SessionId) → s.0 ≡ m → Sits d s (seat_at (replicate n (first_seat e)) m) (session_at (replicate n (begun_in e)) m)
  at_number zero s is = tt
  at_number (suc m) s is = sits_in n m s (λ less. sits_first s (omega (arith, is)) (omega (arith, is, less)))

pub first_begin : (n : ℕ) (e : EditionNo) → Begin n e (replicate n (first_seat e))
first_begin n e db live sessions = record {
  data_is = refl;
  used_is = refl;
  storable = subst (AllByRecursion IsStorableBy) (sym live) (storable_first n);
  sit = λ s. subst (λ xs. Sits (data_of db) s (seat_at (replicate n (first_seat e)) s.0) (session_at xs s.0)) (sym sessions) (at_number n e (data_of db) live s.0 s refl);
}
