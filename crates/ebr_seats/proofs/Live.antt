-- The transactions on a session's stack are live.
use Rattle.std.proofs.Common.{◌≡◌, ℕ, zero, suc, ◌+◌, ◌<◌, Bool, true, false, cond, List, [], ◌∷◌, length, refl, sym, ap, subst, ◌∙◌, arith}
use Rattle.std.specs.Prelude.{◌||◌, filter, Some}
use Rattle.std.specs.List.{list_any}
use Rattle.std.proofs.lemmas.Bool.{or_left, or_right}
use Rattle.std.proofs.lemmas.List.Folds.{list_any-append}
use Rattle.ebr_base.specs.declared.numbers.SessionId.{SessionId}
use Rattle.ebr_base.specs.declared.row.TxId.{TxId}
use Rattle.ebr_locks.specs.Locks.{same_tx}
use Rattle.ebr_tx.proofs.SoundLemmas.{tx-itself}
use Rattle.ebr_tx.specs.Data.{Data, IsLive, names_of, stack_of, is_of_session, named_at}
use Rattle.ebr_tx.specs.Calls.{HasLevel}
use Rattle.ebr_seats.specs.declared.seat.Seat.{Seat}
use Rattle.ebr_seats.specs.Seats.{HasSeat, IsHeld, seat_at, stack_to}
use Rattle.ebr_seats.proofs.Stacks.{stack_length}
use Rattle.ebr_seats.proofs.Seated.{Seated, seated, seat_within}

in_filter : {X : Type 0} (p q : X → Bool) (xs : List X) → list_any p (filter q xs) ≡ true → list_any p xs ≡ true
in_filter p q [] is = is
in_filter p q (x ∷ xs) is = by (q x) is (in_filter p q xs)
  where
    one : (c : Bool) → (c || list_any p (filter q xs)) ≡ true → (list_any p (filter q xs) ≡ true → list_any p xs ≡ true) → (c || list_any p xs) ≡ true
    one true is rest = refl
    one false is rest = rest is

    by : (b : Bool) → list_any p (cond b (x ∷ filter q xs) (filter q xs)) ≡ true → (list_any p (filter q xs) ≡ true → list_any p xs ≡ true) → list_any p (x ∷ xs) ≡ true
    by true is rest = one (p x) is rest
    by false is rest = or_right (p x) (list_any p xs) (rest is)

abbrev is_named_so : TxId → TxId → Bool
is_named_so t n = same_tx n t

bottom_in : (s : SessionId) (n : ℕ) → list_any (is_named_so (named_at s 0)) (stack_to s n) ≡ true
bottom_in s zero = or_left (same_tx (named_at s 0) (named_at s 0)) false (tx-itself (named_at s 0))
bottom_in s (suc n) = list_any-append (is_named_so (named_at s 0)) (stack_to s n) (named_at s (suc n) ∷ []) ∙ or_left (list_any (is_named_so (named_at s 0)) (stack_to s n)) _ (bottom_in s n)

top_in : (s : SessionId) (n : ℕ) → list_any (is_named_so (named_at s n)) (stack_to s n) ≡ true
top_in s zero = or_left (same_tx (named_at s 0) (named_at s 0)) false (tx-itself (named_at s 0))
top_in s (suc n) =
    list_any-append (is_named_so (named_at s (suc n))) (stack_to s n) (named_at s (suc n) ∷ [])
    ∙ or_right (list_any (is_named_so (named_at s (suc n))) (stack_to s n)) _ (or_left (same_tx (named_at s (suc n)) (named_at s (suc n))) false (tx-itself (named_at s (suc n))))

module _ (d : Data) (s : SessionId) (n : ℕ) (is : stack_of (names_of d.live) s ≡ stack_to s n) where
  pub own_live : IsLive d (named_at s 0)
  own_live = in_filter (is_named_so (named_at s 0)) (is_of_session s) (names_of d.live) (ap (list_any (is_named_so (named_at s 0))) is ∙ bottom_in s n)

  pub top_live : IsLive d (named_at s n)
  top_live = in_filter (is_named_so (named_at s n)) (is_of_session s) (names_of d.live) (ap (list_any (is_named_so (named_at s n))) is ∙ top_in s n)

  pub has_level : 0 < n → HasLevel d s
  has_level some = let e : length (stack_of (names_of d.live) s) ≡ n + 1 = ap (λ (xs : List TxId). length xs) is ∙ stack_length s n in omega arith

module _ (d : Data) (seats : List Seat) (s : SessionId) (h : IsHeld d seats s) where
  abbrev held : Seated d seats s h.session
  held = seated h.used d seats h.database s h.session h.holds h.there

  pub has_seat : HasSeat seats s
  has_seat = seat_within seats s held.seat held.there

  pub own_lives : IsLive d (named_at s 0)
  own_lives = own_live d s held.seat.levels held.sits.stack

  -- the transaction that has the name of the one on top
  pub top_lives : (t : TxId) → ((seat : Seat) → seat_at seats s.0 ≡ Some seat → t ≡ named_at s seat.levels) → IsLive d t
  top_lives t is = subst (IsLive d) (sym (is held.seat held.there)) (top_live d s held.seat.levels held.sits.stack)

  pub level_there : ((seat : Seat) → seat_at seats s.0 ≡ Some seat → 0 < seat.levels) → HasLevel d s
  level_there some = has_level d s held.seat.levels held.sits.stack (some held.seat held.there)
