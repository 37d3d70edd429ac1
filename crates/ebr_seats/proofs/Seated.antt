-- The seats of sessions, where one of them changes.
use Rattle.std.proofs.Common.{◌≡◌, ℕ, zero, suc, ◌-◌, ◌<◌, ◌≤◌, ⊎_elim, List, [], ◌∷◌, length, refl, sym, ap, subst, ◌∙◌, arith}
use Rattle.std.specs.Prelude.{Option, Some, None, IfSome, slice_get, slice_set}
use Rattle.std.proofs.lemmas.Option.{same_Some, slice_get_within}
use Rattle.std.proofs.lemmas.Bool.Decides.{eqb_tells}
use Rattle.ebr_base.specs.declared.numbers.SessionId.{SessionId}
use Rattle.ebr_tx.specs.declared.savepoints.TxMark.{TxMark}
use Rattle.ebr_tx.specs.Data.{Data, named_at}
use Rattle.ebr_tx.specs.Calls.{IsMarkOf}
use Rattle.ebr_database.specs.Database.{Session, Database, session_at}
use Rattle.ebr_seats.specs.declared.seat.Seat.{Seat}
use Rattle.ebr_seats.specs.Seats.{HasSeat, Holds, IsSeatOf, Sits, seat_at, with_seat}
use Rattle.ebr_seats.specs.inside.Apart.{Others, Differ}

one_less : (n : ℕ) → suc n - 1 ≡ n
one_less n = omega arith

module _ {X : Type 0} where
  -- the item of a number, counted from 1
  abbrev pub at : List X → ℕ → Option X
  at xs zero = None
  at xs (suc n) = slice_get xs n

  set_here : (xs : List X) (n : ℕ) (x y : X) → slice_get xs n ≡ Some x → slice_get (slice_set xs n y) n ≡ Some y
  set_here [] n x y is = cc
  set_here (z ∷ zs) zero x y is = refl
  set_here (z ∷ zs) (suc n) x y is = set_here zs n x y is

  set_there : (xs : List X) (n m : ℕ) (y : X) → (m ≡ n → ⊥) → slice_get (slice_set xs n y) m ≡ slice_get xs m
  set_there [] n m y differ = refl
  set_there (z ∷ zs) zero zero y differ = absurd (differ refl)
  set_there (z ∷ zs) zero (suc m) y differ = refl
  set_there (z ∷ zs) (suc n) zero y differ = refl
  set_there (z ∷ zs) (suc n) (suc m) y differ = set_there zs n m y (λ e. differ (ap suc e))

  set_same : (xs : List X) (n : ℕ) (x : X) → slice_get xs n ≡ Some x → slice_set xs n x ≡ xs
  set_same [] n x is = cc
  set_same (z ∷ zs) zero x is = ap (λ w. w ∷ zs) (sym (same_Some z x is))
  set_same (z ∷ zs) (suc n) x is = ap (λ ws. z ∷ ws) (set_same zs n x is)

  pub at_here : (xs : List X) (n : ℕ) (x y : X) → at xs n ≡ Some x → at (slice_set xs (n - 1) y) n ≡ Some y
  at_here xs zero x y is = cc
  at_here xs (suc n) x y is = ap (λ k. slice_get (slice_set xs k y) n) (one_less n) ∙ set_here xs n x y is

  pub at_there : (xs : List X) (n m : ℕ) (x y : X) → at xs n ≡ Some x → (m ≡ n → ⊥) → at (slice_set xs (n - 1) y) m ≡ at xs m
  at_there xs zero m x y is differ = cc
  at_there xs (suc n) zero x y is differ = refl
  at_there xs (suc n) (suc m) x y is differ = ap (λ k. slice_get (slice_set xs k y) m) (one_less n) ∙ set_there xs n m y (λ e. differ (ap suc e))

  pub at_same : (xs : List X) (n : ℕ) (x : X) → at xs n ≡ Some x → slice_set xs (n - 1) x ≡ xs
  at_same xs zero x is = cc
  at_same xs (suc n) x is = ap (λ k. slice_set xs k x) (one_less n) ∙ set_same xs n x is

seat_is : (seats : List Seat) (n : ℕ) → seat_at seats n ≡ at seats n
seat_is seats zero = refl
seat_is seats (suc n) = refl

session_is : (sessions : List Session) (n : ℕ) → session_at sessions n ≡ at sessions n
session_is sessions zero = refl
session_is sessions (suc n) = refl

-- the seat of a session that is there
pub record Seated (d : Data) (seats : List Seat) (s : SessionId) (x : Session) : Type 0 where
  pub seat : Seat
  pub there : seat_at seats s.0 ≡ Some seat
  pub sits : IsSeatOf d s seat x

pub seated : (used : ℕ) (d : Data) (seats : List Seat) (db : Database) (s : SessionId) (x : Session) → Holds used d seats db → session_at db.sessions s.0 ≡ Some x → Seated d seats s x
seated used d seats db s x h is = by (seat_at seats s.0) refl (subst (Sits d s (seat_at seats s.0)) is (h.sit s))
  where
    by : (o : Option Seat) → seat_at seats s.0 ≡ o → Sits d s o (Some x) → Seated d seats s x
    by None found sits = absurd sits
    by (Some seat) found sits = record { seat = seat; there = found; sits = sits }

-- a seat stays that of its session where nothing is another of this
stays : (d d' : Data) (s r : SessionId) (seat : Seat) (x : Session) → Others d d' s → Differ r s → IsSeatOf d r seat x → IsSeatOf d' r seat x
stays d d' s r seat x o differ h = record {
  edition = h.edition;
  call = h.call;
  asks = h.asks;
  carried = h.carried;
  stack = o.stacks r differ ∙ h.stack;
  mark = by x.call h.mark;
  closed = h.closed;
}
  where
    by : (m : Option TxMark) → IfSome m (IsMarkOf d (named_at r 0)) → IfSome m (IsMarkOf d' (named_at r 0))
    by None e = tt
    by (Some m) e = record {
      begun = e.begun;
      changes = subst (λ t. m.changes ≤ length t.changes) (sym (o.owns r differ)) e.changes;
      locks = subst (λ n. m.locks ≤ n) (sym (o.locks r differ)) e.locks;
    }

sits_on : (d d' : Data) (s r : SessionId) → Others d d' s → Differ r s → (seat : Option Seat) (x : Option Session) → Sits d r seat x → Sits d' r seat x
sits_on d d' s r o differ None None h = tt
sits_on d d' s r o differ (Some seat) (Some x) h = stays d d' s r seat x o differ h
sits_on d d' s r o differ None (Some x) h = absurd h
sits_on d d' s r o differ (Some seat) None h = absurd h

-- One session's seat changed with it, and nothing of the others.
pub sit_again : (d d' : Data) (seats : List Seat) (sessions : List Session) (s : SessionId) (seat seat' : Seat) (x x' : Session)
    → ((r : SessionId) → Sits d r (seat_at seats r.0) (session_at sessions r.0)) → Others d d' s
    → seat_at seats s.0 ≡ Some seat → session_at sessions s.0 ≡ Some x → IsSeatOf d' s seat' x'
    → (r : SessionId) → Sits d' r (seat_at (with_seat seats s seat') r.0) (session_at (slice_set sessions (s.0 - 1) x') r.0)
sit_again d d' seats sessions s seat seat' x x' all o sat is new r = ⊎_elim here there (eqb_tells r.0 s.0)
  where
    at' : at seats s.0 ≡ Some seat
    at' = sym (seat_is seats s.0) ∙ sat

    is' : at sessions s.0 ≡ Some x
    is' = sym (session_is sessions s.0) ∙ is

    at_s : seat_at (with_seat seats s seat') s.0 ≡ Some seat'
    at_s = seat_is (with_seat seats s seat') s.0 ∙ at_here seats s.0 seat seat' at'

    is_s : session_at (slice_set sessions (s.0 - 1) x') s.0 ≡ Some x'
    is_s = session_is (slice_set sessions (s.0 - 1) x') s.0 ∙ at_here sessions s.0 x x' is'

    here_s : Sits d' s (seat_at (with_seat seats s seat') s.0) (session_at (slice_set sessions (s.0 - 1) x') s.0)
    here_s = subst (λ o. Sits d' s o (session_at (slice_set sessions (s.0 - 1) x') s.0)) (sym at_s) (subst (Sits d' s (Some seat')) (sym is_s) new)

    here : {b : Type 0} → b × (r.0 ≡ s.0) → Sits d' r (seat_at (with_seat seats s seat') r.0) (session_at (slice_set sessions (s.0 - 1) x') r.0)
    here h =
        let same : s ≡ r = ap (λ n. record { 0 = n }) (sym h.1) in
        subst (λ q. Sits d' q (seat_at (with_seat seats s seat') q.0) (session_at (slice_set sessions (s.0 - 1) x') q.0)) same here_s

    there : {b : Type 0} → b × (r.0 ≡ s.0 → ⊥) → Sits d' r (seat_at (with_seat seats s seat') r.0) (session_at (slice_set sessions (s.0 - 1) x') r.0)
    there h =
        let at_r : seat_at (with_seat seats s seat') r.0 ≡ seat_at seats r.0 = seat_is (with_seat seats s seat') r.0 ∙ at_there seats s.0 r.0 seat seat' at' h.1 ∙ sym (seat_is seats r.0) in
        let is_r : session_at (slice_set sessions (s.0 - 1) x') r.0 ≡ session_at sessions r.0 =
        session_is (slice_set sessions (s.0 - 1) x') r.0 ∙ at_there sessions s.0 r.0 x x' is' h.1 ∙ sym (session_is sessions r.0) in
        subst (λ o. Sits d' r o (session_at (slice_set sessions (s.0 - 1) x') r.0)) (sym at_r)
        (subst (Sits d' r (seat_at seats r.0)) (sym is_r) (sits_on d d' s r o h.1 (seat_at seats r.0) (session_at sessions r.0) (all r)))

pub seats_same : (seats : List Seat) (s : SessionId) (seat : Seat) → seat_at seats s.0 ≡ Some seat → with_seat seats s seat ≡ seats
seats_same seats s seat is = at_same seats s.0 seat (sym (seat_is seats s.0) ∙ is)

within : (seats : List Seat) (n : ℕ) (seat : Seat) → seat_at seats n ≡ Some seat → (1 ≤ n) × (n ≤ length seats)
within seats zero seat is = cc
within seats (suc n) seat is = let e : n < length seats = slice_get_within seats n seat is in (omega arith, omega arith)

pub seat_within : (seats : List Seat) (s : SessionId) (seat : Seat) → seat_at seats s.0 ≡ Some seat → HasSeat seats s
seat_within seats s seat is = let e : (1 ≤ s.0) × (s.0 ≤ length seats) = within seats s.0 seat is in record { first = e.0; last = e.1 }
