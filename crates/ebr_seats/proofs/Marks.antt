-- The mark of a call, and the seat, after a call on the transaction on top.
use Rattle.std.proofs.Common.{◌≡◌, ℕ, ◌≤◌, Bool, true, false, List, length, refl, sym, ap, subst, ◌∙◌, arith}
use Rattle.std.specs.Prelude.{◌==◌, ◌||◌, nat_lt, if◌then◌else◌, Option, Some, None, IfSome, option_map}
use Rattle.std.proofs.lemmas.Bool.{eqb-false, eqb-true, ltb-false}
use Rattle.ebr_base.specs.declared.numbers.SessionId.{SessionId}
use Rattle.ebr_base.specs.declared.row.TxId.{TxId}
use Rattle.ebr_locks.specs.Locks.{Lock, same_tx, locks_of}
use Rattle.ebr_tx.specs.declared.savepoints.TxMark.{TxMark}
use Rattle.ebr_tx.specs.Data.{Transaction, Data, IsLive, stack_of, named_at, own}
use Rattle.ebr_tx.specs.Calls.{IsMarkOf, mark_of, lock_count, with_savepoint, savepoint_at, after_savepoint}
use Rattle.ebr_tx.proofs.Stays.{own-after}
use Rattle.ebr_database.specs.Database.{Session, at_end, at_back, empty_mark, moved_back}
use Rattle.ebr_seats.specs.declared.seat.Seat.{Seat}
use Rattle.ebr_seats.specs.Seats.{IsSeatOf, ended_if, moved_if}
use Rattle.ebr_seats.proofs.Others.{Touches, above}

abbrev pub Marked : Data → SessionId → Option TxMark → Type 0
Marked d s call = IfSome call (IsMarkOf d (named_at s 0))

-- another transaction was touched
module _ (d d' : Data) (s : SessionId) where
  marked_by : (call : Option TxMark) → own d' (named_at s 0) ≡ own d (named_at s 0) → lock_count d' (named_at s 0) ≡ lock_count d (named_at s 0) → Marked d s call → Marked d' s call
  marked_by None owns locks h = tt
  marked_by (Some m) owns locks h = record {
    begun = h.begun;
    changes = subst (λ (t : Transaction). m.changes ≤ length t.changes) (sym owns) h.changes;
    locks = subst (λ n. m.locks ≤ n) (sym locks) h.locks;
  }

  pub marked_above : (t : TxId) (n : ℕ) (call : Option TxMark) → t ≡ named_at s n → (n ≡ 0 → ⊥) → Touches d d' t → Marked d s call → Marked d' s call
  marked_above t n call is some h m =
      let far : same_tx t (named_at s 0) ≡ false = ap (λ x. same_tx x (named_at s 0)) is ∙ above s n 0 some in
      marked_by call (h.owns (named_at s 0) far) (ap (λ (ls : List Lock). length ls) (h.locks (named_at s 0) far)) m

-- the seat, where its session is another by the mark alone
pub seat_again : (d d' : Data) (t : TxId) (s : SessionId) (seat : Seat) (x : Session) (call : Option TxMark) → IsSeatOf d s seat x → Touches d d' t → Marked d' s call → (call ≡ None → seat.levels ≡ 0)
    → IsSeatOf d' s (record seat { call = call }) (record x { call = call })
seat_again d d' t s seat x call h o m closed = record {
  edition = h.edition;
  call = refl;
  asks = h.asks;
  carried = h.carried;
  stack = ap (λ names. stack_of names s) o.names ∙ h.stack;
  mark = m;
  closed = closed;
}

pub same_seat : (d d' : Data) (t : TxId) (s : SessionId) (seat : Seat) (x : Session) → IsSeatOf d s seat x → Touches d d' t → Marked d' s x.call → IsSeatOf d' s seat x
same_seat d d' t s seat x h o m = record {
  edition = h.edition;
  call = h.call;
  asks = h.asks;
  carried = h.carried;
  stack = ap (λ names. stack_of names s) o.names ∙ h.stack;
  mark = m;
  closed = h.closed;
}

-- ---- the transaction ended

emptied : (d : Data) (s : SessionId) (call : Option TxMark) → Marked d s (option_map (λ m. empty_mark) call)
emptied d s None = tt
emptied d s (Some m) = record { begun = λ e. refl; changes = omega arith; locks = omega arith }

none_before : (call : Option TxMark) (f : TxMark → TxMark) → option_map f call ≡ None → call ≡ None
none_before None f e = refl
none_before (Some m) f e = cc

pub ended_seat : (d d' : Data) (s : SessionId) (t : TxId) (seat : Seat) (x : Session) → t ≡ named_at s seat.levels → Touches d d' t → IsSeatOf d s seat x
    → IsSeatOf d' s (ended_if (seat.levels == 0) seat) (at_end (seat.levels == 0) x)
ended_seat d d' s t seat x is o h = by (seat.levels == 0) refl
  where
    again : (call : Option TxMark) → seat.call ≡ call → IsSeatOf d' s (record seat { call = option_map (λ m. empty_mark) seat.call }) (record x { call = option_map (λ m. empty_mark) x.call })
    again call is_call =
        subst (λ c. IsSeatOf d' s (record seat { call = option_map (λ m. empty_mark) seat.call }) (record x { call = option_map (λ m. empty_mark) c })) h.call
        (seat_again d d' t s seat x (option_map (λ m. empty_mark) seat.call) h o (emptied d' s seat.call)
        (λ e. h.closed (sym h.call ∙ none_before seat.call (λ m. empty_mark) e)))

    by : (b : Bool) → (seat.levels == 0) ≡ b → IsSeatOf d' s (ended_if b seat) (at_end b x)
    by true e = again seat.call refl
    by false e = same_seat d d' t s seat x h o (marked_above d d' s t seat.levels x.call is (eqb-false seat.levels 0 e) o h.mark)

-- ---- a savepoint

saved_mark : (d d' : Data) (s : SessionId) (name : List ℕ) (call : Option TxMark) → IsLive d (named_at s 0) → d' ≡ after_savepoint d (named_at s 0) name → Marked d s call → Marked d' s call
saved_mark d d' s name None live is h = tt
saved_mark d d' s name (Some m) live is h =
    let t : TxId = named_at s 0 in
    let owns : own d' t ≡ with_savepoint (savepoint_at d t name) (own d t) =
    own-after t (with_savepoint (savepoint_at d t name)) (λ x. refl) d.live d'.live (ap (λ (e : Data). e.live) is) live in
    record {
      begun = h.begun;
      changes = subst (λ (x : Transaction). m.changes ≤ length x.changes) (sym owns) h.changes;
      locks = subst (λ (ls : List Lock). m.locks ≤ length (locks_of t ls)) (sym (ap (λ (e : Data). e.locks) is)) h.locks;
    }

pub saved_seat : (d d' : Data) (s : SessionId) (t : TxId) (name : List ℕ) (seat : Seat) (x : Session) → t ≡ named_at s seat.levels → IsLive d (named_at s 0) → d' ≡ after_savepoint d t name
    → Touches d d' t → IsSeatOf d s seat x → IsSeatOf d' s seat x
saved_seat d d' s t name seat x is live after o h = same_seat d d' t s seat x h o (by (seat.levels == 0) refl)
  where
    by : (b : Bool) → (seat.levels == 0) ≡ b → Marked d' s x.call
    by true e = saved_mark d d' s name x.call live (after ∙ ap (λ u. after_savepoint d u name) (is ∙ ap (named_at s) (eqb-true seat.levels 0 e))) h.mark
    by false e = marked_above d d' s t seat.levels x.call is (eqb-false seat.levels 0 e) o h.mark

-- ---- back to a savepoint

moved_mark : (d : Data) (s : SessionId) (now m : TxMark) → now ≡ mark_of d (named_at s 0) → IsMarkOf d (named_at s 0) now → (m.begun ≡ None → m.changes ≡ 0) → IsMarkOf d (named_at s 0) (moved_back now m)
moved_mark d s now m is here begun = by (nat_lt now.changes m.changes) refl (nat_lt now.locks m.locks) refl
  where
    not_less : (a b : ℕ) → nat_lt a b ≡ false → b ≤ a
    not_less a b e = ltb-false a b e

    by : (p : Bool) → nat_lt now.changes m.changes ≡ p → (q : Bool) → nat_lt now.locks m.locks ≡ q → IsMarkOf d (named_at s 0) (if p || q then now else m)
    by true e q f = here
    by false e true f = here
    by false e false f = record {
      begun = begun;
      changes = subst (λ n. m.changes ≤ n) (ap (λ (n : TxMark). n.changes) is) (not_less now.changes m.changes e);
      locks = subst (λ n. m.locks ≤ n) (ap (λ (n : TxMark). n.locks) is) (not_less now.locks m.locks f);
    }

pub moved_seat : (d d' : Data) (s : SessionId) (t : TxId) (now : TxMark) (seat : Seat) (x : Session) → t ≡ named_at s seat.levels → now ≡ mark_of d' (named_at s 0) → IsMarkOf d' (named_at s 0) now
    → Touches d d' t → IsSeatOf d s seat x → IsSeatOf d' s (moved_if (seat.levels == 0) now seat) (at_back (seat.levels == 0) now x)
moved_seat d d' s t now seat x is now_is here o h = by (seat.levels == 0) refl
  where
    moved : (call : Option TxMark) → Marked d s call → Marked d' s (option_map (moved_back now) call)
    moved None m = tt
    moved (Some c) m = moved_mark d' s now c now_is here m.begun

    again : IsSeatOf d' s (record seat { call = option_map (moved_back now) seat.call }) (record x { call = option_map (moved_back now) x.call })
    again =
        subst (λ c. IsSeatOf d' s (record seat { call = option_map (moved_back now) seat.call }) (record x { call = option_map (moved_back now) c })) h.call
        (seat_again d d' t s seat x (option_map (moved_back now) seat.call) h o (moved seat.call (subst (Marked d s) (sym h.call) h.mark))
        (λ e. h.closed (sym h.call ∙ none_before seat.call (moved_back now) e)))

    by : (b : Bool) → (seat.levels == 0) ≡ b → IsSeatOf d' s (moved_if b now seat) (at_back b now x)
    by true e = again
    by false e = same_seat d d' t s seat x h o (marked_above d d' s t seat.levels x.call is (eqb-false seat.levels 0 e) o h.mark)
