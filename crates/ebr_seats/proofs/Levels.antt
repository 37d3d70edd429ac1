-- An autonomous transaction is opened on a session's stack, or closed.
use Rattle.std.proofs.Common.{◌≡◌, ℕ, zero, suc, ◌-◌, ◌+◌, ◌<◌, ◌≤◌, Bool, true, false, cond, List, [], ◌∷◌, ◌++◌, length, refl, sym, ap, subst, ◌∙◌, append-nil, arith}
use Rattle.std.specs.Prelude.{◌==◌, not, nat_le, filter, find, unwrap_or, is_some, if◌then◌else◌, Option, Some, None, Ok, Err}
use Rattle.std.specs.Option.{option_or}
use Rattle.std.proofs.lemmas.Bool.{eq-eqb, ne_eqb, leb-false}
use Rattle.std.proofs.lemmas.List.Elements.{filter-append}
use Rattle.std.proofs.lemmas.List.Folds.{find-append}
use Rattle.ebr_base.specs.declared.code.Code.{Code}
use Rattle.ebr_base.specs.declared.code.Code.TheVariants.{Ebr}
use Rattle.ebr_base.specs.declared.code.Stop.{Stop}
use Rattle.ebr_base.specs.declared.code.Stop.TheVariants as stop
use Rattle.ebr_base.specs.declared.numbers.SessionId.{SessionId}
use Rattle.ebr_base.specs.declared.row.TxId.{TxId}
use Rattle.std.proofs.lemmas.Option.{same_Some}
use Rattle.ebr_locks.specs.Locks.{Lock, same_tx, locks_of, released}
use Rattle.ebr_locks.proofs.Taken.{tx-same}
use Rattle.ebr_tx.specs.declared.savepoints.TxMark.{TxMark}
use Rattle.ebr_tx.specs.Data.{Transaction, Data, is_named, is_of_session, names_of, stack_of, named_at, not_begun, own}
use Rattle.ebr_tx.specs.Calls.{levels, max_levels, push_refusal, after_push, after_pop, top}
use Rattle.ebr_tx.proofs.SoundLemmas.{tx-itself}
use Rattle.ebr_database.specs.Base.{Base}
use Rattle.ebr_database.specs.Outcome.{Outcome, gives}
use Rattle.ebr_database.specs.Storable.{AllStorable}
use Rattle.ebr_database.specs.Transact.{Done, push, pushed, pop}
use Rattle.ebr_database.specs.Shows.{Leaves as Left, LeavesOr as LeftOr}
use Rattle.ebr_database.specs.ReadBack.{AreReadBack}
use Rattle.ebr_database.specs.Database.{Session, Database, base_in, session_at, as_answer, reply_push, reply_pop}
use Rattle.ebr_seats.specs.declared.seat.Seat.{Seat}
use Rattle.ebr_seats.specs.Seats.{Holds, IsHeld, IsSeatOf, Leaves, LeavesOr, seat_at, with_seat, stack_to}
use Rattle.ebr_seats.specs.inside.Apart.{Differ, Others}
use Rattle.ebr_seats.proofs.Others.{apart, above, others, touches_same, locks_other}
use Rattle.ebr_seats.proofs.Stacks.{stack_length, levels_are, top_is}
use Rattle.ebr_seats.proofs.Seated.{Seated, seats_same}
use Rattle.ebr_seats.proofs.Marks.{Marked}
use Rattle.ebr_seats.proofs.Replies.{held, base_is, leaves}

-- ---- one more transaction

module _ (d : Data) (h : TxId) where
  own_push : (live : List Transaction) (u : TxId) → same_tx h u ≡ false → unwrap_or (find (is_named u) (live ++ not_begun h ∷ [])) (not_begun u) ≡ unwrap_or (find (is_named u) live) (not_begun u)
  own_push live u far = ap (λ o. unwrap_or o (not_begun u)) (find-append (is_named u) live (not_begun h ∷ [])) ∙ by (find (is_named u) live)
    where
      by : (o : Option Transaction) → unwrap_or (option_or o (find (is_named u) (not_begun h ∷ []))) (not_begun u) ≡ unwrap_or o (not_begun u)
      by (Some x) = refl
      by None = ap (λ b. unwrap_or (cond b (Some (not_begun h)) None) (not_begun u)) far

of_other : (s r : SessionId) (n : ℕ) → Differ r s → is_of_session r (named_at s n) ≡ false
of_other s r n differ = ne_eqb s.0 r.0 (λ e. differ (sym e))

of_own : (s : SessionId) (n : ℕ) → is_of_session s (named_at s n) ≡ true
of_own s n = eq-eqb s.0 s.0 refl

stack_push : (names : List TxId) (r : SessionId) (t : TxId) (b : Bool) → is_of_session r t ≡ b → stack_of (names ++ t ∷ []) r ≡ stack_of names r ++ cond b (t ∷ []) []
stack_push names r t b is = filter-append (is_of_session r) names (t ∷ []) ∙ ap (λ c. stack_of names r ++ cond c (t ∷ []) []) is

marked_on : (d d' : Data) (s : SessionId) (call : Option TxMark) → own d' (named_at s 0) ≡ own d (named_at s 0) → locks_of (named_at s 0) d'.locks ≡ locks_of (named_at s 0) d.locks → Marked d s call → Marked d' s call
marked_on d d' s None owns locks h = tt
marked_on d d' s (Some m) owns locks h = record {
  begun = h.begun;
  changes = subst (λ (t : Transaction). m.changes ≤ length t.changes) (sym owns) h.changes;
  locks = subst (λ (ls : List Lock). m.locks ≤ length ls) (sym locks) h.locks;
}

not_refused : (o : Option Code) (s : SessionId) (b : Base) (c : Outcome Base Done) → pushed o s b ≡ c → c.value ≡ Ok (tt {0}) → o ≡ None
not_refused None s b c is ok = refl
not_refused (Some code) s b c is ok = by (ap (λ (o : Outcome Base Done). o.value) is ∙ ok)
  where
    by : (pushed (Some code) s b).value ≡ Ok (tt {0}) → Some code ≡ None
    by e = cc

few : (n : ℕ) → (if nat_le max_levels n then Some (Ebr 14) else None) ≡ None → n < max_levels
few n e = by (nat_le max_levels n) refl e
  where
    by : (b : Bool) → nat_le max_levels n ≡ b → (if b then Some (Ebr 14) else None) ≡ None → n < max_levels
    by true is e = absurd (some_none e)
      where
        some_none : Some (Ebr 14) ≡ None → ⊥
        some_none e = cc
    by false is e = leb-false max_levels n is

module _ (used : ℕ) (d : Data) (seats : List Seat) (db : Database) (s : SessionId) (x : Session) (h : Holds used d seats db) (there : session_at db.sessions s.0 ≡ Some x) (back : AreReadBack db) where
  abbrev sd : Seated d seats s x
  sd = held used d seats db s x h there

  abbrev level : ℕ
  level = sd.seat.levels

  base_eq : base_in db ≡ record { data_now = d; used = used }
  base_eq = base_is used d seats db s x h there

  module _ (d' : Data) (storable : AllStorable d') where
    abbrev opened : TxId
    opened = named_at s (length (stack_of (names_of d.live) s))

    abbrev raised : Seat
    raised = record sd.seat { levels = level + 1 }

    length_is : length (stack_of (names_of d.live) s) ≡ suc level
    length_is = ap (λ (xs : List TxId). length xs) sd.sits.stack ∙ stack_length s level ∙ plus level
      where
        plus : (n : ℕ) → n + 1 ≡ suc n
        plus n = omega arith

    module _ (names : names_of d'.live ≡ names_of d.live ++ opened ∷ []) (after : d' ≡ after_push d s) where
      far_own : same_tx opened (named_at s 0) ≡ false
      far_own = ap (λ n. same_tx (named_at s n) (named_at s 0)) length_is ∙ above s (suc level) 0 (λ e. suc_zero e)
        where
          suc_zero : suc level ≡ 0 → ⊥
          suc_zero e = omega arith

      owns : (u : TxId) → same_tx opened u ≡ false → own d' u ≡ own d u
      owns u far = ap (λ (e : Data). own e u) after ∙ own_push d opened d.live u far

      locks_stay : d'.locks ≡ d.locks
      locks_stay = ap (λ (e : Data). e.locks) after

      pub push_others : Others d d' s
      push_others = record {
        stacks = λ r differ. ap (λ ns. stack_of ns r) names ∙ stack_push (names_of d.live) r opened false (of_other s r (length (stack_of (names_of d.live) s)) differ) ∙ append-nil (stack_of (names_of d.live) r);
        owns = λ r differ. owns (named_at r 0) (apart opened s r 0 refl differ);
        locks = λ r differ. ap (λ ls. length (locks_of (named_at r 0) ls)) locks_stay;
      }

      stack_now : stack_of (names_of d'.live) s ≡ stack_to s (level + 1)
      stack_now =
          ap (λ ns. stack_of ns s) names ∙ stack_push (names_of d.live) s opened true (of_own s (length (stack_of (names_of d.live) s)))
          ∙ ap (λ xs. xs ++ opened ∷ []) sd.sits.stack ∙ ap (λ n. stack_to s level ++ named_at s n ∷ []) length_is ∙ ap (stack_to s) (plus level)
        where
          plus : (n : ℕ) → suc n ≡ n + 1
          plus n = omega arith

      pub push_seat : is_some x.call ≡ true → IsSeatOf d' s raised x
      push_seat in_call = record {
        edition = sd.sits.edition;
        call = sd.sits.call;
        asks = sd.sits.asks;
        carried = sd.sits.carried;
        stack = stack_now;
        mark = marked_on d d' s x.call (owns (named_at s 0) far_own) (ap (locks_of (named_at s 0)) locks_stay) sd.sits.mark;
        closed = λ e. absurd (no_call (sym (ap is_some e) ∙ in_call));
      }
        where
          no_call : false ≡ true → ⊥
          no_call e = cc

    pub push_ok : names_of d'.live ≡ names_of d.live ++ opened ∷ [] → is_some x.call ≡ true → Left (push s) d d' (Ok tt) → Leaves used d' (with_seat seats s raised) (as_answer (Ok tt)) (reply_push db s x)
    push_ok names in_call left =
        let is : push s (base_in db) ≡ gives (record { data_now = d'; used = used }) (Ok tt) = ap (push s) base_eq ∙ left.is used in
        let none : push_refusal d s ≡ None = not_refused (push_refusal d s) s (record { data_now = d; used = used }) (gives (record { data_now = d'; used = used }) (Ok tt)) (left.is used) refl in
        let after : d' ≡ after_push d s = sym (ap (λ (o : Outcome Base Done). o.state.data_now) (sym (ap (λ o. pushed o s (record { data_now = d; used = used })) none) ∙ left.is used)) in
        leaves used d seats db s x h there d' used raised x (push_others names after) storable (push_seat names after in_call) (push s (base_in db)) (Ok tt) is (back.push s)

    pub push_refused : (code : Code) → d' ≡ d → Left (push s) d d' (Err code) → Leaves used d' seats (as_answer (Err code)) (reply_push db s x)
    push_refused code after left =
        let is : push s (base_in db) ≡ gives (record { data_now = d'; used = used }) (Err code) = ap (push s) base_eq ∙ left.is used in
        subst (λ ss. Leaves used d' ss (as_answer (Err code)) (reply_push db s x)) (seats_same seats s sd.seat sd.there)
        (leaves used d seats db s x h there d' used sd.seat x (others d d' (named_at s 0) s refl (touches_same d d' (named_at s 0) after)) storable
        (subst (λ e. IsSeatOf e s sd.seat x) (sym after) sd.sits) (push s (base_in db)) (Err code) is (back.push s))

    pub push_err : (e : Stop) → d' ≡ d → LeftOr (push s) d d' (Err e) → LeavesOr used d' seats (Err e) (reply_push db s x)
    push_err (stop.Raised code) after left = push_refused code after left
    push_err stop.NoMemory after left = tt

module _ (d : Data) (seats : List Seat) (s : SessionId) (h : IsHeld d seats s) (d' : Data) where
  pub few_levels : Left (push s) d d' (Ok tt) → (seat : Seat) → seat_at seats s.0 ≡ Some seat → seat.levels < 50
  few_levels left seat at =
      let sd : Seated d seats s h.session = held h.used d seats h.database s h.session h.holds h.there in
      let below : sd.seat.levels < 50 =
      subst (λ n. n < max_levels) (levels_are d s sd.seat.levels sd.sits.stack) (few (levels d s) (not_refused (push_refusal d s) s (record { data_now = d; used = h.used }) (gives (record { data_now = d'; used = h.used }) (Ok tt)) (left.is h.used) refl)) in
      subst (λ (q : Seat). q.levels < 50) (same_Some sd.seat seat (sym sd.there ∙ at)) below

-- ---- one transaction less

-- a transaction of another name is still there
module _ (t u : TxId) (far : same_tx t u ≡ false) where
  not_it : (n : TxId) → same_tx n u ≡ true → same_tx n t ≡ false
  not_it n is = by (same_tx n t) refl
    where
      by : (b : Bool) → same_tx n t ≡ b → b ≡ false
      by true e = sym is ∙ ap (λ m. same_tx m u) (tx-same n t e) ∙ far
      by false e = refl

  find_without : (live : List Transaction) → find (is_named u) (filter (λ (y : Transaction). not (is_named t y)) live) ≡ find (is_named u) live
  find_without [] = refl
  find_without (y ∷ ys) = by (is_named u y) refl (find_without ys)
    where
      kept : is_named t y ≡ false → find (is_named u) (filter (λ (z : Transaction). not (is_named t z)) (y ∷ ys)) ≡ cond (is_named u y) (Some y) (find (is_named u) (filter (λ (z : Transaction). not (is_named t z)) ys))
      kept none = ap (λ b. find (is_named u) (cond (not b) (y ∷ filter (λ (z : Transaction). not (is_named t z)) ys) (filter (λ (z : Transaction). not (is_named t z)) ys))) none

      dropped : is_named u y ≡ false → (b : Bool) → is_named t y ≡ b → find (is_named u) (filter (λ (z : Transaction). not (is_named t z)) ys) ≡ find (is_named u) ys
          → find (is_named u) (cond (not b) (y ∷ filter (λ (z : Transaction). not (is_named t z)) ys) (filter (λ (z : Transaction). not (is_named t z)) ys)) ≡ find (is_named u) ys
      dropped none true e rest = rest
      dropped none false e rest = ap (λ b. cond b (Some y) (find (is_named u) (filter (λ (z : Transaction). not (is_named t z)) ys))) none ∙ rest

      by : (b : Bool) → is_named u y ≡ b → find (is_named u) (filter (λ (z : Transaction). not (is_named t z)) ys) ≡ find (is_named u) ys
          → find (is_named u) (filter (λ (z : Transaction). not (is_named t z)) (y ∷ ys)) ≡ cond (is_named u y) (Some y) (find (is_named u) ys)
      by true is rest = kept (not_it y.id is) ∙ ap (λ o. cond (is_named u y) (Some y) o) rest
      by false is rest = dropped is (is_named t y) refl rest ∙ ap (λ b. cond b (Some y) (find (is_named u) ys)) (sym is)

-- the stack of another session
stack_without : (t : TxId) (r : SessionId) → (t.session.0 ≡ r.0 → ⊥) → (names : List TxId) → stack_of (filter (λ n. not (same_tx n t)) names) r ≡ stack_of names r
stack_without t r differ [] = refl
stack_without t r differ (n ∷ ns) = by (same_tx n t) refl (stack_without t r differ ns)
  where
    by : (b : Bool) → same_tx n t ≡ b → stack_of (filter (λ n. not (same_tx n t)) ns) r ≡ stack_of ns r
        → stack_of (cond (not b) (n ∷ filter (λ n. not (same_tx n t)) ns) (filter (λ n. not (same_tx n t)) ns)) r ≡ stack_of (n ∷ ns) r
    by true e rest =
        let other : is_of_session r n ≡ false = ap (λ (m : TxId). m.session.0 == r.0) (tx-same n t e) ∙ ne_eqb t.session.0 r.0 differ in
        rest ∙ sym (ap (λ b. cond b (n ∷ stack_of ns r) (stack_of ns r)) other)
    by false e rest = ap (λ xs. cond (is_of_session r n) (n ∷ xs) xs) rest

filters_swap : {X : Type 0} (p q : X → Bool) (xs : List X) → filter p (filter q xs) ≡ filter q (filter p xs)
filters_swap p q [] = refl
filters_swap p q (x ∷ xs) = by (p x) refl (q x) refl (filters_swap p q xs)
  where
    by : (a : Bool) → p x ≡ a → (b : Bool) → q x ≡ b → filter p (filter q xs) ≡ filter q (filter p xs) → filter p (cond b (x ∷ filter q xs) (filter q xs)) ≡ filter q (cond a (x ∷ filter p xs) (filter p xs))
    by true e true f rest = ap (λ c. cond c (x ∷ filter p (filter q xs)) (filter p (filter q xs))) e ∙ ap (λ ys. x ∷ ys) rest ∙ sym (ap (λ c. cond c (x ∷ filter q (filter p xs)) (filter q (filter p xs))) f)
    by true e false f rest = rest ∙ sym (ap (λ c. cond c (x ∷ filter q (filter p xs)) (filter q (filter p xs))) f)
    by false e true f rest = ap (λ c. cond c (x ∷ filter p (filter q xs)) (filter p (filter q xs))) e ∙ rest
    by false e false f rest = rest

-- those below stay
below_stay : (s : SessionId) (m n : ℕ) → n < m → filter (λ u. not (same_tx u (named_at s m))) (stack_to s n) ≡ stack_to s n
below_stay s m zero less = ap (λ b. cond (not b) (named_at s 0 ∷ []) []) (above s 0 m (λ e. omega (arith, e, less)))
below_stay s m (suc n) less =
    filter-append (λ u. not (same_tx u (named_at s m))) (stack_to s n) (named_at s (suc n) ∷ [])
    ∙ ap (λ xs. xs ++ cond (not (same_tx (named_at s (suc n)) (named_at s m))) (named_at s (suc n) ∷ []) []) (below_stay s m n (omega (arith, less)))
    ∙ ap (λ b. stack_to s n ++ cond (not b) (named_at s (suc n) ∷ []) []) (above s (suc n) m (λ e. omega (arith, e, less)))

top_goes : (s : SessionId) (n : ℕ) → filter (λ u. not (same_tx u (named_at s (suc n)))) (stack_to s (suc n)) ≡ stack_to s n
top_goes s n =
    filter-append (λ u. not (same_tx u (named_at s (suc n)))) (stack_to s n) (named_at s (suc n) ∷ [])
    ∙ ap (λ xs. xs ++ cond (not (same_tx (named_at s (suc n)) (named_at s (suc n)))) (named_at s (suc n) ∷ []) []) (below_stay s (suc n) n (omega arith))
    ∙ ap (λ b. stack_to s n ++ cond (not b) (named_at s (suc n) ∷ []) []) (tx-itself (named_at s (suc n)))
    ∙ append-nil (stack_to s n)

-- what a closed transaction leaves of its session and of others
module _ (d d' : Data) (s : SessionId) (n : ℕ) (is : stack_of (names_of d.live) s ≡ stack_to s (suc n)) (after : d' ≡ after_pop d s) (names : names_of d'.live ≡ filter (λ u. not (same_tx u (top d s))) (names_of d.live)) where
  top_eq : top d s ≡ named_at s (suc n)
  top_eq = top_is d s (suc n) is

  pub pop_stack : stack_of (names_of d'.live) s ≡ stack_to s n
  pop_stack =
      ap (λ ns. stack_of ns s) names ∙ ap (λ t. stack_of (filter (λ u. not (same_tx u t)) (names_of d.live)) s) top_eq
      ∙ filters_swap (is_of_session s) (λ u. not (same_tx u (named_at s (suc n)))) (names_of d.live)
      ∙ ap (filter (λ u. not (same_tx u (named_at s (suc n))))) is ∙ top_goes s n

  pub pop_owns : (u : TxId) → same_tx (named_at s (suc n)) u ≡ false → own d' u ≡ own d u
  pop_owns u far =
      ap (λ (e : Data). own e u) after ∙ ap (λ t. unwrap_or (find (is_named u) (filter (λ (y : Transaction). not (is_named t y)) d.live)) (not_begun u)) top_eq
      ∙ ap (λ o. unwrap_or o (not_begun u)) (find_without (named_at s (suc n)) u far d.live)

  pub pop_locks : (u : TxId) → same_tx (named_at s (suc n)) u ≡ false → locks_of u d'.locks ≡ locks_of u d.locks
  pop_locks u far = ap (λ (e : Data). locks_of u e.locks) after ∙ ap (λ t. locks_of u (released t 0 d.locks)) top_eq ∙ locks_other (named_at s (suc n)) u far 0 d.locks

  pub pop_others : Others d d' s
  pop_others = record {
    stacks = λ r differ. ap (λ ns. stack_of ns r) names ∙ ap (λ t. stack_of (filter (λ u. not (same_tx u t)) (names_of d.live)) r) top_eq
        ∙ stack_without (named_at s (suc n)) r (λ e. differ (sym e)) (names_of d.live);
    owns = λ r differ. pop_owns (named_at r 0) (apart (named_at s (suc n)) s r 0 refl differ);
    locks = λ r differ. ap (λ (ls : List Lock). length ls) (pop_locks (named_at r 0) (apart (named_at s (suc n)) s r 0 refl differ));
  }

  far_below : same_tx (named_at s (suc n)) (named_at s 0) ≡ false
  far_below = above s (suc n) 0 (λ e. omega (arith, e))

  pub pop_marked : (call : Option TxMark) → Marked d s call → Marked d' s call
  pop_marked call = marked_on d d' s call (pop_owns (named_at s 0) far_below) (pop_locks (named_at s 0) far_below)

module _ (used : ℕ) (d : Data) (seats : List Seat) (db : Database) (s : SessionId) (x : Session) (h : Holds used d seats db) (there : session_at db.sessions s.0 ≡ Some x) (back : AreReadBack db) where
  pub pop_reply : (d' : Data) (failed : Bool) (a : Done) → AllStorable d' → names_of d'.live ≡ filter (λ u. not (same_tx u (top d s))) (names_of d.live)
      → ((seat : Seat) → seat_at seats s.0 ≡ Some seat → 0 < seat.levels) → Left (pop s failed) d d' a
      → (seat : Seat) → seat_at seats s.0 ≡ Some seat → Leaves used d' (with_seat seats s (record seat { levels = seat.levels - 1 })) (as_answer a) (reply_pop db s x failed)
  pop_reply d' failed a storable names some left seat at =
      let sd : Seated d seats s x = held used d seats db s x h there in
      subst (λ (q : Seat). Leaves used d' (with_seat seats s (record q { levels = q.levels - 1 })) (as_answer a) (reply_pop db s x failed)) (same_Some sd.seat seat (sym sd.there ∙ at))
      (by (sd.seat.levels - 1) (one_above sd.seat.levels (some sd.seat sd.there)))
    where
      one_above : (n : ℕ) → 0 < n → n ≡ suc (n - 1)
      one_above n less = omega (arith, less)

      sits_now : (n : ℕ) → (held used d seats db s x h there).seat.levels ≡ suc n → IsSeatOf d' s (record (held used d seats db s x h there).seat { levels = n }) x
      sits_now n is =
          let sd : Seated d seats s x = held used d seats db s x h there in
          let stack : stack_of (names_of d.live) s ≡ stack_to s (suc n) = sd.sits.stack ∙ ap (stack_to s) is in
          let after : d' ≡ after_pop d s = sym (ap (λ (o : Outcome Base Done). o.state.data_now) (left.is used)) in
          record {
            edition = sd.sits.edition;
            call = sd.sits.call;
            asks = sd.sits.asks;
            carried = sd.sits.carried;
            stack = pop_stack d d' s n stack after names;
            mark = pop_marked d d' s n stack after names x.call sd.sits.mark;
            closed = λ e. absurd (no_level n (sym is ∙ sd.sits.closed e));
          }
        where
          no_level : (n : ℕ) → suc n ≡ 0 → ⊥
          no_level n e = omega (arith, e)

      by : (n : ℕ) → (held used d seats db s x h there).seat.levels ≡ suc n → Leaves used d' (with_seat seats s (record (held used d seats db s x h there).seat { levels = n })) (as_answer a) (reply_pop db s x failed)
      by n is =
          let sd : Seated d seats s x = held used d seats db s x h there in
          let stack : stack_of (names_of d.live) s ≡ stack_to s (suc n) = sd.sits.stack ∙ ap (stack_to s) is in
          let after : d' ≡ after_pop d s = sym (ap (λ (o : Outcome Base Done). o.state.data_now) (left.is used)) in
          let out_is : pop s failed (base_in db) ≡ gives (record { data_now = d'; used = used }) a = ap (pop s failed) (base_is used d seats db s x h there) ∙ left.is used in
          leaves used d seats db s x h there d' used (record sd.seat { levels = n }) x (pop_others d d' s n stack after names) storable (sits_now n is) (pop s failed (base_in db)) a out_is (back.pop s failed)
