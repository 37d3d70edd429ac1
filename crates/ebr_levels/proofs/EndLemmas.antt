-- An autonomous transaction above is closed; and all are at a body's end.
use Rattle.std.proofs.Common.{◌≡◌, ℕ, zero, suc, ◌+◌, ◌-◌, ◌<◌, ◌≤◌, Bool, true, false, not, cond, ◌||◌, List, [], ◌∷◌, ◌++◌, refl, sym, ap, subst, ◌∙◌, append-nil, arith}
use Rattle.std.specs.Prelude.{filter}
use Rattle.std.specs.List.{list_any}
use Rattle.std.proofs.lemmas.Bool.{both_ways, eq-eqb, or_from, or_parts}
use Rattle.std.proofs.lemmas.List.Elements.{filter-append}
use Rattle.std.proofs.lemmas.List.Folds.{list_any-append}
use Rattle.ebr_base.specs.declared.numbers.SessionId.{SessionId}
use Rattle.ebr_base.specs.declared.row.TxId.{TxId}
use Rattle.ebr_locks.specs.Locks.{same_tx}
use Rattle.ebr_locks.proofs.Taken.{tx-same}
use Rattle.ebr_tx.specs.Data.{Data, is_of_session, names_of, stack_of, named_at}
use Rattle.ebr_tx.specs.Calls.{HasLevel, after_pop, levels, top}
use Rattle.ebr_tx.proofs.SoundLemmas.{tx-itself}
use Rattle.ebr_tx.proofs.Stays.{names-without}
use Rattle.ebr_seats.specs.Ends.{closed_from_top}
use Rattle.ebr_seats.specs.Seats.{stack_to}
use Rattle.ebr_seats.proofs.Levels.{pop_stack}
use Rattle.ebr_seats.proofs.Others.{above as depths_differ, locks_other}
use Rattle.ebr_levels.specs.Keeps.{AreEarly, IsNoHigher, IsOutside, UnderChange}
use Rattle.ebr_levels.specs.Levels.{Inside, IsTop, Leaves, opened, above}
use Rattle.ebr_levels.proofs.OthersLemmas.{outside_differs}
use Rattle.ebr_levels.proofs.EarlyLemmas.{early_popped, own_popped}
use Rattle.ebr_levels.proofs.KeepsLemmas.{keeps_spared}
use Rattle.ebr_levels.proofs.InsideLemmas.{inside_open, inside_top_is, plus_one}
use Rattle.ebr_levels.proofs.TopLemmas.{top_level}

-- ---- a name that isn't there

abbrev IsAbsent : TxId → List TxId → Type 0
IsAbsent h names = list_any (λ n. same_tx n h) names ≡ false

taken_out : (h : TxId) (names : List TxId) → IsAbsent h names → filter (λ n. not (same_tx n h)) names ≡ names
taken_out h [] none = refl
taken_out h (n ∷ ns) none =
    let parts = or_parts (same_tx n h) (list_any (λ m. same_tx m h) ns) none in
    ap (λ b. cond (not b) (n ∷ filter (λ m. not (same_tx m h)) ns) (filter (λ m. not (same_tx m h)) ns)) parts.0 ∙ ap (λ ms. n ∷ ms) (taken_out h ns parts.1)

-- what isn't in its session's stack isn't there
absent_by_stack : (h : TxId) (names : List TxId) → IsAbsent h (stack_of names h.session) → IsAbsent h names
absent_by_stack h [] none = refl
absent_by_stack h (n ∷ ns) none = by (same_tx n h) refl (absent_by_stack h ns)
  where
    mine : same_tx n h ≡ true → is_of_session h.session n ≡ true
    mine e = ap (λ (m : TxId). is_of_session h.session m) (tx-same n h e) ∙ eq-eqb h.session.0 h.session.0 refl

    in_stack : (b : Bool) → list_any (λ m. same_tx m h) (cond b (n ∷ stack_of ns h.session) (stack_of ns h.session)) ≡ false → IsAbsent h (stack_of ns h.session)
    in_stack true e = (or_parts (same_tx n h) (list_any (λ m. same_tx m h) (stack_of ns h.session)) e).1
    in_stack false e = e

    here : is_of_session h.session n ≡ true → same_tx n h ≡ false
    here e = (or_parts (same_tx n h) (list_any (λ m. same_tx m h) (stack_of ns h.session)) (sym (ap (λ b. list_any (λ m. same_tx m h) (cond b (n ∷ stack_of ns h.session) (stack_of ns h.session))) e) ∙ none)).0

    by : (b : Bool) → same_tx n h ≡ b → (IsAbsent h (stack_of ns h.session) → IsAbsent h ns) → (b || list_any (λ m. same_tx m h) ns) ≡ false
    by true e rest = absurd (both_ways (same_tx n h) (here (mine e)) e)
    by false e rest = rest (in_stack (is_of_session h.session n) none)

pushed_absent : (h : TxId) (names : List TxId) (n : TxId) → IsAbsent h names → same_tx n h ≡ false → IsAbsent h (names ++ n ∷ [])
pushed_absent h names n none far =
    list_any-append (λ m. same_tx m h) names (n ∷ []) ∙ or_from (list_any (λ m. same_tx m h) names) (same_tx n h || false) none (or_from (same_tx n h) false far refl)

absent_above : (s : SessionId) (p m : ℕ) → p < m → IsAbsent (named_at s m) (stack_to s p)
absent_above s zero m less = or_from (same_tx (named_at s 0) (named_at s m)) false (depths_differ s 0 m (λ e. omega (arith, e, less))) refl
absent_above s (suc p) m less =
    pushed_absent (named_at s m) (stack_to s p) (named_at s (suc p)) (absent_above s p m (omega (arith, less))) (depths_differ s (suc p) m (λ e. omega (arith, e, less)))

absent_opened : (t : TxId) (n m : ℕ) → n < m → IsAbsent (above t m) (opened t n)
absent_opened t zero m less = refl
absent_opened t (suc n) m less =
    pushed_absent (above t m) (opened t n) (above t (suc n)) (absent_opened t n m (omega (arith, less)))
    (depths_differ t.session (t.depth + suc n) (t.depth + m) (λ e. omega (arith, e, less)))

-- ---- one closed

module _ (a d : Data) (t : TxId) (under : UnderChange) (n : ℕ) (i : Inside a t under (suc n) d) where
  abbrev h : TxId
  h = above t (suc n)

  on_top : top d t.session ≡ h
  on_top = inside_top_is a d t under (suc n) i

  names_left : filter (λ m. not (same_tx m h)) (names_of d.live) ≡ names_of a.live ++ opened t n
  names_left =
      ap (filter (λ m. not (same_tx m h))) i.names
      ∙ filter-append (λ m. not (same_tx m h)) (names_of a.live) (opened t n ++ h ∷ [])
      ∙ ap (λ xs. xs ++ filter (λ m. not (same_tx m h)) (opened t n ++ h ∷ [])) (taken_out h (names_of a.live) (absent_by_stack h (names_of a.live) below))
      ∙ ap (λ ys. names_of a.live ++ ys) last
    where
      below : IsAbsent h (stack_of (names_of a.live) h.session)
      below = ap (list_any (λ m. same_tx m h)) i.first.stack ∙ absent_above t.session t.depth (t.depth + suc n) (omega arith)

      last : filter (λ m. not (same_tx m h)) (opened t n ++ h ∷ []) ≡ opened t n
      last =
          filter-append (λ m. not (same_tx m h)) (opened t n) (h ∷ [])
          ∙ ap (λ xs. xs ++ cond (not (same_tx h h)) (h ∷ []) []) (taken_out h (opened t n) (absent_opened t n (suc n) (omega arith)))
          ∙ ap (λ b. opened t n ++ cond (not b) (h ∷ []) []) (tx-itself h)
          ∙ append-nil (opened t n)

  far : (u : TxId) → IsNoHigher t u → same_tx (top d t.session) u ≡ false
  far u low = ap (λ x. same_tx x u) on_top ∙ outside_differs h u above_it
    where
      above_it : IsOutside h u
      above_it e = let k : u.depth ≤ t.depth = low e in omega (arith, k)

  closed : Inside a t under n (after_pop d t.session)
  closed = record {
    first = i.first;
    names = names-without (top d t.session) d.live (after_pop d t.session).live refl ∙ ap (λ x. filter (λ m. not (same_tx m x)) (names_of d.live)) on_top ∙ names_left;
    keeps = keeps_spared a d (after_pop d t.session) t under i.keeps (record {
      tables = refl;
      committed = [];
      commits = sym (append-nil d.commits);
      owns = λ u low. own_popped d t.session u (far u low);
      locks = λ u low. locks_other (top d t.session) u (far u low) 0 d.locks;
      early = early_popped d (after_pop d t.session) t.session refl;
    });
  }

pub after_closed : (a d d' : Data) (t : TxId) (under : UnderChange) (n : ℕ) → 0 < n → Inside a t under n d → d' ≡ after_pop d t.session → Inside a t under (n - 1) d'
after_closed a d d' t under zero some i is = absurd (nothing some)
  where
    nothing : 0 < 0 → ⊥
    nothing h = omega (arith, h)
after_closed a d d' t under (suc n) some i is =
    subst (λ m. Inside a t under m d') (sym (one_less n)) (subst (Inside a t under n) (sym is) (closed a d t under n i))
  where
    one_less : (n : ℕ) → suc n - 1 ≡ n
    one_less n = omega arith

-- ---- the end of a body

pub inside_ends : (a d : Data) (t : TxId) (under : UnderChange) → Inside a t under 0 d → Leaves a t under d
inside_ends a d t under i = record { names = i.names ∙ append-nil (names_of a.live); keeps = i.keeps }

pub inside_closed : (n : ℕ) (a d : Data) (t : TxId) (under : UnderChange) → Inside a t under n d → Leaves a t under (closed_from_top n t.session d)
inside_closed zero a d t under i = inside_ends a d t under i
inside_closed (suc n) a d t under i = inside_closed n a (after_pop d t.session) t under (closed a d t under n i)

pub inside_closes : (a d : Data) (t : TxId) (under : UnderChange) (n : ℕ) → Inside a t under n d → Leaves a t under (closed_from_top (levels d t.session - t.depth) t.session d)
inside_closes a d t under n i = subst (λ m. Leaves a t under (closed_from_top m t.session d)) (sym (inside_open a d t under n i)) (inside_closed n a d t under i)

-- the first of those that are closed
pub closes_one : (n : ℕ) (s : SessionId) (d : Data) → 0 < n → closed_from_top n s d ≡ closed_from_top (n - 1) s (after_pop d s)
closes_one zero s d some = absurd (nothing some)
  where
    nothing : 0 < 0 → ⊥
    nothing h = omega (arith, h)
closes_one (suc n) s d some = ap (λ m. closed_from_top m s (after_pop d s)) (less n)
  where
    less : (n : ℕ) → n ≡ suc n - 1
    less n = omega arith

-- a turn of the loop that closes them
pub inside_turn : (a d d' : Data) (t : TxId) (under : UnderChange) (all turn : ℕ) → turn < all → Inside a t under (all - turn) d → d' ≡ after_pop d t.session → Inside a t under (all - (turn + 1)) d'
inside_turn a d d' t under all turn less i is = subst (λ m. Inside a t under m d') one_less (after_closed a d d' t under (all - turn) (omega (arith, less)) i is)
  where
    one_less : all - turn - 1 ≡ all - (turn + 1)
    one_less = omega arith

pub closes_turn : (first d d' : Data) (s : SessionId) (all turn : ℕ) → turn < all → d' ≡ after_pop d s → closed_from_top (all - turn) s d ≡ closed_from_top all s first
    → closed_from_top (all - (turn + 1)) s d' ≡ closed_from_top all s first
closes_turn first d d' s all turn less is h =
    ap (closed_from_top (all - (turn + 1)) s) is ∙ ap (λ m. closed_from_top m s (after_pop d s)) one_less ∙ sym (closes_one (all - turn) s d (omega (arith, less))) ∙ h
  where
    one_less : all - (turn + 1) ≡ all - turn - 1
    one_less = omega arith

-- The same of the transaction on top alone, for a loop that knows of no other.
top_popped : (d d' : Data) (t : TxId) (n : ℕ) → IsTop d (above t (suc n)) → d' ≡ after_pop d t.session → IsTop d' (above t n)
top_popped d d' t n h is = record {
  stack = pop_stack d d' t.session (t.depth + n) (h.stack ∙ ap (stack_to t.session) (plus_one t.depth n)) is
      (names-without (top d t.session) d.live d'.live (ap (λ (e : Data). e.live) is));
  early = early_popped d d' t.session is h.early;
}

module _ (d : Data) (t : TxId) (all turn : ℕ) (less : turn < all) (h : IsTop d (above t (all - turn))) where
  pub turn_level : HasLevel d t.session
  turn_level = top_level d (above t (all - turn)) h (omega (arith, less))

  pub turn_top : (d' : Data) → d' ≡ after_pop d t.session → IsTop d' (above t (all - (turn + 1)))
  turn_top d' is = top_popped d d' t (all - (turn + 1)) (subst (λ m. IsTop d (above t m)) one_more h) is
    where
      one_more : all - turn ≡ suc (all - (turn + 1))
      one_more = omega (arith, less)

-- all that are open
pub early_closed : (n : ℕ) (s : SessionId) (d : Data) → AreEarly d → AreEarly (closed_from_top n s d)
early_closed zero s d early = early
early_closed (suc n) s d early = early_closed n s (after_pop d s) (early_popped d (after_pop d s) s refl early)
