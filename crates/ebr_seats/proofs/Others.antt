-- What a call on one transaction leaves of the others.
use Rattle.std.proofs.Common.{◌≡◌, ℕ, zero, suc, Bool, true, false, cond, List, [], ◌∷◌, length, refl, sym, ap, subst, ◌∙◌}
use Rattle.std.specs.Prelude.{◌&&◌, ◌==◌, find, unwrap_or, Option, Some, None}
use Rattle.std.proofs.lemmas.Bool.{ne_eqb}
use Rattle.ebr_base.specs.declared.numbers.SessionId.{SessionId}
use Rattle.ebr_base.specs.declared.row.TxId.{TxId}
use Rattle.ebr_locks.specs.Locks.{Lock, same_tx, is_of, locks_of, released}
use Rattle.ebr_locks.proofs.Taken.{tx-same}
use Rattle.ebr_tx.specs.declared.savepoints.Savepoint.{Savepoint}
use Rattle.ebr_tx.specs.declared.savepoints.TxMark.{TxMark}
use Rattle.ebr_tx.specs.Data.{Transaction, Data, is_named, names_of, stack_of, named_at, not_begun, changed, own}
use Rattle.ebr_tx.specs.Calls.{ended, marked, kept_to, with_savepoint, savepoint_at, savepoint_named, after_mark, after_rollback, after_settle, after_savepoint, after_back_to, back_to_savepoint}
use Rattle.ebr_tx.proofs.SoundLemmas.{find-other}
use Rattle.ebr_seats.specs.inside.Apart.{Differ, Others}

-- The names stay, and nothing is another of the transactions but one.
pub record Touches (d d' : Data) (t : TxId) : Type 0 where
  pub names : names_of d'.live ≡ names_of d.live
  pub owns : (u : TxId) → same_tx t u ≡ false → own d' u ≡ own d u
  pub locks : (u : TxId) → same_tx t u ≡ false → locks_of u d'.locks ≡ locks_of u d.locks

pub apart : (t : TxId) (s r : SessionId) (n : ℕ) → t.session.0 ≡ s.0 → Differ r s → same_tx t (named_at r n) ≡ false
apart t s r n is differ = ap (λ b. b && (t.depth == n)) (ne_eqb t.session.0 r.0 (λ e. differ (sym e ∙ is)))

and_false : (b : Bool) → (b && false) ≡ false
and_false true = refl
and_false false = refl

pub above : (s : SessionId) (m n : ℕ) → (m ≡ n → ⊥) → same_tx (named_at s m) (named_at s n) ≡ false
above s m n differ = ap (λ b. (s.0 == s.0) && b) (ne_eqb m n differ) ∙ and_false (s.0 == s.0)

pub others : (d d' : Data) (t : TxId) (s : SessionId) → t.session.0 ≡ s.0 → Touches d d' t → Others d d' s
others d d' t s is h = record {
  stacks = λ r differ. ap (λ names. stack_of names r) h.names;
  owns = λ r differ. h.owns (named_at r 0) (apart t s r 0 is differ);
  locks = λ r differ. ap (λ (ls : List Lock). length ls) (h.locks (named_at r 0) (apart t s r 0 is differ));
}

-- ---- locks

not_both : (t u : TxId) (l : Lock) → same_tx t u ≡ false → is_of t l ≡ true → is_of u l ≡ false
not_both t u l far is = ap (λ x. same_tx x u) (tx-same l.1 t is) ∙ far

module _ (t u : TxId) (far : same_tx t u ≡ false) where
  passed_over : (l : Lock) (ls : List Lock) → is_of t l ≡ true → locks_of u (l ∷ ls) ≡ locks_of u ls
  passed_over l ls is = ap (λ b. cond b (l ∷ locks_of u ls) (locks_of u ls)) (not_both t u l far is)

  pub locks_other : (mark : ℕ) (ls : List Lock) → locks_of u (released t mark ls) ≡ locks_of u ls
  locks_other zero [] = refl
  locks_other (suc mark) [] = refl
  locks_other zero (l ∷ ls) = by (is_of t l) refl (locks_other zero ls)
    where
      by : (b : Bool) → is_of t l ≡ b → locks_of u (released t zero ls) ≡ locks_of u ls → locks_of u (cond b (released t zero ls) (l ∷ released t zero ls)) ≡ locks_of u (l ∷ ls)
      by true is rest = rest ∙ sym (passed_over l ls is)
      by false is rest = ap (λ xs. cond (is_of u l) (l ∷ xs) xs) rest
  locks_other (suc mark) (l ∷ ls) = by (is_of t l) (locks_other mark ls) (locks_other (suc mark) ls)
    where
      by : (b : Bool) → locks_of u (released t mark ls) ≡ locks_of u ls → locks_of u (released t (suc mark) ls) ≡ locks_of u ls
          → locks_of u (cond b (l ∷ released t mark ls) (l ∷ released t (suc mark) ls)) ≡ locks_of u (l ∷ ls)
      by true rest more = ap (λ xs. cond (is_of u l) (l ∷ xs) xs) rest
      by false rest more = ap (λ xs. cond (is_of u l) (l ∷ xs) xs) more

-- ---- one transaction changed

module _ (t : TxId) (f : Transaction → Transaction) (keeps : (x : Transaction) → (f x).id ≡ x.id) (d d' : Data) where
  own_other : d'.live ≡ changed t f d.live → (u : TxId) → same_tx t u ≡ false → own d' u ≡ own d u
  own_other is u far = ap (λ live. unwrap_or (find (is_named u) live) (not_begun u)) is ∙ ap (λ o. unwrap_or o (not_begun u)) (find-other t f keeps u d.live far)

  pub touches : names_of d'.live ≡ names_of d.live → d'.live ≡ changed t f d.live → (n : ℕ) → d'.locks ≡ released t n d.locks → Touches d d' t
  touches names is n locks = record {
    names = names;
    owns = own_other is;
    locks = λ u far. ap (locks_of u) locks ∙ locks_other t u far n d.locks;
  }

  pub touches_live : names_of d'.live ≡ names_of d.live → d'.live ≡ changed t f d.live → d'.locks ≡ d.locks → Touches d d' t
  touches_live names is locks = record { names = names; owns = own_other is; locks = λ u far. ap (locks_of u) locks }

pub touches_same : (d d' : Data) (t : TxId) → d' ≡ d → Touches d d' t
touches_same d d' t is = subst (λ e. Touches d e t) (sym is) (record { names = refl; owns = λ u far. refl; locks = λ u far. refl })

module _ (d d' : Data) (t : TxId) (names : names_of d'.live ≡ names_of d.live) where
  pub rolled_back : d' ≡ after_rollback d t → Touches d d' t
  rolled_back is = touches t ended (λ x. refl) d d' names (ap (λ (e : Data). e.live) is) 0 (ap (λ (e : Data). e.locks) is)

  pub settled : d' ≡ after_settle d t → Touches d d' t
  settled is = touches t ended (λ x. refl) d d' names (ap (λ (e : Data). e.live) is) 0 (ap (λ (e : Data). e.locks) is)

  pub saved : (name : List ℕ) → d' ≡ after_savepoint d t name → Touches d d' t
  saved name is = touches_live t (with_savepoint (savepoint_at d t name)) (λ x. refl) d d' names (ap (λ (e : Data). e.live) is) (ap (λ (e : Data). e.locks) is)

  pub went_back : (name : List ℕ) → d' ≡ after_back_to d t name → Touches d d' t
  went_back name is = by (savepoint_named d t name) is
    where
      by : (o : Option Savepoint) → d' ≡ back_to_savepoint d t name o → Touches d d' t
      by None is = touches_same d d' t is
      by (Some s) is = touches t (kept_to name s.changes) (λ x. refl) d d' names (ap (λ (e : Data). e.live) is) s.locks (ap (λ (e : Data). e.locks) is)

  pub back_at_mark : (m : TxMark) → d' ≡ after_mark d t m → Touches d d' t
  back_at_mark m is = touches t (marked m) (λ x. refl) d d' names (ap (λ (e : Data). e.live) is) m.locks (ap (λ (e : Data). e.locks) is)

pub others_others : (d d' d'' : Data) (s : SessionId) → Others d d' s → Others d' d'' s → Others d d'' s
others_others d d' d'' s a b = record {
  stacks = λ r differ. b.stacks r differ ∙ a.stacks r differ;
  owns = λ r differ. b.owns r differ ∙ a.owns r differ;
  locks = λ r differ. b.locks r differ ∙ a.locks r differ;
}

pub others_same : (d : Data) (s : SessionId) → Others d d s
others_same d s = record { stacks = λ r differ. refl; owns = λ r differ. refl; locks = λ r differ. refl }
