-- The integrity of the data, where a transaction begins, goes back, ends or changes a row, and where one is opened or closed.
use Rattle.std.proofs.Common.{◌≡◌, ◌≢◌, ℕ, ◌<◌, Bool, true, false, cond, List, [], ◌∷◌, ◌++◌, Option, Some, None, length, refl, sym, ap, subst, ◌∙◌, append-nil, arith}
use Rattle.std.specs.Prelude.{find, unwrap_or}
use Rattle.std.specs.List.{AllByRecursion, list_any}
use Rattle.std.proofs.lemmas.Bool.{or_parts}
use Rattle.std.proofs.lemmas.List.Concat.{flat_map-append}
use Rattle.std.proofs.lemmas.List.Elements.{recursion_from_All}
use Rattle.ebr_base.specs.declared.numbers.SessionId.{SessionId}
use Rattle.ebr_base.specs.declared.row.Change.{Change}
use Rattle.ebr_base.specs.declared.row.TxId.{TxId}
use Rattle.ebr_versions.specs.Data.{changes_in, changes_row}
use Rattle.ebr_versions.specs.Keys.{KeysDiffer}
use Rattle.ebr_locks.specs.Locks.{same_tx}
use Rattle.ebr_tx.specs.Commits.{IsAllowedOf, IsNumbered, IsThere}
use Rattle.ebr_tx.specs.declared.savepoints.Savepoint.{Savepoint}
use Rattle.ebr_tx.specs.declared.savepoints.TxMark.{TxMark}
use Rattle.ebr_tx.specs.Data.{Transaction, Data, IsLive, changed, is_named, named_at, names_of, not_begun, own, stack_of}
use Rattle.ebr_tx.specs.Calls.{after_back_to, after_begin, after_change, after_mark, after_pop, after_push, after_rollback, after_savepoint, after_settle, back_to_savepoint, begun_at, ended, kept_to, marked, savepoint_at, savepoint_named, top, with_change, with_commit, with_savepoint}
use Rattle.ebr_tx.specs.inside.Sound.{IsSound, MayAdd}
use Rattle.ebr_tx.proofs.FreeKeys.{keys_differ}
use Rattle.ebr_tx.proofs.Kept.{sound_back_to, sound_begun, sound_changed_more, sound_done, sound_ended, sound_marked, sound_pushed, sound_removed, sound_savepoint}
use Rattle.ebr_tx.proofs.SoundLemmas.{own_found}
use Rattle.ebr_integrity.specs.Integrity.{HasIntegrity, IsOfAdded, IsIntactBy, changes_of}
use Rattle.ebr_integrity.proofs.ChangeLemmas.{all_append, all_weaker}
use Rattle.ebr_integrity.proofs.OrderLemmas.{order_changed, order_cut, order_kept, order_pushed, order_removed, order_settled}

-- ---- a transaction that isn't live

unchanged : (t : TxId) (f : Transaction → Transaction) (xs : List Transaction) → list_any (λ n. same_tx n t) (names_of xs) ≡ false → changed t f xs ≡ xs
unchanged t f [] e = refl
unchanged t f (x ∷ xs) e =
    let parts = or_parts (same_tx x.id t) (list_any (λ n. same_tx n t) (names_of xs)) e in
    ap (λ b. cond b (f x ∷ xs) (x ∷ changed t f xs)) parts.0 ∙ ap (λ ys. x ∷ ys) (unchanged t f xs parts.1)

none_found : (t : TxId) (xs : List Transaction) → list_any (λ n. same_tx n t) (names_of xs) ≡ false → find (is_named t) xs ≡ None
none_found t [] e = refl
none_found t (x ∷ xs) e =
    let parts = or_parts (same_tx x.id t) (list_any (λ n. same_tx n t) (names_of xs)) e in
    ap (λ b. cond b (Some x) (find (is_named t) xs)) parts.0 ∙ none_found t xs parts.1

-- what has changes is live
pub live_of : (t : TxId) (live : List Transaction) (c : Change) (cs : List Change) → changes_of live t ≡ c ∷ cs → list_any (λ n. same_tx n t) (names_of live) ≡ true
live_of t live c cs e = by (list_any (λ n. same_tx n t) (names_of live)) refl
  where
    by : (b : Bool) → list_any (λ n. same_tx n t) (names_of live) ≡ b → b ≡ true
    by true is = refl
    by false is = absurd (nothing (sym (ap (λ (o : Option Transaction). (unwrap_or o (not_begun t)).changes) (none_found t live is)) ∙ e))
      where
        nothing : [] ≡ c ∷ cs → ⊥
        nothing h = cc

-- ---- each call

module _ (P : Change → Type 0) (d : Data) (h : IsIntactBy P d) (t : TxId) where
  sound_step : (f : Transaction → Transaction) → (IsLive d t → IsSound d.commits d.tables (changed t f d.live)) → IsSound d.commits d.tables (changed t f d.live)
  sound_step f so = by (list_any (λ n. same_tx n t) (names_of d.live)) refl
    where
      by : (b : Bool) → list_any (λ n. same_tx n t) (names_of d.live) ≡ b → IsSound d.commits d.tables (changed t f d.live)
      by true e = so e
      by false e = subst (IsSound d.commits d.tables) (sym (unchanged t f d.live e)) h.sound

  pub intact_begun : IsIntactBy P (after_begin d t)
  intact_begun = record {
    sound = sound_step (begun_at (length d.commits)) (λ there. sound_begun d.commits d.tables d.live t (length d.commits) there h.sound);
    keys = h.keys;
    numbered = h.numbered;
    added = h.added;
    orderly = order_kept t (begun_at (length d.commits)) (λ x. refl) d.live P d.commits h.orderly refl;
  }

  pub intact_marked : (m : TxMark) → (m.begun ≡ None → m.changes ≡ 0) → IsIntactBy P (after_mark d t m)
  intact_marked m first = record {
    sound = sound_step (marked m) (λ there. sound_marked d.commits d.tables d.live t m there first h.sound);
    keys = h.keys;
    numbered = h.numbered;
    added = h.added;
    orderly = order_cut t (marked m) (λ x. refl) d.live P d.commits h.orderly m.changes refl;
  }

  pub intact_saved : (name : List ℕ) → IsIntactBy P (after_savepoint d t name)
  intact_saved name = record {
    sound = sound_step (with_savepoint (savepoint_at d t name)) (λ there. sound_savepoint d.commits d.tables d.live t (savepoint_at d t name) there h.sound);
    keys = h.keys;
    numbered = h.numbered;
    added = h.added;
    orderly = order_kept t (with_savepoint (savepoint_at d t name)) (λ x. refl) d.live P d.commits h.orderly refl;
  }

  pub intact_went_back : (name : List ℕ) → IsIntactBy P (after_back_to d t name)
  intact_went_back name = by (savepoint_named d t name)
    where
      by : (o : Option Savepoint) → IsIntactBy P (back_to_savepoint d t name o)
      by None = h
      by (Some s) = record {
        sound = sound_step (kept_to name s.changes) (λ there. sound_back_to d.commits d.tables d.live t name s.changes there h.sound);
        keys = h.keys;
        numbered = h.numbered;
        added = h.added;
        orderly = order_cut t (kept_to name s.changes) (λ x. refl) d.live P d.commits h.orderly s.changes refl;
      }

  pub intact_rolled_back : IsIntactBy P (after_rollback d t)
  intact_rolled_back = record {
    sound = sound_step ended (λ there. sound_ended d.commits d.tables d.live t there h.sound);
    keys = h.keys;
    numbered = h.numbered;
    added = h.added;
    orderly = order_cut t ended (λ x. refl) d.live P d.commits h.orderly 0 refl;
  }

  pub intact_changed : (c : Change) → MayAdd d.commits d.tables d.live t (own d t) c → P c → IsThere d.commits (own d t).changes c
      → ((u : TxId) → t ≢ u → changes_row c.row (own d u).changes ≡ false) → IsIntactBy P (after_change d t c)
  intact_changed c may fine there spared = record {
    sound = sound_step (with_change c) (λ live. sound_changed_more d.commits d.tables d.live t c live h.sound may);
    keys = h.keys;
    numbered = h.numbered;
    added = h.added;
    orderly = order_changed P d.commits d.live h.orderly t c fine there spared;
  }

  -- ---- a commit

  module _ (c : Change) (cs : List Change) (is : changes_of d.live t ≡ c ∷ cs) where
    there_now : IsLive d t
    there_now = live_of t d.live c cs is

    abbrev mine : List Change
    mine = changes_of d.live t

    settled_keys : KeysDiffer (d.commits ++ mine ∷ []) d.tables
    settled_keys = keys_differ d.commits d.tables mine h.keys (h.sound.free t (own d t) (own_found t d.live there_now))

    joined : changes_in (d.commits ++ mine ∷ []) ≡ changes_in d.commits ++ mine
    joined = flat_map-append (λ (xs : List Change). xs) d.commits (mine ∷ []) ∙ ap (λ xs. changes_in d.commits ++ xs) (append-nil mine)

    -- what the transaction has changed may be committed
    pub commit_allowed : IsAllowedOf P d.tables d.commits (c ∷ cs)
    commit_allowed = subst (IsAllowedOf P d.tables d.commits) is (record {
      some = subst (λ xs. 0 < length xs) (sym is) some;
      few = h.sound.few t (own d t) (own_found t d.live there_now);
      each = h.orderly.each t;
      there = h.orderly.there t;
      keys = settled_keys;
    })
      where
        some : 0 < length (c ∷ cs)
        some = omega arith

    settled : ((e : Change) → P e → IsNumbered e) → HasIntegrity P (d.commits ++ mine ∷ []) d.tables (changed t ended d.live)
    settled num = record {
      sound = subst (λ xs. IsSound xs d.tables (changed t ended d.live)) (ap (with_commit d.commits) is ∙ ap (λ xs. d.commits ++ xs ∷ []) (sym is)) (sound_done d.commits d.tables d.live t there_now h.sound);
      keys = settled_keys;
      numbered = subst (AllByRecursion IsNumbered) (sym joined) (all_append IsNumbered (changes_in d.commits) mine h.numbered (all_weaker P IsNumbered num mine (h.orderly.each t)));
      added = subst (AllByRecursion (IsOfAdded d.tables)) (sym joined) (all_append (IsOfAdded d.tables) (changes_in d.commits) mine h.added (recursion_from_All (IsOfAdded d.tables) mine (h.sound.added t (own d t) (own_found t d.live there_now))));
      orderly = order_settled P d.commits d.live h.orderly t;
    }

  pub intact_settled : ((e : Change) → P e → IsNumbered e) → IsIntactBy P (after_settle d t)
  intact_settled num = by (changes_of d.live t) refl
    where
      by : (cs : List Change) → changes_of d.live t ≡ cs → HasIntegrity P (with_commit d.commits cs) d.tables (changed t ended d.live)
      by [] e = intact_rolled_back
      by (c ∷ cs) e = subst (λ xs. HasIntegrity P (d.commits ++ xs ∷ []) d.tables (changed t ended d.live)) e (settled c cs e num)

-- ---- one opened, and one closed

module _ (P : Change → Type 0) (d : Data) (h : IsIntactBy P d) (s : SessionId) where
  pub intact_pushed : IsIntactBy P (after_push d s)
  intact_pushed = record {
    sound = sound_pushed d.commits d.tables d.live (named_at s (length (stack_of (names_of d.live) s))) h.sound;
    keys = h.keys;
    numbered = h.numbered;
    added = h.added;
    orderly = order_pushed P d.commits d.live (named_at s (length (stack_of (names_of d.live) s))) h.orderly;
  }

  pub intact_popped : IsIntactBy P (after_pop d s)
  intact_popped = record {
    sound = sound_removed d.commits d.tables d.live (top d s) h.sound;
    keys = h.keys;
    numbered = h.numbered;
    added = h.added;
    orderly = order_removed P d.commits d.live (top d s) h.orderly;
  }

-- ---- a change that is no longer as it was

-- The changes are as changes may be in another sense.
pub intact_weaker : (P Q : Change → Type 0) (d : Data) → ((t : TxId) → AllByRecursion P (changes_of d.live t) → AllByRecursion Q (changes_of d.live t)) → IsIntactBy P d → IsIntactBy Q d
intact_weaker P Q d f h = record {
  sound = h.sound;
  keys = h.keys;
  numbered = h.numbered;
  added = h.added;
  orderly = record { each = λ t. f t (h.orderly.each t); there = h.orderly.there; apart = h.orderly.apart };
}
