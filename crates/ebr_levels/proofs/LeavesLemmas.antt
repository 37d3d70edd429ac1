-- What a statement in a transaction leaves: one step, one after the other, and back to the mark of before.
use Rattle.std.proofs.Common.{◌≡◌, ℕ, ◌+◌, ◌<◌, ◌≤◌, ⊎_elim, Bool, true, false, List, [], ◌∷◌, ◌++◌, Option, Some, None, get_or, length, refl, sym, ap, subst, ◌∙◌, append-nil, length-append, arith}
use Rattle.std.specs.Prelude.{◌==◌, is_some, All, if◌then◌else◌}
use Rattle.std.specs.List.{list_any}
use Rattle.std.proofs.lemmas.Bool.{and_from, both_ways, cases_lt, eq-eqb}
use Rattle.std.proofs.lemmas.List.{take-append-le}
use Rattle.ebr_base.specs.declared.numbers.SessionId.{SessionId}
use Rattle.ebr_base.specs.declared.numbers.TableId.{TableId}
use Rattle.ebr_base.specs.declared.row.Change.{Change}
use Rattle.ebr_base.specs.declared.row.RowId.{RowId}
use Rattle.ebr_base.specs.declared.row.TxId.{TxId}
use Rattle.ebr_base.specs.declared.table.TableDef.{TableDef}
use Rattle.ebr_versions.specs.declared.table.Table.{Table}
use Rattle.ebr_versions.specs.Data.{changes_row, last_change, Latest}
use Rattle.ebr_versions.specs.Keys.{is_added, key_places}
use Rattle.ebr_versions.proofs.DataLemmas.{or_else, last_change-append}
use Rattle.ebr_versions.proofs.LawLemmas.{changes_row_is}
use Rattle.ebr_locks.specs.Locks.{Lock, after_take, holder_of, locks_of, same_tx}
use Rattle.ebr_tx.specs.declared.savepoints.TxMark.{TxMark}
use Rattle.ebr_tx.specs.Data.{Transaction, Data, IsLive, named_at, changed, own}
use Rattle.ebr_tx.specs.Reads.{Sees, seen_by, over, committed}
use Rattle.ebr_tx.specs.Calls.{IsKnown, IsMarkOf, after_begin, begun_at, after_change, with_change, after_lock, after_mark, marked, mark_of}
use Rattle.ebr_tx.proofs.Stays.{stacks-stay}
use Rattle.ebr_tx.proofs.SoundLemmas.{names}
use Rattle.ebr_levels.specs.Keeps.{AreEarly, IsEarly, Keeps, UnderChange}
use Rattle.ebr_levels.specs.Levels.{GoesBack, Leaves}
use Rattle.ebr_levels.proofs.KeepsLemmas.{keeps_same, keeps_keeps, keeps_fewer, keeps_begun, keeps_changed, keeps_locks, keeps_back, spares_back, with_locks}

pub leaves_same : (d : Data) (t : TxId) (under : UnderChange) → Leaves d t under d
leaves_same d t under = record { names = refl; keeps = keeps_same d t under }

pub leaves_equal : (d d' : Data) (t : TxId) (under : UnderChange) → d' ≡ d → Leaves d t under d'
leaves_equal d d' t under is = subst (Leaves d t under) (sym is) (leaves_same d t under)

pub leaves_leaves : (a b c : Data) (t : TxId) (under : UnderChange) → Leaves a t under b → Leaves b t under c → Leaves a t under c
leaves_leaves a b c t under k l = record { names = l.names ∙ k.names; keeps = keeps_keeps a b c t under k.keeps l.keeps }

-- where fewer tables are under change
pub leaves_fewer : (a b : Data) (t : TxId) (under more : UnderChange) → ((x : TableId) → under t x ≡ true → more t x ≡ true) → Leaves a t more b → Leaves a t under b
leaves_fewer a b t under more each l = record { names = l.names; keeps = keeps_fewer a b t under more each l.keeps }

-- ---- what stays

pub leaves_live : (a b : Data) (t u : TxId) (under : UnderChange) → Leaves a t under b → IsLive a u → IsLive b u
leaves_live a b t u under l there = ap (λ ns. list_any (λ n. same_tx n u) ns) l.names ∙ there

pub known_on : (a b : Data) (def : TableDef) → b.tables ≡ a.tables → IsKnown a def → IsKnown b def
known_on a b def same k = record {
  added = ap (λ (ts : List Table). is_added ts def.id) same ∙ k.added;
  key = ap (λ (ts : List Table). key_places ts def.id) same ∙ k.key;
}

-- a table stays known
pub leaves_known_one : (a b : Data) (t : TxId) (under : UnderChange) (def : TableDef) → Leaves a t under b → IsKnown a def → IsKnown b def
leaves_known_one a b t under def l k = known_on a b def l.keeps.tables k

pub leaves_known : (a b : Data) (t : TxId) (under : UnderChange) (tables : List TableDef) → Leaves a t under b → All (IsKnown a) tables → All (IsKnown b) tables
leaves_known a b t under tables l all k e h = leaves_known_one a b t under (get_or tables k e) l (all k e h)

pub leaves_mark : (a b : Data) (t : TxId) (under : UnderChange) (m : TxMark) → IsMarkOf a t m → Leaves a t under b → IsMarkOf b t m
leaves_mark a b t under m h l = record { begun = h.begun; changes = as_many; locks = as_locked }
  where
    as_many : m.changes ≤ length (own b t).changes
    as_many =
        let n : length (own b t).changes ≡ length (own a t).changes + length l.keeps.added = ap (λ (cs : List Change). length cs) l.keeps.changes ∙ length-append (own a t).changes l.keeps.added in
        omega (arith, n, h.changes)

    as_locked : m.locks ≤ length (locks_of t b.locks)
    as_locked =
        let n : length (locks_of t b.locks) ≡ length (locks_of t a.locks) + length l.keeps.locked = ap (λ (ls : List Lock). length ls) l.keeps.locks ∙ length-append (locks_of t a.locks) l.keeps.locked in
        omega (arith, n, h.locks)

-- a mark of a session's own transaction, as one of its call
pub leaves_own_mark : (a b : Data) (t : TxId) (under : UnderChange) (r : SessionId) (m : TxMark) → IsMarkOf a (named_at r 0) m → Leaves a t under b → IsMarkOf b (named_at r 0) m
leaves_own_mark a b t under r m h l =
    ⊎_elim
    (λ (same : t ≡ named_at r 0). subst (λ u. IsMarkOf b u m) same (leaves_mark a b t under m (subst (λ u. IsMarkOf a u m) (sym same) h) l))
    (λ (far : same_tx t (named_at r 0) ≡ false). record {
      begun = h.begun;
      changes = subst (λ (x : Transaction). m.changes ≤ length x.changes) (sym (l.keeps.others (named_at r 0) (below far))) h.changes;
      locks = subst (λ (ls : List Lock). m.locks ≤ length ls) (sym (l.keeps.other_locks (named_at r 0) (below far))) h.locks;
    })
    (names t (named_at r 0))
  where
    below : same_tx t (named_at r 0) ≡ false → r.0 ≡ t.session.0 → 0 < t.depth
    below far e = ⊎_elim (λ (h : 0 < t.depth). h) (λ (h : t.depth ≤ 0). absurd (both_ways (same_tx t (named_at r 0)) far (and_from (t.session.0 == r.0) (t.depth == 0) (eq-eqb t.session.0 r.0 (sym e)) (eq-eqb t.depth 0 (none h))))) (cases_lt 0 t.depth)
      where
        none : t.depth ≤ 0 → t.depth ≡ 0
        none h = omega (arith, h)

-- ---- steps

pub leaves_begun : (d d' : Data) (t : TxId) (under : UnderChange) → IsLive d t → d' ≡ after_begin d t → Leaves d t under d'
leaves_begun d d' t under there is = subst (Leaves d t under) (sym is) (record {
  names = stacks-stay t (begun_at (length d.commits)) (λ x. refl) d.live (changed t (begun_at (length d.commits)) d.live) refl;
  keeps = keeps_begun d t under there;
})

pub leaves_changed : (d d' : Data) (t : TxId) (under : UnderChange) (c : Change) → IsLive d t → under t c.row.table ≡ false → d' ≡ after_change d t c → Leaves d t under d'
leaves_changed d d' t under c there off is = subst (Leaves d t under) (sym is) (record {
  names = stacks-stay t (with_change c) (λ x. refl) d.live (changed t (with_change c) d.live) refl;
  keeps = keeps_changed d t under there c off;
})

pub leaves_with_locks : (d d' : Data) (t : TxId) (under : UnderChange) (rows : List RowId) → d' ≡ with_locks d t rows → Leaves d t under d'
leaves_with_locks d d' t under rows is = subst (Leaves d t under) (sym is) (record { names = refl; keeps = keeps_locks d t under rows })

pub leaves_lock : (d d' : Data) (t : TxId) (under : UnderChange) (row : RowId) → d' ≡ after_lock d t row → Leaves d t under d'
leaves_lock d d' t under row is = subst (Leaves d t under) (sym is) (by (changes_row row (own d t).changes) (holder_of row d.locks))
  where
    by : (b : Bool) (h : Option TxId) → Leaves d t under (record d { locks = if b then d.locks else after_take h row t d.locks })
    by true h = leaves_same d t under
    by false (Some u) = leaves_same d t under
    by false None = leaves_with_locks d (with_locks d t (row ∷ [])) t under (row ∷ []) refl

-- back to the mark that was taken before
pub leaves_back : (before now after : Data) (t : TxId) (under : UnderChange) (m : TxMark) → m ≡ mark_of before t → IsLive before t → Leaves before t under now → after ≡ after_mark now t m → Leaves before t under after
leaves_back before now after t under m taken there l is =
    subst (Leaves before t under) (sym (is ∙ ap (after_mark now t) taken)) (record {
      names = stacks-stay t (marked (mark_of before t)) (λ x. refl) now.live (changed t (marked (mark_of before t)) now.live) refl ∙ l.names;
      keeps = keeps_back before now t under (leaves_live before now t t under l there) l.keeps;
    })

-- it has gone back to its beginning
pub goes_back_same : (d : Data) (t : TxId) → GoesBack d t d
goes_back_same d t = record {
  names = refl;
  spares = record { tables = refl; committed = []; commits = sym (append-nil d.commits); owns = λ u low. refl; locks = λ u low. refl; early = λ e. e };
}

pub goes_back : (before now after : Data) (t : TxId) (under : UnderChange) (m : TxMark) → m ≡ mark_of before t → IsLive before t → Leaves before t under now → after ≡ after_mark now t m → GoesBack before t after
goes_back before now after t under m taken there l is =
    subst (GoesBack before t) (sym (is ∙ ap (after_mark now t) taken)) (record {
      names = stacks-stay t (marked (mark_of before t)) (λ x. refl) now.live (changed t (marked (mark_of before t)) now.live) refl ∙ l.names;
      spares = spares_back before now t under (leaves_live before now t t under l there) l.keeps;
    })

-- ---- what the transaction sees

none_from : (o : Option Change) → false ≡ is_some o → o ≡ None
none_from None e = refl
none_from (Some c) e = cc

spared_row : (row : RowId) (xs ys : List Change) → changes_row row ys ≡ false → last_change row (xs ++ ys) ≡ last_change row xs
spared_row row xs ys spared =
    last_change-append row xs ys ∙ ap (λ o. or_else o (last_change row xs)) (none_from (last_change row ys) (sym spared ∙ changes_row_is row ys))

as_committed : (begun : Option ℕ) (xs ys : List (List Change)) (row : RowId) → is_some begun ≡ true → IsEarly begun (length xs) → committed (xs ++ ys) begun row ≡ committed xs begun row
as_committed None xs ys row some early = cc
as_committed (Some n) xs ys row some early = ap (λ cs. Latest cs row) (take-append-le n xs ys early)

pub keeps_sees : (a b : Data) (t : TxId) (under : UnderChange) (row : RowId) → AreEarly a → is_some (own a t).begun ≡ true → under t row.table ≡ true → Keeps a t under b → Sees b t row ≡ Sees a t row
keeps_sees a b t under row early begun on k =
    ap (λ cs. seen_by cs (own b t) row) k.commits
    ∙ ap (λ cs. over (last_change row cs) (committed (a.commits ++ k.committed) (own b t).begun row)) k.changes
    ∙ ap (λ o. over o (committed (a.commits ++ k.committed) (own b t).begun row)) (spared_row row (own a t).changes k.added (k.spared row on))
    ∙ ap (λ n. over (last_change row (own a t).changes) (committed (a.commits ++ k.committed) n row)) (k.begun begun)
    ∙ ap (over (last_change row (own a t).changes)) (as_committed (own a t).begun a.commits k.committed row begun (early t))
