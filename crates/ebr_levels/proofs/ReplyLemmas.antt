-- No transaction of a database began later than now, whatever is asked of it.
use Rattle.std.proofs.Common.{◌≡◌, ℕ, zero, suc, ◌+◌, ◌-◌, ◌≤◌, Bool, true, false, List, [], ◌∷◌, ◌++◌, Option, Some, None, Ok, Err, length, refl, sym, ap, subst, ◌∙◌, length-append, arith}
use Rattle.std.specs.Prelude.{◌||◌, ◌&&◌, nat_lt, if◌then◌else◌, IfSome, find, option_map, replicate, slice_get, slice_set, unwrap_or}
use Rattle.std.specs.List.{filter_map}
use Rattle.std.proofs.lemmas.List.Elements.{filter_map-append}
use Rattle.ebr_base.specs.declared.code.Code.{Code}
use Rattle.ebr_base.specs.declared.numbers.EditionNo.{EditionNo}
use Rattle.ebr_base.specs.declared.numbers.SessionId.{SessionId}
use Rattle.ebr_base.specs.declared.row.Change.{Change}
use Rattle.ebr_base.specs.declared.row.TxId.{TxId}
use Rattle.ebr_tx.specs.declared.savepoints.Savepoint.{Savepoint}
use Rattle.ebr_tx.specs.declared.savepoints.TxMark.{TxMark}
use Rattle.ebr_tx.specs.Data.{Data, is_named, named_at, not_begun, own}
use Rattle.ebr_tx.specs.Calls.{HasNotBegun, after_back_to, after_mark, after_pop, after_push, after_rollback, after_savepoint, after_settle, back_to_savepoint, first_transactions, levels, mark_of, push_refusal, savepoint_named, with_commit}
use Rattle.ebr_tx.proofs.Stays.{first-begun}
use Rattle.ebr_record.specs.declared.record.Record.{Record}
use Rattle.ebr_asks.specs.declared.ask.Ask.{Ask}
use Rattle.ebr_asks.specs.declared.answer.Answer.{Answer}
use Rattle.ebr_database.specs.Base.{Base}
use Rattle.ebr_database.specs.Database.{Session, Database, after_outcome, at_back, at_end, base_in, commit_in, counted, data_of, is_done, moved_back, on_top, own_on_top, replied, reply_back_to, reply_commit, reply_pop, reply_push, reply_rollback, reply_savepoint, session_at, with_session}
use Rattle.ebr_database.specs.Outcome.{Outcome}
use Rattle.ebr_database.specs.ReadBack.{AreReadBack, IsReadBack}
use Rattle.ebr_database.specs.Transact.{Done, back_to, commit, keep_changes, pop, push, pushed, roll_back, savepoint, settled}
use Rattle.ebr_seats.specs.Ends.{all_undone, back_where, begun_in, call_opened, closed_from_top, own_of, reply_end, reply_leave, with_live}
use Rattle.ebr_levels.specs.Beginnings.{HasEarly, HasEarlyCall}
use Rattle.ebr_levels.specs.Keeps.{AreEarly, IsEarly}
use Rattle.ebr_levels.proofs.EndLemmas.{early_closed}
use Rattle.ebr_levels.proofs.EarlyLemmas.{early_marked, early_not_begun, early_popped, early_pushed, early_rolled_back, early_saved, early_settled, early_went_back, still_early}

-- ---- the marks of the sessions

call_later : (count more : ℕ) → count ≤ more → (x : Session) → HasEarlyCall count x → HasEarlyCall more x
call_later count more h x early = by x.call early
  where
    by : (call : Option TxMark) → IfSome call (λ m. IsEarly m.begun count) → IfSome call (λ m. IsEarly m.begun more)
    by None e = tt
    by (Some m) e = still_early m.begun count more h e

session_later : (count more : ℕ) → count ≤ more → (o : Option Session) → IfSome o (HasEarlyCall count) → IfSome o (HasEarlyCall more)
session_later count more h None e = tt
session_later count more h (Some x) e = call_later count more h x e

set_one : (P : Session → Type 0) (xs : List Session) (k n : ℕ) (y : Session) → P y → IfSome (slice_get xs n) P → IfSome (slice_get (slice_set xs k y) n) P
set_one P [] k n y new h = h
set_one P (z ∷ zs) zero zero y new h = new
set_one P (z ∷ zs) zero (suc n) y new h = h
set_one P (z ∷ zs) (suc k) zero y new h = h
set_one P (z ∷ zs) (suc k) (suc n) y new h = set_one P zs k n y new h

with_one : (P : Session → Type 0) (sessions : List Session) (k : ℕ) (y : Session) → P y → ((n : ℕ) → IfSome (session_at sessions n) P) → (n : ℕ) → IfSome (session_at (slice_set sessions k y) n) P
with_one P sessions k y new all zero = tt
with_one P sessions k y new all (suc n) = set_one P sessions k n y new (all (suc n))

mark_there : (sessions : List Session) (s : SessionId) (x : Session) (count : ℕ) → session_at sessions s.0 ≡ Some x → ((n : ℕ) → IfSome (session_at sessions n) (HasEarlyCall count)) → HasEarlyCall count x
mark_there sessions s x count there marks = subst (λ o. IfSome o (HasEarlyCall count)) there (marks s.0)

-- ---- more records, and other transactions

early_alike : (d d' : Data) → d'.live ≡ d.live → length d.commits ≤ length d'.commits → AreEarly d → AreEarly d'
early_alike d d' is more early u =
    subst (λ live. IsEarly (unwrap_or (find (is_named u) live) (not_begun u)).begun (length d'.commits)) (sym is) (still_early (own d u).begun (length d.commits) (length d'.commits) more (early u))

more_records : (rs made : List Record) → length (filter_map commit_in rs) ≤ length (filter_map commit_in (rs ++ made))
more_records rs made =
    let e : length (filter_map commit_in (rs ++ made)) ≡ length (filter_map commit_in rs) + length (filter_map commit_in made) =
    ap (λ (cs : List (List Change)). length cs) (filter_map-append commit_in rs made) ∙ length-append (filter_map commit_in rs) (filter_map commit_in made) in
    omega (arith, e)

-- the database with more records, as a definition makes them
pub early_records : (db : Database) (made : List Record) → HasEarly db → HasEarly (record db { records = db.records ++ made })
early_records db made h = record {
  early = early_alike (data_of db) (data_of (record db { records = db.records ++ made })) refl (more_records db.records made) h.early;
  marks = λ n. session_later (length (data_of db).commits) (length (filter_map commit_in (db.records ++ made))) (more_records db.records made) (session_at db.sessions n) (h.marks n);
}

-- the database after a statement
pub early_ran : {A : Type 0} (db : Database) (o : Outcome Base A) → AreEarly (data_of (after_outcome db o)) → HasEarly db → HasEarly (after_outcome db o)
early_ran db o early h = record {
  early = early;
  marks = λ n. session_later (length (data_of db).commits) (length (filter_map commit_in (db.records ++ o.made))) (more_records db.records o.made) (session_at db.sessions n) (h.marks n);
}

-- the session is another
pub early_session : (db : Database) (s : SessionId) (x : Session) → HasEarlyCall (length (data_of db).commits) x → HasEarly db → HasEarly (with_session db s x)
early_session db s x call h = record { early = h.early; marks = with_one (HasEarlyCall (length (data_of db).commits)) db.sessions (s.0 - 1) x call h.marks }

-- another of its numbers, or its edition
pub early_same_call : (db : Database) (s : SessionId) (x y : Session) → session_at db.sessions s.0 ≡ Some x → y.call ≡ x.call → HasEarly db → HasEarly (with_session db s y)
early_same_call db s x y there same h =
    early_session db s y (subst (λ call. IfSome call (λ (m : TxMark). IsEarly m.begun (length (data_of db).commits))) (sym same) (mark_there db.sessions s x (length (data_of db).commits) there h.marks)) h

-- ---- the first database

pub early_first : (db : Database) (n : ℕ) (e : EditionNo) → db.live ≡ first_transactions n → db.sessions ≡ replicate n (begun_in e) → HasEarly db
early_first db n e live sessions = record {
  early = early_not_begun (data_of db) (subst (λ xs. HasNotBegun (record { commits = []; tables = []; live = xs; locks = [] })) (sym live) (first-begun n));
  marks = subst (λ xs. (k : ℕ) → IfSome (session_at xs k) (HasEarlyCall (length (data_of db).commits))) (sym sessions) (none n);
}
  where
    at : (n k : ℕ) → IfSome (slice_get (replicate n (begun_in e)) k) (HasEarlyCall (length (data_of db).commits))
    at zero k = tt
    at (suc n) zero = tt
    at (suc n) (suc k) = at n k

    none : (n k : ℕ) → IfSome (session_at (replicate n (begun_in e)) k) (HasEarlyCall (length (data_of db).commits))
    none n zero = tt
    none n (suc k) = at n k

-- ---- the asks for transactions

module _ (db : Database) (s : SessionId) (h : HasEarly db) where
  abbrev d : Data
  d = data_of db

  -- what an outcome replies
  by_outcome : (o : Outcome Base Done) (x : Session) → IsReadBack db o → AreEarly o.state.data_now → HasEarlyCall (length o.state.data_now.commits) x → HasEarly (replied db s x o).database
  by_outcome o x back early call =
      let is : data_of (after_outcome db o) ≡ o.state.data_now = ap (λ (b : Base). b.data_now) back in
      early_session (after_outcome db o) s x (subst (λ (e : Data). HasEarlyCall (length e.commits) x) (sym is) call) (early_ran db o (subst AreEarly (sym is) early) h)

  ended_call : (b : Bool) (x : Session) (count : ℕ) → HasEarlyCall count x → HasEarlyCall count (at_end b x)
  ended_call false x count call = call
  ended_call true x count call = by x.call
    where
      by : (c : Option TxMark) → IfSome (option_map (λ (m : TxMark). record { begun = None; changes = 0; locks = 0; savepoints = [] }) c) (λ (m : TxMark). IsEarly m.begun count)
      by None = tt
      by (Some m) = tt

  moved_call : (b : Bool) (now : TxMark) (x : Session) (count : ℕ) → IsEarly now.begun count → HasEarlyCall count x → HasEarlyCall count (at_back b now x)
  moved_call false now x count mine call = call
  moved_call true now x count mine call = by x.call call
    where
      one : (b : Bool) (m : TxMark) → IsEarly m.begun count → IsEarly (if b then now else m).begun count
      one true m e = mine
      one false m e = e

      by : (c : Option TxMark) → IfSome c (λ m. IsEarly m.begun count) → IfSome (option_map (moved_back now) c) (λ (m : TxMark). IsEarly m.begun count)
      by None e = tt
      by (Some m) e = one (nat_lt now.changes m.changes || nat_lt now.locks m.locks) m e

  settled_early : (t : TxId) (v : Done) (used : ℕ) → AreEarly (settled t d v used).state.data_now
  settled_early t (Ok u) used = early_settled d (after_settle d t) t refl h.early
  settled_early t (Err code) used = h.early

  settled_more : (t : TxId) (v : Done) (used : ℕ) → length d.commits ≤ length (settled t d v used).state.data_now.commits
  settled_more t (Ok u) used = by (own d t).changes
    where
      by : (cs : List Change) → length d.commits ≤ length (with_commit d.commits cs)
      by [] = omega arith
      by (c ∷ cs) = omega (arith, length-append d.commits ((c ∷ cs) ∷ []))
  settled_more t (Err code) used = omega arith

  pushed_early : (o : Option Code) → AreEarly (pushed o s (base_in db)).state.data_now
  pushed_early None = early_pushed d (after_push d s) s refl h.early
  pushed_early (Some code) = h.early

  module _ (x : Session) (there : session_at db.sessions s.0 ≡ Some x) where
    call_there : HasEarlyCall (length d.commits) x
    call_there = mark_there db.sessions s x (length d.commits) there h.marks

    pub early_opened : HasEarly (call_opened db s x)
    early_opened = early_session db s (record x { call = Some (mark_of d (own_of s)) }) (h.early (own_of s)) h

    pub early_counted : (ask : Ask) (a : Answer) → HasEarly (with_session db s (counted ask a x))
    early_counted ask a = early_same_call db s x (counted ask a x) there refl h

    module _ (back : AreReadBack db) where
      abbrev t : TxId
      t = on_top db s

      pub early_commit : HasEarly (reply_commit db s x).database
      early_commit =
          let o : Outcome Base Done = commit t (base_in db) in
          let kc : Outcome ℕ Done = keep_changes (own d t).changes (base_in db).used in
          by_outcome o (at_end (own_on_top d s && is_done o.value) x) (back.commit t) (settled_early t kc.value kc.state)
          (ended_call (own_on_top d s && is_done o.value) x (length o.state.data_now.commits)
          (call_later (length d.commits) (length o.state.data_now.commits) (settled_more t kc.value kc.state) x call_there))

      pub early_rollback : HasEarly (reply_rollback db s x).database
      early_rollback =
          let o : Outcome Base Done = roll_back t (base_in db) in
          by_outcome o (at_end (own_on_top d s && is_done o.value) x) (back.roll_back t) (early_rolled_back d (after_rollback d t) t refl h.early)
          (ended_call (own_on_top d s && is_done o.value) x (length d.commits) call_there)

      pub early_savepoint : (name : List ℕ) → HasEarly (reply_savepoint db s x name).database
      early_savepoint name = by_outcome (savepoint t name (base_in db)) x (back.savepoint t name) (early_saved d (after_savepoint d t name) t name refl h.early) call_there

      pub early_back_to : (name : List ℕ) → HasEarly (reply_back_to db s x name).database
      early_back_to name =
          let o : Outcome Base Done = back_to t name (base_in db) in
          let early : AreEarly o.state.data_now = early_went_back d (after_back_to d t name) t name refl h.early in
          by_outcome o (at_back (own_on_top d s) (mark_of o.state.data_now (named_at s 0)) x) (back.back_to t name) early
          (moved_call (own_on_top d s) (mark_of o.state.data_now (named_at s 0)) x (length o.state.data_now.commits) (early (named_at s 0))
          (call_later (length d.commits) (length o.state.data_now.commits) (went_more (savepoint_named d t name)) x call_there))
        where
          went_more : (o : Option Savepoint) → length d.commits ≤ length (back_to_savepoint d (on_top db s) name o).commits
          went_more None = omega arith
          went_more (Some p) = omega arith

      pub early_push : HasEarly (reply_push db s x).database
      early_push =
          let o : Outcome Base Done = push s (base_in db) in
          by_outcome o x (back.push s) (pushed_early (push_refusal d s)) (call_later (length d.commits) (length o.state.data_now.commits) (push_more (push_refusal d s)) x call_there)
        where
          push_more : (o : Option Code) → length d.commits ≤ length (pushed o s (base_in db)).state.data_now.commits
          push_more None = omega arith
          push_more (Some code) = omega arith

      pub early_pop : (failed : Bool) → HasEarly (reply_pop db s x failed).database
      early_pop failed = by_outcome (pop s failed (base_in db)) x (back.pop s failed) (early_popped d (after_pop d s) s refl h.early) call_there

    -- ---- the ends

    pub early_end : (failed : Bool) → HasEarly (reply_end db s x failed).database
    early_end failed = by failed x.call call_there
      where
        without : (e : Data) → AreEarly (data_of (with_live db e)) → HasEarly (with_session (with_live db e) s (record x { call = None }))
        without e early = early_session (with_live db e) s (record x { call = None }) tt (record { early = early; marks = h.marks })

        by : (failed : Bool) (call : Option TxMark) → IfSome call (λ m. IsEarly m.begun (length d.commits))
            → HasEarly (with_session (with_live db (back_where failed call (own_of s) (data_of db))) s (record x { call = None }))
        by true (Some m) mine = without (after_mark d (own_of s) m) (early_marked d (after_mark d (own_of s) m) (own_of s) m refl mine h.early)
        by true None mine = without d h.early
        by false call mine = without d h.early

    pub early_leave : HasEarly (reply_leave db s x).database
    early_leave =
        let e : Data = all_undone s d in
        early_session (with_live db e) s (record x { edition = None; call = None }) tt (record {
          early = early_alike e (data_of (with_live db e)) refl undone_count (early_rolled_back (closed_from_top (levels d s) s d) e (own_of s) refl (early_closed (levels d s) s d h.early));
          marks = h.marks;
        })
      where
        closed_commits : (n : ℕ) (d : Data) → (closed_from_top n s d).commits ≡ d.commits
        closed_commits zero d = refl
        closed_commits (suc n) d = closed_commits n (after_pop d s)

        undone_count : length (all_undone s (data_of db)).commits ≤ length (data_of db).commits
        undone_count = let n : length (all_undone s (data_of db)).commits ≡ length (data_of db).commits = ap (λ (cs : List (List Change)). length cs) (closed_commits (levels (data_of db) s) (data_of db)) in omega (arith, n)
