-- A database stays consistent where a session has done something, and the others are as they were.
use Rattle.std.proofs.Common.{◌≡◌, ℕ, zero, suc, ◌+◌, ◌-◌, ◌≤◌, ◌⊎◌, inl, inr, ⊎_elim, Bool, true, false, List, [], length, refl, sym, ap, subst, ◌∙◌, append-nil, length-append, arith}
use Rattle.std.specs.Prelude.{◌==◌, IfSome, Option, Some, None, slice_set}
use Rattle.std.specs.List.{filter_map}
use Rattle.std.proofs.lemmas.Bool.{eqb-true, eqb-false}
use Rattle.std.proofs.lemmas.Option.{same_Some}
use Rattle.ebr_base.specs.declared.numbers.SessionId.{SessionId}
use Rattle.ebr_base.specs.declared.row.Change.{Change}
use Rattle.ebr_cross.specs.Catalogue.{Lists}
use Rattle.ebr_editions.specs.declared.entry.EditionEntry.{EditionEntry}
use Rattle.ebr_tx.specs.declared.savepoints.TxMark.{TxMark}
use Rattle.ebr_tx.specs.Data.{Data, names_of, stack_of}
use Rattle.ebr_record.specs.declared.record.Record.{Record}
use Rattle.ebr_database.specs.Base.{Base}
use Rattle.ebr_database.specs.Database.{Database, Session, base_in, commit_in, data_of, session_at, with_session}
use Rattle.ebr_seats.specs.inside.Apart.{Differ}
use Rattle.ebr_seats.proofs.Seated.{at_here, at_there}
use Rattle.ebr_levels.specs.Keeps.{AreEarly}
use Rattle.ebr_levels.proofs.EarlyLemmas.{still_early}
use Rattle.ebr_integrity.specs.Integrity.{IsIntact}
use Rattle.ebr_integrity.specs.inside.Works.{Works}
use Rattle.ebr_integrity.proofs.WorksLemmas.{fit_behind}
use Rattle.ebr_core.specs.Machine.{lists_of}
use Rattle.ebr_allowed.specs.Consistent.{IsConsistent, MarkStands, SessionStands, living_in}
use Rattle.ebr_allowed.proofs.RecordLemmas.{SameStored, allowed_more, commits_allowed, data_back, same_stored, with_made}

-- ---- the sessions

pub session_here : (xs : List Session) (n : ℕ) (x y : Session) → session_at xs n ≡ Some x → session_at (slice_set xs (n - 1) y) n ≡ Some y
session_here xs zero x y is = cc
session_here xs (suc n) x y is = at_here xs (suc n) x y is

pub session_there : (xs : List Session) (n m : ℕ) (x y : Session) → session_at xs n ≡ Some x → (m ≡ n → ⊥) → session_at (slice_set xs (n - 1) y) m ≡ session_at xs m
session_there xs zero m x y is differ = cc
session_there xs (suc n) zero x y is differ = refl
session_there xs (suc n) (suc m) x y is differ = at_there xs (suc n) (suc m) x y is differ

same_session : (r s : SessionId) → r.0 ≡ s.0 → r ≡ s
same_session r s e = λ i. record { 0 = e i }

-- the session itself, or another
one_of : (r s : SessionId) → (r.0 ≡ s.0) ⊎ Differ r s
one_of r s = by (r.0 == s.0) refl
  where
    by : (b : Bool) → (r.0 == s.0) ≡ b → (r.0 ≡ s.0) ⊎ Differ r s
    by true e = inl (eqb-true r.0 s.0 e)
    by false e = inr (eqb-false r.0 s.0 e)

-- ---- what a session is, behind more commits

marks_later : (count more : ℕ) → count ≤ more → (call : Option TxMark) → IfSome call (MarkStands count) → IfSome call (MarkStands more)
marks_later count more h None e = tt
marks_later count more h (Some m) e = record { early = still_early m.begun count more h e.early; first = e.first }

pub stands_later : (editions : List EditionEntry) (d d' : Data) (s : SessionId) (x : Session) → length d.commits ≤ length d'.commits → stack_of (names_of d'.live) s ≡ stack_of (names_of d.live) s
    → SessionStands editions d s x → SessionStands editions d' s x
stands_later editions d d' s x more stack h =
    record { depth = h.depth; stack = stack ∙ h.stack; closed = h.closed; mark = marks_later (length d.commits) (length d'.commits) more x.call h.mark; lives = h.lives }

-- ---- the whole

module _ (db : Database) (s : SessionId) (x : Session) (there : session_at db.sessions s.0 ≡ Some x) (h : IsConsistent db) where
  abbrev editions : List EditionEntry
  editions = (lists_of db).editions.made

  pub mine : SessionStands editions (data_of db) s x
  mine = h.sessions s x there

  module _ (made : List Record) (now : Base) (w : Works (living_in db) (base_in db) made now) (x' : Session) (early : AreEarly now.data_now)
      (stacks : (r : SessionId) → Differ r s → stack_of (names_of now.data_now.live) r ≡ stack_of (names_of db.live) r) (stands : SessionStands editions now.data_now s x') where
    abbrev next : Database
    next = with_session (with_made db made now.data_now) s x'

    stored : SameStored db.records made
    stored = same_stored db.records made (living_in db) (data_of db).tables (data_of db).commits w.allowed

    same_lists : lists_of next ≡ lists_of db
    same_lists = stored.catalogue

    same_data : data_of next ≡ now.data_now
    same_data = data_back db (living_in db) made now w

    more_commits : length (data_of db).commits ≤ length now.data_now.commits
    more_commits =
        let n : length now.data_now.commits ≡ length (data_of db).commits + length (filter_map commit_in made) = ap (λ (cs : List (List Change)). length cs) w.more ∙ length-append (data_of db).commits (filter_map commit_in made) in
        omega (arith, n)

    each : (r : SessionId) (y : Session) → session_at next.sessions r.0 ≡ Some y → SessionStands editions now.data_now r y
    each r y at = ⊎_elim
        (λ (same : r.0 ≡ s.0).
        let is : r ≡ s = same_session r s same in
        let its : x' ≡ y = same_Some x' y (sym (session_here db.sessions s.0 x x' there) ∙ ap (λ (q : SessionId). session_at next.sessions q.0) (sym is) ∙ at) in
        subst (λ q. SessionStands editions now.data_now q y) (sym is) (subst (SessionStands editions now.data_now s) its stands))
        (λ (differ : Differ r s).
        stands_later editions (data_of db) now.data_now r y more_commits (stacks r differ) (h.sessions r y (sym (session_there db.sessions s.0 r.0 x x' there differ) ∙ at)))
        (one_of r s)

    -- the session has done this, and is then so
    pub asked : IsConsistent next
    asked = record {
      records = allowed_more db.records made h.records (commits_allowed db.records made w.allowed);
      fit = subst (λ (c : Lists). IsIntact c.tables.living (data_of next)) (sym same_lists) (subst (IsIntact (living_in db)) (sym same_data) (fit_behind (living_in db) (base_in db) now made w h.fit));
      early = subst AreEarly (sym same_data) early;
      sessions = λ r y at. subst (λ (c : Lists). SessionStands c.editions.made (data_of next) r y) (sym same_lists) (subst (λ d. SessionStands editions d r y) (sym same_data) (each r y at));
    }

-- where the records are as they were
pub none_made : (db : Database) (d : Data) (s : SessionId) (x : Session) → IsConsistent (with_session (with_made db [] d) s x) → IsConsistent (with_session (record db { live = d.live; locks = d.locks }) s x)
none_made db d s x h = subst (λ (rs : List Record). IsConsistent (with_session (record db { records = rs; live = d.live; locks = d.locks }) s x)) (append-nil db.records) h
