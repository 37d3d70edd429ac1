-- The asks for transactions leave a database consistent.
use Rattle.std.proofs.Common.{◌≡◌, ℕ, zero, suc, ◌+◌, ◌≤◌, Bool, true, false, cond, List, [], ◌∷◌, ◌++◌, length, refl, sym, ap, subst, ◌∙◌, append-nil, length-append, arith}
use Rattle.std.specs.List.{filter_map}
use Rattle.std.specs.Prelude.{◌==◌, filter, ◌||◌, ◌&&◌, IfSome, Option, Some, None, find, if◌then◌else◌, is_some, nat_lt, not, option_map, unwrap_or}
use Rattle.std.proofs.lemmas.Bool.{both_ways, eq-eqb, eqb-true, ne_eqb}
use Rattle.std.proofs.lemmas.List.{map-append}
use Rattle.std.proofs.lemmas.List.Elements.{filter-append}
use Rattle.ebr_base.specs.declared.code.Code.{Code}
use Rattle.ebr_base.specs.declared.numbers.EditionNo.{EditionNo}
use Rattle.ebr_base.specs.declared.numbers.SessionId.{SessionId}
use Rattle.ebr_base.specs.declared.row.Change.{Change}
use Rattle.ebr_base.specs.declared.row.TxId.{TxId}
use Rattle.ebr_asks.specs.declared.ask.Ask.{Ask}
use Rattle.ebr_asks.specs.declared.answer.Answer.{Answer}
use Rattle.ebr_editions.specs.declared.entry.EditionEntry.{EditionEntry}
use Rattle.ebr_editions.specs.Editions.{is_living}
use Rattle.ebr_tx.specs.declared.savepoints.Savepoint.{Savepoint}
use Rattle.ebr_tx.specs.declared.savepoints.TxMark.{TxMark}
use Rattle.ebr_tx.specs.Data.{Transaction, Data, is_named, is_of_session, named_at, names_of, not_begun, own, stack_of}
use Rattle.ebr_tx.specs.Calls.{after_back_to, after_mark, after_pop, after_push, after_rollback, after_savepoint, after_settle, back_to_savepoint, ended, kept_to, levels, mark_of, marked, push_refusal, savepoint_at, savepoint_named, top, with_savepoint}
use Rattle.ebr_locks.specs.Locks.{same_tx}
use Rattle.ebr_tx.proofs.Stays.{names-without, stacks-stay}
use Rattle.ebr_record.specs.declared.record.Record.{Record}
use Rattle.ebr_database.specs.Base.{Base}
use Rattle.ebr_database.specs.Outcome.{Outcome}
use Rattle.ebr_database.specs.Database.{Database, Session, at_back, at_end, base_in, commit_in, counted, data_of, is_done, moved_back, on_top, own_on_top, reply_back_to, reply_commit, reply_pop, reply_push, reply_rollback, reply_savepoint, session_at, with_session}
use Rattle.ebr_database.specs.Transact.{Done, commit, pushed, roll_back}
use Rattle.ebr_seats.specs.Ends.{back_where, call_opened, closed_from_top, own_of, reply_end, reply_leave, with_live}
use Rattle.ebr_seats.specs.Seats.{stack_to}
use Rattle.ebr_seats.specs.inside.Apart.{Differ}
use Rattle.ebr_seats.proofs.Levels.{pop_others, pop_stack}
use Rattle.ebr_seats.proofs.Stacks.{levels_are, stack_length, top_is}
use Rattle.ebr_levels.specs.Keeps.{AreEarly}
use Rattle.ebr_levels.specs.Levels.{IsTop}
use Rattle.ebr_levels.proofs.EarlyLemmas.{early_marked, early_popped, early_pushed, early_rolled_back, early_saved, early_settled, early_went_back, still_early}
use Rattle.ebr_levels.proofs.EndLemmas.{early_closed}
use Rattle.ebr_integrity.specs.Commits.{IsSuitable}
use Rattle.ebr_integrity.specs.Integrity.{IsIntactBy}
use Rattle.ebr_integrity.specs.inside.Works.{Works}
use Rattle.ebr_integrity.proofs.BodyLemmas.{intact_closed}
use Rattle.ebr_integrity.proofs.CommitLemmas.{CommitWorks, EndsAs, Settling, commit_works}
use Rattle.ebr_integrity.proofs.CommitLemmas.Settling.{Settled, Refused}
use Rattle.ebr_integrity.proofs.DataLemmas.{intact_marked, intact_popped, intact_pushed, intact_rolled_back, intact_saved, intact_went_back}
use Rattle.ebr_integrity.proofs.WorksLemmas.{works_none}
use Rattle.ebr_core.specs.Machine.{lists_of}
use Rattle.ebr_allowed.specs.Consistent.{IsConsistent, MarkStands, SessionStands, living_in}
use Rattle.ebr_allowed.proofs.RecordLemmas.{with_made}
use Rattle.ebr_allowed.proofs.SessionLemmas.{asked, mine, none_made}

-- ---- names and stacks

-- where all names are as before
others_same_names : (d now : Data) (s : SessionId) → names_of now.live ≡ names_of d.live → (r : SessionId) → Differ r s → stack_of (names_of now.live) r ≡ stack_of (names_of d.live) r
others_same_names d now s names r differ = ap (λ ns. stack_of ns r) names

-- a mark that is empty, or where a transaction is now
empty_stands : (count : ℕ) → MarkStands count (record { begun = None; changes = 0; locks = 0; savepoints = [] })
empty_stands count = record { early = tt; first = λ e. refl }

ended_stands : (b : Bool) (x : Session) (count : ℕ) → IfSome x.call (MarkStands count) → IfSome (at_end b x).call (MarkStands count)
ended_stands false x count h = h
ended_stands true x count h = by x.call
  where
    by : (c : Option TxMark) → IfSome (option_map (λ (m : TxMark). record { begun = None; changes = 0; locks = 0; savepoints = [] }) c) (MarkStands count)
    by None = tt
    by (Some m) = empty_stands count

moved_stands : (b : Bool) (now : TxMark) (x : Session) (count : ℕ) → MarkStands count now → IfSome x.call (MarkStands count) → IfSome (at_back b now x).call (MarkStands count)
moved_stands false now x count here h = h
moved_stands true now x count here h = by x.call h
  where
    one : (b : Bool) (m : TxMark) → MarkStands count m → MarkStands count (if b then now else m)
    one true m e = here
    one false m e = e

    by : (c : Option TxMark) → IfSome c (MarkStands count) → IfSome (option_map (moved_back now) c) (MarkStands count)
    by None e = tt
    by (Some m) e = one (nat_lt now.changes m.changes || nat_lt now.locks m.locks) m e

mark_later : (count more : ℕ) → count ≤ more → (call : Option TxMark) → IfSome call (MarkStands count) → IfSome call (MarkStands more)
mark_later count more h None e = tt
mark_later count more h (Some m) e = record { early = still_early m.begun count more h e.early; first = e.first }

-- a transaction that hasn't begun has no change
no_change : (P : Change → Type 0) (d : Data) (t : TxId) → IsIntactBy P d → (own d t).begun ≡ None → length (own d t).changes ≡ 0
no_change P d t h e = by (find (is_named t) d.live) refl e
  where
    by : (o : Option Transaction) → find (is_named t) d.live ≡ o → (unwrap_or o (not_begun t)).begun ≡ None → length (unwrap_or o (not_begun t)).changes ≡ 0
    by None is k = refl
    by (Some y) is k = ap (λ (cs : List Change). length cs) (h.sound.begun t y is k)

mark_stands : (P : Change → Type 0) (d : Data) (t : TxId) → IsIntactBy P d → AreEarly d → MarkStands (length d.commits) (mark_of d t)
mark_stands P d t h early = record { early = early t; first = no_change P d t h }

-- ---- one ask

module _ (db : Database) (s : SessionId) (x : Session) (there : session_at db.sessions s.0 ≡ Some x) (h : IsConsistent db) where
  abbrev d : Data
  d = data_of db

  abbrev t : TxId
  t = on_top db s

  abbrev made_editions : List EditionEntry
  made_editions = (lists_of db).editions.made

  abbrev Intact : Data → Type 0
  Intact now = IsIntactBy (IsSuitable (living_in db)) now

  pub me : SessionStands made_editions d s x
  me = mine db s x there h

  depth_is : levels d s ≡ me.depth
  depth_is = levels_are d s me.depth me.stack

  pub top_now : t ≡ named_at s me.depth
  top_now = top_is d s me.depth me.stack

  pub top_stands : IsTop d t
  top_stands = subst (IsTop d) (sym top_now) (record { stack = me.stack; early = h.early })

  -- no record, and no commit: the session and the transactions may be others
  plain : (now : Data) (x' : Session) → now.commits ≡ d.commits → now.tables ≡ d.tables → Intact now → AreEarly now → ((r : SessionId) → Differ r s → stack_of (names_of now.live) r ≡ stack_of (names_of db.live) r)
      → SessionStands made_editions now s x' → IsConsistent (with_session (with_made db [] now) s x')
  plain now x' commits tables intact early stacks stands =
      asked db s x there h [] (record { data_now = now; used = 0 }) (works_none (living_in db) (base_in db) (record { data_now = now; used = 0 }) commits tables intact) x' early stacks stands

  -- where the names of all transactions are as before
  pub stands_with : (now : Data) (x' : Session) → length d.commits ≤ length now.commits → names_of now.live ≡ names_of d.live → x'.edition ≡ x.edition → (x'.call ≡ None → x.call ≡ None)
      → IfSome x'.call (MarkStands (length d.commits)) → SessionStands made_editions now s x'
  stands_with now x' more names edition call mark = record {
    depth = me.depth;
    stack = ap (λ ns. stack_of ns s) names ∙ me.stack;
    closed = λ e. me.closed (call e);
    mark = mark_later (length d.commits) (length now.commits) more x'.call mark;
    lives = subst (λ o. IfSome o (λ e. is_living made_editions e ≡ true)) (sym edition) me.lives;
  }

  same_names : (now : Data) (commits : now.commits ≡ d.commits) (names : names_of now.live ≡ names_of d.live) (x' : Session) → now.tables ≡ d.tables → Intact now → AreEarly now → x'.edition ≡ x.edition
      → (x'.call ≡ None → x.call ≡ None) → IfSome x'.call (MarkStands (length d.commits)) → IsConsistent (with_session (with_made db [] now) s x')
  same_names now commits names x' tables intact early edition call mark =
      plain now x' commits tables intact early (others_same_names d now s names) (stands_with now x' same_count names edition call mark)
    where
      same_count : length d.commits ≤ length now.commits
      same_count = let n : length now.commits ≡ length d.commits = ap (λ (cs : List (List Change)). length cs) commits in omega (arith, n)

  none_after : (c : Option TxMark) (m : TxMark) → option_map (λ (n : TxMark). m) c ≡ None → c ≡ None
  none_after None m e = refl
  none_after (Some n) m e = cc

  end_call : (b : Bool) → (at_end b x).call ≡ None → x.call ≡ None
  end_call false e = e
  end_call true e = none_after x.call (record { begun = None; changes = 0; locks = 0; savepoints = [] }) e

  pub end_edition : (b : Bool) → (at_end b x).edition ≡ x.edition
  end_edition false = refl
  end_edition true = refl

  back_call : (b : Bool) (m : TxMark) → (at_back b m x).call ≡ None → x.call ≡ None
  back_call false m e = e
  back_call true m e = by x.call e
    where
      by : (c : Option TxMark) → option_map (moved_back m) c ≡ None → c ≡ None
      by None e = refl
      by (Some n) e = cc

  back_edition : (b : Bool) (m : TxMark) → (at_back b m x).edition ≡ x.edition
  back_edition false m = refl
  back_edition true m = refl

  -- ---- ROLLBACK and savepoints

  pub consistent_rollback : IsConsistent (reply_rollback db s x).database
  consistent_rollback =
      let b : Bool = own_on_top d s && is_done (roll_back t (base_in db)).value in
      same_names (after_rollback d t) refl (stacks-stay t ended (λ y. refl) d.live (after_rollback d t).live refl) (at_end b x) refl (intact_rolled_back (IsSuitable (living_in db)) d h.fit.intact t) (early_rolled_back d (after_rollback d t) t refl h.early)
      (end_edition b) (end_call b) (ended_stands b x (length d.commits) me.mark)

  pub consistent_savepoint : (name : List ℕ) → IsConsistent (reply_savepoint db s x name).database
  consistent_savepoint name =
      same_names (after_savepoint d t name) refl (stacks-stay t (with_savepoint (savepoint_at d t name)) (λ y. refl) d.live (after_savepoint d t name).live refl) x refl
      (intact_saved (IsSuitable (living_in db)) d h.fit.intact t name) (early_saved d (after_savepoint d t name) t name refl h.early) refl (λ e. e) me.mark

  back_names : (name : List ℕ) (o : Option Savepoint) → names_of (back_to_savepoint d t name o).live ≡ names_of d.live
  back_names name None = refl
  back_names name (Some p) = stacks-stay t (kept_to name p.changes) (λ y. refl) d.live (back_to_savepoint d t name (Some p)).live refl

  back_commits : (name : List ℕ) (o : Option Savepoint) → (back_to_savepoint d t name o).commits ≡ d.commits
  back_commits name None = refl
  back_commits name (Some p) = refl

  back_tables : (name : List ℕ) (o : Option Savepoint) → (back_to_savepoint d t name o).tables ≡ d.tables
  back_tables name None = refl
  back_tables name (Some p) = refl

  pub consistent_back_to : (name : List ℕ) → IsConsistent (reply_back_to db s x name).database
  consistent_back_to name =
      let now : Data = after_back_to d t name in
      let intact : Intact now = intact_went_back (IsSuitable (living_in db)) d h.fit.intact t name in
      let early : AreEarly now = early_went_back d now t name refl h.early in
      let commits : now.commits ≡ d.commits = back_commits name (savepoint_named d t name) in
      let m : TxMark = mark_of now (named_at s 0) in
      let stands : MarkStands (length d.commits) m = subst (λ n. MarkStands n m) (ap (λ (cs : List (List Change)). length cs) commits) (mark_stands (IsSuitable (living_in db)) now (named_at s 0) intact early) in
      same_names now commits (back_names name (savepoint_named d t name)) (at_back (own_on_top d s) m x) (back_tables name (savepoint_named d t name)) intact early (back_edition (own_on_top d s) m) (back_call (own_on_top d s) m)
      (moved_stands (own_on_top d s) m x (length d.commits) stands me.mark)

  -- ---- COMMIT

  pub longer : (made : List Record) (now : Base) → Works (living_in db) (base_in db) made now → length d.commits ≤ length now.data_now.commits
  longer made now w =
      let n : length now.data_now.commits ≡ length d.commits + length (filter_map commit_in made) = ap (λ (cs : List (List Change)). length cs) w.more ∙ length-append d.commits (filter_map commit_in made) in
      omega (arith, n)

  commit_ends : (o : Outcome Base Done) (c : CommitWorks (living_in db) (base_in db) h.fit t o) (how : Settling) → EndsAs (living_in db) (base_in db) h.fit t how o → (b : Bool)
      → IsConsistent (with_session (with_made db o.made o.state.data_now) s (at_end b x))
  commit_ends o c Settled ends b =
      let names : names_of o.state.data_now.live ≡ names_of d.live = ap (λ (e : Data). names_of e.live) ends.0 ∙ stacks-stay t ended (λ y. refl) d.live (after_settle d t).live refl in
      asked db s x there h o.made o.state c.works (at_end b x) (early_settled d o.state.data_now t ends.0 h.early) (others_same_names d o.state.data_now s names)
      (stands_with o.state.data_now (at_end b x) (longer o.made o.state c.works) names (end_edition b) (end_call b) (ended_stands b x (length d.commits) me.mark))
  commit_ends o c (Refused code) ends b =
      let names : names_of o.state.data_now.live ≡ names_of d.live = ap (λ (e : Data). names_of e.live) ends.0 in
      asked db s x there h o.made o.state c.works (at_end b x) (subst AreEarly (sym ends.0) h.early) (others_same_names d o.state.data_now s names)
      (stands_with o.state.data_now (at_end b x) (longer o.made o.state c.works) names (end_edition b) (end_call b) (ended_stands b x (length d.commits) me.mark))

  pub consistent_commit : IsConsistent (reply_commit db s x).database
  consistent_commit =
      let o : Outcome Base Done = commit t (base_in db) in
      let c : CommitWorks (living_in db) (base_in db) h.fit t o = commit_works (living_in db) (base_in db) h.fit t in
      commit_ends o c c.how c.ends (own_on_top d s && is_done o.value)

  -- ---- autonomous transactions

  some_call : is_some x.call ≡ true → x.call ≡ None → ⊥
  some_call open_now none = both_ways false refl (ap (λ (o : Option TxMark). is_some o) (sym none) ∙ open_now)

  pushed_stack : stack_of (names_of (after_push d s).live) s ≡ stack_to s (suc me.depth)
  pushed_stack =
      ap (λ ns. stack_of ns s) (map-append (λ (y : Transaction). y.id) d.live (not_begun (named_at s (length (stack_of (names_of d.live) s))) ∷ []))
      ∙ filter-append (is_of_session s) (names_of d.live) (named_at s (length (stack_of (names_of d.live) s)) ∷ [])
      ∙ ap (λ b. stack_of (names_of d.live) s ++ cond b (named_at s (length (stack_of (names_of d.live) s)) ∷ []) []) (eq-eqb s.0 s.0 refl)
      ∙ ap (λ xs. xs ++ named_at s (length xs) ∷ []) me.stack
      ∙ ap (λ n. stack_to s me.depth ++ named_at s n ∷ []) height
    where
      height : length (stack_to s me.depth) ≡ suc me.depth
      height = let n : length (stack_to s me.depth) ≡ me.depth + 1 = stack_length s me.depth in omega (arith, n)

  pushed_others : (r : SessionId) → Differ r s → stack_of (names_of (after_push d s).live) r ≡ stack_of (names_of d.live) r
  pushed_others r differ =
      ap (λ ns. stack_of ns r) (map-append (λ (y : Transaction). y.id) d.live (not_begun (named_at s (length (stack_of (names_of d.live) s))) ∷ []))
      ∙ filter-append (is_of_session r) (names_of d.live) (named_at s (length (stack_of (names_of d.live) s)) ∷ [])
      ∙ ap (λ b. stack_of (names_of d.live) r ++ cond b (named_at s (length (stack_of (names_of d.live) s)) ∷ []) []) (ne_eqb s.0 r.0 (λ e. differ (sym e)))
      ∙ append-nil (stack_of (names_of d.live) r)

  same_again : (x' : Session) → x'.edition ≡ x.edition → (x'.call ≡ None → x.call ≡ None) → IfSome x'.call (MarkStands (length d.commits)) → IsConsistent (with_session (with_made db [] d) s x')
  same_again x' edition call mark = same_names d refl refl x' refl h.fit.intact h.early edition call mark

  pushed_by : is_some x.call ≡ true → (refusal : Option Code) → IsConsistent (with_session (with_made db (pushed refusal s (base_in db)).made (pushed refusal s (base_in db)).state.data_now) s x)
  pushed_by open_now None = plain (after_push d s) x refl refl (intact_pushed (IsSuitable (living_in db)) d h.fit.intact s) (early_pushed d (after_push d s) s refl h.early) pushed_others (record {
    depth = suc me.depth;
    stack = pushed_stack;
    closed = λ e. absurd (some_call open_now e);
    mark = me.mark;
    lives = me.lives;
  })
  pushed_by open_now (Some code) = same_again x refl (λ e. e) me.mark

  pub consistent_push : is_some x.call ≡ true → IsConsistent (reply_push db s x).database
  consistent_push open_now = pushed_by open_now (push_refusal d s)

  popped_names : names_of (after_pop d s).live ≡ filter (λ u. not (same_tx u (top d s))) (names_of d.live)
  popped_names = names-without (top d s) d.live (after_pop d s).live refl

  popped_at : (n : ℕ) → me.depth ≡ n → (n == 0) ≡ false → IsConsistent (with_session (with_made db [] (after_pop d s)) s x)
  popped_at zero is some = absurd (both_ways true some refl)
  popped_at (suc n) is some =
      let stack : stack_of (names_of d.live) s ≡ stack_to s (suc n) = me.stack ∙ ap (stack_to s) is in
      plain (after_pop d s) x refl refl (intact_popped (IsSuitable (living_in db)) d h.fit.intact s) (early_popped d (after_pop d s) s refl h.early) (pop_others d (after_pop d s) s n stack refl popped_names).stacks (record {
        depth = n;
        stack = pop_stack d (after_pop d s) s n stack refl popped_names;
        closed = λ e. absurd (no_level (sym is ∙ me.closed e));
        mark = me.mark;
        lives = me.lives;
      })
    where
      no_level : suc n ≡ 0 → ⊥
      no_level e = omega (arith, e)

  pub consistent_pop : (failed : Bool) → own_on_top d s ≡ false → IsConsistent (reply_pop db s x failed).database
  consistent_pop failed above = popped_at me.depth refl (ap (λ n. n == 0) (sym depth_is) ∙ above)

  -- ---- calls

  pub consistent_begin : IsConsistent (call_opened db s x)
  consistent_begin =
      none_made db d s (record x { call = Some (mark_of d (own_of s)) }) (plain d (record x { call = Some (mark_of d (own_of s)) }) refl refl h.fit.intact h.early (λ r differ. refl) (record {
        depth = me.depth;
        stack = me.stack;
        closed = λ e. cc;
        mark = mark_stands (IsSuitable (living_in db)) d (own_of s) h.fit.intact h.early;
        lives = me.lives;
      }))

  -- another edition, which lives
  pub consistent_set : (e : EditionNo) → is_living made_editions e ≡ true → IsConsistent (with_session db s (record x { edition = Some e }))
  consistent_set e lives =
      none_made db d s (record x { edition = Some e }) (plain d (record x { edition = Some e }) refl refl h.fit.intact h.early (λ r differ. refl) (record { depth = me.depth; stack = me.stack; closed = me.closed; mark = me.mark; lives = lives }))

  ended_with : (now : Data) → now.commits ≡ d.commits → now.tables ≡ d.tables → Intact now → AreEarly now → names_of now.live ≡ names_of d.live → own_on_top d s ≡ true → IsConsistent (with_session (with_live db now) s (record x { call = None }))
  ended_with now commits tables intact early names bottom =
      none_made db now s (record x { call = None }) (plain now (record x { call = None }) commits tables intact early (others_same_names d now s names) (record {
        depth = me.depth;
        stack = ap (λ ns. stack_of ns s) names ∙ me.stack;
        closed = λ e. sym depth_is ∙ eqb-true (levels d s) 0 bottom;
        mark = tt;
        lives = me.lives;
      }))

  pub consistent_end : (failed : Bool) → own_on_top d s ≡ true → IsConsistent (reply_end db s x failed).database
  consistent_end failed bottom = by failed x.call me.mark
    where
      by : (failed : Bool) (call : Option TxMark) → IfSome call (MarkStands (length d.commits)) → IsConsistent (with_session (with_live db (back_where failed call (own_of s) d)) s (record x { call = None }))
      by true (Some m) mark =
          ended_with (after_mark d (own_of s) m) refl refl (intact_marked (IsSuitable (living_in db)) d h.fit.intact (own_of s) m mark.first) (early_marked d (after_mark d (own_of s) m) (own_of s) m refl mark.early h.early)
          (stacks-stay (own_of s) (marked m) (λ y. refl) d.live (after_mark d (own_of s) m).live refl) bottom
      by true None mark = ended_with d refl refl h.fit.intact h.early refl bottom
      by false call mark = ended_with d refl refl h.fit.intact h.early refl bottom

-- ---- the end of a session

-- so many autonomous transactions closed
module _ (s : SessionId) where
  record Closes (n : ℕ) (d : Data) : Type 0 where
    commits : (closed_from_top n s d).commits ≡ d.commits
    tables : (closed_from_top n s d).tables ≡ d.tables
    stack : stack_of (names_of (closed_from_top n s d).live) s ≡ stack_to s 0
    others : (r : SessionId) → Differ r s → stack_of (names_of (closed_from_top n s d).live) r ≡ stack_of (names_of d.live) r

  closes : (n : ℕ) (d : Data) → stack_of (names_of d.live) s ≡ stack_to s n → Closes n d
  closes zero d stack = record { commits = refl; tables = refl; stack = stack; others = λ r differ. refl }
  closes (suc n) d stack =
      let names : names_of (after_pop d s).live ≡ filter (λ u. not (same_tx u (top d s))) (names_of d.live) = names-without (top d s) d.live (after_pop d s).live refl in
      let more : Closes n (after_pop d s) = closes n (after_pop d s) (pop_stack d (after_pop d s) s n stack refl names) in
      record { commits = more.commits; tables = more.tables; stack = more.stack; others = λ r differ. more.others r differ ∙ (pop_others d (after_pop d s) s n stack refl names).stacks r differ }

pub consistent_leave : (db : Database) (s : SessionId) (x : Session) (there : session_at db.sessions s.0 ≡ Some x) (h : IsConsistent db) → IsConsistent (reply_leave db s x).database
consistent_leave db s x there h =
    let d : Data = data_of db in
    let me : SessionStands (lists_of db).editions.made d s x = mine db s x there h in
    let n : ℕ = levels d s in
    let e : Data = closed_from_top n s d in
    let now : Data = after_rollback e (own_of s) in
    let x' : Session = record x { edition = None; call = None } in
    let c : Closes s n d = closes s n d (me.stack ∙ ap (stack_to s) (sym (levels_are d s me.depth me.stack))) in
    let names : names_of now.live ≡ names_of e.live = stacks-stay (own_of s) ended (λ y. refl) e.live now.live refl in
    let intact : IsIntactBy (IsSuitable (living_in db)) now = intact_rolled_back (IsSuitable (living_in db)) e (intact_closed (IsSuitable (living_in db)) n s d h.fit.intact) (own_of s) in
    none_made db now s x' (asked db s x there h [] (record { data_now = now; used = 0 }) (works_none (living_in db) (base_in db) (record { data_now = now; used = 0 }) c.commits c.tables intact) x'
    (early_rolled_back e now (own_of s) refl (early_closed n s d h.early)) (λ r differ. ap (λ ns. stack_of ns r) names ∙ c.others r differ)
    (record { depth = 0; stack = ap (λ ns. stack_of ns s) names ∙ c.stack; closed = λ q. refl; mark = tt; lives = tt }))

-- ---- what is counted

pub consistent_counted : (db : Database) (s : SessionId) (x : Session) (there : session_at db.sessions s.0 ≡ Some x) (h : IsConsistent db) (ask : Ask) (a : Answer) → IsConsistent (with_session db s (counted ask a x))
consistent_counted db s x there h ask a = none_made db (data_of db) s (counted ask a x) (same_again db s x there h (counted ask a x) refl (λ e. e) (mine db s x there h).mark)
