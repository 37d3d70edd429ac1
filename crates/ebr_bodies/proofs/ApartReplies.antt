-- The replies to asks that define nothing, in databases that differ in their catalogues alone: where EBR-0042 arises in neither run
-- they are the same.
use Rattle.std.proofs.Common.{◌≡◌, ℕ, suc, ◌+◌, ◌-◌, Bool, List, [], ◌∷◌, ◌++◌, Option, Some, None, length, refl, sym, ap, subst, ◌∙◌, arith}
use Rattle.std.specs.Prelude.{◌&&◌, not, is_some, if◌then◌else◌, slice_set}
use Rattle.std.specs.List.{filter_map}
use Rattle.std.proofs.lemmas.List.Elements.{filter_map-append}
use Rattle.ebr_base.specs.declared.code.Code.{Code}
use Rattle.ebr_base.specs.declared.code.Code.TheVariants.{Ebr}
use Rattle.ebr_base.specs.declared.numbers.SessionId.{SessionId}
use Rattle.ebr_asks.specs.declared.ask.Ask.{Ask}
use Rattle.ebr_asks.specs.declared.ask.Ask.TheVariants as ask
use Rattle.ebr_tx.specs.Data.{Data, named_at}
use Rattle.ebr_tx.specs.Calls.{top, mark_of, push_refusal}
use Rattle.ebr_record.specs.declared.record.Record.{Record}
use Rattle.ebr_record.specs.declared.record.Record.TheVariants as made
use Rattle.ebr_record.specs.Keeper.{used_by}
use Rattle.ebr_database.specs.Base.{Base}
use Rattle.ebr_database.specs.Database.{Session, Database, commit_in, tables_from, data_of, base_in, after_outcome, with_session, at_end, at_back, is_done, on_top, own_on_top, as_answer, replied, ended_by, reply_commit, reply_rollback, reply_savepoint, reply_back_to, reply_push, reply_pop}
use Rattle.ebr_database.specs.Outcome.{Outcome}
use Rattle.ebr_database.specs.Transact.{Done, commit, roll_back, savepoint, back_to, pushed, push, pop}
use Rattle.ebr_seats.specs.Ends.{own_of, with_live, back_where, all_undone, call_opened, reply_end, reply_leave}
use Rattle.ebr_seats.specs.Tests.{first_tests, is_one_too_many, has_no_room, is_misplaced}
use Rattle.ebr_exec.specs.Places.{Names}
use Rattle.ebr_bodies.specs.Agree.{AnswerAlike, NeverFull}
use Rattle.ebr_bodies.specs.OtherDatabases.{DifferInCatalogue, RepliesSame}
use Rattle.ebr_bodies.specs.OtherWorlds.{at_used}
use Rattle.ebr_bodies.proofs.AgreeLaws.{answers_itself}
use Rattle.ebr_bodies.proofs.Apart.{Same, Apart}
use Rattle.ebr_bodies.proofs.ApartAsks.{commit_apart, roll_back_apart, savepoint_apart, back_to_apart, push_apart, pop_apart}

-- ---- records behind others

tables_behind : (n : ℕ) (records more : List Record) → tables_from n (records ++ more) ≡ tables_from n records ++ tables_from (n + length (tables_from n records)) more
tables_behind n [] more = let none : n ≡ n + 0 = omega arith in ap (λ k. tables_from k more) none
tables_behind n (made.Table name columns key ∷ rest) more =
    let k = length (tables_from (suc n) rest) in
    let next : suc n + k ≡ n + suc k = omega arith in
    ap (λ l. record { id = record { 0 = suc n }; key = key } ∷ l) (tables_behind (suc n) rest more)
    ∙ ap (λ j. record { id = record { 0 = suc n }; key = key } ∷ (tables_from (suc n) rest ++ tables_from j more)) next
tables_behind n (r ∷ rest) more = tables_behind n rest more

module _ (db other : Database) (same : DifferInCatalogue db other) where
  pub data_same : data_of other ≡ data_of db
  data_same = λ i. record { commits = same.commits i; tables = same.tables i; live = same.live i; locks = same.locks i }

  -- what a step leaves in both
  pub after_same : {A : Type 0} (o p : Outcome Base A) → Same at_used o p → DifferInCatalogue (after_outcome db o) (after_outcome other p)
  after_same o p e =
      let now : p.state.data_now ≡ o.state.data_now = ap (λ (b : Base). b.data_now) e.state in
      let records : p.made ≡ o.made = sym e.made in
      let commits : filter_map commit_in other.records ++ filter_map commit_in p.made ≡ filter_map commit_in db.records ++ filter_map commit_in o.made = λ i. same.commits i ++ filter_map commit_in (records i) in
      let tables : tables_from 0 other.records ++ tables_from (0 + length (tables_from 0 other.records)) p.made ≡ tables_from 0 db.records ++ tables_from (0 + length (tables_from 0 db.records)) o.made = λ i. same.tables i ++ tables_from (0 + length (same.tables i)) (records i) in
      record {
        sessions = same.sessions;
        live = ap (λ (d : Data). d.live) now;
        locks = ap (λ (d : Data). d.locks) now;
        commits = filter_map-append commit_in other.records p.made ∙ commits ∙ sym (filter_map-append commit_in db.records o.made);
        tables = tables_behind 0 other.records p.made ∙ tables ∙ sym (tables_behind 0 db.records o.made);
      }

  -- A step in one world, and one in the other that is the same but for how much is kept.
  pub step_same : {A : Type 0} (m n : Names) (step step' : Data → Base → Outcome Base A) → ((b : Base) (u : ℕ) → Apart m n at_used (step (data_of db) b) (step' (data_of db) (at_used u b)))
      → AnswerAlike m n (step (data_of db) (base_in db)).asked → NeverFull (step (data_of db) (base_in db)).asked → NeverFull (step' (data_of other) (base_in other)).asked
      → Same at_used (step (data_of db) (base_in db)) (step' (data_of other) (base_in other))
  step_same {A} m n step step' x alike never never' =
      let back : data_of db ≡ data_of other = sym data_same in
      let used : ℕ = used_by other.records in
      let there : step' (data_of db) (at_used used (base_in db)) ≡ step' (data_of other) (base_in other) = λ i. step' (back i) (record { data_now = back i; used = used }) in
      let e : Same at_used (step (data_of db) (base_in db)) (step' (data_of db) (at_used used (base_in db))) =
      (x (base_in db) used).by alike never (subst (λ (o : Outcome Base A). NeverFull o.asked) (sym there) never') in
      subst (λ (o : Outcome Base A). Same at_used (step (data_of db) (base_in db)) o) there e

  -- one that asks nothing of the catalogue
  pub own_step_same : {A : Type 0} (names : Names) (step : Data → Base → Outcome Base A) → ((d : Data) (b : Base) (u : ℕ) → Apart names names at_used (step d b) (step d (at_used u b)))
      → NeverFull (step (data_of db) (base_in db)).asked → NeverFull (step (data_of other) (base_in other)).asked → Same at_used (step (data_of db) (base_in db)) (step (data_of other) (base_in other))
  own_step_same names step x never never' = step_same names names step step (x (data_of db)) (answers_itself names (step (data_of db) (base_in db)).asked) never never'

  -- a session that is changed alike
  pub session_same : (s : SessionId) (x y : Session) → y ≡ x → DifferInCatalogue (with_session db s x) (with_session other s y)
  session_same s x y e = record { sessions = λ i. slice_set (same.sessions i) (s.0 - 1) (e i); live = same.live; locks = same.locks; commits = same.commits; tables = same.tables }

  -- transactions that are changed alike
  pub live_same : (f : Data → Data) → DifferInCatalogue (with_live db (f (data_of db))) (with_live other (f (data_of other)))
  live_same f = record { sessions = same.sessions; live = λ i. (f (data_same i)).live; locks = λ i. (f (data_same i)).locks; commits = same.commits; tables = same.tables }

  misplaced_same : (s : SessionId) (x : Session) (q : Ask) → is_misplaced other s x q ≡ is_misplaced db s x q
  misplaced_same s x (ask.PopAuto failed) = ap (λ (d : Data). own_on_top d s) data_same
  misplaced_same s x (ask.EndCall failed) = ap (λ (d : Data). not (is_some x.call && own_on_top d s)) data_same
  misplaced_same s x q = refl

  pub tests_same : (s : SessionId) (x : Session) (q : Ask) → first_tests other s x q ≡ first_tests db s x q
  tests_same s x q =
      let tested : Bool → Option Code = λ b. if is_one_too_many x q then Some (Ebr 10) else (if has_no_room x q then Some (Ebr 11) else (if b then Some (Ebr 15) else None)) in
      ap tested (misplaced_same s x q)

-- ---- the asks for transactions

push_never : (r : Option Code) (s : SessionId) (b : Base) → NeverFull (pushed r s b).asked
push_never None s b = tt
push_never (Some code) s b = tt

module _ (names : Names) (db other : Database) (same : DifferInCatalogue db other) (s : SessionId) (x : Session) where
  replied_same : (y z : Session) → z ≡ y → (o p : Outcome Base Done) → Same at_used o p → RepliesSame (replied db s y o) (replied other s z p)
  replied_same y z e o p d = record {
    answer = ap as_answer (sym d.value);
    records = sym d.made;
    leaves = session_same (after_outcome db o) (after_outcome other p) (after_same db other same o p d) s y z e;
  }

  -- where the session's own transaction ends
  ended_same : (o p : Outcome Base Done) → Same at_used o p → at_end (own_on_top (data_of other) s && is_done p.value) x ≡ at_end (own_on_top (data_of db) s && is_done o.value) x
  ended_same o p d =
      let now : data_of other ≡ data_of db = data_same db other same in
      let value : p.value ≡ o.value = sym d.value in
      λ i. at_end (own_on_top (now i) s && is_done (value i)) x

  ended_replies : (o p : Outcome Base Done) → Same at_used o p → RepliesSame (ended_by db s x o) (ended_by other s x p)
  ended_replies o p d = replied_same (at_end (own_on_top (data_of db) s && is_done o.value) x) (at_end (own_on_top (data_of other) s && is_done p.value) x) (ended_same o p d) o p d

  pub commit_replies : NeverFull (reply_commit db s x).questions → NeverFull (reply_commit other s x).questions → RepliesSame (reply_commit db s x) (reply_commit other s x)
  commit_replies never never' = ended_replies (commit (on_top db s) (base_in db)) (commit (on_top other s) (base_in other)) (own_step_same db other same names (λ d b. commit (top d s) b) (λ d b u. commit_apart names names (top d s) b u) never never')

  pub rollback_replies : RepliesSame (reply_rollback db s x) (reply_rollback other s x)
  rollback_replies = ended_replies (roll_back (on_top db s) (base_in db)) (roll_back (on_top other s) (base_in other)) (own_step_same db other same names (λ d b. roll_back (top d s) b) (λ d b u. roll_back_apart names names (top d s) b u) tt tt)

  pub savepoint_replies : (name : List ℕ) → RepliesSame (reply_savepoint db s x name) (reply_savepoint other s x name)
  savepoint_replies name = replied_same x x refl (savepoint (on_top db s) name (base_in db)) (savepoint (on_top other s) name (base_in other)) (own_step_same db other same names (λ d b. savepoint (top d s) name b) (λ d b u. savepoint_apart names names (top d s) name b u) tt tt)

  pub back_to_replies : (name : List ℕ) → RepliesSame (reply_back_to db s x name) (reply_back_to other s x name)
  back_to_replies name =
      let o : Outcome Base Done = back_to (on_top db s) name (base_in db) in
      let p : Outcome Base Done = back_to (on_top other s) name (base_in other) in
      let d : Same at_used o p = own_step_same db other same names (λ d b. back_to (top d s) name b) (λ d b u. back_to_apart names names (top d s) name b u) tt tt in
      let now : data_of other ≡ data_of db = data_same db other same in
      let left : p.state.data_now ≡ o.state.data_now = ap (λ (b : Base). b.data_now) d.state in
      replied_same (at_back (own_on_top (data_of db) s) (mark_of o.state.data_now (named_at s 0)) x) (at_back (own_on_top (data_of other) s) (mark_of p.state.data_now (named_at s 0)) x)
      (λ i. at_back (own_on_top (now i) s) (mark_of (left i) (named_at s 0)) x) o p d

  pub push_replies : RepliesSame (reply_push db s x) (reply_push other s x)
  push_replies = replied_same x x refl (push s (base_in db)) (push s (base_in other)) (own_step_same db other same names (λ d b. push s b) (λ d b u. push_apart names names s b u) (push_never (push_refusal (data_of db) s) s (base_in db)) (push_never (push_refusal (data_of other) s) s (base_in other)))

  pub pop_replies : (failed : Bool) → RepliesSame (reply_pop db s x failed) (reply_pop other s x failed)
  pop_replies failed = replied_same x x refl (pop s failed (base_in db)) (pop s failed (base_in other)) (own_step_same db other same names (λ d b. pop s failed b) (λ d b u. pop_apart names names s failed b u) tt tt)

  -- ---- calls and the session's end

  pub opened_same : DifferInCatalogue (call_opened db s x) (call_opened other s x)
  opened_same =
      let now : data_of other ≡ data_of db = data_same db other same in
      session_same db other same s (record x { call = Some (mark_of (data_of db) (own_of s)) }) (record x { call = Some (mark_of (data_of other) (own_of s)) }) (λ i. record x { call = Some (mark_of (now i) (own_of s)) })

  pub end_replies : (failed : Bool) → RepliesSame (reply_end db s x failed) (reply_end other s x failed)
  end_replies failed =
      let f : Data → Data = back_where failed x.call (own_of s) in
      record { answer = refl; records = refl; leaves = session_same (with_live db (f (data_of db))) (with_live other (f (data_of other))) (live_same db other same f) s (record x { call = None }) (record x { call = None }) refl }

  pub leave_replies : RepliesSame (reply_leave db s x) (reply_leave other s x)
  leave_replies =
      let f : Data → Data = all_undone s in
      record { answer = refl; records = refl; leaves = session_same (with_live db (f (data_of db))) (with_live other (f (data_of other))) (live_same db other same f) s (record x { edition = None; call = None }) (record x { edition = None; call = None }) refl }
