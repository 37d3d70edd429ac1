-- Whatever a database is asked, it stays consistent.
use Rattle.std.proofs.Common.{◌≡◌, ℕ, zero, suc, ◌-◌, Bool, true, false, List, [], ◌++◌, refl, sym, ap, subst, ◌∙◌, append-nil, append_assoc}
use Rattle.std.specs.Prelude.{◌&&◌, IfSome, Option, Some, None, Result, Ok, Err, if◌then◌else◌, is_some, not, slice_set}
use Rattle.std.proofs.lemmas.Bool.{and_parts, both_ways}
use Rattle.ebr_base.specs.declared.code.Code.{Code}
use Rattle.ebr_base.specs.declared.code.Code.TheVariants.{Ebr}
use Rattle.ebr_base.specs.declared.numbers.EditionNo.{EditionNo}
use Rattle.ebr_base.specs.declared.numbers.SessionId.{SessionId}
use Rattle.ebr_base.specs.declared.row.TxId.{TxId}
use Rattle.ebr_base.specs.declared.value.Value.{Value}
use Rattle.ebr_ast.specs.declared.definition.Definition.{Definition}
use Rattle.ebr_ast.specs.declared.sql.SqlTree.{SqlTree}
use Rattle.ebr_asks.specs.declared.ask.Ask.{Ask}
use Rattle.ebr_asks.specs.declared.ask.Ask.TheVariants.{Begin, Sql, Commit, Rollback, Savepoint, BackTo, Ddl, SetEdition, PushAuto, PopAuto, EndCall, Leave}
use Rattle.ebr_asks.specs.declared.answer.Answer.{Answer}
use Rattle.ebr_asks.specs.declared.answer.Answer.TheVariants as answer
use Rattle.ebr_editions.specs.Editions.{is_living}
use Rattle.ebr_tx.specs.declared.savepoints.TxMark.{TxMark}
use Rattle.ebr_tx.specs.Data.{Data, changed, named_at, own, stack_of}
use Rattle.ebr_tx.specs.Calls.{after_settle, ended}
use Rattle.ebr_cross.specs.Catalogue.{Lists}
use Rattle.ebr_cross.specs.Definitions.{set_edition}
use Rattle.ebr_database.specs.Base.{Base}
use Rattle.ebr_database.specs.Outcome.{Outcome}
use Rattle.ebr_database.specs.Carried.{room_for}
use Rattle.ebr_database.specs.Transact.{Done, commit}
use Rattle.ebr_database.specs.Database.{Database, Replied, Session, as_answer, at_end, base_in, data_of, is_done, on_top, own_on_top, reply_commit, session_at, with_session}
use Rattle.ebr_seats.specs.Tests.{first_tests, has_no_room, is_misplaced, is_one_too_many}
use Rattle.ebr_seats.specs.Ends.{own_of, unchanged}
use Rattle.ebr_seats.proofs.Seated.{at_same}
use Rattle.ebr_exec.specs.Places.{Names, names_of as names_in, own_place}
use Rattle.ebr_exec.specs.Statements.{max_levels}
use Rattle.ebr_bodies.specs.Statements.{Stmt}
use Rattle.ebr_integrity.specs.Integrity.{changes_of}
use Rattle.ebr_integrity.specs.inside.Under.{under_by}
use Rattle.ebr_integrity.specs.inside.Works.{WorksIn}
use Rattle.ebr_integrity.proofs.CommitLemmas.{CommitWorks, EndsAs, Settling, commit_works}
use Rattle.ebr_integrity.proofs.CommitLemmas.Settling.{Settled, Refused}
use Rattle.ebr_integrity.proofs.StatementLemmas.{statement_works}
use Rattle.ebr_core.specs.Asked.{IsFit, IsTextOf}
use Rattle.ebr_core.specs.Machine.{Reply, behind, counted_in, counting, edition_found, edition_set, lists_of, refused, reply_ddl, reply_define, reply_in, reply_sql, reply_to, reply_while, then_reply, unless_refused}
use Rattle.ebr_allowed.specs.Consistent.{IsConsistent, RepliesAreAllowed, SessionStands, living_in}
use Rattle.ebr_allowed.proofs.AskLemmas.{consistent_back_to, consistent_begin, consistent_commit, consistent_counted, consistent_end, consistent_leave, consistent_pop, consistent_push, consistent_rollback, consistent_savepoint, consistent_set, end_edition, longer, me, stands_with, top_now, top_stands}
use Rattle.ebr_allowed.proofs.CatalogueLemmas.{catalogue_stands}
use Rattle.ebr_allowed.proofs.DdlLemmas.{consistent_define, ended_none}
use Rattle.ebr_allowed.proofs.OutcomeLemmas.{edition_set_lives}
use Rattle.ebr_allowed.proofs.RecordLemmas.{with_made}
use Rattle.ebr_allowed.proofs.SessionLemmas.{asked, session_here}
use Rattle.ebr_allowed.proofs.TableLemmas.{found_by_id}

-- A reply leaves a consistent database, with its records behind those that there were.
record Well (db : Database) (r : Replied) : Type 0 where
  consistent : IsConsistent r.database
  records : r.database.records ≡ db.records ++ r.records

none_made_well : (db now : Database) (a : Answer) → now.records ≡ db.records → IsConsistent now → Well db (unchanged now a)
none_made_well db now a same h = record { consistent = h; records = same ∙ sym (append-nil db.records) }

refused_well : (db : Database) (code : Code) → IsConsistent db → Well db (refused db code)
refused_well db code h = none_made_well db db (answer.Refused code 0 []) refl h

-- ---- the first tests

placed : (db : Database) (s : SessionId) (x : Session) (ask : Ask) → first_tests db s x ask ≡ None → is_misplaced db s x ask ≡ false
placed db s x ask e = by (is_one_too_many x ask) (has_no_room x ask) (is_misplaced db s x ask) e
  where
    by : (a b c : Bool) → (if a then Some (Ebr 10) else (if b then Some (Ebr 11) else (if c then Some (Ebr 15) else None))) ≡ None → c ≡ false
    by true b c e = cc
    by false true c e = cc
    by false false true e = cc
    by false false false e = refl

not_false : (b : Bool) → not b ≡ false → b ≡ true
not_false true e = refl
not_false false e = absurd (both_ways true e refl)

none_open : (o : Option TxMark) → is_some o ≡ false → o ≡ None
none_open None e = refl
none_open (Some m) e = absurd (both_ways true e refl)

-- ---- the session as it was

session_same : (xs : List Session) (n : ℕ) (x : Session) → session_at xs n ≡ Some x → slice_set xs (n - 1) x ≡ xs
session_same xs zero x is = cc
session_same xs (suc n) x is = at_same xs (suc n) x is

-- ---- the replies in an edition

module _ (db : Database) (s : SessionId) (x : Session) (there : session_at db.sessions s.0 ≡ Some x) (h : IsConsistent db) (e : EditionNo) (in_it : x.edition ≡ Some e) where
  abbrev d : Data
  d = data_of db

  abbrev t : TxId
  t = on_top db s

  abbrev c : Lists
  c = lists_of db

  sql_well : (stmt : SqlTree) (binds : List Value) (left : ℕ) → Well db (reply_sql e db s x stmt binds left)
  sql_well stmt binds left =
      let names : Names = names_in c in
      let o : Outcome Base Answer = Stmt names max_levels (own_place e t) stmt binds left (room_for x.carried (Sql stmt binds left)) (base_in db) in
      let w : WorksIn (living_in db) (base_in db) t (under_by []) o.made o.state =
      statement_works (living_in db) names (λ d. refl) (found_by_id 0 c.tables.made c.tables.living (catalogue_stands db.records h.records).ids) max_levels (own_place e t) stmt binds left (room_for x.carried (Sql stmt binds left)) (base_in db) h.fit (top_stands db s x there h) in
      let before : SessionStands c.editions.made d s x = me db s x there h in
      let next : IsConsistent (with_session (with_made db o.made o.state.data_now) s x) =
      asked db s x there h o.made o.state w.works x (w.leaves.keeps.early h.early) (λ r differ. ap (λ ns. stack_of ns r) w.leaves.names)
      (stands_with db s x there h o.state.data_now x (longer db s x there h o.made o.state w.works) w.leaves.names refl (λ q. q) before.mark)
      in
      record { consistent = subst (λ (xs : List Session). IsConsistent (record (with_made db o.made o.state.data_now) { sessions = xs })) (session_same db.sessions s.0 x there) next; records = refl }

  -- ---- a definition

  module _ (what : Definition) (text : List ℕ) (fit : IsTextOf what text) (closed : x.call ≡ None) where
    abbrev first : Replied
    first = reply_commit db s x

    abbrev o : Outcome Base Done
    o = commit t (base_in db)

    own_is : t ≡ own_of s
    own_is = top_now db s x there h ∙ ap (named_at s) ((me db s x there h).closed closed)

    nothing_left : o.state.data_now ≡ after_settle d t → changes_of first.database.live (own_of s) ≡ []
    nothing_left is = ap (λ (y : Data). changes_of y.live (own_of s)) is ∙ ap (λ u. changes_of (changed t ended d.live) u) (sym own_is) ∙ ended_none t d.live

    still_lives : is_living (lists_of first.database).editions.made e ≡ true
    still_lives =
        let h1 : IsConsistent first.database = consistent_commit db s x there h in
        let b : Bool = own_on_top d s && is_done o.value in
        let stands : SessionStands (lists_of first.database).editions.made (data_of first.database) s (at_end b x) = h1.sessions s (at_end b x) (session_here db.sessions s.0 x (at_end b x) there) in
        subst (λ q. IfSome q (λ d. is_living (lists_of first.database).editions.made d ≡ true)) (end_edition db s x there h b ∙ in_it) stands.lives

    defined_well : o.state.data_now ≡ after_settle d t → Well db (behind first (reply_define e s what text first.database))
    defined_well is = record {
      consistent = consistent_define first.database s e what text (consistent_commit db s x there h) (nothing_left is) still_lives fit.spelled;
      records = append_assoc db.records o.made (reply_define e s what text first.database).records;
    }

    committed_well : Well db first
    committed_well = record { consistent = consistent_commit db s x there h; records = refl }

    by_end : (how : Settling) → EndsAs (living_in db) (base_in db) h.fit t how o → Well db (then_reply (as_answer o.value) first (reply_define e s what text))
    by_end Settled ends = subst (λ (v : Done). Well db (then_reply (as_answer v) first (reply_define e s what text))) (sym ends.1) (defined_well ends.0)
    by_end (Refused code) ends = subst (λ (v : Done). Well db (then_reply (as_answer v) first (reply_define e s what text))) (sym ends.1) committed_well

    ddl_well : Well db (reply_ddl e db s x what text)
    ddl_well =
        let w : CommitWorks (living_in db) (base_in db) h.fit t o = commit_works (living_in db) (base_in db) h.fit t in
        by_end w.how w.ends

  set_well : (r : Result EditionNo Code) → ((d : EditionNo) → r ≡ Ok d → is_living c.editions.made d ≡ true) → Well db (edition_set db s x r)
  set_well (Ok d) lives = none_made_well db (with_session db s (record x { edition = Some d })) answer.Done refl (consistent_set db s x there h d (lives d refl))
  set_well (Err code) lives = refused_well db code h

  found_lives : (name : List ℕ) (d : EditionNo) → edition_found db s name ≡ Ok d → is_living c.editions.made d ≡ true
  found_lives name d is = by (is_some (own (data_of db) (own_of s)).begun) is
    where
      no : Err (Ebr 16) ≡ Ok d → ⊥
      no k = cc

      by : (b : Bool) → (if b then Err (Ebr 16) else set_edition c.editions.made name) ≡ Ok d → is_living c.editions.made d ≡ true
      by true k = absurd (no k)
      by false k = edition_set_lives c (catalogue_stands db.records h.records) name d k

  in_well : (ask : Ask) → IsFit ask → is_misplaced db s x ask ≡ false → Well db (reply_in e db s x ask)
  in_well Begin fit place = none_made_well db _ _ refl (consistent_begin db s x there h)
  in_well (Sql stmt binds left) fit place = sql_well stmt binds left
  in_well Commit fit place = record { consistent = consistent_commit db s x there h; records = refl }
  in_well Rollback fit place = record { consistent = consistent_rollback db s x there h; records = refl }
  in_well (Savepoint name) fit place = record { consistent = consistent_savepoint db s x there h name; records = refl }
  in_well (BackTo name) fit place = record { consistent = consistent_back_to db s x there h name; records = refl }
  in_well (Ddl what text) fit place = ddl_well what text fit (none_open x.call place)
  in_well (SetEdition name) fit place = set_well (edition_found db s name) (λ d is. found_lives name d is)
  in_well PushAuto fit place = record { consistent = consistent_push db s x there h (not_false (is_some x.call) place); records = refl }
  in_well (PopAuto failed) fit place = record { consistent = consistent_pop db s x there h failed place; records = refl }
  in_well (EndCall failed) fit place = none_made_well db _ _ refl (consistent_end db s x there h failed (and_parts (is_some x.call) (own_on_top d s) (not_false (is_some x.call && own_on_top d s) place)).1)
  in_well Leave fit place = none_made_well db _ _ refl (consistent_leave db s x there h)

  tested_well : (ask : Ask) → IsFit ask → (refusal : Option Code) → first_tests db s x ask ≡ refusal → Well db (unless_refused refusal db (reply_in e db s x ask))
  tested_well ask fit None is = in_well ask fit (placed db s x ask is)
  tested_well ask fit (Some code) is = refused_well db code h

-- ---- the whole

counted_well : (db : Database) (s : SessionId) (ask : Ask) (r : Replied) → Well db r → Well db (counting s ask r)
counted_well db s ask r w = by (session_at r.database.sessions s.0) refl
  where
    by : (o : Option Session) → session_at r.database.sessions s.0 ≡ o → Well db (record r { database = counted_in r.database s ask r.answer o })
    by None is = record { consistent = w.consistent; records = w.records }
    by (Some x) is = record { consistent = consistent_counted r.database s x is w.consistent ask r.answer; records = w.records }

replies : (db : Database) (s : SessionId) (ask : Ask) → IsFit ask → IsConsistent db → Well db (Reply db s ask)
replies db s ask fit h = by (session_at db.sessions s.0) refl
  where
    inside : (x : Session) → session_at db.sessions s.0 ≡ Some x → (o : Option EditionNo) → x.edition ≡ o → Well db (reply_while o db s x ask)
    inside x there None is = refused_well db (Ebr 15) h
    inside x there (Some e) is = counted_well db s ask (unless_refused (first_tests db s x ask) db (reply_in e db s x ask)) (tested_well db s x there h e is ask fit (first_tests db s x ask) refl)

    by : (o : Option Session) → session_at db.sessions s.0 ≡ o → Well db (reply_to o db s ask)
    by None is = refused_well db (Ebr 15) h
    by (Some x) is = inside x is x.edition refl

-- what the database replies is allowed
pub replies_allowed : RepliesAreAllowed
replies_allowed db s ask fit h = let w : Well db (Reply db s ask) = replies db s ask fit h in record { consistent = w.consistent; records = w.records }
