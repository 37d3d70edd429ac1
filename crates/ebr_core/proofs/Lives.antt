-- Which sessions live behind a reply, and what answers replies have.
use Rattle.std.proofs.Common.{◌≡◌, ◌≢◌, ℕ, zero, suc, ◌-◌, ◌+◌, ◌≤◌, Bool, true, false, ◌&&◌, List, [], ◌∷◌, ◌++◌, length, map, refl, sym, ap, subst, ◌∙◌, arith}
use Rattle.std.specs.Prelude.{Option, Some, None, is_some, IfOk, Result, Ok, Err, slice_get, slice_set, replicate}
use Rattle.std.proofs.lemmas.Option.{same_Some}
use Rattle.ebr_base.specs.declared.code.Code.{Code}
use Rattle.ebr_base.specs.declared.numbers.EditionNo.{EditionNo}
use Rattle.ebr_base.specs.declared.numbers.SessionId.{SessionId}
use Rattle.ebr_base.specs.declared.row.TxId.{TxId}
use Rattle.ebr_base.specs.declared.value.Value.{Value}
use Rattle.ebr_ast.specs.declared.definition.Definition.{Definition}
use Rattle.ebr_ast.specs.declared.definition.Definition.TheVariants as definition
use Rattle.ebr_ast.specs.declared.sql.SqlTree.{SqlTree}
use Rattle.ebr_ast.specs.declared.sql.SqlTree.TheVariants as sql
use Rattle.ebr_ast.specs.declared.view.EditionView.{EditionView}
use Rattle.ebr_asks.specs.declared.ask.Ask.{Ask}
use Rattle.ebr_asks.specs.declared.ask.Ask.TheVariants.{Begin, Sql, Commit, Rollback, Savepoint, BackTo, Ddl, SetEdition, PushAuto, PopAuto, EndCall, Leave}
use Rattle.ebr_asks.specs.declared.answer.Answer.{Answer}
use Rattle.ebr_asks.specs.declared.answer.Answer.TheVariants as answer
use Rattle.ebr_cross.specs.declared.record.CatalogueRecord.{CatalogueRecord}
use Rattle.ebr_record.specs.declared.record.Record.{Record}
use Rattle.ebr_tx.specs.Data.{named_at}
use Rattle.ebr_tx.specs.declared.savepoints.TxMark.{TxMark}
use Rattle.ebr_sqlcheck.specs.Checked.{must, on}
use Rattle.ebr_query.specs.Queries.{Answered as Queried, Query}
use Rattle.ebr_database.specs.Base.{Base}
use Rattle.ebr_database.specs.Outcome.{Outcome}
use Rattle.ebr_database.specs.Database.{Session, Database, Replied, session_at, with_session, after_outcome, base_in, data_of, is_done, on_top, own_on_top, at_end, at_back, counted, replied, as_answer, reply_commit}
use Rattle.ebr_database.specs.Transact.{Done, back_to, commit, pop, push, roll_back, savepoint}
use Rattle.ebr_exec.specs.Places.{Names, Place, names_of, own_place}
use Rattle.ebr_database.specs.Carried.{room_for}
use Rattle.ebr_tx.specs.Calls.{after_begin, mark_of}
use Rattle.ebr_record.specs.Keeper.{used_by}
use Rattle.ebr_exec.specs.Statements.{Ran, Statements, carries, ended, max_levels, query_ran, rows_given}
use Rattle.ebr_bodies.specs.Bodies.{Doing}
use Rattle.ebr_bodies.specs.Statements.{Stmt, begun, begun_ran, change_ran, checked_ran, finished, first_doing, name_tests, unless_refused as if_tested}
use Rattle.ebr_seats.proofs.Seated.{at, at_there as at_other}
use Rattle.ebr_seats.specs.Tests.{first_tests}
use Rattle.ebr_seats.specs.Ends.{begun_in, own_of}
use Rattle.ebr_core.specs.Machine.{Reply, answer_in, counted_in, counting, creation_answer, defined, editions_in_use, lists_of, recorded, definition_answer, edition_found, edition_set, reply_define, reply_in, reply_to, reply_while, then_reply, unless_refused}
use Rattle.ebr_core.specs.History.{edition_of}
use Rattle.ebr_core.specs.inside.Parts.{is_there, lives, live_count, lives_at, lives_in}

-- ---- lists

one_less : (n : ℕ) → suc n - 1 ≡ n
one_less n = omega arith

module _ {X Y : Type 0} (f : X → Y) where
  map_set : (xs : List X) (n : ℕ) (y : X) → map f (slice_set xs n y) ≡ slice_set (map f xs) n (f y)
  map_set [] n y = refl
  map_set (x ∷ xs) zero y = refl
  map_set (x ∷ xs) (suc n) y = ap (λ ys. f x ∷ ys) (map_set xs n y)

  map_same : (xs : List X) (n : ℕ) (x y : X) → slice_get xs n ≡ Some x → f y ≡ f x → map f (slice_set xs n y) ≡ map f xs
  map_same [] n x y is same = refl
  map_same (z ∷ xs) zero x y is same = ap (λ w. w ∷ map f xs) (same ∙ ap f (sym (same_Some z x is)))
  map_same (z ∷ xs) (suc n) x y is same = ap (λ ys. f z ∷ ys) (map_same xs n x y is same)

count_left : (bs : List Bool) (n : ℕ) → lives_at bs (suc n) ≡ true → live_count (slice_set bs n false) + 1 ≡ live_count bs
count_left [] n is = cc
count_left (true ∷ bs) zero is = omega arith
count_left (false ∷ bs) zero is = cc
count_left (true ∷ bs) (suc n) is = let h = count_left bs n is in omega (arith, h)
count_left (false ∷ bs) (suc n) is = count_left bs n is

pub one_left : (bs : List Bool) (n : ℕ) → lives_at bs n ≡ true → live_count (slice_set bs (n - 1) false) + 1 ≡ live_count bs
one_left bs zero is = cc
one_left bs (suc n) is = ap (λ k. live_count (slice_set bs k false) + 1) (one_less n) ∙ count_left bs n is

at_number : (bs : List Bool) (n : ℕ) → lives_at bs n ≡ true → at bs n ≡ Some true
at_number bs zero is = cc
at_number bs (suc n) is = by (slice_get bs n) is
  where
    by : (o : Option Bool) → lives_in o ≡ true → o ≡ Some true
    by None e = cc
    by (Some b) e = ap Some e

-- the others live as before
pub other_lives : (bs : List Bool) (n m : ℕ) → lives_at bs n ≡ true → (m ≡ n → ⊥) → lives_at (slice_set bs (n - 1) false) m ≡ lives_at bs m
other_lives bs n zero is differ = refl
other_lives bs n (suc m) is differ = ap lives_in (at_other bs n (suc m) true false (at_number bs n is) differ)

pub count_most : (bs : List Bool) → live_count bs ≤ length bs
count_most [] = omega arith
count_most (true ∷ bs) = let h = count_most bs in omega (arith, h)
count_most (false ∷ bs) = let h = count_most bs in omega (arith, h)

pub within : (bs : List Bool) (n : ℕ) → lives_at bs n ≡ true → (1 ≤ n) × (n ≤ length bs)
within bs zero is = cc
within [] (suc n) is = cc
within (b ∷ bs) (suc zero) is = (omega arith, omega arith)
within (b ∷ bs) (suc (suc n)) is = let h = within bs (suc n) is in let e = h.1 in (omega arith, omega (arith, e))

pub all_there : (n : ℕ) (e : EditionNo) → map is_there (replicate n (begun_in e)) ≡ replicate n true
all_there zero e = refl
all_there (suc n) e = ap (λ bs. true ∷ bs) (all_there n e)

-- ---- sessions

there_at : (xs : List Session) (n : ℕ) → lives_at (map is_there xs) n ≡ true → (x : Session) × (session_at xs n ≡ Some x) × (is_there x ≡ true)
there_at xs zero is = cc
there_at [] (suc n) is = cc
there_at (x ∷ xs) (suc zero) is = (x, refl, is)
there_at (x ∷ xs) (suc (suc n)) is = there_at xs (suc n) is

pub at_there : (xs : List Session) (n : ℕ) (x : Session) → session_at xs n ≡ Some x → lives_at (map is_there xs) n ≡ is_there x
at_there xs zero x is = cc
at_there [] (suc n) x is = cc
at_there (y ∷ xs) (suc zero) x is = ap is_there (same_Some y x is)
at_there (y ∷ xs) (suc (suc n)) x is = at_there xs (suc n) x is

here : (xs : List Session) (n : ℕ) (x y : Session) → slice_get xs n ≡ Some x → slice_get (slice_set xs n y) n ≡ Some y
here [] n x y is = cc
here (z ∷ xs) zero x y is = refl
here (z ∷ xs) (suc n) x y is = here xs n x y is

pub session_here : (xs : List Session) (n : ℕ) (x y : Session) → session_at xs n ≡ Some x → session_at (slice_set xs (n - 1) y) n ≡ Some y
session_here xs zero x y is = cc
session_here xs (suc n) x y is = ap (λ k. slice_get (slice_set xs k y) n) (one_less n) ∙ here xs n x y is

pub lives_with : (db : Database) (s : SessionId) (x y : Session) → session_at db.sessions s.0 ≡ Some x → is_there y ≡ is_there x → lives (with_session db s y) ≡ lives db
lives_with db s x y is same = by s.0 is
  where
    by : (n : ℕ) → session_at db.sessions n ≡ Some x → map is_there (slice_set db.sessions (n - 1) y) ≡ map is_there db.sessions
    by zero e = cc
    by (suc n) e = ap (λ k. map is_there (slice_set db.sessions k y)) (one_less n) ∙ map_same is_there db.sessions n x y e same

counted_found : (db : Database) (s : SessionId) (ask : Ask) (a : Answer) (o : Option Session) → session_at db.sessions s.0 ≡ o → lives (counted_in db s ask a o) ≡ lives db
counted_found db s ask a None is = refl
counted_found db s ask a (Some x) is = lives_with db s x (counted ask a x) is refl

pub lives_counted : (s : SessionId) (ask : Ask) (r : Replied) → lives (counting s ask r).database ≡ lives r.database
lives_counted s ask r = counted_found r.database s ask r.answer (session_at r.database.sessions s.0) refl

-- a session lives where it is there, and hasn't left
pub lives_is : (xs : List Session) (n : ℕ) → lives_at (map is_there xs) n ≡ is_some (edition_of (session_at xs n))
lives_is xs zero = refl
lives_is [] (suc n) = refl
lives_is (x ∷ xs) (suc zero) = refl
lives_is (x ∷ xs) (suc (suc n)) = lives_is xs (suc n)

-- ---- answers

-- a reply that is no view
abbrev pub IsPlain : Answer → Type 0
IsPlain (answer.View v) = ⊥
IsPlain answer.DiskFault = ⊥
IsPlain answer.NoMemory = ⊥
IsPlain answer.Stopped = ⊥
IsPlain a = Unit {0}

-- what is replied to an ask; a view to Begin alone
abbrev pub Replies : Ask → Answer → Type 0
Replies Begin (answer.View v) = Unit {0}
Replies ask a = IsPlain a

on_keeps : {A B : Type 0} (P : B → Type 0) (f : A → Result B Code) (r : Result A Code) → ((a : A) → IfOk (f a) P) → IfOk (on f r) P
on_keeps P f (Ok a) h = h a
on_keeps P f (Err code) h = tt

abbrev GivesPlain : Ran → Type 0
GivesPlain r = IsPlain r.answer

query_plain : (p : Place) (room : ℕ) (a : Queried) → IfOk (query_ran p room a) GivesPlain
query_plain p room a =
    on_keeps GivesPlain (rows_given p room a.after) a.answer (λ rows.
    on_keeps GivesPlain (λ u. Ok (record { answer = answer.Rows rows; data_after = a.after })) (must _ (carries p.changing room rows)) (λ u. tt))

ended_plain : (b : Base) (r : Result Ran Code) → IfOk r GivesPlain → IsPlain (ended b r).value
ended_plain b (Ok r) h = h
ended_plain b (Err code) h = tt

finished_plain : (t : TxId) (before : Base) (r : Result ℕ Code) (σ : Doing) → IsPlain (finished t before r σ).value
finished_plain t before (Ok n) σ = tt
finished_plain t before (Err code) σ = tt

module _ (deeper : Statements) (names : Names) (p : Place) (binds : List Value) (left room : ℕ) (b : Base) where
  change_plain : (s : SqlTree) → IsPlain (change_ran deeper names p s binds left room b).value
  change_plain s =
      let o : Outcome Doing (Result ℕ Code) = begun_ran deeper names p s binds left (first_doing (begun p b) room) in
      finished_plain p.tx b o.value o.state

  checked_plain : (s : SqlTree) → IsPlain (checked_ran deeper names p s binds left room b).value
  checked_plain (sql.Query q) = ended_plain b _ (query_plain p room (Query q (after_begin b.data_now p.tx) p.tx (names.view p.edition) binds))
  checked_plain s = change_plain s

tested_plain : (r : Result (Unit {0}) Code) (b : Base) (o : Outcome Base Answer) → IsPlain o.value → IsPlain (if_tested r b o).value
tested_plain (Ok u) b o h = h
tested_plain (Err code) b o h = tt

stmt_plain : (names : Names) (n : ℕ) (p : Place) (s : SqlTree) (binds : List Value) (left room : ℕ) (b : Base) → IsPlain (Stmt names n p s binds left room b).value
stmt_plain names zero p s binds left room b = tt
stmt_plain names (suc n) p s binds left room b =
    tested_plain (name_tests names p s binds) b (checked_ran (Stmt names n) names p s binds left room b) (checked_plain (Stmt names n) names p binds left room b s)

done_plain : (d : Done) → IsPlain (as_answer d)
done_plain (Ok u) = tt
done_plain (Err code) = tt

creation_plain : (b : Bool) → IsPlain (creation_answer b)
creation_plain true = tt
creation_plain false = tt

in_plain : (v : EditionView) (what : Definition) → IsPlain (answer_in v what)
in_plain v (definition.CreateObject replace u) = creation_plain _
in_plain v what = tt

definition_plain : (records : List Record) (e : EditionNo) (what : Definition) (r : Result CatalogueRecord Code) → IsPlain (definition_answer records e what r)
definition_plain records e what (Ok r) = in_plain _ what
definition_plain records e what (Err code) = tt

-- what a definition gives
abbrev given_by : EditionNo → SessionId → Definition → List ℕ → Database → Outcome ℕ (Result CatalogueRecord Code)
given_by e s what text d = recorded (defined (lists_of d) (data_of d) s e (editions_in_use d) what text) (used_by d.records)

define_plain : (e : EditionNo) (s : SessionId) (what : Definition) (text : List ℕ) (d : Database) → IsPlain (reply_define e s what text d).answer
define_plain e s what text d = definition_plain (d.records ++ (given_by e s what text d).made) e what (given_by e s what text d).value

-- ---- replies

-- The same sessions live, and the answer is one to this ask.
pub record Suits (db : Database) (ask : Ask) (r : Replied) : Type 0 where
  pub lives_are : lives r.database ≡ lives db
  pub answer_is : Replies ask r.answer

plain_replies : (ask : Ask) (a : Answer) → IsPlain a → Replies ask a
plain_replies Begin (answer.View v) h = absurd h
plain_replies Begin a h = h
plain_replies ask a h = h

end_there : (b : Bool) (x : Session) → is_there (at_end b x) ≡ is_there x
end_there true x = refl
end_there false x = refl

back_there : (b : Bool) (m : TxMark) (x : Session) → is_there (at_back b m x) ≡ is_there x
back_there true m x = refl
back_there false m x = refl

module _ (db : Database) (s : SessionId) (e : EditionNo) (x : Session) (there : session_at db.sessions s.0 ≡ Some x) (edition : x.edition ≡ Some e) where
  lives_replied : (y : Session) (o : Outcome Base Done) → is_there y ≡ is_there x → lives (replied db s y o).database ≡ lives db
  lives_replied y o same = lives_with (after_outcome db o) s x y there same

  suits_done : (ask : Ask) (y : Session) (o : Outcome Base Done) → is_there y ≡ is_there x → Suits db ask (replied db s y o)
  suits_done ask y o same = record { lives_are = lives_replied y o same; answer_is = plain_replies ask _ (done_plain o.value) }

  suits_defined : (what : Definition) (text : List ℕ) (first : Replied) (a : Answer) → a ≡ first.answer → IsPlain first.answer → lives first.database ≡ lives db
      → (lives (then_reply a first (reply_define e s what text)).database ≡ lives db) × IsPlain (then_reply a first (reply_define e s what text)).answer
  suits_defined what text first answer.Done is plain same = (same, define_plain e s what text first.database)
  suits_defined what text first a is plain same = (same, plain)

  abbrev committed : Outcome Base Done
  committed = commit (on_top db s) (base_in db)

  suits_commit : Suits db Commit (reply_commit db s x)
  suits_commit = suits_done Commit (at_end (own_on_top (data_of db) s && is_done committed.value) x) committed (end_there (own_on_top (data_of db) s && is_done committed.value) x)

  suits_ddl : (what : Definition) (text : List ℕ) → Suits db (Ddl what text) (reply_in e db s x (Ddl what text))
  suits_ddl what text =
      let c : Suits db Commit (reply_commit db s x) = suits_commit in
      let h = suits_defined what text (reply_commit db s x) (reply_commit db s x).answer refl c.answer_is c.lives_are in
      record { lives_are = h.0; answer_is = h.1 }

  suits_set : (name : List ℕ) (r : Result EditionNo Code) → Suits db (SetEdition name) (edition_set db s x r)
  suits_set name (Ok d) = record { lives_are = lives_with db s x (record x { edition = Some d }) there (ap is_some (sym edition)); answer_is = tt }
  suits_set name (Err code) = record { lives_are = refl; answer_is = tt }

  suits_in : (ask : Ask) → ask ≢ Leave → Suits db ask (reply_in e db s x ask)
  suits_in Begin stays = record { lives_are = lives_with db s x (record x { call = Some (mark_of (data_of db) (own_of s)) }) there refl; answer_is = tt }
  suits_in (Sql stmt binds left) stays = record {
    lives_are = refl;
    answer_is = stmt_plain (names_of (lists_of db)) max_levels (own_place e (on_top db s)) stmt binds left (room_for x.carried (Sql stmt binds left)) (base_in db);
  }
  suits_in Commit stays = suits_commit
  suits_in Rollback stays =
      let o : Outcome Base Done = roll_back (on_top db s) (base_in db) in
      let b : Bool = own_on_top (data_of db) s && is_done o.value in
      suits_done Rollback (at_end b x) o (end_there b x)
  suits_in (Savepoint name) stays = suits_done (Savepoint name) x (savepoint (on_top db s) name (base_in db)) refl
  suits_in (BackTo name) stays =
      let o : Outcome Base Done = back_to (on_top db s) name (base_in db) in
      let b : Bool = own_on_top (data_of db) s in
      let m : TxMark = mark_of o.state.data_now (named_at s 0) in
      suits_done (BackTo name) (at_back b m x) o (back_there b m x)
  suits_in (Ddl what text) stays = suits_ddl what text
  suits_in (SetEdition name) stays = suits_set name (edition_found db s name)
  suits_in PushAuto stays = suits_done PushAuto x (push s (base_in db)) refl
  suits_in (PopAuto failed) stays = suits_done (PopAuto failed) x (pop s failed (base_in db)) refl
  suits_in (EndCall failed) stays = record { lives_are = lives_with db s x (record x { call = None }) there refl; answer_is = tt }
  suits_in Leave stays = absurd (stays refl)

  suits_tested : (ask : Ask) (o : Option Code) (r : Replied) → Suits db ask r → Suits db ask (unless_refused o db r)
  suits_tested ask None r h = h
  suits_tested ask (Some code) r h = record { lives_are = refl; answer_is = plain_replies ask _ tt }

  -- The reply to a live session that stays.
  reply_is : (ask : Ask) → Reply db s ask ≡ counting s ask (unless_refused (first_tests db s x ask) db (reply_in e db s x ask))
  reply_is ask = ap (λ o. reply_to o db s ask) there ∙ ap (λ o. reply_while o db s x ask) edition

  pub reply_suits : (ask : Ask) → ask ≢ Leave → Suits db ask (Reply db s ask)
  reply_suits ask stays =
      let r = unless_refused (first_tests db s x ask) db (reply_in e db s x ask) in
      let h : Suits db ask r = suits_tested ask (first_tests db s x ask) (reply_in e db s x ask) (suits_in ask stays) in
      subst (Suits db ask) (sym (reply_is ask)) (record { lives_are = lives_counted s ask r ∙ h.lives_are; answer_is = h.answer_is })

  pub leave_is : Reply db s Leave ≡ counting s Leave (reply_in e db s x Leave)
  leave_is = reply_is Leave

  pub lives_left : lives (Reply db s Leave).database ≡ slice_set (lives db) (s.0 - 1) false
  lives_left = ap (λ (r : Replied). lives r.database) leave_is ∙ lives_counted s Leave (reply_in e db s x Leave) ∙ map_set is_there db.sessions (s.0 - 1) _
