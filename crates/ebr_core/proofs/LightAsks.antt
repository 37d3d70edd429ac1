-- What becomes of asks that leave all as it was where there is no memory for them.
use Rattle.std.proofs.Common.{◌≡◌, ℕ, zero, suc, ◌+◌, Bool, true, false, if◌then◌else◌, List, [], refl, sym, ap, subst, ◌∙◌, append-nil, arith}
use Rattle.std.specs.Prelude.{nat_lt, IfOk, IsErrAnd, Option, None, Result, Ok, Err, not}
use Rattle.std.proofs.lemmas.Result.{err_from_is_err_and}
use Rattle.ebr_base.specs.declared.code.Code.{Code}
use Rattle.ebr_base.specs.declared.code.Code.TheVariants.{Ora, Ebr}
use Rattle.ebr_base.specs.declared.row.RowId.{RowId}
use Rattle.ebr_base.specs.declared.row.TxId.{TxId}
use Rattle.ebr_base.specs.declared.value.Value.{Value}
use Rattle.ebr_ast.specs.declared.query.Query.{Query as Select}
use Rattle.ebr_ast.specs.declared.sql.SqlTree.{SqlTree}
use Rattle.ebr_ast.specs.declared.sql.SqlTree.TheVariants as sql
use Rattle.ebr_ast.specs.declared.view.EditionView.{EditionView}
use Rattle.ebr_asks.specs.declared.ask.Ask.{Ask}
use Rattle.ebr_asks.specs.declared.ask.Ask.TheVariants.{Begin, Sql}
use Rattle.ebr_asks.specs.declared.answer.Answer.{Answer}
use Rattle.ebr_asks.specs.declared.answer.Answer.TheVariants as answer
use Rattle.ebr_record.specs.declared.record.Record.{Record}
use Rattle.ebr_record.specs.Keeper.{Keeper}
use Rattle.ebr_tx.specs.Data.{Data}
use Rattle.ebr_tx.specs.Calls.{after_begin}
use Rattle.ebr_sqlcheck.specs.Checked.{must, on}
use Rattle.ebr_sqlcheck.specs.Sources.{Relation, relations_of}
use Rattle.ebr_query.specs.Rows.{Row, max_product, product, product_size}
use Rattle.ebr_query.specs.Seen.{rows_of_sources}
use Rattle.ebr_query.specs.Results.{chosen, result_rows}
use Rattle.ebr_query.specs.Queries.{Answered, Query, else_refused, over_product, over_rows, refused, to_lock, with_locks}
use Rattle.ebr_exec.specs.Over.{Over}
use Rattle.ebr_exec.specs.Places.{Names, Place}
use Rattle.ebr_exec.specs.Statements.{carries, ended, max_levels, query_ran, rows_given}
use Rattle.ebr_exec.proofs.Undone.{over_begun, over_locks}
use Rattle.ebr_bodies.specs.Statements.{Stmt, checked_ran, name_tests, unless_refused as if_tested}
use Rattle.ebr_database.specs.declared.failure.Halt.{Halt}
use Rattle.ebr_database.specs.declared.failure.Halt.TheVariants as halt
use Rattle.ebr_database.specs.Base.{Base}
use Rattle.ebr_database.specs.Outcome.{Outcome, gives}
use Rattle.ebr_database.specs.Database.{Database, Replied}
use Rattle.ebr_database.specs.Shows.{Grew, Said, base_of}
use Rattle.ebr_database.proofs.Keeping.{grew_same, kept_stops, stays}
use Rattle.ebr_seats.specs.declared.seat.Seat.{Seat}
use Rattle.ebr_seats.specs.Seats.{Holds as Seated}
use Rattle.ebr_units.specs.Living.{AreCurrent}
use Rattle.ebr_statements.specs.Fits.{IsAsBefore}
use Rattle.ebr_core.specs.History.{is_light, only_reads}
use Rattle.ebr_core.specs.Machine.{lists_of}
use Rattle.ebr_core.specs.declared.current.Current.{Current}
use Rattle.ebr_core.specs.inside.Held.{ComesWith, Copies, CopiesGiven, Fails, Holds, IsReplied, IsUntouched, Replies, RepliesGiven, Tries, with_nothing}

-- ---- a query that locks no rows

same_after : {A : Type 0} (d : Data) (r : Result A Code) (next : A → Answered) → ((a : A) → (next a).after ≡ d) → (else_refused d r next).after ≡ d
same_after d (Ok a) next h = h a
same_after d (Err code) next h = refl

unlocked : (values : List (List Value)) (t : TxId) (d : Data) (rows : List RowId) → rows ≡ [] → (with_locks values t d rows).after ≡ d
unlocked values t d rows none = ap (λ l. (with_locks values t d l).after) none

product_reads : (q : Select) (relations : List Relation) (d : Data) (t : TxId) (binds : List Value) (rows : List Row) → q.for_update ≡ false → (over_product q relations d t binds rows).after ≡ d
product_reads q relations d t binds rows none =
    same_after d (chosen q relations binds rows) (λ result. else_refused d (result_rows q relations binds result) (λ values. with_locks values t d (to_lock q.for_update result))) (λ result.
    same_after d (result_rows q relations binds result) (λ values. with_locks values t d (to_lock q.for_update result)) (λ values. unlocked values t d (to_lock q.for_update result) (ap (λ b. to_lock b result) none)))

if_few : (d : Data) (code : Code) (b : Bool) (o : Answered) → o.after ≡ d → (if b then refused d code else o).after ≡ d
if_few d code true o h = refl
if_few d code false o h = h

reads : (q : Select) (d : Data) (t : TxId) (v : EditionView) (binds : List Value) → q.for_update ≡ false → (Query q d t v binds).after ≡ d
reads q d t v binds none =
    same_after d (relations_of v q.sources) (λ relations. over_rows q relations d t binds (rows_of_sources d t v q.sources relations)) (λ relations.
    let rows : List (List Row) = rows_of_sources d t v q.sources relations in
    if_few d (Ebr 13) (nat_lt max_product (product_size rows)) (over_product q relations d t binds (product rows)) (product_reads q relations d t binds (product rows) none))

over_same : (d : Data) (t : TxId) → Over d t d
over_same d t = over_locks d d t (record { added = []; is = λ i. record d { locks = sym (append-nil d.locks) i } })

-- what it leaves: a transaction that may have begun
pub record ReadsOnly (b : Base) (t : TxId) (o : Outcome Base Answer) : Type 0 where
  pub over : Over b.data_now t o.state.data_now
  pub made : o.made ≡ []

module _ (b : Base) (t : TxId) where
  refused_reads : (a : Answer) → ReadsOnly b t (gives b a)
  refused_reads a = record { over = over_same b.data_now t; made = refl }

  module _ (d : Data) (over : Over b.data_now t d) where
    given_reads : (rows : List (List Value)) (r : Result (Unit {0}) Code) → ReadsOnly b t (ended b (on (λ u. Ok (record { answer = answer.Rows rows; data_after = d })) r))
    given_reads rows (Ok u) = record { over = over; made = refl }
    given_reads rows (Err code) = refused_reads (answer.Refused code 0 [])

    ran_reads : (p : Place) (room : ℕ) (r : Result (List (List Value)) Code) → ReadsOnly b t (ended b (on (rows_given p room d) r))
    ran_reads p room (Ok rows) = given_reads rows (must (Ebr 11) (carries p.changing room rows))
    ran_reads p room (Err code) = refused_reads (answer.Refused code 0 [])

tested_reads : (b : Base) (t : TxId) (r : Result (Unit {0}) Code) (o : Outcome Base Answer) → ReadsOnly b t o → ReadsOnly b t (if_tested r b o)
tested_reads b t (Ok u) o h = h
tested_reads b t (Err code) o h = refused_reads b t (answer.Refused code 0 [])

is_false : (b : Bool) → not b ≡ true → b ≡ false
is_false true is = cc
is_false false is = refl

pub statement_reads : (names : Names) (n : ℕ) (p : Place) (s : SqlTree) (binds : List Value) (left room : ℕ) (b : Base) → only_reads s ≡ true → ReadsOnly b p.tx (Stmt names n p s binds left room b)
statement_reads names zero p s binds left room b light = refused_reads b p.tx (answer.Refused (Ora 36) 0 [])
statement_reads names (suc n) p s binds left room b light =
    tested_reads b p.tx (name_tests names p s binds) (checked_ran (Stmt names n) names p s binds left room b) (checked s light)
  where
    query : (q : Select) → q.for_update ≡ false → ReadsOnly b p.tx (ended b (query_ran p room (Query q (after_begin b.data_now p.tx) p.tx (names.view p.edition) binds)))
    query q none =
        let a : Answered = Query q (after_begin b.data_now p.tx) p.tx (names.view p.edition) binds in
        let over : Over b.data_now p.tx a.after = subst (Over b.data_now p.tx) (sym (reads q (after_begin b.data_now p.tx) p.tx (names.view p.edition) binds none)) (over_begun b.data_now p.tx) in
        ran_reads b p.tx a.after over p room a.answer

    checked : (s : SqlTree) → only_reads s ≡ true → ReadsOnly b p.tx (checked_ran (Stmt names n) names p s binds left room b)
    checked (sql.Query q) light = query q (is_false q.for_update light)
    checked s light = cc

-- ---- what a run of it leaves

module _ (names : Names) (p : Place) (stmt : SqlTree) (binds : List Value) (left room : ℕ) (d d' : Data) (old new : Keeper) (a : Answer) (light : only_reads stmt ≡ true)
    (said : Said (Stmt names max_levels p stmt binds left room (base_of d old)) (base_of d' new) old new a) where
  reads_run : ReadsOnly (base_of d old) p.tx (Stmt names max_levels p stmt binds left room (base_of d old))
  reads_run = statement_reads names max_levels p stmt binds left room (base_of d old) light

  pub run_over : Over d p.tx d'
  run_over = subst (Over d p.tx) (ap (λ (b : Base). b.data_now) said.state) reads_run.over

  pub run_grew : Grew old new []
  run_grew = subst (Grew old new) reads_run.made said.grew

-- what is as before where it gives up
pub before_reads : {K : Type 0} (s : SqlTree) (t : TxId) (d d' : Data) (k k' : K) → only_reads s ≡ true → IsAsBefore s t d d' k k' → (d' ≡ d) × (k' ≡ k)
before_reads (sql.Query q) t d d' k k' light h = h
before_reads (sql.Insert i) t d d' k k' light h = cc
before_reads (sql.Update u) t d d' k k' light h = cc
before_reads (sql.Delete x) t d d' k k' light h = cc
before_reads (sql.Apply name) t d d' k k' light h = cc

-- ---- all is as before

module _ {K : Type 0} (as_keeper : K → Keeper) (old new : Current K) (db : Database) (h : Holds as_keeper old db) where
  -- Views and books more may be kept.
  pub untouched : new.world.catalogue ≡ old.world.catalogue → AreCurrent (lists_of db) new.views → AreCurrent (lists_of db) new.world.book → new.world.tx.contents ≡ old.world.tx.contents → new.seats.items ≡ old.seats.items
      → Grew (as_keeper old.world.keeper) (as_keeper new.world.keeper) [] → IsUntouched as_keeper old new db
  untouched catalogue views books contents seats grew = record {
    holds = record {
      catalogue_is = catalogue ∙ h.catalogue_is;
      own_keys = h.own_keys;
      views_are = views;
      books_are = books;
      seated = subst (λ n. Seated n new.world.tx.contents new.seats.items db) (sym (grew.used ∙ add_zero (as_keeper old.world.keeper).used))
          (subst (λ d. Seated (as_keeper old.world.keeper).used d new.seats.items db) (sym contents) (subst (λ (l : List Seat). Seated (as_keeper old.world.keeper).used old.world.tx.contents l db) (sym seats) h.seated));
      reached = h.reached;
      early = h.early;
    };
    grew = grew;
  }
    where
      add_zero : (n : ℕ) → n + 0 ≡ n
      add_zero n = omega arith

-- nothing was kept
pub kept_same : {K : Type 0} (as_keeper : K → Keeper) (k k' : K) → k' ≡ k → Grew (as_keeper k) (as_keeper k') []
kept_same as_keeper k k' is = subst (λ j. Grew (as_keeper k) (as_keeper j) []) (sym is) (grew_same (as_keeper k))

-- at the exits of `?`
pub tries_nothing : {K : Type 0} (as_keeper : K → Keeper) (old new : Current K) (db : Database) (r : Replied) (res : Result ((Answer × Option EditionView) × Answer) Halt) → IsErrAnd res (λ why. why ≡ halt.NoMemory) → IsUntouched as_keeper old new db
    → Tries as_keeper true old new db res r
tries_nothing as_keeper old new db r res none u = let p = err_from_is_err_and res none in subst (λ x. Tries as_keeper true old new db x r) (sym (p.1 ∙ ap (λ why. Err why) p.2)) u

pub tries_failing : {K : Type 0} (as_keeper : K → Keeper) (old new : Current K) (db : Database) (r : Replied) (res : Result ((Answer × Option EditionView) × Answer) Halt) (why : Halt) → IsErrAnd res (λ w. w ≡ why) → IsUntouched as_keeper old new db
    → Tries as_keeper true old new db res r
tries_failing as_keeper old new db r res why none u = let p = err_from_is_err_and res none in subst (λ x. Tries as_keeper true old new db x r) (sym p.1) u

-- ---- copies

-- a reply with a copy of its answer, or without memory for one
pub tried : {K : Type 0} (as_keeper : K → Keeper) (light : Bool) (old new : Current K) (db : Database) (given : Answer × Option EditionView) (result : Result ((Answer × Option EditionView) × Answer) Halt) (r : Replied)
    → IsReplied as_keeper old new given.0 r → Copies given result → Fails as_keeper light old new db r.records halt.NoMemory → Tries as_keeper light old new db result r
tried as_keeper light old new db given (Ok pair) r h c f = (subst (λ (g : Answer × Option EditionView). IsReplied as_keeper old new g.0 r) (sym c.0) h, c.1 ∙ ap (λ (g : Answer × Option EditionView). g.0) (sym c.0))
tried as_keeper light old new db given (Err why) r h c f = subst (Fails as_keeper light old new db r.records) (sym c) f

pub tried_so : {K : Type 0} (as_keeper : K → Keeper) (light : Bool) (old new : Current K) (db : Database) (given : Answer × Option EditionView) (told : (Answer × Option EditionView) × Answer) (r : Replied)
    → IsReplied as_keeper old new given.0 r → (told.0 ≡ given) × (told.1 ≡ given.0) → Tries as_keeper light old new db (Ok told) r
tried_so as_keeper light old new db given told r h c = (subst (λ (g : Answer × Option EditionView). IsReplied as_keeper old new g.0 r) (sym c.0) h, c.1 ∙ ap (λ (g : Answer × Option EditionView). g.0) (sym c.0))

-- nothing was done yet
pub fails_nothing : {K : Type 0} (as_keeper : K → Keeper) (light : Bool) (now : Current K) (db : Database) (made : List Record) → Holds as_keeper now db → Fails as_keeper light now now db made halt.NoMemory
fails_nothing as_keeper true now db made h = record { holds = h; grew = grew_same (as_keeper now.world.keeper) }
fails_nothing as_keeper false now db made h = stays (as_keeper now.world.keeper) made

-- one that isn't light gives up without it
pub tried_given : {K : Type 0} (as_keeper : K → Keeper) (old new : Current K) (db : Database) (given : Result (Answer × Option EditionView) Halt) (result : Result ((Answer × Option EditionView) × Answer) Halt) (r : Replied)
    → RepliesGiven as_keeper old new given r → CopiesGiven given result → Tries as_keeper false old new db result r
tried_given as_keeper old new db (Ok given) result r h c = tried as_keeper false old new db given result r h c (kept_stops (as_keeper old.world.keeper) (as_keeper new.world.keeper) r.records h.grew)
tried_given as_keeper old new db (Err why) result r h c = subst (λ x. Tries as_keeper false old new db x r) (sym c) h

-- ---- what comes with an answer

pub comes_told : (ask : Ask) (given : Answer × Option EditionView) (result : Result ((Answer × Option EditionView) × Answer) Halt) → ComesWith ask given.0 given.1 → Copies given result → IfOk result (λ told. ComesWith ask told.0.0 told.0.1)
comes_told ask given (Ok told) h c = subst (λ (g : Answer × Option EditionView). ComesWith ask g.0 g.1) (sym c.0) h
comes_told ask given (Err why) h c = tt

pub comes_refused : (ask : Ask) (code : Code) (a : Answer) → a ≡ answer.Refused code 0 [] → ComesWith ask a None
comes_refused ask code a is = subst (λ b. ComesWith ask b None) (sym is) (by ask)
  where
    by : (q : Ask) → ComesWith q (answer.Refused code 0 []) None
    by Begin = refl
    by q = refl

-- no book comes with an answer that is no view
pub none_given : (given : Result Answer Halt) (result : Result ((Answer × Option EditionView) × Answer) Halt) → CopiesGiven (with_nothing given) result → IfOk result (λ told. told.0.1 ≡ None)
none_given (Ok a) (Ok told) c = ap (λ (g : Answer × Option EditionView). g.1) c.0
none_given (Ok a) (Err why) c = tt
none_given (Err e) result c = subst (λ r. IfOk r (λ told. told.0.1 ≡ None)) (sym c) tt

-- a reply without a view
pub tried_plainly : {K : Type 0} (as_keeper : K → Keeper) (old new : Current K) (db : Database) (given : Result Answer Halt) (result : Result ((Answer × Option EditionView) × Answer) Halt) (r : Replied)
    → Replies as_keeper old new given r → CopiesGiven (with_nothing given) result → Tries as_keeper false old new db result r
tried_plainly as_keeper old new db (Ok a) result r h c = tried_given as_keeper old new db (Ok (a, None)) result r h c
tried_plainly as_keeper old new db (Err why) result r h c = tried_given as_keeper old new db (Err why) result r h c

-- an ask that is no statement and is answered without a view isn't light
pub heavy_plainly : (ask : Ask) → (ask ≡ Begin → ⊥) → ((stmt : SqlTree) (binds : List Value) (left : ℕ) → ask ≡ Sql stmt binds left → ⊥) → is_light ask ≡ false
heavy_plainly Begin begins statements = absurd (begins refl)
heavy_plainly (Sql stmt binds left) begins statements = absurd (statements stmt binds left refl)
heavy_plainly ask begins statements = refl
