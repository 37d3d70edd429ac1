-- The asks of a body, and its end.
use Rattle.std.proofs.Common.{◌≡◌, ℕ, ◌+◌, ◌-◌, ◌<◌, ◌^◌, List, [], ◌∷◌, ◌++◌, Some, None, Result, Ok, Err, refl, sym, ap, subst, ◌∙◌}
use Rattle.ebr_base.specs.declared.value.Value.{Value}
use Rattle.ebr_exprtree.specs.declared.op.Op.{Op}
use Rattle.ebr_ast.specs.declared.sql.SqlTree.{SqlTree}
use Rattle.ebr_ast.specs.declared.view.EditionView.{EditionView}
use Rattle.ebr_asks.specs.declared.ask.Ask.{Ask}
use Rattle.ebr_asks.specs.declared.ask.Ask.TheVariants as ask
use Rattle.ebr_asks.specs.declared.answer.Answer.{Answer}
use Rattle.ebr_base.specs.declared.numbers.EditionNo.{EditionNo}
use Rattle.ebr_base.specs.declared.row.TxId.{TxId}
use Rattle.ebr_tx.specs.Data.{Data}
use Rattle.ebr_tx.specs.Calls.{top}
use Rattle.ebr_record.specs.Keeper.{Keeper}
use Rattle.ebr_cross.specs.Catalogue.{Lists, View}
use Rattle.ebr_database.specs.declared.failure.Failure.{Failure}
use Rattle.ebr_database.specs.declared.failure.Failure.TheVariants.{Refused, Halted}
use Rattle.ebr_database.specs.declared.failure.Halt.{Halt}
use Rattle.ebr_database.specs.declared.failure.Halt.TheVariants.{NoMemory}
use Rattle.ebr_database.specs.Base.{Base}
use Rattle.ebr_database.specs.Outcome.{Outcome}
use Rattle.ebr_database.specs.Shows.{GaveUp, Said, Shows, base_of}
use Rattle.ebr_database.proofs.Goes.{Goes}
use Rattle.ebr_database.proofs.Keeping.{kept_stops}
use Rattle.ebr_exec.specs.Places.{names_of}
use Rattle.ebr_run.specs.Packages.{PackageState}
use Rattle.ebr_run.specs.Run.{Seen}
use Rattle.ebr_machine.specs.declared.machine.Machine.{Machine}
use Rattle.ebr_machine.specs.declared.next.End.{End}
use Rattle.ebr_machine.specs.declared.next.End.TheVariants as end
use Rattle.ebr_machine.specs.declared.next.Next.{Next}
use Rattle.ebr_machine.specs.declared.next.Next.TheVariants as next
use Rattle.ebr_machine.specs.Has.{asks_of, new_row_of, shown, standing_of_end}
use Rattle.ebr_machine.specs.Has as machine
use Rattle.ebr_units.specs.Served.{served as served_by}
use Rattle.ebr_statements.specs.declared.course.Course.{Course}
use Rattle.ebr_statements.specs.declared.ready.Ready.{Ready as Held}
use Rattle.ebr_statements.specs.declared.site.Site.{Site as Standpoint}
use Rattle.ebr_statements.specs.declared.tally.Tally.{Tally}
use Rattle.ebr_bodies.specs.Ready.{Ready}
use Rattle.ebr_bodies.specs.Bodies.{Doing, Site, body, closed, ended_by, max_asks, next_ask, row_left, run_of, serve, served}
use Rattle.ebr_bodies.specs.Statements.{Stmt}
use Rattle.ebr_statements.specs.inside.Answered.{Counts, Finishes, IsEnd}
use Rattle.ebr_statements.specs.inside.Held.{IsServed, ready_of}
use Rattle.ebr_statements.specs.inside.Sites.{Ends, IsBegun, doing_at, site_at}
use Rattle.ebr_statements.specs.inside.Views.{place_at}
use Rattle.ebr_statements.proofs.Turns.{ask_gives_up, asked, body_ends, body_gives_up, ended, in_bound, last_behind}

-- 1. What is seen of a run

waits : (m : Machine) (packages : List PackageState) (asks : List Ask) (n : Next) (q : Ask) → n ≡ next.Ask q → next_ask (shown m packages (asks ++ asks_of n) n) ≡ Some q
waits m packages asks n q e = ap (λ (x : Next). next_ask (shown m packages (asks ++ asks_of x) x)) e ∙ last_behind None asks q

over : (m : Machine) (packages : List PackageState) (asks : List Ask) (n : Next) (e : End) → n ≡ next.Done e → next_ask (shown m packages (asks ++ asks_of n) n) ≡ None
over m packages asks n e is = ap (λ (x : Next). next_ask (shown m packages (asks ++ asks_of x) x)) is ∙ by e
  where
    by : (e : End) → next_ask (shown m packages (asks ++ []) (next.Done e)) ≡ None
    by end.Returned = refl
    by (end.Raised code) = refl

module _ (w : Site) (r : Ready) (run : List Answer → Seen) (asks : List Ask) (answers : List Answer) (b : Base) (whole : Outcome Base Seen) (k mid : Keeper) (m : Machine) (packages : List PackageState) (n : Next) (j : ℕ)
    (seen : machine.Shows (run answers) m packages (asks ++ asks_of n) n) (goes : Goes whole (served (max_asks - j) w r run answers b) k mid) where
  abbrev s : Seen
  s = shown m packages (asks ++ asks_of n) n

  pub ask_goes_on : (q : Ask) (room : ℕ) (now : Keeper) (b' : Base) (a : Answer) → n ≡ next.Ask q → j < 2 ^ 64 - 1 → room ≡ m.inner.room → Said (serve w r room q b) b' mid now a
      → Goes whole (served (max_asks - (j + 1)) w r run (answers ++ a ∷ []) b') k now
  ask_goes_on q room now b' a is less same said = asked w r run answers b s whole k mid j room q now b' a (in_bound j less) seen.is (waits m packages asks n q is) same goes said

  pub ask_halts : (q : Ask) (room : ℕ) (now : Keeper) (why : Halt) → n ≡ next.Ask q → j < 2 ^ 64 - 1 → room ≡ m.inner.room → GaveUp mid now (serve w r room q b).made why → GaveUp k now whole.made why
  ask_halts q room now why is less same said = ask_gives_up w r run answers b s whole k mid j room q now why (in_bound j less) seen.is (waits m packages asks n q is) same goes said

  pub run_ends : (e : End) (course : Course) → course.machine ≡ m → course.packages ≡ packages → n ≡ next.Done e → Ends whole b k mid course (Ok e)
  run_ends e course same kept is =
      let said : Said whole b k mid s = ended w r run answers b s whole k mid (max_asks - j) seen.is (over m packages asks n e is) goes in
      let done : Said whole b k mid (shown m packages (asks ++ []) (next.Done e)) = subst (λ (x : Next). Said whole b k mid (shown m packages (asks ++ asks_of x) x)) is said in
      (asks ++ [], subst (λ x. Said whole b k mid (shown x course.packages (asks ++ []) (next.Done e))) (sym same) (subst (λ p. Said whole b k mid (shown m p (asks ++ []) (next.Done e))) (sym kept) done))

-- 2. The statements of a body

module _ (lists : Lists) (w : Standpoint) (r : Held) (is : IsServed (View lists) r) (room : ℕ) (x : Data) (k : Keeper) where
  pub seen_book : (v : EditionView) → v ≡ r.book → v ≡ View lists v.edition
  seen_book v e =
      let there : v ≡ View lists r.edition = e ∙ is.book in
      there ∙ ap (View lists) (sym (ap (λ (y : EditionView). y.edition) there))

  pub serves_statement : (v : EditionView) (t : TxId) (s : SqlTree) (binds : List Value) (left : ℕ) (q : Ask) → v ≡ r.book → top x w.t.session ≡ t → q ≡ ask.Sql s binds left
      → serve (site_at (names_of lists) w) (ready_of r) room q (base_of x k) ≡ Stmt (names_of lists) w.levels (place_at v.edition r.origin t w.changing) s binds left room (base_of x k)
  serves_statement v t s binds left q e on asked =
      let same : r.edition ≡ v.edition = sym (ap (λ (y : EditionView). y.edition) (e ∙ is.book)) in
      let there : serve (site_at (names_of lists) w) (ready_of r) room (ask.Sql s binds left) (base_of x k) ≡ Stmt (names_of lists) w.levels (place_at v.edition r.origin t w.changing) s binds left room (base_of x k) =
      λ i. Stmt (names_of lists) w.levels (place_at (same i) r.origin (on i) w.changing) s binds left room (base_of x k) in
      ap (λ y. serve (site_at (names_of lists) w) (ready_of r) room y (base_of x k)) asked ∙ there

-- 3. A body that has ended

-- a body begins with the book that its trigger was made ready with
pub begins_with : (view : EditionNo → EditionView) (r : Held) (run : List Answer → Seen) (course : Course) → IsServed view r → IsBegun (served_by (view r.edition)) run course → IsBegun (served_by r.book) run course
begins_with view r run course is h = subst (λ v. IsBegun (served_by v) run course) (sym is.book) h

module _ (w : Site) (o : Op) (r : Ready) (old new : List Value) (x d d' : Data) (k now : Keeper) (tally : Tally) where
  abbrev σ : Doing
  σ = doing_at x k tally

  abbrev asked_for : Outcome Base Seen
  asked_for = served max_asks w r (run_of w o r old new σ) [] σ.base

  pub body_done : (tally' : Tally) (course : Course) (e : End) (result : Result (List Value) Failure) → Ends asked_for (base_of d now) k now course (Ok e) → d' ≡ closed w d
      → IsEnd result (ended_by (standing_of_end e) (row_left o r new (new_row_of course.machine))) → Counts result course.machine tally tally' → Shows (body w o r old new σ) (doing_at d' now tally') k now result
  body_done tally' course e (Ok row) h is how counts =
      body_ends w o r old new σ k now (base_of d now) (shown course.machine course.packages h.0 (next.Done e)) d' tally'.steps tally'.room tally'.lines (Ok row) h.1 is counts.steps counts.room counts.lines how
  body_done tally' course e (Err (Refused code)) h is how counts =
      body_ends w o r old new σ k now (base_of d now) (shown course.machine course.packages h.0 (next.Done e)) d' tally'.steps tally'.room tally'.lines (Err code) h.1 is counts.steps counts.room counts.lines how
  body_done tally' course e (Err (Halted why)) h is how counts =
      subst (λ y. GaveUp k now (body w o r old new σ).made y) (sym how) (body_gives_up w o r old new σ k now NoMemory (kept_stops k now asked_for.made h.1.grew))

  pub body_halts : (course : Course) (why : Halt) → Ends asked_for (base_of d now) k now course (Err why) → GaveUp k now (body w o r old new σ).made why
  body_halts course why h = body_gives_up w o r old new σ k now why h

  pub body_finishes : (tally' : Tally) (course : Course) (end : Result End Halt) (result : Result (List Value) Failure) → Ends asked_for (base_of d now) k now course end → d' ≡ closed w d
      → Finishes end result course.machine o r new tally tally' → Shows (body w o r old new σ) (doing_at d' now tally') k now result
  body_finishes tally' course (Ok e) result h is f = body_done tally' course e result h is f.0 f.1
  body_finishes tally' course (Err why) result h is f = subst (Shows (body w o r old new σ) (doing_at d' now tally') k now) (sym f) (body_halts course why h)
