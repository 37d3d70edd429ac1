-- What the body of a trigger does: each of its asks, and all of them.
use Rattle.std.proofs.Common.{◌≡◌, ℕ, zero, suc, ◌+◌, ◌-◌, ◌<◌, Bool, true, false, List, [], ◌∷◌, ◌++◌, Option, Some, None, Err, length, refl, sym, ap, subst, ◌∙◌, arith}
use Rattle.std.specs.Prelude.{◌==◌, IfOk, Result, if◌then◌else◌, slice_set, unwrap_or}
use Rattle.std.proofs.lemmas.Bool.{both_ways}
use Rattle.std.proofs.lemmas.List.{length-set}
use Rattle.ebr_base.specs.declared.code.Code.{Code}
use Rattle.ebr_base.specs.declared.numbers.SessionId.{SessionId}
use Rattle.ebr_base.specs.declared.row.Change.{Change}
use Rattle.ebr_base.specs.declared.row.TxId.{TxId}
use Rattle.ebr_base.specs.declared.table.TableDef.{TableDef}
use Rattle.ebr_base.specs.declared.value.Value.{Value}
use Rattle.ebr_exprtree.specs.declared.op.Op.{Op}
use Rattle.ebr_exprtree.specs.declared.op.Op.TheVariants as op
use Rattle.ebr_ast.specs.declared.sql.SqlTree.{SqlTree}
use Rattle.ebr_asks.specs.declared.ask.Ask.{Ask}
use Rattle.ebr_asks.specs.declared.ask.Ask.TheVariants as ask
use Rattle.ebr_asks.specs.declared.answer.Answer.{Answer}
use Rattle.ebr_tx.specs.declared.savepoints.Savepoint.{Savepoint}
use Rattle.ebr_tx.specs.Data.{Data}
use Rattle.ebr_tx.specs.Calls.{after_back_to, after_pop, after_push, after_rollback, after_savepoint, after_settle, back_to_savepoint, levels, push_refusal, savepoint_named}
use Rattle.ebr_database.specs.Base.{Base, with_data}
use Rattle.ebr_database.specs.Outcome.{Outcome, gives, and_then}
use Rattle.ebr_database.specs.Transact.{Done, back_to, commit, pop, push, pushed, roll_back, savepoint}
use Rattle.ebr_seats.specs.Ends.{closed_from_top}
use Rattle.ebr_levels.specs.Keeps.{UnderChange}
use Rattle.ebr_levels.specs.Levels.{Inside, IsTop, Leaves, above}
use Rattle.ebr_levels.proofs.EndLemmas.{after_closed, inside_closes}
use Rattle.ebr_levels.proofs.InsideLemmas.{after_opened, after_rolled_back, after_saved, after_settled, after_went_back, inside_at_own, inside_begins, inside_equal, inside_statement, inside_top, inside_top_is}
use Rattle.ebr_exec.specs.Places.{Place}
use Rattle.ebr_exec.specs.Statements.{Statements, refused}
use Rattle.ebr_run.specs.Run.{RunStatus, Seen}
use Rattle.ebr_run.specs.Run.RunStatus.{Raised, Returned, Waiting}
use Rattle.ebr_bodies.specs.Ready.{Ready}
use Rattle.ebr_bodies.specs.Bodies.{Doing, Site, answered, at_own, body, ended_by, max_asks, misplaced, next_ask, on_ask, on_top, place_in, put, row_left, run_of, serve, served, unless_own}
use Rattle.ebr_integrity.specs.Commits.{IsSuitable}
use Rattle.ebr_integrity.specs.Integrity.{IsIntact, IsIntactBy}
use Rattle.ebr_integrity.specs.inside.Under.{under_by}
use Rattle.ebr_integrity.specs.inside.Works.{Works, WorksIn}
use Rattle.ebr_integrity.proofs.CommitLemmas.{CommitWorks, EndsAs, Settling, commit_works}
use Rattle.ebr_integrity.proofs.CommitLemmas.Settling.{Settled, Refused}
use Rattle.ebr_integrity.proofs.DataLemmas.{intact_popped, intact_pushed, intact_rolled_back, intact_saved, intact_went_back}
use Rattle.ebr_integrity.proofs.WorksLemmas.{fit_behind, works_both, works_none, works_same}

-- a statement, wherever it stands
abbrev pub AllWork : List TableDef → Statements → Type 0
AllWork living st = (p : Place) (s : SqlTree) (binds : List Value) (left room : ℕ) (b : Base) → IsIntact living b.data_now → IsTop b.data_now p.tx
    → WorksIn living b p.tx (under_by p.changing) (st p s binds left room b).made (st p s binds left room b).state

-- ---- the asks

module _ (living : List TableDef) (a : Data) (t : TxId) (under : UnderChange) where
  -- what an ask of a body leaves, wherever the body began, with so many autonomous transactions open
  record WorksInside {A : Type 0} (b : Base) (o : Outcome Base A) : Type 0 where
    works : Works living b o.made o.state
    height : ℕ
    inside : Inside a t under height o.state.data_now

  as_answered : (b : Base) (o : Outcome Base Done) → WorksInside b o → WorksInside b (answered o)
  as_answered b o h = record { works = h.works; height = h.height; inside = h.inside }

  module _ (b : Base) (fit : IsIntact living b.data_now) (n : ℕ) (i : Inside a t under n b.data_now) where
    stays : {A : Type 0} (x : A) → WorksInside b (gives b x)
    stays x = record { works = works_same living b fit; height = n; inside = i }

    moved : {A : Type 0} (d : Data) (m : ℕ) (x : A) → d.commits ≡ b.data_now.commits → d.tables ≡ b.data_now.tables → IsIntactBy (IsSuitable living) d → Inside a t under m d → WorksInside b (gives (with_data d b) x)
    moved d m x commits tables intact inside = record { works = works_none living b (with_data d b) commits tables intact; height = m; inside = inside }

    module _ (u : TxId) (is : u ≡ above t n) (some : 0 < n) where
      settled_inside : (o : Outcome Base Done) (how : Settling) → EndsAs living b fit u how o → Inside a t under n o.state.data_now
      settled_inside o Settled ends = after_settled a b.data_now o.state.data_now t under n some i (ends.0 ∙ ap (after_settle b.data_now) is)
      settled_inside o (Refused code) ends = inside_equal a b.data_now o.state.data_now t under n ends.0 i

      committed : WorksInside b (commit u b)
      committed =
          let c : CommitWorks living b fit u (commit u b) = commit_works living b fit u in
          record { works = c.works; height = n; inside = settled_inside (commit u b) c.how c.ends }

      rolled_back : WorksInside b (roll_back u b)
      rolled_back =
          moved (after_rollback b.data_now u) n _ refl refl (intact_rolled_back (IsSuitable living) b.data_now fit.intact u)
          (after_rolled_back a b.data_now (after_rollback b.data_now u) t under n some i (ap (after_rollback b.data_now) is))

      saved : (name : List ℕ) → WorksInside b (savepoint u name b)
      saved name =
          moved (after_savepoint b.data_now u name) n _ refl refl (intact_saved (IsSuitable living) b.data_now fit.intact u name)
          (after_saved a b.data_now (after_savepoint b.data_now u name) t under n some i name (ap (λ x. after_savepoint b.data_now x name) is))

      went_back : (name : List ℕ) → WorksInside b (back_to u name b)
      went_back name =
          moved (after_back_to b.data_now u name) n _ (same_commits (savepoint_named b.data_now u name)) (same_tables (savepoint_named b.data_now u name)) (intact_went_back (IsSuitable living) b.data_now fit.intact u name)
          (after_went_back a b.data_now (after_back_to b.data_now u name) t under n some i name (ap (λ x. after_back_to b.data_now x name) is))
        where
          same_commits : (o : Option Savepoint) → (back_to_savepoint b.data_now u name o).commits ≡ b.data_now.commits
          same_commits None = refl
          same_commits (Some s) = refl

          same_tables : (o : Option Savepoint) → (back_to_savepoint b.data_now u name o).tables ≡ b.data_now.tables
          same_tables None = refl
          same_tables (Some s) = refl

      popped : (failed : Bool) → WorksInside b (pop t.session failed b)
      popped failed =
          moved (after_pop b.data_now t.session) (n - 1) _ refl refl (intact_popped (IsSuitable living) b.data_now fit.intact t.session)
          (after_closed a b.data_now (after_pop b.data_now t.session) t under n some i refl)

    opened : (refusal : Option Code) → WorksInside b (pushed refusal t.session b)
    opened None =
        moved (after_push b.data_now t.session) (n + 1) _ refl refl (intact_pushed (IsSuitable living) b.data_now fit.intact t.session)
        (after_opened a b.data_now t under n i (after_push b.data_now t.session) refl)
    opened (Some code) = stays (Err code)

above_none : (n : ℕ) → (n == 0) ≡ false → 0 < n
above_none zero e = absurd (both_ways true e refl)
above_none (suc n) e = omega arith

closed_commits : (n : ℕ) (s : SessionId) (d : Data) → (closed_from_top n s d).commits ≡ d.commits
closed_commits zero s d = refl
closed_commits (suc n) s d = closed_commits n s (after_pop d s)

closed_tables : (n : ℕ) (s : SessionId) (d : Data) → (closed_from_top n s d).tables ≡ d.tables
closed_tables zero s d = refl
closed_tables (suc n) s d = closed_tables n s (after_pop d s)

pub intact_closed : (P : Change → Type 0) (n : ℕ) (s : SessionId) (d : Data) → IsIntactBy P d → IsIntactBy P (closed_from_top n s d)
intact_closed P zero s d h = h
intact_closed P (suc n) s d h = intact_closed P n s (after_pop d s) (intact_popped P d h s)

-- ---- the row that a body leaves

put_length : (places : List ℕ) (values row : List Value) → length (put places values row) ≡ length row
put_length [] values row = refl
put_length (place ∷ places) [] row = refl
put_length (place ∷ places) (v ∷ values) row = put_length places values (slice_set row place v) ∙ length-set row place v

left_length : (o : Op) (r : Ready) (new : List Value) (left : Option (List Value)) → length (row_left o r new left) ≡ length new
left_length op.Delete r new left = refl
left_length o r new left = put_length r.places (unwrap_or left []) new

-- outside an autonomous transaction an ask is refused
own_or : (living : List TableDef) (w : Site) (a : Data) (b : Base) (fit : IsIntact living b.data_now) (n : ℕ) (i : Inside a w.tx (under_by w.changing) n b.data_now) (code : Code) (o : Outcome Base Done)
    → (0 < n → WorksInside living a w.tx (under_by w.changing) b o) → WorksInside living a w.tx (under_by w.changing) b (unless_own code w b o)
own_or living w a b fit n i code o inner = by (at_own w b) refl
  where
    by : (x : Bool) → at_own w b ≡ x → WorksInside living a w.tx (under_by w.changing) b (if x then gives b (refused code) else answered o)
    by true e = stays living a w.tx (under_by w.changing) b fit n i (refused code)
    by false e = as_answered living a w.tx (under_by w.changing) b o (inner (above_none n (sym (inside_at_own a b.data_now w.tx (under_by w.changing) n i) ∙ e)))

module _ (living : List TableDef) (w : Site) (deeper : AllWork living w.deeper) where
  abbrev around : UnderChange
  around = under_by w.changing

  module _ (a : Data) where
    abbrev Now : {A : Type 0} → Base → Outcome Base A → Type 0
    Now b o = WorksInside living a w.tx around b o

    ask_works : (r : Ready) (room : ℕ) (q : Ask) (b : Base) (fit : IsIntact living b.data_now) (n : ℕ) (i : Inside a w.tx around n b.data_now) → Now b (serve w r room q b)
    ask_works r room (ask.Sql s binds left) b fit n i =
        let u : TxId = on_top w b in
        let is : u ≡ above w.tx n = inside_top_is a b.data_now w.tx around n i in
        let o : Outcome Base Answer = w.deeper (place_in w r b) s binds left room b in
        let h : WorksIn living b u around o.made o.state = deeper (place_in w r b) s binds left room b fit (subst (IsTop b.data_now) (sym is) (inside_top a b.data_now w.tx around n i)) in
        record { works = h.works; height = n; inside = inside_statement a b.data_now o.state.data_now w.tx around n i (subst (λ x. Leaves b.data_now x around o.state.data_now) is h.leaves) }
    ask_works r room ask.Commit b fit n i = own_or living w a b fit n i _ _ (committed living a w.tx around b fit n i (on_top w b) (inside_top_is a b.data_now w.tx around n i))
    ask_works r room ask.Rollback b fit n i = own_or living w a b fit n i _ _ (rolled_back living a w.tx around b fit n i (on_top w b) (inside_top_is a b.data_now w.tx around n i))
    ask_works r room (ask.Savepoint name) b fit n i = own_or living w a b fit n i _ _ (λ some. saved living a w.tx around b fit n i (on_top w b) (inside_top_is a b.data_now w.tx around n i) some name)
    ask_works r room (ask.BackTo name) b fit n i = own_or living w a b fit n i _ _ (λ some. went_back living a w.tx around b fit n i (on_top w b) (inside_top_is a b.data_now w.tx around n i) some name)
    ask_works r room ask.PushAuto b fit n i = as_answered living a w.tx around b (push w.tx.session b) (opened living a w.tx around b fit n i (push_refusal b.data_now w.tx.session))
    ask_works r room (ask.PopAuto failed) b fit n i = own_or living w a b fit n i _ _ (λ some. popped living a w.tx around b fit n i (on_top w b) (inside_top_is a b.data_now w.tx around n i) some failed)
    ask_works r room q b fit n i = stays living a w.tx around b fit n i (refused misplaced)

    on_ask_works : (fuel : ℕ) (r : Ready) (run : List Answer → Seen) (answers : List Answer) (b : Base) (fit : IsIntact living b.data_now) (n : ℕ) (i : Inside a w.tx around n b.data_now)
        → ((x : Answer) (b' : Base) → IsIntact living b'.data_now → (m : ℕ) → Inside a w.tx around m b'.data_now → Now b' (served fuel w r run (answers ++ x ∷ []) b'))
        → (q : Option Ask) → Now b (on_ask q (run answers) b (λ q'. and_then (serve w r (run answers).room q' b) (λ x b'. served fuel w r run (answers ++ x ∷ []) b')))
    on_ask_works fuel r run answers b fit n i next None = stays living a w.tx around b fit n i (run answers)
    on_ask_works fuel r run answers b fit n i next (Some q) =
        let o : Outcome Base Answer = serve w r (run answers).room q b in
        let h : Now b o = ask_works r (run answers).room q b fit n i in
        let more : Outcome Base Seen = served fuel w r run (answers ++ o.value ∷ []) o.state in
        let k : Now o.state more = next o.value o.state (fit_behind living b o.state o.made h.works fit) h.height h.inside in
        record { works = works_both living b o.state more.state o.made more.made h.works k.works; height = k.height; inside = k.inside }

    served_works : (fuel : ℕ) (r : Ready) (run : List Answer → Seen) (answers : List Answer) (b : Base) (fit : IsIntact living b.data_now) (n : ℕ) (i : Inside a w.tx around n b.data_now) → Now b (served fuel w r run answers b)
    served_works zero r run answers b fit n i = stays living a w.tx around b fit n i (run answers)
    served_works (suc fuel) r run answers b fit n i =
        on_ask_works fuel r run answers b fit n i (λ x b' fit' m j. served_works fuel r run (answers ++ x ∷ []) b' fit' m j) (next_ask (run answers))

  -- ---- bodies

  -- What bodies do, and that the new row that they leave has as many values.
  pub record RunsWell (σ : Doing) (size : ℕ) (o : Outcome Doing (Result (List Value) Code)) : Type 0 where
    pub works : WorksIn living σ.base w.tx around o.made o.state.base
    pub long : IfOk o.value (λ new. length new ≡ size)

  pub body_works : (o : Op) (r : Ready) (old new : List Value) (σ : Doing) → IsIntact living σ.base.data_now → IsTop σ.base.data_now w.tx → RunsWell σ (length new) (body w o r old new σ)
  body_works o r old new σ fit top =
      let s : Outcome Base Seen = served max_asks w r (run_of w o r old new σ) [] σ.base in
      let h : WorksInside living σ.base.data_now w.tx around σ.base s = served_works σ.base.data_now max_asks r (run_of w o r old new σ) [] σ.base fit 0 (inside_begins σ.base.data_now w.tx around top) in
      let more : ℕ = levels s.state.data_now w.tx.session - w.tx.depth in
      let now : Base = with_data (closed_from_top more w.tx.session s.state.data_now) s.state in
      record {
        works = record {
          works = works_both living σ.base s.state now s.made [] h.works (works_none living s.state now (closed_commits more w.tx.session s.state.data_now) (closed_tables more w.tx.session s.state.data_now) (intact_closed (IsSuitable living) more w.tx.session s.state.data_now h.works.intact));
          leaves = inside_closes σ.base.data_now s.state.data_now w.tx around h.height h.inside;
        };
        long = by s.value.standing (row_left o r new s.value.new) (left_length o r new s.value.new);
      }
    where
      by : (e : RunStatus) (left : List Value) → length left ≡ length new → IfOk (ended_by e left) (λ new'. length new' ≡ length new)
      by Returned left h = h
      by (Raised code) left h = tt
      by Waiting left h = tt
