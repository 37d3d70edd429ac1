-- A body depends on the catalogue through what its edition sees, and through the statements that it asks for.
use Rattle.std.proofs.Common.{◌≡◌, ℕ, zero, suc, ◌-◌, List, [], ◌∷◌, ◌++◌, Option, Some, None, Ok, ap, subst}
use Rattle.std.specs.List.{AllByRecursion}
use Rattle.ebr_base.specs.declared.code.Code.{Code}
use Rattle.ebr_base.specs.declared.row.TxId.{TxId}
use Rattle.ebr_base.specs.declared.value.Value.{Value}
use Rattle.ebr_exprtree.specs.declared.op.Op.{Op}
use Rattle.ebr_ast.specs.declared.sql.SqlTree.{SqlTree}
use Rattle.ebr_ast.specs.declared.sql.SqlTree.TheVariants as sql
use Rattle.ebr_ast.specs.declared.view.EditionView.{EditionView}
use Rattle.ebr_asks.specs.declared.ask.Ask.{Ask}
use Rattle.ebr_asks.specs.declared.ask.Ask.TheVariants as ask
use Rattle.ebr_asks.specs.declared.answer.Answer.{Answer}
use Rattle.ebr_database.specs.Base.{Base}
use Rattle.ebr_database.specs.Outcome.{Outcome, gives}
use Rattle.ebr_database.specs.Transact.{Done}
use Rattle.ebr_exec.specs.Places.{Names, Place, Under}
use Rattle.ebr_exec.specs.Statements.{Statements, refused}
use Rattle.ebr_run.specs.Run.{Run, Seen}
use Rattle.ebr_bodies.specs.Agree.{AppliesAlike}
use Rattle.ebr_bodies.specs.Bodies.{Doing, Site, at_own, on_top, place_in, unless_own, answered, mutating_transaction, misplaced, serve, next_ask, on_ask, served, max_asks, after_run, row_for, run_of, body, bodies}
use Rattle.ebr_bodies.specs.OtherWorlds.{at_used}
use Rattle.ebr_bodies.specs.Ready.{Ready}
use Rattle.ebr_bodies.proofs.Apart.{Apart, still, if_either, both, runs}
use Rattle.ebr_bodies.proofs.ApartAsks.{commit_apart, roll_back_apart, savepoint_apart, back_to_apart, push_apart, pop_apart, answered_apart}
use Rattle.ebr_bodies.proofs.CodeAsks.{code_asks}
use Rattle.ebr_bodies.proofs.OfCode.{IsOfCode, IsNoneOrOfCode, AsksAsCode}
use Rattle.ebr_bodies.proofs.ReadyAlike.{SeesSame, ReadySame}

abbrev pub doing_at : ℕ → Doing → Doing
doing_at u σ = record σ { base = at_used u σ.base }

-- statements of one world and of the other
abbrev pub StatementsApart : Names → Names → Statements → Statements → Type 0
StatementsApart m n d e = (p : Place) → SeesSame m n p.edition → (s : SqlTree) → AppliesAlike m n p s → (binds : List Value) (left room : ℕ) (b : Base) (u : ℕ)
    → Apart m n at_used (d p s binds left room b) (e p s binds left room (at_used u b))

-- A statement of a body is none that fires a trigger by its name.
own_statement : (m n : Names) (p : Place) (s : SqlTree) (binds : List Value) (left : ℕ) → IsOfCode (ask.Sql s binds left) → AppliesAlike m n p s
own_statement m n p (sql.Apply name) binds left h = absurd h
own_statement m n p s binds left h = tt

module _ (m n : Names) (d e : Statements) (deeper : StatementsApart m n d e) (t : TxId) (changing : List Under) (most : ℕ) where
  -- a statement's site in either world
  abbrev pub here : Site
  here = record { view = m.view; deeper = d; tx = t; changing = changing; left = most }

  abbrev pub there : Site
  there = record { view = n.view; deeper = e; tx = t; changing = changing; left = most }

  -- ---- asks

  unless_apart : (c : Code) (b : Base) (u : ℕ) (o p : Outcome Base Done) → Apart m n at_used o p → Apart m n at_used (unless_own c here b o) (unless_own c there (at_used u b) p)
  unless_apart c b u o p x = if_either m n at_used (at_own here b) (gives b (refused c)) (answered o) (gives (at_used u b) (refused c)) (answered p) (still m n at_used b u (refused c)) (answered_apart m n o p x)

  serve_apart : (r : Ready) → ReadySame m n r → (room : ℕ) (q : Ask) → IsOfCode q → (b : Base) (u : ℕ) → Apart m n at_used (serve here r room q b) (serve there r room q (at_used u b))
  serve_apart r sees room (ask.Sql s binds left) h b u = deeper (place_in here r b) sees s (own_statement m n (place_in here r b) s binds left h) binds left room b u
  serve_apart r sees room ask.Commit h b u = unless_apart mutating_transaction b u _ _ (commit_apart m n (on_top here b) b u)
  serve_apart r sees room ask.Rollback h b u = unless_apart mutating_transaction b u _ _ (roll_back_apart m n (on_top here b) b u)
  serve_apart r sees room (ask.Savepoint name) h b u = unless_apart mutating_transaction b u _ _ (savepoint_apart m n (on_top here b) name b u)
  serve_apart r sees room (ask.BackTo name) h b u = unless_apart mutating_transaction b u _ _ (back_to_apart m n (on_top here b) name b u)
  serve_apart r sees room ask.PushAuto h b u = answered_apart m n _ _ (push_apart m n t.session b u)
  serve_apart r sees room (ask.PopAuto failed) h b u = unless_apart misplaced b u _ _ (pop_apart m n t.session failed b u)
  serve_apart r sees room q h b u = still m n at_used b u (refused misplaced)

  -- ---- a run with its answers

  on_ask_apart : (q : Option Ask) → IsNoneOrOfCode q → (s : Seen) (b : Base) (u : ℕ) (k l : Ask → Outcome Base Seen) → ((a : Ask) → IsOfCode a → Apart m n at_used (k a) (l a)) → Apart m n at_used (on_ask q s b k) (on_ask q s (at_used u b) l)
  on_ask_apart None h s b u k l x = still m n at_used b u s
  on_ask_apart (Some q) h s b u k l x = x q h

  served_apart : (r : Ready) → ReadySame m n r → (run : List Answer → Seen) → AsksAsCode run → (bound : ℕ) (answers : List Answer) (b : Base) (u : ℕ) → Apart m n at_used (served bound here r run answers b) (served bound there r run answers (at_used u b))
  served_apart r sees run own zero answers b u = still m n at_used b u (run answers)
  served_apart r sees run own (suc bound) answers b u = on_ask_apart (next_ask (run answers)) (own answers) (run answers) b u _ _ (λ q h.
      both m n at_used at_used (serve here r (run answers).room q b) (serve there r (run answers).room q (at_used u b)) (λ x b'. served bound here r run (answers ++ x ∷ []) b') (λ x b'. served bound there r run (answers ++ x ∷ []) b')
      (serve_apart r sees (run answers).room q h b u) (λ x b' u'. served_apart r sees run own bound (answers ++ x ∷ []) b' u'))

  -- ---- bodies

  run_same : (r : Ready) → ReadySame m n r → (o : Op) (old new : List Value) (σ : Doing) (u : ℕ) → run_of here o r old new σ ≡ run_of there o r old new (doing_at u σ)
  run_same r sees o old new σ u =
      let runs_in : EditionView → List Answer → Seen = λ v answers. Run v r.tree [] [] (record { row = Some (row_for o r old new); room = σ.room }) (most - σ.steps) answers in
      ap runs_in sees

  body_apart : (r : Ready) → ReadySame m n r → (o : Op) (old new : List Value) (σ : Doing) (u : ℕ) → Apart m n doing_at (body here o r old new σ) (body there o r old new (doing_at u σ))
  body_apart r sees o old new σ u =
      let run : List Answer → Seen = run_of here o r old new σ in
      both m n at_used doing_at (served max_asks here r run [] σ.base) (served max_asks there r (run_of there o r old new (doing_at u σ)) [] (at_used u σ.base)) (after_run here o r new σ) (after_run there o r new (doing_at u σ))
      (subst (λ (x : List Answer → Seen). Apart m n at_used (served max_asks here r run [] σ.base) (served max_asks there r x [] (at_used u σ.base))) (run_same r sees o old new σ u) (served_apart r sees run (code_asks (m.view r.edition) r.tree (record { row = Some (row_for o r old new); room = σ.room }) (most - σ.steps)) max_asks [] σ.base u))
      (λ s b u'. still m n doing_at (after_run here o r new σ s b).state u' (after_run here o r new σ s b).value)

  pub bodies_apart : (o : Op) (rs : List Ready) → AllByRecursion (ReadySame m n) rs → (old new : List Value) (σ : Doing) (u : ℕ) → Apart m n doing_at (bodies here o rs old new σ) (bodies there o rs old new (doing_at u σ))
  bodies_apart o [] h old new σ u = still m n doing_at σ u (Ok new)
  bodies_apart o (r ∷ rest) h old new σ u = runs m n doing_at (body here o r old new σ) (body there o r old new (doing_at u σ)) (λ new' σ'. bodies here o rest old new' σ') (λ new' σ'. bodies there o rest old new' σ')
      (body_apart r h.0 o old new σ u) (λ new' σ' u'. bodies_apart o rest h.1 old new' σ' u')
