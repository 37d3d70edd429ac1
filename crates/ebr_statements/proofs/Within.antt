-- What a body asks of the autonomous transactions above its statement's own.
use Rattle.std.proofs.Common.{◌≡◌, ℕ, ◌+◌, ◌-◌, ◌<◌, Bool, true, false, List, Ok, refl, sym, ap, subst, ◌∙◌, arith}
use Rattle.std.specs.Prelude.{◌==◌, Result, OnErr}
use Rattle.std.proofs.lemmas.Bool.{eq-eqb, eqb-true}
use Rattle.ebr_base.specs.declared.row.TxId.{TxId}
use Rattle.ebr_asks.specs.declared.ask.Ask.{Ask}
use Rattle.ebr_asks.specs.declared.ask.Ask.TheVariants as ask
use Rattle.ebr_asks.specs.declared.answer.Answer.{Answer}
use Rattle.ebr_tx.specs.Calls.{HasSession, levels, top}
use Rattle.ebr_tx.specs.Data.{Data}
use Rattle.ebr_record.specs.Keeper.{Keeper}
use Rattle.ebr_database.specs.declared.failure.Failure.{Failure}
use Rattle.ebr_database.specs.declared.failure.Halt.{Halt}
use Rattle.ebr_database.specs.Base.{Base}
use Rattle.ebr_database.specs.Database.{as_answer}
use Rattle.ebr_database.specs.Outcome.{Outcome, gives}
use Rattle.ebr_database.specs.Shows.{Leaves, Shows, Tells, base_of}
use Rattle.ebr_database.specs.Transact.{Done, back_to, commit, pop, push, roll_back, savepoint}
use Rattle.ebr_exec.specs.Statements.{refused}
use Rattle.ebr_levels.specs.Keeps.{UnderChange}
use Rattle.ebr_levels.specs.Levels.{Inside, above}
use Rattle.ebr_levels.proofs.AskLemmas.{inside_committed, inside_popped, inside_pushed, inside_rolled_back, inside_saved, inside_went_back}
use Rattle.ebr_levels.proofs.InsideLemmas.{inside_at_own, inside_session, inside_top_is}
use Rattle.ebr_bodies.specs.Ready.{Ready}
use Rattle.ebr_bodies.specs.Bodies.{Site, answered, at_own, serve}
use Rattle.ebr_statements.specs.inside.Asks.{IsNoPush, IsNoStatement, own_refusal, within}
use Rattle.ebr_statements.specs.inside.Opened.{IsOpened, Stays}
use Rattle.ebr_statements.proofs.Answering.{left_tells, refused_tells, serve_own, serve_within}

not_zero : (n : ℕ) → 0 < n → (n == 0) ≡ false
not_zero n some = by (n == 0) refl
  where
    by : (b : Bool) → (n == 0) ≡ b → (n == 0) ≡ false
    by false e = e
    by true e = let z : n ≡ 0 = eqb-true n 0 e in absurd (omega (arith, z, some))

-- ---- what a body's ask is answered

module _ (w : Site) (r : Ready) (room : ℕ) (t : TxId) (same : w.tx ≡ t) (q : Ask) (d : Data) (k : Keeper) where
  module _ (n : ℕ) (o : IsOpened t n d) (other : IsNoStatement q) (closes : IsNoPush q) where
    own_is : at_own w (base_of d k) ≡ (n == 0)
    own_is = ap (λ (u : TxId). levels d u.session == u.depth) same ∙ inside_at_own o.1.0 d t o.0 n o.1.1

    -- outside an autonomous transaction
    pub own_told : (a : Answer) → n ≡ 0 → a ≡ refused (own_refusal q) → Tells (serve w r room q (base_of d k)) (base_of d k) k k (Ok a)
    own_told a none is =
        subst (λ o. Tells o (base_of d k) k k (Ok a)) (sym (serve_own w r room (base_of d k) q other closes (own_is ∙ eq-eqb n 0 none)))
        (subst (λ x. Tells (gives (base_of d k) (refused (own_refusal q))) (base_of d k) k k (Ok x)) (sym is) (refused_tells (base_of d k) (own_refusal q) k))

    -- inside one
    pub within_told : (u : TxId) (s : Base) (k' : Keeper) (res : Result Answer Halt) → 0 < n → u ≡ above t n → Tells (within u q (base_of d k)) s k k' res → Tells (serve w r room q (base_of d k)) s k k' res
    within_told u s k' res some is h =
        subst (λ o. Tells o s k k' res)
        (sym (serve_within w r room (base_of d k) q u other closes (own_is ∙ not_zero n some)
        (ap (λ (x : TxId). top d x.session) same ∙ inside_top_is o.1.0 d t o.0 n o.1.1 ∙ sym is)
        (ap (λ (x : TxId). x.session) same ∙ sym (ap (λ (x : TxId). x.session) is)))) h

-- ---- what an ask at the transaction on top is answered

module _ (u : TxId) (q : Ask) (d d' : Data) (k : Keeper) where
  left_within : (step : Base → Outcome Base Done) (p : Ask) (done : Done) → within u p (base_of d k) ≡ answered (step (base_of d k)) → q ≡ p → Leaves step d d' done → Tells (within u q (base_of d k)) (base_of d' k) k k (Ok (as_answer done))
  left_within step p done steps is l =
      subst (λ x. Tells (within u x (base_of d k)) (base_of d' k) k k (Ok (as_answer done))) (sym is)
      (subst (λ o. Tells o (base_of d' k) k k (Ok (as_answer done))) (sym steps) (left_tells step d d' done k l))

  pub rollback_within : (done : Done) → q ≡ ask.Rollback → Leaves (roll_back u) d d' done → Tells (within u q (base_of d k)) (base_of d' k) k k (Ok (as_answer done))
  rollback_within done is l = left_within (roll_back u) ask.Rollback done refl is l

  pub savepoint_within : (name : List ℕ) (done : Done) → q ≡ ask.Savepoint name → Leaves (savepoint u name) d d' done → Tells (within u q (base_of d k)) (base_of d' k) k k (Ok (as_answer done))
  savepoint_within name done is l = left_within (savepoint u name) (ask.Savepoint name) done refl is l

  as_told_by : (done : Done) (a : Answer) → a ≡ as_answer done → Tells (within u q (base_of d k)) (base_of d' k) k k (Ok (as_answer done)) → Tells (within u q (base_of d k)) (base_of d' k) k k (Ok a)
  as_told_by done a told h = subst (λ x. Tells (within u q (base_of d k)) (base_of d' k) k k (Ok x)) (sym told) h

  pub back_within : (name : List ℕ) (done : Done) (a : Answer) → a ≡ as_answer done → q ≡ ask.BackTo name → Leaves (back_to u name) d d' done → Tells (within u q (base_of d k)) (base_of d' k) k k (Ok a)
  back_within name done a told is l = as_told_by done a told (left_within (back_to u name) (ask.BackTo name) done refl is l)

  pub pop_within : (t : TxId) (n : ℕ) (failed : Bool) (done : Done) (a : Answer) → a ≡ as_answer done → u ≡ above t n → q ≡ ask.PopAuto failed → Leaves (pop t.session failed) d d' done
      → Tells (within u q (base_of d k)) (base_of d' k) k k (Ok a)
  pop_within t n failed done a told own is l =
      as_told_by done a told (left_within (pop u.session failed) (ask.PopAuto failed) done refl is (subst (λ s. Leaves (pop s failed) d d' done) (sym (ap (λ (x : TxId). x.session) own)) l))

-- ---- what it leaves

module _ (t u : TxId) (n : ℕ) (some : 0 < n) (is : u ≡ above t n) (d d' : Data) (under : UnderChange) where
  pub stays_committed : (k k' : Keeper) (done : Result (Unit {0}) Failure) → Shows (commit u (base_of d k)) (base_of d' k') k k' done → OnErr done (d' ≡ d) → Stays under t n d n d'
  stays_committed k k' done said same = λ before i.
      inside_committed before d d' t under n some i k k' done (subst (λ x. Shows (commit x (base_of d k)) (base_of d' k') k k' done) is said) same

  pub stays_rolled_back : (done : Done) → Leaves (roll_back u) d d' done → Stays under t n d n d'
  stays_rolled_back done l = λ before i. inside_rolled_back before d d' t under n some i done (subst (λ x. Leaves (roll_back x) d d' done) is l)

  pub stays_saved : (name : List ℕ) (done : Done) → Leaves (savepoint u name) d d' done → Stays under t n d n d'
  stays_saved name done l = λ before i. inside_saved before d d' t under n some i name done (subst (λ x. Leaves (savepoint x name) d d' done) is l)

  pub stays_back : (name : List ℕ) (done : Done) → Leaves (back_to u name) d d' done → Stays under t n d n d'
  stays_back name done l = λ before i. inside_went_back before d d' t under n some i name done (subst (λ x. Leaves (back_to x name) d d' done) is l)

pub stays_popped : (t : TxId) (n : ℕ) → 0 < n → (d d' : Data) (under : UnderChange) (failed : Bool) (done : Done) → Leaves (pop t.session failed) d d' done → Stays under t n d (n - 1) d'
stays_popped t n some d d' under failed done l = λ before i. inside_popped before d d' t under n some i failed done l

pub stays_pushed : (t : TxId) (n m : ℕ) → m ≡ n + 1 → (d d' : Data) (under : UnderChange) → Leaves (push t.session) d d' (Ok tt) → Stays under t n d m d'
stays_pushed t n m is d d' under l = λ before i. subst (λ x. Inside before t under x d') (sym is) (inside_pushed before d d' t under n i l)

-- ---- what calls ask for

module _ (t : TxId) (n : ℕ) (d : Data) (o : IsOpened t n d) where
  pub session_there : HasSession d t.session
  session_there = inside_session o.1.0 d t o.0 n o.1.1
