-- Declarations, handlers and blocks.
use Rattle.std.proofs.Common.{◌≡◌, ℕ, suc, Bool, true, false, if◌then◌else◌, List, [], ◌∷◌, ◌++◌, map, Option, Some, None, refl, sym, ap, ◌∙◌, append_assoc}
use Rattle.ebr_exprtree.specs.declared.expression.Expr.{Expr}
use Rattle.ebr_ast.specs.declared.statement.Caught.{Caught}
use Rattle.ebr_ast.specs.declared.statement.Caught.TheVariants as caught_by
use Rattle.ebr_ast.specs.declared.statement.Decl.{Decl}
use Rattle.ebr_ast.specs.declared.statement.Decl.TheVariants as decl
use Rattle.ebr_run.specs.declared.fault.Fault.{Fault}
use Rattle.ebr_run.specs.Faults.{is_caught}
use Rattle.ebr_run.specs.Cursors.{Closed}
use Rattle.ebr_run.specs.State.{State, Runs, Outcome, bare, caught}
use Rattle.ebr_run.specs.Scope.{Env, part, within_handler, next_variable, next_cursor, declared_type}
use Rattle.ebr_run.specs.Values.{with_cursor, with_fault}
use Rattle.ebr_run.specs.Expressions.{Calls}
use Rattle.ebr_run.specs.Statements.{Meaning, Handling, catches, initial, declare, declare_among, declare_all, with_decl, handled, guarded}
use Rattle.ebr_code.specs.declared.instruction.Instruction.{Instruction, Do, Guard}
use Rattle.ebr_code.specs.declared.instruction.Operation.TheVariants as does
use Rattle.ebr_code.specs.Instructions as code
use Rattle.ebr_code.specs.Instructions.{handling_of, run}
use Rattle.ebr_code.specs.Codes.{Coded, initial_code, decl_code, decls_code_among, decls_code, caught_code, handlers_code, guarded_code, all}
use Rattle.ebr_code.specs.Codes as codes
use Rattle.ebr_code.proofs.Layers.{meaning_of-Guard, handling_of-roll}
use Rattle.ebr_laws.proofs.Lists.{first_does, only}
use Rattle.ebr_laws.proofs.Steps.{SameReading, with_cursor_beneath}
use Rattle.ebr_laws.proofs.Readings.{expression_read}
use Rattle.ebr_laws.proofs.Targets.{null_read, assign_goes}
use Rattle.ebr_laws.proofs.Flow.{SameBody, AllSame, all_same}

-- ---- declarations

initial_read : (e : Option Expr) → SameReading (initial e) (initial_code e)
initial_read None = null_read
initial_read (Some e) = expression_read e

-- what comes goes on without operands
abbrev pub GoesBare : Runs → List Instruction → Calls → Type 0
GoesBare next more calls = (τ : State) → next (bare τ) ≡ run more calls (bare τ)

declare_same : (d : Decl) (env : Env) (calls : Calls) (next : Runs) (more : List Instruction) → GoesBare next more calls → (σ : State) → declare d env calls next (bare σ) ≡ run (decl_code d env ++ more) calls (bare σ)
declare_same (decl.Variable n c t e) env calls next more h σ =
    let l = next_variable env in
    let i = Do (does.Assign l (Some (declared_type env.view t))) in
    ((initial_read e).by env calls []).by _ (i ∷ more) (λ v τ. assign_goes l (Some (declared_type env.view t)) v calls [] next more h τ) (bare σ)
    ∙ ap (λ z. run z calls (bare σ)) (sym (append_assoc (initial_code e env) (i ∷ []) more))
declare_same (decl.Cursor n q) env calls next more h σ =
    ap (λ τ. next (bare τ)) (with_cursor_beneath (next_cursor env) Closed [] σ)
    ∙ h (with_cursor (next_cursor env) Closed σ)
    ∙ ap (λ τ. run more calls (bare τ)) (sym (with_cursor_beneath (next_cursor env) Closed [] σ))
    ∙ sym (first_does (does.Reset (next_cursor env)) more calls (bare σ))
declare_same (decl.Exception n) env calls next more h σ = h σ
declare_same (decl.ExceptionInit n k) env calls next more h σ = h σ
declare_same decl.Autonomous env calls next more h σ = h σ

among_same : (among ds : List Decl) (env : Env) (calls : Calls) (next : Runs) (more : List Instruction) → GoesBare next more calls → (σ : State)
    → declare_among among ds env calls next (bare σ) ≡ run (decls_code_among among ds env ++ more) calls (bare σ)
among_same among [] env calls next more h σ = h σ
among_same among (d ∷ ds) env calls next more h σ =
    declare_same d env calls _ (decls_code_among among ds (with_decl among d env) ++ more) (among_same among ds (with_decl among d env) calls next more h) σ
    ∙ ap (λ z. run z calls (bare σ)) (sym (append_assoc (decl_code d env) (decls_code_among among ds (with_decl among d env)) more))

-- declarations, and what comes behind them
pub declared_same : (ds : List Decl) (env : Env) (calls : Calls) (next : Runs) (more : List Instruction) → GoesBare next more calls → (σ : State)
    → declare_all ds env calls next (bare σ) ≡ run (decls_code ds env ++ more) calls (bare σ)
declared_same ds env calls next more h σ = among_same ds ds env calls next more h σ

-- ---- handlers

catches_same : (env : Env) (c : Caught) → code.catches (caught_code env c) ≡ catches env c
catches_same env caught_by.Others = refl
catches_same env (caught_by.Named paths) = refl

pub record SameHandler (h : Handling) (c : codes.Handling) : Type 0 where
  pub caught : h.caught ≡ c.caught
  pub body : SameBody h.run c.code

pub data AllHandle : List Handling → List codes.Handling → Type 0 where
  no_handler : AllHandle [] []
  handler_more : {h : Handling} {c : codes.Handling} {hs : List Handling} {cs : List codes.Handling} → SameHandler h c → AllHandle hs cs → AllHandle (h ∷ hs) (c ∷ cs)

if_caught : (b : Bool) (x y z w : Outcome) → x ≡ z → y ≡ w → (if b then x else y) ≡ (if b then z else w)
if_caught true x y z w e f = e
if_caught false x y z w e f = f

handled_same : (i : ℕ) {hs : List Handling} {cs : List codes.Handling} → AllHandle hs cs → (env : Env) (calls : Calls) (f : Fault) (σ : State)
    → handled i hs env calls f σ ≡ code.handled env.handlers (map handling_of (handlers_code i cs env)) calls f σ
handled_same i no_handler env calls f σ = refl
handled_same i (handler_more {h} {c} {hs} {cs} s ss) env calls f σ =
    let e = within_handler (part (suc i) env) in
    let k = env.handlers in
    let rest = map handling_of (handlers_code (suc i) cs env) in
    if_caught (is_caught (catches env h.caught) f) _ _ (run (c.code e) calls (with_fault k f (bare σ))) (code.handled k rest calls f σ)
    (s.body.by e calls (with_fault k f (bare σ))) (handled_same (suc i) ss env calls f σ)
    ∙ ap (λ x. if is_caught x f then run (c.code e) calls (with_fault k f (bare σ)) else code.handled k rest calls f σ) (ap (catches env) s.caught ∙ sym (catches_same env c.caught))
    ∙ ap (λ x. code.handled k (x ∷ rest) calls f σ) (sym (handling_of-roll (record { caught = caught_code env c.caught; body = c.code e })))

pub guarded_same : {ms : List Meaning} {cs : List Coded} → AllSame ms cs → {hs : List Handling} {ds : List codes.Handling} → AllHandle hs ds → (env : Env) (calls : Calls) (σ : State)
    → guarded ms hs env calls σ ≡ run (guarded_code cs ds env) calls σ
guarded_same {ms} {cs} ss {hs} {ds} hh env calls σ =
    let a = all 0 cs (part 0 env) in
    ap (λ o. caught o (handled 0 hs env calls)) (all_same 0 ss (part 0 env) calls σ)
    ∙ ap (caught (run a calls σ)) (λ i f τ. handled_same 0 hh env calls f τ i)
    ∙ sym (only (Guard a env.handlers (handlers_code 0 ds env)) _ calls σ (meaning_of-Guard a env.handlers (handlers_code 0 ds env)))
