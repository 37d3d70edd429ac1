-- Assignments, calls of procedures and RAISE.
use Rattle.std.proofs.Common.{◌≡◌, ℕ, zero, suc, List, [], ◌∷◌, ◌++◌, length, Option, Some, None, refl, sym, ap, ◌∙◌, append_assoc, append-nil}
use Rattle.ebr_base.specs.declared.code.Code.{Code}
use Rattle.ebr_base.specs.declared.object.ObjectKey.{ObjectKey}
use Rattle.ebr_base.specs.declared.value.Value.{Value}
use Rattle.ebr_exprtree.specs.declared.expression.Expr.{Expr}
use Rattle.ebr_exprtree.specs.declared.expression.Path.{Path}
use Rattle.ebr_ast.specs.declared.unit.Mode.{Mode}
use Rattle.ebr_ast.specs.declared.unit.Mode.TheVariants as mode
use Rattle.ebr_ast.specs.declared.unit.Parameter.{Parameter}
use Rattle.ebr_expr.specs.Operators.{builtin_at}
use Rattle.ebr_scope.specs.Meanings.{Word}
use Rattle.ebr_run.specs.declared.callee.Reference.TheVariants as reference
use Rattle.ebr_run.specs.declared.fault.Fault.{Fault}
use Rattle.ebr_run.specs.declared.place.Location.{Location}
use Rattle.ebr_run.specs.declared.place.VariableType.{VariableType}
use Rattle.ebr_run.specs.State.{State, Runs, Row, Normal, bare, with_operands, ended, done, raises, then_run}
use Rattle.ebr_run.specs.Scope.{Env, Denoted, Variable, Exception, Cursor, Record, Subprogram, callee, called, applied, raised}
use Rattle.ebr_run.specs.Values.{unfit, when_fit, write, assign, on_row, set_new}
use Rattle.ebr_run.specs.Expressions.{Calls, Reading}
use Rattle.ebr_run.specs.Statements.{Place, Stored, New, Nowhere, assigned, all_assigned, null_reading, passed, arguments, outs, procedure_called, call_of, unless_builtin, call, raise_declared, raise_of, reraise, raise}
use Rattle.ebr_code.specs.declared.instruction.Instruction.{Instruction, Do}
use Rattle.ebr_code.specs.declared.instruction.Operation.TheVariants as does
use Rattle.ebr_code.specs.Instructions.{run}
use Rattle.ebr_code.specs.Codes.{Coded, refer_code, store_code, stores_code, listed, call_code, null_code, passed_code, arguments_code, procedure_code, call_of_code, call_statement, raise_declared as raise_declared_code, raise_of as raise_of_code, reraise_code, raise_code}
use Rattle.ebr_laws.proofs.Lists.{first_does, only_does}
use Rattle.ebr_laws.proofs.Steps.{GoesOn, SameReading, by_operation, refers, referred_same, write_beneath}
use Rattle.ebr_laws.proofs.Operands.{AllRead, none, one_more, same_length, values_same, called_same}
use Rattle.ebr_laws.proofs.Readings.{expression_read}

-- ---- assignments

fit_goes : (c : Option Code) (l : Location) (v : Value) (calls : Calls) (operands : List Value) (next : Runs) (more : List Instruction) → ((τ : State) → next (bare τ) ≡ run more calls (with_operands operands τ)) → (σ : State)
    → then_run (when_fit c (λ τ. done (write l v τ)) σ) next ≡ then_run (when_fit c (λ υ. ended Normal (write l v υ)) (with_operands operands σ)) (run more calls)
fit_goes None l v calls operands next more h σ = h (write l v σ) ∙ ap (run more calls) (sym (write_beneath l v operands σ))
fit_goes (Some c) l v calls operands next more h σ = refl

-- an assignment of the topmost operand
pub assign_goes : (l : Location) (t : Option VariableType) (v : Value) (calls : Calls) (operands : List Value) (next : Runs) (more : List Instruction) → ((τ : State) → next (bare τ) ≡ run more calls (with_operands operands τ)) → (σ : State)
    → then_run (assign l t v σ) next ≡ run (Do (does.Assign l t) ∷ more) calls (with_operands (v ∷ operands) σ)
assign_goes l t v calls operands next more h σ = fit_goes (unfit t v) l v calls operands next more h σ ∙ sym (first_does (does.Assign l t) more calls (with_operands (v ∷ operands) σ))

row_goes : (r : Option Row) (set : Row → Row) (calls : Calls) (operands : List Value) (next : Runs) (more : List Instruction) → GoesOn next more calls operands → (σ : State)
    → then_run (on_row r (λ x τ. ended Normal (record τ { row = Some (set x) })) σ) next ≡ then_run (on_row r (λ x τ. ended Normal (record τ { row = Some (set x) })) (with_operands operands σ)) (run more calls)
row_goes None set calls operands next more h σ = refl
row_goes (Some r) set calls operands next more h σ = h (record σ { row = Some (set r) })

new_goes : (c : Option Code) (k : ℕ) (v : Value) (calls : Calls) (operands : List Value) (next : Runs) (more : List Instruction) → GoesOn next more calls operands → (σ : State)
    → then_run (when_fit c (set_new k v) σ) next ≡ then_run (when_fit c (set_new k v) (with_operands operands σ)) (run more calls)
new_goes None k v calls operands next more h σ = row_goes σ.row _ calls operands next more h σ
new_goes (Some c) k v calls operands next more h σ = refl

pub assigned_same : (p : Place) (v : Value) (calls : Calls) (operands : List Value) (next : Runs) (more : List Instruction) → GoesOn next more calls operands → (σ : State)
    → assigned p v calls next σ ≡ run (store_code p ++ more) calls (with_operands (v ∷ operands) σ)
assigned_same (Stored l t) v calls operands next more h σ =
    referred_same l calls (v ∷ operands) _ (Do (does.Assign l t) ∷ more) (assign_goes l t v calls operands next more (λ τ. h (bare τ))) σ
    ∙ ap (λ z. run z calls (with_operands (v ∷ operands) σ)) (sym (append_assoc (refer_code l) (Do (does.Assign l t) ∷ []) more))
assigned_same (New k t) v calls operands next more h σ = new_goes (unfit (Some t) v) k v calls operands next more h σ ∙ sym (first_does (does.AssignNew k t) more calls (with_operands (v ∷ operands) σ))
assigned_same Nowhere v calls operands next more h σ = sym (first_does does.Broken more calls (with_operands (v ∷ operands) σ))

-- values to targets, of which there are as many
pub all_assigned_same : (ps : List Place) (vs : List Value) → length vs ≡ length ps → (calls : Calls) (next : Runs) (more : List Instruction) → GoesOn next more calls [] → (σ : State)
    → all_assigned ps vs calls next σ ≡ run (stores_code ps ++ more) calls (with_operands vs σ)
all_assigned_same [] [] e calls next more h σ = h σ
all_assigned_same [] (v ∷ vs) e calls next more h σ = cc
all_assigned_same (p ∷ ps) [] e calls next more h σ = cc
all_assigned_same (p ∷ ps) (v ∷ vs) e calls next more h σ =
    assigned_same p v calls vs _ (stores_code ps ++ more) (all_assigned_same ps vs (suc_injective e) calls next more h) σ
    ∙ ap (λ z. run z calls (with_operands (v ∷ vs) σ)) (sym (append_assoc (store_code p) (stores_code ps) more))
  where
    suc_injective : {m n : ℕ} → suc m ≡ suc n → m ≡ n
    suc_injective e = cc

-- behind which nothing comes
pub stores_same : (ps : List Place) (vs : List Value) → length vs ≡ length ps → (calls : Calls) (σ : State) → all_assigned ps vs calls done σ ≡ run (stores_code ps) calls (with_operands vs σ)
stores_same ps vs e calls σ = all_assigned_same ps vs e calls done [] (λ τ. refl) σ ∙ ap (λ z. run z calls (with_operands vs σ)) (append-nil (stores_code ps))

pub store_same : (p : Place) (v : Value) (calls : Calls) (σ : State) → assigned p v calls done σ ≡ run (store_code p) calls (with_operands (v ∷ []) σ)
store_same p v calls σ = assigned_same p v calls [] done [] (λ τ. refl) σ ∙ ap (λ z. run z calls (with_operands (v ∷ []) σ)) (append-nil (store_code p))

-- ---- calls

pub null_read : SameReading null_reading null_code
null_read = record { by = λ env calls operands. by_operation (does.Push _) _ calls operands operands (λ next more h σ. h _ σ) }

passed_read : (m : Option Mode) (e : Expr) → SameReading (passed m e) (passed_code m e)
passed_read None e = expression_read e
passed_read (Some mode.In) e = expression_read e
passed_read (Some mode.InOut) e = expression_read e
passed_read (Some mode.Out) e = null_read

arguments_read : (es : List Expr) (ps : List Parameter) → AllRead (arguments es ps) (arguments_code es ps)
arguments_read [] ps = none
arguments_read (e ∷ es) [] = one_more (expression_read e) (arguments_read es [])
arguments_read (e ∷ es) (p ∷ ps) = one_more (passed_read p.mode e) (arguments_read es ps)

procedure_same : (key : ObjectKey) (at : ℕ) {rs : List Reading} {cs : List Coded} → AllRead rs cs → (ps : List Place) (env : Env) (calls : Calls) (σ : State)
    → procedure_called key at rs ps env calls σ ≡ run (procedure_code key at cs ps env) calls (bare σ)
procedure_same key at {rs} {cs} ss ps env calls σ =
    let f = callee key at (length rs) (length ps) in
    values_same ss env calls [] _ (call_code f ++ stores_code ps) (λ vs e τ.
    called_same f vs e calls [] (λ given. all_assigned ps given calls done) (stores_code ps) (λ given l υ.
    stores_same ps given l calls υ ∙ ap (λ z. run (stores_code ps) calls (with_operands z υ)) (sym (append-nil given))) τ) σ
    ∙ ap (λ n. run (listed cs env ++ (call_code (callee key at n (length ps)) ++ stores_code ps)) calls (bare σ)) (same_length ss)

call_of_same : (d : Option Denoted) (es : List Expr) (env : Env) (calls : Calls) (σ : State) → call_of d es env calls σ ≡ run (call_of_code d es env) calls (bare σ)
call_of_same (Some (Subprogram key at h)) es env calls σ = procedure_same key at (arguments_read es h.parameters) (outs env es h.parameters) env calls σ
call_of_same (Some (Variable l t)) es env calls σ = sym (only_does does.Broken calls (bare σ))
call_of_same (Some (Exception p f)) es env calls σ = sym (only_does does.Broken calls (bare σ))
call_of_same (Some (Cursor l q fs)) es env calls σ = sym (only_does does.Broken calls (bare σ))
call_of_same (Some (Record ps)) es env calls σ = sym (only_does does.Broken calls (bare σ))
call_of_same None es env calls σ = sym (only_does does.Broken calls (bare σ))

pub call_same : (path : Path) (es : Option (List Expr)) (env : Env) (calls : Calls) (σ : State) → call path es env calls σ ≡ run (call_statement path es env) calls (bare σ)
call_same path None env calls σ = call_of_same (called env path) [] env calls σ
call_same path (Some es) env calls σ = call_of_same (unless_builtin (builtin_at path.name path.member) (applied env path)) es env calls σ

-- ---- RAISE

declared_same : (p : Option Word) (f : Fault) (calls : Calls) (σ : State) → raise_declared p f calls σ ≡ run (raise_declared_code p f) calls (bare σ)
declared_same None f calls σ = sym (only_does (does.Raise f) calls (bare σ))
declared_same (Some p) f calls σ = refers reference.Other p calls [] (raises f) (Do (does.Raise f) ∷ []) (λ τ. sym (only_does (does.Raise f) calls (bare τ))) σ

raise_of_same : (d : Option Denoted) (calls : Calls) (σ : State) → raise_of d calls σ ≡ run (raise_of_code d) calls (bare σ)
raise_of_same (Some (Exception p f)) calls σ = declared_same p f calls σ
raise_of_same (Some (Variable l t)) calls σ = sym (only_does does.Broken calls (bare σ))
raise_of_same (Some (Subprogram key at h)) calls σ = sym (only_does does.Broken calls (bare σ))
raise_of_same (Some (Cursor l q fs)) calls σ = sym (only_does does.Broken calls (bare σ))
raise_of_same (Some (Record ps)) calls σ = sym (only_does does.Broken calls (bare σ))
raise_of_same None calls σ = sym (only_does does.Broken calls (bare σ))

reraise_same : (n : ℕ) (calls : Calls) (σ : State) → reraise n (bare σ) ≡ run (reraise_code n) calls (bare σ)
reraise_same zero calls σ = sym (only_does does.Broken calls (bare σ))
reraise_same (suc n) calls σ = sym (only_does (does.Reraise n) calls (bare σ))

pub raise_same : (path : Option Path) (env : Env) (calls : Calls) (σ : State) → raise path env calls (bare σ) ≡ run (raise_code path env) calls (bare σ)
raise_same None env calls σ = reraise_same env.handlers calls σ
raise_same (Some path) env calls σ = raise_of_same (raised env path) calls (bare σ)
