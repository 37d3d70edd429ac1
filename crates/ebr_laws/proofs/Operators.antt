-- Operators, whose right operand may be left out.
use Rattle.std.proofs.Common.{◌≡◌, Bool, true, false, List, [], ◌∷◌, ◌++◌, Option, Some, None, refl, sym, ap, ◌∙◌, append_assoc}
use Rattle.ebr_base.specs.declared.value.Value.{Value}
use Rattle.ebr_value.specs.declared.form.BinOp.{BinOp}
use Rattle.ebr_value.specs.declared.form.BinOp.TheVariants as op
use Rattle.ebr_value.specs.declared.form.Builtin.{Builtin}
use Rattle.ebr_value.specs.declared.form.Builtin.TheVariants as builtin
use Rattle.ebr_value.specs.declared.form.Place.TheVariants.{Code as InCode}
use Rattle.ebr_value.specs.Forms.{binary, function}
use Rattle.ebr_expr.specs.Operators.{decided}
use Rattle.ebr_run.specs.State.{State, Runs, with_operands, then_run}
use Rattle.ebr_run.specs.Scope.{Env}
use Rattle.ebr_run.specs.Values.{on_value}
use Rattle.ebr_run.specs.Expressions.{Calls, Then, Reading, Term, unless_decided, of_two, of_one, further, summed, not_if, between, among}
use Rattle.ebr_code.specs.declared.instruction.Instruction.{Instruction, Do, Decide}
use Rattle.ebr_code.specs.declared.instruction.Operation.TheVariants as does
use Rattle.ebr_code.specs.Instructions.{decide, run}
use Rattle.ebr_code.specs.Codes.{Coded, may_decide, deciding, right_code, further_code, summed_code, not_code, beside, between_code, among_code}
use Rattle.ebr_code.specs.Codes as codes
use Rattle.ebr_code.proofs.Layers.{meaning_of-Decide}
use Rattle.ebr_laws.proofs.Lists.{run_append, first}
use Rattle.ebr_laws.proofs.Steps.{Goes, Same, SameReading, recoded, chained, nothing_more, by_operation, behind_operation, value_pushes}
use Rattle.ebr_laws.proofs.Operands.{AllRead, none, one_more}

-- ---- operators of two operands

undecided : (o : BinOp) → may_decide o ≡ false → (x : Value) → decided o x ≡ None
undecided op.And e x = cc
undecided op.Or e x = cc
undecided op.Add e x = refl
undecided op.Subtract e x = refl
undecided op.Multiply e x = refl
undecided op.Quotient e x = refl
undecided op.Concatenate e x = refl
undecided op.Equal e x = refl
undecided op.NotEqual e x = refl
undecided op.Less e x = refl
undecided op.LessOrEqual e x = refl
undecided op.Greater e x = refl
undecided op.GreaterOrEqual e x = refl
undecided op.Like e x = refl

-- the right operand, and the operator
binary_same : (o : BinOp) (x : Value) (b : Then → Runs) (c : List Instruction) (calls : Calls) (operands : List Value) → Same b c calls (x ∷ operands) (x ∷ operands)
    → Same (λ next. b (λ y. on_value (binary o x y InCode) next)) (c ++ Do (does.Binary o) ∷ []) calls (x ∷ operands) operands
binary_same o x b c calls operands s =
    chained b (λ y. on_value (binary o x y InCode)) c (Do (does.Binary o) ∷ []) calls (x ∷ operands) (x ∷ operands) operands s (λ y.
    by_operation (does.Binary o) (on_value (binary o x y InCode)) calls (y ∷ x ∷ operands) operands (λ next more h σ. value_pushes (binary o x y InCode) next more calls operands h σ))

-- what is done unless the left operand decides
decide_same : (d : Option Value) (o : BinOp) (x : Value) (b : Then → Runs) (c : List Instruction) (calls : Calls) (operands : List Value) → Same b c calls (x ∷ operands) operands
    → (next : Then) (more : List Instruction) → Goes next more calls operands → (σ : State)
    → unless_decided d next (b next) σ ≡ then_run (decide d x (run c) calls (with_operands operands σ)) (run more calls)
decide_same (Some v) o x b c calls operands s next more h σ = h v σ
decide_same None o x b c calls operands s next more h σ = s.by next more h σ ∙ run_append c more calls (with_operands (x ∷ operands) σ)

deciding_same : (m : Bool) (o : BinOp) → may_decide o ≡ m → (x : Value) (b : Then → Runs) (c : List Instruction) (calls : Calls) (operands : List Value) → Same b c calls (x ∷ operands) (x ∷ operands)
    → Same (λ next. unless_decided (decided o x) next (b (λ y. on_value (binary o x y InCode) next))) (deciding m o c) calls (x ∷ operands) operands
deciding_same true o e x b c calls operands s =
    let d = c ++ Do (does.Binary o) ∷ [] in
    record {
      by = λ next more h σ.
          decide_same (decided o x) o x _ d calls operands (binary_same o x b c calls operands s) next more h σ
          ∙ sym (first (Decide o d) _ more calls (with_operands (x ∷ operands) σ) (meaning_of-Decide o d));
    }
deciding_same false o e x b c calls operands s = record {
  by = λ next more h σ.
      ap (λ d. unless_decided d next (b (λ y. on_value (binary o x y InCode) next)) σ) (undecided o e x)
      ∙ (binary_same o x b c calls operands s).by next more h σ;
}

pub two_same : (o : BinOp) (x : Value) (b : Reading) (c : List Instruction) (env : Env) (calls : Calls) (operands : List Value) → Same (b env calls) c calls (x ∷ operands) (x ∷ operands)
    → Same (of_two o x b env calls) (right_code o c) calls (x ∷ operands) operands
two_same o x b c env calls operands s = deciding_same (may_decide o) o refl x (b env calls) c calls operands s

-- ---- several operands

pub further_same : (o : BinOp) {rs : List Reading} {cs : List Coded} → AllRead rs cs → (x : Value) (env : Env) (calls : Calls) (operands : List Value)
    → Same (further o rs x env calls) (further_code o cs env) calls (x ∷ operands) operands
further_same o none x env calls operands = nothing_more x calls operands
further_same o (one_more {r} {c} {rs} {cs} s ss) x env calls operands =
    chained (of_two o x r env calls) (λ y. further o rs y env calls) (right_code o (c env)) (further_code o cs env) calls (x ∷ operands) operands operands
    (two_same o x r (c env) env calls operands (s.by env calls (x ∷ operands))) (λ y. further_same o ss y env calls operands)

pub record SameTerm (t : Term) (u : codes.Term) : Type 0 where
  pub operator : t.operator ≡ u.operator
  pub operand : SameReading t.operand u.operand

pub data AllTerms : List Term → List codes.Term → Type 0 where
  no_term : AllTerms [] []
  term_more : {t : Term} {u : codes.Term} {ts : List Term} {us : List codes.Term} → SameTerm t u → AllTerms ts us → AllTerms (t ∷ ts) (u ∷ us)

pub summed_same : {ts : List Term} {us : List codes.Term} → AllTerms ts us → (x : Value) (env : Env) (calls : Calls) (operands : List Value)
    → Same (summed ts x env calls) (summed_code us env) calls (x ∷ operands) operands
summed_same no_term x env calls operands = nothing_more x calls operands
summed_same (term_more {t} {u} {ts} {us} s ss) x env calls operands =
    chained (of_two t.operator x t.operand env calls) (λ y. summed ts y env calls) (right_code u.operator (u.operand env)) (summed_code us env) calls (x ∷ operands) operands operands
    (recoded (ap (λ o. right_code o (u.operand env)) s.operator) (two_same t.operator x t.operand (u.operand env) env calls operands (s.operand.by env calls (x ∷ operands))))
    (λ y. summed_same ss y env calls operands)

-- ---- functions of one operand

function_of_one : (f : Builtin) (x : Value) (calls : Calls) (operands : List Value) → Same (on_value (function f (x ∷ []) InCode)) (Do (does.Function f 1) ∷ []) calls (x ∷ operands) operands
function_of_one f x calls operands =
    by_operation (does.Function f 1) (on_value (function f (x ∷ []) InCode)) calls (x ∷ operands) operands (λ next more h σ. value_pushes (function f (x ∷ []) InCode) next more calls operands h σ)

pub one_same : (f : Builtin) (r : Reading) (c : List Instruction) (env : Env) (calls : Calls) (operands : List Value) → Same (r env calls) c calls operands operands
    → Same (of_one f r env calls) (c ++ Do (does.Function f 1) ∷ []) calls operands operands
one_same f r c env calls operands s =
    chained (r env calls) (λ x. on_value (function f (x ∷ []) InCode)) c (Do (does.Function f 1) ∷ []) calls operands operands operands s (λ x. function_of_one f x calls operands)

pub not_same : (negated : Bool) (x : Value) (calls : Calls) (operands : List Value) → Same (λ next. not_if negated next x) (not_code negated) calls (x ∷ operands) operands
not_same true x calls operands = function_of_one builtin.Not x calls operands
not_same false x calls operands = nothing_more x calls operands

-- ---- BETWEEN and IN

nipped : (v x : Value) (calls : Calls) (operands : List Value) → Same (λ next. next v) (Do does.Nip ∷ []) calls (v ∷ x ∷ operands) operands
nipped v x calls operands = by_operation does.Nip (λ next. next v) calls (v ∷ x ∷ operands) operands (λ next more h σ. h v σ)

-- an operator of what stands beneath and of an operand
beside_same : (o : BinOp) → may_decide o ≡ false → (x v : Value) (b : Reading) (c : Coded) → SameReading b c → (env : Env) (calls : Calls) (operands : List Value)
    → Same (of_two o x b env calls) (beside o (c env)) calls (v ∷ x ∷ operands) (v ∷ x ∷ operands)
beside_same o e x v b c s env calls operands =
    behind_operation does.Over (of_two o x b env calls) (c env ++ Do (does.Binary o) ∷ []) calls (v ∷ x ∷ operands) (x ∷ v ∷ x ∷ operands) (v ∷ x ∷ operands) (λ σ. refl)
    (recoded (ap (λ m. deciding m o (c env)) e) (two_same o x b (c env) env calls (v ∷ x ∷ operands) (s.by env calls (x ∷ v ∷ x ∷ operands))))

pub between_same : (x : Value) (a b : Reading) (c d : Coded) → SameReading a c → SameReading b d → (env : Env) (calls : Calls) (operands : List Value)
    → Same (between x a b env calls) (between_code (c env) (d env)) calls (x ∷ operands) operands
between_same x a b c d s t env calls operands =
    let right = right_code op.And (beside op.LessOrEqual (d env)) in
    recoded (ap (λ z. Do does.Copy ∷ z) (append_assoc (c env) (Do (does.Binary op.GreaterOrEqual) ∷ []) (right ++ Do does.Nip ∷ [])))
    (chained (of_two op.GreaterOrEqual x a env calls) (λ v. of_two op.And v (λ e ks. of_two op.LessOrEqual x b e ks) env calls)
    (Do does.Copy ∷ (c env ++ Do (does.Binary op.GreaterOrEqual) ∷ [])) (right ++ Do does.Nip ∷ []) calls (x ∷ operands) (x ∷ operands) operands
    (behind_operation does.Copy (of_two op.GreaterOrEqual x a env calls) (right_code op.GreaterOrEqual (c env)) calls (x ∷ operands) (x ∷ x ∷ operands) (x ∷ operands) (λ σ. refl)
    (two_same op.GreaterOrEqual x a (c env) env calls (x ∷ operands) (s.by env calls (x ∷ x ∷ operands))))
    (λ v.
    chained (of_two op.And v (λ e ks. of_two op.LessOrEqual x b e ks) env calls) (λ w next. next w) right (Do does.Nip ∷ []) calls (v ∷ x ∷ operands) (x ∷ operands) operands
    (two_same op.And v (λ e ks. of_two op.LessOrEqual x b e ks) (beside op.LessOrEqual (d env)) env calls (x ∷ operands) (beside_same op.LessOrEqual refl x v b d t env calls operands))
    (λ w. nipped w x calls operands)))

pub among_same : (x : Value) {rs : List Reading} {cs : List Coded} → AllRead rs cs → (found : Value) (env : Env) (calls : Calls) (operands : List Value)
    → Same (among x rs found env calls) (among_code cs env) calls (found ∷ x ∷ operands) operands
among_same x none found env calls operands = nipped found x calls operands
among_same x (one_more {r} {c} {rs} {cs} s ss) found env calls operands =
    chained (of_two op.Or found (λ e ks. of_two op.Equal x r e ks) env calls) (λ v. among x rs v env calls) (right_code op.Or (beside op.Equal (c env))) (among_code cs env) calls (found ∷ x ∷ operands) (x ∷ operands) operands
    (two_same op.Or found (λ e ks. of_two op.Equal x r e ks) (beside op.Equal (c env)) env calls (x ∷ operands) (beside_same op.Equal refl x found r c s env calls operands))
    (λ v. among_same x ss v env calls operands)
