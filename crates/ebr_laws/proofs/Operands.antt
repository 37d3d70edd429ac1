-- Lists of operands, and calls with them.
use Rattle.std.proofs.Common.{◌≡◌, ℕ, suc, Bool, true, false, if◌then◌else◌, List, [], ◌∷◌, ◌++◌, length, take, drop, refl, sym, ap, ◌∙◌, append_assoc, eqb-true}
use Rattle.std.specs.Prelude.{reverse, nat_eq}
use Rattle.std.proofs.lemmas.List.{length-reverse, reverse-reverse, reverse-append}
use Rattle.ebr_base.specs.declared.object.ObjectKey.{ObjectKey}
use Rattle.ebr_base.specs.declared.value.Value.{Value}
use Rattle.ebr_value.specs.declared.form.Builtin.{Builtin}
use Rattle.ebr_value.specs.declared.form.Place.TheVariants.{Code as InCode}
use Rattle.ebr_value.specs.Forms.{function}
use Rattle.ebr_run.specs.declared.callee.Callee.{Callee}
use Rattle.ebr_run.specs.State.{State, Runs, End, Normal, Exit, Continue, Returned, Raised, Stopped, Waiting, bare, with_operands, ended, then_run, broken}
use Rattle.ebr_run.specs.Scope.{Env, callee}
use Rattle.ebr_run.specs.Values.{on_value}
use Rattle.ebr_run.specs.Expressions.{Calls, Then, Reading, values, give_on, given_back, called_with, only_value, function_called}
use Rattle.ebr_code.specs.declared.instruction.Instruction.{Instruction, Do}
use Rattle.ebr_code.specs.declared.instruction.Operation.TheVariants as does
use Rattle.ebr_code.specs.Instructions.{push, above, run}
use Rattle.ebr_code.specs.Codes.{Coded, listed, refer_unit, call_code, function_code}
use Rattle.ebr_laws.proofs.Lists.{first_does}
use Rattle.ebr_laws.proofs.Steps.{Goes, Same, SameReading, value_pushes, referring_same}

-- ---- values on operands

-- values as the code leaves them, the last one topmost
abbrev pub onto : List Value → List Value → List Value
onto [] operands = operands
onto (v ∷ vs) operands = onto vs (v ∷ operands)

onto_reversed : (vs operands : List Value) → onto vs operands ≡ reverse vs ++ operands
onto_reversed [] operands = refl
onto_reversed (v ∷ vs) operands =
    onto_reversed vs (v ∷ operands) ∙ sym (append_assoc (reverse vs) (v ∷ []) operands) ∙ ap (λ z. z ++ operands) (sym (reverse-append (v ∷ []) vs))

taken : (vs ws : List Value) → take (length vs) (vs ++ ws) ≡ vs
taken [] ws = refl
taken (v ∷ vs) ws = ap (λ z. v ∷ z) (taken vs ws)

dropped : (vs ws : List Value) → drop (length vs) (vs ++ ws) ≡ ws
dropped [] ws = refl
dropped (v ∷ vs) ws = dropped vs ws

-- the last operands are the values
pub last_of : (n : ℕ) (vs operands : List Value) → length vs ≡ n → reverse (take n (onto vs operands)) ≡ vs
last_of n vs operands e =
    ap (λ z. reverse (take n z)) (onto_reversed vs operands)
    ∙ ap (λ k. reverse (take k (reverse vs ++ operands))) (sym e ∙ sym (length-reverse vs))
    ∙ ap reverse (taken (reverse vs) operands)
    ∙ reverse-reverse vs

pub beneath_of : (n : ℕ) (vs operands : List Value) → length vs ≡ n → drop n (onto vs operands) ≡ operands
beneath_of n vs operands e =
    ap (drop n) (onto_reversed vs operands)
    ∙ ap (λ k. drop k (reverse vs ++ operands)) (sym e ∙ sym (length-reverse vs))
    ∙ dropped (reverse vs) operands

-- ---- operands, from left to right

pub data AllRead : List Reading → List Coded → Type 0 where
  none : AllRead [] []
  one_more : {r : Reading} {c : Coded} {rs : List Reading} {cs : List Coded} → SameReading r c → AllRead rs cs → AllRead (r ∷ rs) (c ∷ cs)

pub same_length : {rs : List Reading} {cs : List Coded} → AllRead rs cs → length rs ≡ length cs
same_length none = refl
same_length (one_more s ss) = ap suc (same_length ss)

-- the rest of the code goes on with so many values on the operands
abbrev pub GoesWith : ℕ → (List Value → Runs) → List Instruction → Calls → List Value → Type 0
GoesWith n next more calls operands = (vs : List Value) → length vs ≡ n → (τ : State) → next vs τ ≡ run more calls (with_operands (onto vs operands) τ)

pub values_same : {rs : List Reading} {cs : List Coded} → AllRead rs cs → (env : Env) (calls : Calls) (operands : List Value) (next : List Value → Runs) (more : List Instruction)
    → GoesWith (length rs) next more calls operands → (σ : State) → values rs env calls next σ ≡ run (listed cs env ++ more) calls (with_operands operands σ)
values_same none env calls operands next more h σ = h [] refl σ
values_same (one_more {c = c} {cs = cs} s ss) env calls operands next more h σ =
    (s.by env calls operands).by _ (listed cs env ++ more) (λ v τ. values_same ss env calls (v ∷ operands) (λ vs. next (v ∷ vs)) more (λ vs e υ. h (v ∷ vs) (ap suc e) υ) τ) σ
    ∙ ap (λ z. run z calls (with_operands operands σ)) (sym (append_assoc (c env) (listed cs env) more))

-- a built-in function of the values
pub function_same : (f : Builtin) (rs : List Reading) (cs : List Coded) → AllRead rs cs → (env : Env) (calls : Calls) (operands : List Value)
    → Same (λ next. values rs env calls (λ vs. on_value (function f vs InCode) next)) (listed cs env ++ Do (does.Function f (length cs)) ∷ []) calls operands operands
function_same f rs cs ss env calls operands = record {
  by = λ next more h σ.
      values_same ss env calls operands _ (Do (does.Function f (length cs)) ∷ more) (λ vs e τ.
      value_pushes (function f vs InCode) next more calls operands h τ
      ∙ ap (λ z. then_run (on_value (function f z InCode) push (with_operands operands τ)) (run more calls)) (sym (last_of (length cs) vs operands (e ∙ same_length ss)))
      ∙ ap (λ z. then_run (on_value (function f (reverse (take (length cs) (onto vs operands))) InCode) push (with_operands z τ)) (run more calls)) (sym (beneath_of (length cs) vs operands (e ∙ same_length ss)))
      ∙ sym (first_does (does.Function f (length cs)) more calls (with_operands (onto vs operands) τ))) σ
      ∙ ap (λ z. run z calls (with_operands operands σ)) (sym (append_assoc (listed cs env) (Do (does.Function f (length cs)) ∷ []) more));
}

-- ---- what calls give back

-- the rest of the code goes on with so many values on the operands, the first topmost
abbrev pub GoesBack : ℕ → (List Value → Runs) → List Instruction → Calls → List Value → Type 0
GoesBack n next more calls operands = (vs : List Value) → length vs ≡ n → (τ : State) → next vs τ ≡ run more calls (with_operands (vs ++ operands) τ)

if_so_many : (b : Bool) (n : ℕ) (vs : List Value) → nat_eq (length vs) n ≡ b → (next : List Value → Runs) (more : List Instruction) (calls : Calls) (operands : List Value) → GoesBack n next more calls operands → (σ : State)
    → (if b then next vs σ else broken σ) ≡ then_run (if b then above operands vs σ else broken σ) (run more calls)
if_so_many true n vs e next more calls operands h σ = h vs (eqb-true (length vs) n e) σ
if_so_many false n vs e next more calls operands h σ = refl

give_same : (e : End) (n : ℕ) (σ : State) (next : List Value → Runs) (more : List Instruction) (calls : Calls) (operands : List Value) → GoesBack n next more calls operands
    → give_on e n (ended e σ) next ≡ then_run (give_on e n (ended e σ) (above operands)) (run more calls)
give_same Normal n σ next more calls operands h = if_so_many (nat_eq (length σ.memory.operands) n) n σ.memory.operands refl next more calls operands h σ
give_same Exit n σ next more calls operands h = refl
give_same Continue n σ next more calls operands h = refl
give_same Returned n σ next more calls operands h = refl
give_same (Raised f) n σ next more calls operands h = refl
give_same (Stopped c) n σ next more calls operands h = refl
give_same Waiting n σ next more calls operands h = refl

pub called_same : (f : Callee) (vs : List Value) → length vs ≡ f.arguments → (calls : Calls) (operands : List Value) (next : List Value → Runs) (more : List Instruction) → GoesBack f.results next more calls operands → (σ : State)
    → called_with f vs calls next σ ≡ run (call_code f ++ more) calls (with_operands (onto vs operands) σ)
called_same f vs e calls operands next more h σ =
    referring_same f.unit.class f.unit.name calls (onto vs operands) _ (Do (does.Call f) ∷ more) (λ τ.
    let o = calls.call f vs (bare τ) in
    give_same o.end f.results o.state next more calls operands h
    ∙ ap (λ z. then_run (given_back f.results o (above z)) (run more calls)) (sym (beneath_of f.arguments vs operands e))
    ∙ ap (λ z. then_run (given_back f.results (calls.call f z (bare τ)) (above (drop f.arguments (onto vs operands)))) (run more calls)) (sym (last_of f.arguments vs operands e))
    ∙ sym (first_does (does.Call f) more calls (with_operands (onto vs operands) τ))) σ
    ∙ ap (λ z. run z calls (with_operands (onto vs operands) σ)) (sym (append_assoc (refer_unit f.unit.class f.unit.name) (Do (does.Call f) ∷ []) more))

only_same : (next : Then) (more : List Instruction) (calls : Calls) (operands : List Value) → Goes next more calls operands → GoesBack 1 (only_value next) more calls operands
only_same next more calls operands h [] e τ = cc
only_same next more calls operands h (v ∷ []) e τ = h v τ
only_same next more calls operands h (v ∷ w ∷ vs) e τ = cc

-- a function that is called with operands
pub called_function : (key : ObjectKey) (at : ℕ) (rs : List Reading) (cs : List Coded) → AllRead rs cs → (env : Env) (calls : Calls) (operands : List Value)
    → Same (function_called key at rs env calls) (function_code key at cs env) calls operands operands
called_function key at rs cs ss env calls operands =
    let f = callee key at (length rs) 1 in
    record {
      by = λ next more h σ.
          values_same ss env calls operands _ (call_code f ++ more) (λ vs e τ.
          called_same f vs e calls operands (only_value next) more (only_same next more calls operands h) τ) σ
          ∙ ap (λ z. run z calls (with_operands operands σ)) (sym (append_assoc (listed cs env) (call_code f) more))
          ∙ ap (λ n. run ((listed cs env ++ call_code (callee key at n 1)) ++ more) calls (with_operands operands σ)) (same_length ss);
    }
