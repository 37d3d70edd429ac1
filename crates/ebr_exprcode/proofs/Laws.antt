-- What the code of a tree is at one layer, and lists of instructions that are made part by part.
use Rattle.std.proofs.Common.{◌≡◌, ℕ, List, [], ◌∷◌, ◌++◌, map, length, Option, Some, None, Result, Ok, Err, OnOk, true, false, refl, sym, ap, ◌∙◌, rules}
use Rattle.std.specs.Result.{is_ok}
use Rattle.std.proofs.lemmas.List.{append_assoc}
use Rattle.ebr_exprtree.specs.declared.expression.Addend.{Addend, out-Addend}
use Rattle.ebr_exprtree.specs.declared.expression.Expr.{Expr, out-Expr}
use Rattle.ebr_exprtree.specs.declared.expression.Expr.TheFolds.{fold_out-Expr, fold_out-Addend, map-Expr, map-Addend}
use Rattle.ebr_base.specs.declared.value.Value.TheVariants as value
use Rattle.ebr_code.specs.declared.instruction.Instruction.{Instruction, Do}
use Rattle.ebr_code.specs.declared.instruction.Operation.TheVariants as does
use Rattle.ebr_run.specs.declared.callee.Callee.{Callee}
use Rattle.ebr_run.specs.Scope.{Env, Denoted, Variable, Exception, Cursor, Record, Subprogram}
use Rattle.ebr_code.specs.Codes.{Coded, Term, expr_codes, term_codes, expr_code, term_code, listed, call_code, applied_code, among_code}
use Rattle.ebr_exprcode.specs.inside.Callees.{callee_of}

pub expr_code-out : (e : Expr) → expr_code e ≡ expr_codes (map-Expr Expr Addend Coded Term expr_code term_code (out-Expr e))
unfolding expr_code term_code
expr_code-out e = fold_out-Expr Coded Term expr_codes term_codes e

pub term_code-out : (t : Addend) → term_code t ≡ term_codes (map-Addend Expr Addend Coded Term expr_code term_code (out-Addend t))
unfolding expr_code term_code
term_code-out t = fold_out-Addend Coded Term expr_codes term_codes t

-- One element more of a list that a loop goes through, whose code is added behind what is there.
pub more : {X A : Type 0} (all : List X → List A) (one : X → List A) → ((x : X) (xs : List X) → all (x ∷ xs) ≡ one x ++ all xs)
    → (items rest : List X) (x : X) (out out' whole : List A) → items ≡ x ∷ rest → out ++ all items ≡ whole → out' ≡ out ++ one x → out' ++ all rest ≡ whole
more all one step items rest x out out' whole e h k =
    ap (λ o. o ++ all rest) k
    ∙ append_assoc out (one x) (all rest)
    ∙ ap (λ ys. out ++ ys) (sym (step x rest))
    ∙ ap (λ ys. out ++ all ys) (sym e) ∙ h

-- the same with what the loop keeps beside the code
pub more_with : {X S A : Type 0} (all : S → List X → List A) (one : S → X → List A) (next : S → X → S)
    → ((s : S) (x : X) (xs : List X) → all s (x ∷ xs) ≡ one s x ++ all (next s x) xs)
    → (s s' : S) (items rest : List X) (x : X) (out out' whole : List A)
    → items ≡ x ∷ rest → out ++ all s items ≡ whole → out' ≡ out ++ one s x → s' ≡ next s x → out' ++ all s' rest ≡ whole
more_with all one next step s s' items rest x out out' whole e h k n =
    ap (λ t. out' ++ all t rest) n
    ∙ ap (λ o. o ++ all (next s x) rest) k
    ∙ append_assoc out (one s x) (all (next s x) rest)
    ∙ ap (λ ys. out ++ ys) (sym (step s x rest))
    ∙ ap (λ ys. out ++ all s ys) (sym e) ∙ h

-- ---- the values of IN

pub among_ended : (env : Env) (items slice rest : List Expr) (start first out end : List Instruction)
    → slice ≡ items
    → rest ≡ []
    → out ++ among_code (map expr_code rest) env ≡ first ++ among_code (map expr_code slice) env
    → first ≡ start ++ Do (does.Push (value.Bool false)) ∷ []
    → end ≡ out ++ Do does.Nip ∷ []
    → end ≡ start ++ Do (does.Push (value.Bool false)) ∷ among_code (map expr_code items) env
among_ended env items slice rest start first out end q r h f k =
    k
    ∙ ap (λ es. out ++ among_code (map expr_code es) env) (sym r)
    ∙ h
    ∙ ap (λ es. first ++ among_code (map expr_code es) env) q
    ∙ ap (λ o. o ++ among_code (map expr_code items) env) f
    ∙ append_assoc start (Do (does.Push (value.Bool false)) ∷ []) (among_code (map expr_code items) env)

-- ---- a function with its arguments

applied_is : (d : Option Denoted) (cs : List Coded) (env : Env) (f : Callee) → Some f ≡ callee_of d (length cs) 1 → applied_code d cs env ≡ listed cs env ++ call_code f
applied_is None cs env f e = cc
applied_is (Some (Variable l t)) cs env f e = cc
applied_is (Some (Exception p x)) cs env f e = cc
applied_is (Some (Cursor l q fs)) cs env f e = cc
applied_is (Some (Record ps)) cs env f e = cc
applied_is (Some (Subprogram key at h)) cs env f e = cc

applied_is_not : (d : Option Denoted) (cs : List Coded) (env : Env) (n : ℕ) → None ≡ callee_of d n 1 → applied_code d cs env ≡ Do does.Broken ∷ []
applied_is_not None cs env n e = refl
applied_is_not (Some (Variable l t)) cs env n e = refl
applied_is_not (Some (Exception p x)) cs env n e = refl
applied_is_not (Some (Cursor l q fs)) cs env n e = refl
applied_is_not (Some (Record ps)) cs env n e = refl
applied_is_not (Some (Subprogram key at h)) cs env n e = cc

pub applied_known : (d : Option Denoted) (cs : List Coded) (env : Env) (f : Callee) (n : ℕ) (start behind end : List Instruction)
    → Some f ≡ callee_of d n 1
    → n ≡ length cs
    → behind ≡ start ++ listed cs env
    → end ≡ behind ++ call_code f
    → end ≡ start ++ applied_code d cs env
applied_known d cs env f n start behind end e k h m =
    m
    ∙ ap (λ o. o ++ call_code f) h
    ∙ append_assoc start (listed cs env) (call_code f)
    ∙ ap (λ o. start ++ o) (sym (applied_is d cs env f (e ∙ ap (λ i. callee_of d i 1) k)))

pub applied_unknown : (d : Option Denoted) (cs : List Coded) (env : Env) (n : ℕ) (start end : List Instruction)
    → None ≡ callee_of d n 1 → end ≡ start ++ Do does.Broken ∷ [] → end ≡ start ++ applied_code d cs env
applied_unknown d cs env n start end e m = m ∙ ap (λ o. start ++ o) (sym (applied_is_not d cs env n e))

-- ---- what was done before

pub is_done : {T E Q : Type 0} (r : Result T E) → is_ok r ≡ true → OnOk r Q → Q
is_done (Ok x) e q = q
is_done (Err x) e q = search (rules, e)

pub on_ok_both : {T E : Type 0} (P Q : Type 0) (r : Result T E) → OnOk r P → OnOk r Q → OnOk r (P × Q)
on_ok_both P Q (Ok x) p q = (p, q)
on_ok_both P Q (Err x) p q = tt
