-- Calls of procedures, part by part.
use Rattle.std.proofs.Common.{◌≡◌, ℕ, suc, Bool, true, false, if◌then◌else◌, List, [], ◌∷◌, ◌++◌, drop, map, length, refl, sym, ap, ◌∙◌}
use Rattle.std.proofs.lemmas.List.{append_assoc, length-map}
use Rattle.ebr_base.specs.declared.object.ObjectKey.{ObjectKey}
use Rattle.ebr_exprtree.specs.declared.expression.Expr.{Expr}
use Rattle.ebr_ast.specs.declared.unit.Parameter.{Parameter}
use Rattle.ebr_scope.specs.Meanings.{is_out}
use Rattle.ebr_code.specs.declared.instruction.Instruction.{Instruction}
use Rattle.ebr_run.specs.Scope.{Env, callee}
use Rattle.ebr_run.specs.Statements.{Place, outs, argument_place}
use Rattle.ebr_exprcode.specs.declared.targets.Place as held
use Rattle.ebr_code.specs.Codes.{listed, arguments_code, call_code, stores_code, procedure_code}
use Rattle.ebr_exprcode.specs.inside.Arguments.{first_mode, out_of}
use Rattle.ebr_exprcode.specs.Placed.{placed}

outs_none : (env : Env) (es : List Expr) → outs env es [] ≡ []
outs_none env [] = refl
outs_none env (e ∷ es) = refl

by_test : (b : Bool) (p : Place) (ps : List Place) → (if b then p ∷ ps else ps) ≡ (if b then p ∷ [] else []) ++ ps
by_test true p ps = refl
by_test false p ps = refl

-- one argument more
pub outs_step : (env : Env) (ps : List Parameter) (e : Expr) (es : List Expr) → outs env (e ∷ es) ps ≡ out_of (first_mode ps) env e ++ outs env es (drop 1 ps)
outs_step env [] e es = sym (outs_none env es)
outs_step env (p ∷ ps) e es = by_test (is_out p.mode) (argument_place env e) (outs env es ps)

length_arguments : (es : List Expr) (ps : List Parameter) → length (arguments_code es ps) ≡ length es
length_arguments [] ps = refl
length_arguments (e ∷ es) [] = ap suc (length_arguments es [])
length_arguments (e ∷ es) (p ∷ ps) = ap suc (length_arguments es ps)

pub procedure_called : (key : ObjectKey) (at : ℕ) (es : List Expr) (ps slice : List Parameter) (env : Env) (places : List held.Place) (n m : ℕ) (start behind called end : List Instruction)
    → slice ≡ ps
    → behind ≡ start ++ listed (arguments_code es slice) env
    → map placed places ≡ outs env es slice
    → n ≡ length es
    → m ≡ length places
    → called ≡ behind ++ call_code (callee key at n m)
    → end ≡ called ++ stores_code (map placed places)
    → end ≡ start ++ procedure_code key at (arguments_code es ps) (outs env es ps) env
procedure_called key at es ps slice env places n m start behind called end q a p hn hm c e =
    let cs = listed (arguments_code es slice) env in
    let f = call_code (callee key at n m) in
    e
    ∙ ap (λ o. o ++ stores_code (map placed places)) (c ∙ ap (λ o. o ++ f) a)
    ∙ append_assoc (start ++ cs) f (stores_code (map placed places))
    ∙ append_assoc start cs (f ++ stores_code (map placed places))
    ∙ ap (λ (qs : List Place). start ++ (cs ++ (f ++ stores_code qs))) p
    ∙ ap (λ i. start ++ (cs ++ (call_code (callee key at i m) ++ stores_code (outs env es slice)))) (hn ∙ sym (length_arguments es slice))
    ∙ ap (λ j. start ++ (cs ++ (call_code (callee key at (length (arguments_code es slice)) j) ++ stores_code (outs env es slice)))) (hm ∙ (sym (length-map places placed) ∙ ap length p))
    ∙ ap (λ (rs : List Parameter). start ++ procedure_code key at (arguments_code es rs) (outs env es rs) env) q
