-- What an expression gives at one layer, and what operands give behind one that raises a code.
use Rattle.std.proofs.Common.{◌≡◌, List, [], ◌∷◌, map, refl, sym, ap, ◌∙◌, Ok, Err, Bool, true, false}
use Rattle.std.specs.List.{fold}
use Rattle.ebr_base.specs.Answers.{Answers}
use Rattle.ebr_base.specs.declared.code.Code.{Code}
use Rattle.ebr_base.specs.declared.code.Stop.{Stop}
use Rattle.ebr_base.specs.declared.code.Stop.TheVariants.{Raised, NoMemory}
use Rattle.ebr_base.specs.declared.value.Value.{Value}
use Rattle.ebr_base.specs.declared.value.Value.TheVariants as value
use Rattle.ebr_exprtree.specs.declared.expression.Addend.{Addend, out-Addend}
use Rattle.ebr_exprtree.specs.declared.expression.Expr.{Expr, out-Expr}
use Rattle.ebr_exprtree.specs.declared.expression.Expr.TheOpen.{Expr-F}
use Rattle.ebr_exprtree.specs.declared.expression.Expr.TheFolds.{fold_out-Expr, fold_out-Addend, map-Expr, map-Addend}
use Rattle.ebr_value.specs.declared.form.BinOp.{BinOp}
use Rattle.ebr_value.specs.declared.form.Builtin.{Builtin}
use Rattle.ebr_value.specs.declared.form.Builtin.TheVariants as builtin
use Rattle.ebr_value.specs.declared.form.BinOp.TheVariants as op
use Rattle.ebr_value.specs.declared.form.Place.TheVariants.{Sql}
use Rattle.ebr_value.specs.Outcomes.{Outcome}
use Rattle.ebr_value.specs.Forms.{function}
use Rattle.ebr_expr.specs.Evaluation.{Eval, Term, form, term, added, of_one, of_two, not_if, of_values, among}
use Rattle.ebr_expr.specs.inside.Terms.{term_of}

pub Eval-out : (e : Expr) (row binds : List Value) → Eval e row binds ≡ form row binds (map-Expr Expr Addend Outcome Term (λ x. Eval x row binds) (λ t. term_of t row binds) (out-Expr e))
unfolding Eval term_of
Eval-out e row binds = fold_out-Expr Outcome Term (form row binds) term e

-- where its outermost layer is this
pub Eval_at : (e : Expr) (d : Expr-F Expr Addend) (row binds : List Value) → out-Expr e ≡ d → Eval e row binds ≡ form row binds (map-Expr Expr Addend Outcome Term (λ x. Eval x row binds) (λ t. term_of t row binds) d)
Eval_at e d row binds is = Eval-out e row binds ∙ ap (λ y. form row binds (map-Expr Expr Addend Outcome Term (λ x. Eval x row binds) (λ t. term_of t row binds) y)) is

pub term_of-out : (t : Addend) (row binds : List Value) → term_of t row binds ≡ term (map-Addend Expr Addend Outcome Term (λ x. Eval x row binds) (λ u. term_of u row binds) (out-Addend t))
unfolding Eval term_of
term_of-out t row binds = fold_out-Addend Outcome Term (form row binds) term t

-- ---- the first code that is raised is that of the whole

pub of_one_raises : (f : Builtin) (code : Code) → of_one f (Err code) ≡ Err code
unfolding of_one
of_one_raises f code = refl

pub of_two_raises : (o : BinOp) (code : Code) (b : Outcome) → of_two o (Err code) b ≡ Err code
unfolding of_two
of_two_raises o code b = refl

pub not_if_raises : (negated : Bool) (code : Code) → not_if negated (Err code) ≡ Err code
unfolding not_if
not_if_raises true code = of_one_raises builtin.Not code
not_if_raises false code = refl

-- a function with its operands
pub of_known_values : (f : Builtin) (args : List Value) → of_values f (Ok args) ≡ function f args Sql
unfolding of_values
of_known_values f args = refl

pub of_no_values : (f : Builtin) (code : Code) → of_values f (Err code) ≡ Err code
unfolding of_values
of_no_values f code = refl

pub chain_raises : (o : BinOp) (code : Code) (operands : List Outcome) → fold (of_two o) (Err code) operands ≡ Err code
chain_raises o code [] = refl
chain_raises o code (a ∷ operands) = ap (λ y. fold (of_two o) y operands) (of_two_raises o code a) ∙ chain_raises o code operands

pub sum_raises : (code : Code) (terms : List Term) → fold added (Err code) terms ≡ Err code
sum_raises code [] = refl
sum_raises code (t ∷ terms) = ap (λ y. fold added y terms) (of_two_raises t.operator code t.operand) ∙ sum_raises code terms

-- where an operand has no answer, the whole has none for the same cause
pub stops : (s : Stop) (r w : Outcome) → Answers {T = Value} (Err s) w → ((code : Code) → w ≡ Err code → r ≡ Err code) → Answers {T = Value} (Err s) r
stops (Raised code) r w h k = k code h
stops NoMemory r w h k = tt

-- ---- a loop that folds over what the items of a list give: one item more, one that raises a code, no more items

pub fold_more : {A X : Type 0} (f : Outcome → A → Outcome) (g : X → A) (items rest : List X) (x : X) (v w : Value) (r : Outcome) → items ≡ x ∷ rest
    → fold f (Ok v) (map g items) ≡ r → f (Ok v) (g x) ≡ Ok w → fold f (Ok w) (map g rest) ≡ r
fold_more f g items rest x v w r e h k = ap (λ y. fold f y (map g rest)) (sym k) ∙ ap (λ ys. fold f (Ok v) (map g ys)) (sym e) ∙ h

pub fold_stops : {A X : Type 0} (f : Outcome → A → Outcome) (g : X → A) (items rest : List X) (x : X) (v : Value) (code : Code) (r : Outcome) → items ≡ x ∷ rest
    → fold f (Ok v) (map g items) ≡ r → f (Ok v) (g x) ≡ Err code → ((code : Code) (ys : List A) → fold f (Err code) ys ≡ Err code) → r ≡ Err code
fold_stops f g items rest x v code r e h k raises = sym h ∙ ap (λ ys. fold f (Ok v) (map g ys)) e ∙ ap (λ y. fold f y (map g rest)) k ∙ raises code (map g rest)

-- ---- x IN (..), where an equality raises a code

-- the OR of the equalities with a value, from what was found
abbrev pub found_among : Value → Value → List Outcome → Outcome
found_among found x list = fold (of_two op.Or) (Ok found) (map (of_two op.Equal (Ok x)) list)

pub among_stops : (x found : Value) (a : Outcome) (list rest all : List Outcome) (code : Code) → list ≡ a ∷ rest → found_among found x list ≡ found_among (value.Bool false) x all
    → of_two op.Or (Ok found) (of_two op.Equal (Ok x) a) ≡ Err code → among all x ≡ Err code
unfolding among
among_stops x found a list rest all code e h k = fold_stops (of_two op.Or) (of_two op.Equal (Ok x)) list rest a found code (found_among (value.Bool false) x all) e h k (chain_raises op.Or)
