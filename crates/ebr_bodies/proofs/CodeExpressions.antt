-- Expressions ask what code may ask: an induction on their trees.
use Rattle.std.proofs.Common.{◌≡◌, ℕ, zero, suc, false, List, [], ◌∷◌, map, Option, Some, None, sym, subst}
use Rattle.std.specs.Prelude.{pos}
use Rattle.std.specs.List.{AllByRecursion}
use Rattle.ebr_base.specs.declared.value.Value.TheVariants as value
use Rattle.ebr_base.specs.Values.{text_value}
use Rattle.ebr_exprtree.specs.declared.expression.Attribute.{Attribute}
use Rattle.ebr_exprtree.specs.declared.expression.Path.{Path}
use Rattle.ebr_exprtree.specs.declared.expression.RowImage.{RowImage}
use Rattle.ebr_exprtree.specs.declared.expression.RowImage.TheVariants as image
use Rattle.ebr_exprtree.specs.declared.expression.Expr.{Expr}
use Rattle.ebr_exprtree.specs.declared.expression.Addend.{Addend}
use Rattle.ebr_exprtree.specs.declared.expression.Expr.TheOpen.{Expr-F, Addend-F}
use Rattle.ebr_exprtree.specs.declared.expression.Expr.TheOpen as expr
use Rattle.ebr_exprtree.specs.declared.expression.Expr.TheViews.{roll-Expr, roll-Addend}
use Rattle.ebr_exprtree.specs.declared.expression.Expr.TheFolds.{fold-roll-Expr, fold-roll-Addend, map-Expr, map-Addend, ind-Expr, claims}
use Rattle.ebr_exprtree.specs.declared.expression.Expr.TheBlock.{the_family, member-Expr, member-Addend}
use denote.Hole.Holds.{Such}
use Rattle.ebr_value.specs.declared.form.BinOp.{BinOp}
use Rattle.ebr_value.specs.declared.form.BinOp.TheVariants as op
use Rattle.ebr_value.specs.declared.form.Builtin.{Builtin}
use Rattle.ebr_value.specs.declared.form.Builtin.TheVariants as builtin
use Rattle.ebr_value.specs.declared.form.Place.TheVariants.{Code as InCode}
use Rattle.ebr_value.specs.Forms.{function}
use Rattle.ebr_value.specs.Outcomes.{whole}
use Rattle.ebr_expr.specs.Operators.{compared_by, builtin_at, unsigned}
use Rattle.ebr_scope.specs.Meanings.{Word}
use Rattle.ebr_run.specs.Faults.{ora}
use Rattle.ebr_run.specs.Cursors.{attribute_of}
use Rattle.ebr_run.specs.Scope.{Denoted, Variable, Exception, Cursor, Record, Subprogram, meant, meant_at, applied, column_place}
use Rattle.ebr_run.specs.Values.{on_value, on_some, cursor_at, number_of, affected_attribute}
use Rattle.ebr_run.specs.Expressions.{Then, Reading, Term, reads, term, reading_of, term_of, name_reading, applied_reading, call_reading, image_at, sqlcode_reading, cursor_attribute, attribute_reading, of_two, further, summed, not_if, between, among}
use Rattle.ebr_bodies.proofs.CodeStates.{Keeps}
use Rattle.ebr_bodies.proofs.CodeValues.{ThenKeeps, on_value_keeps, on_some_keeps, handled_at_keeps, new_at_keeps, old_at_keeps, firing_keeps}
use Rattle.ebr_bodies.proofs.CodeOperators.{ReadingKeeps, TermKeeps, referred_keeps, located_keeps, values_keeps, function_called_keeps, of_one_keeps, of_two_keeps, further_keeps, summed_keeps, not_if_keeps, between_keeps, among_keeps}

-- ---- what has no operands

name_keeps : (d : Option Denoted) → ReadingKeeps (name_reading d)
name_keeps (Some (Variable l t)) env calls kc next n σ h = located_keeps l calls kc next n σ h
name_keeps (Some (Subprogram key at x)) env calls kc next n σ h = function_called_keeps key at [] tt env calls kc next n σ h
name_keeps (Some (Exception p f)) env calls kc next n σ h = h
name_keeps (Some (Cursor l q fs)) env calls kc next n σ h = h
name_keeps (Some (Record ps)) env calls kc next n σ h = h
name_keeps None env calls kc next n σ h = h

image_keeps : (i : RowImage) (k : Option ℕ) (next : Then) → ThenKeeps next → Keeps (image_at i k next)
image_keeps image.New (Some k) next n σ h = new_at_keeps k next n σ h
image_keeps image.Old (Some k) next n σ h = old_at_keeps k next n σ h
image_keeps image.New None next n σ h = h
image_keeps image.Old None next n σ h = h

sqlcode_keeps : (k : ℕ) (next : Then) → ThenKeeps next → Keeps (sqlcode_reading k next)
sqlcode_keeps zero next n σ h = n (value.Num (pos 0)) σ h
sqlcode_keeps (suc k) next n σ h = handled_at_keeps k (λ f τ. next (number_of f) τ) (λ f. n (number_of f)) σ h

cursor_attribute_keeps : (a : Attribute) (d : Option Denoted) → ReadingKeeps (cursor_attribute a d)
cursor_attribute_keeps a (Some (Cursor l q fs)) env calls kc next n σ h =
    referred_keeps l calls kc (λ τ. on_some (attribute_of a (cursor_at l τ)) (ora 1001) next τ) (λ τ k. on_some_keeps (attribute_of a (cursor_at l τ)) (ora 1001) next n τ k) σ h
cursor_attribute_keeps a (Some (Variable l t)) env calls kc next n σ h = h
cursor_attribute_keeps a (Some (Subprogram key at x)) env calls kc next n σ h = h
cursor_attribute_keeps a (Some (Exception p f)) env calls kc next n σ h = h
cursor_attribute_keeps a (Some (Record ps)) env calls kc next n σ h = h
cursor_attribute_keeps a None env calls kc next n σ h = h

attribute_keeps : (c : Option Word) (a : Attribute) → ReadingKeeps (attribute_reading c a)
attribute_keeps None a env calls kc next n σ h = n (affected_attribute a σ.affected) σ h
attribute_keeps (Some c) a env calls kc next n σ h = cursor_attribute_keeps a (meant_at env c None) env calls kc next n σ h

-- ---- calls

applied_keeps : (d : Option Denoted) (rs : List Reading) → AllByRecursion ReadingKeeps rs → ReadingKeeps (applied_reading d rs)
applied_keeps (Some (Subprogram key at x)) rs rk env calls kc next n σ h = function_called_keeps key at rs rk env calls kc next n σ h
applied_keeps (Some (Variable l t)) rs rk env calls kc next n σ h = h
applied_keeps (Some (Exception p f)) rs rk env calls kc next n σ h = h
applied_keeps (Some (Cursor l q fs)) rs rk env calls kc next n σ h = h
applied_keeps (Some (Record ps)) rs rk env calls kc next n σ h = h
applied_keeps None rs rk env calls kc next n σ h = h

call_keeps : (f : Option Builtin) (path : Path) (rs : List Reading) → AllByRecursion ReadingKeeps rs → ReadingKeeps (call_reading f path rs)
call_keeps (Some f) path rs rk env calls kc next n σ h = values_keeps rs rk env calls kc (λ vs τ. on_value (function f vs InCode) next τ) (λ vs. on_value_keeps (function f vs InCode) next n) σ h
call_keeps None path rs rk env calls kc next n σ h = applied_keeps (applied env path) rs rk env calls kc next n σ h

-- ---- expressions

abbrev IsKept : Expr → Type 0
IsKept x = ReadingKeeps (reading_of x)

abbrev IsTermKept : Addend → Type 0
IsTermKept t = TermKeeps (term_of t)

abbrev KeptExpr : Type 0
KeptExpr = Such the_family (claims IsKept IsTermKept) member-Expr

abbrev KeptAddend : Type 0
KeptAddend = Such the_family (claims IsKept IsTermKept) member-Addend

all_kept : (l : List KeptExpr) → AllByRecursion ReadingKeeps (map reading_of (map (λ e. e.0) l))
all_kept [] = tt
all_kept (e ∷ l) = (e.1, all_kept l)

all_terms : (l : List KeptAddend) → AllByRecursion TermKeeps (map term_of (map (λ e. e.0) l))
all_terms [] = tt
all_terms (e ∷ l) = (e.1, all_terms l)

abbrev trees : Expr-F KeptExpr KeptAddend → Expr-F Expr Addend
trees y = map-Expr KeptExpr KeptAddend Expr Addend (λ e. e.0) (λ e. e.0) y

abbrev readings : Expr-F Expr Addend → Reading
readings d = reads (map-Expr Expr Addend Reading Term reading_of term_of d)

-- one operator behind a value
right_keeps : (o : BinOp) (a b : KeptExpr) → ReadingKeeps (λ env calls next. reading_of a.0 env calls (λ x τ. of_two o x (reading_of b.0) env calls next τ))
right_keeps o a b env calls kc next n σ h = a.1 env calls kc (λ x τ. of_two o x (reading_of b.0) env calls next τ) (λ x. of_two_keeps o x (reading_of b.0) b.1 env calls kc next n) σ h

expression_keeps : (y : Expr-F KeptExpr KeptAddend) → ReadingKeeps (readings (trees y))
expression_keeps (expr.Number k) env calls kc next n σ h = on_value_keeps (whole (pos k)) next n σ h
expression_keeps (expr.Text t) env calls kc next n σ h = n (text_value t) σ h
expression_keeps expr.Null env calls kc next n σ h = n value.Null σ h
expression_keeps (expr.Boolean b) env calls kc next n σ h = n (value.Bool b) σ h
expression_keeps (expr.Name path) env calls kc next n σ h = name_keeps (meant env path) env calls kc next n σ h
expression_keeps (expr.Call path l) env calls kc next n σ h = call_keeps (builtin_at path.name path.member) path (map reading_of (map (λ e. e.0) l)) (all_kept l) env calls kc next n σ h
expression_keeps (expr.Row i c) env calls kc next n σ h = image_keeps i (column_place env c) next n σ h
expression_keeps expr.SqlCode env calls kc next n σ h = sqlcode_keeps env.handlers next n σ h
expression_keeps (expr.Firing o) env calls kc next n σ h = firing_keeps o next n σ h
expression_keeps (expr.Attribute c a) env calls kc next n σ h = attribute_keeps c a env calls kc next n σ h
expression_keeps (expr.Quotient a b) env calls kc next n σ h = right_keeps op.Quotient a b env calls kc next n σ h
expression_keeps (expr.Plus a) env calls kc next n σ h = a.1 env calls kc (λ x τ. on_value (unsigned x) next τ) (λ x. on_value_keeps (unsigned x) next n) σ h
expression_keeps (expr.Minus a) env calls kc next n σ h = of_one_keeps builtin.Negate (reading_of a.0) a.1 env calls kc next n σ h
expression_keeps (expr.Product a l) env calls kc next n σ h =
    let rs = map reading_of (map (λ e. e.0) l) in
    a.1 env calls kc (λ x τ. further op.Multiply rs x env calls next τ) (λ x. further_keeps op.Multiply rs (all_kept l) x env calls kc next n) σ h
expression_keeps (expr.Sum a l) env calls kc next n σ h =
    let ts = map term_of (map (λ e. e.0) l) in
    a.1 env calls kc (λ x τ. summed ts x env calls next τ) (λ x. summed_keeps ts (all_terms l) x env calls kc next n) σ h
expression_keeps (expr.Compare c a b) env calls kc next n σ h = right_keeps (compared_by c) a b env calls kc next n σ h
expression_keeps (expr.IsNull a negated) env calls kc next n σ h = of_one_keeps builtin.IsNull (reading_of a.0) a.1 env calls kc (not_if negated next) (not_if_keeps negated next n) σ h
expression_keeps (expr.Between x a b negated) env calls kc next n σ h =
    x.1 env calls kc (λ v τ. between v (reading_of a.0) (reading_of b.0) env calls (not_if negated next) τ) (λ v. between_keeps v (reading_of a.0) (reading_of b.0) a.1 b.1 env calls kc (not_if negated next) (not_if_keeps negated next n)) σ h
expression_keeps (expr.In x l negated) env calls kc next n σ h =
    let rs = map reading_of (map (λ e. e.0) l) in
    x.1 env calls kc (λ v τ. among v rs (value.Bool false) env calls (not_if negated next) τ) (λ v. among_keeps v rs (all_kept l) (value.Bool false) env calls kc (not_if negated next) (not_if_keeps negated next n)) σ h
expression_keeps (expr.Like a b negated) env calls kc next n σ h = right_keeps op.Like a b env calls kc (not_if negated next) (not_if_keeps negated next n) σ h
expression_keeps (expr.Not a) env calls kc next n σ h = of_one_keeps builtin.Not (reading_of a.0) a.1 env calls kc next n σ h
expression_keeps (expr.And a l) env calls kc next n σ h =
    let rs = map reading_of (map (λ e. e.0) l) in
    a.1 env calls kc (λ x τ. further op.And rs x env calls next τ) (λ x. further_keeps op.And rs (all_kept l) x env calls kc next n) σ h
expression_keeps (expr.Or a l) env calls kc next n σ h =
    let rs = map reading_of (map (λ e. e.0) l) in
    a.1 env calls kc (λ x τ. further op.Or rs x env calls next τ) (λ x. further_keeps op.Or rs (all_kept l) x env calls kc next n) σ h
expression_keeps (expr.Place k) env calls kc next n σ h = h
expression_keeps (expr.Bind k) env calls kc next n σ h = h

-- ---- one layer of a tree

reading_of-roll : (d : Expr-F Expr Addend) → reading_of (roll-Expr d) ≡ readings d
unfolding reading_of term_of
reading_of-roll d = fold-roll-Expr Reading Term reads term d

term_of-roll : (d : Addend-F Expr Addend) → term_of (roll-Addend d) ≡ term (map-Addend Expr Addend Reading Term reading_of term_of d)
unfolding reading_of term_of
term_of-roll d = fold-roll-Addend Reading Term reads term d

term_keeps : (y : Addend-F KeptExpr KeptAddend) → IsTermKept (roll-Addend (map-Addend KeptExpr KeptAddend Expr Addend (λ e. e.0) (λ e. e.0) y))
term_keeps y = subst TermKeeps (sym (term_of-roll (map-Addend KeptExpr KeptAddend Expr Addend (λ e. e.0) (λ e. e.0) y))) y.term.1

-- An expression, and what is done with its value, ask what code may ask.
pub reading_keeps : (e : Expr) → ReadingKeeps (reading_of e)
reading_keeps = ind-Expr IsKept IsTermKept (λ x y e. subst (λ d. IsKept (roll-Expr d)) e (subst ReadingKeeps (sym (reading_of-roll (trees y))) (expression_keeps y))) (λ x y e. subst (λ d. IsTermKept (roll-Addend d)) e (term_keeps y))
