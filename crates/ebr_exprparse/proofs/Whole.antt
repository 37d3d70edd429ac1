-- Reading an expression is right.
use Rattle.std.proofs.Common.{◌≡◌, ℕ, ◌-◌, ◌≤◌, Bool, false, List, length, drop, Option, Some, None, ◌++◌, ap, subst, ◌∙◌}
use Rattle.ebr_lexer.specs.declared.token.Token.{Token}
use Rattle.ebr_grammar.specs.Forms.{Found}
use Rattle.ebr_grammar.specs.Grammar.{SpellsAny}
use Rattle.ebr_grammar.proofs.Right.{IsReader}
use Rattle.ebr_grammar.proofs.Laws.{bind_some, some_is}
use Rattle.ebr_grammar.proofs.Depth.{reader}
use Rattle.ebr_grammar.proofs.Places.{found_at, agree_at, none_at}
use Rattle.ebr_exprtree.specs.declared.expression.Expr.{Expr}
use Rattle.ebr_exprparse.specs.declared.level.Level.TheVariants.{Whole}
use Rattle.ebr_exprparse.specs.Expressions.{Read, grammar, hints, begins, goes_on, read_within, read_expression, tree_of, SpellsExpr, IsAt, goes_on_at}
use Rattle.ebr_exprparse.proofs.Clear.{clear}

reads_whole : IsReader (hints.begins Whole) (hints.goes_on Whole) (SpellsAny grammar Whole) (λ ts. read_within (length ts) Whole ts)
reads_whole = reader hints grammar clear Whole

tree_is : (found : Found Read) (x : Expr) (is_sum : Bool) (rest : List Token) → found ≡ Some ((x, is_sum), rest) → tree_of found ≡ Some (x, rest)
tree_is found x is_sum rest e = ap tree_of e

rebuilt : (front : List Token) (y : Read) (x : Expr) → y.0 ≡ x → SpellsAny grammar Whole front y → SpellsExpr front x
rebuilt front y x e s = (y.1, subst (λ (z : Expr). SpellsAny grammar Whole front (z, y.1)) e s)

-- what is read is an expression, and what is an expression is read
pub reads_expressions : IsReader (begins Whole) (goes_on Whole) SpellsExpr read_expression
unfolding hints read_expression
reads_expressions = record {
  begun = λ front x s. reads_whole.begun front (x, s.0) s.1;
  sound = λ ts x e.
      let p = bind_some (read_within (length ts) Whole ts) (λ y end. Some (y.0, end)) x e in
      let is = some_is (p.0.0.0, p.0.1) x p.2 in
      let q = reads_whole.sound ts p.0 p.1 in
      (q.0, q.1 ∙ ap (λ (z : Expr × List Token). q.0 ++ z.1) is, rebuilt q.0 p.0.0 x.0 (ap (λ (z : Expr × List Token). z.0) is) q.2);
  complete = λ front rest x s stop. tree_is (read_within (length (front ++ rest)) Whole (front ++ rest)) x s.0 rest (reads_whole.complete front rest (x, s.0) s.1 stop);
}

-- ---- from a place on

pub expr_found : (ts : List Token) (at : ℕ) (x : Expr) (rest : List Token) → at ≤ length ts → read_expression (drop at ts) ≡ Some (x, rest) → (length rest ≤ length ts) × IsAt ts at (x, length ts - length rest)
expr_found ts at x rest le read =
    let p = found_at (begins Whole) (goes_on Whole) SpellsExpr read_expression reads_expressions ts at x rest le read in
    (p.0, (p.1, p.2, p.3))

pub expr_only : (ts : List Token) (at end : ℕ) (x y : Expr) (rest : List Token) → IsAt ts at (x, end) → goes_on_at ts end ≡ false → read_expression (drop at ts) ≡ Some (y, rest)
    → ◌≡◌ {A = Option (Expr × ℕ)} (Some (y, length ts - length rest)) (Some (x, end))
expr_only ts at end x y rest s stop read = agree_at (begins Whole) (goes_on Whole) SpellsExpr read_expression reads_expressions ts at end x y rest s.0 s.1 s.2 stop read

pub expr_none : (ts : List Token) (at end : ℕ) (x : Expr) → IsAt ts at (x, end) → goes_on_at ts end ≡ false → read_expression (drop at ts) ≡ None → ⊥
expr_none ts at end x s stop read = none_at (begins Whole) (goes_on Whole) SpellsExpr read_expression reads_expressions ts at end x s.0 s.1 s.2 stop read
