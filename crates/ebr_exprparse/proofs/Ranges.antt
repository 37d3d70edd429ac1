-- A range whose end is missing.
use Rattle.std.proofs.Common.{◌≡◌, Bool, List, Some, None, refl}
use Rattle.ebr_lexer.specs.declared.token.Token.{Token}
use Rattle.ebr_grammar.specs.Forms.{Reader}
use Rattle.ebr_grammar.specs.Reading.{and_then}
use Rattle.ebr_exprtree.specs.declared.expression.Expr.{Expr}
use Rattle.ebr_exprtree.specs.declared.expression.Expr.TheVariants as e

pub range_fails : (r s : Reader Expr) (negated : Bool) (left : Expr) (ts : List Token) (low : Expr) (mid : List Token) → r ts ≡ Some (low, mid) → s mid ≡ None
    → and_then (and_then (r ts) (λ (a : Expr) rest. and_then (s rest) (λ (b : Expr) end. Some ((λ (x : Expr). e.Between x a b negated), end)))) (λ (f : Expr → Expr) end. Some (f left, end)) ≡ None
range_fails r s negated left ts low mid one none = rw (one, none) refl
