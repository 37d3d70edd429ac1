-- The terms of a sum: their names, and the types of their operands.
use Rattle.std.specs.Prelude.{List}
use Rattle.ebr_exprtree.specs.declared.expression.Addend.{Addend}
use Rattle.ebr_exprtree.specs.declared.expression.Expr.TheFolds.{fold-Addend}
use Rattle.ebr_sqlcheck.specs.Checked.{Checked}
use Rattle.ebr_sqlcheck.specs.Sources.{Relation}
use Rattle.ebr_sqlcheck.specs.Names.{Others, names_form, names_term}
use Rattle.ebr_sqlcheck.specs.Operands.{Typed, Term, type_form, type_term}

unfoldable pub names_in_term : List Relation → Others → Addend → Checked
names_in_term relations others t = fold-Addend Checked Checked (names_form relations others) names_term t

-- A term of a sum, with the type of its operand.
unfoldable pub typed_term : List Relation → Others → Addend → Term
typed_term relations others t = fold-Addend Typed Term (type_form relations others) type_term t
