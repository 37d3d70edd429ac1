-- Words that stand in no expression.
use Rattle.std.proofs.Common.{◌≡◌, false, List, refl}
use Rattle.ebr_grammar.specs.declared.kind.Kind.TheVariants as k
use Rattle.ebr_lexer.specs.declared.token.Token.{Token}
use Rattle.ebr_grammar.specs.Kinds.{same, name_kinds, names_but}
use Rattle.ebr_grammar.proofs.Absent.{stands, mentions, absent_any}
use Rattle.ebr_exprtree.specs.declared.expression.Expr.{Expr}
use Rattle.ebr_exprparse.specs.declared.level.Level.{Level}
use Rattle.ebr_exprparse.specs.declared.level.Level.TheVariants.{Whole, Sum}
use Rattle.ebr_exprparse.specs.Expressions.{grammar, sum_alone, disjunction, more_conjunctions, conjoined_tree, conjunction, more_negations, negated_tree, negation, comparison, comparison_tail, signed, sign, test, membership, null_test, pattern, range, range_end, in_list, closed_list, sum, more_terms, addend, operator, term, more_factors, factor, primary, reference, constant, row_column, row_image, closed, name_tail, trunc_tail, trunc_arguments, trunc_end, trunc_call, divisor, inner, inner_sum, sql_attribute, statement_attribute, attribute, member as member_tail, maybe_arguments, arguments, list, more_items, SpellsExpr}

no_loop : (l : Level) → mentions k.Loop (grammar l) ≡ false
unfolding same name_kinds names_but grammar sum_alone disjunction more_conjunctions conjoined_tree conjunction more_negations negated_tree negation comparison comparison_tail signed sign test membership null_test pattern range range_end in_list closed_list sum more_terms addend operator term more_factors factor primary reference constant row_column row_image closed name_tail trunc_tail trunc_arguments trunc_end trunc_call divisor inner inner_sum sql_attribute statement_attribute attribute member_tail maybe_arguments arguments list more_items
no_loop Whole = refl
no_loop Sum = refl

no_select : (l : Level) → mentions k.Select (grammar l) ≡ false
unfolding same name_kinds names_but grammar sum_alone disjunction more_conjunctions conjoined_tree conjunction more_negations negated_tree negation comparison comparison_tail signed sign test membership null_test pattern range range_end in_list closed_list sum more_terms addend operator term more_factors factor primary reference constant row_column row_image closed name_tail trunc_tail trunc_arguments trunc_end trunc_call divisor inner inner_sum sql_attribute statement_attribute attribute member_tail maybe_arguments arguments list more_items
no_select Whole = refl
no_select Sum = refl

-- no expression has LOOP in it
pub loop_is_absent : (ts : List Token) (x : Expr) → SpellsExpr ts x → stands k.Loop ts ≡ false
loop_is_absent ts x s = absent_any k.Loop grammar no_loop Whole ts (x, s.0) s.1

-- nor SELECT
pub select_is_absent : (ts : List Token) (x : Expr) → SpellsExpr ts x → stands k.Select ts ≡ false
select_is_absent ts x s = absent_any k.Select grammar no_select Whole ts (x, s.0) s.1
