-- One token is enough to read an expression.
use Rattle.std.proofs.Common.{◌≡◌, true, refl}
use Rattle.ebr_grammar.specs.Kinds.{same, name_kinds, names_but}
use Rattle.ebr_grammar.specs.Choice.{is_sound}
use Rattle.ebr_grammar.proofs.Right.{foreign, AreRight}
use Rattle.ebr_grammar.proofs.Depth.{IsClear}
use Rattle.ebr_exprparse.specs.declared.level.Level.{Level}
use Rattle.ebr_exprparse.specs.declared.level.Level.TheVariants.{Whole, Sum}
use Rattle.ebr_exprparse.specs.Expressions.{hints, begins, goes_on, grammar, sum_alone, disjunction, more_conjunctions, conjoined_tree, conjunction, more_negations, negated_tree, negation, comparison, comparison_tail, signed, sign, test, membership, null_test, pattern, range, range_end, in_list, closed_list, sum, more_terms, addend, operator, term, more_factors, factor, primary, reference, constant, row_column, row_image, closed, name_tail, trunc_tail, trunc_arguments, trunc_end, trunc_call, divisor, inner, inner_sum, sql_attribute, statement_attribute, attribute, member, maybe_arguments, arguments, list, more_items}

is_clear : (l : Level) → is_sound hints l (grammar l) ≡ true
unfolding same name_kinds names_but hints begins goes_on grammar sum_alone disjunction more_conjunctions conjoined_tree conjunction more_negations negated_tree negation comparison comparison_tail signed sign test membership null_test pattern range range_end in_list closed_list sum more_terms addend operator term more_factors factor primary reference constant row_column row_image closed name_tail trunc_tail trunc_arguments trunc_end trunc_call divisor inner inner_sum sql_attribute statement_attribute attribute member maybe_arguments arguments list more_items
is_clear Whole = refl
is_clear Sum = refl

are_right : (l : Level) → AreRight (foreign (grammar l))
unfolding grammar sum_alone disjunction more_conjunctions conjoined_tree conjunction more_negations negated_tree negation comparison comparison_tail signed sign test membership null_test pattern range range_end in_list closed_list sum more_terms addend operator term more_factors factor primary reference constant row_column row_image closed name_tail trunc_tail trunc_arguments trunc_end trunc_call divisor inner inner_sum sql_attribute statement_attribute attribute member maybe_arguments arguments list more_items
are_right Whole = tt
are_right Sum = tt

pub clear : IsClear hints grammar
clear = record { each = is_clear; right = are_right }
