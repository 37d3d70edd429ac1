-- One token is enough to read a statement or its part, and expressions alone stand in it.
use Rattle.std.proofs.Common.{refl}
use Rattle.ebr_grammar.specs.Kinds.{same, name_kinds}
use Rattle.ebr_grammar.proofs.Outside.{IsReadable}
use Rattle.ebr_exprparse.specs.Expressions.{begins, goes_on}
use Rattle.ebr_exprparse.proofs.Whole.{reads_expressions}
use Rattle.ebr_sqlparse.specs.Productions.{hints}
use Rattle.ebr_sqlparse.specs.Statements.{alias, item_alias, item, more_items, items, select_list, source, more_sources, sources, filter, direction, key, more_keys, keys, order, for_update, query_tail, query_rest, query, more_names, names, columns, more_exprs, exprs, values, insert, target, assignment, more_assignments, assignments, update_rest, update, delete, apply, sql, back, transaction, session}

pub select_list_is : IsReadable hints select_list
unfolding same name_kinds begins goes_on alias item_alias item more_items items select_list
select_list_is = record { clear = refl; full = refl; right = tt }

pub query_rest_is : IsReadable hints query_rest
unfolding same name_kinds begins goes_on alias source more_sources sources filter direction key more_keys keys order for_update query_tail query_rest
query_rest_is = record { clear = refl; full = refl; right = (reads_expressions, (reads_expressions, (reads_expressions, tt))) }

pub query_is : IsReadable hints query
unfolding same name_kinds begins goes_on alias item_alias item more_items items select_list source more_sources sources filter direction key more_keys keys order for_update query_tail query_rest query
query_is = record { clear = refl; full = refl; right = (reads_expressions, (reads_expressions, (reads_expressions, tt))) }

pub insert_is : IsReadable hints insert
unfolding same name_kinds begins goes_on more_names names columns more_exprs exprs values insert
insert_is = record { clear = refl; full = refl; right = (reads_expressions, (reads_expressions, tt)) }

pub update_is : IsReadable hints update
unfolding same name_kinds begins goes_on alias target assignment more_assignments assignments filter update_rest update
update_is = record { clear = refl; full = refl; right = (reads_expressions, (reads_expressions, (reads_expressions, tt))) }

pub delete_is : IsReadable hints delete
unfolding same name_kinds begins goes_on alias target filter delete
delete_is = record { clear = refl; full = refl; right = (reads_expressions, tt) }

pub sql_is : IsReadable hints sql
unfolding same name_kinds begins goes_on item_alias item more_items items select_list alias source more_sources sources filter direction key more_keys keys order for_update query_tail query_rest query more_names names columns more_exprs exprs values insert target assignment more_assignments assignments update_rest update delete apply sql
sql_is = record { clear = refl; full = refl; right = (reads_expressions, (reads_expressions, (reads_expressions, (reads_expressions, (reads_expressions, (reads_expressions, (reads_expressions, (reads_expressions, (reads_expressions, tt))))))))) }

pub transaction_is : IsReadable hints transaction
unfolding same name_kinds begins goes_on back transaction
transaction_is = record { clear = refl; full = refl; right = tt }

pub session_is : IsReadable hints session
unfolding same name_kinds begins goes_on session
session_is = record { clear = refl; full = refl; right = tt }
