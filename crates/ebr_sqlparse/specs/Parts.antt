-- Statements and parts of queries, as forms of another grammar.
use Rattle.ebr_grammar.specs.Forms.{Outer}
use Rattle.ebr_grammar.specs.Reading.{first}
use Rattle.ebr_grammar.specs.Choice.{after}
use Rattle.ebr_ast.specs.declared.query.Query.{Query}
use Rattle.ebr_ast.specs.declared.query.SelectList.{SelectList}
use Rattle.ebr_ast.specs.declared.sql.Insert.{Insert}
use Rattle.ebr_ast.specs.declared.sql.Update.{Update}
use Rattle.ebr_ast.specs.declared.sql.Delete.{Delete}
use Rattle.ebr_ast.specs.declared.sql.Transaction.{Transaction}
use Rattle.ebr_sqlparse.specs.Productions.{P, hints, SpelledBy, reads_by}
use Rattle.ebr_sqlparse.specs.Statements.{select_list, query_rest, query, insert, update, delete, transaction}

abbrev pub part : {C : Type 0} → P C → Outer C
part g = record { begins = first hints g; goes_on = after hints g; form = SpelledBy g; reader = reads_by g }

abbrev pub select_list_part : Outer SelectList
select_list_part = part select_list

abbrev pub query_rest_part : Outer (SelectList → Query)
query_rest_part = part query_rest

abbrev pub query_part : Outer Query
query_part = part query

abbrev pub insert_part : Outer Insert
insert_part = part insert

abbrev pub update_part : Outer Update
update_part = part update

abbrev pub delete_part : Outer Delete
delete_part = part delete

abbrev pub transaction_part : Outer Transaction
transaction_part = part transaction
