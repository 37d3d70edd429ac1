-- Which trees may cross threads.
use denote.Param.Send.{IsSend, IsSync, sendable}
use Rattle.std.proofs.Crossing.{crosses}
use Rattle.ebr_base.proofs.bytes.Bytes.TheSendSync as bytes_fact
use Rattle.ebr_base.proofs.name.Name.TheSendSync as name_fact
use Rattle.ebr_base.proofs.numbers.EditionNo.TheSendSync as edition_no_fact
use Rattle.ebr_base.proofs.numbers.Stamp.TheSendSync as stamp_fact
use Rattle.ebr_base.proofs.numbers.TableId.TheSendSync as table_id_fact
use Rattle.ebr_base.proofs.object.Class.TheSendSync as class_fact
use Rattle.ebr_base.proofs.object.ObjectKey.TheSendSync as object_key_fact
use Rattle.ebr_base.proofs.table.Column.TheSendSync as column_fact
use Rattle.ebr_base.proofs.table.TableDef.TheSendSync as table_def_fact
use Rattle.ebr_base.proofs.value.ColType.TheSendSync as col_type_fact
use Rattle.ebr_exprtree.proofs.expression.AdditiveOperator.TheSendSync as additive_operator_fact
use Rattle.ebr_exprtree.proofs.expression.Attribute.TheSendSync as attribute_fact
use Rattle.ebr_exprtree.proofs.expression.Comparison.TheSendSync as comparison_fact
use Rattle.ebr_exprtree.proofs.expression.Path.TheSendSync as path_fact
use Rattle.ebr_exprtree.proofs.expression.RowImage.TheSendSync as row_image_fact
use Rattle.ebr_exprtree.proofs.op.Op.TheSendSync as op_fact
use Rattle.ebr_ast.proofs.kinds.Timing.TheSendSync as timing_fact
use Rattle.ebr_ast.proofs.package.ItemNotes.TheSendSync as item_notes_fact
use Rattle.ebr_ast.proofs.query.Source.TheSendSync as source_fact
use Rattle.ebr_ast.proofs.sql.Transaction.TheSendSync as transaction_fact
use Rattle.ebr_ast.proofs.statement.Caught.TheSendSync as caught_fact
use Rattle.ebr_ast.proofs.statement.CursorStmt.TheSendSync as cursor_stmt_fact
use Rattle.ebr_ast.proofs.statement.DeclaredType.TheSendSync as declared_type_fact
use Rattle.ebr_ast.proofs.statement.Target.TheSendSync as target_fact
use Rattle.ebr_ast.proofs.unit.Direction.TheSendSync as direction_fact
use Rattle.ebr_ast.proofs.unit.EditioningView.TheSendSync as editioning_view_fact
use Rattle.ebr_ast.proofs.unit.Head.TheSendSync as head_fact
use Rattle.ebr_ast.proofs.unit.Mode.TheSendSync as mode_fact
use Rattle.ebr_ast.proofs.unit.Parameter.TheSendSync as parameter_fact
use Rattle.ebr_ast.proofs.unit.ParameterType.TheSendSync as parameter_type_fact
use Rattle.ebr_ast.proofs.unit.ViewItem.TheSendSync as view_item_fact
use Rattle.ebr_exprtree.proofs.expression.Expr.TheLaws.TheKnot as expr_knot
use Rattle.ebr_ast.proofs.statement.Stmt.TheLaws.TheKnot as stmt_knot
use Rattle.ebr_exprtree.specs.contracts.expression.Expr as expr
use Rattle.ebr_ast.specs.contracts.query.Query as query
use Rattle.ebr_ast.specs.contracts.sql.Insert as insert
use Rattle.ebr_ast.specs.contracts.sql.Update as update
use Rattle.ebr_ast.specs.contracts.sql.Delete as delete
use Rattle.ebr_ast.specs.contracts.sql.SqlTree as sql
use Rattle.ebr_ast.specs.contracts.statement.Decl as decl
use Rattle.ebr_ast.specs.contracts.statement.SqlStmt as sql_stmt
use Rattle.ebr_ast.specs.contracts.statement.Range as range
use Rattle.ebr_ast.specs.contracts.statement.Rows as rows
use Rattle.ebr_ast.specs.contracts.statement.Stmt as stmt
use Rattle.ebr_ast.specs.contracts.statement.Handler as handler
use Rattle.ebr_ast.specs.contracts.statement.Block as block
use Rattle.ebr_ast.specs.contracts.unit.Subprogram as subprogram
use Rattle.ebr_ast.specs.contracts.package.Subprograms as subprograms
use Rattle.ebr_ast.specs.contracts.unit.PackageBody as package_body
use Rattle.ebr_ast.specs.contracts.unit.PackageItem as package_item
use Rattle.ebr_ast.specs.contracts.package.PackageItems as package_items
use Rattle.ebr_ast.specs.contracts.unit.Trigger as trigger
use Rattle.ebr_ast.specs.contracts.unit.UnitTree as unit
use Rattle.ebr_ast.specs.contracts.definition.Definition as definition
use Rattle.ebr_ast.specs.contracts.view.Object as object
use Rattle.ebr_ast.specs.contracts.view.EditionView as view

pub ruleset plain = (bytes_fact.the_send, bytes_fact.the_sync, name_fact.the_send, name_fact.the_sync, edition_no_fact.the_send, edition_no_fact.the_sync, stamp_fact.the_send, stamp_fact.the_sync, table_id_fact.the_send, table_id_fact.the_sync, class_fact.the_send, class_fact.the_sync, object_key_fact.the_send, object_key_fact.the_sync, column_fact.the_send, column_fact.the_sync, table_def_fact.the_send, table_def_fact.the_sync, col_type_fact.the_send, col_type_fact.the_sync, additive_operator_fact.the_send, additive_operator_fact.the_sync, attribute_fact.the_send, attribute_fact.the_sync, comparison_fact.the_send, comparison_fact.the_sync, path_fact.the_send, path_fact.the_sync, row_image_fact.the_send, row_image_fact.the_sync, op_fact.the_send, op_fact.the_sync, timing_fact.the_send, timing_fact.the_sync, item_notes_fact.the_send, item_notes_fact.the_sync, source_fact.the_send, source_fact.the_sync, transaction_fact.the_send, transaction_fact.the_sync, caught_fact.the_send, caught_fact.the_sync, cursor_stmt_fact.the_send, cursor_stmt_fact.the_sync, declared_type_fact.the_send, declared_type_fact.the_sync, target_fact.the_send, target_fact.the_sync, direction_fact.the_send, direction_fact.the_sync, editioning_view_fact.the_send, editioning_view_fact.the_sync, head_fact.the_send, head_fact.the_sync, mode_fact.the_send, mode_fact.the_sync, parameter_fact.the_send, parameter_fact.the_sync, parameter_type_fact.the_send, parameter_type_fact.the_sync, view_item_fact.the_send, view_item_fact.the_sync)

pub expr_field_send : IsSend expr.the_field.row
expr_field_send = search (expr_knot.crosses_both, plain, crosses, sendable) depth 60 fits 20000

pub expr_send : IsSend expr.the_row
expr_send = search (expr_field_send, sendable)

pub expr_field_sync : IsSync expr.the_field.row
expr_field_sync = search (expr_knot.crosses_both, plain, crosses, sendable) depth 60 fits 20000

pub expr_sync : IsSync expr.the_row
expr_sync = search (expr_field_sync, sendable)

pub query_field_send : IsSend query.the_field.row
query_field_send = search (expr_field_send, expr_field_sync, expr_send, expr_sync, plain, crosses, sendable) depth 60 fits 20000

pub query_send : IsSend query.the_row
query_send = search (query_field_send, sendable)

pub query_field_sync : IsSync query.the_field.row
query_field_sync = search (expr_field_send, expr_field_sync, expr_send, expr_sync, plain, crosses, sendable) depth 60 fits 20000

pub query_sync : IsSync query.the_row
query_sync = search (query_field_sync, sendable)

pub insert_field_send : IsSend insert.the_field.row
insert_field_send = search (expr_field_send, expr_field_sync, expr_send, expr_sync, plain, crosses, sendable) depth 60 fits 20000

pub insert_send : IsSend insert.the_row
insert_send = search (insert_field_send, sendable)

pub insert_field_sync : IsSync insert.the_field.row
insert_field_sync = search (expr_field_send, expr_field_sync, expr_send, expr_sync, plain, crosses, sendable) depth 60 fits 20000

pub insert_sync : IsSync insert.the_row
insert_sync = search (insert_field_sync, sendable)

pub update_field_send : IsSend update.the_field.row
update_field_send = search (expr_field_send, expr_field_sync, expr_send, expr_sync, plain, crosses, sendable) depth 60 fits 20000

pub update_send : IsSend update.the_row
update_send = search (update_field_send, sendable)

pub update_field_sync : IsSync update.the_field.row
update_field_sync = search (expr_field_send, expr_field_sync, expr_send, expr_sync, plain, crosses, sendable) depth 60 fits 20000

pub update_sync : IsSync update.the_row
update_sync = search (update_field_sync, sendable)

pub delete_field_send : IsSend delete.the_field.row
delete_field_send = search (expr_field_send, expr_field_sync, expr_send, expr_sync, plain, crosses, sendable) depth 60 fits 20000

pub delete_send : IsSend delete.the_row
delete_send = search (delete_field_send, sendable)

pub delete_field_sync : IsSync delete.the_field.row
delete_field_sync = search (expr_field_send, expr_field_sync, expr_send, expr_sync, plain, crosses, sendable) depth 60 fits 20000

pub delete_sync : IsSync delete.the_row
delete_sync = search (delete_field_sync, sendable)

pub sql_field_send : IsSend sql.the_field.row
sql_field_send = search (query_field_send, query_field_sync, query_send, query_sync, insert_field_send, insert_field_sync, insert_send, insert_sync, update_field_send, update_field_sync, update_send, update_sync, delete_field_send, delete_field_sync, delete_send, delete_sync, plain, crosses, sendable) depth 60 fits 20000

pub sql_send : IsSend sql.the_row
sql_send = search (sql_field_send, sendable)

pub sql_field_sync : IsSync sql.the_field.row
sql_field_sync = search (query_field_send, query_field_sync, query_send, query_sync, insert_field_send, insert_field_sync, insert_send, insert_sync, update_field_send, update_field_sync, update_send, update_sync, delete_field_send, delete_field_sync, delete_send, delete_sync, plain, crosses, sendable) depth 60 fits 20000

pub sql_sync : IsSync sql.the_row
sql_sync = search (sql_field_sync, sendable)

pub decl_field_send : IsSend decl.the_field.row
decl_field_send = search (expr_field_send, expr_field_sync, expr_send, expr_sync, query_field_send, query_field_sync, query_send, query_sync, plain, crosses, sendable) depth 60 fits 20000

pub decl_send : IsSend decl.the_row
decl_send = search (decl_field_send, sendable)

pub decl_field_sync : IsSync decl.the_field.row
decl_field_sync = search (expr_field_send, expr_field_sync, expr_send, expr_sync, query_field_send, query_field_sync, query_send, query_sync, plain, crosses, sendable) depth 60 fits 20000

pub decl_sync : IsSync decl.the_row
decl_sync = search (decl_field_sync, sendable)

pub sql_stmt_field_send : IsSend sql_stmt.the_field.row
sql_stmt_field_send = search (query_field_send, query_field_sync, query_send, query_sync, insert_field_send, insert_field_sync, insert_send, insert_sync, update_field_send, update_field_sync, update_send, update_sync, delete_field_send, delete_field_sync, delete_send, delete_sync, plain, crosses, sendable) depth 60 fits 20000

pub sql_stmt_send : IsSend sql_stmt.the_row
sql_stmt_send = search (sql_stmt_field_send, sendable)

pub sql_stmt_field_sync : IsSync sql_stmt.the_field.row
sql_stmt_field_sync = search (query_field_send, query_field_sync, query_send, query_sync, insert_field_send, insert_field_sync, insert_send, insert_sync, update_field_send, update_field_sync, update_send, update_sync, delete_field_send, delete_field_sync, delete_send, delete_sync, plain, crosses, sendable) depth 60 fits 20000

pub sql_stmt_sync : IsSync sql_stmt.the_row
sql_stmt_sync = search (sql_stmt_field_sync, sendable)

pub range_field_send : IsSend range.the_field.row
range_field_send = search (expr_field_send, expr_field_sync, expr_send, expr_sync, plain, crosses, sendable) depth 60 fits 20000

pub range_send : IsSend range.the_row
range_send = search (range_field_send, sendable)

pub range_field_sync : IsSync range.the_field.row
range_field_sync = search (expr_field_send, expr_field_sync, expr_send, expr_sync, plain, crosses, sendable) depth 60 fits 20000

pub range_sync : IsSync range.the_row
range_sync = search (range_field_sync, sendable)

pub rows_field_send : IsSend rows.the_field.row
rows_field_send = search (query_field_send, query_field_sync, query_send, query_sync, plain, crosses, sendable) depth 60 fits 20000

pub rows_send : IsSend rows.the_row
rows_send = search (rows_field_send, sendable)

pub rows_field_sync : IsSync rows.the_field.row
rows_field_sync = search (query_field_send, query_field_sync, query_send, query_sync, plain, crosses, sendable) depth 60 fits 20000

pub rows_sync : IsSync rows.the_row
rows_sync = search (rows_field_sync, sendable)

ruleset stmt_parts = (expr_field_send, expr_field_sync, expr_send, expr_sync, decl_field_send, decl_field_sync, decl_send, decl_sync, range_field_send, range_field_sync, range_send, range_sync, rows_field_send, rows_field_sync, rows_send, rows_sync, sql_stmt_field_send, sql_stmt_field_sync, sql_stmt_send, sql_stmt_sync, plain, crosses, sendable)

pub stmt_field_send : IsSend stmt.the_field.row
stmt_field_send = stmt_knot.both_send-Stmt (search stmt_parts depth 60 fits 20000) (search stmt_parts depth 60 fits 20000) (search stmt_parts depth 60 fits 20000) (search stmt_parts depth 60 fits 20000) (search stmt_parts depth 60 fits 20000) (search stmt_parts depth 60 fits 20000) (search stmt_parts depth 60 fits 20000) (search stmt_parts depth 60 fits 20000) (search stmt_parts depth 60 fits 20000) (search stmt_parts depth 60 fits 20000) (search stmt_parts depth 60 fits 20000) (search stmt_parts depth 60 fits 20000) (search stmt_parts depth 60 fits 20000) (search stmt_parts depth 60 fits 20000) (search stmt_parts depth 60 fits 20000) (search stmt_parts depth 60 fits 20000) (search stmt_parts depth 60 fits 20000) (search stmt_parts depth 60 fits 20000) (search stmt_parts depth 60 fits 20000) (search stmt_parts depth 60 fits 20000) (search stmt_parts depth 60 fits 20000) (search stmt_parts depth 60 fits 20000) (search stmt_parts depth 60 fits 20000) (search stmt_parts depth 60 fits 20000) (search stmt_parts depth 60 fits 20000) (search stmt_parts depth 60 fits 20000) (search stmt_parts depth 60 fits 20000) (search stmt_parts depth 60 fits 20000) (search stmt_parts depth 60 fits 20000) (search stmt_parts depth 60 fits 20000) (search stmt_parts depth 60 fits 20000) (search stmt_parts depth 60 fits 20000)

pub stmt_send : IsSend stmt.the_row
stmt_send = search (stmt_field_send, sendable)

pub stmt_field_sync : IsSync stmt.the_field.row
stmt_field_sync = stmt_knot.both_sync-Stmt (search stmt_parts depth 60 fits 20000) (search stmt_parts depth 60 fits 20000) (search stmt_parts depth 60 fits 20000) (search stmt_parts depth 60 fits 20000) (search stmt_parts depth 60 fits 20000) (search stmt_parts depth 60 fits 20000) (search stmt_parts depth 60 fits 20000) (search stmt_parts depth 60 fits 20000) (search stmt_parts depth 60 fits 20000) (search stmt_parts depth 60 fits 20000) (search stmt_parts depth 60 fits 20000) (search stmt_parts depth 60 fits 20000) (search stmt_parts depth 60 fits 20000) (search stmt_parts depth 60 fits 20000) (search stmt_parts depth 60 fits 20000) (search stmt_parts depth 60 fits 20000) (search stmt_parts depth 60 fits 20000) (search stmt_parts depth 60 fits 20000) (search stmt_parts depth 60 fits 20000) (search stmt_parts depth 60 fits 20000) (search stmt_parts depth 60 fits 20000) (search stmt_parts depth 60 fits 20000) (search stmt_parts depth 60 fits 20000) (search stmt_parts depth 60 fits 20000) (search stmt_parts depth 60 fits 20000) (search stmt_parts depth 60 fits 20000) (search stmt_parts depth 60 fits 20000) (search stmt_parts depth 60 fits 20000) (search stmt_parts depth 60 fits 20000) (search stmt_parts depth 60 fits 20000) (search stmt_parts depth 60 fits 20000) (search stmt_parts depth 60 fits 20000)

pub stmt_sync : IsSync stmt.the_row
stmt_sync = search (stmt_field_sync, sendable)

pub handler_field_send : IsSend handler.the_field.row
handler_field_send = stmt_knot.both_send-Handler (search stmt_parts depth 60 fits 20000) (search stmt_parts depth 60 fits 20000) (search stmt_parts depth 60 fits 20000) (search stmt_parts depth 60 fits 20000) (search stmt_parts depth 60 fits 20000) (search stmt_parts depth 60 fits 20000) (search stmt_parts depth 60 fits 20000) (search stmt_parts depth 60 fits 20000) (search stmt_parts depth 60 fits 20000) (search stmt_parts depth 60 fits 20000) (search stmt_parts depth 60 fits 20000) (search stmt_parts depth 60 fits 20000) (search stmt_parts depth 60 fits 20000) (search stmt_parts depth 60 fits 20000) (search stmt_parts depth 60 fits 20000) (search stmt_parts depth 60 fits 20000) (search stmt_parts depth 60 fits 20000) (search stmt_parts depth 60 fits 20000) (search stmt_parts depth 60 fits 20000) (search stmt_parts depth 60 fits 20000) (search stmt_parts depth 60 fits 20000) (search stmt_parts depth 60 fits 20000) (search stmt_parts depth 60 fits 20000) (search stmt_parts depth 60 fits 20000) (search stmt_parts depth 60 fits 20000) (search stmt_parts depth 60 fits 20000) (search stmt_parts depth 60 fits 20000) (search stmt_parts depth 60 fits 20000) (search stmt_parts depth 60 fits 20000) (search stmt_parts depth 60 fits 20000) (search stmt_parts depth 60 fits 20000) (search stmt_parts depth 60 fits 20000)

pub handler_send : IsSend handler.the_row
handler_send = search (handler_field_send, sendable)

pub handler_field_sync : IsSync handler.the_field.row
handler_field_sync = stmt_knot.both_sync-Handler (search stmt_parts depth 60 fits 20000) (search stmt_parts depth 60 fits 20000) (search stmt_parts depth 60 fits 20000) (search stmt_parts depth 60 fits 20000) (search stmt_parts depth 60 fits 20000) (search stmt_parts depth 60 fits 20000) (search stmt_parts depth 60 fits 20000) (search stmt_parts depth 60 fits 20000) (search stmt_parts depth 60 fits 20000) (search stmt_parts depth 60 fits 20000) (search stmt_parts depth 60 fits 20000) (search stmt_parts depth 60 fits 20000) (search stmt_parts depth 60 fits 20000) (search stmt_parts depth 60 fits 20000) (search stmt_parts depth 60 fits 20000) (search stmt_parts depth 60 fits 20000) (search stmt_parts depth 60 fits 20000) (search stmt_parts depth 60 fits 20000) (search stmt_parts depth 60 fits 20000) (search stmt_parts depth 60 fits 20000) (search stmt_parts depth 60 fits 20000) (search stmt_parts depth 60 fits 20000) (search stmt_parts depth 60 fits 20000) (search stmt_parts depth 60 fits 20000) (search stmt_parts depth 60 fits 20000) (search stmt_parts depth 60 fits 20000) (search stmt_parts depth 60 fits 20000) (search stmt_parts depth 60 fits 20000) (search stmt_parts depth 60 fits 20000) (search stmt_parts depth 60 fits 20000) (search stmt_parts depth 60 fits 20000) (search stmt_parts depth 60 fits 20000)

pub handler_sync : IsSync handler.the_row
handler_sync = search (handler_field_sync, sendable)

pub block_field_send : IsSend block.the_field.row
block_field_send = stmt_knot.both_send-Block (search stmt_parts depth 60 fits 20000) (search stmt_parts depth 60 fits 20000) (search stmt_parts depth 60 fits 20000) (search stmt_parts depth 60 fits 20000) (search stmt_parts depth 60 fits 20000) (search stmt_parts depth 60 fits 20000) (search stmt_parts depth 60 fits 20000) (search stmt_parts depth 60 fits 20000) (search stmt_parts depth 60 fits 20000) (search stmt_parts depth 60 fits 20000) (search stmt_parts depth 60 fits 20000) (search stmt_parts depth 60 fits 20000) (search stmt_parts depth 60 fits 20000) (search stmt_parts depth 60 fits 20000) (search stmt_parts depth 60 fits 20000) (search stmt_parts depth 60 fits 20000) (search stmt_parts depth 60 fits 20000) (search stmt_parts depth 60 fits 20000) (search stmt_parts depth 60 fits 20000) (search stmt_parts depth 60 fits 20000) (search stmt_parts depth 60 fits 20000) (search stmt_parts depth 60 fits 20000) (search stmt_parts depth 60 fits 20000) (search stmt_parts depth 60 fits 20000) (search stmt_parts depth 60 fits 20000) (search stmt_parts depth 60 fits 20000) (search stmt_parts depth 60 fits 20000) (search stmt_parts depth 60 fits 20000) (search stmt_parts depth 60 fits 20000) (search stmt_parts depth 60 fits 20000) (search stmt_parts depth 60 fits 20000) (search stmt_parts depth 60 fits 20000)

pub block_send : IsSend block.the_row
block_send = search (block_field_send, sendable)

pub block_field_sync : IsSync block.the_field.row
block_field_sync = stmt_knot.both_sync-Block (search stmt_parts depth 60 fits 20000) (search stmt_parts depth 60 fits 20000) (search stmt_parts depth 60 fits 20000) (search stmt_parts depth 60 fits 20000) (search stmt_parts depth 60 fits 20000) (search stmt_parts depth 60 fits 20000) (search stmt_parts depth 60 fits 20000) (search stmt_parts depth 60 fits 20000) (search stmt_parts depth 60 fits 20000) (search stmt_parts depth 60 fits 20000) (search stmt_parts depth 60 fits 20000) (search stmt_parts depth 60 fits 20000) (search stmt_parts depth 60 fits 20000) (search stmt_parts depth 60 fits 20000) (search stmt_parts depth 60 fits 20000) (search stmt_parts depth 60 fits 20000) (search stmt_parts depth 60 fits 20000) (search stmt_parts depth 60 fits 20000) (search stmt_parts depth 60 fits 20000) (search stmt_parts depth 60 fits 20000) (search stmt_parts depth 60 fits 20000) (search stmt_parts depth 60 fits 20000) (search stmt_parts depth 60 fits 20000) (search stmt_parts depth 60 fits 20000) (search stmt_parts depth 60 fits 20000) (search stmt_parts depth 60 fits 20000) (search stmt_parts depth 60 fits 20000) (search stmt_parts depth 60 fits 20000) (search stmt_parts depth 60 fits 20000) (search stmt_parts depth 60 fits 20000) (search stmt_parts depth 60 fits 20000) (search stmt_parts depth 60 fits 20000)

pub block_sync : IsSync block.the_row
block_sync = search (block_field_sync, sendable)

pub subprogram_field_send : IsSend subprogram.the_field.row
subprogram_field_send = search (block_field_send, block_field_sync, block_send, block_sync, plain, crosses, sendable) depth 60 fits 20000

pub subprogram_send : IsSend subprogram.the_row
subprogram_send = search (subprogram_field_send, sendable)

pub subprogram_field_sync : IsSync subprogram.the_field.row
subprogram_field_sync = search (block_field_send, block_field_sync, block_send, block_sync, plain, crosses, sendable) depth 60 fits 20000

pub subprogram_sync : IsSync subprogram.the_row
subprogram_sync = search (subprogram_field_sync, sendable)

pub subprograms_field_send : IsSend subprograms.the_field.row
subprograms_field_send = search (subprogram_field_send, subprogram_field_sync, subprogram_send, subprogram_sync, plain, crosses, sendable) depth 60 fits 20000

pub subprograms_send : IsSend subprograms.the_row
subprograms_send = search (subprograms_field_send, sendable)

pub subprograms_field_sync : IsSync subprograms.the_field.row
subprograms_field_sync = search (subprogram_field_send, subprogram_field_sync, subprogram_send, subprogram_sync, plain, crosses, sendable) depth 60 fits 20000

pub subprograms_sync : IsSync subprograms.the_row
subprograms_sync = search (subprograms_field_sync, sendable)

pub package_body_field_send : IsSend package_body.the_field.row
package_body_field_send = search (decl_field_send, decl_field_sync, decl_send, decl_sync, subprograms_field_send, subprograms_field_sync, subprograms_send, subprograms_sync, stmt_field_send, stmt_field_sync, stmt_send, stmt_sync, handler_field_send, handler_field_sync, handler_send, handler_sync, plain, crosses, sendable) depth 60 fits 20000

pub package_body_send : IsSend package_body.the_row
package_body_send = search (package_body_field_send, sendable)

pub package_body_field_sync : IsSync package_body.the_field.row
package_body_field_sync = search (decl_field_send, decl_field_sync, decl_send, decl_sync, subprograms_field_send, subprograms_field_sync, subprograms_send, subprograms_sync, stmt_field_send, stmt_field_sync, stmt_send, stmt_sync, handler_field_send, handler_field_sync, handler_send, handler_sync, plain, crosses, sendable) depth 60 fits 20000

pub package_body_sync : IsSync package_body.the_row
package_body_sync = search (package_body_field_sync, sendable)

pub package_item_field_send : IsSend package_item.the_field.row
package_item_field_send = search (decl_field_send, decl_field_sync, decl_send, decl_sync, plain, crosses, sendable) depth 60 fits 20000

pub package_item_send : IsSend package_item.the_row
package_item_send = search (package_item_field_send, sendable)

pub package_item_field_sync : IsSync package_item.the_field.row
package_item_field_sync = search (decl_field_send, decl_field_sync, decl_send, decl_sync, plain, crosses, sendable) depth 60 fits 20000

pub package_item_sync : IsSync package_item.the_row
package_item_sync = search (package_item_field_sync, sendable)

pub package_items_field_send : IsSend package_items.the_field.row
package_items_field_send = search (package_item_field_send, package_item_field_sync, package_item_send, package_item_sync, plain, crosses, sendable) depth 60 fits 20000

pub package_items_send : IsSend package_items.the_row
package_items_send = search (package_items_field_send, sendable)

pub package_items_field_sync : IsSync package_items.the_field.row
package_items_field_sync = search (package_item_field_send, package_item_field_sync, package_item_send, package_item_sync, plain, crosses, sendable) depth 60 fits 20000

pub package_items_sync : IsSync package_items.the_row
package_items_sync = search (package_items_field_sync, sendable)

pub trigger_field_send : IsSend trigger.the_field.row
trigger_field_send = search (block_field_send, block_field_sync, block_send, block_sync, plain, crosses, sendable) depth 60 fits 20000

pub trigger_send : IsSend trigger.the_row
trigger_send = search (trigger_field_send, sendable)

pub trigger_field_sync : IsSync trigger.the_field.row
trigger_field_sync = search (block_field_send, block_field_sync, block_send, block_sync, plain, crosses, sendable) depth 60 fits 20000

pub trigger_sync : IsSync trigger.the_row
trigger_sync = search (trigger_field_sync, sendable)

pub unit_field_send : IsSend unit.the_field.row
unit_field_send = search (subprogram_field_send, subprogram_field_sync, subprogram_send, subprogram_sync, package_items_field_send, package_items_field_sync, package_items_send, package_items_sync, package_body_field_send, package_body_field_sync, package_body_send, package_body_sync, trigger_field_send, trigger_field_sync, trigger_send, trigger_sync, block_field_send, block_field_sync, block_send, block_sync, plain, crosses, sendable) depth 60 fits 20000

pub unit_send : IsSend unit.the_row
unit_send = search (unit_field_send, sendable)

pub unit_field_sync : IsSync unit.the_field.row
unit_field_sync = search (subprogram_field_send, subprogram_field_sync, subprogram_send, subprogram_sync, package_items_field_send, package_items_field_sync, package_items_send, package_items_sync, package_body_field_send, package_body_field_sync, package_body_send, package_body_sync, trigger_field_send, trigger_field_sync, trigger_send, trigger_sync, block_field_send, block_field_sync, block_send, block_sync, plain, crosses, sendable) depth 60 fits 20000

pub unit_sync : IsSync unit.the_row
unit_sync = search (unit_field_sync, sendable)

pub definition_field_send : IsSend definition.the_field.row
definition_field_send = search (unit_field_send, unit_field_sync, unit_send, unit_sync, plain, crosses, sendable) depth 60 fits 20000

pub definition_send : IsSend definition.the_row
definition_send = search (definition_field_send, sendable)

pub definition_field_sync : IsSync definition.the_field.row
definition_field_sync = search (unit_field_send, unit_field_sync, unit_send, unit_sync, plain, crosses, sendable) depth 60 fits 20000

pub definition_sync : IsSync definition.the_row
definition_sync = search (definition_field_sync, sendable)

pub object_field_send : IsSend object.the_field.row
object_field_send = search (unit_field_send, unit_field_sync, unit_send, unit_sync, plain, crosses, sendable) depth 60 fits 20000

pub object_send : IsSend object.the_row
object_send = search (object_field_send, sendable)

pub object_field_sync : IsSync object.the_field.row
object_field_sync = search (unit_field_send, unit_field_sync, unit_send, unit_sync, plain, crosses, sendable) depth 60 fits 20000

pub object_sync : IsSync object.the_row
object_sync = search (object_field_sync, sendable)

pub view_field_send : IsSend view.the_field.row
view_field_send = search (object_field_send, object_field_sync, object_send, object_sync, plain, crosses, sendable) depth 60 fits 20000

pub view_send : IsSend view.the_row
view_send = search (view_field_send, sendable)

pub view_field_sync : IsSync view.the_field.row
view_field_sync = search (object_field_send, object_field_sync, object_send, object_sync, plain, crosses, sendable) depth 60 fits 20000

pub view_sync : IsSync view.the_row
view_sync = search (view_field_sync, sendable)
