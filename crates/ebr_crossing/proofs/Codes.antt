-- Which compiled code may cross threads.
use denote.Enum.Declared.{shape}
use denote.Param.Send.{IsSend, IsSync, enum_send, enum_sync, sendable}
use Rattle.std.proofs.Crossing.{crosses}
use Rattle.ebr_crossing.proofs.Trees.{sql_field_send, sql_field_sync, sql_send, sql_sync}
use Rattle.ebr_base.proofs.value.Value.TheSendSync as value_fact
use Rattle.ebr_base.proofs.value.Text.TheSendSync as text_fact
use Rattle.ebr_base.proofs.code.Code.TheSendSync as code_fact
use Rattle.ebr_base.proofs.name.Name.TheSendSync as name_fact
use Rattle.ebr_base.proofs.bytes.Bytes.TheSendSync as bytes_fact
use Rattle.ebr_exprtree.proofs.expression.Attribute.TheSendSync as attribute_fact
use Rattle.ebr_exprtree.proofs.expression.RowImage.TheSendSync as row_image_fact
use Rattle.ebr_exprtree.proofs.op.Op.TheSendSync as op_fact
use Rattle.ebr_ast.proofs.sql.Transaction.TheSendSync as transaction_fact
use Rattle.ebr_value.proofs.form.BinOp.TheSendSync as bin_op_fact
use Rattle.ebr_value.proofs.form.Builtin.TheSendSync as builtin_fact
use Rattle.ebr_run.proofs.callee.Callee.TheSendSync as callee_fact
use Rattle.ebr_run.proofs.callee.Reference.TheSendSync as reference_fact
use Rattle.ebr_run.proofs.fault.Exception.TheSendSync as exception_fact
use Rattle.ebr_run.proofs.fault.Fault.TheSendSync as fault_fact
use Rattle.ebr_run.proofs.place.Location.TheSendSync as location_fact
use Rattle.ebr_run.proofs.place.VariableType.TheSendSync as variable_type_fact
use Rattle.ebr_sqlcheck.proofs.value_type.ValueType.TheSendSync as value_type_fact
use Rattle.ebr_code.proofs.book.Parameter.TheSendSync as parameter_fact
use Rattle.ebr_code.proofs.instruction.Caught.TheSendSync as caught_fact
use Rattle.ebr_code.proofs.instruction.Lookup.TheSendSync as lookup_fact
use Rattle.ebr_code.proofs.instruction.Instruction.TheLaws.TheKnot as instruction_knot
use Rattle.ebr_code.specs.contracts.instruction.Operation as operation
use Rattle.ebr_code.specs.contracts.instruction.Instruction as instruction
use Rattle.ebr_code.specs.contracts.instruction.Handler as handler
use Rattle.ebr_code.specs.contracts.book.Subprogram as subprogram
use Rattle.ebr_code.specs.contracts.book.Initial as initial
use Rattle.ebr_code.specs.contracts.book.Unit as unit

pub ruleset plain = (value_fact.the_send, value_fact.the_sync, text_fact.the_send, text_fact.the_sync, code_fact.the_send, code_fact.the_sync, name_fact.the_send, name_fact.the_sync, bytes_fact.the_send, bytes_fact.the_sync, attribute_fact.the_send, attribute_fact.the_sync, row_image_fact.the_send, row_image_fact.the_sync, op_fact.the_send, op_fact.the_sync, transaction_fact.the_send, transaction_fact.the_sync, bin_op_fact.the_send, bin_op_fact.the_sync, builtin_fact.the_send, builtin_fact.the_sync, callee_fact.the_send, callee_fact.the_sync, reference_fact.the_send, reference_fact.the_sync, exception_fact.the_send, exception_fact.the_sync, fault_fact.the_send, fault_fact.the_sync, location_fact.the_send, location_fact.the_sync, variable_type_fact.the_send, variable_type_fact.the_sync, value_type_fact.the_send, value_type_fact.the_sync, parameter_fact.the_send, parameter_fact.the_sync, caught_fact.the_send, caught_fact.the_sync, lookup_fact.the_send, lookup_fact.the_sync)

ruleset operation_parts = (sql_field_send, sql_field_sync, sql_send, sql_sync, plain, crosses, sendable)

pub operation_field_send : IsSend operation.the_field.row
operation_field_send = enum_send (shape operation.the_type) (tt, ((search operation_parts depth 60 fits 20000, tt), (tt, (tt, (tt, (tt, ((search operation_parts depth 60 fits 20000, tt), ((search operation_parts depth 60 fits 20000, (search operation_parts depth 60 fits 20000, tt)), ((search operation_parts depth 60 fits 20000, (search operation_parts depth 60 fits 20000, tt)), ((search operation_parts depth 60 fits 20000, (search operation_parts depth 60 fits 20000, tt)), ((search operation_parts depth 60 fits 20000, tt), ((search operation_parts depth 60 fits 20000, tt), ((search operation_parts depth 60 fits 20000, tt), ((search operation_parts depth 60 fits 20000, (search operation_parts depth 60 fits 20000, tt)), ((search operation_parts depth 60 fits 20000, tt), ((search operation_parts depth 60 fits 20000, (search operation_parts depth 60 fits 20000, tt)), (tt, ((search operation_parts depth 60 fits 20000, (search operation_parts depth 60 fits 20000, tt)), ((search operation_parts depth 60 fits 20000, tt), (tt, ((search operation_parts depth 60 fits 20000, tt), ((search operation_parts depth 60 fits 20000, tt), ((search operation_parts depth 60 fits 20000, tt), (tt, (tt, (tt, ((search operation_parts depth 60 fits 20000, (search operation_parts depth 60 fits 20000, (search operation_parts depth 60 fits 20000, tt))), ((search operation_parts depth 60 fits 20000, tt), ((search operation_parts depth 60 fits 20000, tt), ((search operation_parts depth 60 fits 20000, tt), ((search operation_parts depth 60 fits 20000, tt), ((search operation_parts depth 60 fits 20000, (search operation_parts depth 60 fits 20000, tt)), ((search operation_parts depth 60 fits 20000, tt), (tt, tt))))))))))))))))))))))))))))))))))

pub operation_send : IsSend operation.the_row
operation_send = search (operation_field_send, sendable)

pub operation_field_sync : IsSync operation.the_field.row
operation_field_sync = enum_sync (shape operation.the_type) (tt, ((search operation_parts depth 60 fits 20000, tt), (tt, (tt, (tt, (tt, ((search operation_parts depth 60 fits 20000, tt), ((search operation_parts depth 60 fits 20000, (search operation_parts depth 60 fits 20000, tt)), ((search operation_parts depth 60 fits 20000, (search operation_parts depth 60 fits 20000, tt)), ((search operation_parts depth 60 fits 20000, (search operation_parts depth 60 fits 20000, tt)), ((search operation_parts depth 60 fits 20000, tt), ((search operation_parts depth 60 fits 20000, tt), ((search operation_parts depth 60 fits 20000, tt), ((search operation_parts depth 60 fits 20000, (search operation_parts depth 60 fits 20000, tt)), ((search operation_parts depth 60 fits 20000, tt), ((search operation_parts depth 60 fits 20000, (search operation_parts depth 60 fits 20000, tt)), (tt, ((search operation_parts depth 60 fits 20000, (search operation_parts depth 60 fits 20000, tt)), ((search operation_parts depth 60 fits 20000, tt), (tt, ((search operation_parts depth 60 fits 20000, tt), ((search operation_parts depth 60 fits 20000, tt), ((search operation_parts depth 60 fits 20000, tt), (tt, (tt, (tt, ((search operation_parts depth 60 fits 20000, (search operation_parts depth 60 fits 20000, (search operation_parts depth 60 fits 20000, tt))), ((search operation_parts depth 60 fits 20000, tt), ((search operation_parts depth 60 fits 20000, tt), ((search operation_parts depth 60 fits 20000, tt), ((search operation_parts depth 60 fits 20000, tt), ((search operation_parts depth 60 fits 20000, (search operation_parts depth 60 fits 20000, tt)), ((search operation_parts depth 60 fits 20000, tt), (tt, tt))))))))))))))))))))))))))))))))))

pub operation_sync : IsSync operation.the_row
operation_sync = search (operation_field_sync, sendable)

ruleset instruction_parts = (operation_field_send, operation_field_sync, operation_send, operation_sync, plain, crosses, sendable)

pub instruction_field_send : IsSend instruction.the_field.row
instruction_field_send = instruction_knot.both_send-Instruction (search instruction_parts depth 60 fits 20000) (search instruction_parts depth 60 fits 20000) (search instruction_parts depth 60 fits 20000) (search instruction_parts depth 60 fits 20000) (search instruction_parts depth 60 fits 20000) (search instruction_parts depth 60 fits 20000) (search instruction_parts depth 60 fits 20000) (search instruction_parts depth 60 fits 20000) (search instruction_parts depth 60 fits 20000) (search instruction_parts depth 60 fits 20000) (search instruction_parts depth 60 fits 20000) (search instruction_parts depth 60 fits 20000) (search instruction_parts depth 60 fits 20000) (search instruction_parts depth 60 fits 20000)

pub instruction_send : IsSend instruction.the_row
instruction_send = search (instruction_field_send, sendable)

pub instruction_field_sync : IsSync instruction.the_field.row
instruction_field_sync = instruction_knot.both_sync-Instruction (search instruction_parts depth 60 fits 20000) (search instruction_parts depth 60 fits 20000) (search instruction_parts depth 60 fits 20000) (search instruction_parts depth 60 fits 20000) (search instruction_parts depth 60 fits 20000) (search instruction_parts depth 60 fits 20000) (search instruction_parts depth 60 fits 20000) (search instruction_parts depth 60 fits 20000) (search instruction_parts depth 60 fits 20000) (search instruction_parts depth 60 fits 20000) (search instruction_parts depth 60 fits 20000) (search instruction_parts depth 60 fits 20000) (search instruction_parts depth 60 fits 20000) (search instruction_parts depth 60 fits 20000)

pub instruction_sync : IsSync instruction.the_row
instruction_sync = search (instruction_field_sync, sendable)

pub handler_field_send : IsSend handler.the_field.row
handler_field_send = instruction_knot.both_send-Handler (search instruction_parts depth 60 fits 20000) (search instruction_parts depth 60 fits 20000) (search instruction_parts depth 60 fits 20000) (search instruction_parts depth 60 fits 20000) (search instruction_parts depth 60 fits 20000) (search instruction_parts depth 60 fits 20000) (search instruction_parts depth 60 fits 20000) (search instruction_parts depth 60 fits 20000) (search instruction_parts depth 60 fits 20000) (search instruction_parts depth 60 fits 20000) (search instruction_parts depth 60 fits 20000) (search instruction_parts depth 60 fits 20000) (search instruction_parts depth 60 fits 20000) (search instruction_parts depth 60 fits 20000)

pub handler_send : IsSend handler.the_row
handler_send = search (handler_field_send, sendable)

pub handler_field_sync : IsSync handler.the_field.row
handler_field_sync = instruction_knot.both_sync-Handler (search instruction_parts depth 60 fits 20000) (search instruction_parts depth 60 fits 20000) (search instruction_parts depth 60 fits 20000) (search instruction_parts depth 60 fits 20000) (search instruction_parts depth 60 fits 20000) (search instruction_parts depth 60 fits 20000) (search instruction_parts depth 60 fits 20000) (search instruction_parts depth 60 fits 20000) (search instruction_parts depth 60 fits 20000) (search instruction_parts depth 60 fits 20000) (search instruction_parts depth 60 fits 20000) (search instruction_parts depth 60 fits 20000) (search instruction_parts depth 60 fits 20000) (search instruction_parts depth 60 fits 20000)

pub handler_sync : IsSync handler.the_row
handler_sync = search (handler_field_sync, sendable)

pub subprogram_field_send : IsSend subprogram.the_field.row
subprogram_field_send = search (instruction_field_send, instruction_field_sync, instruction_send, instruction_sync, plain, crosses, sendable) depth 60 fits 20000

pub subprogram_send : IsSend subprogram.the_row
subprogram_send = search (subprogram_field_send, sendable)

pub subprogram_field_sync : IsSync subprogram.the_field.row
subprogram_field_sync = search (instruction_field_send, instruction_field_sync, instruction_send, instruction_sync, plain, crosses, sendable) depth 60 fits 20000

pub subprogram_sync : IsSync subprogram.the_row
subprogram_sync = search (subprogram_field_sync, sendable)

pub initial_field_send : IsSend initial.the_field.row
initial_field_send = search (instruction_field_send, instruction_field_sync, instruction_send, instruction_sync, plain, crosses, sendable) depth 60 fits 20000

pub initial_send : IsSend initial.the_row
initial_send = search (initial_field_send, sendable)

pub initial_field_sync : IsSync initial.the_field.row
initial_field_sync = search (instruction_field_send, instruction_field_sync, instruction_send, instruction_sync, plain, crosses, sendable) depth 60 fits 20000

pub initial_sync : IsSync initial.the_row
initial_sync = search (initial_field_sync, sendable)

pub unit_field_send : IsSend unit.the_field.row
unit_field_send = search (subprogram_field_send, subprogram_field_sync, subprogram_send, subprogram_sync, initial_field_send, initial_field_sync, initial_send, initial_sync, plain, crosses, sendable) depth 60 fits 20000

pub unit_send : IsSend unit.the_row
unit_send = search (unit_field_send, sendable)

pub unit_field_sync : IsSync unit.the_field.row
unit_field_sync = search (subprogram_field_send, subprogram_field_sync, subprogram_send, subprogram_sync, initial_field_send, initial_field_sync, initial_send, initial_sync, plain, crosses, sendable) depth 60 fits 20000

pub unit_sync : IsSync unit.the_row
unit_sync = search (unit_field_sync, sendable)
