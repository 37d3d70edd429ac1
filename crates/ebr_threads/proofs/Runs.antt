-- Which runs of compiled code may cross threads.
use denote.Param.Send.{IsSend, sendable}
use denote.Param.SendFields.{declared_send, variants_send}
use Rattle.std.proofs.Crossing.{crosses}
use Rattle.ebr_crossing.proofs.Asks.{ask_field_send, ask_field_sync, ask_send, ask_sync, answer_field_send, answer_field_sync, answer_send, answer_sync}
use Rattle.ebr_crossing.proofs.Codes.{instruction_field_send, instruction_field_sync, instruction_send, instruction_sync, handler_field_send, handler_field_sync, handler_send, handler_sync, unit_field_send, unit_field_sync, unit_send, unit_sync}
use Rattle.ebr_base.proofs.value.Value.TheSendSync as value_fact
use Rattle.ebr_base.proofs.value.Text.TheSendSync as text_fact
use Rattle.ebr_base.proofs.code.Code.TheSendSync as code_fact
use Rattle.ebr_base.proofs.name.Name.TheSendSync as name_fact
use Rattle.ebr_base.proofs.bytes.Bytes.TheSendSync as bytes_fact
use Rattle.ebr_base.proofs.numbers.EditionNo.TheSendSync as edition_no_fact
use Rattle.ebr_base.proofs.numbers.Stamp.TheSendSync as stamp_fact
use Rattle.ebr_base.proofs.object.Class.TheSendSync as class_fact
use Rattle.ebr_base.proofs.object.ObjectKey.TheSendSync as object_key_fact
use Rattle.ebr_ast.proofs.kinds.Origin.TheSendSync as origin_fact
use Rattle.ebr_exprtree.proofs.op.Op.TheSendSync as op_fact
use Rattle.ebr_run.proofs.fault.Exception.TheSendSync as exception_fact
use Rattle.ebr_run.proofs.fault.Fault.TheSendSync as fault_fact
use Rattle.ebr_run.proofs.place.Location.TheSendSync as location_fact
use Rattle.ebr_code.proofs.instruction.Lookup.TheSendSync as lookup_fact
use Rattle.ebr_memory.proofs.levels.Levels.TheSendSync as levels_fact
use Rattle.ebr_memory.proofs.stack.Stack.TheSendSync as stack_fact
use Rattle.ebr_memory.proofs.stacks.Stacks.TheSendSync as stacks_fact
use Rattle.ebr_memory.proofs.cursor.Cursor.TheSendSync as cursor_fact
use Rattle.ebr_memory.proofs.package.Made.TheSendSync as made_fact
use Rattle.ebr_memory.proofs.package.Packages.TheSendSync as packages_fact
use Rattle.ebr_running.proofs.running.BodyFrame.TheSendSync as body_frame_fact
use Rattle.ebr_running.proofs.running.Flow.TheSendSync as flow_fact
use Rattle.ebr_running.proofs.running.Left.TheSendSync as left_fact
use Rattle.ebr_running.proofs.running.Pending.TheSendSync as pending_fact
use Rattle.ebr_running.specs.contracts.running.Caller as caller
use Rattle.ebr_running.specs.contracts.running.Task as task
use Rattle.ebr_running.specs.contracts.running.Running as running
use Rattle.ebr_machine.specs.contracts.machine.Machine as machine

pub ruleset plain = (value_fact.the_send, value_fact.the_sync, text_fact.the_send, text_fact.the_sync, code_fact.the_send, code_fact.the_sync, name_fact.the_send, name_fact.the_sync, bytes_fact.the_send, bytes_fact.the_sync, edition_no_fact.the_send, edition_no_fact.the_sync, stamp_fact.the_send, stamp_fact.the_sync, class_fact.the_send, class_fact.the_sync, object_key_fact.the_send, object_key_fact.the_sync, origin_fact.the_send, origin_fact.the_sync, op_fact.the_send, op_fact.the_sync, exception_fact.the_send, exception_fact.the_sync, fault_fact.the_send, fault_fact.the_sync, location_fact.the_send, location_fact.the_sync, lookup_fact.the_send, lookup_fact.the_sync, levels_fact.the_send, levels_fact.the_sync, stack_fact.the_send, stack_fact.the_sync, stacks_fact.the_send, stacks_fact.the_sync, cursor_fact.the_send, cursor_fact.the_sync, made_fact.the_send, made_fact.the_sync, packages_fact.the_send, packages_fact.the_sync, body_frame_fact.the_send, body_frame_fact.the_sync, flow_fact.the_send, flow_fact.the_sync, left_fact.the_send, left_fact.the_sync, pending_fact.the_send, pending_fact.the_sync)

ruleset caller_parts = (unit_field_send, unit_field_sync, unit_send, unit_sync, plain, crosses, sendable)

pub caller_send : IsSend caller.the_row
caller_send = declared_send caller.the_type (search caller_parts depth 60 fits 20000, (search caller_parts depth 60 fits 20000, (search caller_parts depth 60 fits 20000, (search caller_parts depth 60 fits 20000, tt))))

ruleset task_parts = (instruction_field_send, instruction_field_sync, instruction_send, instruction_sync, handler_field_send, handler_field_sync, handler_send, handler_sync, caller_send, plain, crosses, sendable)

pub task_send : IsSend task.the_row
task_send = variants_send task.enum ((search task_parts depth 60 fits 20000, (search task_parts depth 60 fits 20000, tt)), ((search task_parts depth 60 fits 20000, (search task_parts depth 60 fits 20000, tt)), ((search task_parts depth 60 fits 20000, (search task_parts depth 60 fits 20000, tt)), ((search task_parts depth 60 fits 20000, (search task_parts depth 60 fits 20000, (search task_parts depth 60 fits 20000, (search task_parts depth 60 fits 20000, (search task_parts depth 60 fits 20000, tt))))), ((search task_parts depth 60 fits 20000, (search task_parts depth 60 fits 20000, tt)), ((search task_parts depth 60 fits 20000, tt), (tt, ((search task_parts depth 60 fits 20000, (search task_parts depth 60 fits 20000, tt)), (tt, ((search task_parts depth 60 fits 20000, (search task_parts depth 60 fits 20000, tt)), ((search task_parts depth 60 fits 20000, tt), tt)))))))))))

ruleset running_parts = (task_send, ask_field_send, ask_field_sync, ask_send, ask_sync, plain, crosses, sendable)

pub running_send : IsSend running.the_row
running_send = declared_send running.the_type (search running_parts depth 60 fits 20000, (search running_parts depth 60 fits 20000, (search running_parts depth 60 fits 20000, (search running_parts depth 60 fits 20000, (search running_parts depth 60 fits 20000, (search running_parts depth 60 fits 20000, (search running_parts depth 60 fits 20000, (search running_parts depth 60 fits 20000, (search running_parts depth 60 fits 20000, (search running_parts depth 60 fits 20000, (search running_parts depth 60 fits 20000, (search running_parts depth 60 fits 20000, (search running_parts depth 60 fits 20000, (search running_parts depth 60 fits 20000, (search running_parts depth 60 fits 20000, (search running_parts depth 60 fits 20000, (search running_parts depth 60 fits 20000, (search running_parts depth 60 fits 20000, (search running_parts depth 60 fits 20000, tt)))))))))))))))))))

ruleset machine_parts = (running_send, answer_field_send, answer_field_sync, answer_send, answer_sync, plain, crosses, sendable)

pub machine_send : IsSend machine.the_row
machine_send = declared_send machine.the_type (search machine_parts depth 60 fits 20000, (search machine_parts depth 60 fits 20000, (search machine_parts depth 60 fits 20000, (search machine_parts depth 60 fits 20000, tt))))
