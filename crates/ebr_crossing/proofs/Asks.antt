-- Which asks and answers may cross threads.
use denote.Param.Send.{IsSend, IsSync, sendable}
use Rattle.std.proofs.Crossing.{crosses}
use Rattle.ebr_crossing.proofs.Trees.{sql_field_send, sql_field_sync, sql_send, sql_sync, definition_field_send, definition_field_sync, definition_send, definition_sync, view_field_send, view_field_sync, view_send, view_sync}
use Rattle.ebr_base.proofs.value.Value.TheSendSync as value_fact
use Rattle.ebr_base.proofs.value.Text.TheSendSync as text_fact
use Rattle.ebr_base.proofs.code.Code.TheSendSync as code_fact
use Rattle.ebr_base.proofs.name.Name.TheSendSync as name_fact
use Rattle.ebr_base.proofs.bytes.Bytes.TheSendSync as bytes_fact
use Rattle.ebr_base.proofs.numbers.SessionId.TheSendSync as session_id_fact
use Rattle.ebr_asks.specs.contracts.ask.Ask as ask
use Rattle.ebr_asks.specs.contracts.answer.Answer as answer
use Rattle.ebr_asks.specs.contracts.entry.Exchange as exchange
use Rattle.ebr_asks.specs.contracts.entry.Entry as entry

pub ruleset plain = (value_fact.the_send, value_fact.the_sync, text_fact.the_send, text_fact.the_sync, code_fact.the_send, code_fact.the_sync, name_fact.the_send, name_fact.the_sync, bytes_fact.the_send, bytes_fact.the_sync, session_id_fact.the_send, session_id_fact.the_sync)

pub ask_field_send : IsSend ask.the_field.row
ask_field_send = search (sql_field_send, sql_field_sync, sql_send, sql_sync, definition_field_send, definition_field_sync, definition_send, definition_sync, plain, crosses, sendable) depth 60 fits 20000

pub ask_send : IsSend ask.the_row
ask_send = search (ask_field_send, sendable)

pub ask_field_sync : IsSync ask.the_field.row
ask_field_sync = search (sql_field_send, sql_field_sync, sql_send, sql_sync, definition_field_send, definition_field_sync, definition_send, definition_sync, plain, crosses, sendable) depth 60 fits 20000

pub ask_sync : IsSync ask.the_row
ask_sync = search (ask_field_sync, sendable)

pub answer_field_send : IsSend answer.the_field.row
answer_field_send = search (view_field_send, view_field_sync, view_send, view_sync, plain, crosses, sendable) depth 60 fits 20000

pub answer_send : IsSend answer.the_row
answer_send = search (answer_field_send, sendable)

pub answer_field_sync : IsSync answer.the_field.row
answer_field_sync = search (view_field_send, view_field_sync, view_send, view_sync, plain, crosses, sendable) depth 60 fits 20000

pub answer_sync : IsSync answer.the_row
answer_sync = search (answer_field_sync, sendable)

pub exchange_field_send : IsSend exchange.the_field.row
exchange_field_send = search (ask_field_send, ask_field_sync, ask_send, ask_sync, answer_field_send, answer_field_sync, answer_send, answer_sync, plain, crosses, sendable) depth 60 fits 20000

pub exchange_send : IsSend exchange.the_row
exchange_send = search (exchange_field_send, sendable)

pub exchange_field_sync : IsSync exchange.the_field.row
exchange_field_sync = search (ask_field_send, ask_field_sync, ask_send, ask_sync, answer_field_send, answer_field_sync, answer_send, answer_sync, plain, crosses, sendable) depth 60 fits 20000

pub exchange_sync : IsSync exchange.the_row
exchange_sync = search (exchange_field_sync, sendable)

pub entry_field_send : IsSend entry.the_field.row
entry_field_send = search (ask_field_send, ask_field_sync, ask_send, ask_sync, answer_field_send, answer_field_sync, answer_send, answer_sync, plain, crosses, sendable) depth 60 fits 20000

pub entry_send : IsSend entry.the_row
entry_send = search (entry_field_send, sendable)

pub entry_field_sync : IsSync entry.the_field.row
entry_field_sync = search (ask_field_send, ask_field_sync, ask_send, ask_sync, answer_field_send, answer_field_sync, answer_send, answer_sync, plain, crosses, sendable) depth 60 fits 20000

pub entry_sync : IsSync entry.the_row
entry_sync = search (entry_field_sync, sendable)
