-- Which sessions may cross threads.
use denote.RattleType.{RattleType}
use denote.Param.Send.{IsSend, IsSync, sendable, view_send}
use denote.Param.SendFields.{declared_send, variants_send}
use Rattle.std.proofs.Crossing.{crosses}
use Rattle.ebr_base.proofs.code.Code.TheSendSync as code_fact
use Rattle.ebr_base.proofs.shared.Shared.TheSendSync as shared_fact
use Rattle.ebr_memory.proofs.package.Packages.TheSendSync as packages_fact
use Rattle.ebr_memory.proofs.stack.Stack.TheSendSync as stack_fact
use Rattle.ebr_code.specs.declared.book.CodeBook.{Ghosts}
use Rattle.ebr_ast.specs.contracts.definition.Statement as statement
use Rattle.ebr_script.specs.contracts.piece.Piece as piece
use Rattle.ebr_script.specs.contracts.piece.PieceKind as piece_kind
use Rattle.ebr_units.specs.contracts.book.Book as book
use Rattle.ebr_calls.specs.contracts.call.Call as call
use Rattle.ebr_session.specs.contracts.session.Session as session
use Rattle.ebr_session.specs.contracts.session.Session.TheInside as session_inside
use Rattle.ebr_crossing.proofs.Trees as trees
use Rattle.ebr_crossing.proofs.Trees.{plain}
use Rattle.ebr_crossing.proofs.Asks as asks
use Rattle.ebr_crossing.proofs.Books.{book_send, book_sync}
use Rattle.ebr_threads.proofs.Runs as runs

statement_send : IsSend statement.the_row
statement_send = variants_send statement.enum ((search (trees.sql_send, plain, crosses, sendable) depth 60 fits 20000, tt), ((search (plain, sendable), tt), ((search (plain, sendable), tt), ((search (trees.definition_send, sendable), tt), ((search (trees.block_send, trees.block_sync, crosses, sendable) depth 60 fits 20000, tt), tt)))))

piece_kind_send : IsSend piece_kind.the_row
piece_kind_send = variants_send piece_kind.enum ((statement_send, tt), ((code_fact.the_send, tt), tt))

piece_send : IsSend piece.the_row
piece_send = declared_send piece.the_type (search sendable, (search sendable, (search sendable, (piece_kind_send, tt))))

pub call_send : (B : RattleType) → IsSend B → IsSync B → IsSend (call.the_row B)
call_send B sends shows = declared_send (call.the_type B) (shared_fact.the_send B sends shows, (runs.machine_send, (search sendable, (search sendable depth 20, tt))))

pub session_send : (g : Ghosts book.the_row.Denot) → IsSend (session.the_row book.the_row g)
session_send g = view_send _ _ _ _ _ (declared_send (session_inside.the_type book.the_row g) (
  search (crosses, sendable),
  (
    search sendable,
    (
      search (stack_fact.the_send, piece_send, plain, crosses, sendable) depth 60 fits 20000,
      (
        search (asks.exchange_send, crosses, sendable) depth 60 fits 20000,
        (
          search (plain, sendable),
          (
            search sendable depth 20,
            (
              search (asks.ask_send, sendable) depth 20,
              (
                search sendable depth 20,
                (
                  search (packages_fact.the_send, call_send, book_send, book_sync, trees.block_send, trees.block_sync, code_fact.the_send, plain, crosses, sendable) depth 60 fits 20000,
                  (search (book_send, book_sync, crosses, sendable) depth 60 fits 20000, tt),
                ),
              ),
            ),
          ),
        ),
      ),
    ),
  ),
))
