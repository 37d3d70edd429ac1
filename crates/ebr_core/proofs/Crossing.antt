-- Which engines may cross threads.
use denote.RattleType.{RattleType}
use denote.Param.Send.{IsSend, sendable, view_send}
use denote.Param.SendFields.{declared_send}
use Rattle.std.proofs.Crossing.{crosses}
use Rattle.ebr_editions.proofs.actuals.Actuals.TheSendSync as actuals_fact
use Rattle.ebr_editions.proofs.chain.Chain.TheSendSync as chain_fact
use Rattle.ebr_tables.proofs.tables.Tables.TheSendSync as tables_fact
use Rattle.ebr_tx.proofs.transactions.Transactions.TheSendSync as transactions_fact
use Rattle.ebr_seats.proofs.seat.Seat.TheSendSync as seat_fact
use Rattle.ebr_record.specs.declared.keep.Keep.{Ghosts}
use Rattle.ebr_record.proofs.record.Record.TheSendSync as record_fact
use Rattle.ebr_cross.specs.contracts.catalogue.Catalogue as catalogue
use Rattle.ebr_units.specs.contracts.units.Units as units
use Rattle.ebr_core.specs.contracts.current.Current as current
use Rattle.ebr_core.specs.contracts.parts.Parts as parts
use Rattle.ebr_exec.specs.contracts.world.World as world
use Rattle.ebr_core.specs.contracts.engine.Engine as engine
use Rattle.ebr_core.specs.contracts.engine.Engine.TheInside as engine_inside
use Rattle.ebr_crossing.proofs.Trees as trees
use Rattle.ebr_crossing.proofs.Asks as asks
use Rattle.ebr_crossing.proofs.Books.{book_send, book_sync, units_send}

catalogue_send : IsSend catalogue.the_row
catalogue_send = declared_send catalogue.the_type (
  chain_fact.the_send,
  (
    search (actuals_fact.the_send, trees.object_send, trees.object_sync, crosses, sendable) depth 60 fits 20000,
    (tables_fact.the_send, tt),
  ),
)

world_send : (K : RattleType) → IsSend K → IsSend (world.the_row K units.the_row)
world_send K sends = declared_send (world.the_type K units.the_row) (catalogue_send, (units_send, (transactions_fact.the_send, (search (sends, sendable), tt))))

current_send : (K : RattleType) → IsSend K → IsSend (current.the_row K)
current_send K sends = declared_send (current.the_type K) (
  world_send K sends,
  (
    search (trees.view_send, trees.view_sync, crosses, sendable) depth 60 fits 20000,
    (search (seat_fact.the_send, crosses, sendable) depth 60 fits 20000, tt),
  ),
)

parts_send : (K : RattleType) → IsSend K → IsSend (parts.the_row K)
parts_send K sends = declared_send (parts.the_type K) (
  search (crosses, sendable),
  (
    current_send K sends,
    (
      search (crosses, sendable) depth 60 fits 20000,
      (
        search (book_send, book_sync, crosses, sendable) depth 60 fits 20000,
        (
          search (asks.entry_send, crosses, sendable) depth 60 fits 20000,
          (
            search (record_fact.the_send, crosses, sendable) depth 60 fits 20000,
            (search sendable, tt),
          ),
        ),
      ),
    ),
  ),
)

-- An engine may cross threads where its keeper may.
pub engine_send : (K : RattleType) (g : Ghosts K.Denot) → IsSend K → IsSend (engine.the_row K g)
engine_send K g sends = view_send _ _ _ _ _ (declared_send (engine_inside.the_type K g) (parts_send K sends, tt))
