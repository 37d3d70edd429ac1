-- Which books may cross threads.
use denote.Param.Send.{IsSend, IsSync, sendable}
use Rattle.std.proofs.Crossing.{crosses}
use Rattle.ebr_units.specs.contracts.book.Book as book
use Rattle.ebr_units.specs.contracts.units.Units as units
use Rattle.ebr_crossing.proofs.Trees as trees
use Rattle.ebr_crossing.proofs.Codes as codes

pub book_send : IsSend book.the_row
book_send = search (trees.view_send, trees.view_sync, trees.object_send, trees.object_sync, codes.unit_send, codes.unit_sync, crosses, sendable) depth 60 fits 20000

pub book_sync : IsSync book.the_row
book_sync = search (trees.view_send, trees.view_sync, trees.object_send, trees.object_sync, codes.unit_send, codes.unit_sync, crosses, sendable) depth 60 fits 20000

pub units_send : IsSend units.the_row
units_send = search (book_send, book_sync, crosses, sendable) depth 60 fits 20000
