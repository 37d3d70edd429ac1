use Rattle.ebr_statements.proofs.Booking.{ready_seen, tables_ready}
use Rattle.ebr_statements.proofs.ready.ready_for.Goals as goal

pub returns-clause-ready : goal.returns-clause-ready
returns-clause-ready c = λ lists keys current is.
    let seen = c.in_ok-book.ensures.book lists keys current is in
    ready_seen lists c.args.f.now c.in_ok-book.book c.ready_in.result seen (c.ready_in.ensures.ready _ seen)

pub returns-clause-tables : goal.returns-clause-tables
returns-clause-tables c = tables_ready c.args.c.now c.in_ok-book.book c.ready_in.result c.in_ok-book.ensures.tables c.ready_in.ensures.tables
