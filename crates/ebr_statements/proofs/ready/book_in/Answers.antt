use Rattle.ebr_statements.proofs.Booking.{kept_lists, living_found, still_current, tables_seen}
use Rattle.ebr_statements.proofs.ready.book_in.Goals as goal

pub book-requires : goal.book-requires
book-requires c = kept_lists c.args.c.now c.args.units.now c.requires

pub returns-in_err-book-clause-current : goal.returns-in_err-book-clause-current
returns-in_err-book-clause-current c = λ lists keys current is. (c.book.ensures lists keys current is).keeps.current

pub returns-in-Some-clause-book : goal.returns-in-Some-clause-book
returns-in-Some-clause-book c = λ lists keys current is.
    living_found lists c.args.e c.args.units.now c.book.new.self c.book.result _ c.in-Some.book c.in_ok-book.was c.in-Some.is (c.book.ensures lists keys current is)

pub returns-in-Some-clause-tables : goal.returns-in-Some-clause-tables
returns-in-Some-clause-tables c =
    let q = c.requires in
    tables_seen q.lists c.args.e c.args.c.now c.in-Some.book q.is
    (living_found q.lists c.args.e c.args.units.now c.book.new.self c.book.result _ c.in-Some.book c.in_ok-book.was c.in-Some.is (c.book.ensures q.lists q.own_keys q.current q.is))

pub returns-in-Some-clause-current : goal.returns-in-Some-clause-current
returns-in-Some-clause-current c = λ lists keys current is. (c.book.ensures lists keys current is).keeps.current

pub new_book-requires : goal.new_book-requires
new_book-requires c =
    let q = c.requires in
    still_current c.args.c.now c.args.units.now c.book.new.self q (c.book.ensures q.lists q.own_keys q.current q.is).keeps.current

pub returns-in-None-clause-book : goal.returns-in-None-clause-book
returns-in-None-clause-book c = λ lists keys current is. c.new_book.ensures.book lists keys (c.book.ensures lists keys current is).keeps.current is

pub returns-in-None-clause-current : goal.returns-in-None-clause-current
returns-in-None-clause-current c = λ lists keys current is. c.new_book.ensures.current lists keys (c.book.ensures lists keys current is).keeps.current is
