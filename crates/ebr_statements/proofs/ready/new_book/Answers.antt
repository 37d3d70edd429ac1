use Rattle.std.proofs.Common.{subst, sym, ◌∙◌}
use Rattle.ebr_ast.specs.Views.{IsInOrder}
use Rattle.ebr_statements.proofs.Booking.{book_seen, book_tables, made_seen}
use Rattle.ebr_statements.proofs.ready.new_book.Goals as goal

pub book_of-requires : goal.book_of-requires
book_of-requires c = let q = c.requires in subst IsInOrder (sym c.in_ok-seen.ensures) (c.in_ok-view_of.ensures.order q.lists q.is q.own_keys)

pub returns-clause-book : goal.returns-clause-book
returns-clause-book c = λ lists keys current is.
    let seen = c.in_ok-seen.ensures ∙ c.in_ok-view_of.ensures.view lists is in
    book_seen lists c.args.e c.in_ok-seen.seen c.args.units.now c.book_of.new.self c.book_of.result seen
    (c.book_of.ensures lists current (made_seen lists c.args.e c.in_ok-seen.seen seen (subst IsInOrder (sym c.in_ok-seen.ensures) (c.in_ok-view_of.ensures.order lists is keys))))

pub returns-clause-tables : goal.returns-clause-tables
returns-clause-tables c =
    let q = c.requires in
    let seen = c.in_ok-seen.ensures ∙ c.in_ok-view_of.ensures.view q.lists q.is in
    book_tables q.lists c.args.e c.args.c.now c.book_of.result q.is
    (book_seen q.lists c.args.e c.in_ok-seen.seen c.args.units.now c.book_of.new.self c.book_of.result seen
    (c.book_of.ensures q.lists q.current (made_seen q.lists c.args.e c.in_ok-seen.seen seen (subst IsInOrder (sym c.in_ok-seen.ensures) (c.in_ok-view_of.ensures.order q.lists q.is q.own_keys)))))

pub returns-clause-current : goal.returns-clause-current
returns-clause-current c = λ lists keys current is.
    let seen = c.in_ok-seen.ensures ∙ c.in_ok-view_of.ensures.view lists is in
    (c.book_of.ensures lists current (made_seen lists c.args.e c.in_ok-seen.seen seen (subst IsInOrder (sym c.in_ok-seen.ensures) (c.in_ok-view_of.ensures.order lists is keys)))).keeps.current
