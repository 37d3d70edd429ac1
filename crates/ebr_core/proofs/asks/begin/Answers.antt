use Rattle.std.proofs.Common.{true, Option, refl, sym, subst}
use Rattle.ebr_ast.specs.declared.view.EditionView.{EditionView}
use Rattle.ebr_asks.specs.declared.answer.Answer.{Answer}
use Rattle.ebr_core.specs.inside.Held.{IsBookOf}
use Rattle.ebr_core.specs.Machine.{lists_of, reply_begin}
use Rattle.ebr_core.proofs.CallBeginning.{begun, book_current, book_of_view}
use Rattle.ebr_core.proofs.LightAsks.{kept_same, tried_so, tries_failing, tries_nothing, untouched}
use Rattle.ebr_core.proofs.asks.begin.Goals as goal

pub returns-in_err-view-clause-reply : goal.returns-in_err-view-clause-reply
returns-in_err-view-clause-reply g c = λ db d x h has same.
    tries_nothing g.K.Keep.as_keeper c.args.current.now _ db (reply_begin d db c.args.s x) c.from_residual.result c.from_residual.ensures.1
    (untouched g.K.Keep.as_keeper c.args.current.now _ db h refl (c.of.ensures.current (lists_of db) h.own_keys h.views_are h.catalogue_is) h.books_are refl refl (kept_same g.K.Keep.as_keeper c.args.current.now.world.keeper _ refl))

pub returns-in_err-book-clause-reply : goal.returns-in_err-book-clause-reply
returns-in_err-book-clause-reply g c = λ db d x h has same.
    let seen = c.in_ok-view.ensures.view (lists_of db) h.own_keys h.views_are h.catalogue_is in
    tries_nothing g.K.Keep.as_keeper c.args.current.now _ db (reply_begin d db c.args.s x) c.from_residual-in_err-book.result c.from_residual-in_err-book.ensures.1
    (untouched g.K.Keep.as_keeper c.args.current.now _ db h refl (c.of.ensures.current (lists_of db) h.own_keys h.views_are h.catalogue_is)
    (book_current (lists_of db) c.in_ok-view.view c.args.e c.args.current.now.world.book c.book_of.result c.book_of.new.self seen h.books_are (c.book_of.ensures (lists_of db) h.books_are)) refl refl (kept_same g.K.Keep.as_keeper c.args.current.now.world.keeper _ refl))

pub returns-in_err-told-clause-reply : goal.returns-in_err-told-clause-reply
returns-in_err-told-clause-reply g c = λ db d x h has same.
    let seen = c.in_ok-view.ensures.view (lists_of db) h.own_keys h.views_are h.catalogue_is in
    tries_failing g.K.Keep.as_keeper c.args.current.now _ db (reply_begin d db c.args.s x) c.from_residual-in_err-told.result _ c.from_residual-in_err-told.ensures.1
    (untouched g.K.Keep.as_keeper c.args.current.now _ db h refl (c.of.ensures.current (lists_of db) h.own_keys h.views_are h.catalogue_is)
    (book_current (lists_of db) c.in_ok-view.view c.args.e c.args.current.now.world.book c.book_of.result c.book_of.new.self seen h.books_are (c.book_of.ensures (lists_of db) h.books_are)) refl refl (kept_same g.K.Keep.as_keeper c.args.current.now.world.keeper _ refl))

pub returns-in_err-open_call-clause-reply : goal.returns-in_err-open_call-clause-reply
returns-in_err-open_call-clause-reply g c = λ db d x h has same.
    let seen = c.in_ok-view.ensures.view (lists_of db) h.own_keys h.views_are h.catalogue_is in
    tries_nothing g.K.Keep.as_keeper c.args.current.now _ db (reply_begin d db c.args.s x) c.from_residual-in_err-open_call.result c.from_residual-in_err-open_call.ensures.1
    (untouched g.K.Keep.as_keeper c.args.current.now _ db h refl (c.of.ensures.current (lists_of db) h.own_keys h.views_are h.catalogue_is)
    (book_current (lists_of db) c.in_ok-view.view c.args.e c.args.current.now.world.book c.book_of.result c.book_of.new.self seen h.books_are (c.book_of.ensures (lists_of db) h.books_are)) refl c.in_err-open_call.ensures.unchanged (kept_same g.K.Keep.as_keeper c.args.current.now.world.keeper _ refl))

pub returns-clause-reply : goal.returns-clause-reply
returns-clause-reply g c = λ db d x h has same.
    let seen = c.in_ok-view.ensures.view (lists_of db) h.own_keys h.views_are h.catalogue_is in
    let replied = begun g.K.Keep.as_keeper c.args.current.now _ db c.args.e d c.args.s x c.in_ok-view.view h has.there same refl refl
    (c.of.ensures.current (lists_of db) h.own_keys h.views_are h.catalogue_is)
    (book_current (lists_of db) c.in_ok-view.view c.args.e c.args.current.now.world.book c.book_of.result c.book_of.new.self seen h.books_are (c.book_of.ensures (lists_of db) h.books_are))
    (c.in_ok-open_call.ensures.opened (g.K.Keep.as_keeper c.args.current.now.world.keeper).used db x h.seated has.there)
    seen in
    tried_so g.K.Keep.as_keeper true c.args.current.now _ db _ c.in_ok-told.told (reply_begin d db c.args.s x) replied c.in_ok-told.ensures

pub returns-clause-book : goal.returns-clause-book
returns-clause-book g c = λ db d x h has.
    let seen = c.in_ok-view.ensures.view (lists_of db) h.own_keys h.views_are h.catalogue_is in
    subst (λ (given : Answer × Option EditionView). IsBookOf given.0 given.1) (sym c.in_ok-told.ensures.0)
    (book_of_view (lists_of db) c.in_ok-view.view c.args.e c.args.current.now.world.book c.in_ok-book.book c.book_of.new.self seen (c.in_ok-book.ensures (lists_of db) h.books_are))
