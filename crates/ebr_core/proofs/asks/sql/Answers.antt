use Rattle.std.proofs.Common.{◌≡◌, refl, subst, sym, ap, ◌∙◌, Some}
use Rattle.ebr_ast.specs.declared.view.EditionView.{EditionView}
use Rattle.ebr_ast.specs.Views.{IsInOrder}
use Rattle.ebr_asks.specs.declared.ask.Ask.TheVariants.{Sql}
use Rattle.ebr_cross.specs.declared.catalogue.Catalogue.{Catalogue}
use Rattle.ebr_cross.specs.Catalogue.{IsViewOf, View}
use Rattle.ebr_seats.specs.Seats.{seat_at}
use Rattle.ebr_seats.proofs.Asked.{IsTop}
use Rattle.ebr_core.specs.Machine.{lists_of, reply_sql}
use Rattle.ebr_core.proofs.HeldAgain.{wants_memory}
use Rattle.ebr_core.proofs.RunStatements.{fits, ran_reply, room_of}
use Rattle.ebr_core.proofs.asks.sql.Goals as goal

pub returns-in_err-view : goal.returns-in_err-view
returns-in_err-view g c = λ db d x h has same.
    wants_memory g.K.Keep.as_keeper c.args.current.now _ (reply_sql d db c.args.s x c.args.stmt.now c.args.binds.now c.args.left) refl c.from_residual.result c.from_residual.ensures.1

pub run_sql-requires-clause-order : goal.run_sql-requires-clause-order
run_sql-requires-clause-order g c =
    let h = c.requires.held.holds in
    let seen = c.in_ok-view.ensures.view (lists_of c.requires.held.database) h.own_keys h.views_are h.catalogue_is in
    subst IsInOrder (sym c.get.ensures) seen.order

pub run_sql-requires-clause-tables : goal.run_sql-requires-clause-tables
run_sql-requires-clause-tables g c =
    let h = c.requires.held.holds in
    let seen = c.in_ok-view.ensures.view (lists_of c.requires.held.database) h.own_keys h.views_are h.catalogue_is in
    ap (λ (v : EditionView). v.tables) (c.get.ensures ∙ seen.is) ∙ sym (ap (λ (now : Catalogue). now.tables.living) h.catalogue_is)

pub run_sql-requires-clause-fit : goal.run_sql-requires-clause-fit
run_sql-requires-clause-fit g c =
    let held = c.requires.held in
    fits g.K.Keep.as_keeper c.args.current.now held.database held.holds c.args.s held.session held.has.there c.top_of-t.result
    (subst (λ ss. IsTop ss c.args.s c.top_of-t.result) c.as_slice.ensures.value c.top_of-t.ensures)

pub returns : goal.returns
returns g c = λ db d x h has same.
    let seen = c.in_ok-view.ensures.view (lists_of db) h.own_keys h.views_are h.catalogue_is in
    let shown : IsViewOf (lists_of db) c.args.e c.get.result.now = subst (IsViewOf (lists_of db) c.args.e) (sym c.get.ensures) seen in
    ran_reply g.K.Keep.as_keeper c.args.current.now _ db h c.args.s x has.there c.args.e d same c.args.stmt.now c.args.binds.now c.args.left c.room_for-room.result c.top_of-t.result c.get.result.now
    (subst (λ ss. IsTop ss c.args.s c.top_of-t.result) c.as_slice.ensures.value c.top_of-t.ensures) shown
    (room_of (g.K.Keep.as_keeper c.args.current.now.world.keeper).used c.args.current.now.world.tx.contents c.args.current.now.seats.items db c.args.s x h.seated has.there c.seat_of.result.now c.args.ask.now c.room_for-room.result
    (subst (λ ss. Some c.seat_of.result.now ≡ seat_at ss c.args.s.0) c.as_slice-2.ensures.value c.seat_of.ensures) c.room_for-room.ensures (Sql c.args.stmt.now c.args.binds.now c.args.left) c.requires.is)
    c.run_sql.ensures.catalogue
    (c.of.ensures.current (lists_of db) h.own_keys h.views_are h.catalogue_is) refl c.run_sql.ensures.remains c.run_sql.result
    (c.run_sql.ensures.exact (lists_of db) h.own_keys h.books_are h.catalogue_is (shown.is ∙ ap (View (lists_of db)) (sym (ap (λ (v : EditionView). v.edition) shown.is))))
