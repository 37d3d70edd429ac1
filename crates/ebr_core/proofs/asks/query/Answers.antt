use Rattle.std.proofs.Common.{◌≡◌, true, refl, subst, sym, ap, ◌∙◌, Some, None, Ok}
use Rattle.ebr_ast.specs.declared.view.EditionView.{EditionView}
use Rattle.ebr_ast.specs.Views.{IsInOrder}
use Rattle.ebr_asks.specs.declared.ask.Ask.TheVariants.{Sql}
use Rattle.ebr_cross.specs.declared.catalogue.Catalogue.{Catalogue}
use Rattle.ebr_cross.specs.Catalogue.{IsViewOf, View}
use Rattle.ebr_exec.specs.Places.{names_of, own_place}
use Rattle.ebr_exec.proofs.Undone.{still_mark_of, undone_to}
use Rattle.ebr_levels.proofs.LeavesLemmas.{leaves_live}
use Rattle.ebr_levels.proofs.TopLemmas.{top_live}
use Rattle.ebr_seats.specs.Seats.{seat_at}
use Rattle.ebr_seats.proofs.Asked.{IsTop}
use Rattle.ebr_core.specs.Machine.{lists_of, reply_sql}
use Rattle.ebr_core.proofs.LightAsks.{before_reads, kept_same, run_grew, run_over, tried_so, tries_failing, tries_nothing, untouched}
use Rattle.ebr_core.proofs.RunStatements.{fits, ran_reply, room_of}
use Rattle.ebr_core.proofs.asks.query.Goals as goal

pub returns-in_err-view-clause-reply : goal.returns-in_err-view-clause-reply
returns-in_err-view-clause-reply g c = λ db d x h has same.
    tries_nothing g.K.Keep.as_keeper c.args.current.now _ db (reply_sql d db c.args.s x c.args.stmt.now c.args.binds.now c.args.left) c.from_residual.result c.from_residual.ensures.1
    (untouched g.K.Keep.as_keeper c.args.current.now _ db h refl (c.of.ensures.current (lists_of db) h.own_keys h.views_are h.catalogue_is) h.books_are refl refl (kept_same g.K.Keep.as_keeper c.args.current.now.world.keeper _ refl))

pub mark-requires : goal.mark-requires
mark-requires g c =
    let held = c.requires.held in
    top_live c.args.current.now.world.tx.contents c.top_of-t.result
    (fits g.K.Keep.as_keeper c.args.current.now held.database held.holds c.args.s held.session held.has.there c.top_of-t.result (subst (λ ss. IsTop ss c.args.s c.top_of-t.result) c.as_slice.ensures.value c.top_of-t.ensures)).top

pub returns-in_err-mark-clause-reply : goal.returns-in_err-mark-clause-reply
returns-in_err-mark-clause-reply g c = λ db d x h has same.
    tries_nothing g.K.Keep.as_keeper c.args.current.now _ db (reply_sql d db c.args.s x c.args.stmt.now c.args.binds.now c.args.left) c.from_residual-in_err-mark.result c.from_residual-in_err-mark.ensures.1
    (untouched g.K.Keep.as_keeper c.args.current.now _ db h refl (c.of.ensures.current (lists_of db) h.own_keys h.views_are h.catalogue_is) h.books_are refl refl (kept_same g.K.Keep.as_keeper c.args.current.now.world.keeper _ refl))

pub run_sql-requires-clause-order : goal.run_sql-requires-clause-order
run_sql-requires-clause-order g c =
    let h = c.requires.held.holds in
    let seen = c.in_ok-view.ensures.view (lists_of c.requires.held.database) h.own_keys h.views_are h.catalogue_is in
    subst IsInOrder (sym c.get.ensures) seen.order

pub run_sql-requires-clause-tables : goal.run_sql-requires-clause-tables
run_sql-requires-clause-tables g c =
    let h = c.requires.held.holds in
    let seen = c.in_ok-view.ensures.view (lists_of c.requires.held.database) h.own_keys h.views_are h.catalogue_is in
    ap (λ (v : EditionView). v.tables) (c.get.ensures ∙ seen.is) ∙ sym (ap (λ (now : Catalogue). now.tables.living) h.catalogue_is)

pub run_sql-requires-clause-fit : goal.run_sql-requires-clause-fit
run_sql-requires-clause-fit g c =
    let held = c.requires.held in
    fits g.K.Keep.as_keeper c.args.current.now held.database held.holds c.args.s held.session held.has.there c.top_of-t.result (subst (λ ss. IsTop ss c.args.s c.top_of-t.result) c.as_slice.ensures.value c.top_of-t.ensures)

pub returns-in_err-answer-clause-reply : goal.returns-in_err-answer-clause-reply
returns-in_err-answer-clause-reply g c = λ db d x h has same.
    let kept = before_reads c.args.stmt.now c.top_of-t.result _ _ _ _ c.requires.reads c.in_err-answer.ensures.as_before in
    tries_failing g.K.Keep.as_keeper c.args.current.now _ db (reply_sql d db c.args.s x c.args.stmt.now c.args.binds.now c.args.left) c.from_residual-in_err-answer.result _ c.from_residual-in_err-answer.ensures.1
    (untouched g.K.Keep.as_keeper c.args.current.now _ db h c.run_sql.ensures.catalogue (c.of.ensures.current (lists_of db) h.own_keys h.views_are h.catalogue_is)
    (c.run_sql.ensures.remains.current (lists_of db) h.own_keys h.books_are h.catalogue_is) kept.0 refl (kept_same g.K.Keep.as_keeper c.args.current.now.world.keeper _ kept.1))

-- what the statement left of the transaction, which alone may have begun
pub back_to_mark-requires-clause-live : goal.back_to_mark-requires-clause-live
back_to_mark-requires-clause-live g c =
    let held = c.requires.held in
    leaves_live c.args.current.now.world.tx.contents c.run_sql.new.world.tx.contents c.top_of-t.result c.top_of-t.result _ c.run_sql.ensures.remains.leaves
    (top_live c.args.current.now.world.tx.contents c.top_of-t.result
    (fits g.K.Keep.as_keeper c.args.current.now held.database held.holds c.args.s held.session held.has.there c.top_of-t.result (subst (λ ss. IsTop ss c.args.s c.top_of-t.result) c.as_slice.ensures.value c.top_of-t.ensures)).top)

pub back_to_mark-requires-clause-mark : goal.back_to_mark-requires-clause-mark
back_to_mark-requires-clause-mark g c =
    let db = c.requires.held.database in
    let h = c.requires.held.holds in
    let seen = c.in_ok-view.ensures.view (lists_of db) h.own_keys h.views_are h.catalogue_is in
    let shown : IsViewOf (lists_of db) c.args.e c.get.result.now = subst (IsViewOf (lists_of db) c.args.e) (sym c.get.ensures) seen in
    still_mark_of c.args.current.now.world.tx.contents c.run_sql.new.world.tx.contents c.top_of-t.result c.in_ok-mark.mark c.in_ok-mark.ensures.mark c.in_ok-mark.ensures.later
    (run_over (names_of (lists_of db)) (own_place c.get.result.now.edition c.top_of-t.result) c.args.stmt.now c.args.binds.now c.args.left c.room_for-room.result c.args.current.now.world.tx.contents c.run_sql.new.world.tx.contents (g.K.Keep.as_keeper c.args.current.now.world.keeper) (g.K.Keep.as_keeper c.run_sql.new.world.keeper) c.in_ok-answer.answer c.requires.reads
    (c.in_ok-answer.ensures.exact (lists_of db) h.own_keys h.books_are h.catalogue_is (shown.is ∙ ap (View (lists_of db)) (sym (ap (λ (v : EditionView). v.edition) shown.is)))))

pub returns-in-Ok-clause-reply : goal.returns-in-Ok-clause-reply
returns-in-Ok-clause-reply g c = λ db d x h has same.
    let seen = c.in_ok-view.ensures.view (lists_of db) h.own_keys h.views_are h.catalogue_is in
    let shown : IsViewOf (lists_of db) c.args.e c.get.result.now = subst (IsViewOf (lists_of db) c.args.e) (sym c.get.ensures) seen in
    tried_so g.K.Keep.as_keeper true c.args.current.now _ db (c.in_ok-answer.answer, None) c.in-Ok.told (reply_sql d db c.args.s x c.args.stmt.now c.args.binds.now c.args.left)
    (ran_reply g.K.Keep.as_keeper c.args.current.now _ db h c.args.s x has.there c.args.e d same c.args.stmt.now c.args.binds.now c.args.left c.room_for-room.result c.top_of-t.result c.get.result.now
    (subst (λ ss. IsTop ss c.args.s c.top_of-t.result) c.as_slice.ensures.value c.top_of-t.ensures) shown
    (room_of (g.K.Keep.as_keeper c.args.current.now.world.keeper).used c.args.current.now.world.tx.contents c.args.current.now.seats.items db c.args.s x h.seated has.there c.seat_of.result.now c.args.ask.now c.room_for-room.result
    (subst (λ ss. Some c.seat_of.result.now ≡ seat_at ss c.args.s.0) c.as_slice-2.ensures.value c.seat_of.ensures) c.room_for-room.ensures (Sql c.args.stmt.now c.args.binds.now c.args.left) c.requires.is)
    c.run_sql.ensures.catalogue
    (c.of.ensures.current (lists_of db) h.own_keys h.views_are h.catalogue_is) refl c.run_sql.ensures.remains (Ok c.in_ok-answer.answer)
    (c.in_ok-answer.ensures.exact (lists_of db) h.own_keys h.books_are h.catalogue_is (shown.is ∙ ap (View (lists_of db)) (sym (ap (λ (v : EditionView). v.edition) shown.is))))) c.in-Ok.ensures

pub returns-clause-reply : goal.returns-clause-reply
returns-clause-reply g c = λ db d x h has same.
    let seen = c.in_ok-view.ensures.view (lists_of db) h.own_keys h.views_are h.catalogue_is in
    let shown : IsViewOf (lists_of db) c.args.e c.get.result.now = subst (IsViewOf (lists_of db) c.args.e) (sym c.get.ensures) seen in
    let said = c.in_ok-answer.ensures.exact (lists_of db) h.own_keys h.books_are h.catalogue_is (shown.is ∙ ap (View (lists_of db)) (sym (ap (λ (v : EditionView). v.edition) shown.is))) in
    let over = run_over (names_of (lists_of db)) (own_place c.get.result.now.edition c.top_of-t.result) c.args.stmt.now c.args.binds.now c.args.left c.room_for-room.result c.args.current.now.world.tx.contents c.run_sql.new.world.tx.contents (g.K.Keep.as_keeper c.args.current.now.world.keeper) (g.K.Keep.as_keeper c.run_sql.new.world.keeper) c.in_ok-answer.answer c.requires.reads said in
    untouched g.K.Keep.as_keeper c.args.current.now _ db h c.run_sql.ensures.catalogue (c.of.ensures.current (lists_of db) h.own_keys h.views_are h.catalogue_is)
    (c.run_sql.ensures.remains.current (lists_of db) h.own_keys h.books_are h.catalogue_is)
    (undone_to c.args.current.now.world.tx.contents c.run_sql.new.world.tx.contents c.back_to_mark.new.self.contents c.top_of-t.result c.in_ok-mark.mark c.in_ok-mark.ensures.mark over c.back_to_mark.ensures.contents) refl
    (run_grew (names_of (lists_of db)) (own_place c.get.result.now.edition c.top_of-t.result) c.args.stmt.now c.args.binds.now c.args.left c.room_for-room.result c.args.current.now.world.tx.contents c.run_sql.new.world.tx.contents (g.K.Keep.as_keeper c.args.current.now.world.keeper) (g.K.Keep.as_keeper c.run_sql.new.world.keeper) c.in_ok-answer.answer c.requires.reads said)
