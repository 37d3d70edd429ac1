-- The beginning of a call.
use Rattle.std.proofs.Common.{◌≡◌, List, [], sym, ap, subst, ◌∙◌}
use Rattle.std.specs.Prelude.{Some, Result, Ok}
use Rattle.ebr_base.specs.declared.numbers.EditionNo.{EditionNo}
use Rattle.ebr_base.specs.declared.numbers.SessionId.{SessionId}
use Rattle.ebr_ast.specs.declared.view.EditionView.{EditionView}
use Rattle.ebr_asks.specs.declared.answer.Answer.TheVariants as answer
use Rattle.ebr_cross.specs.Catalogue.{Lists, IsViewOf, View as seen_in}
use Rattle.ebr_record.specs.Keeper.{Keeper}
use Rattle.ebr_database.specs.Shows.{Grew}
use Rattle.ebr_database.specs.Database.{Session, Database, session_at}
use Rattle.ebr_database.proofs.Keeping.{grew_same}
use Rattle.ebr_seats.specs.Ends.{call_opened}
use Rattle.ebr_seats.specs.Seats.{Holds as Seated}
use Rattle.ebr_units.specs.Living.{AreCurrent, Gives}
use Rattle.ebr_levels.proofs.ReplyLemmas.{early_opened}
use Rattle.ebr_core.specs.declared.current.Current.{Current}
use Rattle.ebr_core.specs.Machine.{lists_of, reply_begin}
use Rattle.ebr_core.specs.inside.Held.{Holds, IsBookOf, IsReplied}

pub begun : {K : Type 0} (as_keeper : K → Keeper) (old new : Current K) (db : Database) (e d : EditionNo) (s : SessionId) (x : Session) (v : EditionView) → Holds as_keeper old db → session_at db.sessions s.0 ≡ Some x → d ≡ e
    → new.world.catalogue ≡ old.world.catalogue → new.world.keeper ≡ old.world.keeper → AreCurrent (lists_of db) new.views → AreCurrent (lists_of db) new.world.book
    → Seated (as_keeper old.world.keeper).used new.world.tx.contents new.seats.items (call_opened db s x) → IsViewOf (lists_of db) e v
    → IsReplied as_keeper old new (answer.View v) (reply_begin d db s x)
begun as_keeper old new db e d s x v h there same catalogue keeper views books seated seen = record {
  answer = ap answer.View (seen.is ∙ ap (λ k. seen_in (lists_of db) k) (sym same));
  grew = subst (λ k. Grew (as_keeper old.world.keeper) (as_keeper k) []) (sym keeper) (grew_same (as_keeper old.world.keeper));
  holds = record {
    catalogue_is = catalogue ∙ h.catalogue_is;
    own_keys = h.own_keys;
    views_are = views;
    books_are = books;
    seated = subst (λ k. Seated (as_keeper k).used new.world.tx.contents new.seats.items (call_opened db s x)) (sym keeper) seated;
    reached = h.reached;
    early = early_opened db s h.early x there;
  };
}

-- the books after one was asked for
pub book_current : {E : Type 0} (c : Lists) (v : EditionView) (e : EditionNo) (old : List EditionView) (r : Result EditionView E) (new : List EditionView) → IsViewOf c e v → AreCurrent c old
    → (IsViewOf c v.edition v → Gives c v.edition old r new) → AreCurrent c new
book_current c v e old r new seen current gives =
    let at : IsViewOf c v.edition v = subst (λ k. IsViewOf c k v) (sym (ap (λ (w : EditionView). w.edition) seen.is)) seen in
    (gives at).keeps.current

-- the book of the view that comes with it
pub book_of_view : {E : Type 0} (c : Lists) (v : EditionView) (e : EditionNo) (old : List EditionView) (b : EditionView) (new : List EditionView) → IsViewOf c e v
    → (IsViewOf c v.edition v → Gives {E = E} c v.edition old (Ok b) new) → IsBookOf (answer.View v) (Some b)
book_of_view c v e old b new seen gives =
    let at : IsViewOf c v.edition v = subst (λ k. IsViewOf c k v) (sym (ap (λ (w : EditionView). w.edition) seen.is)) seen in
    (ap Some ((gives at).book.is ∙ sym at.is), seen.order)
