-- A session leaves, and is counted.
use Rattle.std.proofs.Common.{◌≡◌, ℕ, List, [], refl, sym, ap, subst, ◌∙◌, append-nil}
use Rattle.std.specs.Prelude.{Some, None}
use Rattle.ebr_base.specs.declared.numbers.EditionNo.{EditionNo}
use Rattle.ebr_base.specs.declared.numbers.SessionId.{SessionId}
use Rattle.ebr_asks.specs.declared.ask.Ask.TheVariants.{Leave}
use Rattle.ebr_asks.specs.declared.answer.Answer.TheVariants.{Done}
use Rattle.ebr_record.specs.Keeper.{Keeper}
use Rattle.ebr_tx.specs.Data.{Data}
use Rattle.ebr_database.specs.Database.{Session, Database, Replied, counted, session_at, with_session}
use Rattle.ebr_seats.specs.declared.seat.Seat.{Seat}
use Rattle.ebr_seats.specs.Ends.{reply_leave}
use Rattle.ebr_seats.specs.Seats.{HasSeat, Holds as Seated}
use Rattle.ebr_seats.proofs.Live.{has_seat}
use Rattle.ebr_levels.proofs.ReplyLemmas.{early_counted, early_leave}
use Rattle.ebr_core.specs.declared.current.Current.{Current}
use Rattle.ebr_core.specs.Machine.{Reply, counted_in, counting, reply_in}
use Rattle.ebr_core.specs.inside.Held.{Holds, IsReplied}
use Rattle.ebr_core.proofs.HeldAgain.{leaves_on}
use Rattle.ebr_core.proofs.Lives.{leave_is, session_here}

-- the session that has left
abbrev pub left : Session → Session
left x = record x { edition = None; call = None }

pub left_there : (db : Database) (s : SessionId) (x : Session) → session_at db.sessions s.0 ≡ Some x → session_at (reply_leave db s x).database.sessions s.0 ≡ Some (left x)
left_there db s x there = session_here db.sessions s.0 x (left x) there

pub left_seat : (used : ℕ) (d : Data) (seats : List Seat) (db : Database) (s : SessionId) (x : Session) → session_at db.sessions s.0 ≡ Some x → Seated used d seats (reply_leave db s x).database → HasSeat seats s
left_seat used d seats db s x there h = has_seat d seats s (record { used = used; database = (reply_leave db s x).database; session = left x; holds = h; there = left_there db s x there })

module _ {K : Type 0} (as_keeper : K → Keeper) (old new : Current K) (db : Database) (s : SessionId) (e : EditionNo) (x : Session) (h : Holds as_keeper old db) (there : session_at db.sessions s.0 ≡ Some x) (edition : x.edition ≡ Some e)
    (catalogue : new.world.catalogue ≡ old.world.catalogue) (views : new.views ≡ old.views) (books : new.world.book ≡ old.world.book) (keeper : new.world.keeper ≡ old.world.keeper) where
  abbrev is_counted : Replied
  is_counted = record { database = with_session (reply_leave db s x).database s (counted Leave Done (left x)); answer = Done; records = []; questions = [] }

  counted_is : counting s Leave (reply_in e db s x Leave) ≡ is_counted
  counted_is = ap (λ o. record { database = counted_in (reply_leave db s x).database s Leave Done o; answer = Done; records = []; questions = [] }) (left_there db s x there)

  reply_is : Reply db s Leave ≡ is_counted
  reply_is = leave_is db s e x there edition ∙ counted_is

  pub has_left : Seated (as_keeper old.world.keeper).used new.world.tx.contents new.seats.items (with_session (reply_leave db s x).database s (counted Leave Done (left x))) → IsReplied as_keeper old new Done (Reply db s Leave)
  has_left seated =
      subst (IsReplied as_keeper old new Done) (sym reply_is)
      (leaves_on as_keeper old new db h catalogue views books is_counted (sym (append-nil db.records))
      (early_counted (reply_leave db s x).database s (early_leave db s h.early x there) (left x) (left_there db s x there) Leave Done) keeper Done (record { answer = refl; none = refl; holds = seated }))
