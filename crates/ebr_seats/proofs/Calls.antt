-- The beginnings and ends of calls and sessions, and what is counted.
use Rattle.std.proofs.Common.{◌≡◌, ℕ, zero, suc, ◌-◌, ◌+◌, ◌<◌, min, Bool, true, false, List, refl, sym, ap, subst, ◌∙◌, arith}
use Rattle.std.specs.Prelude.{filter, not, Option, Some, None, IfSome}
use Rattle.std.proofs.lemmas.Bool.{eqb-true}
use Rattle.ebr_base.specs.declared.numbers.EditionNo.{EditionNo}
use Rattle.ebr_base.specs.declared.numbers.SessionId.{SessionId}
use Rattle.ebr_asks.specs.declared.ask.Ask.{Ask}
use Rattle.ebr_asks.specs.declared.answer.Answer.{Answer}
use Rattle.ebr_asks.specs.declared.answer.Answer.TheVariants as answer
use Rattle.ebr_tx.specs.declared.savepoints.TxMark.{TxMark}
use Rattle.ebr_tx.specs.Data.{Data, names_of, stack_of, named_at}
use Rattle.ebr_tx.specs.Calls.{HasLevel, IsMarkOf, levels, mark_of, after_mark, after_pop, after_rollback, top}
use Rattle.ebr_locks.specs.Locks.{same_tx}
use Rattle.ebr_database.specs.Storable.{AllStorable}
use Rattle.ebr_database.specs.Carried.{ask_weight, answer_weight}
use Rattle.ebr_database.specs.Database.{Session, Database, data_of, session_at, with_session, counted, own_on_top}
use Rattle.ebr_database.proofs.AllStays.{to_mark}
use Rattle.ebr_seats.specs.declared.seat.Seat.{Seat}
use Rattle.ebr_seats.specs.Tests.{max_asks}
use Rattle.ebr_seats.specs.Ends.{back_where, call_opened, closed_from_top, all_undone, with_live, reply_end, reply_leave}
use Rattle.ebr_seats.specs.Seats.{Holds, IsHeld, IsSeatOf, Leaves, seat_at, with_seat, stack_to, counted_seat, too_much}
use Rattle.ebr_seats.specs.inside.Apart.{Others}
use Rattle.ebr_seats.proofs.Others.{Touches, others, others_others, others_same, touches_same, rolled_back, back_at_mark}
use Rattle.ebr_seats.proofs.Stacks.{levels_are}
use Rattle.ebr_seats.proofs.Seated.{Seated, seated, sit_again}
use Rattle.ebr_seats.proofs.Live.{has_level}
use Rattle.ebr_seats.proofs.Marks.{Marked, seat_again}
use Rattle.ebr_seats.proofs.Replies.{held}
use Rattle.ebr_seats.proofs.Levels.{pop_stack, pop_others}

-- ---- what is counted

more_asks : (n m : ℕ) → n ≡ min max_asks m → min n 49999 + 1 ≡ min max_asks (m + 1)
more_asks n m e = omega (arith, e)

more_carried : (c n a b x y : ℕ) → c ≡ min too_much n → a ≡ min too_much x → b ≡ min too_much y → min (min c too_much + min a too_much + min b too_much) too_much ≡ min too_much (n + (x + y))
more_carried c n a b x y e f g = omega (arith, e, f, g)

module _ (used : ℕ) (d : Data) (seats : List Seat) (db : Database) (s : SessionId) (x : Session) (h : Holds used d seats db) (there : session_at db.sessions s.0 ≡ Some x) where
  abbrev sd : Seated d seats s x
  sd = held used d seats db s x h there

  -- the session alone is another
  pub session_again : (seat' : Seat) (x' : Session) → IsSeatOf d s seat' x' → Holds used d (with_seat seats s seat') (with_session db s x')
  session_again seat' x' sits = record {
    data_is = h.data_is;
    used_is = h.used_is;
    storable = h.storable;
    sit = sit_again d d seats db.sessions s sd.seat seat' x x' h.sit (others_same d s) sd.there there sits;
  }

  pub edition_set : (e : EditionNo) → Holds used d (with_seat seats s (record sd.seat { edition = Some e })) (with_session db s (record x { edition = Some e }))
  edition_set e = session_again (record sd.seat { edition = Some e }) (record x { edition = Some e }) (record {
    edition = refl;
    call = sd.sits.call;
    asks = sd.sits.asks;
    carried = sd.sits.carried;
    stack = sd.sits.stack;
    mark = sd.sits.mark;
    closed = sd.sits.closed;
  })

  pub ask_counted : (ask : Ask) (a : Answer) (asked answered : ℕ) → asked ≡ min too_much (ask_weight ask) → answered ≡ min too_much (answer_weight a)
      → Holds used d (with_seat seats s (counted_seat asked answered sd.seat)) (with_session db s (counted ask a x))
  ask_counted ask a asked answered f g = session_again (counted_seat asked answered sd.seat) (counted ask a x) (record {
    edition = sd.sits.edition;
    call = sd.sits.call;
    asks = more_asks sd.seat.asks x.asks sd.sits.asks;
    carried = more_carried sd.seat.carried x.carried asked answered (ask_weight ask) (answer_weight a) sd.sits.carried f g;
    stack = sd.sits.stack;
    mark = sd.sits.mark;
    closed = sd.sits.closed;
  })

  -- ---- a call begins

  some_call : (m : TxMark) → Some m ≡ None → sd.seat.levels ≡ 0
  some_call m e = cc

  pub opened : (m : TxMark) → m ≡ mark_of d (named_at s 0) → IsMarkOf d (named_at s 0) m → Holds used d (with_seat seats s (record sd.seat { call = Some m })) (call_opened db s x)
  opened m is mark =
      subst (λ k. Holds used d (with_seat seats s (record sd.seat { call = Some m })) (with_session db s (record x { call = Some k }))) (is ∙ ap (λ e. mark_of e (named_at s 0)) h.data_is)
      (session_again (record sd.seat { call = Some m }) (record x { call = Some m }) (record {
        edition = sd.sits.edition;
        call = refl;
        asks = sd.sits.asks;
        carried = sd.sits.carried;
        stack = sd.sits.stack;
        mark = mark;
        closed = some_call m;
      }))

  -- ---- and ends

  pub mark_there : (call : Option TxMark) → ((seat : Seat) → seat_at seats s.0 ≡ Some seat → call ≡ seat.call) → IfSome call (IsMarkOf d (named_at s 0))
  mark_there call is = subst (Marked d s) (sym (is sd.seat sd.there ∙ sd.sits.call)) sd.sits.mark

  module _ (d' : Data) where
    touches_back : (failed : Bool) (call : Option TxMark) → names_of d'.live ≡ names_of d.live → d' ≡ back_where failed call (named_at s 0) d → Touches d d' (named_at s 0)
    touches_back true (Some m) names is = back_at_mark d d' (named_at s 0) names m is
    touches_back true None names is = touches_same d d' (named_at s 0) is
    touches_back false call names is = touches_same d d' (named_at s 0) is

    storable_back : (failed : Bool) (call : Option TxMark) → AllStorable d → AllStorable (back_where failed call (named_at s 0) d)
    storable_back true (Some m) all = to_mark d (named_at s 0) m all
    storable_back true None all = all
    storable_back false call all = all

    held_back : (failed : Bool) (call : Option TxMark) (e : Data) → e ≡ data_of db → back_where failed call (named_at s 0) e ≡ data_of (with_live db (back_where failed call (named_at s 0) (data_of db)))
    held_back true (Some m) e is = ap (λ f. after_mark f (named_at s 0) m) is
    held_back true None e is = is
    held_back false call e is = is

    pub ended : (failed : Bool) (call : Option TxMark) → ((seat : Seat) → seat_at seats s.0 ≡ Some seat → call ≡ seat.call) → names_of d'.live ≡ names_of d.live
        → d' ≡ back_where failed call (named_at s 0) d → own_on_top (data_of db) s ≡ true → Leaves used d' (with_seat seats s (record sd.seat { call = None })) answer.Done (reply_end db s x failed)
    ended failed call call_is names is on_top =
        let call_eq : call ≡ x.call = call_is sd.seat sd.there ∙ sd.sits.call in
        let is' : d' ≡ back_where failed x.call (named_at s 0) d = is ∙ ap (λ c. back_where failed c (named_at s 0) d) call_eq in
        let touched : Touches d d' (named_at s 0) = touches_back failed x.call names is' in
        let bottom : sd.seat.levels ≡ 0 =
        sym (levels_are d s sd.seat.levels sd.sits.stack) ∙ ap (λ e. levels e s) h.data_is ∙ eqb-true (levels (data_of db) s) 0 on_top in
        record {
          answer = refl;
          none = refl;
          holds = record {
            data_is = is' ∙ held_back failed x.call d h.data_is;
            used_is = h.used_is;
            storable = subst AllStorable (sym is') (storable_back failed x.call h.storable);
            sit = sit_again d d' seats db.sessions s sd.seat (record sd.seat { call = None }) x (record x { call = None }) h.sit (others d d' (named_at s 0) s refl touched) sd.there there
                (seat_again d d' (named_at s 0) s sd.seat x None sd.sits touched tt (λ e. bottom));
          };
        }

-- ---- a session leaves

-- where the levels from the top down are being closed
pub record Closing (first now : Data) (s : SessionId) (levels n : ℕ) : Type 0 where
  pub goes_on : closed_from_top n s now ≡ closed_from_top levels s first
  pub stack : stack_of (names_of now.live) s ≡ stack_to s n
  pub storable : AllStorable now
  pub others : Others first now s

pub closing_begins : (d : Data) (s : SessionId) (n : ℕ) → stack_of (names_of d.live) s ≡ stack_to s n → AllStorable d → Closing d d s n n
closing_begins d s n stack storable = record { goes_on = refl; stack = stack; storable = storable; others = others_same d s }

less_one : (m t : ℕ) → t < m → m - t ≡ suc (m - (t + 1))
less_one m t h = omega (arith, h)

module _ (first now : Data) (s : SessionId) (all turn : ℕ) (less : turn < all) (c : Closing first now s all (all - turn)) where
  pub closing_level : HasLevel now s
  closing_level = has_level now s (all - turn) c.stack (omega (arith, less))

  at_suc : stack_of (names_of now.live) s ≡ stack_to s (suc (all - (turn + 1)))
  at_suc = c.stack ∙ ap (stack_to s) (less_one all turn less)

  pub closing_more : (next : Data) → next ≡ after_pop now s → names_of next.live ≡ filter (λ n. not (same_tx n (top now s))) (names_of now.live) → AllStorable next → Closing first next s all (all - (turn + 1))
  closing_more next is names storable = record {
    goes_on = ap (closed_from_top (all - (turn + 1)) s) is ∙ ap (λ n. closed_from_top n s now) (sym (less_one all turn less)) ∙ c.goes_on;
    stack = pop_stack now next s (all - (turn + 1)) at_suc is names;
    storable = storable;
    others = others_others first now next s c.others (pop_others now next s (all - (turn + 1)) at_suc is names);
  }

closed_keeps : (n : ℕ) (s : SessionId) (d : Data) → closed_from_top n s d ≡ record d { live = (closed_from_top n s d).live; locks = (closed_from_top n s d).locks }
closed_keeps zero s d = refl
closed_keeps (suc n) s d = closed_keeps n s (after_pop d s)

undone_keeps : (n : ℕ) (s : SessionId) (d : Data)
    → after_rollback (closed_from_top n s d) (named_at s 0) ≡ record d { live = (after_rollback (closed_from_top n s d) (named_at s 0)).live; locks = (after_rollback (closed_from_top n s d) (named_at s 0)).locks }
undone_keeps n s d = let same : closed_from_top n s d ≡ record d { live = (closed_from_top n s d).live; locks = (closed_from_top n s d).locks } = closed_keeps n s d in
    λ i. record {
      commits = (same i).commits;
      tables = (same i).tables;
      live = (after_rollback (closed_from_top n s d) (named_at s 0)).live;
      locks = (after_rollback (closed_from_top n s d) (named_at s 0)).locks;
    }

module _ (used : ℕ) (d : Data) (seats : List Seat) (db : Database) (s : SessionId) (x : Session) (h : Holds used d seats db) (there : session_at db.sessions s.0 ≡ Some x) where
  abbrev sits_at : Seated d seats s x
  sits_at = held used d seats db s x h there

  pub all_left : (mid d' : Data) → mid ≡ closed_from_top sits_at.seat.levels s d → stack_of (names_of mid.live) s ≡ stack_to s 0 → Others d mid s
      → d' ≡ after_rollback mid (named_at s 0) → names_of d'.live ≡ names_of mid.live → AllStorable d'
      → Leaves used d' (with_seat seats s (record sits_at.seat { edition = None; call = None; levels = 0 })) answer.Done (reply_leave db s x)
  all_left mid d' mid_is stack apart is names storable =
      let depth : sits_at.seat.levels ≡ levels (data_of db) s = sym (levels_are d s sits_at.seat.levels sits_at.sits.stack) ∙ ap (λ e. levels e s) h.data_is in
      let all : d' ≡ all_undone s (data_of db) =
      is ∙ ap (λ e. after_rollback e (named_at s 0)) mid_is ∙ ap (λ n. after_rollback (closed_from_top n s d) (named_at s 0)) depth
      ∙ ap (λ e. after_rollback (closed_from_top (levels (data_of db) s) s e) (named_at s 0)) h.data_is in
      record {
        answer = refl;
        none = refl;
        holds = record {
          data_is = all ∙ undone_keeps (levels (data_of db) s) s (data_of db);
          used_is = h.used_is;
          storable = storable;
          sit = sit_again d d' seats db.sessions s sits_at.seat (record sits_at.seat { edition = None; call = None; levels = 0 }) x (record x { edition = None; call = None }) h.sit
              (others_others d mid d' s apart (others mid d' (named_at s 0) s refl (rolled_back mid d' (named_at s 0) names is))) sits_at.there there (record {
                edition = refl;
                call = refl;
                asks = sits_at.sits.asks;
                carried = sits_at.sits.carried;
                stack = ap (λ ns. stack_of ns s) names ∙ stack;
                mark = tt;
                closed = λ e. refl;
              });
        };
      }

abbrev pub AreLevels : List Seat → SessionId → ℕ → Type 0
AreLevels seats s n = (seat : Seat) → seat_at seats s.0 ≡ Some seat → n ≡ seat.levels

pub stack_by : (d : Data) (seats : List Seat) (s : SessionId) (h : IsHeld d seats s) (n : ℕ) → ((seat : Seat) → seat_at seats s.0 ≡ Some seat → n ≡ seat.levels) → stack_of (names_of d.live) s ≡ stack_to s n
stack_by d seats s h n is = let sd : Seated d seats s h.session = seated h.used d seats h.database s h.session h.holds h.there in sd.sits.stack ∙ ap (stack_to s) (sym (is sd.seat sd.there))
