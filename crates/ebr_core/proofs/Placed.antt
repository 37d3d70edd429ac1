-- What an ask in the right place finds.
use Rattle.std.proofs.Common.{◌≡◌, ℕ, ◌<◌, Bool, true, false, refl, sym, ap, subst, ◌∙◌, arith, [], append-nil}
use Rattle.std.specs.Prelude.{Option, Some, None, not, is_some, min, ◌==◌, ◌&&◌, if◌then◌else◌}
use Rattle.std.proofs.lemmas.Bool.{eqb-false}
use Rattle.std.proofs.lemmas.Option.{same_Some}
use Rattle.ebr_base.specs.declared.numbers.EditionNo.{EditionNo}
use Rattle.ebr_base.specs.declared.numbers.SessionId.{SessionId}
use Rattle.ebr_asks.specs.declared.ask.Ask.{Ask}
use Rattle.ebr_asks.specs.declared.ask.Ask.TheVariants.{PushAuto, PopAuto, EndCall}
use Rattle.ebr_record.specs.Keeper.{Keeper}
use Rattle.ebr_database.specs.Database.{Session, Database, data_of, own_on_top}
use Rattle.ebr_seats.specs.declared.seat.Seat.{Seat}
use Rattle.ebr_seats.specs.Seats.{seat_at}
use Rattle.ebr_base.specs.declared.code.Code.{Code}
use Rattle.ebr_base.specs.declared.code.Code.TheVariants.{Ebr}
use Rattle.ebr_asks.specs.declared.answer.Answer.{Answer}
use Rattle.ebr_asks.specs.declared.answer.Answer.TheVariants as answer
use Rattle.ebr_tx.specs.Calls.{levels}
use Rattle.ebr_seats.specs.Tests.{first_tests, has_no_room, is_misplaced, is_one_too_many}
use Rattle.ebr_seats.proofs.Stacks.{levels_are}
use Rattle.ebr_seats.proofs.Replies.{held, own_here}
use Rattle.ebr_core.specs.declared.current.Current.{Current}
use Rattle.ebr_core.specs.Machine.{refused}
use Rattle.ebr_core.specs.inside.Held.{Holds, HasSession, IsHeld, IsPlaced, IsReplied}
use Rattle.ebr_core.proofs.HeldAgain.{leaves_on}

abbrev some_code : Option Code → Option Code
some_code o = o

of_not : (b : Bool) → not b ≡ false → b ≡ true
of_not true e = refl
of_not false e = cc

second : (a b : Bool) → not (a && b) ≡ false → b ≡ true
second true true e = refl
second true false e = cc
second false b e = cc

module _ {K : Type 0} (as_keeper : K → Keeper) (now : Current K) (s : SessionId) where
  pub placed_call : (ask : Ask) → ask ≡ PushAuto → IsPlaced as_keeper now s ask → (db : Database) (e : EditionNo) (x : Session) → Holds as_keeper now db → HasSession as_keeper db s e x → is_some x.call ≡ true
  placed_call ask is placed db e x h has = of_not (is_some x.call) (subst (λ a. is_misplaced db s x a ≡ false) is (placed db e x h has))

  pub placed_end : (ask : Ask) (failed : Bool) → ask ≡ EndCall failed → IsPlaced as_keeper now s ask → (db : Database) (e : EditionNo) (x : Session) → Holds as_keeper now db → HasSession as_keeper db s e x → own_on_top (data_of db) s ≡ true
  placed_end ask failed is placed db e x h has = second (is_some x.call) (own_on_top (data_of db) s) (subst (λ a. is_misplaced db s x a ≡ false) is (placed db e x h has))

  pub placed_level : IsHeld as_keeper now s → (ask : Ask) (failed : Bool) → ask ≡ PopAuto failed → IsPlaced as_keeper now s ask → (seat : Seat) → seat_at now.seats.items s.0 ≡ Some seat → 0 < seat.levels
  placed_level h ask failed is placed seat at =
      let there = h.has.there in
      let sd = held (as_keeper now.world.keeper).used now.world.tx.contents now.seats.items h.database s h.session h.holds.seated there in
      let own : own_on_top (data_of h.database) s ≡ false = subst (λ a. is_misplaced h.database s h.session a ≡ false) is (placed h.database h.edition h.session h.holds h.has) in
      let level : (sd.seat.levels == 0) ≡ false = sym (own_here (as_keeper now.world.keeper).used now.world.tx.contents now.seats.items h.database s h.session h.holds.seated there) ∙ own in
      above sd.seat.levels (eqb-false sd.seat.levels 0 level) (ap (λ (q : Seat). q.levels) (same_Some sd.seat seat (sym sd.there ∙ at)))
    where
      above : (n : ℕ) → (n ≡ 0 → ⊥) → n ≡ seat.levels → 0 < seat.levels
      above n some same = omega (arith, some, same)

  -- the first tests of the session's seat are those of the session
  pub tests_are : (ask : Ask) (seat : Seat) (res : Option Code) → Some seat ≡ seat_at now.seats.items s.0
      → ((db : Database) (r : SessionId) (x : Session) → seat.call ≡ x.call → seat.levels ≡ levels (data_of db) r → seat.asks ≡ min 50000 x.asks → seat.carried ≡ min 16777217 x.carried → res ≡ first_tests db r x ask)
      → (db : Database) (e : EditionNo) (x : Session) → Holds as_keeper now db → HasSession as_keeper db s e x → res ≡ first_tests db s x ask
  tests_are ask seat res at by db e x h has =
      let sd = held (as_keeper now.world.keeper).used now.world.tx.contents now.seats.items db s x h.seated has.there in
      let same : sd.seat ≡ seat = same_Some sd.seat seat (sym sd.there ∙ sym at) in
      let levels_eq : sd.seat.levels ≡ levels (data_of db) s = sym (levels_are now.world.tx.contents s sd.seat.levels sd.sits.stack) ∙ ap (λ d. levels d s) h.seated.data_is in
      by db s x (ap (λ (q : Seat). q.call) (sym same) ∙ sd.sits.call) (ap (λ (q : Seat). q.levels) (sym same) ∙ levels_eq)
      (ap (λ (q : Seat). q.asks) (sym same) ∙ sd.sits.asks) (ap (λ (q : Seat). q.carried) (sym same) ∙ sd.sits.carried)

  pub refused_here : (db : Database) → Holds as_keeper now db → (code : Code) (a : Answer) → a ≡ answer.Refused code 0 [] → IsReplied as_keeper now now a (refused db code)
  refused_here db h code a is =
      subst (λ b. IsReplied as_keeper now now b (refused db code)) (sym is)
      (leaves_on as_keeper now now db h refl refl refl (refused db code) (sym (append-nil db.records)) h.early refl (answer.Refused code 0 []) (record { answer = refl; none = refl; holds = h.seated }))

last_test : (a b c : Bool) → some_code (if a then Some (Ebr 10) else (if b then Some (Ebr 11) else (if c then Some (Ebr 15) else None))) ≡ None → c ≡ false
last_test true b c e = cc
last_test false true c e = cc
last_test false false true e = cc
last_test false false false e = refl

pub in_place : (db : Database) (s : SessionId) (x : Session) (ask : Ask) → first_tests db s x ask ≡ None → is_misplaced db s x ask ≡ false
in_place db s x ask e = last_test (is_one_too_many x ask) (has_no_room x ask) (is_misplaced db s x ask) e
