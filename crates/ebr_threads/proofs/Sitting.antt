-- A worker's turn at its chair.
use Rattle.std.proofs.Common.{◌≡◌, ℕ, ◌+◌, ◌-◌, ◌<◌, Bool, true, false, List, [], ◌∷◌, ◌++◌, length, refl, sym, ap, subst, ◌∙◌, arith}
use Rattle.std.specs.Prelude.{Option, Some, None, is_some, not}
use Rattle.std.proofs.lemmas.List.{length-append}
use Rattle.ebr_base.specs.declared.numbers.SessionId.{SessionId}
use Rattle.ebr_asks.specs.declared.ask.Ask.{Ask}
use Rattle.ebr_asks.specs.declared.answer.Answer.{Answer}
use Rattle.ebr_asks.specs.declared.entry.Exchange.{Exchange}
use Rattle.ebr_report.specs.declared.ends.EndKind.{EndKind}
use Rattle.ebr_session.specs.Transcripts.{exchange}
use Rattle.ebr_worker.specs.declared.limits.TheConstants.{MAX_ASKS}
use Rattle.ebr_worker.specs.Paced.{IsSession}
use Rattle.ebr_worker.specs.Turn.{Happens, HasHad, MayTurn, MayTurnBy, TakesTurn}
use Rattle.ebr_worker.specs.Work.{Runs, Work}
use Rattle.ebr_turn.specs.Chairs.{ChairState, TurnId}
use Rattle.ebr_threads.specs.Booking.{IsAtChair, asked, chair_of}
use Rattle.ebr_threads.specs.Seating.{HasSat, IsReady, Sits, StandsBy, WentOn}
use Rattle.ebr_threads.proofs.Living.{chair_more}

runs_of : (w : Work) → StandsBy w.end w → w.end ≡ None → Runs w
runs_of w stands none = subst (λ o. StandsBy o w) none stands

-- it may ask
pub at_chair : (z : TurnId) (sessions : ℕ) (w : Work) (c : ChairState Exchange) → Sits z sessions w c → w.end ≡ None → IsAtChair sessions w.session.session w.session.transcript c.view
at_chair z sessions w c sits none = record {
  is_session = sits.is_session;
  goes_on = (runs_of w sits.stands none).not_over;
  chair = sits.chair;
}

module _ {A : Type 0} (may_ask : A → SessionId → List Exchange → Type 0) where
  pub may_turn : (z : TurnId) (sessions : ℕ) (w : Work) (c : ChairState Exchange) (x : A) → Sits z sessions w c → w.end ≡ None → may_ask x w.session.session w.session.transcript → MayTurn may_ask w x
  may_turn z sessions w c x sits none may = subst (λ o. MayTurnBy may_ask o w x) (sym none) (runs_of w sits.stands none, may)

  pub stands_of : (w : Work) (x : A) → MayTurn may_ask w x → StandsBy w.end w
  stands_of w x may = by w.end may
    where
      by : (o : Option EndKind) → MayTurnBy may_ask o w x → StandsBy o w
      by None m = m.0
      by (Some k) come = come

-- its ask was answered
pub had_one : {A : Type 0} {may_ask : A → SessionId → List Exchange → Type 0} {replied : A → A → SessionId → Ask → Answer → Type 0} {w new : Work} {x y : A} → TakesTurn may_ask replied w new x y → w.end ≡ None → HasHad replied w new x y
had_one {A} {may_ask} {replied} {w} {new} {x} {y} turn none = subst (λ o. Happens replied o w new x y) none turn.happens

module _ (z : TurnId) (sessions : ℕ) (w new : Work) (c d : ChairState Exchange) (sits : Sits z sessions w c) (none : w.end ≡ None) (q : Ask) (a : Answer)
    (number : new.session.session ≡ w.session.session) (is : new.session.transcript ≡ w.session.transcript ++ exchange q a ∷ []) where
  pub sits_more : StandsBy new.end new → d.turn ≡ c.turn → d.view ≡ asked c.view q a → Sits z sessions new d
  sits_more stands turn view = record {
    turn = turn ∙ sits.turn;
    is_session = subst (IsSession sessions) (sym number) sits.is_session;
    stands = stands;
    chair = chair_more w.session.session w.session.transcript c.view d.view q a (runs_of w sits.stands none).few sits.chair view
        ∙ (λ i. chair_of (sym number i) (sym is i));
  }

pub one_longer : (was now : List Exchange) (x : Exchange) → now ≡ was ++ x ∷ [] → length now ≡ length was + 1
one_longer was now x is = ap length is ∙ length-append was (x ∷ [])

-- ---- to its end

-- The worker has come so far.
pub record Came (z : TurnId) (sessions : ℕ) (first w : Work) (c : ChairState Exchange) : Type 0 where
  pub sits : Sits z sessions w c
  pub went : WentOn first w

pub came_first : (z : TurnId) (sessions : ℕ) (w : Work) (c : ChairState Exchange) → IsReady z sessions w c → Came z sessions w w c
came_first z sessions w c ready = record { sits = ready.sits; went = record { session = refl; job = refl } }

pub came_more : (z : TurnId) (sessions : ℕ) (first w new : Work) (c d : ChairState Exchange) → Came z sessions first w c → Sits z sessions new d → WentOn w new → Came z sessions first new d
came_more z sessions first w new c d came sits one = record {
  sits = sits;
  went = record { session = one.session ∙ came.went.session; job = one.job ∙ came.went.job };
}

-- whether it has ended, by what the loop tests
pub goes_on : (o p : Option EndKind) (r : Bool) → p ≡ o → is_some p ≡ not r → r ≡ true → o ≡ None
goes_on o p r same is on = by o (ap (λ (e : Option EndKind). is_some e) (sym same) ∙ is ∙ ap not on)
  where
    by : (o : Option EndKind) → is_some o ≡ false → o ≡ None
    by None is = refl
    by (Some k) is = cc

pub has_sat : (z : TurnId) (sessions : ℕ) (first w : Work) (c : ChairState Exchange) (p : Option EndKind) (r : Bool) → Came z sessions first w c → p ≡ w.end → is_some p ≡ not r → r ≡ false → HasSat z sessions w c
has_sat z sessions first w c p r came same is on = record { sits = came.sits; ended = ap (λ (e : Option EndKind). is_some e) (sym same) ∙ is ∙ ap not on }

pub fewer_left : (z : TurnId) (sessions : ℕ) (first w new : Work) (c : ChairState Exchange) → Came z sessions first w c → w.end ≡ None → length new.session.transcript ≡ length w.session.transcript + 1
    → MAX_ASKS - length new.session.transcript < MAX_ASKS - length w.session.transcript
fewer_left z sessions first w new c came none more = let few = (runs_of w came.sits.stands none).few in omega (arith, few, more)
