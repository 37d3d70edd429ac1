-- A worker's turn, whoever answers its ask.
use Rattle.std.specs.Prelude.{◌≡◌, List, [], ◌∷◌, ◌++◌, Option, Some, None}
use Rattle.ebr_base.specs.declared.numbers.SessionId.{SessionId}
use Rattle.ebr_asks.specs.declared.ask.Ask.{Ask}
use Rattle.ebr_asks.specs.declared.answer.Answer.{Answer}
use Rattle.ebr_asks.specs.declared.entry.Exchange.{Exchange}
use Rattle.ebr_report.specs.declared.ends.EndKind.{EndKind}
use Rattle.ebr_session.specs.Transcripts.{exchange}
use Rattle.ebr_worker.specs.Work.{HasCome, Runs, Work, job_of}

module _ {A : Type 0} (may_ask : A → SessionId → List Exchange → Type 0) where
  -- The session runs and may make its next ask, or has ended so.
  abbrev pub MayTurnBy : Option EndKind → Work → A → Type 0
  MayTurnBy None w x = Runs w × may_ask x w.session.session w.session.transcript
  MayTurnBy (Some k) w x = HasCome k w

  -- The worker may take a turn.
  abbrev pub MayTurn : Work → A → Type 0
  MayTurn w x = MayTurnBy w.end w x

module _ {A : Type 0} (replied : A → A → SessionId → Ask → Answer → Type 0) where
  -- A session's transcript grew by one ask, which was answered.
  pub record HasHad (old new : Work) (x y : A) : Type 0 where
    pub ask : Ask
    pub answer : Answer
    pub is : new.session.transcript ≡ old.session.transcript ++ exchange ask answer ∷ []
    pub replied_is : replied x y old.session.session ask answer

  -- The turn of a session that has ended does nothing, and in any other one an ask is answered.
  abbrev pub Happens : Option EndKind → Work → Work → A → A → Type 0
  Happens None old new x y = HasHad old new x y
  Happens (Some k) old new x y = (new ≡ old) × (y ≡ x)

module _ {A : Type 0} (may_ask : A → SessionId → List Exchange → Type 0) (replied : A → A → SessionId → Ask → Answer → Type 0) where
  -- What a turn does.
  pub record TakesTurn (old new : Work) (x y : A) : Type 0 where
    pub session : new.session.session ≡ old.session.session
    pub job : job_of new ≡ job_of old
    pub stands : MayTurn may_ask new y
    pub happens : Happens replied old.end old new x y
