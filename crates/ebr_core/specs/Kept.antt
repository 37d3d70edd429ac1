-- The keeper with which a history began beside the one that it leaves.
use Rattle.std.specs.Prelude.{IsTrue, Bool, true, false, List, [], ◌∷◌, Option, Some, None}
use Rattle.ebr_base.specs.declared.numbers.SessionId.{SessionId}
use Rattle.ebr_asks.specs.declared.ask.Ask.{Ask}
use Rattle.ebr_asks.specs.declared.answer.Answer.{Answer}
use Rattle.ebr_asks.specs.declared.answer.Answer.TheVariants as answer
use Rattle.ebr_asks.specs.declared.entry.Entry.{Entry}
use Rattle.ebr_record.specs.declared.record.Record.{Record}
use Rattle.ebr_record.specs.Keeper.{Keeper}
use Rattle.ebr_database.specs.declared.failure.Halt.{Halt}
use Rattle.ebr_database.specs.declared.failure.Halt.TheVariants as why
use Rattle.ebr_database.specs.Database.{Database}
use Rattle.ebr_database.specs.Shows.{Grew, GaveUp, Holds}
use Rattle.ebr_core.specs.Engine.{AnswersAsk, EngineState, first_of}
use Rattle.ebr_core.specs.FirstRecords.{Begins}
use Rattle.ebr_core.specs.History.{Acknowledged, Records, is_idle}

-- why the engine gives up with an answer, if it does
abbrev pub cause_by : Bool → Answer → Option Halt
cause_by true a = None
cause_by false answer.DiskFault = Some why.DiskFault
cause_by false answer.NoMemory = Some why.NoMemory
cause_by false a = None

abbrev pub cause_of : Entry → Option Halt
cause_of x = cause_by (is_idle x) x.answer

abbrev pub or_else : Option Halt → Option Halt → Option Halt
or_else None other = other
or_else (Some cause) other = Some cause

-- why it has given up, if it has
abbrev pub given_up_by : List Entry → Option Halt
given_up_by [] = None
given_up_by (x ∷ history) = or_else (cause_of x) (given_up_by history)

-- It gave up while these records were to be kept, and the acknowledged ones are the first of those that were.
pub record KeptUntil (old new : Keeper) (made acknowledged : List Record) (cause : Halt) : Type 0 where
  pub gave_up : GaveUp old new made cause
  pub told : Begins acknowledged gave_up.kept

-- The keeper grew by all records of the history; or it gave up where the history says so.
abbrev pub KeptBy : Option Halt → Keeper → Keeper → Database → List Entry → Type 0
KeptBy None old new db history = Grew old new (Records db history)
KeptBy (Some cause) old new db history = KeptUntil old new (Records db history) (Acknowledged db history) cause

-- what became of the keeper by a history
abbrev pub Kept : Keeper → Keeper → Database → List Entry → Type 0
Kept old new db history = KeptBy (given_up_by history) old new db history

-- so it is at the beginning
abbrev pub KeepsFirst : {K : Type 0} → (K → Keeper) → Type 0
KeepsFirst {K} as_keeper = (k : K) (db : Database) → Kept (as_keeper k) (as_keeper k) db []

-- and with each ask
abbrev pub KeepsOn : {K : Type 0} → (K → Keeper) → Type 0
KeepsOn {K} as_keeper =
    (first : K) (e f : EngineState K) (s : SessionId) (ask : Ask) (a : Answer) → Kept (as_keeper first) (as_keeper e.keeper) (first_of e) e.history → AnswersAsk as_keeper e f s ask a
    → Kept (as_keeper first) (as_keeper f.keeper) (first_of f) f.history

-- Where it is told, a stop at any moment of an ask leaves what one might have left before, or the records that were kept before and the
-- first of those that the ask makes.
abbrev pub StopsWithin : Keeper → Keeper → List Record → Type 0
StopsWithin old new made = IsTrue old.tells → Holds old new made
