-- What a body asks, but statements.
use Rattle.std.specs.Prelude.{Result, Ok, Err}
use Rattle.ebr_base.specs.declared.code.Code.{Code}
use Rattle.ebr_base.specs.declared.row.TxId.{TxId}
use Rattle.ebr_asks.specs.declared.ask.Ask.{Ask}
use Rattle.ebr_asks.specs.declared.ask.Ask.TheVariants as ask
use Rattle.ebr_asks.specs.declared.answer.Answer.{Answer}
use Rattle.ebr_asks.specs.declared.answer.Answer.TheVariants.{Done}
use Rattle.ebr_database.specs.declared.failure.Failure.{Failure}
use Rattle.ebr_database.specs.declared.failure.Failure.TheVariants.{Refused, Halted}
use Rattle.ebr_database.specs.declared.failure.Halt.{Halt}
use Rattle.ebr_database.specs.Base.{Base}
use Rattle.ebr_database.specs.Outcome.{Outcome, gives}
use Rattle.ebr_database.specs.Transact.{commit, roll_back, savepoint, back_to, pop}
use Rattle.ebr_exec.specs.Statements.{refused}
use Rattle.ebr_bodies.specs.Bodies.{answered, misplaced, mutating_transaction}

abbrev pub IsNoStatement : Ask → Type 0
IsNoStatement (ask.Sql s binds left) = ⊥
IsNoStatement q = Unit {0}

abbrev pub IsNoPush : Ask → Type 0
IsNoPush ask.PushAuto = ⊥
IsNoPush q = Unit {0}

-- the refusal of an ask outside an autonomous transaction
abbrev pub own_refusal : Ask → Code
own_refusal ask.Commit = mutating_transaction
own_refusal ask.Rollback = mutating_transaction
own_refusal (ask.Savepoint name) = mutating_transaction
own_refusal (ask.BackTo name) = mutating_transaction
own_refusal q = misplaced

-- what an ask is answered for the autonomous transaction on top
abbrev pub within : TxId → Ask → Base → Outcome Base Answer
within t ask.Commit b = answered (commit t b)
within t ask.Rollback b = answered (roll_back t b)
within t (ask.Savepoint name) b = answered (savepoint t name b)
within t (ask.BackTo name) b = answered (back_to t name b)
within t (ask.PopAuto failed) b = answered (pop t.session failed b)
within t q b = gives b (refused misplaced)

-- what a commit answers a body
abbrev pub as_told : Result (Unit {0}) Failure → Result Answer Halt
as_told (Ok u) = Ok Done
as_told (Err (Refused code)) = Ok (refused code)
as_told (Err (Halted why)) = Err why
