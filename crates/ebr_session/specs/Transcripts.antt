-- A session's transcript: its asks and answers, the answers that end it, and what it has printed by then.
use Rattle.std.specs.Prelude.{ℕ, zero, suc, ◌≡◌, Bool, true, false, List, [], ◌++◌, map, take}
use Rattle.ebr_asks.specs.declared.ask.Ask.{Ask}
use Rattle.ebr_asks.specs.declared.ask.Ask.TheVariants as ask
use Rattle.ebr_asks.specs.declared.answer.Answer.{Answer}
use Rattle.ebr_asks.specs.declared.answer.Answer.TheVariants as answer
use Rattle.ebr_asks.specs.declared.entry.Exchange.{Exchange}
use Rattle.ebr_session.specs.Sessions.{Printed}

-- the asks and the answers of a transcript
abbrev pub asks : List Exchange → List Ask
asks mine = map (λ (x : Exchange). x.ask) mine

abbrev pub answers : List Exchange → List Answer
answers mine = map (λ (x : Exchange). x.answer) mine

abbrev pub exchange : Ask → Answer → Exchange
exchange q x = record { ask = q; answer = x }

-- an answer after which a session goes on with nothing
abbrev pub stops : Answer → Bool
stops answer.DiskFault = true
stops answer.Stopped = true
stops x = false

-- whether a session ends with this answer to its ask
abbrev pub ends : Ask → Answer → Bool
ends ask.Leave x = true
ends q x = stops x

-- these bytes, and more
pub record IsPrefix (xs ys : List ℕ) : Type 0 where
  pub rest : List ℕ
  pub whole : ys ≡ xs ++ rest

-- what a script prints for all but the last of so many answers; nothing where there is none
abbrev pub printed_before : List ℕ → List Answer → ℕ → List ℕ
printed_before script given zero = []
printed_before script given (suc n) = Printed script (take n given)
