-- A session's exchanges as the history has them.
use Rattle.std.specs.Prelude.{◌≡◌, Bool, true, false, List, map}
use Rattle.std.specs.List.{list_any}
use Rattle.ebr_base.specs.declared.numbers.SessionId.{SessionId}
use Rattle.ebr_asks.specs.declared.ask.Ask.{Ask}
use Rattle.ebr_asks.specs.declared.ask.Ask.TheVariants.{Leave}
use Rattle.ebr_asks.specs.declared.answer.Answer.{Answer}
use Rattle.ebr_asks.specs.declared.answer.Answer.TheVariants.{DiskFault, Stopped}
use Rattle.ebr_asks.specs.declared.entry.Entry.{Entry}
use Rattle.ebr_asks.specs.declared.entry.Exchange.{Exchange}
use Rattle.ebr_core.specs.History.{Mine}

-- The ask that an entry holds: Leave in the place of one that was answered that the engine has stopped.
abbrev pub ask_recorded : Ask → Answer → Ask
ask_recorded q Stopped = Leave
ask_recorded q x = q

abbrev pub as_recorded : Exchange → Exchange
as_recorded x = record { ask = ask_recorded x.ask x.answer; answer = x.answer }

-- A session's exchanges are those that the history has of it.
abbrev pub Matches : List Exchange → List Entry → SessionId → Type 0
Matches transcript history s = Mine history s ≡ map as_recorded transcript

abbrev pub is_fault : Answer → Bool
is_fault DiskFault = true
is_fault x = false

-- an entry is answered that the disk failed
abbrev pub has_fault : List Entry → Bool
has_fault history = list_any (λ (x : Entry). is_fault x.answer) history

abbrev pub is_stop : Answer → Bool
is_stop Stopped = true
is_stop x = false

-- an entry is answered that the engine has stopped
abbrev pub has_stop : List Entry → Bool
has_stop history = list_any (λ (x : Entry). is_stop x.answer) history
