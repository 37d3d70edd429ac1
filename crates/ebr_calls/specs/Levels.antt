-- What an ask may open or close, by its answer.
use Rattle.std.specs.Prelude.{◌≡◌}
use Rattle.ebr_asks.specs.declared.ask.Ask.{Ask}
use Rattle.ebr_asks.specs.declared.answer.Answer.TheVariants as answer
use Rattle.ebr_machine.specs.declared.next.Next.{Next}
use Rattle.ebr_machine.specs.declared.next.Next.TheVariants as next
use Rattle.ebr_calls.specs.declared.levels.Levels.{Levels}
use Rattle.ebr_calls.specs.Steps.{open_after}

pub record OpensBy (q : Ask) (l : Levels) : Type 0 where
  pub done : l.if_done ≡ open_after q answer.Done l.now
  pub other : l.otherwise ≡ open_after q answer.Invalid l.now

abbrev pub OpensAt : Next → Levels → Type 0
OpensAt (next.Ask q) l = OpensBy q l
OpensAt (next.Done e) l = Unit {0}
