use Rattle.std.proofs.Common.{◌≡◌, List}
use Rattle.ebr_asks.specs.declared.ask.Ask.{Ask}
use Rattle.ebr_asks.specs.declared.answer.Answer.{Answer}
use Rattle.ebr_running.specs.Rest.{rest_of}
use Rattle.ebr_machine.proofs.go.run_on.Given as goal

abbrev pub invariant-tasks : goal.invariant-tasks
invariant-tasks g l = (asks : List Ask) (given : List Answer) → rest_of (g.B.CodeBook.answers l.book l.edition) l.run asks given ≡ rest_of (g.B.CodeBook.answers l.book l.edition) l.initial.run asks given
