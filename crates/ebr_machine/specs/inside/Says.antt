-- What a machine says where it has stopped.
use Rattle.ebr_asks.specs.declared.ask.Ask.{Ask}
use Rattle.ebr_run.specs.declared.fault.Fault.{Fault}
use Rattle.ebr_run.specs.Faults.{final_code}
use Rattle.ebr_running.specs.declared.running.Flow.{Flow}
use Rattle.ebr_running.specs.declared.running.Flow.TheVariants as flow
use Rattle.ebr_machine.specs.declared.next.End.TheVariants as end
use Rattle.ebr_machine.specs.declared.next.Next.{Next}
use Rattle.ebr_machine.specs.declared.next.Next.TheVariants as next

abbrev pub says : Flow → Fault → Ask → Next
says flow.Waiting f q = next.Ask q
says flow.Raised f q = next.Done (end.Raised (final_code f))
says (flow.Stopped c) f q = next.Done (end.Raised c)
says e f q = next.Done end.Returned
