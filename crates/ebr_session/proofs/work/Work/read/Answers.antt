use Rattle.std.proofs.Common.{◌∙◌, sym, subst}
use Rattle.ebr_asks.specs.declared.ask.Ask.TheVariants as ask
use Rattle.ebr_session.specs.inside.Requests.{rest_of}
use Rattle.ebr_session.specs.inside.Stages.{Awaits, here}
use Rattle.ebr_session.proofs.Doing.{asked_as, read_asks, read_ends, read_prints}
use Rattle.ebr_session.proofs.work.Work.read.Goals as goal

pub returns-in-Asks-clause-goes : goal.returns-in-Asks-clause-goes
returns-in-Asks-clause-goes g c f made printed was =
    asked_as g.B.CodeBook.answers c.loop-request.self c.ask.new.self c.ask.result c.in-Asks.request f (rest_of c.next.new.self) made printed c.ask.ensures.ask c.ask.ensures.stage
    (read_asks c.in_ok-request.field-0 c.in-Asks.request c.loop-request.script c.next.new.self f (here made printed c.loop-request.self) c.in-Asks.is c.in_ok-request.ensures.takes (c.loop-request.invariant.goes f made printed was))

pub loop-request-preserved : goal.loop-request-preserved
loop-request-preserved g c = record {
  script = c.in_ok-request.ensures.script ∙ c.loop-request.invariant.script;
  goes = λ f made printed was. read_prints c.in_ok-request.field-0 c.in-Prints.code c.loop-request.script c.next.new.self c.loop-request.self _ f made printed c.in-Prints.is c.in_ok-request.ensures.takes
      (λ i. record c.loop-request.self { fresh = c.in_ok-print_code-in-Prints.ensures i }) (c.loop-request.invariant.goes f made printed was);
}

pub returns-in-Ends-clause-goes : goal.returns-in-Ends-clause-goes
returns-in-Ends-clause-goes g c f made printed was =
    subst (λ s. Awaits g.B.CodeBook.answers s ask.Leave f (rest_of c.next.new.self) (here made printed c.loop-request.self)) (sym c.put.ensures)
    (read_ends c.in_ok-request.field-0 c.loop-request.script c.next.new.self f (here made printed c.loop-request.self) c.in-Ends.is c.in_ok-request.ensures.takes (c.loop-request.invariant.goes f made printed was))
