use Rattle.std.proofs.Common.{◌∙◌}
use Rattle.ebr_session.proofs.Advancing.{both_go}
use Rattle.ebr_session.proofs.Doing.{failed_too}
use Rattle.ebr_session.proofs.session.ask_next.Goals as goal

pub returns-clause-unprinted : goal.returns-clause-unprinted
returns-clause-unprinted g c = failed_too c.value_if_done.result c.extend.result _ c.value_if_done.ensures.failed c.extend.ensures.err

pub returns-clause-goes : goal.returns-clause-goes
returns-clause-goes g c =
    both_go g.B.CodeBook.answers c.args.work.now (record c.args.work.now { fresh = c.clear.new.self }) c.next.new.self c.args.transcript.now.exchanges c.as_slice.result.now c.args.script.now c.next.new.script c.in_ok-ask.ask c.in_ok-both.both c.value_if_done.result
    (c.as_slice.ensures ∙ c.in_ok-reserve.ensures.same) (λ i. record c.args.work.now { fresh = c.clear.ensures i }) c.in_ok-both.ensures c.value_if_done.ensures.value c.in_ok-ask.ensures.goes
