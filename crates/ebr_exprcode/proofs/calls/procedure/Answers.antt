use Rattle.std.proofs.lemmas.Result.{on_ok_weaker}
use Rattle.ebr_exprcode.proofs.Procedures.{procedure_called}
use Rattle.ebr_exprcode.proofs.calls.procedure.Goals as goal

pub returns : goal.returns
returns c =
    on_ok_weaker c.stores.result
    (procedure_called c.args.unit.now c.args.place c.args.list.now c.args.head.now.parameters c.as_slice-parameters.result.now c.args.around.now c.in_ok-places.places c.len.result c.len-2.result
    c.args.out.now c.arguments.new.out c.call_at.new.out c.stores.new.out
    c.as_slice-parameters.ensures c.in_ok-arguments.ensures c.in_ok-places.ensures c.len.ensures c.len-2.ensures c.in_ok-call_at.ensures)
    c.stores.ensures
