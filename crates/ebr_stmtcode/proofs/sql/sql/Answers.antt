use Rattle.std.proofs.lemmas.Result.{on_ok_weaker}
use Rattle.ebr_stmtcode.proofs.Changes.{updated}
use Rattle.ebr_stmtcode.proofs.sql.sql.Goals as goal

pub returns-in_ok-b-in-Update : goal.returns-in_ok-b-in-Update
returns-in_ok-b-in-Update c =
    on_ok_weaker c.change-in-Update.result
    (updated c.args.it.now c.in-Update.u c.get-in-Update.result.now c.in_ok-b-in-Update.b c.get-in-Update-2.result.now c.args.around.now c.args.out.now c.change-in-Update.new.out
    c.in-Update.is c.get-in-Update.ensures c.in_ok-b-in-Update.ensures c.get-in-Update-2.ensures)
    c.change-in-Update.ensures
