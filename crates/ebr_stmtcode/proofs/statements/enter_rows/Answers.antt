use Rattle.std.proofs.lemmas.Result.{on_ok_weaker}
use Rattle.ebr_stmtcode.specs.inside.Sources.{source}
use Rattle.ebr_stmtcode.proofs.Envs.{rows_entered}
use Rattle.ebr_stmtcode.proofs.statements.enter_rows.Goals as goal

pub returns : goal.returns
returns c =
    on_ok_weaker c.add_hidden_cursor.result
    (λ e. rows_entered c.args.name.now (source c.args.from.now) c.in_ok-fields.fields c.args.around.now c.add_record.new.self c.add_hidden_cursor.new.self c.in_ok-fields.ensures c.in_ok-add_record.ensures e)
    c.add_hidden_cursor.ensures
