use Rattle.std.proofs.Common.{refl}
use Rattle.std.proofs.lemmas.Result.{on_ok_weaker}
use Rattle.ebr_core.proofs.define.notice.Goals as goal

pub returns-clause-noticed : goal.returns-clause-noticed
returns-clause-noticed g c = λ lists own views books is.
    on_ok_weaker c.add_table.result (λ e. record {
      views = c.after.ensures lists own views is;
      books = c.after_ddl.ensures lists own books is;
      tables = e;
      seats = refl;
    }) c.add_table.ensures
