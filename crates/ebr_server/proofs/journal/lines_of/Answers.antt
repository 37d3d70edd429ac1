use Rattle.std.proofs.Common.{◌≡◌, subst}
use Rattle.std.specs.Prelude.{IfOk}
use Rattle.ebr_dump.specs.Dump.{Dump}
use Rattle.ebr_server.proofs.journal.lines_of.Goals as goal

pub returns : goal.returns
returns c = subst (λ l. IfOk c.dump-lines.result (λ text. text ≡ Dump l)) c.as_slice.ensures c.dump-lines.ensures
