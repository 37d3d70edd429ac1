use Rattle.std.proofs.Common.{arith}
use Rattle.ebr_stmtparse.proofs.Depths.{no_depth, one_deep}
use Rattle.ebr_stmtparse.proofs.parse.+nested.Goals as goal

pub returns-then-depth-eq0 : goal.returns-then-depth-eq0
returns-then-depth-eq0 t c _ = no_depth c.args.depth c.args.tokens.now (omega arith)

pub returns : goal.returns
returns t c = rw (one_deep c.args.depth c.args.tokens.now (omega arith)) c.read_statements.ensures
