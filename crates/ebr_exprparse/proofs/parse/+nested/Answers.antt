use Rattle.std.proofs.Common.{arith}
use Rattle.ebr_exprparse.proofs.Depths.{no_depth, whole_deep, sum_deep}
use Rattle.ebr_exprparse.proofs.parse.+nested.Goals as goal

pub returns-then-depth-eq0 : goal.returns-then-depth-eq0
returns-then-depth-eq0 t c _ = no_depth c.args.depth c.args.level c.args.tokens.now (omega arith)

pub returns-in-Whole : goal.returns-in-Whole
returns-in-Whole t c = rw (whole_deep c.args.depth c.args.level c.args.tokens.now (omega arith) c.in-Whole.is) c.read_disjunction.ensures

pub returns-in-Sum : goal.returns-in-Sum
returns-in-Sum t c = rw (sum_deep c.args.depth c.args.level c.args.tokens.now (omega arith) c.in-Sum.is) c.read_sum_alone.ensures
