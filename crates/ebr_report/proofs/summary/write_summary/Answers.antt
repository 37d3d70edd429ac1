use Rattle.std.proofs.Common.{arith, rules}
use Rattle.ebr_report.proofs.Summaries.{all, in_one}
use Rattle.ebr_report.proofs.summary.write_summary.Goals as goal

pub returns-then-not-write_end-clause-part : goal.returns-then-not-write_end-clause-part
returns-then-not-write_end-clause-part g c =
    in_one c.args.ends.now _ _ _ c.loop-end.end-index c.end-item.result (search rules) c.end-item.is c.loop-end.invariant.held c.if-not-write_end.ensures.part

pub returns-clause-part : goal.returns-clause-part
returns-clause-part g c = all c.args.ends.now _ _ c.loop-end.end-index (omega arith) c.loop-end.invariant.held
