use Rattle.ebr_report.proofs.Summaries.{in_first, in_last, in_second, in_third}
use Rattle.ebr_report.proofs.summary.write_end.Goals as goal

pub returns-then-not-write_counted-clause-part : goal.returns-then-not-write_counted-clause-part
returns-then-not-write_counted-clause-part g c = in_first c.args.end.now _ _ c.if-not-write_counted.ensures.part

pub returns-then-not-write_counted-2-clause-part :
    goal.returns-then-not-write_counted-2-clause-part
returns-then-not-write_counted-2-clause-part g c = in_second c.args.end.now _ _ _ c.if-not-write_counted.ensures.whole c.if-not-write_counted-2.ensures.part

pub returns-then-not-write_counted-3-clause-part :
    goal.returns-then-not-write_counted-3-clause-part
returns-then-not-write_counted-3-clause-part g c =
    in_third c.args.end.now _ _ _ _ c.if-not-write_counted.ensures.whole c.if-not-write_counted-2.ensures.whole c.if-not-write_counted-3.ensures.part

pub returns-clause-part : goal.returns-clause-part
returns-clause-part g c =
    in_last c.args.end.now _ _ _ _ _ _ c.if-not-write_counted.ensures.whole c.if-not-write_counted-2.ensures.whole c.if-not-write_counted-3.ensures.whole c.end_words.ensures c.write_line.ensures.part
