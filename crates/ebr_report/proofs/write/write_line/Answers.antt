use Rattle.ebr_report.proofs.Additions.{AddsPart-more, AddsPart-after, appended-twice}
use Rattle.ebr_report.proofs.write.write_line.Goals as goal

pub returns-then-not-write_text-2-clause-part : goal.returns-then-not-write_text-2-clause-part
returns-then-not-write_text-2-clause-part g c =
    AddsPart-more _ _ _ _ (AddsPart-after _ _ _ _ _ c.if-not-write_text.ensures.whole c.write_text-2.ensures.part)

pub returns-clause-part : goal.returns-clause-part
returns-clause-part g c =
    AddsPart-after _ _ _ _ _ (appended-twice _ _ _ _ _ c.if-not-write_text.ensures.whole c.if-not-write_text-2.ensures.whole) c.write_text-3.ensures.part
