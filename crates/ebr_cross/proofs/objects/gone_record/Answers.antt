use Rattle.std.proofs.Common.{ap, ◌∙◌}
use Rattle.ebr_cross.specs.declared.record.CatalogueRecord.TheVariants as made
use Rattle.ebr_cross.proofs.SeenObjects.{gone-alone}
use Rattle.ebr_cross.proofs.objects.gone_record.Goals as goal

pub returns-in_default : goal.returns-in_default
returns-in_default c = ap (made.ObjectGone c.args.e) c.requires ∙ gone-alone c.args.e c.args.kind c.args.name.now c.in_default.not-Package
