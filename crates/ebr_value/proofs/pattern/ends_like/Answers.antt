use Rattle.std.proofs.Common.{sym, ap, ◌∙◌}
use Rattle.std.proofs.lemmas.Bool.{lt-leb}
use Rattle.ebr_value.specs.inside.Parts.{fits}
use Rattle.ebr_value.proofs.Likeness.{end_there, end_short}
use Rattle.ebr_value.proofs.pattern.ends_like.Goals as goal

pub returns-then-part-text : goal.returns-then-part-text
returns-then-part-text c = c.fits.ensures ∙ ap (fits c.args.part.now) c.rest_from.ensures ∙ sym (end_there c.args.part.now c.args.text.now c.requires c.if-part-text.true)

pub returns-else-part-text : goal.returns-else-part-text
returns-else-part-text c = lt-leb _ _ c.if-part-text.false ∙ sym (end_short c.args.part.now c.args.text.now c.requires c.if-part-text.false)
