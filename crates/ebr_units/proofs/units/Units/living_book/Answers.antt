use Rattle.std.proofs.Common.{ap, sym, ◌∙◌}
use Rattle.std.specs.Option.{option_copied}
use Rattle.ebr_units.proofs.Kept.{a-view, gives-kept, gives-new}
use Rattle.ebr_units.proofs.units.Units.living_book.Goals as goal

pub returns-in-Some : goal.returns-in-Some
returns-in-Some c = λ lists own all is.
    gives-kept lists c.args.e c.args.self.now c.in-Some.book.now c.clone_in.result all (sym c.found.ensures ∙ ap option_copied c.in-Some.is) c.clone_in.ensures

pub returns : goal.returns
returns c = λ lists own all is.
    gives-new lists c.args.e c.args.self.now c.add.new.self c.in_ok-seen.seen c.add.result all
    (a-view lists c.args.e c.in_ok-seen.seen c.in_ok-view_of.field-0 c.in_ok-seen.ensures (c.in_ok-view_of.ensures.view lists is) (c.in_ok-view_of.ensures.order lists is own))
    (sym c.found.ensures ∙ ap option_copied c.in_default.is) c.add.ensures.book c.add.ensures.added c.add.ensures.unchanged
