use Rattle.std.proofs.Common.{ap, sym, subst, ◌∙◌}
use Rattle.std.specs.Option.{option_copied}
use Rattle.ebr_ast.specs.declared.view.EditionView.{EditionView}
use Rattle.ebr_cross.specs.Catalogue.{IsViewOf}
use Rattle.ebr_units.specs.Living.{view_in}
use Rattle.ebr_units.proofs.Kept.{gives-kept, gives-new}
use Rattle.ebr_units.proofs.units.Units.book_of.Goals as goal

pub returns-in-Some : goal.returns-in-Some
returns-in-Some c = λ lists all seen.
    let at = ap (λ (v : EditionView). view_in v.edition c.args.self.now) (sym c.get.ensures) in
    gives-kept lists c.args.seen.now.edition c.args.self.now c.in-Some.book.now c.clone_in.result all (at ∙ (sym c.found.ensures ∙ ap option_copied c.in-Some.is)) c.clone_in.ensures

pub returns : goal.returns
returns c = λ lists all seen.
    let at = ap (λ (v : EditionView). view_in v.edition c.args.self.now) (sym c.get.ensures) in
    gives-new lists c.args.seen.now.edition c.args.self.now c.add.new.self c.in_ok-copy.copy c.add.result all (subst (λ v. IsViewOf lists c.args.seen.now.edition v) (sym c.in_ok-copy.ensures) seen)
    (at ∙ (sym c.found.ensures ∙ ap option_copied c.in_default.is)) c.add.ensures.book c.add.ensures.added c.add.ensures.unchanged
