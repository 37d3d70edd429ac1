use Rattle.std.proofs.Common.{ap, ◌∙◌}
use Rattle.ebr_editions.specs.Editions.{is_living}
use Rattle.ebr_cross.specs.declared.catalogue.Catalogue.{Catalogue}
use Rattle.ebr_units.proofs.Kept.{gives-none, gives-living, gives-no-living}
use Rattle.ebr_units.proofs.units.Units.book.Goals as goal

pub returns : goal.returns
returns c = λ lists own all is.
    gives-living lists c.args.e c.args.self.now c.living_book.new.self c.lives.result c.in_ok-book.book c.living_book.result (c.lives.ensures ∙ ap (λ (n : Catalogue). is_living n.chain.made c.args.e) is) c.if-not-lives.false
    c.in_ok-book.was (c.living_book.ensures lists own all is)

pub returns-in_err-book : goal.returns-in_err-book
returns-in_err-book c = λ lists own all is.
    gives-no-living lists c.args.e c.args.self.now c.living_book.new.self c.living_book.result c.from_residual.result c.from_residual.ensures.0 (c.living_book.ensures lists own all is)

pub returns-then-not-lives : goal.returns-then-not-lives
returns-then-not-lives c = λ lists own all is.
    gives-none lists c.args.e c.args.self.now c.lives.result (c.lives.ensures ∙ ap (λ (n : Catalogue). is_living n.chain.made c.args.e) is) c.if-not-lives.true all
