use Rattle.std.proofs.Common.{ap, ◌∙◌}
use Rattle.ebr_editions.specs.Editions.{without_edition}
use Rattle.ebr_cross.proofs.Changes.{chain-of, with-chain}
use Rattle.ebr_cross.proofs.catalogue.Catalogue.drop_edition.Goals as goal

pub returns : goal.returns
returns c = λ lists h.
    with-chain c.args.self.now lists c.remove_leaf.new.self _ h (c.remove_leaf.ensures ∙ ap (λ k. without_edition k c.args.e) (chain-of c.args.self.now lists h))
