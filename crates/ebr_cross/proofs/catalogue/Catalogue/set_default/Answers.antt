use Rattle.std.proofs.Common.{ap, ◌∙◌}
use Rattle.ebr_editions.specs.Editions.{Editions}
use Rattle.ebr_cross.proofs.Changes.{chain-of, with-chain}
use Rattle.ebr_cross.proofs.catalogue.Catalogue.set_default.Goals as goal

pub returns : goal.returns
returns c = λ lists h.
    with-chain c.args.self.now lists c.make_default.new.self _ h (c.make_default.ensures ∙ ap (λ (k : Editions). record k { default = c.args.e }) (chain-of c.args.self.now lists h))
