use Rattle.std.proofs.Common.{ap, ◌∙◌}
use Rattle.ebr_cross.specs.Records.{with_child}
use Rattle.ebr_cross.proofs.Changes.{chain-of, with-chain}
use Rattle.ebr_cross.proofs.catalogue.Catalogue.add_edition.Goals as goal

pub returns : goal.returns
returns c = λ lists h.
    with-chain c.args.self.now lists c.add.new.self _ h
    (c.in_ok-add.ensures.made ∙ (ap (λ n. with_child c.args.self.now.chain n c.args.parent) c.in_ok-name.ensures ∙ ap (λ k. with_child k c.args.name.now c.args.parent) (chain-of c.args.self.now lists h)))
