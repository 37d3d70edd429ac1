use Rattle.std.proofs.Common.{None, ap, ◌∙◌}
use Rattle.ebr_editions.specs.Held.{held}
use Rattle.ebr_editions.specs.Objects.{with_entry}
use Rattle.ebr_cross.proofs.ObjectPuts.{actuals-of, with-entries}
use Rattle.ebr_cross.proofs.catalogue.Catalogue.hide.Goals as goal

pub returns : goal.returns
returns c = λ lists h.
    with-entries c.args.self.now lists c.enter.new.self (with_entry lists.entries c.args.e c.args.key.now None) h
    (c.in_ok-enter.ensures.made lists.entries (actuals-of c.args.self.now lists h) ∙ ap (λ k. held (with_entry lists.entries c.args.e k None)) c.in_ok-key.ensures)
