use Rattle.std.proofs.Common.{sym, ap, ◌∙◌}
use Rattle.std.specs.Option.{option_and_then, option_to_list}
use Rattle.ebr_sqlcheck.specs.Names.{named_in, one_of}
use Rattle.ebr_sqlcheck.proofs.ByName.{one_alone, several}
use Rattle.ebr_sqlcheck.proofs.lookup.meant_between.Goals as goal

pub returns-then-ends : goal.returns-then-ends
returns-then-ends c =
    c.one_meant.ensures
    ∙ ap (λ o. one_of (option_to_list (option_and_then (named_in c.args.path.now.name c.args.path.now.member) o))) c.relation_at.ensures
    ∙ one_alone c.args.list.now c.args.path.now.name c.args.path.now.member c.args.ends c.requires c.if-ends.true

pub returns-in-None : goal.returns-in-None
returns-in-None c = several c.args.list.now c.args.path.now.name c.args.path.now.member c.args.ends c.requires (sym c.in-None.is) c.if-ends.false
