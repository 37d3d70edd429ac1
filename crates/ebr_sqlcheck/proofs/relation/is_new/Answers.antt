use Rattle.std.proofs.Common.{not, ap, ◌∙◌}
use Rattle.ebr_sqlcheck.proofs.ByName.{told}
use Rattle.ebr_sqlcheck.proofs.relation.is_new.Goals as goal

pub returns-clause-told : goal.returns-clause-told
returns-clause-told c = λ before has. c.in_ok-insert.ensures.added ∙ ap not (told before c.args.aliases.now.keys c.args.alias.now has)
