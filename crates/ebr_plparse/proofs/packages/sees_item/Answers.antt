use Rattle.std.proofs.Common.{rules}
use Rattle.ebr_grammar.specs.declared.kind.Kind.TheVariants as k
use Rattle.ebr_plparse.specs.Packages.{declaration_begins}
use Rattle.ebr_plparse.proofs.Begins.{among_two, among_more}
use Rattle.ebr_plparse.proofs.packages.sees_item.Goals as goal

pub returns-then-sees_any : goal.returns-then-sees_any
returns-then-sees_any c = search (rules, among_two k.Procedure k.Function declaration_begins c.args.tokens.now)

pub returns-else-sees_any : goal.returns-else-sees_any
returns-else-sees_any c = search (rules, among_more k.Procedure k.Function declaration_begins c.args.tokens.now)
