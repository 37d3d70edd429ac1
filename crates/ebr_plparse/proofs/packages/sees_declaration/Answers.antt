use Rattle.std.proofs.Common.{rules}
use Rattle.ebr_grammar.specs.declared.kind.Kind.TheVariants as k
use Rattle.ebr_grammar.specs.Kinds.{name_kinds}
use Rattle.ebr_plparse.proofs.Begins.{among_two, among_more}
use Rattle.ebr_plparse.proofs.packages.sees_declaration.Goals as goal

pub returns-then-sees_any : goal.returns-then-sees_any
unfolding name_kinds
returns-then-sees_any c = search (rules, among_two k.Pragma k.Cursor name_kinds c.args.tokens.now)

pub returns-else-sees_any : goal.returns-else-sees_any
unfolding name_kinds
returns-else-sees_any c = search (rules, among_more k.Pragma k.Cursor name_kinds c.args.tokens.now)
