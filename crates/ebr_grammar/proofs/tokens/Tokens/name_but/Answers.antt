use Rattle.std.proofs.Common.{rules}
use Rattle.ebr_grammar.specs.Outcome.{named_by}
use Rattle.ebr_grammar.proofs.NamesBut.{read_but}
use Rattle.ebr_grammar.proofs.tokens.Tokens.name_but.Goals as goal

pub returns-then-sees_any : goal.returns-then-sees_any
returns-then-sees_any c not_memory = rw (read_but c.args.left_out.now named_by c.args.self.now) (search rules)

pub returns-else-sees_any : goal.returns-else-sees_any
returns-else-sees_any c = rw (read_but c.args.left_out.now named_by c.args.self.now) (search rules)
