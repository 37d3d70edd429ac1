use Rattle.ebr_sqlparse.specs.Statements.{sql, transaction, session}
use Rattle.ebr_sqlparse.proofs.Clear.{sql_is, transaction_is, session_is}
use Rattle.ebr_grammar.proofs.Texts.{is_one}
use Rattle.ebr_sqlparse.proofs.Reader.{reader}
use Rattle.ebr_sqlparse.proofs.whole.one_tree.Goals as goal

pub returns-clause-sql : goal.returns-clause-sql
returns-clause-sql c = is_one (reader sql sql_is)

pub returns-clause-transaction : goal.returns-clause-transaction
returns-clause-transaction c = is_one (reader transaction transaction_is)

pub returns-clause-session : goal.returns-clause-session
returns-clause-session c = is_one (reader session session_is)
