use Rattle.std.proofs.Common.{List, subst}
use Rattle.ebr_lexer.specs.declared.token.Token.{Token}
use Rattle.ebr_grammar.specs.Outcome.{Reads}
use Rattle.ebr_grammar.proofs.Texts.{is_found, is_only}
use Rattle.ebr_sqlparse.specs.Productions.{reads_by}
use Rattle.ebr_sqlparse.specs.Statements.{transaction}
use Rattle.ebr_sqlparse.proofs.Clear.{transaction_is}
use Rattle.ebr_sqlparse.proofs.Reader.{reader}
use Rattle.ebr_sqlparse.proofs.whole.transaction.Goals as goal

pub returns-clause-found : goal.returns-clause-found
returns-clause-found c =
    let read : Reads (reads_by transaction c.args.tokens.now) c.read_transaction-read.result c.read_transaction-read.new.tokens =
    subst (λ (ts : List Token). Reads (reads_by transaction ts) c.read_transaction-read.result c.read_transaction-read.new.tokens) c.new-rest.ensures c.read_transaction-read.ensures in
    is_found (reader transaction transaction_is) c.args.tokens.now c.whole.result (c.whole.ensures (reads_by transaction c.args.tokens.now) read)

pub returns-clause-only : goal.returns-clause-only
returns-clause-only c x s =
    let read : Reads (reads_by transaction c.args.tokens.now) c.read_transaction-read.result c.read_transaction-read.new.tokens =
    subst (λ (ts : List Token). Reads (reads_by transaction ts) c.read_transaction-read.result c.read_transaction-read.new.tokens) c.new-rest.ensures c.read_transaction-read.ensures in
    is_only (reader transaction transaction_is) c.args.tokens.now c.whole.result (c.whole.ensures (reads_by transaction c.args.tokens.now) read) x s
