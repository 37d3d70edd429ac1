use Rattle.std.proofs.Common.{List, subst}
use Rattle.ebr_lexer.specs.declared.token.Token.{Token}
use Rattle.ebr_grammar.specs.Outcome.{Reads}
use Rattle.ebr_grammar.proofs.Texts.{is_found, is_only}
use Rattle.ebr_sqlparse.specs.Productions.{reads_by}
use Rattle.ebr_sqlparse.specs.Statements.{session}
use Rattle.ebr_sqlparse.proofs.Clear.{session_is}
use Rattle.ebr_sqlparse.proofs.Reader.{reader}
use Rattle.ebr_sqlparse.proofs.whole.session.Goals as goal

pub returns-clause-found : goal.returns-clause-found
returns-clause-found c =
    let read : Reads (reads_by session c.args.tokens.now) c.read_session-read.result c.read_session-read.new.tokens =
    subst (λ (ts : List Token). Reads (reads_by session ts) c.read_session-read.result c.read_session-read.new.tokens) c.new-rest.ensures c.read_session-read.ensures in
    is_found (reader session session_is) c.args.tokens.now c.whole.result (c.whole.ensures (reads_by session c.args.tokens.now) read)

pub returns-clause-only : goal.returns-clause-only
returns-clause-only c x s =
    let read : Reads (reads_by session c.args.tokens.now) c.read_session-read.result c.read_session-read.new.tokens =
    subst (λ (ts : List Token). Reads (reads_by session ts) c.read_session-read.result c.read_session-read.new.tokens) c.new-rest.ensures c.read_session-read.ensures in
    is_only (reader session session_is) c.args.tokens.now c.whole.result (c.whole.ensures (reads_by session c.args.tokens.now) read) x s
