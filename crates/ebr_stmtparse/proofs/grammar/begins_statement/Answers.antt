use Rattle.std.proofs.Common.{◌≡◌, ◌∙◌, true, false, sym, ap, rules}
use Rattle.std.specs.Prelude.{◌||◌}
use Rattle.ebr_grammar.specs.Forms.{sees}
use Rattle.ebr_grammar.proofs.Next.{sees_left, sees_more}
use Rattle.ebr_grammar.specs.Kinds.{name_kinds}
use Rattle.ebr_stmtparse.specs.Statements.{statement_words, statement_begins}
use Rattle.ebr_stmtparse.proofs.grammar.begins_statement.Goals as goal

pub returns-then-sees_statement_word : goal.returns-then-sees_statement_word
unfolding statement_begins
returns-then-sees_statement_word c =
    let seen : sees statement_words c.args.tokens.now ≡ true = search rules in
    sym (sees_left statement_words name_kinds c.args.tokens.now seen)

pub returns : goal.returns
unfolding statement_begins
returns c =
    let unseen : sees statement_words c.args.tokens.now ≡ false = search rules in
    let rest : c.sees_name.result ≡ sees name_kinds c.args.tokens.now = search rules in
    rest ∙ sym (sees_more statement_words name_kinds c.args.tokens.now ∙ ap (λ b. b || sees name_kinds c.args.tokens.now) unseen)
