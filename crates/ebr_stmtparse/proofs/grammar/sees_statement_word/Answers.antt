use Rattle.std.proofs.Common.{◌≡◌, ◌∙◌, true, false, sym, ap, rules}
use Rattle.std.specs.Prelude.{◌||◌}
use Rattle.ebr_grammar.specs.Forms.{sees}
use Rattle.ebr_grammar.proofs.Next.{sees_left, sees_more}
use Rattle.ebr_simpleparse.specs.Simple.{simple_words}
use Rattle.ebr_stmtparse.specs.declared.grammar.TheConstants.{COMPOUND_WORDS}
use Rattle.ebr_stmtparse.specs.Statements.{statement_words}
use Rattle.ebr_stmtparse.proofs.grammar.sees_statement_word.Goals as goal

pub returns-then-sees_any : goal.returns-then-sees_any
unfolding statement_words simple_words
returns-then-sees_any c =
    let seen : sees COMPOUND_WORDS c.args.tokens.now ≡ true = search rules in
    sym (sees_left COMPOUND_WORDS simple_words c.args.tokens.now seen)

pub returns : goal.returns
unfolding statement_words simple_words
returns c =
    let unseen : sees COMPOUND_WORDS c.args.tokens.now ≡ false = search rules in
    let rest : c.sees_any-2.result ≡ sees simple_words c.args.tokens.now = search rules in
    rest ∙ sym (sees_more COMPOUND_WORDS simple_words c.args.tokens.now ∙ ap (λ b. b || sees simple_words c.args.tokens.now) unseen)
