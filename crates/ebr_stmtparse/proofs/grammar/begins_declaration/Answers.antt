use Rattle.std.proofs.Common.{◌≡◌, ◌∙◌, true, false, [], ◌∷◌, sym, ap, rules}
use Rattle.std.specs.Prelude.{◌||◌}
use Rattle.ebr_grammar.specs.Forms.{sees}
use Rattle.ebr_grammar.proofs.Next.{sees_left, sees_more}
use Rattle.ebr_grammar.specs.declared.kind.Kind.TheVariants as k
use Rattle.ebr_grammar.specs.Kinds.{name_kinds}
use Rattle.ebr_stmtparse.proofs.grammar.begins_declaration.Goals as goal

pub returns-then-sees_any : goal.returns-then-sees_any
returns-then-sees_any c =
    let seen : sees (k.Pragma ∷ k.Cursor ∷ []) c.args.tokens.now ≡ true = search rules in
    sym (sees_left (k.Pragma ∷ k.Cursor ∷ []) name_kinds c.args.tokens.now seen)

pub returns : goal.returns
returns c =
    let unseen : sees (k.Pragma ∷ k.Cursor ∷ []) c.args.tokens.now ≡ false = search rules in
    let rest : c.sees_name.result ≡ sees name_kinds c.args.tokens.now = search rules in
    rest ∙ sym (sees_more (k.Pragma ∷ k.Cursor ∷ []) name_kinds c.args.tokens.now ∙ ap (λ b. b || sees name_kinds c.args.tokens.now) unseen)
