use Rattle.std.proofs.Common.{◌≡◌, ◌∙◌, ◌+◌, ◌-◌, ◌<◌, true, false, [], ◌∷◌, drop, sym, ap, arith, rules}
use Rattle.ebr_grammar.specs.declared.kind.Kind.TheVariants as k
use Rattle.ebr_grammar.specs.Forms.{sees}
use Rattle.ebr_simpleparse.specs.Looking.{closes}
use Rattle.ebr_simpleparse.proofs.Closing.{one_more, at_range, at_left, at_last_right, at_right, at_last_comma, at_comma, at_other}
use Rattle.ebr_simpleparse.proofs.bounds.look_at.Goals as goal

pub returns-then-sees_later-clause-answer : goal.returns-then-sees_later-clause-answer
returns-then-sees_later-clause-answer c =
    let range : sees (k.Range ∷ []) (drop c.args.at c.args.tokens.now) ≡ true = search rules in
    sym (at_range c.args.depth (drop c.args.at c.args.tokens.now) range)

pub returns-then-sees_later-2-clause-answer : goal.returns-then-sees_later-2-clause-answer
returns-then-sees_later-2-clause-answer c =
    let not_range : sees (k.Range ∷ []) (drop c.args.at c.args.tokens.now) ≡ false = search rules in
    let left : sees (k.LeftParen ∷ []) (drop c.args.at c.args.tokens.now) ≡ true = search rules in
    sym (at_left c.args.depth (drop c.args.at c.args.tokens.now) not_range left ∙ ap (closes (c.args.depth + 1)) (one_more c.args.at c.args.tokens.now))

pub returns-then-depth-eq0-clause-answer : goal.returns-then-depth-eq0-clause-answer
returns-then-depth-eq0-clause-answer c =
    let not_range : sees (k.Range ∷ []) (drop c.args.at c.args.tokens.now) ≡ false = search rules in
    let not_left : sees (k.LeftParen ∷ []) (drop c.args.at c.args.tokens.now) ≡ false = search rules in
    let right : sees (k.RightParen ∷ []) (drop c.args.at c.args.tokens.now) ≡ true = search rules in
    let none : c.args.depth ≡ 0 = omega arith in
    sym (at_last_right c.args.depth (drop c.args.at c.args.tokens.now) not_range not_left right none)

pub returns-else-depth-eq0-clause-answer : goal.returns-else-depth-eq0-clause-answer
returns-else-depth-eq0-clause-answer c =
    let not_range : sees (k.Range ∷ []) (drop c.args.at c.args.tokens.now) ≡ false = search rules in
    let not_left : sees (k.LeftParen ∷ []) (drop c.args.at c.args.tokens.now) ≡ false = search rules in
    let right : sees (k.RightParen ∷ []) (drop c.args.at c.args.tokens.now) ≡ true = search rules in
    let some : 0 < c.args.depth = omega arith in
    sym (at_right c.args.depth (drop c.args.at c.args.tokens.now) not_range not_left right some ∙ ap (closes (c.args.depth - 1)) (one_more c.args.at c.args.tokens.now))

pub returns-then-depth-eq0-2-clause-answer : goal.returns-then-depth-eq0-2-clause-answer
returns-then-depth-eq0-2-clause-answer c =
    let not_range : sees (k.Range ∷ []) (drop c.args.at c.args.tokens.now) ≡ false = search rules in
    let not_left : sees (k.LeftParen ∷ []) (drop c.args.at c.args.tokens.now) ≡ false = search rules in
    let not_right : sees (k.RightParen ∷ []) (drop c.args.at c.args.tokens.now) ≡ false = search rules in
    let comma : sees (k.Comma ∷ []) (drop c.args.at c.args.tokens.now) ≡ true = search rules in
    let none : c.args.depth ≡ 0 = omega arith in
    sym (at_last_comma c.args.depth (drop c.args.at c.args.tokens.now) not_range not_left not_right comma none)

pub returns-else-depth-eq0-2-clause-answer : goal.returns-else-depth-eq0-2-clause-answer
returns-else-depth-eq0-2-clause-answer c =
    let not_range : sees (k.Range ∷ []) (drop c.args.at c.args.tokens.now) ≡ false = search rules in
    let not_left : sees (k.LeftParen ∷ []) (drop c.args.at c.args.tokens.now) ≡ false = search rules in
    let not_right : sees (k.RightParen ∷ []) (drop c.args.at c.args.tokens.now) ≡ false = search rules in
    let comma : sees (k.Comma ∷ []) (drop c.args.at c.args.tokens.now) ≡ true = search rules in
    let some : 0 < c.args.depth = omega arith in
    sym (at_comma c.args.depth (drop c.args.at c.args.tokens.now) not_range not_left not_right comma some ∙ ap (closes c.args.depth) (one_more c.args.at c.args.tokens.now))

pub returns-else-sees_later-4-clause-answer : goal.returns-else-sees_later-4-clause-answer
returns-else-sees_later-4-clause-answer c =
    let not_range : sees (k.Range ∷ []) (drop c.args.at c.args.tokens.now) ≡ false = search rules in
    let not_left : sees (k.LeftParen ∷ []) (drop c.args.at c.args.tokens.now) ≡ false = search rules in
    let not_right : sees (k.RightParen ∷ []) (drop c.args.at c.args.tokens.now) ≡ false = search rules in
    let not_comma : sees (k.Comma ∷ []) (drop c.args.at c.args.tokens.now) ≡ false = search rules in
    sym (at_other c.args.depth (drop c.args.at c.args.tokens.now) not_range not_left not_right not_comma ∙ ap (closes c.args.depth) (one_more c.args.at c.args.tokens.now))
