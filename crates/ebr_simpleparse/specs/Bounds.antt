-- The low bound of a loop's range, with the `..` behind it (Oracle Database PL/SQL Language Reference 19c, FOR LOOP
-- Statement): [REVERSE] e `..`.
use Rattle.std.specs.Prelude.{Bool, true, false, ◌⊎◌}
use Rattle.ebr_grammar.specs.declared.kind.Kind.TheVariants as k
use Rattle.ebr_grammar.specs.Forms.{Form}
use Rattle.ebr_grammar.specs.Grammar.{outer}
use Rattle.ebr_grammar.specs.Words.{◌▸◌, ◌◂◌}
use Rattle.ebr_exprtree.specs.declared.expression.Expr.{Expr}
use Rattle.ebr_exprparse.specs.Parts.{expression}
use Rattle.ebr_simpleparse.specs.Types.{Plain, SpelledPlainly}

-- whether the loop runs downwards, and the bound
abbrev pub Bound : Type 0
Bound = Bool × Expr

-- e ..
unfoldable pub plain_bound : Plain Bound
plain_bound = outer expression (λ x. (false, x)) ◂ k.Range

-- REVERSE e ..
unfoldable pub reversed_bound : Plain Bound
reversed_bound = k.Reverse ▸ outer expression (λ x. (true, x)) ◂ k.Range

-- The tokens spell the bound. REVERSE is no reserved word, so it may also be the name that e begins with: it is the keyword
-- wherever the tokens can be read so (own).
abbrev pub SpellsBound : Form Bound
SpellsBound ts b = SpelledPlainly reversed_bound ts b ⊎ (SpelledPlainly plain_bound ts b × ((c : Bound) → SpelledPlainly reversed_bound ts c → ⊥))
