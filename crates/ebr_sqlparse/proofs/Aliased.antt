-- An item is what it is, and then its alias.
use Rattle.std.proofs.Common.{◌≡◌, List, Some, None, refl}
use Rattle.ebr_lexer.specs.declared.token.Token.{Token}
use Rattle.ebr_grammar.specs.Forms.{Found}
use Rattle.ebr_grammar.specs.Reading.{and_then, reads}
use Rattle.ebr_sqlparse.specs.Productions.{reads_by}
use Rattle.ebr_sqlparse.specs.Items.{read_what}
use Rattle.ebr_sqlparse.specs.Statements.{item}
use Rattle.ebr_sqlparse.specs.inside.Aliased.{aliased}

same_found : {A B : Type 0} (found : Found A) (k : A → List Token → Found B) → and_then (and_then found (λ a end. Some (a, end))) k ≡ and_then found k
same_found None k = refl
same_found (Some x) k = refl

pub reads_item : (ts : List Token) → reads_by item ts ≡ aliased (read_what ts)
unfolding item reads
reads_item ts = same_found (read_what ts) _
