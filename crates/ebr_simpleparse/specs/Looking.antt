-- How reading tells whether REVERSE before a bound is the keyword: by what stands behind it. An expression begins there, and it
-- is none that the name REVERSE goes on with. That this is right is proved in proofs/Keyword.antt.
use Rattle.std.specs.Prelude.{ℕ, ◌+◌, ◌-◌, ◌==◌, Bool, true, false, not, ◌&&◌, if◌then◌else◌, List, [], ◌∷◌, drop}
use Rattle.ebr_lexer.specs.declared.token.Token.{Token}
use Rattle.ebr_grammar.specs.declared.kind.Kind.{Kind}
use Rattle.ebr_grammar.specs.declared.kind.Kind.TheVariants as k
use Rattle.ebr_grammar.specs.Kinds.{kind_of, member}
use Rattle.ebr_grammar.specs.Forms.{Reader, sees, by_test}
use Rattle.ebr_simpleparse.specs.declared.bounds.TheConstants.{NAME_ENDS}
use Rattle.ebr_simpleparse.specs.Types.{reads_plainly}
use Rattle.ebr_simpleparse.specs.Bounds.{Bound, plain_bound, reversed_bound}

-- behind an opening parenthesis, with so many more inside that are open: it closes before `..`, and no comma stands in it
abbrev pub closes : ℕ → List Token → Bool
closes depth [] = false
closes depth (t ∷ ts) =
    if member (kind_of t) (k.Range ∷ []) then false
    else if member (kind_of t) (k.LeftParen ∷ []) then closes (depth + 1) ts
    else if member (kind_of t) (k.RightParen ∷ []) then (if depth == 0 then true else closes (depth - 1) ts)
    else if member (kind_of t) (k.Comma ∷ []) then (if depth == 0 then false else closes depth ts)
    else closes depth ts

-- one item stands there up to the closing parenthesis
unfoldable pub has_one_item : List Token → Bool
has_one_item ts = not (sees (k.RightParen ∷ []) ts) && closes 0 ts

abbrev pub signs : List Kind
signs = k.Plus ∷ k.Minus ∷ []

abbrev pub tests : List Kind
tests = k.In ∷ k.Between ∷ k.Like ∷ []

-- where the bound ends behind a name, or goes on and no expression begins
unfoldable pub name_ends : List Kind
name_ends = NAME_ENDS

-- An expression may begin here, and it is none that goes on with the name before it: `( 1 )` but neither `( )` nor
-- `( 1, 2 )`, which are a call's arguments; `- 1` but not `- - 1`, NOT before what isn't IN, BETWEEN or LIKE.
unfoldable pub begins_bound : List Token → Bool
begins_bound ts =
    if sees (k.LeftParen ∷ []) ts then has_one_item (drop 1 ts)
    else if sees signs ts then not (sees signs (drop 1 ts))
    else if sees (k.Not ∷ []) ts then not (sees tests (drop 1 ts))
    else not (sees name_ends ts)

-- REVERSE stands in front, and is the keyword
unfoldable pub is_reversed : List Token → Bool
is_reversed ts = sees (k.Reverse ∷ []) ts && begins_bound (drop 1 ts)

-- The reading of a bound.
unfoldable pub bound_reader : Reader Bound
bound_reader ts = by_test is_reversed (reads_plainly reversed_bound) (reads_plainly plain_bound) ts
