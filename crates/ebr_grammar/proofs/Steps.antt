-- Reading by one production, a step at a time.
use Rattle.std.proofs.Common.{◌≡◌, List, [], length, Option, Some, refl}
use Rattle.std.specs.Prelude.{if◌then◌else◌}
use Rattle.ebr_grammar.specs.declared.kind.Kind.{Kind}
use Rattle.ebr_lexer.specs.declared.token.Token.{Token}
use Rattle.ebr_grammar.specs.Grammar.{Production, token, word, nothing, both, or, many, made, tested, led, named, outer}
use Rattle.ebr_grammar.specs.Forms.{Reader, Outer, sees}
use Rattle.ebr_grammar.specs.Reading.{and_then, before, read_token, read_word, Hints, first, repeat, reads}

module _ {K : Type 0} {V : K → Type 0} (hints : Hints K) (at : (k : K) → Reader (V k)) where
  pub reads-token : {C : Type 0} (kinds : List Kind) (f : Token → Option C) (ts : List Token) → reads hints at (token kinds f) ts ≡ read_token kinds f ts
  unfolding reads
  reads-token kinds f ts = refl

  pub reads-word : {C : Type 0} (kind : Kind) (c : C) (ts : List Token) → reads hints at (word kind c) ts ≡ read_word kind c ts
  unfolding reads
  reads-word kind c ts = refl

  pub reads-nothing : {C : Type 0} (x : C) (ts : List Token) → reads hints at (nothing x) ts ≡ Some (x, ts)
  unfolding reads
  reads-nothing x ts = refl

  pub reads-both : {A B C : Type 0} (f : A → B → C) (g : Production K V A) (h : Production K V B) (ts : List Token)
      → reads hints at (both f g h) ts ≡ and_then (reads hints at g ts) (λ a rest. and_then (reads hints at h rest) (λ b end. Some (f a b, end)))
  unfolding reads
  reads-both f g h ts = refl

  pub reads-or : {C : Type 0} (g h : Production K V C) (ts : List Token) → reads hints at (or g h) ts ≡ (if sees (first hints g) ts then reads hints at g ts else reads hints at h ts)
  unfolding reads
  reads-or g h ts = refl

  pub reads-many : {A C : Type 0} (f : List A → C) (g : Production K V A) (ts : List Token)
      → reads hints at (many f g) ts ≡ and_then (repeat (first hints g) (reads hints at g) (length ts) [] ts) (λ found end. Some (f found, end))
  unfolding reads
  reads-many f g ts = refl

  pub reads-made : {A C : Type 0} (f : A → C) (g : Production K V A) (ts : List Token) → reads hints at (made f g) ts ≡ and_then (reads hints at g ts) (λ a end. Some (f a, end))
  unfolding reads
  reads-made f g ts = refl

  pub reads-tested : {A C : Type 0} (f : A → Option C) (g : Production K V A) (ts : List Token) → reads hints at (tested f g) ts ≡ and_then (reads hints at g ts) (λ a end. before end (f a))
  unfolding reads
  reads-tested f g ts = refl

  pub reads-led : {C : Type 0} (kinds : List Kind) (g : Production K V C) (ts : List Token) → reads hints at (led kinds g) ts ≡ reads hints at g ts
  unfolding reads
  reads-led kinds g ts = refl

  pub reads-named : {C : Type 0} (k : K) (f : V k → C) (ts : List Token) → reads hints at (named k f) ts ≡ and_then (at k ts) (λ a end. Some (f a, end))
  unfolding reads
  reads-named k f ts = refl

  pub reads-outer : {A C : Type 0} (o : Outer A) (f : A → C) (ts : List Token) → reads hints at (outer o f) ts ≡ and_then (o.reader ts) (λ a end. Some (f a, end))
  unfolding reads
  reads-outer o f ts = refl

pub ruleset steps = (reads-token, reads-word, reads-nothing, reads-both, reads-or, reads-many, reads-made, reads-tested, reads-led, reads-named, reads-outer)
