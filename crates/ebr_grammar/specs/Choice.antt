-- When one token is enough to choose by.
use Rattle.std.specs.Prelude.{Bool, true, false, not, ◌&&◌, if◌then◌else◌, List, [], ◌∷◌, ◌++◌}
use Rattle.ebr_grammar.specs.declared.kind.Kind.{Kind}
use Rattle.ebr_grammar.specs.Kinds.{member}
use Rattle.ebr_grammar.specs.Grammar.{Production, token, word, nothing, both, or, many, made, tested, led, named, outer}
use Rattle.ebr_grammar.specs.Reading.{Hints, nullable, first}

-- no kind is in both
abbrev pub apart : List Kind → List Kind → Bool
apart [] ys = true
apart (x ∷ xs) ys = if member x ys then false else apart xs ys

-- all of these are among those
abbrev pub among : List Kind → List Kind → Bool
among [] ys = true
among (x ∷ xs) ys = if member x ys then among xs ys else false

module _ {K : Type 0} {V : K → Type 0} (hints : Hints K) where
  -- what a production may go on with where it could have ended
  abbrev pub after : {C : Type 0} → Production K V C → List Kind
  after (token kinds f) = []
  after (word kind c) = []
  after (nothing x) = []
  after (both f g h) = if nullable hints h then after h ++ after g else after h
  after (or g h) = if nullable hints h then after g ++ (after h ++ first hints g) else after g ++ after h
  after (many f g) = after g ++ first hints g
  after (made f g) = after g
  after (tested f g) = after g
  after (led kinds g) = after g
  after (named k f) = hints.goes_on k
  after (outer o f) = o.goes_on

  -- the next token says which way to go
  abbrev pub is_clear : {C : Type 0} → Production K V C → Bool
  is_clear (token kinds f) = true
  is_clear (word kind c) = true
  is_clear (nothing x) = true
  is_clear (both f g h) = is_clear g && (is_clear h && apart (after g) (first hints h))
  is_clear (or g h) = is_clear g && (is_clear h && (not (nullable hints g) && apart (first hints g) (first hints h)))
  is_clear (many f g) = is_clear g && (not (nullable hints g) && apart (after g) (first hints g))
  is_clear (made f g) = is_clear g
  is_clear (tested f g) = is_clear g
  is_clear (led kinds g) = is_clear g && (not (nullable hints g) && among (first hints g) kinds)
  is_clear (named k f) = true
  is_clear (outer o f) = true

  -- a named production stands only behind a token
  abbrev pub is_guarded : {C : Type 0} → Production K V C → Bool
  is_guarded (token kinds f) = true
  is_guarded (word kind c) = true
  is_guarded (nothing x) = true
  is_guarded (both f g h) = is_guarded g && (if nullable hints g then is_guarded h else true)
  is_guarded (or g h) = is_guarded g && is_guarded h
  is_guarded (many f g) = is_guarded g && not (nullable hints g)
  is_guarded (made f g) = is_guarded g
  is_guarded (tested f g) = is_guarded g
  is_guarded (led kinds g) = is_guarded g
  is_guarded (named k f) = false
  is_guarded (outer o f) = true

  -- the production of a name keeps what its hints say
  abbrev pub is_sound : {C : Type 0} → K → Production K V C → Bool
  is_sound k g = is_clear g && (is_guarded g && (not (nullable hints g) && (among (first hints g) (hints.begins k) && among (after g) (hints.goes_on k))))
