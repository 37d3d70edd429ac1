-- Words of which each stands for a value.
use Rattle.std.specs.Prelude.{if◌then◌else◌, List, [], ◌∷◌, None}
use Rattle.ebr_grammar.specs.declared.kind.Kind.{Kind}
use Rattle.ebr_grammar.specs.Forms.{Reader, sees}
use Rattle.ebr_grammar.specs.Reading.{read_word}

-- The value of the word that stands there, the first of these.
abbrev pub read_one : {A : Type 0} → List (Kind × A) → Reader A
read_one [] ts = None
read_one (x ∷ []) ts = read_word x.0 x.1 ts
read_one (x ∷ y ∷ rest) ts = if sees (x.0 ∷ []) ts then read_word x.0 x.1 ts else read_one (y ∷ rest) ts
