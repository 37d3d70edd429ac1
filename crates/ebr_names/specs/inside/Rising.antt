-- Whether objects stand in the order of their keys, each key once, told of each and the next.
use Rattle.std.specs.Prelude.{Bool, true, ◌&&◌, List, [], ◌∷◌, Option, Some, None}
use Rattle.std.specs.Ordering.{is_lt}
use Rattle.ebr_base.specs.Keys.{key_order}
use Rattle.ebr_ast.specs.declared.view.Object.{Object}

abbrev pub is_before : Option Object → Option Object → Bool
is_before None next = true
is_before (Some x) None = true
is_before (Some x) (Some y) = is_lt (key_order x.key y.key)

abbrev pub follows : Object → List Object → Bool
follows x [] = true
follows x (y ∷ ys) = is_lt (key_order x.key y.key)

abbrev pub rising : List Object → Bool
rising [] = true
rising (x ∷ xs) = follows x xs && rising xs
