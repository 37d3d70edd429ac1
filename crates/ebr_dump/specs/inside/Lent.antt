-- Names that are lent.
use Rattle.std.specs.Prelude.{ℕ, List, map}
use Rattle.std.specs.Borrow.{Bor}

abbrev pub lent_name : Bor (List ℕ) → List ℕ
lent_name name = name.now

abbrev pub lent_names : List (Bor (List ℕ)) → List (List ℕ)
lent_names names = map lent_name names
