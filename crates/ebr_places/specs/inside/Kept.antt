-- What is kept beside the declared names, the innermost first.
use Rattle.std.specs.Prelude.{List, map, true, ◌≡◌}
use Rattle.ebr_scope.specs.Lent as checked
use Rattle.ebr_scope.specs.Meanings as known
use Rattle.ebr_run.specs.Scope.{is_subprogram}
use Rattle.ebr_places.specs.Lent.{lent}
use Rattle.ebr_places.specs.declared.names.Entry as inside
use Rattle.ebr_scope.specs.Nests.{Key}

abbrev pub known_entry : inside.Entry → known.Entry
known_entry e = record { name = e.name.now; meaning = checked.lent e.meaning; fields = e.fields }

-- each is found by its name
abbrev pub named : inside.Entry → Key
named e = (e.name.now, true)

-- a subprogram alone is found by its name
abbrev pub subprogram : inside.Entry → Key
subprogram e = (e.name.now, is_subprogram (lent e.denoted))

pub record IsKept (checks : List known.Entry) (places subprograms : List Key) (entries : List inside.Entry) : Type 0 where
  pub checks_know : checks ≡ map known_entry entries
  pub every : places ≡ map named entries
  pub callable : subprograms ≡ map subprogram entries
