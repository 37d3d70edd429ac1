-- What is kept beside the declared names, the innermost first.
use Rattle.std.specs.Prelude.{◌≡◌, List, map, true}
use Rattle.std.specs.Option.{is_some}
use Rattle.ebr_scope.specs.declared.scopes.Entry as inside
use Rattle.ebr_scope.specs.Lent.{lent}
use Rattle.ebr_scope.specs.Meanings.{head_in}
use Rattle.ebr_scope.specs.Nests.{Key}

-- each is found by its name
abbrev pub named : inside.Entry → Key
named e = (e.name.now, true)

-- a subprogram alone is found by its name
abbrev pub callable : inside.Entry → Key
callable e = (e.name.now, is_some (head_in (lent e.meaning)))

pub record IsKept (places subprograms : List Key) (entries : List inside.Entry) : Type 0 where
  pub every : places ≡ map named entries
  pub some : subprograms ≡ map callable entries
