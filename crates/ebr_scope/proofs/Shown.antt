-- A declared name as contracts see it.
use Rattle.ebr_scope.specs.declared.scopes.Entry as inside
use Rattle.ebr_scope.specs.Meanings.{Entry}
use Rattle.ebr_scope.specs.Lent.{lent}

abbrev pub shown : inside.Entry → Entry
shown e = record { name = e.name.now; meaning = lent e.meaning; fields = e.fields }
