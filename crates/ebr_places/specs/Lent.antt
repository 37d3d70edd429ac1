-- What the code has of a name, as what it stands for.
use Rattle.std.specs.Prelude.{map}
use Rattle.ebr_places.specs.declared.denoted.Bound as has
use Rattle.ebr_places.specs.declared.denoted.Part as has_part
use Rattle.ebr_places.specs.declared.denoted.Denoted as lending
use Rattle.ebr_places.specs.declared.denoted.Denoted.TheVariants as found
use Rattle.ebr_run.specs.Scope.{Denoted, Part, Bound, Variable, Exception, Cursor, Record, Subprogram}

abbrev pub bound : {A : Type 0} → has.Bound A → Bound A
bound b = record { tree = b.tree; binds = b.binds }

abbrev pub part : has_part.Part → Part
part p = record { name = p.name; variable = p.variable; ty = p.ty }

abbrev pub lent : lending.Denoted → Denoted
lent (found.Variable l t) = Variable l t
lent (found.Exception p f) = Exception p f
lent (found.Cursor l q fs) = Cursor l (bound q) fs
lent (found.Record ps) = Record (map part ps)
lent (found.Subprogram key at h) = Subprogram key at h.now
