-- What the code has of a name and of a package, as what it means.
use Rattle.std.specs.Prelude.{option_map}
use Rattle.ebr_scope.specs.declared.meaning.Meaning.TheVariants as found
use Rattle.ebr_scope.specs.declared.meaning.Meaning as lending
use Rattle.ebr_scope.specs.declared.place.Place.{Place}
use Rattle.ebr_scope.specs.declared.place.OwnPackage as of_place
use Rattle.ebr_scope.specs.Meanings.{Meaning, Variable, Constant, Parameter, Exception, Cursor, Record, Subprogram, Scope}
use Rattle.ebr_scope.specs.Around.{Env, OwnPackage}

abbrev pub lent : lending.Meaning → Meaning
lent (found.Variable t) = Variable t
lent (found.Constant t) = Constant t
lent (found.Parameter m t) = Parameter m t
lent found.Exception = Exception
lent found.Cursor = Cursor
lent found.Record = Record
lent (found.Subprogram h) = Subprogram h.now

abbrev pub own_package : of_place.OwnPackage → OwnPackage
own_package p = record { name = p.name.now; declares = p.declares }

-- what is known at a place
abbrev pub env : Place → Scope → Env
env p scope = record {
  view = p.seen.now.view;
  scope = scope;
  in_loop = p.in_loop;
  in_handler = p.in_handler;
  outermost = p.outermost;
  own = option_map own_package p.own;
  result = p.gives;
  timing = p.timing;
  columns = p.columns.now;
}
