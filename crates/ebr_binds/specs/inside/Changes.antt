-- A change among its sources.
use Rattle.std.specs.Prelude.{map}
use Rattle.ebr_ast.specs.declared.sql.Delete.{Delete}
use Rattle.ebr_ast.specs.declared.sql.Update.{Update}
use Rattle.ebr_run.specs.Binds.{InSources, bind_one, bind_two, bind_all, bound_set, bound_maybe}

abbrev pub update_over : Update → InSources Update
update_over u relations env n =
    bind_two (λ sets f. record u { sets = sets; filter = f }) (bind_all (map (bound_set relations env) u.sets)) (bound_maybe u.filter relations env) n

abbrev pub delete_over : Delete → InSources Delete
delete_over d relations env n = bind_one (λ f. record d { filter = f }) (bound_maybe d.filter relations env) n
