use Rattle.std.proofs.Common.{◌≡◌}
use Rattle.ebr_base.specs.declared.value.Value.TheVariants as value
use Rattle.ebr_run.specs.Packages.{put}
use Rattle.ebr_memory.specs.Levels.{with_top}
use Rattle.ebr_memory.proofs.memory.put_variable.Given as goal

abbrev pub invariant-places : goal.invariant-places
invariant-places l = record {
  value_is : l.value ≡ l.initial.value;
  same : with_top (put value.Null l.place l.initial.value l.variables.top) l.variables ≡ with_top (put value.Null l.place l.initial.value l.initial.variables.top) l.initial.variables;
}
