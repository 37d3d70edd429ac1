use Rattle.std.proofs.Common.{◌≡◌, map, drop}
use Rattle.ebr_validity.specs.Rules.{is_defined}
use Rattle.ebr_validity.specs.Units.{head_of_subprogram}
use Rattle.ebr_check.proofs.package.has_head.Given as goal

abbrev pub invariant-loop-subprogram : goal.invariant-loop-subprogram
invariant-loop-subprogram l =
    is_defined (map head_of_subprogram (drop l.subprogram-index l.subprograms)) l.head ≡ is_defined (map head_of_subprogram l.subprograms) l.head
