-- What is called by what a name means, with so many arguments and values that it gives back.
use Rattle.std.specs.Prelude.{ℕ, Option, Some, None}
use Rattle.ebr_run.specs.declared.callee.Callee.{Callee}
use Rattle.ebr_run.specs.Scope.{Denoted, Subprogram, callee}

abbrev pub callee_of : Option Denoted → ℕ → ℕ → Option Callee
callee_of (Some (Subprogram key at h)) arguments results = Some (callee key at arguments results)
callee_of d arguments results = None
