-- Which handler catches a fault.
use Rattle.std.specs.Prelude.{if◌then◌else◌, List, [], ◌∷◌, Option, Some, None}
use Rattle.ebr_run.specs.declared.fault.Fault.{Fault}
use Rattle.ebr_run.specs.Faults.{is_caught}
use Rattle.ebr_code.specs.Instructions.{Handling, catches}

-- the first handler that catches a fault
abbrev pub catcher : List Handling → Fault → Option Handling
catcher [] f = None
catcher (h ∷ hs) f = if is_caught (catches h.caught) f then Some h else catcher hs f
