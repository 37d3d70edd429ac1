-- The calls that a host tells.
use Rattle.std.specs.Prelude.{ℕ, true, false, List, [], ◌∷◌, ◌++◌, Option, Some, None, Result, Ok, Err}
use Rattle.ebr_outside.specs.declared.host.HostErr.{HostErr}
use Rattle.ebr_outside.specs.declared.host.HostErr.TheVariants as error
use Rattle.ebr_outside.specs.declared.host_call.HostCall.{HostCall}
use Rattle.ebr_outside.specs.declared.host_call.HostMethod.{HostMethod}

-- the calls, and then one more, where they are told
abbrev pub with_call : Option (List HostCall) → HostCall → Option (List HostCall)
with_call None call = None
with_call (Some calls) call = Some (calls ++ call ∷ [])

-- The calls after one that was answered so. One that found no memory isn't told.
abbrev pub calls_after : {S : Type 0} → Option (List HostCall) → HostMethod → List ℕ → Result S HostErr → Option (List HostCall)
calls_after calls method word (Ok s) = with_call calls (record { method = method; word = word; failed = false })
calls_after calls method word (Err error.Failed) = with_call calls (record { method = method; word = word; failed = true })
calls_after calls method word (Err error.NoMemory) = calls
