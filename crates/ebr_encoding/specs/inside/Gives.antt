-- What a call found is what a reader gives; want of memory is free.
use Rattle.std.specs.Prelude.{◌≡◌, Option, Some, None, Result, Ok, Err}
use Rattle.ebr_encoding.specs.declared.fault.DecodeErr.{DecodeErr}
use Rattle.ebr_encoding.specs.declared.fault.DecodeErr.TheVariants.{Bad, NoMemory}

abbrev pub Fails : {Y : Type 0} → DecodeErr → Option Y → Type 0
Fails Bad found = found ≡ None
Fails NoMemory found = Unit {0}

abbrev pub Gives : {X Y : Type 0} → (X → Y) → Result X DecodeErr → Option Y → Type 0
Gives view (Ok x) found = found ≡ Some (view x)
Gives view (Err e) found = Fails e found
