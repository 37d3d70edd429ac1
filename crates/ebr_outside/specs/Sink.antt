-- What a write adds.
use Rattle.std.specs.Prelude.{ℕ, Bool, true, false, List, ◌++◌, Option, Some, None}
use Rattle.ebr_faults.specs.Faults.{one_more}

-- the bytes, and then more, where they are told
abbrev pub appended : Option (List ℕ) → List ℕ → Option (List ℕ)
appended None more = None
appended (Some held) more = Some (held ++ more)

-- the count of faults after writes of which each came through, or the last one failed
abbrev pub faults_after : Bool → ℕ → ℕ
faults_after true faults = faults
faults_after false faults = one_more faults
