-- The outside of the system, of which a contract sees the faults, and the word that a file was opened for.
use Rattle.std.specs.Prelude.{ℕ, false, List, []}
use Rattle.ebr_outside.specs.Disk.{Medium}
use Rattle.ebr_faults.specs.Faults.{one_more}

-- a disk, or the standard output: how many of its calls have failed
pub record FileState : Type 0 where
  pub faults : ℕ

-- before the first call
abbrev pub no_faults : FileState
no_faults = record { faults = 0 }

-- after one more call that failed
abbrev pub one_fault_more : FileState → FileState
one_fault_more state = record { faults = one_more state.faults }

-- a file that is read or written in order: the word that it was opened for, and how many of its calls have failed
pub record StreamState : Type 0 where
  pub word : List ℕ
  pub faults : ℕ

-- the stream of a word before the first call
abbrev pub stream_of : List ℕ → StreamState
stream_of word = record { word = word; faults = 0 }

-- after one more call that failed
abbrev pub stream_failed : StreamState → StreamState
stream_failed state = record state { faults = one_more state.faults }

-- what opens files: how many of its calls have failed, and how many reports it has made
pub record OpenerState : Type 0 where
  pub faults : ℕ
  pub reports : ℕ

-- before the first call
abbrev pub no_calls : OpenerState
no_calls = record { faults = 0; reports = 0 }

-- after one more call that failed
abbrev pub opener_failed : OpenerState → OpenerState
opener_failed state = record state { faults = one_more state.faults }

-- as a disk it tells nothing of its bytes and images
abbrev pub as_medium : FileState → Medium
as_medium s = record { tells = false; reads = []; faults = s.faults; moment = 0; leaves = λ t image. Unit {0} }
