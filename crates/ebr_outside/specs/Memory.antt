-- The outside in memory.
use Rattle.std.specs.Prelude.{ℕ, true, false, List, [], ◌∷◌, ◌++◌, Option, find, option_map, unwrap_or}
use Rattle.std.specs.Str.{bytes_eq}
use Rattle.ebr_outside.specs.declared.memory.fail.Fail.{Fail}
use Rattle.ebr_outside.specs.declared.memory.fail.Calls.{Calls}
use Rattle.ebr_outside.specs.declared.memory.host.MemFile.{MemFile}
use Rattle.ebr_outside.specs.declared.host_call.HostCall.{HostCall}
use Rattle.ebr_outside.specs.declared.host_call.HostMethod.{HostMethod}
use Rattle.ebr_outside.specs.Calls.{after_call, after_fault, none_made}
use Rattle.ebr_outside.specs.MemDisk.{DiskState}

-- a source: its word, the bytes that are still to be read, and its calls of `read`
pub record SourceState : Type 0 where
  pub word : List ℕ
  pub left : List ℕ
  pub calls : Calls

-- a sink: its word, the bytes that were written, and its calls of `write`
pub record SinkState : Type 0 where
  pub word : List ℕ
  pub held : List ℕ
  pub calls : Calls

-- A host: its files, the writes of the next report that fail, how many reports were made, and its calls of `source`, `sink` and `disk`,
-- as they are counted and as they are told.
pub record HostState : Type 0 where
  pub files : List MemFile
  pub report : List Fail
  pub reports : ℕ
  pub calls : Calls
  pub made : List HostCall

-- after one more call
abbrev pub called : HostState → HostMethod → List ℕ → HostState
called h method word = record h { calls = after_call h.calls; made = h.made ++ record { method = method; word = word; failed = false } ∷ [] }

-- after one more call, which failed
abbrev pub failed : HostState → HostMethod → List ℕ → HostState
failed h method word = record h { calls = after_fault h.calls; made = h.made ++ record { method = method; word = word; failed = true } ∷ [] }

-- the first file of a word
abbrev pub file_of : List MemFile → List ℕ → Option MemFile
file_of files word = find (λ file. bytes_eq file.word word) files

-- the bytes behind a word
abbrev pub bytes_of : List MemFile → List ℕ → Option (List ℕ)
bytes_of files word = option_map (λ (file : MemFile). file.bytes) (file_of files word)

-- a source of the bytes behind a word, where a file has it
abbrev pub source_of : List MemFile → List ℕ → Option SourceState
source_of files word = option_map (λ (file : MemFile). record { word = word; left = file.bytes; calls = none_made file.source }) (file_of files word)

-- the writes that fail of a sink that is made for a word: none where no file has it
abbrev pub failing_writes : List MemFile → List ℕ → List Fail
failing_writes files word = unwrap_or (option_map (λ (file : MemFile). file.sink) (file_of files word)) []

-- the bytes of a word's disk: none where no file has it
abbrev pub disk_bytes_of : List MemFile → List ℕ → List ℕ
disk_bytes_of files word = unwrap_or (bytes_of files word) []

-- the calls that fail of a disk that is opened for a word
abbrev pub failing_calls : List MemFile → List ℕ → List Fail
failing_calls files word = unwrap_or (option_map (λ (file : MemFile). file.disk) (file_of files word)) []

-- the disk of a word, which no call has changed
abbrev pub disk_of : List MemFile → List ℕ → DiskState
disk_of files word = record { first = disk_bytes_of files word; past = []; calls = none_made (failing_calls files word) }
