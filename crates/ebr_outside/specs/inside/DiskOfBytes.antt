-- The disk of a word that has bytes holds these.
use Rattle.std.specs.Prelude.{◌≡◌, ℕ, List, [], Option, Some, None, IfSome, unwrap_or, refl}
use Rattle.ebr_outside.specs.declared.memory.host.MemFile.{MemFile}
use Rattle.ebr_outside.specs.Memory.{bytes_of, disk_bytes_of}

behind : (bytes : Option (List ℕ)) → IfSome bytes (λ b. Some (unwrap_or bytes []) ≡ Some b)
behind None = tt
behind (Some b) = refl

pub disk_of_bytes : (files : List MemFile) (word : List ℕ) → IfSome (bytes_of files word) (λ b. Some (disk_bytes_of files word) ≡ Some b)
disk_of_bytes files word = behind (bytes_of files word)
