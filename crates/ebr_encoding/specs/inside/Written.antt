-- What was written, and that it is read again.
use Rattle.std.specs.Prelude.{◌≡◌, ℕ, List, ◌++◌, Some}
use Rattle.std.specs.List.{flat_map, AllByRecursion}
use Rattle.ebr_record.specs.declared.record.Record.{Record}
use Rattle.ebr_record.specs.Payload.{payload}
use Rattle.ebr_encoding.specs.Reading.{Reader, decoded}

-- the value is read from its bytes, whatever stands behind them
abbrev pub IsReadAgain : {X : Type 0} → Reader X → List ℕ → X → Type 0
IsReadAgain read bytes x = (rest : List ℕ) → read (bytes ++ rest) ≡ Some (x, rest)

-- a value was written behind the old bytes
pub record IsWritten {X : Type 0} (read : Reader X) (spelling : List ℕ) (x : X) (old new : List ℕ) : Type 0 where
  pub bytes : new ≡ old ++ spelling
  pub again : IsReadAgain read spelling x

-- values were, one after the other
pub record AreWritten {X : Type 0} (read : Reader X) (spelling : X → List ℕ) (xs : List X) (old new : List ℕ) : Type 0 where
  pub bytes : new ≡ old ++ flat_map spelling xs
  pub each : AllByRecursion (λ x. IsReadAgain read (spelling x) x) xs

-- a record was
pub record IsRecordWritten (r : Record) (old new : List ℕ) : Type 0 where
  pub bytes : new ≡ old ++ payload r
  pub same : decoded (payload r) ≡ Some r
