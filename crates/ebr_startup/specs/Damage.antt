-- The records of a database's file, and where it is damaged (own).
use Rattle.std.specs.Prelude.{◌≡◌, ◌⊎◌, ℕ, ◌+◌, nat_lt, if◌then◌else◌, List, ◌∷◌, ◌++◌, length, take, drop, sum_by}
use Rattle.ebr_record.specs.declared.record.Record.{Record}
use Rattle.ebr_encoding.specs.declared.form.Form.TheVariants.{Short, Long}
use Rattle.ebr_journal.specs.declared.found.Found.{Found}
use Rattle.ebr_journal.specs.Journal.{share_in}
use Rattle.ebr_journal.specs.Found.{Holds, IsDamaged}
use Rattle.ebr_allowed.specs.Allowed.{Allowed, AreAllowed}

-- The place of the gate of a record behind these, of which so many, the first ones, are in the short form. In front of those in the
-- long form stands the mark, of seven bytes.
abbrev pub gate_behind : ℕ → List Record → ℕ
gate_behind short before =
    if nat_lt (length before) short then 1 + sum_by (share_in Short) before else 8 + sum_by (share_in Short) (take short before) + sum_by (share_in Long) (drop short before)

-- The first record that isn't allowed behind those before it stands at this gate.
pub record IsFirstUnallowed (found : Found) (at : ℕ) : Type 0 where
  pub before : List Record
  pub first : Record
  pub behind : List Record
  pub records_are : found.records ≡ before ++ first ∷ behind
  pub allowed : AreAllowed before
  pub unallowed : Allowed before first → ⊥
  pub gate : at ≡ gate_behind found.short before

-- The file is a blank one or a journal, these are its records, and each is allowed behind those before it.
pub record HasDatabase (bytes : List ℕ) (records : List Record) : Type 0 where
  pub found : Found
  pub holds : Holds bytes found
  pub records_are : records ≡ found.records
  pub allowed : AreAllowed records

-- a journal with a record that isn't allowed
pub record HasUnallowed (bytes : List ℕ) (at : ℕ) : Type 0 where
  pub found : Found
  pub holds : Holds bytes found
  pub first : IsFirstUnallowed found at

-- A file that is no journal, or only up to a place. The gates of the records before the damage stand before it.
pub record HasDamage (bytes : List ℕ) (at : ℕ) : Type 0 where
  pub place : ℕ
  pub before : Found
  pub damaged : IsDamaged bytes place before
  pub smallest : IsFirstUnallowed before at ⊎ (AreAllowed before.records × (at ≡ place))

-- The smallest place where the file of a database is damaged.
abbrev pub IsDamagedAt : List ℕ → ℕ → Type 0
IsDamagedAt bytes at = HasUnallowed bytes at ⊎ HasDamage bytes at
