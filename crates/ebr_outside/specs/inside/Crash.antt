-- What a crash leaves of a disk in memory, by a number that picks it.
use Rattle.std.specs.Prelude.{◌≡◌, ℕ, ◌/◌, Bool, if◌then◌else◌, List, length, take}
use Rattle.ebr_outside.specs.Disk.{Torn, Cut, written}
use Rattle.ebr_outside.specs.MemDisk.{begun, replayed}
use Rattle.ebr_outside.specs.declared.memory.disk_call.DiskCall.{DiskCall}
use Rattle.ebr_outside.specs.declared.memory.disk_call.DiskCall.TheVariants.{Write, Cut as CutTo, Sync}
use Rattle.ebr_outside.specs.declared.memory.crash.How.{How}
use Rattle.ebr_outside.specs.declared.memory.crash.How.TheVariants.{Left, Whole, First, Second}

-- so much of a write is found
abbrev pub PartlyWritten : How → ℕ → List ℕ → Bool → List ℕ → List ℕ → Type 0
PartlyWritten Left at piece done old new = new ≡ old
PartlyWritten Whole at piece done old new = new ≡ (if done then written old at piece else old)
PartlyWritten First at piece done old new = Torn at (length piece) old new
PartlyWritten Second at piece done old new = Torn at (length piece) old new

-- so much of a cut is found
abbrev pub PartlyCut : How → ℕ → Bool → List ℕ → List ℕ → Type 0
PartlyCut Left len done old new = new ≡ old
PartlyCut Whole len done old new = new ≡ (if done then take len old else old)
PartlyCut First len done old new = Cut len old new
PartlyCut Second len done old new = Cut len old new

-- what is left of an image after a call, of which so much is found
abbrev pub LeftBy : How → List ℕ → List ℕ → DiskCall → List ℕ → Type 0
LeftBy how reads old (Write at piece done) new = PartlyWritten how at piece done old new
LeftBy how reads old (CutTo len done) new = PartlyCut how len done old new
LeftBy how reads old Sync new = new ≡ reads

-- pick 1 chooses the whole, and pick 0 nothing
pub record Chooses (pick rest : ℕ) (how : How) : Type 0 where
  pub most : pick ≡ 1 → how ≡ Whole
  pub least : pick ≡ 0 → rest ≡ 0 → how ≡ Left

abbrev pub rest_after : ℕ → ℕ → DiskCall → ℕ
rest_after pick rest (Write at piece done) = rest / 4
rest_after pick rest (CutTo len done) = rest / 4
rest_after pick rest Sync = pick

-- A crash after these calls may leave the image. Pick 0 has it as the last sync left it, and pick 1 as a read gives it.
pub record IsImageFor (first : List ℕ) (past : List DiskCall) (pick : ℕ) (image : List ℕ) : Type 0 where
  pub left : (replayed past (begun first)).leaves image
  pub least : pick ≡ 0 → image ≡ (replayed past (begun first)).synced
  pub most : pick ≡ 1 → image ≡ (replayed past (begun first)).reads
