-- The record of a planned definition is kept, or not.
use Rattle.std.proofs.Common.{◌≡◌, ℕ, ◌+◌, Bool, true, false, refl, sym, ap, subst, ◌∙◌}
use Rattle.std.proofs.lemmas.Result.{err_from_is_err_and}
use Rattle.std.specs.Prelude.{nat_le, IsErrAnd, Result, Ok, Err}
use Rattle.ebr_base.specs.declared.code.Code.{Code}
use Rattle.ebr_base.specs.declared.code.Code.TheVariants.{Ebr}
use Rattle.ebr_cross.specs.declared.record.CatalogueRecord.{CatalogueRecord}
use Rattle.ebr_record.specs.declared.record.Record.{Record}
use Rattle.ebr_record.specs.Keeper.{Keeper, share, max_journal}
use Rattle.ebr_database.specs.declared.failure.Failure.{Failure}
use Rattle.ebr_database.specs.declared.failure.Failure.TheVariants.{Refused, Halted}
use Rattle.ebr_database.specs.declared.failure.Halt.TheVariants.{NoMemory}
use Rattle.ebr_database.specs.Outcome.{gives, then_run}
use Rattle.ebr_database.specs.Transact.{Done, done, kept_if, keep_record}
use Rattle.ebr_database.specs.Shows.{Shows}
use Rattle.ebr_database.proofs.Keeping.{grew_same, stays}
use Rattle.ebr_core.specs.Machine.{recorded}
use Rattle.ebr_core.specs.Records.{record_of}
use Rattle.ebr_core.specs.inside.Defining.{KeepsPlanned, NotKept, Recorded}

abbrev refuses : Code → Done
refuses code = Err code

same_code : (x y : Code) → refuses x ≡ refuses y → x ≡ y
same_code x y e = cc

is_refused : (code : Code) → refuses code ≡ done → ⊥
is_refused code e = cc

is_done : (code : Code) → done ≡ refuses code → ⊥
is_done code e = cc

abbrev recorded_if : Bool → CatalogueRecord → ℕ → Recorded
recorded_if b d used = then_run (kept_if b (record_of d) used) (λ u used'. gives used' (Ok d))

kept_by : (b : Bool) (d : CatalogueRecord) (used n : ℕ) (old new : Keeper) (res : Result (Unit {0}) Failure)
    → Shows (kept_if b (record_of d) used) n old new res → KeepsPlanned old new res d (recorded_if b d used)
kept_by true d used n old new (Ok u) s = record { made = refl; value = refl; grew = s.grew }
kept_by false d used n old new (Ok u) s = absurd (is_refused (Ebr 42) s.value)
kept_by true d used n old new (Err (Refused code)) s = absurd (is_done code s.value)
kept_by false d used n old new (Err (Refused code)) s = record { made = refl; value = ap (λ k. Err k) (same_code (Ebr 42) code s.value); grew = s.grew }
kept_by true d used n old new (Err (Halted why)) s = s
kept_by false d used n old new (Err (Halted why)) s = s

-- by what the keeper answers to the record
pub planned_kept : (d : CatalogueRecord) (r : Record) (used n : ℕ) (old new : Keeper) (res : Result (Unit {0}) Failure)
    → r ≡ record_of d → Shows (keep_record r used) n old new res → KeepsPlanned old new res d (recorded (Ok d) used)
planned_kept d r used n old new res is s =
    kept_by (nat_le (used + share (record_of d)) max_journal) d used n old new res (subst (λ x. Shows (keep_record x used) n old new res) is s)

-- there was no memory for the record
pub not_kept : (d : CatalogueRecord) (used : ℕ) (k : Keeper) (res : Result (Unit {0}) Failure) → IsErrAnd res (λ f. f ≡ Halted NoMemory) → KeepsPlanned k k res d (recorded (Ok d) used)
not_kept d used k res h =
    let p = err_from_is_err_and res h in
    subst (λ x. KeepsPlanned k k x d (recorded (Ok d) used)) (sym (p.1 ∙ ap (λ f. Err f) p.2)) (stays k (recorded (Ok d) used).made)

-- a definition that is refused
pub not_planned : (out : Result CatalogueRecord Code) (code : Code) (used : ℕ) (k : Keeper) → out ≡ Err code → NotKept k k (recorded out used) code
not_planned out code used k is = subst (λ o. NotKept k k (recorded o used) code) (sym is) (record { made = refl; value = refl; grew = grew_same k })
