-- What an upgrade does, at each of its exits.
use Rattle.std.proofs.Common.{◌≡◌, inl, inr, ⊎_elim, ℕ, ◌+◌, Bool, true, false, IsTrue, if◌then◌else◌, List, [], ◌∷◌, ◌++◌, Option, Some, None, IfSome, Ok, Err, refl, sym, ◌∙◌, subst, arith}
use mathlib.Core.Bool.{true≢false}
use Rattle.ebr_faults.specs.Faults.{Rises}
use Rattle.ebr_outside.specs.declared.disk.DiskErr.{DiskErr}
use Rattle.ebr_outside.specs.Disk.{Medium, LeavesNow, Goes, Passes}
use Rattle.ebr_record.specs.declared.keep.JournalFault.{JournalFault}
use Rattle.ebr_record.specs.declared.keep.JournalFault.TheVariants as fault
use Rattle.ebr_record.specs.declared.record.Record.{Record}
use Rattle.ebr_record.specs.Keeper.{Keeper, LeavesJust}
use Rattle.ebr_record.specs.Keeper as keeper
use Rattle.ebr_encoding.specs.declared.form.Form.{Form}
use Rattle.ebr_encoding.specs.declared.form.Form.TheVariants.{Short, Long}
use Rattle.ebr_journal.specs.Journal.{Layout, HasRecords, mark_body, records_in}
use Rattle.ebr_journal.specs.Keeper.{kept, keeper_of, AreThese, HasThese, HasFront, IsSettled, IsSound, Keeps, Upgrades}
use Rattle.ebr_journal.specs.Crash.{IsBeforeOrAfter, IsNext, Puts, marked}
use Rattle.ebr_journal.proofs.Gates.{has_front}
use Rattle.ebr_journal.proofs.Layouts.{marked_next}
use Rattle.ebr_journal.proofs.Keeping.{at_rest, kept_is, same_told, passes_same}

module _ (m : Medium) (gate used : ℕ) (form : Form) (stopped : Bool) (sound : IsSound m gate used form stopped) (law : IsTrue m.tells → LeavesNow m m.reads) where
  abbrev k : Keeper
  k = keeper_of m gate used stopped

  pub has_stopped : stopped ≡ true → Upgrades k k (Err fault.Stopped)
  has_stopped e = record {
    why = e;
    after = record { records = refl; used = refl; faults = omega arith; stopped = e; moment = omega arith; tells = refl };
    rest = at_rest m gate used form stopped law sound;
    moments = λ told. record { moment = refl; same = λ t l. (λ x. x, λ x. x) };
  }

-- what is told is so where nothing is told
told_or_not : (b : Bool) (x : List Record) (P : List Record → Type 0) → P x → IfSome (if b then Some x else None) P
told_or_not true x P h = h
told_or_not false x P h = tt

-- an image in front of the mark has the records, and so has one behind it
marks_images : (m new : Medium) (gate : ℕ) (l : Layout) → HasFront m.reads gate l → Passes m new (IsBeforeOrAfter l (marked l)) → Passes m new (HasThese (if m.tells then Some (kept m.reads gate) else None))
marks_images m new gate l front time = record {
  later = time.later;
  only = λ t image le left. ⊎_elim
      (λ was. inl was)
      (λ ends. inr (told_or_not m.tells (kept m.reads gate) (λ records. HasRecords image records) (⊎_elim
      (λ before. inr (record { layout = l; safe = before; are = kept_is m.reads gate l front }))
      (λ after. inr (record { layout = marked l; safe = after; are = kept_is m.reads gate l front }))
      ends)))
      (time.only t image le left);
  keeps = time.keeps;
}

-- a keeper that rests leaves its list
these : (o : Option (List Record)) (k : Keeper) (l : List Record) → IfSome o (LeavesJust k) → k.may_leave k.moment l → AreThese o l
these None k l just left = tt
these (Some records) k l just left = (just l).0 left

module _ (m : Medium) (gate used : ℕ) (stopped : Bool) (law : IsTrue m.tells → LeavesNow m m.reads) (going : stopped ≡ false) where
  abbrev k0 : Keeper
  k0 = keeper_of m gate used stopped

  -- the mark is there
  module _ (sound : IsSound m gate used Long stopped) where
    pub is_there : Upgrades k0 k0 (Ok tt)
    is_there =
        let rest = at_rest m gate used Long stopped law sound in
        record {
          why = going;
          after = record { records = refl; used = refl; faults = omega arith; stopped = going; moment = omega arith; tells = refl };
          rest = rest;
          moments = λ told. record {
            each = λ l left. these k0.records k0 l (rest.leaves going told) left;
            only = λ t l le left. inl left;
            keeps = λ t l le left. left;
          };
        }

  -- it isn't
  module _ (sound : IsSound m gate used Short stopped) (new : Medium) (goes : Goes m new) (law' : IsTrue new.tells → LeavesNow new new.reads) where
    back : IsTrue new.tells → IsTrue m.tells
    back told = subst IsTrue goes.tells told

    module _ (gate' : ℕ) (gate_is : gate' ≡ gate + 7)
        (puts : IsTrue m.tells → (l next : Layout) → IsSettled m gate l → IsNext l next (mark_body ++ 0 ∷ []) → Puts m gate 7 l next (Ok tt) new) where
      done : (told : IsTrue m.tells) → Puts m gate 7 (sound.kept told).layout (marked (sound.kept told).layout) (Ok tt) new
      done told =
          let k' = sound.kept told in
          let s = k'.settled going in
          puts told k'.layout (marked k'.layout) s (marked_next k'.layout (sym k'.follows) s.safe.ends.spelled s.safe.room)

      settled : (told : IsTrue m.tells) → IsSettled new gate' (marked (sound.kept told).layout)
      settled told =
          let k' = sound.kept told in
          let holds : IsSettled new (gate + 7) (marked k'.layout) = (done told).holds in
          record { safe = holds.safe; place = gate_is ∙ holds.place; only = holds.only }

      front : (told : IsTrue m.tells) → HasFront new.reads gate' (marked (sound.kept told).layout)
      front told = let s = settled told in has_front (marked (sound.kept told).layout) gate' s.place new.reads s.safe.ends

      pub longer : IsSound new gate' used Long false
      longer = record {
        least = omega (arith, gate_is, sound.least);
        within = omega (arith, gate_is, sound.within);
        room = omega (arith, gate_is, sound.room);
        small = sound.small;
        kept = λ told'. let k' = sound.kept (back told') in
            record { layout = marked k'.layout; front = front (back told'); counts = k'.counts; follows = refl; settled = λ e. settled (back told') };
      }

      pub marked_images : IsTrue m.tells → Passes m new (HasThese k0.records)
      marked_images told = let k' = sound.kept told in marks_images m new gate k'.layout k'.front (done told).time

      pub is_marked : Upgrades k0 (keeper_of new gate' used false) (Ok tt)
      is_marked = record {
        why = going;
        after = record {
          records = same_told m.tells new.tells goes.tells (kept m.reads gate) (kept new.reads gate')
              (λ told. let k' = sound.kept told in kept_is new.reads gate' (marked k'.layout) (front told) ∙ sym (kept_is m.reads gate k'.layout k'.front));
          used = refl;
          faults = goes.faults;
          stopped = refl;
          moment = goes.moment;
          tells = goes.tells;
        };
        rest = at_rest new gate' used Long false law' longer;
        moments = λ told. let k' = sound.kept told in
            passes_same m new gate used gate' used stopped false k'.layout (marked k'.layout) (k'.settled going) (done told).time k'.front refl;
      }

    module _ (e : DiskErr) (puts : IsTrue m.tells → (l next : Layout) → IsSettled m gate l → IsNext l next (mark_body ++ 0 ∷ []) → Puts m gate 7 l next (Err e) new) where
      failed : (told : IsTrue m.tells) → Puts m gate 7 (sound.kept told).layout (marked (sound.kept told).layout) (Err e) new
      failed told =
          let k' = sound.kept told in
          let s = k'.settled going in
          puts told k'.layout (marked k'.layout) s (marked_next k'.layout (sym k'.follows) s.safe.ends.spelled s.safe.room)

      front_left : (told : IsTrue m.tells) → HasFront new.reads gate (sound.kept told).layout
      front_left told = (failed told).holds

      pub broken : IsSound new gate used Short true
      broken = record {
        least = sound.least;
        within = sound.within;
        room = sound.room;
        small = sound.small;
        kept = λ told'. let k' = sound.kept (back told') in
            record { layout = k'.layout; front = front_left (back told'); counts = k'.counts; follows = k'.follows; settled = λ e. absurd (true≢false e) };
      }

      keeps : (why : JournalFault) → Keeps k0 (keeper_of new gate used true) (Err why)
      keeps why = record {
        records = same_told m.tells new.tells goes.tells (kept m.reads gate) (kept new.reads gate)
            (λ told. let k' = sound.kept told in kept_is new.reads gate k'.layout (front_left told) ∙ sym (kept_is m.reads gate k'.layout k'.front));
        used = refl;
        faults = goes.faults;
        stopped = refl;
        moment = goes.moment;
        tells = goes.tells;
      }

      time : IsTrue m.tells → keeper.Passes k0 (keeper_of new gate used true) (AreThese k0.records)
      time told = let k' = sound.kept told in
          passes_same m new gate used gate used stopped true k'.layout (marked k'.layout) (k'.settled going) (failed told).time k'.front refl

      pub failed_images : IsTrue m.tells → Passes m new (HasThese k0.records)
      failed_images told = let k' = sound.kept told in marks_images m new gate k'.layout k'.front (failed told).time

      pub disk_failed : Rises m.faults new.faults → Upgrades k0 (keeper_of new gate used true) (Err fault.DiskFault)
      disk_failed rises = record { why = (going, rises); after = keeps fault.DiskFault; rest = at_rest new gate used Short true law' broken; moments = time }

      pub no_memory : Upgrades k0 (keeper_of new gate used true) (Err fault.NoMemory)
      no_memory = record { why = going; after = keeps fault.NoMemory; rest = at_rest new gate used Short true law' broken; moments = time }
