-- What an append does, at each of its exits.
use Rattle.std.proofs.Common.{◌≡◌, ℕ, ◌+◌, ◌<◌, ◌≤◌, Bool, true, false, IsTrue, List, [], ◌∷◌, ◌++◌, Ok, Err, refl, sym, ◌∙◌, ap, subst, arith}
use mathlib.Core.Bool.{true≢false}
use Rattle.ebr_faults.specs.Faults.{Rises}
use Rattle.ebr_outside.specs.declared.disk.DiskErr.{DiskErr}
use Rattle.ebr_outside.specs.Disk.{Medium, LeavesNow, Goes}
use Rattle.ebr_record.specs.declared.keep.JournalFault.{JournalFault}
use Rattle.ebr_record.specs.declared.keep.JournalFault.TheVariants as fault
use Rattle.ebr_record.specs.declared.record.Record.{Record}
use Rattle.ebr_record.specs.Keeper.{Keeper, share, max_journal, IsAtRest, Becomes, WithOrWithout}
use Rattle.ebr_record.specs.Keeper as keeper
use Rattle.ebr_encoding.specs.declared.form.Form.{Form}
use Rattle.ebr_journal.specs.Journal.{Layout, form_of, last_gate, records_in, share_in}
use Rattle.ebr_journal.specs.Keeper.{beside, kept, keeper_of, HasFront, IsSettled, IsSound, Appends}
use Rattle.ebr_journal.specs.Crash.{Puts, added}
use Rattle.ebr_journal.proofs.Gates.{has_front}
use Rattle.ebr_journal.proofs.Layouts.{added_records, added_form, used_more, bounds}
use Rattle.ebr_journal.proofs.Keeping.{at_rest, kept_is, same_told, more_told, passes_more}

module _ (m : Medium) (gate used : ℕ) (form : Form) (stopped : Bool) (r : Record) (sound : IsSound m gate used form stopped) (law : IsTrue m.tells → LeavesNow m m.reads) where
  abbrev k : Keeper
  k = keeper_of m gate used stopped

  pub has_stopped : stopped ≡ true → Appends k k r (Err fault.Stopped)
  has_stopped e = record {
    why = e;
    after = record { records = refl; used = refl; faults = omega arith; stopped = refl; moment = omega arith; tells = refl };
    rest = at_rest m gate used form stopped law sound;
    moments = λ told. record { moment = refl; same = λ t l. (λ x. x, λ x. x) };
  }

  pub is_full : (len : ℕ) → stopped ≡ false → len ≡ used + share r → max_journal < len → Appends k k r (Err (fault.Full len))
  is_full len going is past = record {
    why = (going, is, past);
    after = record { records = refl; used = refl; faults = omega arith; stopped = refl; moment = omega arith; tells = refl };
    rest = at_rest m gate used form stopped law sound;
    moments = λ told. record { moment = refl; same = λ t l. (λ x. x, λ x. x) };
  }

  module _ (new : Medium) (goes : Goes m new) (law' : IsTrue new.tells → LeavesNow new new.reads) (going : stopped ≡ false) (fits : used + share r ≤ max_journal) where
    back : IsTrue new.tells → IsTrue m.tells
    back told = subst IsTrue goes.tells told

    -- the next gate leaves room
    room : (gate + share_in form r ≤ last_gate form) × (gate + share_in form r + beside form ≤ used + share r)
    room = bounds form gate used r sound.room fits

    module _ (gate' used' : ℕ) (gate_is : gate' ≡ gate + share_in form r) (used_is : used' ≡ used + share r)
        (puts : IsTrue m.tells → (l : Layout) → IsSettled m gate l → form ≡ form_of l.long → gate + share_in form r ≤ last_gate form → Puts m gate (share_in form r) l (added l r) (Ok tt) new) where
      settled : (told : IsTrue m.tells) → IsSettled new gate' (added (sound.kept told).layout r)
      settled told =
          let k' = sound.kept told in
          let holds : IsSettled new (gate + share_in form r) (added k'.layout r) = (puts told k'.layout (k'.settled going) k'.follows room.0).holds in
          record { safe = holds.safe; place = gate_is ∙ holds.place; only = holds.only }

      front : (told : IsTrue m.tells) → HasFront new.reads gate' (added (sound.kept told).layout r)
      front told = let s = settled told in has_front (added (sound.kept told).layout r) gate' s.place new.reads s.safe.ends

      pub grown : IsSound new gate' used' form false
      grown =
          record {
            least = omega (arith, gate_is, sound.least);
            within = omega (arith, gate_is, room.0);
            room = omega (arith, gate_is, used_is, room.1);
            small = omega (arith, used_is, fits);
            kept = λ told'.
                let told = back told' in
                let k' = sound.kept told in
                record {
                  layout = added k'.layout r;
                  front = front told;
                  counts = used_is ∙ ap (λ (n : ℕ). n + share r) k'.counts ∙ sym (used_more (records_in k'.layout) r) ∙ ap keeper.used_by (sym (added_records k'.layout r));
                  follows = k'.follows ∙ sym (added_form k'.layout r);
                  settled = λ e. settled told;
                };
          }

      pub is_kept : Appends k (keeper_of new gate' used' false) r (Ok tt)
      is_kept = record {
        why = (going, fits);
        after = record {
          records = more_told m.tells new.tells goes.tells (kept m.reads gate) (kept new.reads gate') r
              (λ told. let k' = sound.kept told in kept_is new.reads gate' (added k'.layout r) (front told) ∙ added_records k'.layout r ∙ ap (λ (l : List Record). l ++ r ∷ []) (sym (kept_is m.reads gate k'.layout k'.front)));
          used = used_is;
          faults = goes.faults;
          stopped = sym going;
          moment = goes.moment;
          tells = goes.tells;
        };
        rest = at_rest new gate' used' form false law' grown;
        moments = λ told. let k' = sound.kept told in
            passes_more m new gate used gate' used' stopped false k'.layout (added k'.layout r) (k'.settled going) (puts told k'.layout (k'.settled going) k'.follows room.0).time k'.front r (added_records k'.layout r);
      }

    module _ (e : DiskErr) (puts : IsTrue m.tells → (l : Layout) → IsSettled m gate l → form ≡ form_of l.long → gate + share_in form r ≤ last_gate form → Puts m gate (share_in form r) l (added l r) (Err e) new) where
      front_left : (told : IsTrue m.tells) → HasFront new.reads gate (sound.kept told).layout
      front_left told = let k' = sound.kept told in (puts told k'.layout (k'.settled going) k'.follows room.0).holds

      pub broken : IsSound new gate used form true
      broken = record {
        least = sound.least;
        within = sound.within;
        room = sound.room;
        small = sound.small;
        kept = λ told'. let k' = sound.kept (back told') in
            record { layout = k'.layout; front = front_left (back told'); counts = k'.counts; follows = k'.follows; settled = λ e. absurd (true≢false e) };
      }

      becomes : (why : JournalFault) → keeper.stopped_after stopped (Err why) ≡ true → Becomes k (keeper_of new gate used true) r (Err why)
      becomes why stops = record {
        records = same_told m.tells new.tells goes.tells (kept m.reads gate) (kept new.reads gate)
            (λ told. let k' = sound.kept told in kept_is new.reads gate k'.layout (front_left told) ∙ sym (kept_is m.reads gate k'.layout k'.front));
        used = refl;
        faults = goes.faults;
        stopped = sym stops;
        moment = goes.moment;
        tells = goes.tells;
      }

      time : IsTrue m.tells → keeper.Passes k (keeper_of new gate used true) (WithOrWithout k.records r)
      time told = let k' = sound.kept told in
          passes_more m new gate used gate used stopped true k'.layout (added k'.layout r) (k'.settled going) (puts told k'.layout (k'.settled going) k'.follows room.0).time k'.front r (added_records k'.layout r)

      pub disk_failed : Rises m.faults new.faults → Appends k (keeper_of new gate used true) r (Err fault.DiskFault)
      disk_failed rises = record { why = (going, fits, rises); after = becomes fault.DiskFault refl; rest = at_rest new gate used form true law' broken; moments = time }

      pub no_memory : Appends k (keeper_of new gate used true) r (Err fault.NoMemory)
      no_memory = record { why = (going, fits); after = becomes fault.NoMemory refl; rest = at_rest new gate used form true law' broken; moments = time }
