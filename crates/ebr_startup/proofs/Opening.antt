-- An engine that was opened over a disk, and a disk over which none was.
use Rattle.std.proofs.Common.{◌≡◌, ◌⊎◌, inl, inr, ⊎_elim, ℕ, ◌+◌, ◌≤◌, IsTrue, List, [], Some, refl, sym, ◌∙◌, ap, subst, arith}
use Rattle.std.specs.Prelude.{Option, min}
use Rattle.std.proofs.Math.Nat.{le-min, min-le_left, min-le_right}
use Rattle.ebr_faults.specs.Faults.{Rises, count_end}
use Rattle.ebr_outside.specs.Disk.{Medium, Goes, Passes}
use Rattle.ebr_record.specs.declared.record.Record.{Record}
use Rattle.ebr_record.specs.Keeper.{used_by}
use Rattle.ebr_journal.specs.declared.found.Found as found
use Rattle.ebr_journal.specs.declared.start.StartWhy.{StartWhy}
use Rattle.ebr_journal.specs.declared.start.StartWhy.TheVariants as start
use Rattle.ebr_journal.specs.Begun.{Refused, Started}
use Rattle.ebr_journal.specs.Journal.{HasRecords, IsBlank}
use Rattle.ebr_journal.specs.Keeper.{HasThese, JournalState, as_keeper}
use Rattle.ebr_journal.specs.Start.{AsStarted, IsAsRead, NeverRests, Remains, RestsSince}
use Rattle.ebr_allowed.specs.Allowed.{AreAllowed}
use Rattle.ebr_core.specs.Engine.{EngineState}
use Rattle.ebr_startup.specs.declared.why.OpenWhy.{OpenWhy}
use Rattle.ebr_startup.specs.declared.why.OpenWhy.TheVariants.{DiskFault, Damaged, NoMemory}
use Rattle.ebr_startup.specs.Damage.{IsDamagedAt}
use Rattle.ebr_startup.specs.Engines.{Opened}
use Rattle.ebr_startup.specs.Opened.{IsKeptAs, IsUntouched, Keeps, Rests, Stays, Unopened}
use Rattle.ebr_startup.specs.inside.Steps.{ComesBack, IsDamage, OverMark}
use Rattle.ebr_startup.specs.inside.Unstarted.{IsUnstarted}
use Rattle.ebr_startup.proofs.Files.{blank_not, holds_has, never_damaged}
use Rattle.ebr_startup.proofs.Resting.{rests_of, rests_on, rests_weaker}

rises_from : (a b c : ℕ) → a ≤ b → Rises b c → Rises a c
rises_from a b c le rises =
    let least = min-le_left (a + 1) count_end in
    let capped = min-le_right (a + 1) count_end in
    let both : min (a + 1) count_end ≤ min (b + 1) count_end = le-min (omega (arith, least, le)) capped in
    omega (arith, both, rises)

goes_twice : (a b c : Medium) → Goes a b → Goes b c → Goes a c
goes_twice a b c one two = record { tells = two.tells ∙ one.tells; faults = omega (arith, one.faults, two.faults); moment = omega (arith, one.moment, two.moment) }

as_kept : (bytes image : List ℕ) → IsAsRead bytes image → IsKeptAs bytes image
as_kept bytes image (inl is) = inl is
as_kept bytes image (inr made) = inr ([], inl (made.0, refl), made.1)

-- ---- a journal that has begun

module _ {D : Type 0} (as_medium : D → Medium) (disk : D) (j : JournalState D) (f : found.Found) (begun : Started (as_medium disk) (as_medium j.disk) (as_keeper as_medium j) f) where
  abbrev m0 : Medium
  m0 = as_medium disk

  abbrev m1 : Medium
  m1 = as_medium j.disk

  told1 : IsTrue m0.tells → IsTrue m1.tells
  told1 told = subst IsTrue (sym begun.goes.tells) told

  -- each moment since keeps the records
  module _ (new : D) (images : IsTrue m1.tells → Passes m1 (as_medium new) (HasThese (as_keeper as_medium j).records)) where
    has_rested : IsTrue m0.tells → Rests m0 (as_medium new) (λ image. HasRecords image f.records)
    has_rested told =
        let b = begun.told told in
        rests_on m0 m1 (as_medium new) (λ image. HasRecords image f.records)
        (rests_weaker m0 m1 (AsStarted m0.reads f.records) (λ image. HasRecords image f.records) (rests_of m0 m1 (AsStarted m0.reads f.records) b.rests) (λ image s. s.0))
        (subst (λ (o : Option (List Record)). Passes m1 (as_medium new) (HasThese o)) b.kept (images (told1 told)))

  pub opened : (sessions : ℕ) (e : EngineState (JournalState D)) → OverMark as_medium j f.records sessions e → AreAllowed f.records → Opened as_medium disk sessions e
  opened sessions e over allowed =
      let after = over.upgrades.after in
      let used : (as_keeper as_medium e.keeper).used ≡ used_by e.recovered = after.used ∙ begun.counted ∙ ap used_by (sym over.recovered) in
      record {
        goes = goes_twice m0 m1 (as_medium e.keeper.disk) begun.goes (record { tells = after.tells; faults = after.faults; moment = after.moment });
        first = over.first;
        books = over.books;
        allowed = subst AreAllowed (sym over.recovered) allowed;
        ready = record { used = used; stopped = after.stopped };
        at_rest = over.upgrades.rest;
        told = λ told. let b = begun.told told in record {
          has = record { found = f; holds = b.holds; records_are = over.recovered; allowed = subst AreAllowed (sym over.recovered) allowed };
          kept = after.records ∙ b.kept ∙ ap (λ (l : List Record). Some l) (sym over.recovered);
          rests = subst (λ (l : List Record). Rests m0 (as_medium e.keeper.disk) (λ image. HasRecords image l)) (sym over.recovered) (has_rested e.keeper.disk over.images told);
        };
      }

  -- the disk comes back
  pub unopened : (why : OpenWhy) (new : D) → ComesBack as_medium j why new → IsDamage j f why new → Unopened m0 why (as_medium new)
  unopened why new back damage = record {
    goes = goes_twice m0 m1 (as_medium new) begun.goes back.goes;
    failed = λ is. rises_from m0.faults m1.faults (as_medium new).faults begun.goes.faults (back.failed is);
    told = λ told. stays why back damage told;
  }
    where
      kept : IsTrue m0.tells → (back' : IsTrue m1.tells → Passes m1 (as_medium new) (HasThese (as_keeper as_medium j).records)) → Rests m0 (as_medium new) (IsKeptAs m0.reads)
      kept told images = rests_weaker m0 (as_medium new) (λ image. HasRecords image f.records) (IsKeptAs m0.reads) (has_rested new images told)
          (λ image has. inr (f.records, holds_has m0.reads f (begun.told told).holds, has))

      -- where the file is damaged the journal left the disk as it was
      same : (at : ℕ) → IsDamagedAt m0.reads at → IsTrue m0.tells → new ≡ j.disk → (as_medium new).reads ≡ m0.reads
      same at bad told is =
          subst (λ (d : D). (as_medium d).reads ≡ m0.reads) (sym is) (⊎_elim (λ blank. absurd (blank_not m0.reads at bad blank)) (λ same. same) (begun.told told).same)

      rests : (at : ℕ) → IsDamagedAt m0.reads at → IsTrue m0.tells → new ≡ j.disk → Rests m0 (as_medium new) (λ image. image ≡ m0.reads)
      rests at bad told is = subst (λ (d : D). Rests m0 (as_medium d) (λ image. image ≡ m0.reads)) (sym is)
          (rests_weaker m0 m1 (AsStarted m0.reads f.records) (λ image. image ≡ m0.reads) (rests_of m0 m1 (AsStarted m0.reads f.records) (begun.told told).rests)
          (λ image s. ⊎_elim (λ blank. absurd (blank_not m0.reads at bad blank)) (λ same. same) s.1))

      untouched : IsTrue m0.tells → AreAllowed f.records ⊎ (new ≡ j.disk) → (at : ℕ) → IsDamagedAt m0.reads at → IsUntouched m0 (as_medium new)
      untouched told (inl allowed) at bad = absurd (never_damaged m0.reads f.records at (record { found = f; holds = (begun.told told).holds; records_are = refl; allowed = allowed }) bad)
      untouched told (inr is) at bad = record { reads = same at bad told is; images = inr (rests at bad told is) }

      stays : (why : OpenWhy) → ComesBack as_medium j why new → IsDamage j f why new → IsTrue m0.tells → Stays m0 why (as_medium new)
      stays (Damaged at) back damage told =
          let bad : IsDamagedAt m0.reads at = inl (record { found = f; holds = (begun.told told).holds; first = damage.0 }) in
          (bad, same at bad told damage.1, rests at bad told damage.1)
      stays DiskFault back damage told = record { images = inr (kept told back.images); damaged = untouched told damage }
      stays NoMemory back damage told = record { images = inr (kept told back.images); damaged = untouched told damage }

-- ---- a journal that wasn't started

module _ (m0 m1 : Medium) where
  from_read : NeverRests m0 m1 ⊎ RestsSince m0 m1 (IsAsRead m0.reads) → NeverRests m0 m1 ⊎ Rests m0 m1 (IsKeptAs m0.reads)
  from_read (inl never) = inl never
  from_read (inr rests) = inr (rests_weaker m0 m1 (IsAsRead m0.reads) (IsKeptAs m0.reads) (rests_of m0 m1 (IsAsRead m0.reads) rests) (as_kept m0.reads))

  not_made : (IsBlank m0.reads → ⊥) → (image : List ℕ) → IsAsRead m0.reads image → image ≡ m0.reads
  not_made filled image (inl is) = is
  not_made filled image (inr made) = absurd (filled made.0)

  as_it_was : (IsBlank m0.reads → ⊥) → NeverRests m0 m1 ⊎ RestsSince m0 m1 (IsAsRead m0.reads) → NeverRests m0 m1 ⊎ Rests m0 m1 (λ image. image ≡ m0.reads)
  as_it_was filled (inl never) = inl never
  as_it_was filled (inr rests) = inr (rests_weaker m0 m1 (IsAsRead m0.reads) (λ image. image ≡ m0.reads) (rests_of m0 m1 (IsAsRead m0.reads) rests) (not_made filled))

  keeps : Remains m0 m1 → Keeps m0 m1
  keeps remains = record {
    images = from_read remains.images;
    damaged = λ at bad.
        let filled = blank_not m0.reads at bad in
        record { reads = ⊎_elim (λ blank. absurd (filled blank)) (λ same. same) remains.same; images = as_it_was filled remains.images };
  }

  no_fault : (why : OpenWhy) → why ≡ NoMemory → why ≡ DiskFault → ⊥
  no_fault why is other = cc

  pub unstarted : (cause : StartWhy) (why : OpenWhy) → Refused m0 cause m1 → IsUnstarted cause why → Unopened m0 why m1
  unstarted start.DiskFault why refused is = subst (λ (w : OpenWhy). Unopened m0 w m1) (sym is) (record { goes = refused.goes; failed = λ e. refused.failed refl; told = λ told. keeps (refused.told told) })
  unstarted start.NoMemory why refused is = subst (λ (w : OpenWhy). Unopened m0 w m1) (sym is) (record { goes = refused.goes; failed = λ e. absurd (no_fault NoMemory refl e); told = λ told. keeps (refused.told told) })
  unstarted (start.Damaged place before) (Damaged at) refused is = record {
    goes = refused.goes;
    failed = λ e. absurd (no_damage at e);
    told = λ told. let t = refused.told told in
        (inr (record { place = place; before = before; damaged = t.0.damaged; smallest = is }), t.0.same, rests_of m0 m1 (λ image. image ≡ m0.reads) t.1);
  }
    where
      no_damage : (at : ℕ) → Damaged at ≡ DiskFault → ⊥
      no_damage at e = cc
  unstarted (start.Damaged place before) DiskFault refused is = absurd is
  unstarted (start.Damaged place before) NoMemory refused is = record {
    goes = refused.goes;
    failed = λ e. absurd (no_fault NoMemory refl e);
    told = λ told.
        let t = refused.told told in
        let rests : Rests m0 m1 (λ image. image ≡ m0.reads) = rests_of m0 m1 (λ image. image ≡ m0.reads) t.1 in
        record { images = inr (rests_weaker m0 m1 (λ image. image ≡ m0.reads) (IsKeptAs m0.reads) rests (λ image same. inl same)); damaged = λ at bad. record { reads = t.0.same; images = inr rests } };
  }
