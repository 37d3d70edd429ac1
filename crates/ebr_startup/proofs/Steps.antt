-- The steps by which an engine comes to stand over a journal.
use Rattle.std.proofs.Common.{◌≡◌, inl, inr, ℕ, IsTrue, List, [], Ok, Err, Result, refl, sym, ◌∙◌, ap, subst, arith}
use Rattle.std.specs.Prelude.{IfErr, IfOk, OnOk}
use Rattle.ebr_outside.specs.Disk.{Medium, Passes}
use Rattle.ebr_record.specs.declared.keep.JournalFault.{JournalFault}
use Rattle.ebr_record.specs.declared.keep.JournalFault.TheVariants as fault
use Rattle.ebr_record.specs.declared.record.Record.{Record}
use Rattle.ebr_journal.specs.declared.found.Found.{Found}
use Rattle.ebr_journal.specs.Begun.{Started}
use Rattle.ebr_journal.specs.Keeper.{HasThese, JournalState, Upgrades, as_keeper}
use Rattle.ebr_journal.proofs.Moments.{begins}
use Rattle.ebr_allowed.specs.Allowed.{AreAllowed}
use Rattle.ebr_core.specs.Engine.{EngineState, no_books}
use Rattle.ebr_core.specs.Recovered.{IsReady}
use Rattle.ebr_startup.specs.declared.engine.OpenFault.{OpenFault}
use Rattle.ebr_startup.specs.declared.why.OpenWhy.{OpenWhy}
use Rattle.ebr_startup.specs.declared.why.OpenWhy.TheVariants.{DiskFault, Damaged, NoMemory}
use Rattle.ebr_startup.specs.Engines.{Opened}
use Rattle.ebr_startup.specs.Opened.{Unopened}
use Rattle.ebr_startup.specs.inside.Steps.{ComesBack, HasBegun, IsDamage, IsNoDamage, OverMark}
use Rattle.ebr_startup.specs.inside.Walk.{WalkedTo, why_of}
use Rattle.ebr_startup.proofs.Opening.{opened, unopened}

abbrev nothing : Unit {0}
nothing = tt

damaged_no : (at : ℕ) → Damaged at ≡ DiskFault → ⊥
damaged_no at e = cc

memory_no : NoMemory ≡ DiskFault → ⊥
memory_no e = cc

module _ {D : Type 0} (as_medium : D → Medium) (j : JournalState D) where
  abbrev m1 : Medium
  m1 = as_medium j.disk

  -- ---- a disk that comes back

  -- nothing was called
  still : (why : OpenWhy) (disk : D) → disk ≡ j.disk → (why ≡ DiskFault → ⊥) → ComesBack as_medium j why disk
  still why disk is isnt = subst (ComesBack as_medium j why) (sym is) (record {
    goes = record { tells = refl; faults = omega arith; moment = omega arith };
    failed = λ e. absurd (isnt e);
    images = λ told. begins m1 (HasThese (as_keeper as_medium j).records);
  })

  -- a record isn't allowed, or there was no memory
  pub walked_back : (sessions : ℕ) (found : Found) (why : OpenWhy) (disk : D) → disk ≡ j.disk → WalkedTo sessions found (Err why) → ComesBack as_medium j why disk × IsDamage j found why disk
  walked_back sessions found (Damaged at) disk is walked = (still (Damaged at) disk is (damaged_no at), (walked, is))
  walked_back sessions found DiskFault disk is walked = absurd walked
  walked_back sessions found NoMemory disk is walked = (still NoMemory disk is memory_no, inr is)

  -- the same disk, for the same cause
  pub gone_back : (old why : OpenWhy) (was disk : D) → why ≡ old → disk ≡ was → ComesBack as_medium j old was → ComesBack as_medium j why disk
  gone_back old why was disk is same back = subst (λ w. ComesBack as_medium j w disk) (sym is) (subst (ComesBack as_medium j old) (sym same) back)

  module _ (new : JournalState D) (images : IsTrue m1.tells → Passes m1 (as_medium new.disk) (HasThese (as_keeper as_medium j).records)) where
    -- the mark wasn't written
    pub unmarked_back : (f : JournalFault) → Upgrades (as_keeper as_medium j) (as_keeper as_medium new) (Err f) → ComesBack as_medium j (why_of f) new.disk × IsNoDamage (why_of f)
    unmarked_back fault.DiskFault up = (record { goes = record { tells = up.after.tells; faults = up.after.faults; moment = up.after.moment }; failed = λ e. up.why.1; images = images }, tt)
    unmarked_back fault.Stopped up = (record { goes = record { tells = up.after.tells; faults = up.after.faults; moment = up.after.moment }; failed = λ e. absurd (memory_no e); images = images }, tt)
    unmarked_back (fault.Full len) up = absurd up.why
    unmarked_back fault.NoMemory up = (record { goes = record { tells = up.after.tells; faults = up.after.faults; moment = up.after.moment }; failed = λ e. absurd (memory_no e); images = images }, tt)

    module _ (up : Upgrades (as_keeper as_medium j) (as_keeper as_medium new) (Ok tt)) (records : List Record) (sessions : ℕ) (k : JournalState D) (same : k ≡ new) where
      -- it was, and the engine can stand over it
      pub ready : HasBegun (as_keeper as_medium j) records → IsReady records (as_keeper as_medium k)
      ready begun = subst (λ (x : JournalState D). IsReady records (as_keeper as_medium x)) (sym same) (record { used = up.after.used ∙ begun.counted; stopped = up.after.stopped })

      abbrev first : EngineState (JournalState D)
      first = record { history = []; recovered = records; books = no_books sessions; keeper = k }

      over_new : OverMark as_medium j records sessions (record { history = []; recovered = records; books = no_books sessions; keeper = new })
      over_new = record { first = refl; recovered = refl; books = refl; upgrades = up; images = images }

      over_mark : (e : EngineState (JournalState D)) → e ≡ first → OverMark as_medium j records sessions e
      over_mark e is =
          subst (OverMark as_medium j records sessions) (sym is)
          (subst (λ (x : JournalState D). OverMark as_medium j records sessions (record { history = []; recovered = records; books = no_books sessions; keeper = x })) (sym same) over_new)

      pub stands_over : (r : Result (EngineState (JournalState D)) (OpenFault D)) → IfOk r (λ e. e ≡ first) → IfOk r (λ e. OverMark as_medium j records sessions e)
      stands_over (Ok e) is = over_mark e is
      stands_over (Err f) is = tt

      -- there was no memory for it
      goes_back : (why : OpenWhy) (disk : D) → disk ≡ k.disk → why ≡ NoMemory → ComesBack as_medium j why disk
      goes_back why disk is isnt =
          subst (λ w. ComesBack as_medium j w disk) (sym isnt) (subst (ComesBack as_medium j NoMemory) (sym (is ∙ ap (λ (x : JournalState D). x.disk) same))
          (record { goes = record { tells = up.after.tells; faults = up.after.faults; moment = up.after.moment }; failed = λ e. absurd (memory_no e); images = images }))

      pub gives_back : (r : Result (EngineState (JournalState D)) (OpenFault D)) → IfErr r (λ f. f.disk ≡ k.disk) → IfErr r (λ f. f.why ≡ NoMemory) → IfErr r (λ f. ComesBack as_medium j f.why f.disk)
      gives_back (Ok e) is isnt = tt
      gives_back (Err f) is isnt = goes_back f.why f.disk is isnt

      pub gives_no_damage : (r : Result (EngineState (JournalState D)) (OpenFault D)) → IfErr r (λ f. f.why ≡ NoMemory) → IfErr r (λ f. IsNoDamage f.why)
      gives_no_damage (Ok e) isnt = tt
      gives_no_damage (Err f) isnt = subst IsNoDamage (sym isnt) nothing

  no_damage : (found : Found) (why : OpenWhy) (disk : D) → AreAllowed found.records → IsNoDamage why → IsDamage j found why disk
  no_damage found (Damaged at) disk allowed isnt = absurd isnt
  no_damage found DiskFault disk allowed isnt = inl allowed
  no_damage found NoMemory disk allowed isnt = inl allowed

  pub no_damages : (found : Found) (r : Result (EngineState (JournalState D)) (OpenFault D)) → AreAllowed found.records → IfErr r (λ f. IsNoDamage f.why) → IfErr r (λ f. IsDamage j found f.why f.disk)
  no_damages found (Ok e) allowed isnt = tt
  no_damages found (Err f) allowed isnt = no_damage found f.why f.disk allowed isnt

  pub always_ok : (P : Type 0) (r : Result (EngineState (JournalState D)) (OpenFault D)) → P → OnOk r P
  always_ok P (Ok e) p = p
  always_ok P (Err f) p = tt

  -- ---- what the whole comes to

  module _ (disk : D) (found : Found) (started : Started (as_medium disk) m1 (as_keeper as_medium j) found) where
    pub begun : HasBegun (as_keeper as_medium j) found.records
    begun = record { running = started.running; counted = started.counted; at_rest = started.at_rest }

    pub all_opened : (sessions : ℕ) (r : Result (EngineState (JournalState D)) (OpenFault D)) → IfOk r (λ e. OverMark as_medium j found.records sessions e) → OnOk r (AreAllowed found.records) → IfOk r (λ e. Opened as_medium disk sessions e)
    all_opened sessions (Ok e) over allowed = opened as_medium disk j found started sessions e over allowed
    all_opened sessions (Err f) over allowed = tt

    pub all_unopened : (r : Result (EngineState (JournalState D)) (OpenFault D)) → IfErr r (λ f. ComesBack as_medium j f.why f.disk) → IfErr r (λ f. IsDamage j found f.why f.disk) → IfErr r (λ f. Unopened (as_medium disk) f.why (as_medium f.disk))
    all_unopened (Ok e) back damage = tt
    all_unopened (Err f) back damage = unopened as_medium disk j found started f.why f.disk back damage
