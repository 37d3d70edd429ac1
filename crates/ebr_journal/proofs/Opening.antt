-- What a crash leaves while a journal begins.
use Rattle.std.proofs.Common.{◌≡◌, ◌⊎◌, inl, inr, ⊎_elim, ℕ, ◌≤◌, IsTrue, List, [], Result, Ok, Err, refl, sym, ◌∙◌, ap, subst, arith}
use Rattle.ebr_outside.specs.declared.disk.DiskErr.{DiskErr}
use Rattle.ebr_outside.specs.Disk.{Medium, LeavesLess, LeavesNow, Stands, Syncs}
use Rattle.ebr_journal.specs.Journal.{last_gate, none_yet, IsBlank, IsSafe, HasRecords}
use Rattle.ebr_journal.specs.Keeper.{IsSettled}
use Rattle.ebr_journal.specs.Found.{begun, Counts, IsFound}
use Rattle.ebr_journal.specs.Start.{AsStarted, IsFresh, Makes, RestsSince, NeverRests, Remains, IsOpened, Opened, why_of}
use Rattle.ebr_journal.specs.declared.start.StartWhy.{StartWhy}
use Rattle.ebr_journal.specs.declared.read.Walked.{Walked}
use Rattle.ebr_journal.specs.declared.found.Found as found
use Rattle.ebr_outside.specs.declared.disk.DiskErr.TheVariants as disk
use Rattle.ebr_journal.proofs.Moments.{told_after}
use Rattle.ebr_journal.proofs.Reading.{begun_counts}

-- what is left from the first sync on is less
pub rests_weaker : (old new : Medium) (P Q : List ℕ → Type 0) → RestsSince old new P → ((image : List ℕ) → P image → Q image) → RestsSince old new Q
rests_weaker old new P Q rests then = record {
  synced = rests.synced;
  later = rests.later;
  within = rests.within;
  before = rests.before;
  after = λ image left. then image (rests.after image left);
}

module _ (m0 : Medium) (told : IsTrue m0.tells) (law : LeavesLess m0) where
  -- the first sync failed
  pub never_rests : (e : DiskErr) (m1 : Medium) → Syncs m0 (Err e) m1 → NeverRests m0 m1
  never_rests e m1 s t image le left = ⊎_elim (λ was. was) (λ now. law t m0.moment image le (s.images told image now)) ((s.time told).only t image le left)

  module _ (x : Unit {0}) (m1 : Medium) (s : Syncs m0 (Ok x) m1) (m2 : Medium) (still : Stands m1 m2) where
    -- nothing was written since
    pub rests_read : RestsSince m0 m2 (λ image. image ≡ m0.reads)
    rests_read = record {
      synced = m1.moment;
      later = s.goes.moment;
      within = omega (arith, still.moment);
      before = λ t image le left. ⊎_elim (λ was. inl was) (λ now. inr ((still.same m1.moment image).1 now)) ((s.time told).only t image le ((still.same t image).0 left));
      after = λ image left. s.images told image ((still.same m1.moment image).0 left);
    }

    pub told2 : IsTrue m2.tells
    told2 = told_after m1 m2 still.goes (told_after m0 m1 s.goes told)

    pub same : m2.reads ≡ m0.reads
    same = still.reads ∙ s.reads told

    pub only : (image : List ℕ) → LeavesNow m2 image → image ≡ m2.reads
    only image left =
        let now : m1.leaves m2.moment image = (still.same m2.moment image).0 left in
        s.images told image (subst (λ (t : ℕ). m1.leaves t image) still.moment now) ∙ sym same

    pub is_fresh : IsBlank m0.reads → IsFresh m2
    is_fresh blank = record { blank = subst IsBlank (sym same) blank; only = only }

    -- a journal was read
    pub is_opened : (w : Walked) → IsFound m0.reads w → IsOpened m0 m2 w
    is_opened w found = record {
      holds = inr (record { layout = found.layout; safe = found.safe; is = found.laid.found });
      layout = found.layout;
      laid = found.laid;
      settled = record { safe = subst (λ (f : List ℕ). IsSafe f found.layout) (sym same) found.safe; place = found.place; only = only };
      same = inr same;
    }

    pub rests_found : (w : Walked) → IsFound m0.reads w → RestsSince m0 m2 (AsStarted m0.reads w.found.records)
    rests_found w whole = rests_weaker m0 m2 (λ image. image ≡ m0.reads) (AsStarted m0.reads w.found.records) rests_read
        (λ image is. (
          inr (record {
            layout = whole.layout;
            safe = subst (λ (f : List ℕ). IsSafe f whole.layout) (sym is) whole.safe;
            are = ap (λ (f : found.Found). f.records) whole.laid.found;
          }),
          inr is,
        ))

    -- a journal was being made of a blank file
    pub rests_made : IsBlank m0.reads → (a : Result (Unit {0}) DiskErr) (m3 : Medium) → Makes m2 a m3 → RestsSince m0 m3 (λ image. HasRecords image [])
    unfolding rests_read
    rests_made blank a m3 makes = record {
      synced = m1.moment;
      later = s.goes.moment;
      within = omega (arith, still.moment, makes.time.later);
      before = λ t image le left. ⊎_elim
          (λ was. ⊎_elim (λ first. inl first) (λ since. inr (makes.time.keeps m1.moment image (omega (arith, still.moment)) since)) (rests_read.before t image le was))
          (λ since. inr (subst (λ (k : ℕ). m3.leaves k image) still.moment since))
          (makes.spans t image (omega (arith, le, s.goes.moment, still.moment)) left);
      after = λ image left. ⊎_elim (λ was. inl (subst IsBlank (sym (rests_read.after image was)) blank, refl)) (λ now. now) (makes.time.only m1.moment image (omega (arith, still.moment)) left);
    }

-- a call of the disk failed
pub fails : (e : DiskErr) (m0 m : Medium) (answer : Result Walked StartWhy) (why : StartWhy) → answer ≡ Err why → why ≡ why_of e → (IsTrue m0.tells → Remains m0 m) → Opened m0 answer m
fails e m0 m answer why is of remains = subst (λ (a : Result Walked StartWhy). Opened m0 a m) (sym (is ∙ ap (λ (w : StartWhy). Err w) of)) (by e remains)
  where
    by : (e : DiskErr) → (IsTrue m0.tells → Remains m0 m) → Opened m0 (Err (why_of e)) m
    by disk.Failed remains = record { gate = tt; finds = remains }
    by disk.NoMemory remains = record { gate = tt; finds = remains }

-- the new journal
pub opened_blank : (m0 m : Medium) (w : Walked) → w ≡ begun → IsBlank m0.reads → IsSettled m 1 none_yet → IsOpened m0 m w
opened_blank m0 m w is blank settled = subst (λ (x : Walked). IsOpened m0 m x) (sym is) (record {
  holds = inl (blank, refl);
  layout = none_yet;
  laid = record { found = refl; counts = refl; follows = refl };
  settled = settled;
  same = inl blank;
})

pub begun_gate : (w : Walked) → w ≡ begun → Counts w × (w.gate ≤ last_gate w.form)
begun_gate w is = subst (λ (x : Walked). Counts x × (x.gate ≤ last_gate x.form)) (sym is) (begun_counts, omega arith)

pub begun_rests : (m0 m : Medium) (w : Walked) → w ≡ begun → IsBlank m0.reads → RestsSince m0 m (λ image. HasRecords image []) → RestsSince m0 m (AsStarted m0.reads w.found.records)
begun_rests m0 m w is blank rests =
    subst (λ (x : Walked). RestsSince m0 m (AsStarted m0.reads x.found.records)) (sym is) (rests_weaker m0 m (λ image. HasRecords image []) (AsStarted m0.reads []) rests (λ image now. (now, inl blank)))
