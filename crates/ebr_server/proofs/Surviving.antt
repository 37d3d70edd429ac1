-- What a crash leaves of a run over a disk: an engine was opened, its sessions ran, and its keeper came back.
use Rattle.std.proofs.Common.{◌≡◌, ◌⊎◌, inl, inr, ⊎_elim, ℕ, suc, ◌+◌, ◌<◌, ◌≤◌, ◌||◌, ◌&&◌, Bool, true, false, IsTrue, List, [], ◌∷◌, ◌++◌, length, Option, Some, None, refl, sym, ◌∙◌, ap, subst, arith, append_assoc, append-nil, length-append}
use Rattle.std.specs.Prelude.{IfSome, min}
use Rattle.std.proofs.Math.Nat.{le-min}
use Rattle.std.proofs.lemmas.Bool.{both_ways}
use Rattle.ebr_faults.specs.Faults.{Rises, count_end}
use Rattle.ebr_outside.specs.Disk.{HoldsJust, Medium}
use Rattle.ebr_asks.specs.declared.answer.Answer.{Answer}
use Rattle.ebr_asks.specs.declared.answer.Answer.TheVariants as answer
use Rattle.ebr_asks.specs.declared.entry.Entry.{Entry}
use Rattle.ebr_record.specs.declared.record.Record.{Record}
use Rattle.ebr_record.specs.declared.record.Record.TheVariants as variant
use Rattle.ebr_record.specs.Keeper.{Keeper, LeavesJust}
use Rattle.ebr_database.specs.declared.failure.Halt.{Halt}
use Rattle.ebr_database.specs.declared.failure.Halt.TheVariants as why
use Rattle.ebr_database.specs.Database.{Database}
use Rattle.ebr_database.specs.Shows.{Between, Grew, Holds, JustKept, OneMore, with_records}
use Rattle.ebr_journal.specs.Journal.{HasRecords}
use Rattle.ebr_journal.specs.Keeper.{HasNoOther, JournalState, as_keeper}
use Rattle.ebr_journal.proofs.Records.{one_list}
use Rattle.ebr_allowed.specs.Allowed.{AreAllowed}
use Rattle.ebr_allowed.proofs.HistoryLemmas.{first_records_allowed}
use Rattle.ebr_core.specs.Asked.{AreFit}
use Rattle.ebr_core.specs.Engine.{EngineState}
use Rattle.ebr_core.specs.History.{Acknowledged, AllStopped, Answered, Legal, Records, acknowledged_by, is_idle, is_light, made_by, next, wants}
use Rattle.ebr_core.specs.FirstRecords.{Begins}
use Rattle.ebr_core.specs.Kept.{Kept, KeptBy, KeptUntil, cause_by, cause_of, given_up_by, or_else}
use Rattle.ebr_core.specs.Machine.{Build, Reply}
use Rattle.ebr_startup.specs.Damage.{HasDatabase}
use Rattle.ebr_startup.specs.Engines.{Opened}
use Rattle.ebr_startup.specs.Opened.{Rests}
use Rattle.ebr_startup.proofs.Files.{first_database, has_records, records_or_none}
use Rattle.ebr_worker.specs.Matches.{has_fault, is_fault}
use Rattle.ebr_server.specs.Disks.{ends_engine, has_given_up, HasFirst, IsEntry, LeavesRecords, RanOver, Survives}

-- the kept list is one of those between
just_recovered : (recovered made l : List Record) → l ≡ recovered → Between (Some recovered) made l
just_recovered recovered made l is = ([], made, is ∙ sym (append-nil recovered), refl)

-- ---- a list that no image has

abbrev one : Record
one = variant.TableGone (record { 0 = 0 })

-- it is longer than all records of the run
abbrev too_many : List Record → List Record → List Record
too_many recovered made = (recovered ++ made) ++ one ∷ []

many_long : (recovered made : List Record) → length (too_many recovered made) ≡ length recovered + length made + 1
many_long recovered made = length-append (recovered ++ made) (one ∷ []) ∙ ap (λ (n : ℕ). n + 1) (length-append recovered made)

not_between : (recovered made : List Record) → Between (Some recovered) made (too_many recovered made) → ⊥
not_between recovered made b =
    let x = b.0 in
    let long : length recovered + length made + 1 ≡ length recovered + length x = sym (many_long recovered made) ∙ ap length b.2 ∙ length-append recovered x in
    let part : length made ≡ length x + length b.1 = ap length b.3 ∙ length-append x b.1 in
    omega (arith, long, part)

not_more : (recovered made kept left : List Record) → made ≡ kept ++ left → OneMore (Some (recovered ++ kept)) left (too_many recovered made) → ⊥
not_more recovered made kept left is (inl e) =
    let long : length recovered + length made + 1 ≡ length recovered + length kept = sym (many_long recovered made) ∙ ap length e ∙ length-append recovered kept in
    let part : length made ≡ length kept + length left = ap length is ∙ length-append kept left in
    omega (arith, long, part)
not_more recovered made kept left is (inr next) =
    let r = next.0 in
    let long : length recovered + length made + 1 ≡ length recovered + length kept + 1 =
    sym (many_long recovered made) ∙ ap length next.3 ∙ length-append (recovered ++ kept) (r ∷ []) ∙ ap (λ (n : ℕ). n + 1) (length-append recovered kept) in
    let rest : length left ≡ suc (length next.1) = ap length next.2 in
    let part : length made ≡ length kept + length left = ap length is ∙ length-append kept left in
    omega (arith, long, rest, part)

-- What is so of each list that an image may leave, but not of every list, is so of the image's records, of which it has some.
of_lists : (Q : List Record → Type 0) (image : List ℕ) (many : List Record) → ((l : List Record) → HasNoOther image l → Q l) → (Q many → ⊥) → (l : List Record) × HasRecords image l × Q l
of_lists Q image many each never = ⊎_elim
    (λ h. (h.0, h.1, each h.0 (λ others has. one_list image others h.0 has h.1)))
    (λ none. absurd (never (each many (λ others has. absurd (none others has)))))
    (records_or_none image)

-- ---- what two moments of one disk leave, between them only lists of one kind

module _ (m0 m1 m2 : Medium) (recovered made : List Record) (rests : Rests m0 m1 (λ image. HasRecords image recovered)) (later : m1.moment ≤ m2.moment)
    (holds : (t : ℕ) (l : List Record) → t ≤ m1.moment → LeavesRecords m2 t l → LeavesRecords m1 t l ⊎ Between (Some recovered) made l) where
  -- an image with the recovered records leaves no others
  only_these : (image : List ℕ) (l : List Record) → HasRecords image recovered → HasNoOther image l → Between (Some recovered) made l
  only_these image l has only = just_recovered recovered made l (sym (only recovered has))

  before : (t : ℕ) (l : List Record) → t ≤ m0.moment → LeavesRecords m2 t l → LeavesRecords m0 t l ⊎ Between (Some recovered) made l
  before t l le left = ⊎_elim
      (λ was. ⊎_elim (λ first. inl (was.0, first, was.2)) (λ has. inr (only_these was.0 l has was.2)) (rests.before t was.0 le was.1))
      (λ between. inr between)
      (holds t l (omega (arith, le, rests.later, rests.within)) left)

  after : (l : List Record) → LeavesRecords m2 rests.synced l → Between (Some recovered) made l
  after l left = ⊎_elim (λ was. only_these was.0 l (rests.after was.0 was.1) was.2) (λ between. between) (holds rests.synced l rests.within left)

  after_image : (image : List ℕ) → m2.leaves rests.synced image → HasFirst HasRecords recovered made image
  after_image image left =
      of_lists (Between (Some recovered) made) image (too_many recovered made) (λ l none. after l (image, left, none)) (not_between recovered made)

  -- the entry had just one image, which has the recovered records
  just_image : HasRecords m0.reads recovered → (bytes : List ℕ) → HoldsJust m0 bytes → (image : List ℕ) → m2.leaves m0.moment image → HasFirst HasRecords recovered made image
  just_image has bytes holds_just image left = of_lists (Between (Some recovered) made) image (too_many recovered made)
      (λ l none. ⊎_elim
      (λ was. only_these was.0 l (subst (λ (b : List ℕ). HasRecords b recovered) (holds_just.reads ∙ sym (holds_just.only was.0 was.1)) has) was.2)
      (λ between. between)
      (before m0.moment l (omega arith) (image, left, none)))
      (not_between recovered made)

  module _ (has : HasRecords m0.reads recovered) (acknowledged kept left : List Record) (gave_up : Bool) (made_is : made ≡ kept ++ left) (acknowledges : Begins acknowledged kept) (all : gave_up ≡ false → left ≡ [])
      (end : (l : List Record) → LeavesRecords m2 m2.moment l → OneMore (Some (recovered ++ kept)) left l) where
    pub survives : Survives HasRecords m0 m2 recovered made acknowledged gave_up
    survives = record {
      synced = rests.synced;
      later = rests.later;
      within = omega (arith, rests.within, later);
      before = before;
      just = just_image has;
      after = after_image;
      kept = kept;
      left = left;
      made_is = made_is;
      has_acknowledged = acknowledges;
      all = all;
      end = λ image now. of_lists (OneMore (Some (recovered ++ kept)) left) image (too_many recovered made) (λ l none. end l (image, now, none)) (not_more recovered made kept left made_is);
    }

-- ---- where all these records are allowed

module _ (recovered made : List Record) (allowed : AreAllowed (recovered ++ made)) where
  first_opens : (image : List ℕ) → HasFirst HasRecords recovered made image → HasFirst HasDatabase recovered made image
  first_opens image first =
      let l = first.0 in
      let x = first.2.0 in
      let whole : recovered ++ made ≡ l ++ first.2.1 =
      ap (λ (k : List Record). recovered ++ k) first.2.3 ∙ sym (append_assoc recovered x first.2.1) ∙ ap (λ (k : List Record). k ++ first.2.1) (sym first.2.2) in
      (l, first_database image l first.2.1 first.1 (subst AreAllowed whole allowed), first.2)

  end_opens : (kept left : List Record) → made ≡ kept ++ left → (image : List ℕ) (l : List Record) → HasRecords image l → OneMore (Some (recovered ++ kept)) left l → HasDatabase image l
  end_opens kept left is image l has (inl e) =
      let whole : recovered ++ made ≡ l ++ left = ap (λ (k : List Record). recovered ++ k) is ∙ sym (append_assoc recovered kept left) ∙ ap (λ (k : List Record). k ++ left) (sym e) in
      first_database image l left has (subst AreAllowed whole allowed)
  end_opens kept left is image l has (inr next) =
      let r = next.0 in
      let more = next.1 in
      let whole : recovered ++ made ≡ l ++ more =
      ap (λ (k : List Record). recovered ++ k) (is ∙ ap (λ (k : List Record). kept ++ k) next.2)
      ∙ sym (append_assoc recovered kept (r ∷ more))
      ∙ sym (append_assoc (recovered ++ kept) (r ∷ []) more)
      ∙ ap (λ (k : List Record). k ++ more) (sym next.3) in
      first_database image l more has (subst AreAllowed whole allowed)

  pub survives_opened : (m0 m2 : Medium) (acknowledged : List Record) (gave_up : Bool) → Survives HasRecords m0 m2 recovered made acknowledged gave_up → Survives HasDatabase m0 m2 recovered made acknowledged gave_up
  survives_opened m0 m2 acknowledged gave_up s = record {
    synced = s.synced;
    later = s.later;
    within = s.within;
    before = s.before;
    just = λ bytes holds image left. first_opens image (s.just bytes holds image left);
    after = λ image left. first_opens image (s.after image left);
    kept = s.kept;
    left = s.left;
    made_is = s.made_is;
    has_acknowledged = s.has_acknowledged;
    all = s.all;
    end = λ image now. let e = s.end image now in (e.0, end_opens s.kept s.left s.made_is image e.0 e.1 e.2, e.2);
  }

-- ---- histories

or_none : (a b : Option Halt) → or_else a b ≡ None → (a ≡ None) × (b ≡ None)
or_none None b e = (refl, e)
or_none (Some cause) b e = absurd cc

answered_all : (a : Answer) (light : Bool) (made : List Record) → cause_by (wants a && light) a ≡ None → acknowledged_by a made ≡ made_by (wants a && light) made
answered_all answer.DiskFault light made e = absurd cc
answered_all answer.NoMemory true made e = refl
answered_all answer.NoMemory false made e = absurd cc
answered_all a light made e = refl

-- where the engine didn't give up, all that was made is acknowledged
all_acknowledged : (db : Database) (h : List Entry) → given_up_by h ≡ None → Acknowledged db h ≡ Records db h
all_acknowledged db [] e = refl
all_acknowledged db (x ∷ h) e =
    let none = or_none (cause_of x) (given_up_by h) e in
    ap (λ l. l ++ Acknowledged (next db x) h) (answered_all x.answer (is_light x.ask) (Reply db x.session x.ask).records none.0)
    ∙ ap (λ l. made_by (is_idle x) (Reply db x.session x.ask).records ++ l) (all_acknowledged (next db x) h none.1)

stopped_faultless : (db : Database) (h : List Entry) → AllStopped db h → has_fault h ≡ false
stopped_faultless db [] all = refl
stopped_faultless db (x ∷ h) all = ap (λ a. is_fault a || has_fault h) all.2 ∙ stopped_faultless (next db x) h all.3

-- a fault of the disk is the one with which the engine gave up
-- where no entry says that the engine gave up
none_gave_up : (h : List Entry) → has_given_up h ≡ false → given_up_by h ≡ None
none_gave_up [] none = refl
none_gave_up (x ∷ h) none = by x.answer (is_light x.ask) none (λ rest. none_gave_up h rest)
  where
    by : (a : Answer) (light : Bool) → (ends_engine a light || has_given_up h) ≡ false → (has_given_up h ≡ false → given_up_by h ≡ None) → or_else (cause_by (wants a && light) a) (given_up_by h) ≡ None
    by answer.DiskFault light none rest = absurd cc
    by answer.NoMemory true none rest = rest none
    by answer.NoMemory false none rest = absurd cc
    by a light none rest = rest none

fault_gave_up : (db : Database) (h : List Entry) → Legal db h → has_fault h ≡ true → given_up_by h ≡ Some why.DiskFault
fault_gave_up db [] legal e = absurd cc
fault_gave_up db (x ∷ h) legal e = by x.answer (is_light x.ask) legal.1 e (λ rest. fault_gave_up (next db x) h rest)
  where
    by : (a : Answer) (light : Bool) → Answered (wants a && light) a (Reply db x.session x.ask).answer (Legal (next db x) h) (AllStopped (next db x) h) → (is_fault a || has_fault h) ≡ true
        → (Legal (next db x) h → has_fault h ≡ true → given_up_by h ≡ Some why.DiskFault) → or_else (cause_by (wants a && light) a) (given_up_by h) ≡ Some why.DiskFault
    by answer.DiskFault light rest e later = refl
    by answer.NoMemory true rest e later = later rest e
    by answer.NoMemory false rest e later = absurd (both_ways (has_fault h) (stopped_faultless (next db x) h rest) e)
    by (answer.View v) light rest e later = later rest.1 e
    by (answer.Rows rows) light rest e later = later rest.1 e
    by (answer.Count n steps lines) light rest e later = later rest.1 e
    by answer.Done light rest e later = later rest.1 e
    by answer.Invalid light rest e later = later rest.1 e
    by (answer.Refused code steps lines) light rest e later = later rest.1 e
    by answer.Stopped light rest e later = later rest.1 e

pub some_faults : (a b : ℕ) → Rises a b → 0 < b
some_faults a b rises =
    let some : 1 ≤ min (a + 1) count_end = le-min (omega arith) (omega arith) in
    omega (arith, some, rises)

-- ---- a run over a disk

module _ {D : Type 0} (as_medium : D → Medium) (disk : D) (n : ℕ) (e : EngineState (JournalState D)) (opened : Opened as_medium disk n e) (last : JournalState D) (h : List Entry) where
  abbrev k1 : Keeper
  k1 = as_keeper as_medium e.keeper

  abbrev k2 : Keeper
  k2 = as_keeper as_medium last

  abbrev db : Database
  db = Build e.recovered n

  abbrev made : List Record
  made = Records db h

  abbrev acknowledged : List Record
  acknowledged = Acknowledged db h

  abbrev m0 : Medium
  m0 = as_medium disk

  abbrev m1 : Medium
  m1 = as_medium e.keeper.disk

  abbrev m2 : Medium
  m2 = as_medium last.disk

  told1 : IsTrue m0.tells → IsTrue k1.tells
  told1 told = subst IsTrue (sym opened.goes.tells) told

  -- what the sessions made of the keeper
  pub record Comes : Type 0 where
    pub faults : m1.faults ≤ m2.faults
    pub moment : m1.moment ≤ m2.moment
    pub tells : m2.tells ≡ m1.tells
    pub holds : IsTrue k1.tells → Holds k1 k2 made
    pub kept : List Record
    pub left : List Record
    pub made_is : made ≡ kept ++ left
    pub acknowledges : Begins acknowledged kept
    pub all : given_up_by h ≡ None → left ≡ []
    pub end : IsTrue m0.tells → k1.records ≡ Some e.recovered → (l : List Record) → LeavesRecords m2 m2.moment l → OneMore (Some (e.recovered ++ kept)) left l

  just : IsTrue m0.tells → JustKept k1
  just told = λ t. by k1.records (opened.at_rest.leaves opened.ready.stopped t)
    where
      by : (o : Option (List Record)) → IfSome o (LeavesJust k1) → IfSome o (λ records. (l : List Record) → k1.may_leave k1.moment l → l ≡ records)
      by None leaves = tt
      by (Some records) leaves = λ l left. (leaves l).0 left

  some_is : (o : Option (List Record)) (records l : List Record) → o ≡ Some records → IfSome o (λ r. l ≡ r) → l ≡ records
  some_is o records l is h = subst (λ x. IfSome x (λ r. l ≡ r)) is h

  if_some : (o : Option (List Record)) (l : List Record) → IfSome o (λ records. (x : List Record) → k2.may_leave k2.moment x → x ≡ records) → k2.may_leave k2.moment l → IfSome o (λ r. l ≡ r)
  if_some None l by left = tt
  if_some (Some records) l by left = by l left

  grown : given_up_by h ≡ None → Grew k1 k2 made → Comes
  grown none grew = record {
    faults = grew.faults;
    moment = grew.moment;
    tells = grew.tells;
    holds = grew.holds;
    kept = made;
    left = [];
    made_is = sym (append-nil made);
    acknowledges = record { more = []; is = sym (all_acknowledged db h none) ∙ sym (append-nil acknowledged) };
    all = λ none. refl;
    end = λ told is l left.
        let records : k2.records ≡ Some (e.recovered ++ made) = grew.records ∙ ap (λ o. with_records o made) is in
        inl (some_is k2.records (e.recovered ++ made) l records (if_some k2.records l (grew.rest (just told) (subst IsTrue (sym grew.tells) (told1 told))) left));
  }

  some_cause : (cause : Halt) (o : Option Halt) → o ≡ Some cause → o ≡ None → ⊥
  some_cause cause o is none = cc

  until : (cause : Halt) → given_up_by h ≡ Some cause → KeptUntil k1 k2 made acknowledged cause → Comes
  until cause gave_up kept =
      let g = kept.gave_up in
      record {
        faults = g.faults;
        moment = g.moment;
        tells = g.tells;
        holds = g.holds;
        kept = g.kept;
        left = g.left;
        made_is = g.made_is;
        acknowledges = kept.told;
        all = λ none. absurd (some_cause cause (given_up_by h) gave_up none);
        end = λ told is l left.
            let records : k2.records ≡ Some (e.recovered ++ g.kept) = g.records ∙ ap (λ o. with_records o g.kept) is in
            subst (λ o. OneMore o g.left l) records (g.now (told1 told) (just told) l left);
      }

  comes_by : (o : Option Halt) → given_up_by h ≡ o → KeptBy o k1 k2 db h → Comes
  comes_by None is kept = grown is kept
  comes_by (Some cause) is kept = until cause is kept

  failed_by : (o : Option Halt) → o ≡ Some why.DiskFault → KeptBy o k1 k2 db h → 0 < m2.faults
  failed_by o is kept = some_faults m1.faults m2.faults (subst (λ x. KeptBy x k1 k2 db h) is kept).gave_up.cause

  survived : (comes : Comes) → IsTrue m0.tells → Survives HasRecords m0 m2 e.recovered made acknowledged (has_given_up h)
  survived comes tells =
      let told = opened.told tells in
      survives m0 m1 m2 e.recovered made told.rests comes.moment
      (λ t l le left. subst (λ o. LeavesRecords m1 t l ⊎ Between o made l) told.kept (comes.holds (told1 tells) t l le left))
      (has_records m0.reads e.recovered told.has) acknowledged comes.kept comes.left (has_given_up h) comes.made_is comes.acknowledges (λ none. comes.all (none_gave_up h none)) (comes.end tells told.kept)

  all_allowed : AreFit h → AreAllowed (e.recovered ++ made)
  all_allowed fit = first_records_allowed e.recovered n h (e.recovered ++ made) [] opened.allowed fit (sym (append-nil (e.recovered ++ made)))

  pub ran_over : (told : Option (List ℕ)) → IsEntry as_medium told disk → Kept k1 k2 db h → Legal db h → AreFit h → RanOver as_medium told n e.recovered h last.disk
  ran_over told is_entry kept legal fit =
      let comes = comes_by (given_up_by h) refl kept in
      record {
        entry = disk;
        is_entry = is_entry;
        goes = record { tells = comes.tells ∙ opened.goes.tells; faults = omega (arith, comes.faults, opened.goes.faults); moment = omega (arith, comes.moment, opened.goes.moment) };
        allowed = opened.allowed;
        failed = λ fault. failed_by (given_up_by h) (fault_gave_up db h legal fault) kept;
        recovers = λ tells. (opened.told tells).has;
        survives = λ tells. survives_opened e.recovered made (all_allowed fit) m0 m2 acknowledged (has_given_up h) (survived comes tells);
      }

  -- the same, as the caller has it
  pub ran_so : (told : Option (List ℕ)) → IsEntry as_medium told disk → (m : ℕ) → n ≡ m → (recovered : List Record) → recovered ≡ e.recovered → (now : D) → now ≡ last.disk → Kept k1 k2 (Build e.recovered m) h → Legal (Build e.recovered m) h → AreFit h
      → RanOver as_medium told m recovered h now
  ran_so told is_entry m is recovered same now there kept legal fit =
      subst (λ k. RanOver as_medium told k recovered h now) is
      (subst (λ l. RanOver as_medium told n l h now) (sym same)
      (subst (λ x. RanOver as_medium told n e.recovered h x) (sym there)
      (ran_over told is_entry (subst (λ k. Kept k1 k2 (Build e.recovered k) h) (sym is) kept) (subst (λ k. Legal (Build e.recovered k) h) (sym is) legal) fit)))
