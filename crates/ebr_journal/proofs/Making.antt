-- A journal is made of a blank file.
use Rattle.std.proofs.Common.{◌≡◌, ◌≢◌, inl, inr, ⊎_elim, ℕ, ◌≤◌, IsTrue, IsErr, List, [], ◌∷◌, length, take, get_or, Result, Ok, Err, refl, sym, ◌∙◌, ap, subst, arith}
use mathlib.Core.Bool.{false≢true}
use Rattle.std.proofs.lemmas.List.{length-take}
use Rattle.std.proofs.lemmas.Bool.{cases_eq}
use Rattle.ebr_outside.specs.declared.disk.DiskErr.{DiskErr}
use Rattle.ebr_outside.specs.Disk.{Medium, LeavesLess, LeavesNow, Torn, Cut, written, Passes, Writes, Shortens, Syncs}
use Rattle.ebr_journal.specs.Journal.{none_yet, IsBlank, IsSafe, HasRecords}
use Rattle.ebr_journal.specs.Start.{IsFresh, Makes, Spans}
use Rattle.ebr_journal.proofs.Moments.{begins, goes_on, told_after}

-- no bytes more than two, and with two not 1 at first
cut_blank : (b image : List ℕ) → IsBlank b → Cut 0 b image → IsBlank image
cut_blank b image blank cut = ⊎_elim (λ short. inl (omega (arith, shorter, short))) two blank
  where
    shorter : length image ≤ length b
    shorter = omega (arith, ap length cut.front, length-take (length image) b)

    two : (length b ≡ 2) × (get_or b 0 0 ≢ 1) → IsBlank image
    two t = elim (cases_eq (length image) 2) [
      | inl long ↦
          let all : image ≡ b = cut.front ∙ ap (λ (k : ℕ). take k b) (long ∙ sym t.0) ∙ whole b in
          inr (long, λ first. t.1 (sym (ap (λ (l : List ℕ). get_or l 0 0) all) ∙ first))
      | inr other ↦ inl (omega (arith, shorter, t.0, other))
    ]
      where
        whole : (l : List ℕ) → take (length l) l ≡ l
        whole [] = refl
        whole (x ∷ l) = ap (λ (k : List ℕ). x ∷ k) (whole l)

short_blank : (image : List ℕ) → Torn 0 1 [] image → IsBlank image
short_blank image torn = inl (omega (arith, torn.no_longer))

second_blank : (image : List ℕ) → Torn 1 1 (0 ∷ []) image → IsBlank image
second_blank image torn = elim (cases_eq (length image) 2) [
  | inl long ↦ let first : get_or image 0 0 ≡ 0 = torn.stays 0 (omega arith) (inl (omega arith)) in inr (long, λ e. omega (arith, first, e))
  | inr other ↦ inl (omega (arith, torn.no_longer, other))
]

made_journal : IsSafe (1 ∷ 0 ∷ []) none_yet
made_journal = record {
  ends = record { gate = 0; rest = []; closed = omega arith; is = refl; spelled = record { short = tt; long = tt } };
  room = omega arith;
  short = omega arith;
}

made_records : HasRecords (1 ∷ 0 ∷ []) []
made_records = inr (record { layout = none_yet; safe = made_journal; are = refl })

opened : (image : List ℕ) → length image ≡ 2 → get_or image 1 0 ≡ 0 → HasRecords image []
opened [] long last = absurd (omega arith)
opened (x ∷ []) long last = absurd (omega arith)
opened (x ∷ y ∷ z ∷ image) long last = absurd (omega arith)
opened (x ∷ y ∷ []) long last = elim (cases_eq x 1) [
  | inl is_open ↦ subst (λ (l : List ℕ). HasRecords l []) (λ i. sym is_open i ∷ sym last i ∷ []) made_records
  | inr shut ↦ inl (inr (refl, shut), refl)
]

third_opened : (image : List ℕ) → Torn 0 1 (0 ∷ 0 ∷ []) image → HasRecords image []
third_opened image torn = opened image (omega (arith, torn.no_shorter, torn.no_longer)) (torn.stays 1 (omega arith) (inr (omega arith)))

-- the calls so far
pub record Run (old now : Medium) : Type 0 where
  pub time : Passes old now (λ image. HasRecords image [])
  pub spans : Spans old now
  pub tells : IsTrue now.tells
  pub here : (image : List ℕ) → LeavesNow now image → HasRecords image []

-- this is what a read gives, and all that a crash leaves
pub record At (now : Medium) (b : List ℕ) : Type 0 where
  pub reads : now.reads ≡ b
  pub only : (image : List ℕ) → LeavesNow now image → image ≡ b

pub starts : (m : Medium) → IsTrue m.tells → IsFresh m → Run m m
starts m told fresh = record {
  time = begins m (λ image. HasRecords image []);
  spans = λ t image le left. inl left;
  tells = told;
  here = λ image left. inl (subst IsBlank (sym (fresh.only image left)) fresh.blank, refl);
}

goes : (old now new : Medium) → Run old now → IsTrue new.tells → Passes now new (LeavesNow new) → LeavesLess new
    → ((image : List ℕ) → LeavesNow new image → HasRecords image []) → Run old new
goes old now new run told time law here = record {
  time = goes_on old now new (λ image. HasRecords image []) run.time time here;
  spans = λ t image le left. ⊎_elim
      (λ was. ⊎_elim (λ before. inl before) (λ since. inr (time.keeps old.moment image run.time.later since)) (run.spans t image le was))
      (λ left_now. inr (law old.moment new.moment image (omega (arith, run.time.later, time.later)) left_now))
      (time.only t image (omega (arith, le, run.time.later)) left);
  tells = told;
  here = here;
}

module _ (old now new : Medium) (run : Run old now) (law : LeavesLess new) where
  pub cuts : (b : List ℕ) (a : Result (Unit {0}) DiskErr) → IsFresh now → Shortens now 0 a new → Run old new
  cuts b a fresh s = goes old now new run (told_after now new s.goes run.tells) (s.time run.tells) law
      (λ image left. let from = s.images run.tells image left in inl (cut_blank now.reads image fresh.blank (subst (λ (f : List ℕ). Cut 0 f image) (fresh.only from.0 from.1) from.2), refl))

  pub writes : (b : List ℕ) (at : ℕ) (piece : List ℕ) (a : Result (Unit {0}) DiskErr) → At now b → ((image : List ℕ) → Torn at (length piece) b image → HasRecords image []) → Writes now at piece a new → Run old new
  writes b at piece a here torn w = goes old now new run (told_after now new w.goes run.tells) (w.time run.tells) law
      (λ image left. let from = w.images run.tells image left in torn image (subst (λ (f : List ℕ). Torn at (length piece) f image) (here.only from.0 from.1) from.2))

  pub syncs : (a : Result (Unit {0}) DiskErr) → HasRecords now.reads [] → Syncs now a new → Run old new
  syncs (Ok x) read s = goes old now new run (told_after now new s.goes run.tells) (s.time run.tells) law
      (λ image left. subst (λ (f : List ℕ). HasRecords f []) (sym (s.images run.tells image left)) read)
  syncs (Err e) read s = goes old now new run (told_after now new s.goes run.tells) (s.time run.tells) law (λ image left. run.here image (s.images run.tells image left))

  pub rests : (b : List ℕ) (x : Unit {0}) → now.reads ≡ b → Syncs now (Ok x) new → At new b
  rests b x is s = record { reads = s.reads run.tells ∙ is; only = λ image left. s.images run.tells image left ∙ is }

  pub wrote : (b : List ℕ) (at : ℕ) (piece : List ℕ) (x : Unit {0}) → At now b → Writes now at piece (Ok x) new → new.reads ≡ written b at piece
  wrote b at piece x here w = w.reads run.tells ∙ ap (λ (f : List ℕ). written f at piece) here.reads

-- the journal was made, or a call failed on the way
pub fails : (old new : Medium) (answer : Result (Unit {0}) DiskErr) → IsErr answer → Run old new → Makes old answer new
fails old new (Ok x) is_err run = absurd (false≢true is_err)
fails old new (Err e) is_err run = record { made = tt; time = run.time; spans = run.spans }

pub is_made : (old new : Medium) (x : Unit {0}) → Run old new → At new (1 ∷ 0 ∷ []) → Makes old (Ok x) new
is_made old new x run here = record {
  made = record {
    safe = subst (λ (f : List ℕ). IsSafe f none_yet) (sym here.reads) made_journal;
    place = refl;
    only = λ image left. here.only image left ∙ sym here.reads;
  };
  time = run.time;
  spans = run.spans;
}

blank0 : IsBlank []
blank0 = inl (omega arith)

-- the eight calls
module _ (m0 : Medium) (told : IsTrue m0.tells) (fresh : IsFresh m0) where
  module _ (m1 : Medium) (law1 : LeavesLess m1) where
    pub run1 : (a : Result (Unit {0}) DiskErr) → Shortens m0 0 a m1 → Run m0 m1
    run1 a s = cuts m0 m0 m1 (starts m0 told fresh) law1 [] a fresh s

    module _ (x1 : Unit {0}) (s1 : Shortens m0 0 (Ok x1) m1) (m2 : Medium) (law2 : LeavesLess m2) where
      read1 : m1.reads ≡ []
      read1 = s1.reads told

      pub run2 : (a : Result (Unit {0}) DiskErr) → Syncs m1 a m2 → Run m0 m2
      run2 a s = syncs m0 m1 m2 (run1 (Ok x1) s1) law2 a (subst (λ (f : List ℕ). HasRecords f []) (sym read1) (inl (blank0, refl))) s

      module _ (x2 : Unit {0}) (s2 : Syncs m1 (Ok x2) m2) (m3 : Medium) (law3 : LeavesLess m3) where
        at2 : At m2 []
        at2 = rests m0 m1 m2 (run1 (Ok x1) s1) law2 [] x2 read1 s2

        pub run3 : (a : Result (Unit {0}) DiskErr) → Writes m2 0 (0 ∷ []) a m3 → Run m0 m3
        run3 a w = writes m0 m2 m3 (run2 (Ok x2) s2) law3 [] 0 (0 ∷ []) a at2 (λ image torn. inl (short_blank image torn, refl)) w

        module _ (x3 : Unit {0}) (w3 : Writes m2 0 (0 ∷ []) (Ok x3) m3) (m4 : Medium) (law4 : LeavesLess m4) where
          read3 : m3.reads ≡ 0 ∷ []
          read3 = wrote m0 m2 m3 (run2 (Ok x2) s2) law3 [] 0 (0 ∷ []) x3 at2 w3

          pub run4 : (a : Result (Unit {0}) DiskErr) → Syncs m3 a m4 → Run m0 m4
          run4 a s = syncs m0 m3 m4 (run3 (Ok x3) w3) law4 a (subst (λ (f : List ℕ). HasRecords f []) (sym read3) (inl (inl (omega arith), refl))) s

          module _ (x4 : Unit {0}) (s4 : Syncs m3 (Ok x4) m4) (m5 : Medium) (law5 : LeavesLess m5) where
            at4 : At m4 (0 ∷ [])
            at4 = rests m0 m3 m4 (run3 (Ok x3) w3) law4 (0 ∷ []) x4 read3 s4

            pub run5 : (a : Result (Unit {0}) DiskErr) → Writes m4 1 (0 ∷ []) a m5 → Run m0 m5
            run5 a w = writes m0 m4 m5 (run4 (Ok x4) s4) law5 (0 ∷ []) 1 (0 ∷ []) a at4 (λ image torn. inl (second_blank image torn, refl)) w

            module _ (x5 : Unit {0}) (w5 : Writes m4 1 (0 ∷ []) (Ok x5) m5) (m6 : Medium) (law6 : LeavesLess m6) where
              read5 : m5.reads ≡ 0 ∷ 0 ∷ []
              read5 = wrote m0 m4 m5 (run4 (Ok x4) s4) law5 (0 ∷ []) 1 (0 ∷ []) x5 at4 w5

              pub run6 : (a : Result (Unit {0}) DiskErr) → Syncs m5 a m6 → Run m0 m6
              run6 a s = syncs m0 m5 m6 (run5 (Ok x5) w5) law6 a (subst (λ (f : List ℕ). HasRecords f []) (sym read5) (opened (0 ∷ 0 ∷ []) refl refl)) s

              module _ (x6 : Unit {0}) (s6 : Syncs m5 (Ok x6) m6) (m7 : Medium) (law7 : LeavesLess m7) where
                at6 : At m6 (0 ∷ 0 ∷ [])
                at6 = rests m0 m5 m6 (run5 (Ok x5) w5) law6 (0 ∷ 0 ∷ []) x6 read5 s6

                pub run7 : (a : Result (Unit {0}) DiskErr) → Writes m6 0 (1 ∷ []) a m7 → Run m0 m7
                run7 a w = writes m0 m6 m7 (run6 (Ok x6) s6) law7 (0 ∷ 0 ∷ []) 0 (1 ∷ []) a at6 third_opened w

                module _ (x7 : Unit {0}) (w7 : Writes m6 0 (1 ∷ []) (Ok x7) m7) (m8 : Medium) (law8 : LeavesLess m8) where
                  read7 : m7.reads ≡ 1 ∷ 0 ∷ []
                  read7 = wrote m0 m6 m7 (run6 (Ok x6) s6) law7 (0 ∷ 0 ∷ []) 0 (1 ∷ []) x7 at6 w7

                  run8 : (a : Result (Unit {0}) DiskErr) → Syncs m7 a m8 → Run m0 m8
                  run8 a s = syncs m0 m7 m8 (run7 (Ok x7) w7) law8 a (subst (λ (f : List ℕ). HasRecords f []) (sym read7) made_records) s

                  pub all_made : (a : Result (Unit {0}) DiskErr) → Syncs m7 a m8 → Makes m0 a m8
                  all_made (Ok x8) s = is_made m0 m8 x8 (run8 (Ok x8) s) (rests m0 m7 m8 (run7 (Ok x7) w7) law8 (1 ∷ 0 ∷ []) x8 read7 s)
                  all_made (Err e) s = record { made = tt; time = (run8 (Err e) s).time; spans = (run8 (Err e) s).spans }
