-- The four calls that put a piece on a disk, and what a crash leaves after each of them.
use Rattle.std.proofs.Common.{◌≡◌, inl, inr, ℕ, ◌+◌, ◌<◌, ◌≤◌, IsTrue, IsErr, List, [], ◌∷◌, ◌++◌, length, take, drop, Result, Ok, Err, sym, ◌∙◌, ap, subst, arith, append_assoc, length-append, length-take}
use mathlib.Core.Bool.{false≢true}
use Rattle.std.proofs.lemmas.List.{take_at}
use Rattle.ebr_outside.specs.declared.disk.DiskErr.{DiskErr}
use Rattle.ebr_outside.specs.Disk.{Medium, LeavesNow, Torn, written, Passes, Writes, Syncs}
use Rattle.ebr_journal.specs.Journal.{form_of, front, last_gate, IsSafe, Layout}
use Rattle.ebr_encoding.specs.declared.form.Form.{Form}
use Rattle.ebr_encoding.specs.declared.form.Form.TheVariants.{Short, Long}
use Rattle.ebr_record.specs.Keeper.{max_journal}
use Rattle.ebr_journal.specs.Keeper.{HasFront, IsSettled}
use Rattle.ebr_journal.specs.Crash.{IsBeforeOrAfter, IsNext, Puts}
use Rattle.ebr_journal.proofs.Moments.{begins, goes_on, told_after}
use Rattle.ebr_journal.proofs.Gates.{within, front_of, has_front, torn_behind, written_behind, behind, torn_gate, written_gate, torn_front_of}

pub written_reaches : (at : ℕ) (piece bytes : List ℕ) → at ≤ length bytes → at ≤ length (written bytes at piece)
written_reaches at piece bytes le =
    omega (arith, length-append (take at bytes ++ piece) (drop (at + length piece) bytes), length-append (take at bytes) piece, length-take at bytes)

-- nothing was written
pub none_put : (gate size : ℕ) (l next : Layout) (m0 : Medium) → IsSettled m0 gate l → (answer : Result (Unit {0}) DiskErr) → IsErr answer → Puts m0 gate size l next answer m0
none_put gate size l next m0 settled (Ok x) is_err = absurd (false≢true is_err)
none_put gate size l next m0 settled (Err e) is_err = record { holds = has_front l gate settled.place m0.reads settled.safe.ends; time = begins m0 (IsBeforeOrAfter l next) }

-- a gate that leaves room lies before the limit
last_early : (form : Form) → last_gate form < max_journal
last_early Short = omega arith
last_early Long = omega arith

module _ (gate : ℕ) (l next : Layout) (piece : List ℕ) (is_next : IsNext l next piece)
    (m0 : Medium) (tells : IsTrue m0.tells) (settled : IsSettled m0 gate l) where
  abbrev P : List ℕ → Type 0
  P = IsBeforeOrAfter l next

  abbrev body : List ℕ
  body = is_next.behind

  abbrev place : gate ≡ length (front l)
  place = settled.place

  -- the place of the next gate, which leaves room
  longer : gate + length piece ≡ length (front next)
  longer = omega (arith, ap length is_next.is, length-append body (0 ∷ []), ap length is_next.grows, length-append (front l) (1 ∷ body), place)

  fits : gate + 1 + length piece ≤ max_journal
  fits = omega (arith, longer, is_next.room, last_early (form_of next.long))

  -- a call failed, and the journal stops
  refused : (answer : Result (Unit {0}) DiskErr) (new : Medium) → IsErr answer → HasFront new.reads gate l → Passes m0 new P → Puts m0 gate (length piece) l next answer new
  refused (Ok x) new is_err holds time = absurd (false≢true is_err)
  refused (Err e) new is_err holds time = record { holds = holds; time = time }

  module _ (a1 : Result (Unit {0}) DiskErr) (m1 : Medium) (w1 : Writes m0 (gate + 1) piece a1 m1) where
    staged : (image : List ℕ) → LeavesNow m1 image → IsSafe image l
    staged image left =
        let from = w1.images tells image left in
        torn_behind l gate place (length piece) m0.reads image settled.safe fits (subst (λ (f : List ℕ). Torn (gate + 1) (length piece) f image) (settled.only from.0 from.1) from.2)

    time1 : Passes m0 m1 P
    time1 = goes_on m0 m0 m1 P (begins m0 P) (w1.time tells) (λ image left. inl (staged image left))

    told1 : IsTrue m1.tells
    told1 = told_after m0 m1 w1.goes tells

  -- the write failed
  pub first_fails : (e : DiskErr) (m1 : Medium) → Writes m0 (gate + 1) piece (Err e) m1 → (answer : Result (Unit {0}) DiskErr) → IsErr answer → Puts m0 gate (length piece) l next answer m1
  first_fails e m1 w1 answer is_err = refused answer m1 is_err
      (has_front l gate place m1.reads (torn_behind l gate place (length piece) m0.reads m1.reads settled.safe fits (w1.reads tells)).ends)
      (time1 (Err e) m1 w1)

  module _ (x1 : Unit {0}) (m1 : Medium) (w1 : Writes m0 (gate + 1) piece (Ok x1) m1) where
    t1 : IsTrue m1.tells
    t1 = told1 (Ok x1) m1 w1

    safe1 : IsSafe m1.reads l
    safe1 = subst (λ (f : List ℕ). IsSafe f l) (sym (w1.reads tells)) (written_behind l gate place piece m0.reads settled.safe fits)

    abbrev rest : List ℕ
    rest = drop (gate + 1 + length piece) m0.reads

    stands1 : drop (gate + 1) m1.reads ≡ (body ++ 0 ∷ []) ++ rest
    stands1 =
        ap (λ (f : List ℕ). drop (gate + 1) f) (w1.reads tells) ∙ behind l gate place piece m0.reads settled.safe.ends ∙ ap (λ (p : List ℕ). p ++ rest) is_next.is

    -- the sync failed
    pub second_fails : (e : DiskErr) (m2 : Medium) → Syncs m1 (Err e) m2 → (answer : Result (Unit {0}) DiskErr) → IsErr answer → Puts m0 gate (length piece) l next answer m2
    second_fails e m2 s2 answer is_err = refused answer m2 is_err
        (has_front l gate place m2.reads (subst (λ (f : List ℕ). IsSafe f l) (sym (s2.reads t1)) safe1).ends)
        (goes_on m0 m1 m2 P (time1 (Ok x1) m1 w1) (s2.time t1) (λ image left. inl (staged (Ok x1) m1 w1 image (s2.images t1 image left))))

    module _ (x2 : Unit {0}) (m2 : Medium) (s2 : Syncs m1 (Ok x2) m2) where
      t2 : IsTrue m2.tells
      t2 = told_after m1 m2 s2.goes t1

      safe2 : IsSafe m2.reads l
      safe2 = subst (λ (f : List ℕ). IsSafe f l) (sym (s2.reads t1)) safe1

      stands2 : drop (gate + 1) m2.reads ≡ (body ++ 0 ∷ []) ++ rest
      stands2 = ap (λ (f : List ℕ). drop (gate + 1) f) (s2.reads t1) ∙ stands1

      only2 : (image : List ℕ) → LeavesNow m2 image → image ≡ m2.reads
      only2 image left = s2.images t1 image left ∙ sym (s2.reads t1)

      time2 : Passes m0 m2 P
      time2 = goes_on m0 m1 m2 P (time1 (Ok x1) m1 w1) (s2.time t1) (λ image left. inl (subst (λ (f : List ℕ). IsSafe f l) (sym (only2 image left)) safe2))

      module _ (a3 : Result (Unit {0}) DiskErr) (m3 : Medium) (w3 : Writes m2 gate (1 ∷ []) a3 m3) where
        opening : (image : List ℕ) → LeavesNow m3 image → P image
        opening image left =
            let from = w3.images t2 image left in
            torn_gate l gate place next body is_next.grows is_next.spelled is_next.room rest m2.reads image safe2 stands2 (subst (λ (f : List ℕ). Torn gate 1 f image) (only2 from.0 from.1) from.2)

        time3 : Passes m0 m3 P
        time3 = goes_on m0 m2 m3 P time2 (w3.time t2) opening

      -- the gate's write failed
      pub third_fails : (e : DiskErr) (m3 : Medium) → Writes m2 gate (1 ∷ []) (Err e) m3 → (answer : Result (Unit {0}) DiskErr) → IsErr answer → Puts m0 gate (length piece) l next answer m3
      third_fails e m3 w3 answer is_err =
          let reach = within l gate place m2.reads safe2.ends in
          refused answer m3 is_err
          (torn_front_of l gate place gate 1 m2.reads m3.reads (has_front l gate place m2.reads safe2.ends) (omega arith) (omega (arith, reach)) (w3.reads t2))
          (time3 (Err e) m3 w3)

      module _ (x3 : Unit {0}) (m3 : Medium) (w3 : Writes m2 gate (1 ∷ []) (Ok x3) m3) where
        t3 : IsTrue m3.tells
        t3 = told_after m2 m3 w3.goes t2

        front3 : HasFront m3.reads gate l
        front3 =
            let reach = within l gate place m2.reads safe2.ends in
            let long : length (take gate m2.reads) ≡ gate = omega (arith, length-take gate m2.reads, reach) in
            record {
              place = place;
              front =
                  ap (λ (f : List ℕ). take gate f) (w3.reads t2 ∙ append_assoc (take gate m2.reads) (1 ∷ []) (drop (gate + 1) m2.reads))
                  ∙ take_at (take gate m2.reads) (1 ∷ drop (gate + 1) m2.reads) gate long ∙ front_of l gate place m2.reads safe2.ends;
              spelled = settled.safe.ends.spelled;
            }

        safe3 : IsSafe m3.reads next
        safe3 = subst (λ (f : List ℕ). IsSafe f next) (sym (w3.reads t2)) (written_gate l gate place next body is_next.grows is_next.spelled is_next.room rest m2.reads safe2 stands2)

        -- the last sync failed
        pub fourth_fails : (e : DiskErr) (m4 : Medium) → Syncs m3 (Err e) m4 → Puts m0 gate (length piece) l next (Err e) m4
        fourth_fails e m4 s4 = record {
          holds = subst (λ (f : List ℕ). HasFront f gate l) (sym (s4.reads t3)) front3;
          time = goes_on m0 m3 m4 P (time3 (Ok x3) m3 w3) (s4.time t3) (λ image left. opening (Ok x3) m3 w3 image (s4.images t3 image left));
        }

        -- it is there for good
        pub is_put : (x4 : Unit {0}) (m4 : Medium) → Syncs m3 (Ok x4) m4 → Puts m0 gate (length piece) l next (Ok x4) m4
        is_put x4 m4 s4 =
            let here : IsSafe m4.reads next = subst (λ (f : List ℕ). IsSafe f next) (sym (s4.reads t3)) safe3 in
            let only : (image : List ℕ) → LeavesNow m4 image → image ≡ m4.reads = λ image left. s4.images t3 image left ∙ sym (s4.reads t3) in
            record {
              holds = record { safe = here; place = longer; only = only };
              time = goes_on m0 m3 m4 P (time3 (Ok x3) m3 w3) (s4.time t3) (λ image left. inr (subst (λ (f : List ℕ). IsSafe f next) (sym (only image left)) here));
            }

        -- the last sync answered
        pub ends_with : (answer : Result (Unit {0}) DiskErr) (m4 : Medium) → Syncs m3 answer m4 → Puts m0 gate (length piece) l next answer m4
        ends_with (Ok x4) m4 s4 = is_put x4 m4 s4
        ends_with (Err e) m4 s4 = fourth_fails e m4 s4
