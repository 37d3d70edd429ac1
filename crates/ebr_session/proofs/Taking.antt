-- A session takes an answer, or quits.
use Rattle.std.proofs.Common.{ℕ, ◌≡◌, Bool, true, false, [], ◌∷◌, ◌++◌, length, Option, Some, None, IsSome, refl, sym, ◌∙◌, ap, subst, arith, true≢false}
use Rattle.ebr_base.specs.declared.numbers.EditionNo.{EditionNo}
use Rattle.ebr_asks.specs.declared.ask.Ask.{Ask}
use Rattle.ebr_asks.specs.declared.ask.Ask.TheVariants as ask
use Rattle.ebr_asks.specs.declared.answer.Answer.{Answer}
use Rattle.ebr_asks.specs.declared.answer.Answer.TheVariants as answer
use Rattle.ebr_code.specs.Books.{Book}
use Rattle.ebr_calls.specs.Continuation.{Continues}
use Rattle.ebr_session.specs.declared.session.Phase.{Phase}
use Rattle.ebr_session.specs.declared.session.Phase.TheVariants as phase
use Rattle.ebr_session.specs.Has.{Suits, answered, quitting}
use Rattle.ebr_session.specs.Transcripts.{ends, exchange, stops}
use Rattle.ebr_session.specs.inside.Kept.{HasRoom, Kept}
use Rattle.ebr_session.specs.inside.Holds.{HasQuit, Holds, Parts, Waits, is_over, out_of, phase_behind, phase_by, progress}
use Rattle.ebr_session.specs.inside.Requests.{Stays}
use Rattle.ebr_session.proofs.Following.{ends_leaving, ends_quit, ends_waits, failed_of, goes_on, leaves_waits, quits_failed, quits_leaving, quits_quit, quits_waits, stays_of}

pub less_room : (t : Kept) → HasRoom 2 t → HasRoom 1 t
unfolding HasRoom
less_room t h = omega (arith, h)

pub none_out : {P : Type 0} → IsSome {T = Ask} None → P
none_out i = absurd (true≢false (sym i))

module _ {B : Type 0} (serves : B → EditionNo → Book) where
  -- there is room for the answer
  pub room_out : (p : Phase) (out : Option Ask) (s : Parts B) → Holds serves p out s → IsSome (out_of p out) → HasRoom 1 s.transcript
  room_out phase.Working (Some q) s h i = less_room s.transcript h.room
  room_out phase.Working None s h i = h.room
  room_out phase.Failed out s h i = h.room
  room_out phase.Leaving out s h i = h.room
  room_out phase.Quitting out s h i = h.room
  room_out phase.Over out s h i = none_out i

  module _ (s : Parts B) (transcript : Kept) (book : Option B) (q : Ask) (x : Answer) (more : transcript.exchanges ≡ s.transcript.exchanges ++ exchange q x ∷ []) where
    abbrev now : Parts B
    now = record s { transcript = transcript; book = book }

    by_answer : (y : Answer) → x ≡ y → stops y ≡ false → Stays q → Waits serves q s → HasRoom 1 transcript → Suits serves x book → Holds serves (phase_by y phase.Working) None now
    by_answer answer.NoMemory is e st h room suits = leaves_waits serves s transcript book q x more h room st is
    by_answer answer.DiskFault is e st h room suits = absurd (true≢false e)
    by_answer answer.Stopped is e st h room suits = absurd (true≢false e)
    by_answer y is e st h room suits = goes_on serves s transcript book q x more h room suits st (subst Continues (sym is) tt)

    by_end : (e : Bool) → ends q x ≡ e → Holds serves phase.Working (Some q) s → (HasRoom 2 s.transcript → HasRoom 1 transcript) → Suits serves x book → Holds serves (phase_behind e x phase.Working) None now
    by_end true e h room suits = ends_waits serves s transcript book q x more h e
    by_end false e h room suits = let k = stays_of q x e in by_answer x refl k.1 k.0 h (room h.room) suits

    leave_ends : (a : Ask) → a ≡ ask.Leave → ends a x ≡ true
    leave_ends a l = subst (λ b. ends b x ≡ true) (sym l) refl

    taken_by_phase : (p : Phase) → Holds serves p (Some q) s → IsSome (out_of p (Some q)) → (HasRoom 2 s.transcript → HasRoom 1 transcript) → Suits serves x book → Holds serves (phase_behind (ends q x) x p) None now
    taken_by_phase phase.Working h i room suits = by_end (ends q x) refl h room suits
    taken_by_phase phase.Failed h i room suits = none_out i
    taken_by_phase phase.Leaving h i room suits = subst (λ e. Holds serves (phase_behind e x phase.Leaving) None now) (sym (leave_ends q h.leave)) (ends_leaving serves s transcript book q x more h)
    taken_by_phase phase.Quitting h i room suits = subst (λ e. Holds serves (phase_behind e x phase.Quitting) None now) (sym (leave_ends q h.leave)) (ends_quit serves s transcript book q x more h)
    taken_by_phase phase.Over h i room suits = none_out i

  -- An answer was taken.
  pub taken : (p p' : Phase) (out : Option Ask) (s : Parts B) (transcript : Kept) (book : Option B) (q : Ask) (x : Answer) → Holds serves p out s → out ≡ Some q → IsSome (out_of p out) → p' ≡ phase_behind (ends q x) x p
      → transcript.exchanges ≡ s.transcript.exchanges ++ exchange q x ∷ [] → (HasRoom 2 s.transcript → HasRoom 1 transcript) → Suits serves x book → Holds serves p' None (record s { transcript = transcript; book = book })
  taken p p' out s transcript book q x h e i b more room suits = subst (λ d. Holds serves d None (record s { transcript = transcript; book = book })) (sym b)
      (taken_by_phase s transcript book q x more p (subst (λ o. Holds serves p o s) e h) (subst (λ o. IsSome (out_of p o)) e i) room suits)

  -- ---- it quits

  pub quits : (p : Phase) (out : Option Ask) (s : Parts B) → Holds serves p out s → (p ≡ phase.Over → ⊥) → HasQuit None (record s { quit = Some (length s.transcript.exchanges) })
  quits phase.Working (Some q) s h n = quits_waits serves s q h (less_room s.transcript h.room)
  quits phase.Working None s h n = quits_failed s (failed_of serves s h)
  quits phase.Failed out s h n = quits_failed s h
  quits phase.Leaving out s h n = quits_leaving serves s out h
  quits phase.Quitting out s h n = quits_quit s out h
  quits phase.Over out s h n = absurd (n refl)

-- ---- what a caller sees of it

none_out_of : (p : Phase) → out_of p None ≡ None
none_out_of phase.Working = refl
none_out_of phase.Failed = refl
none_out_of phase.Leaving = refl
none_out_of phase.Quitting = refl
none_out_of phase.Over = refl

over_by : (x : Answer) (p : Phase) → is_over p ≡ false → is_over (phase_by x p) ≡ false
over_by answer.NoMemory p n = refl
over_by x p n = n

over_behind : (e : Bool) (x : Answer) (p : Phase) → is_over p ≡ false → is_over (phase_behind e x p) ≡ e
over_behind true x p n = refl
over_behind false x p n = over_by x p n

module _ {B : Type 0} (s : Parts B) (transcript : Kept) (book : Option B) (q : Ask) (x : Answer) (more : transcript.exchanges ≡ s.transcript.exchanges ++ exchange q x ∷ []) where
  seen_by : (p : Phase) → is_over p ≡ false
      → progress (phase_behind (ends q x) x p) None (record s { transcript = transcript; book = book }) ≡ record { session = s.session; script = s.script.script; transcript = s.transcript.exchanges ++ exchange q x ∷ []; printed = s.printed; quit = s.quit; out = None; ended = ends q x }
  seen_by p n = λ i. record {
    session = s.session;
    script = s.script.script;
    transcript = more i;
    printed = s.printed;
    quit = s.quit;
    out = none_out_of (phase_behind (ends q x) x p) i;
    ended = over_behind (ends q x) x p n i;
  }

  by_phase : (p : Phase) → IsSome (out_of p (Some q)) → progress (phase_behind (ends q x) x p) None (record s { transcript = transcript; book = book }) ≡ answered (out_of p (Some q)) x (progress p (Some q) s)
  by_phase phase.Working i = seen_by phase.Working refl
  by_phase phase.Failed i = none_out i
  by_phase phase.Leaving i = seen_by phase.Leaving refl
  by_phase phase.Quitting i = seen_by phase.Quitting refl
  by_phase phase.Over i = none_out i

pub taken_view : {B : Type 0} (p p' : Phase) (out : Option Ask) (s : Parts B) (transcript : Kept) (book : Option B) (q : Ask) (x : Answer) → out ≡ Some q → IsSome (out_of p out) → p' ≡ phase_behind (ends q x) x p → transcript.exchanges ≡ s.transcript.exchanges ++ exchange q x ∷ []
    → progress p' None (record s { transcript = transcript; book = book }) ≡ answered (out_of p out) x (progress p out s)
taken_view p p' out s transcript book q x e i b more =
    ap (λ d. progress d None (record s { transcript = transcript; book = book })) b
    ∙ (by_phase s transcript book q x more p (subst (λ o. IsSome (out_of p o)) e i) ∙ ap (λ o. answered (out_of p o) x (progress p o s)) (sym e))

pub not_over : (p : Phase) → (p ≡ phase.Over → ⊥) → is_over p ≡ false
not_over phase.Working n = refl
not_over phase.Failed n = refl
not_over phase.Leaving n = refl
not_over phase.Quitting n = refl
not_over phase.Over n = absurd (n refl)

pub quit_view : {B : Type 0} (p : Phase) (out place : Option Ask) (s : Parts B) (n : ℕ) → (p ≡ phase.Over → ⊥) → n ≡ length s.transcript.exchanges → place ≡ None → progress phase.Quitting place (record s { quit = Some n }) ≡ quitting (is_over p) (progress p out s)
quit_view p out place s n not e k =
    (λ i. record {
      session = s.session;
      script = s.script.script;
      transcript = s.transcript.exchanges;
      printed = s.printed;
      quit = Some (e i);
      out = k i;
      ended = sym (not_over p not) i;
    })
    ∙ ap (λ b. quitting b (progress p out s)) (sym (not_over p not))
