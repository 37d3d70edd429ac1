-- A session goes on to its next ask.
use Rattle.std.specs.Prelude.{◌||◌, is_some, IsErrAnd}
use Rattle.std.proofs.Common.{ℕ, ◌≡◌, ◌⊎◌, ⊎_elim, true≢false, false, List, [], ◌∷◌, ◌++◌, length, Option, Some, None, IfSome, IfOk, Result, refl, sym, ◌∙◌, ap, subst, inl, inr, append-nil}
use Rattle.std.proofs.lemmas.Result.{IfOk-weaker, err_from_is_err_and}
use Rattle.ebr_base.specs.declared.clone_in.NoMemory.{NoMemory}
use Rattle.ebr_base.specs.declared.numbers.EditionNo.{EditionNo}
use Rattle.ebr_asks.specs.declared.ask.Ask.{Ask}
use Rattle.ebr_asks.specs.declared.ask.Ask.TheVariants as ask
use Rattle.ebr_asks.specs.declared.entry.Exchange.{Exchange}
use Rattle.ebr_code.specs.Books.{Book}
use Rattle.ebr_calls.specs.Continuation.{AllContinue, Continues}
use Rattle.ebr_calls.specs.Courses.{Course, GoesOn, place, with_answer}
use Rattle.ebr_session.specs.declared.next.NextAsk.{NextAsk}
use Rattle.ebr_session.specs.declared.session.Phase.{Phase}
use Rattle.ebr_session.specs.declared.session.Phase.TheVariants as phase
use Rattle.ebr_session.specs.declared.work.Work.{Work}
use Rattle.ebr_session.specs.Has.{Advances, Follows, MakesAsk, Progress, Suits, is_leaving, is_short}
use Rattle.ebr_session.specs.Transcripts.{IsPrefix, answers, asks, printed_before}
use Rattle.ebr_session.specs.inside.Kept.{HasRoom, Kept, last_of}
use Rattle.ebr_session.specs.inside.Requests.{Reading, rest_of}
use Rattle.ebr_session.specs.inside.Stages.{Awaits, IsReady, here}
use Rattle.ebr_session.specs.inside.Holds.{Answered, First, HasFailed, Holds, IsAnswered, Parts, Waits, WillAsk, course_behind, is_over, out_of, progress, spot}
use Rattle.ebr_session.proofs.Exchanges.{asks_more, same_course}
use Rattle.ebr_session.proofs.Asking.{awaits_fit, awaits_ready, prefix_same}
use Rattle.ebr_session.proofs.Doing.{last_more}
use Rattle.ebr_session.proofs.Following.{follows, leaves_out, leaves_quit, none_short}

some_weaker : (o : Option Exchange) (P Q : Exchange → Type 0) → ((e : Exchange) → P e → Q e) → IfSome o P → IfSome o Q
some_weaker None P Q h p = tt
some_weaker (Some e) P Q h p = h e p

-- An ask and its copy came of the last answer.
pub both_go : {B : Type 0} {E : Type 0} (serves : B → EditionNo → Book) (w v u : Work B) (mine all : List Exchange) (old new : Reading) (q : Ask) (both : Ask × Ask) (r : Result (Ask × Ask) E)
    → all ≡ mine → v ≡ record w { fresh = [] } → both ≡ (q, q) → IfOk r (λ pair. pair ≡ both)
    → IfSome (last_of all) (λ e. Continues e.answer → (f : Course) (made : List Ask) (bytes : List ℕ) → Awaits serves v.stage e.ask f (rest_of old) (here made bytes v) → Awaits serves u.stage q (with_answer e.answer f) (rest_of new) (here (made ++ e.ask ∷ []) bytes u))
    → IfSome (last_of mine) (λ e. Continues e.answer → IfOk r (λ pair. (f : Course) (made : List Ask) (bytes : List ℕ) → Awaits serves w.stage e.ask f (rest_of old) (place made bytes w.packages w.room)
    → Awaits serves u.stage pair.0 (with_answer e.answer f) (rest_of new) (here (made ++ e.ask ∷ []) bytes u)))
both_go serves w v u mine all old new q both r a b c value h =
    some_weaker (last_of mine) _ _
    (λ e g k. IfOk-weaker r _ _ (λ pair p f made bytes was.
    subst (λ x. Awaits serves u.stage x (with_answer e.answer f) (rest_of new) (here (made ++ e.ask ∷ []) bytes u)) (sym (ap (λ (x : Ask × Ask). x.0) (p ∙ c)))
    (g k f made bytes (subst (λ (y : Work _). Awaits serves y.stage e.ask f (rest_of old) (here made bytes y)) (sym b)
    (subst (λ l. Awaits serves w.stage e.ask f (rest_of old) (place made l w.packages w.room)) (sym (append-nil bytes)) was)))) value)
    (subst (λ (l : List Exchange). IfSome (last_of l) (λ e. Continues e.answer → (f : Course) (made : List Ask) (bytes : List ℕ) → Awaits serves v.stage e.ask f (rest_of old) (here made bytes v)
    → Awaits serves u.stage q (with_answer e.answer f) (rest_of new) (here (made ++ e.ask ∷ []) bytes u))) a h)

-- without memory
pub fails_so : (r : Result NextAsk NoMemory) (P : NoMemory → Type 0) (old new : Progress) → IsErrAnd r P → (old.ended ≡ false) × (is_leaving old ≡ false) × (new ≡ old) → Advances r old new
fails_so r P old new failed h = let p = err_from_is_err_and r failed in subst (λ x. Advances x old new) (sym p.1) h

-- one that runs its script isn't to leave
pub not_leaving : (quit : Option ℕ) (mine : List Exchange) → quit ≡ None → AllContinue (answers mine) → (is_some quit || is_short mine) ≡ false
not_leaving quit mine e all = ap (λ k. is_some k || is_short mine) e ∙ none_short mine all

-- the last answer of one that went on let it go on
last_continues : (before : List Exchange) (last : Exchange) → AllContinue (answers (before ++ last ∷ [])) → Continues last.answer
last_continues [] last h = h.0
last_continues (x ∷ before) last h = last_continues before last h.1

module _ {B : Type 0} (serves : B → EditionNo → Book) where
  -- one that runs its script isn't to leave
  pub goes_on_here : (s : Parts B) → IsAnswered serves s → (is_some s.quit || is_short s.transcript.exchanges) ≡ false
  goes_on_here s h = not_leaving s.quit s.transcript.exchanges h.no_quit h.went_on

  pub failed_goes : (s : Parts B) → HasFailed s → (is_some s.quit || is_short s.transcript.exchanges) ≡ false
  failed_goes s h = not_leaving s.quit s.transcript.exchanges h.no_quit h.went_on

  pub waits_goes : (q : Ask) (s : Parts B) → Waits serves q s → (is_some s.quit || is_short s.transcript.exchanges) ≡ false
  waits_goes q s h = not_leaving s.quit s.transcript.exchanges h.no_quit h.went_on

  pub answered_here : (p : Phase) (out : Option Ask) (s : Parts B) → p ≡ phase.Working → out ≡ None → Holds serves p out s → IsAnswered serves s
  answered_here p out s e k h = subst (λ o. Holds serves phase.Working o s) k (subst (λ q. Holds serves q out s) e h)

  module _ (s : Parts B) (h : IsAnswered serves s) where
    abbrev mine : List Exchange
    mine = s.transcript.exchanges

    abbrev text : List ℕ
    text = s.script.script

    pub suits_last : IfSome (last_of mine) (λ e. Suits serves e.answer s.book)
    suits_last = by_case h.by
      where
        by_case : First s ⊎ Answered serves s → IfSome (last_of mine) (λ e. Suits serves e.answer s.book)
        by_case (inl f) = subst (λ (l : List Exchange). IfSome (last_of l) (λ e. Suits serves e.answer s.book)) (sym f.none) tt
        by_case (inr a) = subst (λ o. IfSome o (λ e. Suits serves e.answer s.book)) (sym (ap last_of a.is ∙ last_more a.before a.last)) a.suits

    pub ready_here : IsReady s.work.stage
    ready_here = by_case h.by
      where
        by_case : First s ⊎ Answered serves s → IsReady s.work.stage
        by_case (inl f) = f.ready
        by_case (inr a) = awaits_ready serves s.work.stage a.last.ask (course_behind text a.before) (rest_of s.script) (spot a.before s) a.awaits

    -- It found no memory: what counts is as it was.
    pub failed_moved : (script : Reading) (transcript : Kept) (printed : List ℕ) (work : Work B) (book : Option B) → script.script ≡ text → transcript.exchanges ≡ mine → printed ≡ s.printed → (HasRoom 1 s.transcript → HasRoom 1 transcript)
        → HasFailed (record { session = s.session; script = script; transcript = transcript; printed = printed; quit = s.quit; work = work; book = book })
    failed_moved script transcript printed work book a b c room = record {
      next = subst (λ t. WillAsk (course_behind t transcript.exchanges) (asks transcript.exchanges) printed) (sym a)
          (subst (λ (l : List Exchange). WillAsk (course_behind text l) (asks l) printed) (sym b) (subst (λ y. WillAsk (course_behind text mine) (asks mine) y) (sym c) h.next));
      still = subst (λ t. printed ≡ printed_before t (answers transcript.exchanges) (length transcript.exchanges)) (sym a)
          (subst (λ (l : List Exchange). printed ≡ printed_before text (answers l) (length l)) (sym b) (c ∙ h.still));
      went_on = subst (λ (l : List Exchange). AllContinue (answers l)) (sym b) h.went_on;
      no_quit = h.no_quit;
      room = room h.room;
    }

    module _ (script : Reading) (transcript : Kept) (printed : List ℕ) (work : Work B) (book : Option B) (q : Ask) (a : script.script ≡ text) (b : transcript.exchanges ≡ mine) (room : HasRoom 2 transcript) (grown : printed ≡ s.printed ++ work.fresh)
        (first : mine ≡ [] → (f : Course) (bytes : List ℕ) → GoesOn f (rest_of s.script) (place [] bytes s.work.packages s.work.room) → Awaits serves work.stage q f (rest_of script) (here [] bytes work))
        (goes : IfSome (last_of mine) (λ e. Continues e.answer → (f : Course) (made : List Ask) (bytes : List ℕ) → Awaits serves s.work.stage e.ask f (rest_of s.script) (place made bytes s.work.packages s.work.room)
        → Awaits serves work.stage q (with_answer e.answer f) (rest_of script) (here (made ++ e.ask ∷ []) bytes work))) where
      abbrev now : Parts B
      now = record { session = s.session; script = script; transcript = transcript; printed = printed; quit = s.quit; work = work; book = book }

      abbrev AwaitsAt : List ℕ → List Exchange → List ℕ → Type 0
      AwaitsAt t l y = Awaits serves work.stage q (course_behind t l) (rest_of script) (place (asks l) y work.packages work.room)

      asked_first : First s → AwaitsAt text mine (s.printed ++ work.fresh)
      asked_first f = subst (λ (l : List Exchange). AwaitsAt text l (s.printed ++ work.fresh)) (sym f.none) (first f.none (course_behind text []) s.printed f.goes)

      asked_behind : Answered serves s → AwaitsAt text mine (s.printed ++ work.fresh)
      asked_behind d =
          let e = ap last_of d.is ∙ last_more d.before d.last in
          let c = last_continues d.before d.last (subst (λ (l : List Exchange). AllContinue (answers l)) d.is h.went_on) in
          let g = subst (λ o. IfSome o (λ e. Continues e.answer → (f : Course) (made : List Ask) (bytes : List ℕ) → Awaits serves s.work.stage e.ask f (rest_of s.script) (place made bytes s.work.packages s.work.room)
          → Awaits serves work.stage q (with_answer e.answer f) (rest_of script) (here (made ++ e.ask ∷ []) bytes work))) e goes in
          subst (λ (l : List Exchange). AwaitsAt text l (s.printed ++ work.fresh)) (sym d.is)
          (subst (λ (f : Course). Awaits serves work.stage q f (rest_of script) (place (asks (d.before ++ d.last ∷ [])) (s.printed ++ work.fresh) work.packages work.room)) (sym (same_course text d.before d.last))
          (subst (λ (made : List Ask). Awaits serves work.stage q (with_answer d.last.answer (course_behind text d.before)) (rest_of script) (place made (s.printed ++ work.fresh) work.packages work.room)) (sym (asks_more d.before d.last))
          (g c (course_behind text d.before) (asks d.before) s.printed d.awaits)))

      asked_now : First s ⊎ Answered serves s → AwaitsAt text mine (s.printed ++ work.fresh)
      asked_now (inl f) = asked_first f
      asked_now (inr d) = asked_behind d

      -- Its next ask is out.
      pub waits_now : Waits serves q now
      waits_now = record {
        awaits = subst (λ t. AwaitsAt t transcript.exchanges printed) (sym a) (subst (λ (l : List Exchange). AwaitsAt text l printed) (sym b) (subst (λ y. AwaitsAt text mine y) (sym grown) (asked_now h.by)));
        least = subst (λ t. IsPrefix (printed_before t (answers transcript.exchanges) (length transcript.exchanges)) printed) (sym a)
            (subst (λ (l : List Exchange). IsPrefix (printed_before text (answers l) (length l)) printed) (sym b) (record { rest = work.fresh; whole = grown ∙ ap (λ y. y ++ work.fresh) h.still }));
        went_on = subst (λ (l : List Exchange). AllContinue (answers l)) (sym b) h.went_on;
        no_quit = h.no_quit;
        room = room;
      }

      pub makes_ask : (out : Option Ask) → out ≡ Some q → MakesAsk q (progress phase.Working None s) (progress phase.Working out now)
      makes_ask out o = record {
        goes_on = refl;
        is = λ i. record { session = s.session; script = a i; transcript = b i; printed = printed; quit = s.quit; out = o i; ended = false };
        more = record { rest = work.fresh; whole = grown };
        leaves = λ e. absurd (true≢false (sym e ∙ not_leaving s.quit mine h.no_quit h.went_on));
        fit = awaits_fit serves work.stage q (course_behind script.script transcript.exchanges) (rest_of script) (spot transcript.exchanges now) waits_now.awaits;
      }

  -- It waits, and asks again, unless there is no memory for it.
  module _ (p : Phase) (out : Option Ask) (s : Parts B) (q : Ask) (e : p ≡ phase.Working) (k : out ≡ Some q) (h : Holds serves p out s) where
    waits_here : Waits serves q s
    waits_here = subst (λ o. Holds serves phase.Working o s) k (subst (λ d. Holds serves d out s) e h)

    pub asks_again : MakesAsk q (progress p out s) (progress p out s)
    asks_again = record {
      goes_on = ap is_over e;
      is = λ i. record { session = s.session; script = s.script.script; transcript = s.transcript.exchanges; printed = s.printed; quit = s.quit; out = (ap (λ d. out_of d out) e ∙ k) i; ended = is_over p };
      more = prefix_same s.printed s.printed refl;
      leaves = λ l. absurd (true≢false (sym l ∙ waits_goes q s waits_here));
      fit = awaits_fit serves s.work.stage q (course_behind s.script.script s.transcript.exchanges) (rest_of s.script) (spot s.transcript.exchanges s) waits_here.awaits;
    }

    pub again_fails : (is_over p ≡ false) × ((is_some s.quit || is_short s.transcript.exchanges) ≡ false) × (progress p out s ≡ progress p out s)
    again_fails = (ap is_over e, waits_goes q s waits_here, refl)

  -- It found no memory.
  pub next_fails : (p : Phase) (out : Option Ask) (s new : Parts B) → p ≡ phase.Working → out ≡ None → Holds serves p out s → new.session ≡ s.session → new.script.script ≡ s.script.script → new.transcript.exchanges ≡ s.transcript.exchanges → new.printed ≡ s.printed
      → new.quit ≡ s.quit → (is_over p ≡ false) × ((is_some s.quit || is_short s.transcript.exchanges) ≡ false) × (progress phase.Failed out new ≡ progress p out s)
  next_fails p out s new e k h session script mine printed quit = (
    ap is_over e,
    goes_on_here s (answered_here p out s e k h),
    λ i. record { session = session i; script = script i; transcript = mine i; printed = printed i; quit = quit i; out = sym (ap (λ d. out_of d out) e ∙ k) i; ended = sym (ap is_over e) i },
  )

  pub still_fails : (p : Phase) (out : Option Ask) (s : Parts B) → p ≡ phase.Failed → Holds serves p out s → (is_over p ≡ false) × ((is_some s.quit || is_short s.transcript.exchanges) ≡ false) × (progress p out s ≡ progress p out s)
  still_fails p out s e h = (ap is_over e, failed_goes s (subst (λ d. Holds serves d out s) e h), refl)

  -- It leaves.
  module _ (p : Phase) (out place : Option Ask) (s : Parts B) (by : (p ≡ phase.Leaving) ⊎ (p ≡ phase.Quitting)) (k : place ≡ Some ask.Leave) (h : Holds serves p out s) where
    pub left_holds : Holds serves p place s
    left_holds = subst (λ o. Holds serves p o s) (sym k) (⊎_elim
        (λ e. subst (λ d. Holds serves d (Some ask.Leave) s) (sym e) (leaves_out s out (subst (λ d. Holds serves d out s) e h)))
        (λ e. subst (λ d. Holds serves d (Some ask.Leave) s) (sym e) (leaves_quit s out (subst (λ d. Holds serves d out s) e h))) by)

    pub follows_left : Follows (progress p place s)
    follows_left = follows serves p place s left_holds

    not_over : is_over p ≡ false
    not_over = ⊎_elim (λ e. ap is_over e) (λ e. ap is_over e) by

    goes_out : (q : Ask) → out_of p (Some q) ≡ Some q
    goes_out q = ⊎_elim (λ e. ap (λ d. out_of d (Some q)) e) (λ e. ap (λ d. out_of d (Some q)) e) by

    pub asks_leave : MakesAsk ask.Leave (progress p out s) (progress p place s)
    asks_leave = record {
      goes_on = not_over;
      is = λ i. record { session = s.session; script = s.script.script; transcript = s.transcript.exchanges; printed = s.printed; quit = s.quit; out = (ap (out_of p) k ∙ goes_out ask.Leave) i; ended = is_over p };
      more = prefix_same s.printed s.printed refl;
      leaves = λ e. (refl, refl);
      fit = tt;
    }
