-- A session's asks, what it printed and its transcript are those of its run.
use Rattle.std.proofs.Common.{ℕ, zero, suc, ◌≡◌, ◌≤◌, Bool, true, false, List, [], ◌∷◌, ◌++◌, length, take, Option, Some, None, IfSome, refl, sym, ◌∙◌, ap, subst, arith, true≢false, inl, inr}
use Rattle.std.specs.Prelude.{◌||◌}
use Rattle.std.proofs.Math.Seq.{take-append_seam}
use Rattle.ebr_base.specs.declared.numbers.EditionNo.{EditionNo}
use Rattle.ebr_base.specs.declared.numbers.SessionId.{SessionId}
use Rattle.ebr_script.specs.Pieces.{pieces_of}
use Rattle.ebr_asks.specs.declared.ask.Ask.{Ask}
use Rattle.ebr_asks.specs.declared.ask.Ask.TheVariants as ask
use Rattle.ebr_asks.specs.declared.answer.Answer.{Answer}
use Rattle.ebr_asks.specs.declared.answer.Answer.TheVariants as answer
use Rattle.ebr_asks.specs.declared.entry.Exchange.{Exchange}
use Rattle.ebr_code.specs.Books.{Book}
use Rattle.ebr_calls.specs.Steps.{Out, Ended, Outcome, ended, leaving}
use Rattle.ebr_calls.specs.Continuation.{AllContinue, Continues}
use Rattle.ebr_calls.specs.Courses.{Asks, AsksNext, Course, GoesOn, Place, place, state_at, with_answer, with_ask}
use Rattle.ebr_calls.proofs.Going.{goes_short, leaves_next}
use Rattle.ebr_session.specs.declared.session.Phase.{Phase}
use Rattle.ebr_session.specs.declared.session.Phase.TheVariants as phase
use Rattle.ebr_session.specs.Has.{Made, Follows, GoesBehind, HasAsked, HasPrinted, Suits, is_short, wants}
use Rattle.ebr_session.specs.Transcripts.{IsPrefix, answers, asks, ends, exchange, printed_before, stops}
use Rattle.ebr_session.specs.declared.work.Stage.TheVariants as stage
use Rattle.ebr_session.specs.declared.work.Work.{Work}
use Rattle.ebr_session.specs.Sessions.{Printed, SessionRun, most_room, run_pieces}
use Rattle.ebr_session.specs.inside.Kept.{HasRoom, Kept}
use Rattle.ebr_session.specs.inside.Requests.{Reading, Stays, rest_of}
use Rattle.ebr_session.specs.inside.Holds.{HasFailed, HasQuit, Holds, IsAnswered, IsLeaving, Parts, Waits, WillAsk, before_last, course_behind, progress, spot}
use Rattle.ebr_session.proofs.Exchanges.{answers_more, as_many, asks_more, length_more, run_left, run_more, run_quit, run_unquit, same_course, went_on_more}
use Rattle.ebr_session.proofs.Asking.{awaits_asks, awaits_leave, awaits_next, next_pieces, prefix_same, will_answered, will_ask}

-- ---- runs

-- an ask that is out, to which no answer comes
out_now : (f : Course) (q : Ask) (p : Place) → AsksNext f q p → f [] None ≡ ended (state_at (record p { asks = p.asks ++ q ∷ [] }) [] None) Out
out_now f q p h = h.out

-- it quits
left_now : (f : Course) (q : Ask) (p : Place) → AsksNext f q p → (coming : List Answer) → f coming (Some zero) ≡ leaving (state_at p coming (Some zero))
left_now f q p h coming = h.left coming

-- an answer that ends it
ended_now : (f : Course) (q : Ask) (x : Answer) (p : Place) → Asks f q p → stops x ≡ true → f (x ∷ []) None ≡ ended (state_at (record p { asks = p.asks ++ q ∷ [] }) [] None) Ended
ended_now f q answer.DiskFault p h e = h.by (answer.DiskFault ∷ []) None
ended_now f q answer.Stopped p h e = h.by (answer.Stopped ∷ []) None
ended_now f q answer.NoMemory p h e = absurd (true≢false (sym e))
ended_now f q (answer.View v) p h e = absurd (true≢false (sym e))
ended_now f q (answer.Rows rows) p h e = absurd (true≢false (sym e))
ended_now f q (answer.Count n m l) p h e = absurd (true≢false (sym e))
ended_now f q answer.Done p h e = absurd (true≢false (sym e))
ended_now f q answer.Invalid p h e = absurd (true≢false (sym e))
ended_now f q (answer.Refused c m l) p h e = absurd (true≢false (sym e))

-- none of these answers was that there is no memory
pub none_short : (mine : List Exchange) → AllContinue (answers mine) → is_short mine ≡ false
none_short [] h = refl
none_short (e ∷ mine) h = ap (λ b. b || is_short mine) (goes e.answer h.0) ∙ none_short mine h.1
  where
    goes : (x : Answer) → Continues x → wants x ≡ false
    goes answer.DiskFault c = absurd c
    goes answer.NoMemory c = absurd c
    goes answer.Stopped c = absurd c
    goes x c = refl

-- the last one was
pub last_short : (mine before : List Exchange) (q : Ask) → mine ≡ before ++ exchange q answer.NoMemory ∷ [] → is_short mine ≡ true
last_short mine before q e = ap is_short e ∙ last before
  where
    last : (before : List Exchange) → is_short (before ++ exchange q answer.NoMemory ∷ []) ≡ true
    last [] = refl
    last (x ∷ before) = either (wants x.answer) (is_short (before ++ exchange q answer.NoMemory ∷ [])) (last before)
      where
        either : (a b : Bool) → b ≡ true → (a || b) ≡ true
        either true b e = refl
        either false b e = e

pub stays_of : (q : Ask) (x : Answer) → ends q x ≡ false → Stays q × (stops x ≡ false)
stays_of ask.Leave x e = absurd (true≢false e)
stays_of q x e = (tt, e)

-- ---- what was printed for the answers before

-- behind one answer more that is what is printed for those that there were
pub before_more : (script : List ℕ) (mine : List Exchange) (e : Exchange) → printed_before script (answers (mine ++ e ∷ [])) (length (mine ++ e ∷ [])) ≡ Printed script (answers mine)
before_more script mine e =
    ap (λ l. printed_before script l (length (mine ++ e ∷ []))) (answers_more mine e)
    ∙ ap (printed_before script (answers mine ++ e.answer ∷ [])) (length_more mine e)
    ∙ ap (λ n. Printed script (take n (answers mine ++ e.answer ∷ []))) (sym (as_many mine))
    ∙ ap (Printed script) (take-append_seam (answers mine) (e.answer ∷ []))

-- what was printed before counts the answers before it alone
before_same : (script : List ℕ) (mine : List Exchange) (e : Exchange) (n : ℕ) → n ≤ length mine → printed_before script (answers (mine ++ e ∷ [])) n ≡ printed_before script (answers mine) n
before_same script mine e zero h = refl
before_same script mine e (suc n) h = ap (Printed script) (ap (take n) (answers_more mine e) ∙ take_before n (answers mine) (e.answer ∷ []) (let l = as_many mine in omega (arith, l, h)))
  where
    take_before : (n : ℕ) (xs ys : List Answer) → n ≤ length xs → take n (xs ++ ys) ≡ take n xs
    take_before zero xs ys h = refl
    take_before (suc n) [] ys h = absurd (omega (arith, h))
    take_before (suc n) (x ∷ xs) ys h = ap (λ l. x ∷ l) (take_before n xs ys (omega (arith, h)))

all_of : (mine : List Exchange) → take (length mine) (answers mine) ≡ answers mine
all_of [] = refl
all_of (e ∷ mine) = ap (λ l. e.answer ∷ l) (all_of mine)

first_of : (mine : List Exchange) (e : Exchange) → take (length mine) (answers (mine ++ e ∷ [])) ≡ answers mine
first_of mine e = ap (take (length mine)) (answers_more mine e) ∙ ap (λ n. take n (answers mine ++ e.answer ∷ [])) (sym (as_many mine)) ∙ take-append_seam (answers mine) (e.answer ∷ [])

-- ---- by phase

module _ {B : Type 0} (serves : B → EditionNo → Book) (s : Parts B) where
  abbrev mine : List Exchange
  mine = s.transcript.exchanges

  abbrev script : List ℕ
  script = s.script.script

  abbrev run : Option ℕ → Outcome
  run quit = SessionRun script (answers mine) quit

  -- what the run prints before its next ask
  printed_next : (w : WillAsk (course_behind script mine) (asks mine) s.printed) → (run None).state.printed ≡ w.at.printed
  printed_next w = ap (λ (o : Outcome). o.state.printed) (run_unquit script mine ∙ out_now (course_behind script mine) w.ask w.at w.will)

  pub printed_part : WillAsk (course_behind script mine) (asks mine) s.printed → IsPrefix s.printed (run None).state.printed
  printed_part w = record { rest = w.more.rest; whole = printed_next w ∙ w.more.whole }

  -- ---- it waits

  module _ (q : Ask) (h : Waits serves q s) where
    abbrev will : AsksNext (course_behind script mine) q (spot mine s)
    will = awaits_next serves s.work.stage q (course_behind script mine) (rest_of s.script) (spot mine s) h.awaits

    out_run : run None ≡ ended (state_at (place (asks mine ++ q ∷ []) s.printed s.work.packages s.work.room) [] None) Out
    out_run = run_unquit script mine ∙ out_now (course_behind script mine) q (spot mine s) will

    pub follows_waits : Follows (progress phase.Working (Some q) s)
    follows_waits = subst (λ k. Follows (record (progress phase.Working (Some q) s) { quit = k })) (sym h.no_quit) (record {
      asked = record { flow_is = ap (λ (o : Outcome). o.flow) out_run; asks_are = ap (λ (o : Outcome). o.state.asks) out_run };
      printed = sym (ap (λ (o : Outcome). o.state.printed) out_run);
      went_on = (inl h.went_on, tt);
    })

    pub next_waits : WillAsk (course_behind script mine) (asks mine) s.printed
    next_waits = will_ask (course_behind script mine) q (spot mine s) will

  -- ---- it goes on

  asked_next : (w : WillAsk (course_behind script mine) (asks mine) s.printed) → (q : Ask) × Made Out (asks mine ++ q ∷ []) (record { session = s.session; script = script; transcript = mine; printed = s.printed; quit = None; out = None; ended = false })
  asked_next w =
      let r = run_unquit script mine ∙ out_now (course_behind script mine) w.ask w.at w.will in
      (w.ask, record { flow_is = ap (λ (o : Outcome). o.flow) r; asks_are = ap (λ (o : Outcome). o.state.asks) r ∙ ap (λ l. l ++ w.ask ∷ []) w.asks_are })

  follows_so : (w : WillAsk (course_behind script mine) (asks mine) s.printed) → s.printed ≡ before_last s → AllContinue (answers mine) → s.quit ≡ None
      → Follows (record { session = s.session; script = script; transcript = mine; printed = s.printed; quit = s.quit; out = None; ended = false })
  follows_so w still went none = subst (λ k. Follows (record { session = s.session; script = script; transcript = mine; printed = s.printed; quit = k; out = None; ended = false })) (sym none) (record {
    asked = asked_next w;
    printed = (still, printed_part w);
    went_on = (inl went, tt);
  })

  pub follows_answered : IsAnswered serves s → Follows (progress phase.Working None s)
  follows_answered h = follows_so h.next h.still h.went_on h.no_quit

  pub follows_failed : (out : Option Ask) → HasFailed s → Follows (progress phase.Failed out s)
  follows_failed out h = follows_so h.next h.still h.went_on h.no_quit

  -- ---- it is to leave

  module _ (out : Option Ask) (h : IsLeaving out s) where
    leaves_run : run None ≡ leaving (state_at h.at [] None)
    leaves_run = run_unquit script mine ∙ h.goes.by [] None

    leaving_printed : s.printed ≡ (run None).state.printed
    leaving_printed = sym h.printed_is ∙ sym (ap (λ (o : Outcome). o.state.printed) leaves_run)

    leaving_asks : (run None).state.asks ≡ asks mine ++ ask.Leave ∷ []
    leaving_asks = ap (λ (o : Outcome). o.state.asks) leaves_run ∙ ap (λ l. l ++ ask.Leave ∷ []) h.asks_are

    -- it asks Leave next
    pub leaves_on : WillAsk (course_behind script mine) (asks mine) s.printed
    leaves_on = record { ask = ask.Leave; at = h.at; asks_are = h.asks_are; more = prefix_same s.printed h.at.printed h.printed_is; will = leaves_next (course_behind script mine) h.at h.goes }

    asked_leaving : (o : Option Ask) → IfSome o (λ q. q ≡ ask.Leave) → HasAsked false o (record (progress phase.Leaving o s) { quit = None })
    asked_leaving None l = (ask.Leave, record { flow_is = ap (λ (o : Outcome). o.flow) leaves_run; asks_are = leaving_asks })
    asked_leaving (Some q) l = record { flow_is = ap (λ (o : Outcome). o.flow) leaves_run; asks_are = leaving_asks ∙ ap (λ a. asks mine ++ a ∷ []) (sym l) }

    printed_leaving : (o : Option Ask) → HasPrinted None false o (record (progress phase.Leaving o s) { quit = None })
    printed_leaving None = (h.still, prefix_same s.printed (run None).state.printed (sym leaving_printed))
    printed_leaving (Some q) = leaving_printed

    pub follows_leaving : Follows (progress phase.Leaving out s)
    follows_leaving = subst (λ k. Follows (record (progress phase.Leaving out s) { quit = k })) (sym h.no_quit) (record {
      asked = asked_leaving out h.leave;
      printed = printed_leaving out;
      went_on = (inr h.short, tt);
    })

  -- ---- it has quit

  module _ (out : Option Ask) (h : HasQuit out s) where
    left_run : run (Some (length mine)) ≡ leaving (state_at h.next.at [] (Some zero))
    left_run = run_quit script mine ∙ left_now (course_behind script mine) h.next.ask h.next.at h.next.will []

    whole : IsPrefix s.printed (run (Some (length mine))).state.printed
    whole = record { rest = h.next.more.rest; whole = ap (λ (o : Outcome). o.state.printed) left_run ∙ h.next.more.whole }

    all_printed : (run (Some (length mine))).state.printed ≡ Printed script (take (length mine) (answers mine))
    all_printed = ap (λ (o : Outcome). o.state.printed) left_run ∙ sym (printed_next h.next) ∙ ap (Printed script) (sym (all_of mine))

    asks_left : (run (Some (length mine))).state.asks ≡ asks mine ++ ask.Leave ∷ []
    asks_left = ap (λ (o : Outcome). o.state.asks) left_run ∙ ap (λ l. l ++ ask.Leave ∷ []) h.next.asks_are

    asked_quit : (o : Option Ask) → IfSome o (λ q. q ≡ ask.Leave) → HasAsked false o (record (progress phase.Quitting o s) { quit = Some (length mine) })
    asked_quit None l = (ask.Leave, record { flow_is = ap (λ (o : Outcome). o.flow) left_run; asks_are = asks_left })
    asked_quit (Some q) l = record { flow_is = ap (λ (o : Outcome). o.flow) left_run; asks_are = asks_left ∙ ap (λ a. asks mine ++ a ∷ []) (sym l) }

    pub follows_quit : Follows (progress phase.Quitting out s)
    follows_quit = subst (λ k. Follows (record (progress phase.Quitting out s) { quit = k })) (sym h.quit_is) (record {
      asked = asked_quit out h.leave;
      printed = (h.least, whole, all_printed);
      went_on = (h.went_on, refl);
    })

-- Whatever its phase is, it follows its run.
pub follows : {B : Type 0} (serves : B → EditionNo → Book) (p : Phase) (out : Option Ask) (s : Parts B) → Holds serves p out s → Follows (progress p out s)
follows serves phase.Working (Some q) s h = follows_waits serves s q h
follows serves phase.Working None s h = follows_answered serves s h
follows serves phase.Failed out s h = follows_failed serves s out h
follows serves phase.Leaving out s h = follows_leaving serves s out h
follows serves phase.Quitting out s h = follows_quit serves s out h
follows serves phase.Over out s h = h

-- ---- an answer is taken

-- what a session keeps where it has taken an answer
abbrev pub with_exchange : {B : Type 0} → Exchange → Option B → Kept → Parts B → Parts B
with_exchange e book transcript s = record s { transcript = transcript; book = book }

module _ {B : Type 0} (serves : B → EditionNo → Book) (s : Parts B) (transcript : Kept) (book : Option B) (q : Ask) (x : Answer) (more : transcript.exchanges ≡ s.transcript.exchanges ++ exchange q x ∷ []) where
  abbrev old : List Exchange
  old = s.transcript.exchanges

  abbrev text : List ℕ
  text = s.script.script

  abbrev now : Parts B
  now = record s { transcript = transcript; book = book }

  printed_here_of : Waits serves q s → s.printed ≡ printed_before text (answers (old ++ exchange q x ∷ [])) (length (old ++ exchange q x ∷ []))
  printed_here_of h = sym (before_more text old (exchange q x) ∙ ap (λ (o : Outcome). o.state.printed) (out_run serves s q h))

  -- It goes on.
  module _ (h : Waits serves q s) (room : HasRoom 1 transcript) (suits : Suits serves x book) (stays : Stays q) (goes : Continues x) where
    next_taken : WillAsk (course_behind text (old ++ exchange q x ∷ [])) (asks (old ++ exchange q x ∷ [])) s.printed
    next_taken = subst (λ (f : Course). WillAsk f (asks (old ++ exchange q x ∷ [])) s.printed) (sym (same_course text old (exchange q x)))
        (subst (λ (made : List Ask). WillAsk (with_answer x (course_behind text old)) made s.printed) (sym (asks_more old (exchange q x)))
        (will_answered serves s.work.stage q x book (course_behind text old) (rest_of s.script) (spot old s) (next_pieces text s.script.left) stays goes suits h.awaits))

    pub goes_on : IsAnswered serves now
    goes_on = record {
      by = inr (record { before = old; last = exchange q x; is = more; suits = suits; awaits = h.awaits });
      next = subst (λ (l : List Exchange). WillAsk (course_behind text l) (asks l) s.printed) (sym more) next_taken;
      still = subst (λ (l : List Exchange). s.printed ≡ printed_before text (answers l) (length l)) (sym more) (printed_here_of h);
      went_on = subst (λ (l : List Exchange). AllContinue (answers l)) (sym more) (went_on_more old (exchange q x) h.went_on goes);
      no_quit = h.no_quit;
      room = room;
    }

  -- It has ended.
  ended_as : (k : Option ℕ) → s.quit ≡ k → (o : Outcome) → SessionRun text (answers (old ++ exchange q x ∷ [])) k ≡ o → o.flow ≡ Ended → o.state.asks ≡ asks old ++ q ∷ []
      → HasPrinted k true None (record { session = s.session; script = text; transcript = old ++ exchange q x ∷ []; printed = s.printed; quit = k; out = None; ended = true })
      → GoesBehind old → (is_short old ≡ true → q ≡ ask.Leave) → ends q x ≡ true → IfSome k (λ n. (n ≡ length old) × (q ≡ ask.Leave)) → Follows (progress phase.Over None now)
  ended_as k quit_is o run_is flow made printed went short over quits =
      subst (λ (l : List Exchange). Follows (record { session = s.session; script = text; transcript = l; printed = s.printed; quit = s.quit; out = None; ended = true })) (sym more)
      (subst (λ (j : Option ℕ). Follows (record { session = s.session; script = text; transcript = old ++ exchange q x ∷ []; printed = s.printed; quit = j; out = None; ended = true })) (sym quit_is)
      (record {
        asked = record { flow_is = ap (λ (r : Outcome). r.flow) run_is ∙ flow; asks_are = ap (λ (r : Outcome). r.state.asks) run_is ∙ (made ∙ sym (asks_more old (exchange q x))) };
        printed = printed;
        went_on = (exchange q x, record { before = old; is = refl; went_on = went; short = short; ends = over; quit = quits });
      }))

  -- where it waited
  ended_run : (h : Waits serves q s) → (o : Outcome) → course_behind text old (x ∷ []) None ≡ o → o.flow ≡ Ended → o.state.asks ≡ asks old ++ q ∷ [] → o.state.printed ≡ s.printed → ends q x ≡ true → Follows (progress phase.Over None now)
  ended_run h o is flow made printed over =
      let r = run_more text old (exchange q x) ∙ is in
      ended_as None h.no_quit o r flow made (sym (ap (λ (r : Outcome). r.state.printed) r ∙ printed)) (inl h.went_on) (λ e. absurd (true≢false (sym e ∙ none_short old h.went_on))) over tt

  stopped : (h : Waits serves q s) → Stays q → stops x ≡ true → ends q x ≡ true → Follows (progress phase.Over None now)
  stopped h st e over = ended_run h _ (ended_now (course_behind text old) q x (spot old s) (awaits_asks serves s.work.stage q (course_behind text old) (rest_of s.script) (spot old s) st h.awaits) e) refl refl refl over

  -- It was to leave.
  pub ends_leaving : IsLeaving (Some q) s → Follows (progress phase.Over None now)
  ends_leaving h =
      let r = run_more text old (exchange q x) ∙ h.goes.by (x ∷ []) None in
      let made : h.at.asks ++ ask.Leave ∷ [] ≡ asks old ++ q ∷ [] = ap (λ l. l ++ ask.Leave ∷ []) h.asks_are ∙ ap (λ a. asks old ++ a ∷ []) (sym h.leave) in
      ended_as None h.no_quit _ r refl made (sym (ap (λ (o : Outcome). o.state.printed) r ∙ h.printed_is)) (inr h.short) (λ e. h.leave) (subst (λ (a : Ask). ends a x ≡ true) (sym h.leave) refl) tt

  -- It is to leave from now on.
  pub leaves_waits : Waits serves q s → HasRoom 1 transcript → Stays q → x ≡ answer.NoMemory → IsLeaving None now
  leaves_waits h room st is =
      let asked = awaits_asks serves s.work.stage q (course_behind text old) (rest_of s.script) (spot old s) st h.awaits in
      let goes : GoesOn (with_answer x (course_behind text old)) leaving (with_ask q (spot old s)) = subst (λ a. GoesOn (with_answer a (course_behind text old)) leaving (with_ask q (spot old s))) (sym is) (goes_short (course_behind text old) q (spot old s) asked) in
      record {
        at = with_ask q (spot old s);
        goes = subst (λ (l : List Exchange). GoesOn (course_behind text l) leaving (with_ask q (spot old s))) (sym more)
            (subst (λ (f : Course). GoesOn f leaving (with_ask q (spot old s))) (sym (same_course text old (exchange q x))) goes);
        asks_are = sym (ap asks more ∙ asks_more old (exchange q x));
        printed_is = refl;
        still = subst (λ (l : List Exchange). s.printed ≡ printed_before text (answers l) (length l)) (sym more) (printed_here_of h);
        short = record { before = old; ask = q; is = more ∙ ap (λ a. old ++ exchange q a ∷ []) is; went_on = h.went_on };
        no_quit = h.no_quit;
        leave = tt;
        room = room;
      }

pub ends_waits : {B : Type 0} (serves : B → EditionNo → Book) (s : Parts B) (transcript : Kept) (book : Option B) (q : Ask) (x : Answer) → transcript.exchanges ≡ s.transcript.exchanges ++ exchange q x ∷ [] → Waits serves q s → ends q x ≡ true
    → Follows (progress phase.Over None (record s { transcript = transcript; book = book }))
ends_waits serves s transcript book ask.Leave x more h e =
    let g = awaits_leave serves s.work.stage (course_behind s.script.script s.transcript.exchanges) (rest_of s.script) (spot s.transcript.exchanges s) h.awaits in
    ended_run serves s transcript book ask.Leave x more h _ (g.by (x ∷ []) None) refl refl refl e
ends_waits serves s transcript book q x more h e = stopped serves s transcript book q x more h tt e e

-- where it had quit
pub ends_quit : {B : Type 0} (serves : B → EditionNo → Book) (s : Parts B) (transcript : Kept) (book : Option B) (q : Ask) (x : Answer) → transcript.exchanges ≡ s.transcript.exchanges ++ exchange q x ∷ [] → HasQuit (Some q) s
    → Follows (progress phase.Over None (record s { transcript = transcript; book = book }))
ends_quit serves s transcript book q x more h =
    let mine = s.transcript.exchanges in
    let text = s.script.script in
    let r = run_left text mine (exchange q x) ∙ left_now (course_behind text mine) h.next.ask h.next.at h.next.will (x ∷ []) in
    let made : h.next.at.asks ++ ask.Leave ∷ [] ≡ asks mine ++ q ∷ [] = ap (λ l. l ++ ask.Leave ∷ []) h.next.asks_are ∙ ap (λ a. asks mine ++ a ∷ []) (sym h.leave) in
    let small : length mine ≤ length mine = omega arith in
    ended_as serves s transcript book q x more (Some (length mine)) h.quit_is _ r refl made (
      subst (λ l. IsPrefix l s.printed) (sym (before_same text mine (exchange q x) (length mine) small)) h.least,
      record { rest = h.next.more.rest; whole = ap (λ (o : Outcome). o.state.printed) r ∙ h.next.more.whole },
      ap (λ (o : Outcome). o.state.printed) r ∙ sym (printed_next serves s h.next) ∙ ap (Printed text) (sym (first_of mine (exchange q x))),
    )
    h.went_on (λ e. h.leave) (subst (λ (a : Ask). ends a x ≡ true) (sym h.leave) refl) (refl, h.leave)

-- ---- it quits

pub quits_waits : {B : Type 0} (serves : B → EditionNo → Book) (s : Parts B) (q : Ask) → Waits serves q s → HasRoom 1 s.transcript → HasQuit None (record s { quit = Some (length s.transcript.exchanges) })
quits_waits serves s q h room = record { next = next_waits serves s q h; least = h.least; went_on = inl h.went_on; quit_is = refl; leave = tt; room = room }

pub quits_failed : {B : Type 0} (s : Parts B) → HasFailed s → HasQuit None (record s { quit = Some (length s.transcript.exchanges) })
quits_failed s h = record { next = h.next; least = prefix_same _ _ h.still; went_on = inl h.went_on; quit_is = refl; leave = tt; room = h.room }

pub quits_leaving : {B : Type 0} (serves : B → EditionNo → Book) (s : Parts B) (out : Option Ask) → IsLeaving out s → HasQuit None (record s { quit = Some (length s.transcript.exchanges) })
quits_leaving serves s out h = record { next = leaves_on serves s out h; least = prefix_same _ _ h.still; went_on = inr h.short; quit_is = refl; leave = tt; room = h.room }

pub failed_of : {B : Type 0} (serves : B → EditionNo → Book) (s : Parts B) → IsAnswered serves s → HasFailed s
failed_of serves s h = record { next = h.next; still = h.still; went_on = h.went_on; no_quit = h.no_quit; room = h.room }

pub quits_quit : {B : Type 0} (s : Parts B) (out : Option Ask) → HasQuit out s → HasQuit None (record s { quit = Some (length s.transcript.exchanges) })
quits_quit s out h = record { next = h.next; least = h.least; went_on = h.went_on; quit_is = refl; leave = tt; room = h.room }

-- Leave is out, where it was to leave.
pub leaves_out : {B : Type 0} (s : Parts B) (out : Option Ask) → IsLeaving out s → IsLeaving (Some ask.Leave) s
leaves_out s out h = record { at = h.at; goes = h.goes; asks_are = h.asks_are; printed_is = h.printed_is; still = h.still; short = h.short; no_quit = h.no_quit; leave = refl; room = h.room }

pub leaves_quit : {B : Type 0} (s : Parts B) (out : Option Ask) → HasQuit out s → HasQuit (Some ask.Leave) s
leaves_quit s out h = record { next = h.next; least = h.least; went_on = h.went_on; quit_is = h.quit_is; leave = refl; room = h.room }

-- ---- it begins

begun_holds : {B : Type 0} (serves : B → EditionNo → Book) (id : SessionId) (script : List ℕ) (transcript : Kept) (book : Option B) → transcript.exchanges ≡ [] → HasRoom 1 transcript
    → IsAnswered serves (record { session = id; script = record { script = script; left = pieces_of script }; transcript = transcript; printed = []; quit = None; work = record { packages = []; room = most_room; fresh = []; stage = stage.Start }; book = book })
begun_holds serves id script transcript book none room =
    let goes : GoesOn (course_behind script []) (run_pieces script (pieces_of script)) (place [] [] [] most_room) = record { by = λ coming quit. refl } in
    subst (λ (k : Kept). IsAnswered serves (record { session = id; script = record { script = script; left = pieces_of script }; transcript = k; printed = []; quit = None; work = record { packages = []; room = most_room; fresh = []; stage = stage.Start }; book = book }))
    (λ i. record { exchanges = sym none i; room = transcript.room })
    (record {
      by = inl (record { none = refl; ready = tt; goes = goes });
      next = next_pieces script (pieces_of script) (course_behind script []) (place [] [] [] most_room) goes;
      still = refl;
      went_on = tt;
      no_quit = refl;
      room = subst (λ (l : List Exchange). HasRoom 1 (record { exchanges = l; room = transcript.room })) none room;
    })

pub new_holds : {B : Type 0} (serves : B → EditionNo → Book) (id : SessionId) (script : List ℕ) (reading : Reading) (transcript : Kept) (printed : List ℕ) (work : Work B) (book : Option B) → reading ≡ record { script = script; left = pieces_of script } → transcript.exchanges ≡ [] → HasRoom 1 transcript
    → printed ≡ [] → work ≡ record { packages = []; room = most_room; fresh = []; stage = stage.Start } → IsAnswered serves (record { session = id; script = reading; transcript = transcript; printed = printed; quit = None; work = work; book = book })
new_holds serves id script reading transcript printed work book r none room p w =
    subst (λ (y : Reading). IsAnswered serves (record { session = id; script = y; transcript = transcript; printed = printed; quit = None; work = work; book = book })) (sym r)
    (subst (λ (l : List ℕ). IsAnswered serves (record { session = id; script = record { script = script; left = pieces_of script }; transcript = transcript; printed = l; quit = None; work = work; book = book })) (sym p)
    (subst (λ (v : Work _). IsAnswered serves (record { session = id; script = record { script = script; left = pieces_of script }; transcript = transcript; printed = []; quit = None; work = v; book = book })) (sym w)
    (begun_holds serves id script transcript book none room)))
