-- How a block's run goes on in a session.
use Rattle.std.proofs.Common.{ℕ, zero, ◌≡◌, ◌+◌, ◌≤◌, List, [], ◌∷◌, ◌++◌, length, drop, Option, None, refl, sym, ◌∙◌, ap, subst, arith, append_assoc, append-nil, length-append, add-one}
use Rattle.std.specs.Prelude.{true, false, codes as text}
use Rattle.std.proofs.Math.Seq.{drop-append_seam}
use Rattle.ebr_asks.specs.declared.ask.Ask.{Ask}
use Rattle.ebr_asks.specs.declared.answer.Answer.{Answer}
use Rattle.ebr_run.specs.Packages.{PackageState}
use Rattle.ebr_ast.specs.declared.statement.Block.{Block}
use Rattle.ebr_ast.specs.declared.unit.UnitTree.TheVariants as unit
use Rattle.ebr_ast.specs.declared.view.EditionView.{EditionView}
use Rattle.ebr_base.specs.declared.value.Value.{Value}
use Rattle.ebr_run.specs.Run.{Frame, Seen}
use Rattle.ebr_code.specs.declared.book.Unit as compiled
use Rattle.ebr_code.specs.Runs.{RunCode}
use Rattle.ebr_code.specs.Units.{unit_code}
use Rattle.ebr_laws.specs.Served.{HasCodeOf}
use Rattle.ebr_laws.proofs.Units.{run_same}
use Rattle.ebr_code.specs.Books.{Book}
use Rattle.ebr_running.specs.Lines.{Extends}
use Rattle.ebr_machine.specs.declared.next.End.{End}
use Rattle.ebr_machine.specs.declared.next.End.TheVariants as end
use Rattle.ebr_machine.specs.declared.next.Next.{Next}
use Rattle.ebr_machine.specs.declared.next.Next.TheVariants as next
use Rattle.ebr_machine.specs.declared.machine.Machine.{Machine}
use Rattle.ebr_machine.specs.Has.{Has, Shows, shown, asks_of, IsDone, Prints}
use Rattle.ebr_base.specs.Code.{code_text}
use Rattle.ebr_calls.specs.Asked.{AreOfRun, IsCounted, IsOfRun}
use Rattle.ebr_calls.proofs.Counted.{code_counted}
use Rattle.ebr_calls.specs.Steps.{State, Step, then_run, less, asked, line_of, lines_of, printing, usable, behind, open_after, open_behind, asking, closing, ending, run_stands, run_on, run_of, run_valid, most_steps}
use Rattle.ebr_calls.specs.Continuation.{Continues}
use Rattle.ebr_calls.specs.Courses.{Course, Place, GoesOn, Asks, IsIn, state_at, later, after, with_answer, with_ask, place, finishing, Comes}
use Rattle.ebr_calls.proofs.Going.{less_after, after_later, usable_after, all_more, asks_where}

-- ---- lists

pub asking_last : (asks : List Ask) (q : Ask) (k : List Ask → Ask → Step) (σ : State) → asking (asks ++ q ∷ []) k σ ≡ k asks q σ
asking_last [] q k σ = refl
asking_last (a ∷ []) q k σ = refl
asking_last (a ∷ b ∷ asks) q k σ = asking_last (b ∷ asks) q (λ earlier. k (a ∷ earlier)) σ

pub drop_all : (asks : List Ask) (xs coming : List Answer) → length asks ≡ length xs → drop (length asks) (xs ++ coming) ≡ coming
drop_all asks xs coming e = ap (λ n. drop n (xs ++ coming)) e ∙ drop-append_seam xs coming

pub open_with : (n : ℕ) (asks : List Ask) (xs coming : List Answer) → length asks ≡ length xs → open_behind n asks (xs ++ coming) ≡ open_behind n asks xs
open_with n [] xs coming e = refl
open_with n (q ∷ asks) [] coming e = absurd (omega (arith, e))
open_with n (q ∷ asks) (x ∷ xs) coming e = open_with (open_after q x n) asks xs coming (omega (arith, e))

open_more : (n : ℕ) (asks : List Ask) (xs : List Answer) (q : Ask) (x : Answer) → length asks ≡ length xs → open_behind n (asks ++ q ∷ []) (xs ++ x ∷ []) ≡ open_after q x (open_behind n asks xs)
open_more n [] [] q x e = refl
open_more n [] (y ∷ xs) q x e = absurd (omega (arith, e))
open_more n (a ∷ asks) [] q x e = absurd (omega (arith, e))
open_more n (a ∷ asks) (y ∷ xs) q x e = open_more (open_after a y n) asks xs q x (omega (arith, e))

pub lines_more : (xs ys : List (List ℕ)) → lines_of (xs ++ ys) ≡ lines_of xs ++ lines_of ys
lines_more [] ys = refl
lines_more (x ∷ xs) ys = ap (λ l. line_of x ++ l) (lines_more xs ys) ∙ sym (append_assoc (line_of x) (lines_of xs) (lines_of ys))

last_of_run : (most : ℕ) (asks : List Ask) (q : Ask) → AreOfRun most (asks ++ q ∷ []) → IsOfRun most q
last_of_run most [] q h = h.0
last_of_run most (a ∷ asks) q h = last_of_run most asks q h.1

-- ---- a run

module _ (codes : Book) (f : Course) (m : Machine) (lines_shown levels : ℕ) (rest : Step) (p : Place) (was : IsIn codes f m lines_shown levels rest p) where
  -- the state at the beginning, with all answers
  abbrev pub first : List Answer → Option ℕ → State
  first coming quit = state_at was.before (was.answers ++ coming) (after (length was.answers) quit)

  module _ (m' : Machine) (packages' : List PackageState) (printed' : List ℕ) (e : printed' ≡ was.before.printed ++ lines_of m'.inner.lines) where
    abbrev pub now : Place
    now = place p.asks printed' packages' m'.inner.room

    -- the state behind what was asked
    behind_is : (n : Next) (made : List Ask) (coming : List Answer) (quit : Option ℕ) → behind was.asks (shown m' packages' made n) (first coming quit) ≡ state_at now coming quit
    behind_is n made coming quit = λ i. record {
      asks = sym was.asked_are i;
      printed = sym e i;
      packages = packages';
      room = m'.inner.room;
      coming = drop_all was.asks was.answers coming was.count i;
      quit = (ap (λ k. less k (after (length was.answers) quit)) was.count ∙ less_after (length was.answers) quit) i;
    }

    -- The run makes an ask.
    pub run_asks : (q : Ask) → Shows (was.run was.answers) m' packages' (was.asks ++ q ∷ []) (next.Ask q) → Asks f q now
    run_asks q shows = asks_where f q (λ x. printing []) rest now (λ coming quit u.
        was.by coming quit
        ∙ ap (λ o. then_run o rest)
        (ap (λ (r : Seen). run_stands r.standing r (first coming quit))
        (ap was.run (usable_after was.answers coming quit was.went_on ∙ ap (λ l. was.answers ++ l) u ∙ append-nil was.answers) ∙ shows.is)
        ∙ (asking_last was.asks q (λ earlier a τ. asked a (λ x. printing []) (behind earlier (shown m' packages' (was.asks ++ q ∷ []) (next.Ask q)) τ)) (first coming quit)
        ∙ ap (λ τ. asked q (λ x. printing []) τ) (behind_is (next.Ask q) (was.asks ++ q ∷ []) coming quit))))

    stands : (e : End) (coming : List Answer) (quit : Option ℕ)
        → run_stands (shown m' packages' was.asks (next.Done e)).standing (shown m' packages' was.asks (next.Done e)) (first coming quit) ≡ finishing e levels (state_at now coming quit)
    stands end.Returned coming quit = ap (ending false (text "OK")) (behind_is (next.Done end.Returned) was.asks coming quit)
    stands (end.Raised c) coming quit =
        ap (λ n. closing n (ending true (code_text c)) (behind was.asks (shown m' packages' was.asks (next.Done (end.Raised c))) (first coming quit)))
        (open_with zero was.asks was.answers coming was.count ∙ sym was.levels_are)
        ∙ ap (closing levels (ending true (code_text c))) (behind_is (next.Done (end.Raised c)) was.asks coming quit)

    -- The run has ended.
    pub run_ends : (e : End) → ((more : List Answer) → Shows (was.run (was.answers ++ more)) m' packages' was.asks (next.Done e)) → GoesOn f (λ σ. then_run (finishing e levels σ) rest) now
    run_ends e over = record {
      by = λ coming quit.
          was.by coming quit
          ∙ ap (λ o. then_run o rest)
          (ap (λ (r : Seen). run_stands r.standing r (first coming quit)) (ap was.run (usable_after was.answers coming quit was.went_on) ∙ (over (usable quit coming)).is)
          ∙ stands e coming quit);
    }

  -- An answer has come.
  pub run_takes : (m' : Machine) (levels' : ℕ) (q : Ask) (x : Answer) → Continues x → Has codes m' p.packages most_steps was.run (was.asks ++ q ∷ []) (was.answers ++ x ∷ [])
      → m'.inner.lines ≡ m.inner.lines → levels' ≡ open_after q x levels → IsIn codes (with_answer x f) m' lines_shown levels' rest (with_ask q p)
  run_takes m' levels' q x c has same opened = record {
    run = was.run;
    before = was.before;
    asks = was.asks ++ q ∷ [];
    answers = was.answers ++ x ∷ [];
    has = has;
    counted = was.counted;
    by = λ coming quit.
        was.by (x ∷ coming) (later quit)
        ∙ ap (λ l. then_run (run_on was.run (state_at was.before l (after (length was.answers) (later quit)))) rest) (sym (append_assoc was.answers (x ∷ []) coming))
        ∙ ap (λ k. then_run (run_on was.run (state_at was.before ((was.answers ++ x ∷ []) ++ coming) k)) rest)
        (after_later (length was.answers) quit ∙ ap (λ n. after n quit) (sym (length-append was.answers (x ∷ []) ∙ add-one (length was.answers))));
    went_on = all_more was.answers x was.went_on c;
    count = length-append was.asks (q ∷ []) ∙ (ap (λ n. n + 1) was.count ∙ sym (length-append was.answers (x ∷ [])));
    asked_are = ap (λ l. l ++ q ∷ []) was.asked_are ∙ append_assoc was.before.asks was.asks (q ∷ []);
    printed_is = was.printed_is ∙ ap (λ l. was.before.printed ++ lines_of l) (sym same);
    shown_are = was.shown_are ∙ ap length (sym same);
    levels_are = opened ∙ (ap (open_after q x) was.levels_are ∙ sym (open_more zero was.asks was.answers q x was.count));
  }

module _ (codes : Book) (v : EditionView) (b : Block) (f : Course) (rest : Step) (p : Place) where
  abbrev pub block_code : compiled.Unit
  block_code = unit_code v (unit.Block b)

  abbrev pub begun : Frame
  begun = record { row = None; room = p.room }

  -- The code of the block does what the block does.
  as_block : HasCodeOf v codes → RunCode codes block_code [] p.packages begun most_steps ≡ run_of v b p.packages p.room
  as_block h = λ i answers. run_same v codes h (unit.Block b) [] p.packages begun most_steps answers i

  -- A block begins.
  pub run_begins : (m : Machine) (main : compiled.Unit) (arguments : List Value) (room levels : ℕ) → HasCodeOf v codes → main ≡ block_code → p.room ≡ room
      → Has codes m p.packages most_steps (RunCode codes main arguments p.packages (record { row = None; room = room }) most_steps) [] []
      → arguments ≡ [] → levels ≡ 0 → m.inner.lines ≡ [] → GoesOn f (λ σ. then_run (run_valid v b σ) rest) p → IsIn codes f m 0 levels rest p
  run_begins m main arguments room levels h e r has z l none was = record {
    run = run_of v b p.packages p.room;
    before = p;
    asks = [];
    answers = [];
    has = subst (λ (run : List Answer → Seen). Has codes m p.packages most_steps run [] [])
        ((λ i. RunCode codes (e i) (z i) p.packages (record { row = None; room = sym r i }) most_steps) ∙ as_block h) has;
    counted = subst (λ (run : List Answer → Seen). (given : List Answer) → IsCounted most_steps given (run given)) (as_block h)
        (λ given. code_counted codes block_code [] p.packages begun most_steps given);
    by = was.by;
    went_on = tt;
    count = refl;
    asked_are = sym (append-nil p.asks);
    printed_is = sym (ap (λ l. p.printed ++ lines_of l) none ∙ append-nil p.printed);
    shown_are = sym (ap length none);
    levels_are = l;
  }

-- The machine has stopped, and its new lines are printed.
pub comes : (codes : Book) (f : Course) (m m' : Machine) (shown shown' levels levels' : ℕ) (rest : Step) (made : List Ask) (printed printed' : List ℕ) (packages packages' : List PackageState) (room : ℕ) (n : Next)
    → IsIn codes f m shown levels rest (place made printed packages room)
    → ((run : List Answer → Seen) (asks : List Ask) (answers : List Answer) → Has codes m packages most_steps run asks answers → Has codes m' packages' most_steps run asks answers)
    → ((run : List Answer → Seen) (asks : List Ask) (answers : List Answer) → Has codes m packages most_steps run asks answers → Shows (run answers) m' packages' (asks ++ asks_of n) n)
    → (IsDone n → (run : List Answer → Seen) (asks : List Ask) (answers more : List Answer) → Has codes m packages most_steps run asks answers → Shows (run (answers ++ more)) m' packages' asks n)
    → ((run : List Answer → Seen) (asks : List Ask) (answers : List Answer) → Has codes m packages most_steps run asks answers → Prints m m')
    → (shown ≤ length m'.inner.lines → printed' ≡ printed ++ lines_of (drop shown m'.inner.lines)) → shown' ≡ length m'.inner.lines → levels' ≡ levels
    → Comes n codes f m' shown' levels' rest (place made printed' packages' m'.inner.room)
comes codes f m m' shown shown' levels levels' rest made printed printed' packages packages' room n was has shows over prints out all same =
    subst (λ k. Comes n codes f m' shown' k rest (place made printed' packages' m'.inner.room)) (sym same) (by_next n (shows was.run was.asks was.answers was.has) (λ d more. over d was.run was.asks was.answers more was.has))
  where
    more : Extends m.inner.lines m'.inner.lines
    more = (prints was.run was.asks was.answers was.has).more

    enough : shown ≤ length m'.inner.lines
    enough =
        let a = was.shown_are in
        let b = ap length more.whole ∙ length-append m.inner.lines more.rest in
        omega (arith, a, b)

    new_lines : drop shown m'.inner.lines ≡ more.rest
    new_lines = ap (λ n. drop n m'.inner.lines) was.shown_are ∙ ap (drop (length m.inner.lines)) more.whole ∙ drop-append_seam m.inner.lines more.rest

    all_printed : printed' ≡ was.before.printed ++ lines_of m'.inner.lines
    all_printed =
        out enough ∙ ap (λ l. printed ++ lines_of l) new_lines
        ∙ ap (λ l. l ++ lines_of more.rest) was.printed_is ∙ append_assoc was.before.printed (lines_of m.inner.lines) (lines_of more.rest)
        ∙ ap (λ l. was.before.printed ++ l) (sym (lines_more m.inner.lines more.rest) ∙ ap lines_of (sym more.whole))

    by_next : (n : Next) → Shows (was.run was.answers) m' packages' (was.asks ++ asks_of n) n → (IsDone n → (rest : List Answer) → Shows (was.run (was.answers ++ rest)) m' packages' was.asks n)
        → Comes n codes f m' shown' levels rest (place made printed' packages' m'.inner.room)
    by_next (next.Ask q) s o = (
      run_asks codes f m shown levels rest _ was m' packages' printed' all_printed q s,
      record {
        run = was.run;
        before = was.before;
        asks = was.asks;
        answers = was.answers;
        has = has was.run was.asks was.answers was.has;
        counted = was.counted;
        by = was.by;
        went_on = was.went_on;
        count = was.count;
        asked_are = was.asked_are;
        printed_is = all_printed;
        shown_are = all;
        levels_are = was.levels_are;
      },
      last_of_run most_steps was.asks q (subst (λ (r : Seen). AreOfRun most_steps r.asks) s.is (was.counted was.answers).kinds),
    )
    by_next (next.Done e) s o = run_ends codes f m shown levels rest _ was m' packages' printed' all_printed e (o tt)

-- It is the same machine.
pub moved : (n : Next) (codes : Book) (f : Course) (m m' : Machine) (shown levels : ℕ) (rest : Step) (made : List Ask) (printed : List ℕ) (packages : List PackageState) → m' ≡ m
    → Comes n codes f m shown levels rest (place made printed packages m.inner.room) → Comes n codes f m' shown levels rest (place made printed packages m'.inner.room)
moved n codes f m m' shown levels rest made printed packages same h = subst (λ (x : Machine). Comes n codes f x shown levels rest (place made printed packages x.inner.room)) (sym same) h
