-- What a block asks next, whatever memory there is.
use Rattle.std.proofs.Common.{ℕ, zero, suc, ◌≡◌, ◌+◌, ◌≤◌, List, [], ◌∷◌, ◌++◌, length, Option, Some, None, refl, sym, ◌∙◌, ap, subst, arith, append_assoc, append-nil, length-append}
use Rattle.std.specs.Prelude.{true, false, codes as text}
use Rattle.ebr_base.specs.declared.code.Code.{Code}
use Rattle.ebr_base.specs.Code.{code_text}
use Rattle.ebr_ast.specs.declared.statement.Block.{Block}
use Rattle.ebr_ast.specs.declared.unit.UnitTree.TheVariants as unit
use Rattle.ebr_ast.specs.declared.view.EditionView.{EditionView}
use Rattle.ebr_asks.specs.declared.ask.Ask.{Ask}
use Rattle.ebr_asks.specs.declared.ask.Ask.TheVariants as ask
use Rattle.ebr_asks.specs.declared.answer.Answer.{Answer}
use Rattle.ebr_run.specs.Packages.{PackageState}
use Rattle.ebr_run.specs.Run.{Frame, Seen, RunStatus, Waiting, Returned, Raised, seen}
use Rattle.ebr_code.specs.Books.{Book}
use Rattle.ebr_code.specs.Units.{unit_code}
use Rattle.ebr_laws.specs.Served.{HasCodeOf}
use Rattle.ebr_laws.proofs.Units.{run_same}
use Rattle.ebr_running.specs.Lines.{Extends}
use Rattle.ebr_running.specs.Rest.{awake, resume, saved_of, stands, state_of}
use Rattle.ebr_running.proofs.Growing.{stands_grow}
use Rattle.ebr_machine.specs.declared.machine.Machine.{Machine}
use Rattle.ebr_machine.specs.Has.{Has, IsOut, within}
use Rattle.ebr_calls.specs.Asked.{HasTaken}
use Rattle.ebr_calls.specs.Steps.{State, Step, asked, asking, behind, closing, ending, less, lines_of, most_steps, open_behind, printing, printing_result, run_of, run_on, run_stands, run_valid, then_run, usable}
use Rattle.ebr_calls.specs.Continuation.{AllContinue, Continues}
use Rattle.ebr_calls.specs.Courses.{Asks, Course, GoesOn, IsIn, Place, after, place, state_at, with_answer, later}
use Rattle.ebr_calls.proofs.Counted.{code_counted, stands_count}
use Rattle.ebr_calls.proofs.Going.{after_later, all_more, asks_where, less_after, usable_after}
use Rattle.ebr_calls.proofs.Runs.{asking_last, drop_all, lines_more, open_with}

-- the next ask at a place
pub record NextAt (f : Course) (p : Place) : Type 0 where
  pub ask : Ask
  pub asks : Asks f ask p

-- A run that has made these asks, and more where it has made one behind the last answer.
module _ (f : Course) (run : List Answer → Seen) (before : Place) (answers : List Answer) (made : List Ask) (rest : Step)
    (by : (coming : List Answer) (quit : Option ℕ) → f coming quit ≡ then_run (run_on run (state_at before (answers ++ coming) (after (length answers) quit))) rest)
    (goes : AllContinue answers) (count : length made ≡ length answers) where
  abbrev r : Seen
  r = run answers

  abbrev first : List Answer → Option ℕ → State
  first coming quit = state_at before (answers ++ coming) (after (length answers) quit)

  abbrev now : Place
  now = place (before.asks ++ made) (before.printed ++ lines_of r.lines) r.packages r.room

  behind_now : (coming : List Answer) (quit : Option ℕ) → behind made r (first coming quit) ≡ state_at now coming quit
  behind_now coming quit = λ i. record {
    asks = before.asks ++ made;
    printed = before.printed ++ lines_of r.lines;
    packages = r.packages;
    room = r.room;
    coming = drop_all made answers coming count i;
    quit = (ap (λ k. less k (after (length answers) quit)) count ∙ less_after (length answers) quit) i;
  }

  -- It stands so where no answer comes that the run takes.
  stands_so : (s : RunStatus) → r.standing ≡ s → (coming : List Answer) (quit : Option ℕ) → usable quit coming ≡ [] → f coming quit ≡ then_run (run_stands s r (first coming quit)) rest
  stands_so s e coming quit u =
      by coming quit
      ∙ ap (λ xs. then_run (run_stands (run xs).standing (run xs) (first coming quit)) rest) (usable_after answers coming quit goes ∙ ap (λ l. answers ++ l) u ∙ append-nil answers)
      ∙ ap (λ s. then_run (run_stands s r (first coming quit)) rest) e

  asks_so : (q : Ask) (k : Answer → Step) → ((coming : List Answer) (quit : Option ℕ) → usable quit coming ≡ [] → f coming quit ≡ then_run (asked q k (state_at now coming quit)) rest) → NextAt f now
  asks_so q k h = record { ask = q; asks = asks_where f q k rest now h }

  waits : r.standing ≡ Waiting → (q : Ask) → r.asks ≡ made ++ q ∷ [] → NextAt f now
  waits e q a = asks_so q (λ x. printing []) (λ coming quit u.
      stands_so Waiting e coming quit u
      ∙ ap (λ o. then_run o rest)
      (ap (λ l. asking l (λ earlier q τ. asked q (λ x. printing []) (behind earlier r τ)) (first coming quit)) a
      ∙ asking_last made q (λ earlier q τ. asked q (λ x. printing []) (behind earlier r τ)) (first coming quit)
      ∙ ap (λ τ. asked q (λ x. printing []) τ) (behind_now coming quit)))

  returns : r.standing ≡ Returned → r.asks ≡ made → NextAt f now
  returns e a = asks_so (ask.EndCall false) (printing_result (text "OK")) (λ coming quit u.
      stands_so Returned e coming quit u
      ∙ ap (λ l. then_run (ending false (text "OK") (behind l r (first coming quit))) rest) a
      ∙ ap (λ τ. then_run (ending false (text "OK") τ) rest) (behind_now coming quit))

  closes : (c : Code) (n : ℕ) → ((coming : List Answer) (quit : Option ℕ) → usable quit coming ≡ [] → f coming quit ≡ then_run (closing n (ending true (code_text c)) (state_at now coming quit)) rest) → NextAt f now
  closes c zero h = asks_so (ask.EndCall true) (printing_result (code_text c)) h
  closes c (suc n) h = asks_so (ask.PopAuto true) (λ x. closing n (ending true (code_text c))) h

  raises : (c : Code) → r.standing ≡ Raised c → r.asks ≡ made → NextAt f now
  raises c e a = closes c (open_behind zero made answers) (λ coming quit u.
      stands_so (Raised c) e coming quit u
      ∙ ap (λ l. then_run (closing (open_behind zero l (answers ++ coming)) (ending true (code_text c)) (behind l r (first coming quit))) rest) a
      ∙ ap (λ n. then_run (closing n (ending true (code_text c)) (behind made r (first coming quit))) rest) (open_with zero made answers coming count)
      ∙ ap (λ τ. then_run (closing (open_behind zero made answers) (ending true (code_text c)) τ) rest) (behind_now coming quit))

  none_more : (more : List Ask) → r.asks ≡ made ++ more → length r.asks ≤ length answers → r.asks ≡ made
  none_more [] a n = a ∙ append-nil made
  none_more (q ∷ more) a n = let l = ap length a ∙ length-append made (q ∷ more) in absurd (omega (arith, l, n, count))

  one_more : (more : List Ask) → r.standing ≡ Waiting → r.asks ≡ made ++ more → length r.asks ≡ suc (length answers) → NextAt f now
  one_more [] e a n = let l = ap length a ∙ length-append made [] in absurd (omega (arith, l, n, count))
  one_more (q ∷ []) e a n = waits e q a
  one_more (q ∷ q' ∷ more) e a n = let l = ap length a ∙ length-append made (q ∷ q' ∷ more) in absurd (omega (arith, l, n, count))

  by_standing : (more : List Ask) → r.asks ≡ made ++ more → (s : RunStatus) → r.standing ≡ s → HasTaken s (length r.asks) (length answers) → NextAt f now
  by_standing more a Waiting e t = one_more more e a t
  by_standing more a Returned e t = returns e (none_more more a t)
  by_standing more a (Raised c) e t = raises c e (none_more more a t)

  pub run_next : (more : List Ask) → r.asks ≡ made ++ more → HasTaken r.standing (length r.asks) (length answers) → NextAt f now
  run_next more a t = by_standing more a r.standing refl t

-- A block that begins asks next what its run asks without an answer.
pub begins_next : (codes : Book) (v : EditionView) (b : Block) (f : Course) (rest : Step) (p : Place) → HasCodeOf v codes → GoesOn f (λ σ. then_run (run_valid v b σ) rest) p
    → NextAt f (place (p.asks ++ []) (p.printed ++ lines_of (run_of v b p.packages p.room []).lines) (run_of v b p.packages p.room []).packages (run_of v b p.packages p.room []).room)
begins_next codes v b f rest p h was =
    let frame : Frame = record { row = None; room = p.room } in
    let same = run_same v codes h (unit.Block b) [] p.packages frame most_steps [] in
    run_next f (run_of v b p.packages p.room) p [] [] rest was.by tt refl (run_of v b p.packages p.room []).asks refl
    (subst (λ (r : Seen). HasTaken r.standing (length r.asks) 0) same (code_counted codes (unit_code v (unit.Block b)) [] p.packages frame most_steps []).taken)

-- The machine that waits has taken the answer.
has_taken : (codes : Book) (m : Machine) (packages : List PackageState) (left : ℕ) (run : List Answer → Seen) (asks : List Ask) (answers : List Answer) (x : Answer) → IsOut m → Has codes m packages left run asks answers
    → (given : List Answer) → seen (stands codes (within codes m packages left) (Some x) (asks ++ m.inner.ask ∷ []) given) ≡ run (answers ++ x ∷ given)
has_taken codes m packages left run asks answers x out has given =
    let w = within codes m packages left in
    sym (ap (λ e. seen (resume codes w.makings_left w.frames_left w.tasks (saved_of w) (awake e w.fault w.ask w.pending w.lookup (state_of w asks (x ∷ given))))) out.waits)
    ∙ (sym (ap (λ a. seen (stands codes w a asks (x ∷ given))) out.none) ∙ has.by (x ∷ given))

-- what a block asks next behind an answer, and the lines that it prints before
pub record NextIn (f : Course) (made : List Ask) (printed : List ℕ) : Type 0 where
  pub at : Place
  pub asks_are : at.asks ≡ made
  pub rest : List ℕ
  pub printed_is : at.printed ≡ printed ++ rest
  pub next : NextAt f at

module _ (codes : Book) (f : Course) (m : Machine) (lines_shown levels : ℕ) (rest : Step) (p : Place) (was : IsIn codes f m lines_shown levels rest p) (out : IsOut m) (x : Answer) (c : Continues x) where
  abbrev answers' : List Answer
  answers' = was.answers ++ x ∷ []

  abbrev made' : List Ask
  made' = was.asks ++ m.inner.ask ∷ []

  taken_by : (coming : List Answer) (quit : Option ℕ) → with_answer x f coming quit ≡ then_run (run_on was.run (state_at was.before (answers' ++ coming) (after (length answers') quit))) rest
  taken_by coming quit =
      was.by (x ∷ coming) (later quit)
      ∙ ap (λ l. then_run (run_on was.run (state_at was.before l (after (length was.answers) (later quit)))) rest) (sym (append_assoc was.answers (x ∷ []) coming))
      ∙ ap (λ k. then_run (run_on was.run (state_at was.before (answers' ++ coming) k)) rest)
      (after_later (length was.answers) quit ∙ ap (λ n. after n quit) (sym (length-append was.answers (x ∷ []) ∙ add_one (length was.answers))))
    where
      add_one : (n : ℕ) → n + 1 ≡ suc n
      add_one n = omega arith

  same : seen (stands codes (within codes m p.packages most_steps) (Some x) made' []) ≡ was.run answers'
  same = has_taken codes m p.packages most_steps was.run was.asks was.answers x out was.has []

  lines : Extends m.inner.lines (was.run answers').lines
  lines = subst (λ (r : Seen). Extends m.inner.lines r.lines) same (stands_grow codes (within codes m p.packages most_steps) (Some x) made' [])

  made_more : (was.run answers').asks ≡ made' ++ (stands_count codes (within codes m p.packages most_steps) x made' []).made
  made_more = ap (λ (r : Seen). r.asks) (sym same) ∙ (stands_count codes (within codes m p.packages most_steps) x made' []).asks_are

  pub goes_next : NextIn (with_answer x f) (p.asks ++ m.inner.ask ∷ []) p.printed
  goes_next = record {
    at = place (was.before.asks ++ made') (was.before.printed ++ lines_of (was.run answers').lines) (was.run answers').packages (was.run answers').room;
    asks_are = sym (ap (λ l. l ++ m.inner.ask ∷ []) was.asked_are ∙ append_assoc was.before.asks was.asks (m.inner.ask ∷ []));
    rest = lines_of lines.rest;
    printed_is = ap (λ l. was.before.printed ++ lines_of l) lines.whole
        ∙ ap (λ l. was.before.printed ++ l) (lines_more m.inner.lines lines.rest)
        ∙ sym (append_assoc was.before.printed (lines_of m.inner.lines) (lines_of lines.rest))
        ∙ ap (λ l. l ++ lines_of lines.rest) (sym was.printed_is);
    next = run_next (with_answer x f) was.run was.before answers' made' rest taken_by (all_more was.answers x was.went_on c)
        (length-append was.asks (m.inner.ask ∷ []) ∙ (ap (λ n. n + 1) was.count ∙ sym (length-append was.answers (x ∷ []))))
        _ made_more (was.counted answers').taken;
  }
