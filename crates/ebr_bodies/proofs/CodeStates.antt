-- How runs are put together: a run adds no ask to those before but what code may ask.
use Rattle.std.proofs.Common.{ℕ, zero, suc, ◌+◌, ◌-◌, Bool, true, false, List, [], ◌∷◌, ◌++◌, Option, Some, None}
use Rattle.std.specs.Prelude.{nat_lt, if◌then◌else◌}
use Rattle.std.specs.List.{AllByRecursion}
use Rattle.ebr_base.specs.declared.code.Code.{Code}
use Rattle.ebr_base.specs.declared.code.Code.TheVariants.{Ebr}
use Rattle.ebr_asks.specs.declared.ask.Ask.{Ask}
use Rattle.ebr_asks.specs.declared.ask.Ask.TheVariants as ask
use Rattle.ebr_asks.specs.declared.answer.Answer.{Answer}
use Rattle.ebr_asks.specs.declared.answer.Answer.TheVariants as answer
use Rattle.ebr_run.specs.declared.fault.Fault.{Fault}
use Rattle.ebr_run.specs.declared.fault.Fault.TheVariants as fault
use Rattle.ebr_run.specs.Faults.{is_uncatchable}
use Rattle.ebr_run.specs.State.{Row, State, End, Normal, Exit, Continue, Raised, Stopped, Waiting, Outcome, Runs, bare, ended, done, raises, stops, go_on, then_run, step, turn_on, after_turn, turn, turns, loop, counting, catch_on, caught, finish_on, finally, room_of, no_room, line, refused, spent, spend, answered, next_answer, asked, when_done, close_on, closed, by_itself}
use Rattle.ebr_bodies.proofs.OfCode.{IsOfCode}

-- what a run has asked, code may ask
abbrev pub Keep : State → Type 0
Keep σ = AllByRecursion IsOfCode σ.asks

abbrev pub Kept : Outcome → Type 0
Kept o = Keep o.state

abbrev pub Keeps : Runs → Type 0
Keeps r = (σ : State) → Keep σ → Kept (r σ)

abbrev pub FaultsKeep : (Fault → Runs) → Type 0
FaultsKeep k = (f : Fault) → Keeps (k f)

abbrev pub AnswersKeep : (Answer → Runs) → Type 0
AnswersKeep k = (a : Answer) → Keeps (k a)

pub if_keeps : (b : Bool) (o p : Outcome) → Kept o → Kept p → Kept (if b then o else p)
if_keeps true o p h g = h
if_keeps false o p h g = g

-- ---- one after the other

go_on_keeps : (e : End) (o : Outcome) (k : Runs) → Kept o → Keeps k → Kept (go_on e o k)
go_on_keeps Normal o k h c = c o.state h
go_on_keeps e o k h c = h

pub then_run_keeps : (o : Outcome) (k : Runs) → Kept o → Keeps k → Kept (then_run o k)
then_run_keeps o k h c = go_on_keeps o.end o k h c

pub step_keeps : (σ : State) (k : Runs) → Keep σ → Keeps k → Kept (step σ k)
step_keeps σ k h c = if_keeps (nat_lt σ.steps σ.left) (k (record (bare σ) { steps = suc σ.steps })) (stops (Ebr 7) (record σ { steps = suc σ.steps })) (c (record (bare σ) { steps = suc σ.steps }) h) h

-- ---- loops

turn_on_keeps : (e : End) (o : Outcome) (k : Runs) → Kept o → Keeps k → Kept (turn_on e o k)
turn_on_keeps Normal o k h c = c o.state h
turn_on_keeps Continue o k h c = c o.state h
turn_on_keeps Exit o k h c = h
turn_on_keeps e o k h c = h

after_turn_keeps : (o : Outcome) (k : Runs) → Kept o → Keeps k → Kept (after_turn o k)
after_turn_keeps o k h c = turn_on_keeps o.end o k h c

turn_keeps : (head body again : Runs) → Keeps head → Keeps body → Keeps again → Keeps (turn head body again)
turn_keeps head body again a b c σ h = after_turn_keeps (head (bare σ)) (λ τ. step τ (λ υ. after_turn (body υ) again)) (a (bare σ) h) (λ τ k. step_keeps τ (λ υ. after_turn (body υ) again) k (λ υ l. after_turn_keeps (body υ) again (b υ l) c))

turns_keeps : (n : ℕ) (head body : Runs) → Keeps head → Keeps body → Keeps (turns n head body)
turns_keeps zero head body a b σ h = h
turns_keeps (suc n) head body a b σ h = turn_keeps head body (turns n head body) a b (turns_keeps n head body a b) σ h

pub loop_keeps : (head body : Runs) → Keeps head → Keeps body → Keeps (loop head body)
unfolding loop
loop_keeps head body a b σ h = turns_keeps (suc (σ.left - σ.steps)) head body a b σ h

pub counting_keeps : (n : ℕ) (body : ℕ → Runs) → ((i : ℕ) → Keeps (body i)) → Keeps (counting n body)
counting_keeps zero body b σ h = h
counting_keeps (suc n) body b σ h = step_keeps σ (λ τ. after_turn (body n τ) (counting n body)) h (λ τ k. after_turn_keeps (body n τ) (counting n body) (b n τ k) (counting_keeps n body b))

-- ---- exceptions

catch_on_keeps : (e : End) (o : Outcome) (k : Fault → Runs) → Kept o → FaultsKeep k → Kept (catch_on e o k)
catch_on_keeps (Raised f) o k h c = c f o.state h
catch_on_keeps e o k h c = h

pub caught_keeps : (o : Outcome) (k : Fault → Runs) → Kept o → FaultsKeep k → Kept (caught o k)
caught_keeps o k h c = catch_on_keeps o.end o k h c

finish_on_keeps : (e : End) (o : Outcome) (f : State → State) → Kept o → ((σ : State) → Keep σ → Keep (f σ)) → Kept (finish_on e o f)
finish_on_keeps Waiting o f h c = h
finish_on_keeps e o f h c = c o.state h

pub finally_keeps : (o : Outcome) (f : State → State) → Kept o → ((σ : State) → Keep σ → Keep (f σ)) → Kept (finally o f)
finally_keeps o f h c = finish_on_keeps o.end o f h c

-- ---- lines

no_room_keeps : (r : Option Row) → Keeps (no_room r)
no_room_keeps None σ h = h
no_room_keeps (Some r) σ h = h

pub line_keeps : (l : List ℕ) → Keeps (line l)
line_keeps l σ h = if_keeps (nat_lt σ.room (room_of σ.row l)) (no_room σ.row σ) (done (record σ { lines = σ.lines ++ l ∷ []; room = σ.room - room_of σ.row l })) (no_room_keeps σ.row σ h) h

-- ---- asks

one_more : (xs : List Ask) (q : Ask) → AllByRecursion IsOfCode xs → IsOfCode q → AllByRecursion IsOfCode (xs ++ q ∷ [])
one_more [] q h own = (own, tt)
one_more (x ∷ xs) q h own = (h.0, one_more xs q h.1 own)

refused_keeps : (c : Code) → Keeps (refused c)
refused_keeps c σ h = if_keeps (is_uncatchable c) (stops c σ) (raises (fault.Code c) σ) h h

spend_keeps : (n : ℕ) (ls : List (List ℕ)) (σ : State) (k : Runs) → Keep σ → Keeps k → Kept (spend n ls σ k)
spend_keeps n ls σ k h c = if_keeps (nat_lt σ.left (σ.steps + n)) (stops (Ebr 7) (spent n ls σ)) (k (spent n ls σ)) h (c (spent n ls σ) h)

answered_keeps : (a : Answer) (σ : State) (k : Answer → Runs) → Keep σ → AnswersKeep k → Kept (answered a σ k)
answered_keeps (answer.Count n steps ls) σ k h c = spend_keeps steps ls σ (k (answer.Count n steps ls)) h (c (answer.Count n steps ls))
answered_keeps (answer.Refused code steps ls) σ k h c = spend_keeps steps ls σ (refused code) h (refused_keeps code)
answered_keeps a σ k h c = c a σ h

next_answer_keeps : (given : List Answer) (σ : State) (k : Answer → Runs) → Keep σ → AnswersKeep k → Kept (next_answer given σ k)
next_answer_keeps [] σ k h c = h
next_answer_keeps (a ∷ given) σ k h c = answered_keeps a (record σ { answers = given }) k h c

pub asked_keeps : (q : Ask) (σ : State) (k : Answer → Runs) → IsOfCode q → Keep σ → AnswersKeep k → Kept (asked q σ k)
asked_keeps q σ k own h c = next_answer_keeps σ.answers (record σ { asks = σ.asks ++ q ∷ [] }) k (one_more σ.asks q h own) c

pub when_done_keeps : (a : Answer) (k : Runs) → Keeps k → Keeps (when_done a k)
when_done_keeps answer.Done k c σ h = c σ h
when_done_keeps a k c σ h = h

-- ---- transactions of their own

pop_keeps : (failed : Bool) (e : End) (o : Outcome) → Kept o → Kept (asked (ask.PopAuto failed) o.state (λ a. when_done a (ended e)))
pop_keeps failed e o h = asked_keeps (ask.PopAuto failed) o.state (λ a. when_done a (ended e)) tt h (λ a. when_done_keeps a (ended e) (λ τ k. k))

close_on_keeps : (e : End) (o : Outcome) → Kept o → Kept (close_on e o)
close_on_keeps Waiting o h = h
close_on_keeps (Stopped c) o h = h
close_on_keeps (Raised f) o h = pop_keeps true (Raised f) o h
close_on_keeps e o h = pop_keeps false e o h

closed_keeps : (o : Outcome) → Kept o → Kept (closed o)
closed_keeps o h = close_on_keeps o.end o h

pub by_itself_keeps : (alone : Bool) (k : Runs) → Keeps k → Keeps (by_itself alone k)
by_itself_keeps false k c σ h = c σ h
by_itself_keeps true k c σ h = asked_keeps ask.PushAuto σ (λ a. when_done a (λ τ. closed (k τ))) tt h (λ a. when_done_keeps a (λ τ. closed (k τ)) (λ τ l. closed_keeps (k τ) (c τ l)))
