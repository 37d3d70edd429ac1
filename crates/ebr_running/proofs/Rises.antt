-- No run takes steps or lines back, so that a loop is one turn and the loop again.
use Rattle.std.proofs.Common.{◌≡◌, ℕ, zero, suc, ◌+◌, ◌-◌, ◌<◌, ◌≤◌, Bool, true, false, if◌then◌else◌, List, [], ◌∷◌, ◌++◌, Option, Some, None, refl, sym, ap, ◌∙◌, arith, append-nil, append_assoc}
use Rattle.std.specs.Prelude.{nat_lt}
use Rattle.std.proofs.lemmas.Bool.{ltb-true}
use Rattle.ebr_base.specs.declared.code.Code.{Code}
use Rattle.ebr_base.specs.declared.code.Code.TheVariants.{Ebr}
use Rattle.ebr_asks.specs.declared.ask.Ask.{Ask}
use Rattle.ebr_asks.specs.declared.ask.Ask.TheVariants as ask
use Rattle.ebr_asks.specs.declared.answer.Answer.{Answer}
use Rattle.ebr_asks.specs.declared.answer.Answer.TheVariants as answer
use Rattle.ebr_run.specs.declared.fault.Fault.{Fault}
use Rattle.ebr_run.specs.Faults.{is_uncatchable}
use Rattle.ebr_running.specs.Lines.{Extends}
use Rattle.ebr_run.specs.State.{State, Outcome, End, Runs, Normal, Exit, Continue, Returned, Raised, Stopped, Waiting, Row, bare, ended, done, stops, go_on, step, turn_on, after_turn, turn, turns, loop, counting, catch_on, finish_on, no_room, line, room_of, refused, spent, spend, answered, next_answer, asked, when_done, close_on, closed, by_itself}

pub same : (xs : List (List ℕ)) → Extends xs xs
same xs = record { rest = []; whole = sym (append-nil xs) }

as_many : (xs ys : List (List ℕ)) → ys ≡ xs → Extends xs ys
as_many xs ys e = record { rest = []; whole = e ∙ sym (append-nil xs) }

pub further : (xs ys zs : List (List ℕ)) → Extends xs ys → Extends ys zs → Extends xs zs
further xs ys zs h k = record { rest = h.rest ++ k.rest; whole = k.whole ∙ ap (λ l. l ++ k.rest) h.whole ∙ append_assoc xs h.rest k.rest }

-- the most steps are the same, and no step and no line is taken back
pub record Rises (l s : ℕ) (w : List (List ℕ)) (o : Outcome) : Type 0 where
  pub left_is : o.state.left ≡ l
  pub le : s ≤ o.state.steps
  pub more : Extends w o.state.lines

abbrev pub Grows : Runs → Type 0
Grows f = (σ : State) → Rises σ.left σ.steps σ.lines (f σ)

-- a state with the same steps and lines
pub record Keeps (σ τ : State) : Type 0 where
  pub left_is : τ.left ≡ σ.left
  pub steps_are : τ.steps ≡ σ.steps
  pub lines_are : τ.lines ≡ σ.lines

pub kept_at : (σ τ : State) (e : End) → Keeps σ τ → Rises σ.left σ.steps σ.lines (ended e τ)
kept_at σ τ e k = let x = k.steps_are in record { left_is = k.left_is; le = omega (arith, x); more = as_many _ _ k.lines_are }

pub kept_done : (σ τ : State) → Keeps σ τ → Rises σ.left σ.steps σ.lines (done τ)
kept_done σ τ k = let x = k.steps_are in record { left_is = k.left_is; le = omega (arith, x); more = as_many _ _ k.lines_are }

pub onto : (l s : ℕ) (w : List (List ℕ)) (o o' : Outcome) → Rises l s w o → Rises o.state.left o.state.steps o.state.lines o' → Rises l s w o'
onto l s w o o' h k = let x = h.le in let y = k.le in record { left_is = k.left_is ∙ h.left_is; le = omega (arith, x, y); more = further _ _ _ h.more k.more }

pub kept_then : (σ τ : State) (f : Runs) → Keeps σ τ → Grows f → Rises σ.left σ.steps σ.lines (f τ)
kept_then σ τ f k h = onto σ.left σ.steps σ.lines (ended Normal τ) (f τ) (kept_at σ τ Normal k) (h τ)

pub either : (l s : ℕ) (w : List (List ℕ)) (b : Bool) (x y : Outcome) → Rises l s w x → Rises l s w y → Rises l s w (if b then x else y)
either l s w true x y p q = p
either l s w false x y p q = q

pub go_on_grows : (l s : ℕ) (w : List (List ℕ)) (e : End) (o : Outcome) (k : Runs) → Rises l s w o → Grows k → Rises l s w (go_on e o k)
go_on_grows l s w Normal o k h g = onto l s w o (k o.state) h (g o.state)
go_on_grows l s w e o k h g = h

pub step_grows : (k : Runs) → Grows k → Grows (λ σ. step σ k)
step_grows k h σ =
    let next = record (bare σ) { steps = suc σ.steps } in
    let x = h next in
    let y = x.le in
    either σ.left σ.steps σ.lines (nat_lt σ.steps σ.left) _ _ (record { left_is = x.left_is; le = omega (arith, y); more = x.more }) (record { left_is = refl; le = omega arith; more = same _ })

pub turn_on_grows : (l s : ℕ) (w : List (List ℕ)) (e : End) (o : Outcome) (k : Runs) → Rises l s w o → Grows k → Rises l s w (turn_on e o k)
turn_on_grows l s w Normal o k h g = onto l s w o (k o.state) h (g o.state)
turn_on_grows l s w Continue o k h g = onto l s w o (k o.state) h (g o.state)
turn_on_grows l s w Exit o k h g = record { left_is = h.left_is; le = h.le; more = h.more }
turn_on_grows l s w e o k h g = h

pub turn_grows : (head body again : Runs) → Grows head → Grows body → Grows again → Grows (turn head body again)
turn_grows head body again h b a σ =
    let o = head (bare σ) in
    let x = h (bare σ) in
    turn_on_grows σ.left σ.steps σ.lines o.end o _ (record { left_is = x.left_is; le = x.le; more = x.more }) (step_grows (λ υ. after_turn (body υ) again) (λ υ. turn_on_grows υ.left υ.steps υ.lines (body υ).end (body υ) again (b υ) a))

pub turns_grow : (n : ℕ) (head body : Runs) → Grows head → Grows body → Grows (turns n head body)
turns_grow zero head body h b σ = record { left_is = refl; le = omega arith; more = same _ }
turns_grow (suc n) head body h b σ = turn_grows head body (turns n head body) h b (turns_grow n head body h b) σ

pub loop_grows : (head body : Runs) → Grows head → Grows body → Grows (loop head body)
unfolding loop
loop_grows head body h b σ = turns_grow (suc (σ.left - σ.steps)) head body h b σ

pub counting_grows : (n : ℕ) (body : ℕ → Runs) → ((n : ℕ) → Grows (body n)) → Grows (counting n body)
counting_grows zero body h σ = record { left_is = refl; le = omega arith; more = same _ }
counting_grows (suc n) body h σ = step_grows (λ τ. after_turn (body n τ) (counting n body)) (λ τ. turn_on_grows τ.left τ.steps τ.lines (body n τ).end (body n τ) (counting n body) (h n τ) (counting_grows n body h)) σ

pub catch_on_grows : (l s : ℕ) (w : List (List ℕ)) (e : End) (o : Outcome) (k : Fault → Runs) → Rises l s w o → ((f : Fault) → Grows (k f)) → Rises l s w (catch_on e o k)
catch_on_grows l s w (Raised f) o k h g = onto l s w o (k f o.state) h (g f o.state)
catch_on_grows l s w e o k h g = h

pub finish_on_grows : (l s : ℕ) (w : List (List ℕ)) (e : End) (o : Outcome) (f : State → State) → Rises l s w o → ((σ : State) → Keeps σ (f σ)) → Rises l s w (finish_on e o f)
finish_on_grows l s w Waiting o f h g = h
finish_on_grows l s w e o f h g = onto l s w o (ended e (f o.state)) h (kept_at o.state (f o.state) e (g o.state))

no_room_grows : (r : Option Row) → Grows (no_room r)
no_room_grows None σ = record { left_is = refl; le = omega arith; more = same _ }
no_room_grows (Some r) σ = record { left_is = refl; le = omega arith; more = same _ }

pub line_grows : (l : List ℕ) → Grows (line l)
line_grows l σ = either σ.left σ.steps σ.lines (nat_lt σ.room (room_of σ.row l)) _ _ (no_room_grows σ.row σ) (record { left_is = refl; le = omega arith; more = record { rest = l ∷ []; whole = refl } })

refused_grows : (c : Code) → Grows (refused c)
refused_grows c σ = either σ.left σ.steps σ.lines (is_uncatchable c) _ _ (record { left_is = refl; le = omega arith; more = same _ }) (record { left_is = refl; le = omega arith; more = same _ })

spend_grows : (n : ℕ) (ls : List (List ℕ)) (k : Runs) → Grows k → Grows (λ σ. spend n ls σ k)
spend_grows n ls k h σ =
    let x = h (spent n ls σ) in
    let y = x.le in
    either σ.left σ.steps σ.lines (nat_lt σ.left (σ.steps + n)) _ _ (record { left_is = refl; le = omega arith; more = record { rest = ls; whole = refl } }) (record { left_is = x.left_is; le = omega (arith, y); more = further _ _ _ (record { rest = ls; whole = refl }) x.more })

pub answered_grows : (a : Answer) (k : Answer → Runs) → ((a : Answer) → Grows (k a)) → Grows (λ σ. answered a σ k)
answered_grows (answer.Count n steps ls) k h σ = spend_grows steps ls (k (answer.Count n steps ls)) (h (answer.Count n steps ls)) σ
answered_grows (answer.Refused c steps ls) k h σ = spend_grows steps ls (refused c) (refused_grows c) σ
answered_grows (answer.View v) k h σ = h (answer.View v) σ
answered_grows (answer.Rows rows) k h σ = h (answer.Rows rows) σ
answered_grows answer.Done k h σ = h answer.Done σ
answered_grows answer.Invalid k h σ = h answer.Invalid σ
answered_grows answer.DiskFault k h σ = h answer.DiskFault σ
answered_grows answer.NoMemory k h σ = h answer.NoMemory σ
answered_grows answer.Stopped k h σ = h answer.Stopped σ

next_answer_grows : (given : List Answer) (σ : State) (k : Answer → Runs) → ((a : Answer) → Grows (k a)) → Rises σ.left σ.steps σ.lines (next_answer given σ k)
next_answer_grows [] σ k h = record { left_is = refl; le = omega arith; more = same _ }
next_answer_grows (a ∷ given) σ k h = let x = answered_grows a k h (record σ { answers = given }) in record { left_is = x.left_is; le = x.le; more = x.more }

pub asked_grows : (q : Ask) (k : Answer → Runs) → ((a : Answer) → Grows (k a)) → Grows (λ σ. asked q σ k)
asked_grows q k h σ = let x = next_answer_grows σ.answers (record σ { asks = σ.asks ++ q ∷ [] }) k h in record { left_is = x.left_is; le = x.le; more = x.more }

pub when_done_grows : (a : Answer) (k : Runs) → Grows k → Grows (when_done a k)
when_done_grows answer.Done k h σ = h σ
when_done_grows (answer.Count n steps ls) k h σ = record { left_is = refl; le = omega arith; more = same _ }
when_done_grows (answer.Refused c steps ls) k h σ = record { left_is = refl; le = omega arith; more = same _ }
when_done_grows (answer.View v) k h σ = record { left_is = refl; le = omega arith; more = same _ }
when_done_grows (answer.Rows rows) k h σ = record { left_is = refl; le = omega arith; more = same _ }
when_done_grows answer.Invalid k h σ = record { left_is = refl; le = omega arith; more = same _ }
when_done_grows answer.DiskFault k h σ = record { left_is = refl; le = omega arith; more = same _ }
when_done_grows answer.NoMemory k h σ = record { left_is = refl; le = omega arith; more = same _ }
when_done_grows answer.Stopped k h σ = record { left_is = refl; le = omega arith; more = same _ }

ends_grow : (q : Ask) (e : End) → Grows (λ σ. asked q σ (λ a. when_done a (ended e)))
ends_grow q e = asked_grows q (λ a. when_done a (ended e)) (λ a. when_done_grows a (ended e) (λ τ. record { left_is = refl; le = omega arith; more = same _ }))

pub close_on_grows : (l s : ℕ) (w : List (List ℕ)) (e : End) (o : Outcome) → Rises l s w o → Rises l s w (close_on e o)
close_on_grows l s w Waiting o h = h
close_on_grows l s w (Stopped c) o h = h
close_on_grows l s w (Raised f) o h = onto l s w o _ h (ends_grow (ask.PopAuto true) (Raised f) o.state)
close_on_grows l s w Normal o h = onto l s w o _ h (ends_grow (ask.PopAuto false) Normal o.state)
close_on_grows l s w Exit o h = onto l s w o _ h (ends_grow (ask.PopAuto false) Exit o.state)
close_on_grows l s w Continue o h = onto l s w o _ h (ends_grow (ask.PopAuto false) Continue o.state)
close_on_grows l s w Returned o h = onto l s w o _ h (ends_grow (ask.PopAuto false) Returned o.state)

pub by_itself_grows : (b : Bool) (k : Runs) → Grows k → Grows (by_itself b k)
by_itself_grows false k h σ = h σ
by_itself_grows true k h σ = asked_grows ask.PushAuto (λ a. when_done a (λ τ. closed (k τ))) (λ a. when_done_grows a (λ τ. closed (k τ)) (λ τ. close_on_grows τ.left τ.steps τ.lines (k τ).end (k τ) (h τ))) σ

-- ---- a turn, and the loop again

-- a state behind a step
record Later (σ τ : State) : Type 0 where
  left_is : τ.left ≡ σ.left
  below : σ.steps < σ.left
  above : σ.steps < τ.steps

abbrev counted : State → State
counted σ = record (bare σ) { steps = suc σ.steps }

step_same : (σ : State) (k l : Runs) → (σ.steps < σ.left → k (counted σ) ≡ l (counted σ)) → step σ k ≡ step σ l
step_same σ k l e = by_test (nat_lt σ.steps σ.left) (λ h. e (ltb-true σ.steps σ.left h))
  where
    by_test : (b : Bool) → (b ≡ true → k (counted σ) ≡ l (counted σ)) → (if b then k (counted σ) else stops (Ebr 7) (record σ { steps = suc σ.steps })) ≡ (if b then l (counted σ) else stops (Ebr 7) (record σ { steps = suc σ.steps }))
    by_test true h = h refl
    by_test false h = refl

turn_on_same : (e : End) (o : Outcome) (k l : Runs) → k o.state ≡ l o.state → turn_on e o k ≡ turn_on e o l
turn_on_same Normal o k l e = e
turn_on_same Continue o k l e = e
turn_on_same f o k l e = refl

turn_same : (head body again again' : Runs) → Grows head → Grows body → (σ : State) → ((τ : State) → Later σ τ → again τ ≡ again' τ) → turn head body again σ ≡ turn head body again' σ
turn_same head body again again' h b σ e =
    let o = head (bare σ) in
    turn_on_same o.end o _ _ (step_same o.state (λ x. after_turn (body x) again) (λ x. after_turn (body x) again') (λ p.
    let next = counted o.state in
    let x = h (bare σ) in
    let y = b next in
    let l1 = x.left_is in
    let s1 = x.le in
    let s2 = y.le in
    turn_on_same (body next).end (body next) again again' (e (body next).state (record { left_is = y.left_is ∙ x.left_is; below = omega (arith, l1, s1, p); above = omega (arith, s1, s2) }))))

turns_same : (head body : Runs) → Grows head → Grows body → (n m : ℕ) (σ : State) → σ.left - σ.steps < n → σ.left - σ.steps < m → turns n head body σ ≡ turns m head body σ
turns_same head body h b zero m σ p q = absurd (omega (arith, p))
turns_same head body h b (suc n) zero σ p q = absurd (omega (arith, q))
turns_same head body h b (suc n) (suc m) σ p q = turn_same head body (turns n head body) (turns m head body) h b σ (λ τ l.
    let x = l.left_is in
    let y = l.below in
    let z = l.above in
    turns_same head body h b n m τ (omega (arith, p, x, y, z)) (omega (arith, q, x, y, z)))

pub loop_turn : (head body : Runs) → Grows head → Grows body → (σ : State) → loop head body σ ≡ turn head body (loop head body) σ
unfolding loop
loop_turn head body h b σ = turn_same head body (turns (σ.left - σ.steps) head body) (loop head body) h b σ (λ τ l.
    let x = l.left_is in
    let y = l.below in
    let z = l.above in
    turns_same head body h b (σ.left - σ.steps) (suc (τ.left - τ.steps)) τ (omega (arith, x, y, z)) (omega arith))
