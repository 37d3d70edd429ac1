-- How many answers a run takes: one for each ask, but for the one that it waits for.
use Rattle.std.proofs.Common.{◌≡◌, ℕ, zero, suc, ◌+◌, ◌-◌, Bool, true, false, if◌then◌else◌, List, [], ◌∷◌, ◌++◌, length, Option, Some, None, refl, sym, ap, subst, ◌∙◌, arith, append-nil, append_assoc, length-append}
use Rattle.std.specs.Prelude.{nat_lt}
use Rattle.ebr_base.specs.declared.code.Code.{Code}
use Rattle.ebr_asks.specs.declared.ask.Ask.{Ask}
use Rattle.ebr_asks.specs.declared.ask.Ask.TheVariants as ask
use Rattle.ebr_asks.specs.declared.answer.Answer.{Answer}
use Rattle.ebr_asks.specs.declared.answer.Answer.TheVariants as answer
use Rattle.ebr_run.specs.declared.fault.Fault.{Fault}
use Rattle.ebr_run.specs.Faults.{is_uncatchable}
use Rattle.ebr_run.specs.State.{State, Outcome, End, Runs, Normal, Exit, Continue, Returned, Raised, Stopped, Waiting, Row, bare, ended, done, go_on, step, turn_on, after_turn, turn, turns, loop, counting, catch_on, finish_on, no_room, line, room_of, refused, spent, spend, answered, next_answer, asked, when_done, close_on, closed, by_itself}
use Rattle.ebr_calls.specs.Asked.{IsOfRun, AreOfRun}

-- As many answers were taken as asks were made; one less where the last one waits, and then none is left.
abbrev pub IsEven : End → ℕ → ℕ → List Answer → Type 0
IsEven Waiting m n rest = (m ≡ suc n) × (rest ≡ [])
IsEven e m n rest = m ≡ n

-- The most steps are the same, and there are the asks that were made, and the answers that were taken.
pub record Counts (l : ℕ) (asks : List Ask) (given : List Answer) (o : Outcome) : Type 0 where
  pub left_is : o.state.left ≡ l
  pub made : List Ask
  pub used : List Answer
  pub asks_are : o.state.asks ≡ asks ++ made
  pub given_are : given ≡ used ++ o.state.answers
  pub even : IsEven o.end (length made) (length used) o.state.answers
  pub kinds : AreOfRun l made

abbrev pub CountsIn : Runs → Type 0
CountsIn f = (σ : State) → Counts σ.left σ.asks σ.answers (f σ)

-- a state with the same asks and answers
pub record Keeps (σ τ : State) : Type 0 where
  pub left_is : τ.left ≡ σ.left
  pub asks_are : τ.asks ≡ σ.asks
  pub given_are : τ.answers ≡ σ.answers

pub kept_at : (σ τ : State) (e : End) → IsEven e zero zero τ.answers → Keeps σ τ → Counts σ.left σ.asks σ.answers (ended e τ)
kept_at σ τ e v k = record { left_is = k.left_is; made = []; used = []; asks_are = k.asks_are ∙ sym (append-nil σ.asks); given_are = sym k.given_are; even = v; kinds = tt }

pub kept_done : (σ τ : State) → Keeps σ τ → Counts σ.left σ.asks σ.answers (done τ)
kept_done σ τ k = record { left_is = k.left_is; made = []; used = []; asks_are = k.asks_are ∙ sym (append-nil σ.asks); given_are = sym k.given_are; even = refl; kinds = tt }

more_even : (e : End) (a b : List Ask) (c d : List Answer) (rest : List Answer) → length a ≡ length c → IsEven e (length b) (length d) rest → IsEven e (length (a ++ b)) (length (c ++ d)) rest
more_even Waiting a b c d rest n v = (length-append a b ∙ omega (arith, n, v.0) ∙ ap suc (sym (length-append c d)), v.1)
more_even Normal a b c d rest n v = length-append a b ∙ omega (arith, n, v) ∙ sym (length-append c d)
more_even Exit a b c d rest n v = length-append a b ∙ omega (arith, n, v) ∙ sym (length-append c d)
more_even Continue a b c d rest n v = length-append a b ∙ omega (arith, n, v) ∙ sym (length-append c d)
more_even Returned a b c d rest n v = length-append a b ∙ omega (arith, n, v) ∙ sym (length-append c d)
more_even (Raised f) a b c d rest n v = length-append a b ∙ omega (arith, n, v) ∙ sym (length-append c d)
more_even (Stopped x) a b c d rest n v = length-append a b ∙ omega (arith, n, v) ∙ sym (length-append c d)

pub all_of : (l : ℕ) (a b : List Ask) → AreOfRun l a → AreOfRun l b → AreOfRun l (a ++ b)
all_of l [] b h k = k
all_of l (q ∷ a) b h k = (h.0, all_of l a b h.1 k)

-- One run after another that doesn't wait.
pub onto : (l : ℕ) (s : List Ask) (w : List Answer) (o o' : Outcome) (h : Counts l s w o) → length h.made ≡ length h.used → Counts o.state.left o.state.asks o.state.answers o' → Counts l s w o'
onto l s w o o' h n k = record {
  left_is = k.left_is ∙ h.left_is;
  made = h.made ++ k.made;
  used = h.used ++ k.used;
  asks_are = k.asks_are ∙ ap (λ a. a ++ k.made) h.asks_are ∙ append_assoc s h.made k.made;
  given_are = h.given_are ∙ ap (λ g. h.used ++ g) k.given_are ∙ sym (append_assoc h.used k.used o'.state.answers);
  even = more_even o'.end h.made k.made h.used k.used o'.state.answers n k.even;
  kinds = all_of l h.made k.made h.kinds (subst (λ m. AreOfRun m k.made) h.left_is k.kinds);
}

-- the count of one that ended so
pub evened : (l : ℕ) (s : List Ask) (w : List Answer) (e : End) (o : Outcome) → o.end ≡ e → (h : Counts l s w o) → IsEven e (length h.made) (length h.used) o.state.answers
evened l s w e o same h = subst (λ d. IsEven d (length h.made) (length h.used) o.state.answers) same h.even

-- the same asks and answers, and another end
pub ending_so : (l : ℕ) (s : List Ask) (w : List Answer) (o : Outcome) (e : End) (τ : State) (h : Counts l s w o) → Keeps o.state τ → IsEven e (length h.made) (length h.used) τ.answers → Counts l s w (ended e τ)
ending_so l s w o e τ h k v = record { left_is = k.left_is ∙ h.left_is; made = h.made; used = h.used; asks_are = k.asks_are ∙ h.asks_are; given_are = h.given_are ∙ ap (λ g. h.used ++ g) (sym k.given_are); even = v; kinds = h.kinds }

pub kept_then : (σ τ : State) (f : Runs) → Keeps σ τ → CountsIn f → Counts σ.left σ.asks σ.answers (f τ)
unfolding kept_at
kept_then σ τ f k h = onto σ.left σ.asks σ.answers (ended Normal τ) (f τ) (kept_at σ τ Normal refl k) refl (h τ)

pub either : (l : ℕ) (s : List Ask) (w : List Answer) (b : Bool) (x y : Outcome) → Counts l s w x → Counts l s w y → Counts l s w (if b then x else y)
either l s w true x y p q = p
either l s w false x y p q = q

pub go_on_counts : (l : ℕ) (s : List Ask) (w : List Answer) (e : End) (o : Outcome) (k : Runs) → o.end ≡ e → Counts l s w o → CountsIn k → Counts l s w (go_on e o k)
go_on_counts l s w Normal o k same h g = onto l s w o (k o.state) h (evened l s w Normal o same h) (g o.state)
go_on_counts l s w e o k same h g = h

pub step_counts : (k : Runs) → CountsIn k → CountsIn (λ σ. step σ k)
step_counts k h σ =
    let next = record (bare σ) { steps = suc σ.steps } in
    let x = h next in
    either σ.left σ.asks σ.answers (nat_lt σ.steps σ.left) _ _ (record { left_is = x.left_is; made = x.made; used = x.used; asks_are = x.asks_are; given_are = x.given_are; even = x.even; kinds = x.kinds }) (record { left_is = refl; made = []; used = []; asks_are = sym (append-nil σ.asks); given_are = refl; even = refl; kinds = tt })

pub turn_on_counts : (l : ℕ) (s : List Ask) (w : List Answer) (e : End) (o : Outcome) (k : Runs) → o.end ≡ e → Counts l s w o → CountsIn k → Counts l s w (turn_on e o k)
turn_on_counts l s w Normal o k same h g = onto l s w o (k o.state) h (evened l s w Normal o same h) (g o.state)
turn_on_counts l s w Continue o k same h g = onto l s w o (k o.state) h (evened l s w Continue o same h) (g o.state)
turn_on_counts l s w Exit o k same h g = ending_so l s w o Normal (bare o.state) h (record { left_is = refl; asks_are = refl; given_are = refl }) (evened l s w Exit o same h)
turn_on_counts l s w e o k same h g = h

pub turn_counts : (head body again : Runs) → CountsIn head → CountsIn body → CountsIn again → CountsIn (turn head body again)
turn_counts head body again h b a σ =
    let o = head (bare σ) in
    let x = h (bare σ) in
    turn_on_counts σ.left σ.asks σ.answers o.end o _ refl (record { left_is = x.left_is; made = x.made; used = x.used; asks_are = x.asks_are; given_are = x.given_are; even = x.even; kinds = x.kinds }) (step_counts (λ υ. after_turn (body υ) again) (λ υ. turn_on_counts υ.left υ.asks υ.answers (body υ).end (body υ) again refl (b υ) a))

pub turns_count : (n : ℕ) (head body : Runs) → CountsIn head → CountsIn body → CountsIn (turns n head body)
turns_count zero head body h b σ = record { left_is = refl; made = []; used = []; asks_are = sym (append-nil σ.asks); given_are = refl; even = refl; kinds = tt }
turns_count (suc n) head body h b σ = turn_counts head body (turns n head body) h b (turns_count n head body h b) σ

pub loop_counts : (head body : Runs) → CountsIn head → CountsIn body → CountsIn (loop head body)
unfolding loop
loop_counts head body h b σ = turns_count (suc (σ.left - σ.steps)) head body h b σ

pub counting_counts : (n : ℕ) (body : ℕ → Runs) → ((n : ℕ) → CountsIn (body n)) → CountsIn (counting n body)
counting_counts zero body h σ = record { left_is = refl; made = []; used = []; asks_are = sym (append-nil σ.asks); given_are = refl; even = refl; kinds = tt }
counting_counts (suc n) body h σ = step_counts (λ τ. after_turn (body n τ) (counting n body)) (λ τ. turn_on_counts τ.left τ.asks τ.answers (body n τ).end (body n τ) (counting n body) refl (h n τ) (counting_counts n body h)) σ

pub catch_on_counts : (l : ℕ) (s : List Ask) (w : List Answer) (e : End) (o : Outcome) (k : Fault → Runs) → o.end ≡ e → Counts l s w o → ((f : Fault) → CountsIn (k f)) → Counts l s w (catch_on e o k)
catch_on_counts l s w (Raised f) o k same h g = onto l s w o (k f o.state) h (evened l s w (Raised f) o same h) (g f o.state)
catch_on_counts l s w e o k same h g = h

pub finish_on_counts : (l : ℕ) (s : List Ask) (w : List Answer) (e : End) (o : Outcome) (f : State → State) → o.end ≡ e → Counts l s w o → ((σ : State) → Keeps σ (f σ)) → Counts l s w (finish_on e o f)
finish_on_counts l s w Waiting o f same h g = h
finish_on_counts l s w Normal o f same h g = ending_so l s w o Normal (f o.state) h (g o.state) (evened l s w Normal o same h)
finish_on_counts l s w Exit o f same h g = ending_so l s w o Exit (f o.state) h (g o.state) (evened l s w Exit o same h)
finish_on_counts l s w Continue o f same h g = ending_so l s w o Continue (f o.state) h (g o.state) (evened l s w Continue o same h)
finish_on_counts l s w Returned o f same h g = ending_so l s w o Returned (f o.state) h (g o.state) (evened l s w Returned o same h)
finish_on_counts l s w (Raised x) o f same h g = ending_so l s w o (Raised x) (f o.state) h (g o.state) (evened l s w (Raised x) o same h)
finish_on_counts l s w (Stopped c) o f same h g = ending_so l s w o (Stopped c) (f o.state) h (g o.state) (evened l s w (Stopped c) o same h)

no_room_counts : (r : Option Row) → CountsIn (no_room r)
no_room_counts None σ = record { left_is = refl; made = []; used = []; asks_are = sym (append-nil σ.asks); given_are = refl; even = refl; kinds = tt }
no_room_counts (Some r) σ = record { left_is = refl; made = []; used = []; asks_are = sym (append-nil σ.asks); given_are = refl; even = refl; kinds = tt }

pub line_counts : (l : List ℕ) → CountsIn (line l)
line_counts l σ = either σ.left σ.asks σ.answers (nat_lt σ.room (room_of σ.row l)) _ _ (no_room_counts σ.row σ) (record { left_is = refl; made = []; used = []; asks_are = sym (append-nil σ.asks); given_are = refl; even = refl; kinds = tt })

refused_counts : (c : Code) → CountsIn (refused c)
refused_counts c σ = either σ.left σ.asks σ.answers (is_uncatchable c) _ _ (record { left_is = refl; made = []; used = []; asks_are = sym (append-nil σ.asks); given_are = refl; even = refl; kinds = tt }) (record { left_is = refl; made = []; used = []; asks_are = sym (append-nil σ.asks); given_are = refl; even = refl; kinds = tt })

spend_counts : (n : ℕ) (ls : List (List ℕ)) (k : Runs) → CountsIn k → CountsIn (λ σ. spend n ls σ k)
spend_counts n ls k h σ =
    let x = h (spent n ls σ) in
    either σ.left σ.asks σ.answers (nat_lt σ.left (σ.steps + n)) _ _ (record { left_is = refl; made = []; used = []; asks_are = sym (append-nil σ.asks); given_are = refl; even = refl; kinds = tt }) (record { left_is = x.left_is; made = x.made; used = x.used; asks_are = x.asks_are; given_are = x.given_are; even = x.even; kinds = x.kinds })

pub answered_counts : (a : Answer) (k : Answer → Runs) → ((a : Answer) → CountsIn (k a)) → CountsIn (λ σ. answered a σ k)
answered_counts (answer.Count n steps ls) k h σ = spend_counts steps ls (k (answer.Count n steps ls)) (h (answer.Count n steps ls)) σ
answered_counts (answer.Refused c steps ls) k h σ = spend_counts steps ls (refused c) (refused_counts c) σ
answered_counts (answer.View v) k h σ = h (answer.View v) σ
answered_counts (answer.Rows rows) k h σ = h (answer.Rows rows) σ
answered_counts answer.Done k h σ = h answer.Done σ
answered_counts answer.Invalid k h σ = h answer.Invalid σ
answered_counts answer.DiskFault k h σ = h answer.DiskFault σ
answered_counts answer.NoMemory k h σ = h answer.NoMemory σ
answered_counts answer.Stopped k h σ = h answer.Stopped σ

one_more : (e : End) (made : List Ask) (used : List Answer) (q : Ask) (a : Answer) (rest : List Answer) → IsEven e (length made) (length used) rest → IsEven e (length (q ∷ made)) (length (a ∷ used)) rest
one_more Waiting made used q a rest v = (ap suc v.0, v.1)
one_more Normal made used q a rest v = ap suc v
one_more Exit made used q a rest v = ap suc v
one_more Continue made used q a rest v = ap suc v
one_more Returned made used q a rest v = ap suc v
one_more (Raised f) made used q a rest v = ap suc v
one_more (Stopped c) made used q a rest v = ap suc v

-- an ask, with the answer that it is given, if there is one
next_answer_counts : (given : List Answer) (σ : State) (q : Ask) (k : Answer → Runs) → IsOfRun σ.left q → ((a : Answer) → CountsIn (k a)) → Counts σ.left σ.asks given (next_answer given (record σ { asks = σ.asks ++ q ∷ []; answers = given }) k)
next_answer_counts [] σ q k fit h = record { left_is = refl; made = q ∷ []; used = []; asks_are = refl; given_are = refl; even = (refl, refl); kinds = (fit, tt) }
next_answer_counts (a ∷ given) σ q k fit h =
    let τ = record σ { asks = σ.asks ++ q ∷ []; answers = given } in
    let x = answered_counts a k h τ in
    record {
      left_is = x.left_is;
      made = q ∷ x.made;
      used = a ∷ x.used;
      asks_are = x.asks_are ∙ append_assoc σ.asks (q ∷ []) x.made;
      given_are = ap (λ g. a ∷ g) x.given_are;
      even = one_more (answered a τ k).end x.made x.used q a (answered a τ k).state.answers x.even;
      kinds = (fit, x.kinds);
    }

pub asked_counts : (q : Ask) (k : Answer → Runs) → ((a : Answer) → CountsIn (k a)) → (σ : State) → IsOfRun σ.left q → Counts σ.left σ.asks σ.answers (asked q σ k)
asked_counts q k h σ fit = next_answer_counts σ.answers σ q k fit h

pub when_done_counts : (a : Answer) (k : Runs) → CountsIn k → CountsIn (when_done a k)
when_done_counts answer.Done k h σ = h σ
when_done_counts (answer.Count n steps ls) k h σ = record { left_is = refl; made = []; used = []; asks_are = sym (append-nil σ.asks); given_are = refl; even = refl; kinds = tt }
when_done_counts (answer.Refused c steps ls) k h σ = record { left_is = refl; made = []; used = []; asks_are = sym (append-nil σ.asks); given_are = refl; even = refl; kinds = tt }
when_done_counts (answer.View v) k h σ = record { left_is = refl; made = []; used = []; asks_are = sym (append-nil σ.asks); given_are = refl; even = refl; kinds = tt }
when_done_counts (answer.Rows rows) k h σ = record { left_is = refl; made = []; used = []; asks_are = sym (append-nil σ.asks); given_are = refl; even = refl; kinds = tt }
when_done_counts answer.Invalid k h σ = record { left_is = refl; made = []; used = []; asks_are = sym (append-nil σ.asks); given_are = refl; even = refl; kinds = tt }
when_done_counts answer.DiskFault k h σ = record { left_is = refl; made = []; used = []; asks_are = sym (append-nil σ.asks); given_are = refl; even = refl; kinds = tt }
when_done_counts answer.NoMemory k h σ = record { left_is = refl; made = []; used = []; asks_are = sym (append-nil σ.asks); given_are = refl; even = refl; kinds = tt }
when_done_counts answer.Stopped k h σ = record { left_is = refl; made = []; used = []; asks_are = sym (append-nil σ.asks); given_are = refl; even = refl; kinds = tt }

-- a transaction of its own ends
ends_count : (b : Bool) (e : End) → ((given : List Answer) → IsEven e zero zero given) → CountsIn (λ σ. asked (ask.PopAuto b) σ (λ a. when_done a (ended e)))
ends_count b e v σ = asked_counts (ask.PopAuto b) (λ a. when_done a (ended e)) (λ a. when_done_counts a (ended e) (λ τ. kept_at τ τ e (v τ.answers) (record { left_is = refl; asks_are = refl; given_are = refl }))) σ tt

pub close_on_counts : (l : ℕ) (s : List Ask) (w : List Answer) (e : End) (o : Outcome) → o.end ≡ e → Counts l s w o → Counts l s w (close_on e o)
close_on_counts l s w Waiting o same h = h
close_on_counts l s w (Stopped c) o same h = h
close_on_counts l s w (Raised f) o same h = onto l s w o _ h (evened l s w (Raised f) o same h) (ends_count true (Raised f) (λ g. refl) o.state)
close_on_counts l s w Normal o same h = onto l s w o _ h (evened l s w Normal o same h) (ends_count false Normal (λ g. refl) o.state)
close_on_counts l s w Exit o same h = onto l s w o _ h (evened l s w Exit o same h) (ends_count false Exit (λ g. refl) o.state)
close_on_counts l s w Continue o same h = onto l s w o _ h (evened l s w Continue o same h) (ends_count false Continue (λ g. refl) o.state)
close_on_counts l s w Returned o same h = onto l s w o _ h (evened l s w Returned o same h) (ends_count false Returned (λ g. refl) o.state)

pub by_itself_counts : (b : Bool) (k : Runs) → CountsIn k → CountsIn (by_itself b k)
by_itself_counts false k h σ = h σ
by_itself_counts true k h σ = asked_counts ask.PushAuto (λ a. when_done a (λ τ. closed (k τ))) (λ a. when_done_counts a (λ τ. closed (k τ)) (λ τ. close_on_counts τ.left τ.asks τ.answers (k τ).end (k τ) refl (h τ))) σ tt
