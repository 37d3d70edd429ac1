-- How a session goes on with its asks and their answers.
use Rattle.std.proofs.Common.{ℕ, zero, suc, ◌≡◌, List, [], ◌∷◌, ◌++◌, length, Option, Some, None, refl, ◌∙◌, ap}
use Rattle.ebr_asks.specs.declared.ask.Ask.{Ask}
use Rattle.ebr_asks.specs.declared.ask.Ask.TheVariants as ask
use Rattle.ebr_asks.specs.declared.answer.Answer.{Answer}
use Rattle.ebr_asks.specs.declared.answer.Answer.TheVariants as answer
use Rattle.ebr_calls.specs.Steps.{State, Step, Ended, ended, then_run, one_less, less, next_answer, leaving, on_answer, asked, printing, usable}
use Rattle.ebr_calls.specs.Continuation.{Continues, AllContinue}
use Rattle.ebr_calls.specs.Courses.{Course, Place, GoesOn, Asks, AsksNext, state_at, later, after, with_answer, with_ask, takes}

-- ---- moments of quitting

pub one_later : (q : Option ℕ) → one_less (later q) ≡ q
one_later None = refl
one_later (Some n) = refl

pub less_after : (n : ℕ) (q : Option ℕ) → less n (after n q) ≡ q
less_after zero q = refl
less_after (suc n) q = ap (less n) (one_later (after n q)) ∙ less_after n q

pub after_later : (n : ℕ) (q : Option ℕ) → after n (later q) ≡ later (after n q)
after_later zero q = refl
after_later (suc n) q = ap later (after_later n q)

-- ---- answers that go on

pub continues : (x : Answer) (k : Answer → Step) (σ : State) → Continues x → on_answer x k σ ≡ k x σ
continues answer.DiskFault k σ c = absurd c
continues answer.NoMemory k σ c = absurd c
continues answer.Stopped k σ c = absurd c
continues x k σ c = refl

usable_more : (w : Option ℕ) (x : Answer) (xs : List Answer) → Continues x → usable (later w) (x ∷ xs) ≡ x ∷ usable w xs
usable_more w answer.DiskFault xs c = absurd c
usable_more w answer.NoMemory xs c = absurd c
usable_more w answer.Stopped xs c = absurd c
usable_more None x xs c = refl
usable_more (Some n) x xs c = refl

pub usable_after : (xs coming : List Answer) (quit : Option ℕ) → AllContinue xs → usable (after (length xs) quit) (xs ++ coming) ≡ xs ++ usable quit coming
usable_after [] coming quit all = refl
usable_after (x ∷ xs) coming quit all = usable_more (after (length xs) quit) x (xs ++ coming) all.0 ∙ ap (λ l. x ∷ l) (usable_after xs coming quit all.1)

pub all_more : (xs : List Answer) (x : Answer) → AllContinue xs → Continues x → AllContinue (xs ++ x ∷ [])
all_more [] x all c = (c, tt)
all_more (y ∷ xs) x all c = (all.0, all_more xs x all.1 c)

-- ---- asks

left_then : (xs : List Answer) (σ : State) (rest : Step) → then_run (next_answer xs σ (λ x τ. ended τ Ended)) rest ≡ next_answer xs σ (λ x τ. ended τ Ended)
left_then [] σ rest = refl
left_then (x ∷ xs) σ rest = refl

leaving_then : (σ : State) (rest : Step) → then_run (leaving σ) rest ≡ leaving σ
leaving_then σ rest = left_then σ.coming _ rest

-- It makes an ask, if it goes on with this ask wherever no answer comes that it takes.
pub asks_where : (f : Course) (q : Ask) (k : Answer → Step) (rest : Step) (p : Place)
    → ((coming : List Answer) (quit : Option ℕ) → usable quit coming ≡ [] → f coming quit ≡ then_run (asked q k (state_at p coming quit)) rest) → Asks f q p
asks_where f q k rest p h = record { by = made }
  where
    made : (coming : List Answer) (quit : Option ℕ) → f coming quit ≡ asked q (takes f) (state_at p coming quit)
    made coming (Some zero) = h coming (Some zero) refl ∙ leaving_then (state_at p coming (Some zero)) rest
    made [] None = h [] None refl
    made [] (Some (suc n)) = h [] (Some (suc n)) refl
    made (answer.DiskFault ∷ xs) None = h (answer.DiskFault ∷ xs) None refl
    made (answer.DiskFault ∷ xs) (Some (suc n)) = h (answer.DiskFault ∷ xs) (Some (suc n)) refl
    made (answer.NoMemory ∷ xs) None = h (answer.NoMemory ∷ xs) None refl ∙ leaving_then (state_at (with_ask q p) xs None) rest
    made (answer.NoMemory ∷ xs) (Some (suc n)) = h (answer.NoMemory ∷ xs) (Some (suc n)) refl ∙ leaving_then (state_at (with_ask q p) xs (Some n)) rest
    made (answer.Stopped ∷ xs) None = h (answer.Stopped ∷ xs) None refl
    made (answer.Stopped ∷ xs) (Some (suc n)) = h (answer.Stopped ∷ xs) (Some (suc n)) refl
    made (x ∷ xs) None = refl
    made (x ∷ xs) (Some (suc n)) = refl

-- An ask, and what is done with its answer.
pub asks_then : (f : Course) (q : Ask) (k : Answer → Step) (rest : Step) (p : Place) → GoesOn f (λ σ. then_run (asked q k σ) rest) p → Asks f q p
asks_then f q k rest p was = asks_where f q k rest p (λ coming quit u. was.by coming quit)

-- an ask whose answer has come
answered_once : (q : Ask) (k : Answer → Step) (x : Answer) (p : Place) (coming : List Answer) (quit : Option ℕ)
    → asked q k (state_at p (x ∷ coming) (later quit)) ≡ on_answer x k (state_at (with_ask q p) coming quit)
answered_once q k x p coming None = refl
answered_once q k x p coming (Some n) = refl

-- The answer has come, and it goes on.
pub goes_answered : (f : Course) (q : Ask) (k : Answer → Step) (rest : Step) (p : Place) (x : Answer) → Continues x
    → GoesOn f (λ σ. then_run (asked q k σ) rest) p → GoesOn (with_answer x f) (λ σ. then_run (k x σ) rest) (with_ask q p)
goes_answered f q k rest p x c was = record {
  by = λ coming quit. was.by (x ∷ coming) (later quit)
      ∙ ap (λ o. then_run o rest) (answered_once q k x p coming quit ∙ continues x k (state_at (with_ask q p) coming quit) c);
}

-- The answer was that there is no memory, and it leaves.
pub goes_short : (f : Course) (q : Ask) (p : Place) → Asks f q p → GoesOn (with_answer answer.NoMemory f) leaving (with_ask q p)
goes_short f q p h = record { by = λ coming quit. h.by (answer.NoMemory ∷ coming) (later quit) ∙ answered_once q (takes f) answer.NoMemory p coming quit }

-- An ask that is made is the next one, ..
pub asks_next : (f : Course) (q : Ask) (p : Place) → Asks f q p → AsksNext f q p
asks_next f q p h = record { out = h.by [] None; left = λ coming. h.by coming (Some zero) }

-- .. and so is Leave.
pub leaves_next : (f : Course) (p : Place) → GoesOn f leaving p → AsksNext f ask.Leave p
leaves_next f p h = record { out = h.by [] None; left = λ coming. h.by coming (Some zero) }

-- A text was printed.
pub goes_printed : (f : Course) (t : List ℕ) (rest : Step) (p : Place) → GoesOn f (λ σ. then_run (printing t σ) rest) p → GoesOn f rest (record p { printed = p.printed ++ t })
goes_printed f t rest p was = record { by = was.by }
