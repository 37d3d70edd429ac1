-- What a session does behind one exchange more.
use Rattle.std.proofs.Common.{ℕ, zero, suc, ◌≡◌, List, [], ◌∷◌, ◌++◌, length, Option, Some, None, refl, sym, ◌∙◌, ap, append_assoc, append-nil, length-append, add-one}
use Rattle.std.proofs.lemmas.List.{map-append}
use Rattle.ebr_asks.specs.declared.answer.Answer.{Answer}
use Rattle.ebr_asks.specs.declared.entry.Exchange.{Exchange}
use Rattle.ebr_calls.specs.Continuation.{AllContinue, Continues}
use Rattle.ebr_calls.specs.Courses.{after, later, with_answer}
use Rattle.ebr_calls.proofs.Going.{after_later}
use Rattle.ebr_session.specs.Transcripts.{answers, asks}
use Rattle.ebr_session.specs.Sessions.{SessionRun}
use Rattle.ebr_session.specs.inside.Holds.{course_behind}

pub answers_more : (mine : List Exchange) (e : Exchange) → answers (mine ++ e ∷ []) ≡ answers mine ++ e.answer ∷ []
answers_more mine e = map-append (λ (x : Exchange). x.answer) mine (e ∷ [])

pub asks_more : (mine : List Exchange) (e : Exchange) → asks (mine ++ e ∷ []) ≡ asks mine ++ e.ask ∷ []
asks_more mine e = map-append (λ (x : Exchange). x.ask) mine (e ∷ [])

pub length_more : (mine : List Exchange) (e : Exchange) → length (mine ++ e ∷ []) ≡ suc (length mine)
length_more mine e = length-append mine (e ∷ []) ∙ add-one (length mine)

pub as_many : (mine : List Exchange) → length (answers mine) ≡ length mine
as_many [] = refl
as_many (e ∷ mine) = ap suc (as_many mine)

course_more : (script : List ℕ) (mine : List Exchange) (e : Exchange) (coming : List Answer) (quit : Option ℕ) → course_behind script (mine ++ e ∷ []) coming quit ≡ with_answer e.answer (course_behind script mine) coming quit
course_more script mine e coming quit =
    ap (λ l. SessionRun script (l ++ coming) (after (length (mine ++ e ∷ [])) quit)) (answers_more mine e)
    ∙ ap (λ l. SessionRun script l (after (length (mine ++ e ∷ [])) quit)) (append_assoc (answers mine) (e.answer ∷ []) coming)
    ∙ ap (λ n. SessionRun script (answers mine ++ e.answer ∷ coming) (after n quit)) (length_more mine e)
    ∙ ap (SessionRun script (answers mine ++ e.answer ∷ coming)) (sym (after_later (length mine) quit))

-- behind one exchange more, it does what it does with that answer
pub same_course : (script : List ℕ) (mine : List Exchange) (e : Exchange) → course_behind script (mine ++ e ∷ []) ≡ with_answer e.answer (course_behind script mine)
same_course script mine e = λ i coming quit. course_more script mine e coming quit i

pub after_none : (n : ℕ) → after n None ≡ None
after_none zero = refl
after_none (suc n) = ap later (after_none n)

pub after_some : (n : ℕ) → after n (Some zero) ≡ Some n
after_some zero = refl
after_some (suc n) = ap later (after_some n)

-- what a session has done that doesn't quit, ..
pub run_unquit : (script : List ℕ) (mine : List Exchange) → SessionRun script (answers mine) None ≡ course_behind script mine [] None
run_unquit script mine = sym (ap (λ l. SessionRun script l (after (length mine) None)) (append-nil (answers mine)) ∙ ap (SessionRun script (answers mine)) (after_none (length mine)))

-- .. and one that quits now
pub run_quit : (script : List ℕ) (mine : List Exchange) → SessionRun script (answers mine) (Some (length mine)) ≡ course_behind script mine [] (Some zero)
run_quit script mine = sym (ap (λ l. SessionRun script l (after (length mine) (Some zero))) (append-nil (answers mine)) ∙ ap (SessionRun script (answers mine)) (after_some (length mine)))

-- one that took one more answer, and none that quit before it
pub run_more : (script : List ℕ) (mine : List Exchange) (e : Exchange) → SessionRun script (answers (mine ++ e ∷ [])) None ≡ course_behind script mine (e.answer ∷ []) None
run_more script mine e = run_unquit script (mine ++ e ∷ []) ∙ course_more script mine e [] None

pub run_left : (script : List ℕ) (mine : List Exchange) (e : Exchange) → SessionRun script (answers (mine ++ e ∷ [])) (Some (length mine)) ≡ course_behind script mine (e.answer ∷ []) (Some zero)
run_left script mine e = ap (λ l. SessionRun script l (Some (length mine))) (answers_more mine e) ∙ ap (SessionRun script (answers mine ++ e.answer ∷ [])) (sym (after_some (length mine)))

pub went_on_more : (mine : List Exchange) (e : Exchange) → AllContinue (answers mine) → Continues e.answer → AllContinue (answers (mine ++ e ∷ []))
went_on_more [] e all c = (c, tt)
went_on_more (y ∷ mine) e all c = (all.0, went_on_more mine e all.1 c)
