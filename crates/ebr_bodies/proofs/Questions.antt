-- Questions that were asked one after the other.
use Rattle.std.proofs.Common.{List, [], ◌∷◌, ◌++◌}
use Rattle.ebr_database.specs.Outcome.{Question}
use Rattle.ebr_database.specs.Outcome.Question.{Fires, Full}
use Rattle.ebr_exec.specs.Places.{Names}
use Rattle.ebr_bodies.specs.Agree.{AnswerAlike, NeverFull}

pub alike_front : (m n : Names) (asked more : List Question) → AnswerAlike m n (asked ++ more) → AnswerAlike m n asked
alike_front m n [] more h = tt
alike_front m n (Fires e named o at from ∷ asked) more h = (h.0, alike_front m n asked more h.1)
alike_front m n (Full ∷ asked) more h = alike_front m n asked more h

pub alike_back : (m n : Names) (asked more : List Question) → AnswerAlike m n (asked ++ more) → AnswerAlike m n more
alike_back m n [] more h = h
alike_back m n (Fires e named o at from ∷ asked) more h = alike_back m n asked more h.1
alike_back m n (Full ∷ asked) more h = alike_back m n asked more h

pub never_front : (asked more : List Question) → NeverFull (asked ++ more) → NeverFull asked
never_front [] more h = tt
never_front (Fires e named o at from ∷ asked) more h = never_front asked more h
never_front (Full ∷ asked) more h = absurd h

pub never_back : (asked more : List Question) → NeverFull (asked ++ more) → NeverFull more
never_back [] more h = h
never_back (Fires e named o at from ∷ asked) more h = never_back asked more h
never_back (Full ∷ asked) more h = absurd h
