-- The answers behind which a session goes on with its script.
use Rattle.std.specs.Prelude.{List, [], ◌∷◌}
use Rattle.ebr_asks.specs.declared.answer.Answer.{Answer}
use Rattle.ebr_asks.specs.declared.answer.Answer.TheVariants as answer

-- an answer behind which the session goes on with its script
abbrev pub Continues : Answer → Type 0
Continues answer.DiskFault = ⊥
Continues answer.NoMemory = ⊥
Continues answer.Stopped = ⊥
Continues x = Unit {0}

abbrev pub AllContinue : List Answer → Type 0
AllContinue [] = Unit {0}
AllContinue (x ∷ xs) = Continues x × AllContinue xs
