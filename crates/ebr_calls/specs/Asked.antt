-- What the run of a block may ask.
use Rattle.std.specs.Prelude.{ℕ, suc, ◌≡◌, ◌≤◌, List, [], ◌∷◌, length}
use Rattle.ebr_asks.specs.declared.ask.Ask.{Ask}
use Rattle.ebr_asks.specs.declared.ask.Ask.TheVariants as ask
use Rattle.ebr_asks.specs.declared.answer.Answer.{Answer}
use Rattle.ebr_run.specs.Run.{Seen, RunStatus, Waiting}

-- An ask of a run with at most so many steps: a statement with what is left of them, or one of a transaction.
abbrev pub IsOfRun : ℕ → Ask → Type 0
IsOfRun most (ask.Sql s binds left) = left ≤ most
IsOfRun most ask.Begin = ⊥
IsOfRun most (ask.Ddl what text) = ⊥
IsOfRun most (ask.SetEdition name) = ⊥
IsOfRun most (ask.EndCall failed) = ⊥
IsOfRun most ask.Leave = ⊥
IsOfRun most q = Unit {0}

abbrev pub AreOfRun : ℕ → List Ask → Type 0
AreOfRun most [] = Unit {0}
AreOfRun most (q ∷ asks) = IsOfRun most q × AreOfRun most asks

-- It made an ask for each answer, and one more where it waits; where it has ended there may be answers left.
abbrev pub HasTaken : RunStatus → ℕ → ℕ → Type 0
HasTaken Waiting asks answers = asks ≡ suc answers
HasTaken s asks answers = asks ≤ answers

-- what is seen of a run with at most so many steps, that is given these answers
pub record IsCounted (most : ℕ) (answers : List Answer) (r : Seen) : Type 0 where
  pub taken : HasTaken r.standing (length r.asks) (length answers)
  pub kinds : AreOfRun most r.asks
