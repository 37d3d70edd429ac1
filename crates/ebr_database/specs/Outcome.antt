-- What a step of the database gives: the state that it leaves, the records that it made, in order, what it asked of the
-- catalogue and the keeper that others might answer differently, and its value.
use Rattle.std.specs.Prelude.{ℕ, List, [], ◌++◌, Result, Ok, Err}
use Rattle.ebr_base.specs.declared.code.Code.{Code}
use Rattle.ebr_base.specs.declared.numbers.EditionNo.{EditionNo}
use Rattle.ebr_exprtree.specs.declared.op.Op.{Op}
use Rattle.ebr_ast.specs.declared.kinds.Timing.{Timing}
use Rattle.ebr_ast.specs.declared.kinds.Origin.{Origin}
use Rattle.ebr_record.specs.declared.record.Record.{Record}

-- Which triggers fire, for DML in an edition on what it names; and that the journal was full (EBR-0042).
pub data Question : Type 0 where
  Fires : EditionNo → List ℕ → Op → Timing → Origin → Question
  Full : Question

pub record Outcome (S A : Type 0) : Type 0 where
  pub state : S
  pub made : List Record
  pub asked : List Question
  pub value : A

module _ {S A : Type 0} where
  -- no record was made, and nothing asked
  abbrev pub gives : S → A → Outcome S A
  gives s a = record { state = s; made = []; asked = []; value = a }

  -- behind these records and questions
  abbrev pub after : List Record → List Question → Outcome S A → Outcome S A
  after made asked o = record { state = o.state; made = made ++ o.made; asked = asked ++ o.asked; value = o.value }

module _ {S T A B : Type 0} where
  -- one, and what goes on from it
  abbrev pub and_then : Outcome S A → (A → S → Outcome T B) → Outcome T B
  and_then o k = after o.made o.asked (k o.value o.state)

module _ {S A B : Type 0} where
  abbrev pub go_on : (A → S → Outcome S (Result B Code)) → Result A Code → S → Outcome S (Result B Code)
  go_on k (Ok a) s = k a s
  go_on k (Err code) s = gives s (Err code)

  -- the second, unless the first is refused
  abbrev pub then_run : Outcome S (Result A Code) → (A → S → Outcome S (Result B Code)) → Outcome S (Result B Code)
  then_run o k = and_then o (go_on k)
