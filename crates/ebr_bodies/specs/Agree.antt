-- When another catalogue gives a statement the same answers.
-- Oracle Database Development Guide 19c, Using Edition-Based Redefinition: what is defined in one edition doesn't change another.
-- That a statement depends on other editions through crossedition triggers, and through nothing else, is own.
use Rattle.std.specs.Prelude.{◌≡◌, ℕ, ◌⊎◌, List, [], ◌∷◌, Option, Some, None}
use Rattle.std.specs.List.{AllByRecursion}
use Rattle.ebr_base.specs.declared.numbers.EditionNo.{EditionNo}
use Rattle.ebr_exprtree.specs.declared.op.Op.{Op}
use Rattle.ebr_ast.specs.declared.kinds.Origin.{Origin}
use Rattle.ebr_ast.specs.declared.kinds.Timing.{Timing}
use Rattle.ebr_ast.specs.declared.sql.SqlTree.{SqlTree}
use Rattle.ebr_ast.specs.declared.sql.SqlTree.TheVariants as sql
use Rattle.ebr_ast.specs.declared.view.Object.{Object}
use Rattle.ebr_database.specs.Outcome.{Question}
use Rattle.ebr_database.specs.Outcome.Question.{Fires, Full}
use Rattle.ebr_exec.specs.Places.{Names, Place}
use Rattle.ebr_fire.specs.declared.firing.Firing.{Firing}
use Rattle.ebr_bodies.specs.Ready.{applied, applied_firing}

-- The body of a trigger runs in the edition of the statement that fires it, or in one that sees the same in both catalogues.
abbrev pub RunsAlike : Names → Names → EditionNo → Firing → Type 0
RunsAlike m n e f = (f.edition ≡ e) ⊎ (m.view f.edition ≡ n.view f.edition)

abbrev pub RunAlike : Names → Names → EditionNo → List Firing → Type 0
RunAlike m n e fs = AllByRecursion (RunsAlike m n e) fs

-- A statement fires the same triggers in both, in the same order, and their bodies run alike.
pub record FiresAlike (m n : Names) (e : EditionNo) (named : List ℕ) (o : Op) (at : Timing) (from : Origin) : Type 0 where
  pub same : m.fires e named o at from ≡ n.fires e named o at from
  pub bodies : RunAlike m n e (m.fires e named o at from)

-- Both answer alike which triggers fire, wherever it was asked.
abbrev pub AnswerAlike : Names → Names → List Question → Type 0
AnswerAlike m n [] = Unit {0}
AnswerAlike m n (Fires e named o at from ∷ asked) = FiresAlike m n e named o at from × AnswerAlike m n asked
AnswerAlike m n (Full ∷ asked) = AnswerAlike m n asked

-- EBR-0042 never arose, also not where a body caught it.
abbrev pub NeverFull : List Question → Type 0
NeverFull [] = Unit {0}
NeverFull (Fires e named o at from ∷ asked) = NeverFull asked
NeverFull (Full ∷ asked) = ⊥

-- the one trigger of APPLY TRIGGER, where there is one
abbrev pub applied_firings : Option Object → List Firing
applied_firings None = []
applied_firings (Some o) = applied_firing o ∷ []

-- The body of the trigger that APPLY TRIGGER names runs alike; it is no answer to a question.
abbrev pub AppliesAlike : Names → Names → Place → SqlTree → Type 0
AppliesAlike m n p (sql.Apply name) = RunAlike m n p.edition (applied_firings (applied (m.view p.edition) name))
AppliesAlike m n p s = Unit {0}

-- The second catalogue agrees with the first for a statement that has asked this: the statement's edition sees the same in both, and
-- so does each edition in which the body of a trigger runs that it fires.
pub record Agree (m n : Names) (p : Place) (s : SqlTree) (asked : List Question) : Type 0 where
  pub view : m.view p.edition ≡ n.view p.edition
  pub triggers : AnswerAlike m n asked
  pub applied : AppliesAlike m n p s
