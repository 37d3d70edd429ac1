-- When catalogues agree for a statement: each does with itself; and of the triggers that a statement fires, those that are ordinary
-- run alike in any two, so that only its crossedition triggers have to.
use Rattle.std.proofs.Common.{ℕ, Bool, true, false, List, [], ◌∷◌, ◌++◌, map, Option, Some, None, refl, inl, inr}
use Rattle.std.specs.Prelude.{if◌then◌else◌, is_some}
use Rattle.ebr_base.specs.declared.numbers.EditionNo.{EditionNo}
use Rattle.ebr_exprtree.specs.declared.op.Op.{Op}
use Rattle.ebr_ast.specs.declared.kinds.Origin.{Origin}
use Rattle.ebr_ast.specs.declared.kinds.Origin.TheVariants as origin
use Rattle.ebr_ast.specs.declared.kinds.Timing.{Timing}
use Rattle.ebr_ast.specs.declared.sql.SqlTree.{SqlTree}
use Rattle.ebr_ast.specs.declared.sql.SqlTree.TheVariants as sql
use Rattle.ebr_ast.specs.declared.unit.UnitTree.{UnitTree}
use Rattle.ebr_ast.specs.declared.unit.UnitTree.TheVariants as unit
use Rattle.ebr_ast.specs.declared.view.Object.{Object}
use Rattle.ebr_ast.specs.Views.{unit_key}
use Rattle.ebr_cross.specs.Catalogue.{Lists, visible}
use Rattle.ebr_fire.specs.declared.firing.Firing.{Firing}
use Rattle.ebr_fire.specs.declared.firing.Stamped.{Stamped}
use Rattle.ebr_fire.specs.Fires.{Fires as Fired, firing, ordinary_on, ordinary_on_table, on_table, on_object, on_name, Crossing}
use Rattle.ebr_database.specs.Outcome.{Question}
use Rattle.ebr_database.specs.Outcome.Question.{Fires, Full}
use Rattle.ebr_exec.specs.Places.{Names, Place}
use Rattle.ebr_bodies.specs.Agree.{RunAlike, AnswerAlike, AppliesAlike, applied_firings, Agree}
use Rattle.ebr_bodies.specs.Ready.{applied}

-- ---- with itself

runs_itself : (m : Names) (e : EditionNo) (fs : List Firing) → RunAlike m m e fs
runs_itself m e [] = tt
runs_itself m e (f ∷ fs) = (inr refl, runs_itself m e fs)

pub answers_itself : (m : Names) (asked : List Question) → AnswerAlike m m asked
answers_itself m [] = tt
answers_itself m (Fires e named o at from ∷ asked) = (record { same = refl; bodies = runs_itself m e (m.fires e named o at from) }, answers_itself m asked)
answers_itself m (Full ∷ asked) = answers_itself m asked

applies_itself : (m : Names) (p : Place) (s : SqlTree) → AppliesAlike m m p s
applies_itself m p (sql.Apply name) = runs_itself m p.edition (applied_firings (applied (m.view p.edition) name))
applies_itself m p s = tt

pub agrees_itself : (m : Names) (p : Place) (s : SqlTree) (asked : List Question) → Agree m m p s asked
agrees_itself m p s asked = record { view = refl; triggers = answers_itself m asked; applied = applies_itself m p s }

-- ---- ordinary triggers

module _ (m n : Names) (c : Lists) (e : EditionNo) (o : Op) (at : Timing) where
  joined : (fs gs : List Firing) → RunAlike m n e fs → RunAlike m n e gs → RunAlike m n e (fs ++ gs)
  joined [] gs h g = g
  joined (f ∷ fs) gs h g = (h.0, joined fs gs h.1 g)

  own : (ts : List Stamped) → RunAlike m n e (map (firing None e) ts)
  own [] = tt
  own (t ∷ ts) = (inl refl, own ts)

  ordinary_alike : (on : List ℕ) (from : Origin) → RunAlike m n e (ordinary_on c e on o at from)
  ordinary_alike on origin.Plain = own _
  ordinary_alike on origin.Forward = tt
  ordinary_alike on origin.Reverse = tt

  unless_seen : (b : Bool) (fs : List Firing) → RunAlike m n e fs → RunAlike m n e (if b then [] else fs)
  unless_seen true fs h = tt
  unless_seen false fs h = h

  table_alike : (table : List ℕ) (from : Origin) → RunAlike m n e (Crossing c e table o at from) → RunAlike m n e (on_table c e table o at from)
  table_alike table from h = joined (ordinary_on_table c e table o at from) (Crossing c e table o at from) (unless_seen (is_some (visible c e (unit_key table))) (ordinary_on c e table o at from) (ordinary_alike table from)) h

  -- the crossedition triggers on what a name means
  abbrev pub crossing_of : UnitTree → Origin → List Firing
  crossing_of (unit.View v) from = Crossing c e v.table o at from
  crossing_of tree from = []

  abbrev pub crossing_on : Option Object → List ℕ → Origin → List Firing
  crossing_on (Some object) named from = crossing_of object.tree from
  crossing_on None named from = Crossing c e named o at from

  object_alike : (tree : UnitTree) (named : List ℕ) (from : Origin) → RunAlike m n e (crossing_of tree from) → RunAlike m n e (on_object c e tree named o at from)
  object_alike (unit.View v) named from h = joined (ordinary_on c e named o at from) (on_table c e v.table o at from) (ordinary_alike named from) (table_alike v.table from h)
  object_alike (unit.Subprogram s) named from h = tt
  object_alike (unit.Package p items) named from h = tt
  object_alike (unit.PackageBody b) named from h = tt
  object_alike (unit.Trigger t) named from h = tt
  object_alike (unit.Block b) named from h = tt

  name_alike : (object : Option Object) (named : List ℕ) (from : Origin) → RunAlike m n e (crossing_on object named from) → RunAlike m n e (on_name c e object named o at from)
  name_alike (Some object) named from h = object_alike object.tree named from h
  name_alike None named from h = table_alike named from h

  -- All bodies run alike where those of the crossedition triggers do.
  pub only_crossing : (named : List ℕ) (from : Origin) → RunAlike m n e (crossing_on (visible c e (unit_key named)) named from) → RunAlike m n e (Fired c e named o at from)
  only_crossing named from h = name_alike (visible c e (unit_key named)) named from h
