-- Rows one after the other, with the bodies of their triggers.
use Rattle.std.proofs.Common.{ℕ, List, [], ◌∷◌, length, Result, Ok}
use Rattle.std.specs.List.{AllByRecursion}
use Rattle.ebr_base.specs.declared.code.Code.{Code}
use Rattle.ebr_base.specs.declared.row.TxId.{TxId}
use Rattle.ebr_base.specs.declared.value.Value.{Value}
use Rattle.ebr_exprtree.specs.declared.op.Op.{Op}
use Rattle.ebr_dml.specs.declared.taken.Taken.{Taken}
use Rattle.ebr_dml.specs.Images.{old_values, new_values, after_values}
use Rattle.ebr_dml.specs.Tests.{written}
use Rattle.ebr_exec.specs.Places.{Names, Under}
use Rattle.ebr_exec.specs.Statements.{Statements}
use Rattle.ebr_bodies.specs.Bodies.{Doing, Site, bodies}
use Rattle.ebr_bodies.specs.Ready.{Ready}
use Rattle.ebr_bodies.specs.Rows.{Work, at_data, changed, one_row, rows, all_rows, rows_of}
use Rattle.ebr_bodies.proofs.Apart.{Apart, still, goes, runs}
use Rattle.ebr_bodies.proofs.ApartBodies.{StatementsApart, doing_at, here, there, bodies_apart}
use Rattle.ebr_bodies.proofs.ReadyAlike.{ReadySame}

module _ (m n : Names) (d e : Statements) (deeper : StatementsApart m n d e) (t : TxId) (changing : List Under) (most : ℕ) where
  abbrev a : Site
  a = here m n d e deeper t changing most

  abbrev b : Site
  b = there m n d e deeper t changing most

  bodies_same : (o : Op) (rs : List Ready) → AllByRecursion (ReadySame m n) rs → (old new : List Value) (σ : Doing) (u : ℕ) → Apart m n doing_at (bodies a o rs old new σ) (bodies b o rs old new (doing_at u σ))
  bodies_same = bodies_apart m n d e deeper t changing most

  module _ (k : Work) (before : AllByRecursion (ReadySame m n) k.before) (after : AllByRecursion (ReadySame m n) k.after) where
    changed_apart : (r : Taken) (new : List Value) (σ : Doing) (u : ℕ) → Apart m n doing_at (changed a k r new σ) (changed b k r new (doing_at u σ))
    changed_apart r new σ u = goes m n doing_at (λ x σ'. bodies a k.operation k.after (old_values k.plan r) (after_values k.plan new) (at_data x σ')) (λ x σ'. bodies b k.operation k.after (old_values k.plan r) (after_values k.plan new) (at_data x σ'))
        (λ x σ' u'. bodies_same k.operation k.after after (old_values k.plan r) (after_values k.plan new) (at_data x σ') u') (written σ.base.data_now t k.plan r new) σ u

    row_apart : (r : Taken) (σ : Doing) (u : ℕ) → Apart m n doing_at (one_row a k r σ) (one_row b k r (doing_at u σ))
    row_apart r σ u = goes m n doing_at _ _
        (λ new σ' u'. runs m n doing_at (bodies a k.operation k.before (old_values k.plan r) new σ') (bodies b k.operation k.before (old_values k.plan r) new (doing_at u' σ')) (changed a k r) (changed b k r)
        (bodies_same k.operation k.before before (old_values k.plan r) new σ' u') (changed_apart r)) (new_values k.plan k.binds r) σ u

    rows_apart : (count : ℕ) (taken : List Taken) (σ : Doing) (u : ℕ) → Apart m n doing_at (rows a k count taken σ) (rows b k count taken (doing_at u σ))
    rows_apart count [] σ u = still m n doing_at σ u (Ok count)
    rows_apart count (r ∷ rest) σ u = runs m n doing_at (one_row a k r σ) (one_row b k r (doing_at u σ)) (λ new σ'. rows a k count rest σ') (λ new σ'. rows b k count rest σ') (row_apart r σ u) (λ new σ' u'. rows_apart count rest σ' u')

    pub rows_of_apart : (found : Result (List Taken) Code) (σ : Doing) (u : ℕ) → Apart m n doing_at (rows_of a k found σ) (rows_of b k found (doing_at u σ))
    rows_of_apart found σ u = goes m n doing_at (all_rows a k) (all_rows b k) (λ taken σ' u'. rows_apart (length taken) taken σ' u') found σ u
