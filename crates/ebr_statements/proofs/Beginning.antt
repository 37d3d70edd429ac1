-- The run of a body begins.
use Rattle.std.proofs.Common.{◌≡◌, ℕ, ◌-◌, List, [], Some, refl, sym, ap, subst, ◌∙◌}
use Rattle.ebr_base.specs.declared.value.Value.{Value}
use Rattle.ebr_exprtree.specs.declared.op.Op.{Op}
use Rattle.ebr_ast.specs.declared.unit.UnitTree.{UnitTree}
use Rattle.ebr_ast.specs.declared.view.EditionView.{EditionView}
use Rattle.ebr_code.specs.declared.book.Unit as compiled
use Rattle.ebr_code.specs.Books.{Book}
use Rattle.ebr_code.specs.Runs.{RunCode}
use Rattle.ebr_laws.specs.Served.{DoesTheSame, HasCodeOf}
use Rattle.ebr_machine.specs.declared.machine.Frame.{Frame as Outer}
use Rattle.ebr_machine.specs.declared.machine.Machine.{Machine}
use Rattle.ebr_machine.specs.Has.{Has, frame_of}
use Rattle.ebr_run.specs.Packages.{PackageState}
use Rattle.ebr_run.specs.Run.{Frame, Run}
use Rattle.ebr_units.specs.Served.{served}
use Rattle.ebr_dml.specs.Rows.{values_at}
use Rattle.ebr_statements.specs.declared.course.Course.{Course}
use Rattle.ebr_statements.specs.declared.ready.Ready.{Ready as Held}
use Rattle.ebr_bodies.specs.Bodies.{Doing, Site, row_for, run_of}
use Rattle.ebr_statements.specs.inside.Held.{IsServed, ready_of}
use Rattle.ebr_statements.specs.inside.Sites.{IsBegun}

pub has_code : (v : EditionView) → HasCodeOf v (served v)
has_code v = record { unit = λ key. refl; stamp = λ key. refl; objects = refl }

module _ (w : Site) (o : Op) (h : Held) (old new : List Value) (σ : Doing) (s : IsServed w.view h) where
  abbrev view : EditionView
  view = w.view h.edition

  abbrev first : Frame
  first = record { row = Some (row_for o (ready_of h) old new); room = σ.room }

  pub begins : (it : Course) (frame : Frame) → frame ≡ first → it.packages ≡ [] → it.left ≡ w.left - σ.steps
      → Has (served view) it.machine [] it.left (RunCode (served view) h.unit [] [] frame it.left) [] []
      → DoesTheSame view (served view) h.object.tree
      → IsBegun (served view) (run_of w o (ready_of h) old new σ) it
  begins it frame framed packages left has same = subst (λ p. Has (served view) it.machine p it.left (run_of w o (ready_of h) old new σ) [] []) (sym packages) (record {
    by = λ given.
        has.by given
        ∙ ap (λ u. RunCode (served view) u [] [] frame it.left given) s.unit
        ∙ same [] [] frame it.left given
        ∙ ap (λ f. Run view h.object.tree [] [] f it.left given) framed
        ∙ ap (λ n. Run view h.object.tree [] [] first n given) left;
  })

  abbrev framed_at : ℕ → Frame
  framed_at room = record { row = Some (row_for o (ready_of h) old new); room = room }

  -- the frame of the code
  abbrev outer_at : ℕ → Outer
  outer_at room = record {
    edition = h.edition;
    body = Some (record { origin = h.origin; op = o; old = values_at h.places old; new = values_at h.places new });
    room = room;
  }

  pub begins_with : (l n room : ℕ) → w.left ≡ l → σ.steps ≡ n → σ.room ≡ room → (m : Machine) (packages : List PackageState) (left : ℕ) (u : compiled.Unit) (arguments : List Value) (frame : Outer)
      → packages ≡ [] → left ≡ l - n → u ≡ h.unit → arguments ≡ [] → frame ≡ outer_at room
      → ((codes : Book) (ps : List PackageState) (k : ℕ) → Has codes m ps k (RunCode codes u arguments ps (frame_of frame) k) [] [])
      → ((v : EditionView) (book : Book) → HasCodeOf v book → (tree : UnitTree) → DoesTheSame v book tree)
      → IsBegun (served view) (run_of w o (ready_of h) old new σ) (record { machine = m; packages = packages; left = left })
  begins_with l n room l_is n_is room_is m packages left u arguments frame packages_are left_is u_is arguments_are frame_is has law =
      begins (record { machine = m; packages = packages; left = left }) (frame_of frame) (ap frame_of frame_is ∙ ap framed_at (sym room_is)) packages_are
      (left_is ∙ sym (ap (λ x. x - σ.steps) l_is ∙ ap (λ x. l - x) n_is))
      (subst (λ x. Has (served view) m [] left (RunCode (served view) x [] [] (frame_of frame) left) [] []) u_is
      (subst (λ xs. Has (served view) m [] left (RunCode (served view) u xs [] (frame_of frame) left) [] []) arguments_are (has (served view) [] left)))
      (law view (served view) (has_code view) h.object.tree)
