-- What the first handler that catches a fault does.
use Rattle.std.proofs.Common.{◌≡◌, ℕ, Bool, true, false, if◌then◌else◌, List, [], ◌∷◌, map, Option, Some, None, refl, sym, ap, ◌∙◌}
use Rattle.ebr_run.specs.Expressions.{Calls}
use Rattle.ebr_run.specs.declared.fault.Fault.{Fault}
use Rattle.ebr_run.specs.Faults.{is_caught}
use Rattle.ebr_run.specs.Values.{with_fault}
use Rattle.ebr_run.specs.State.{State, Runs, bare, raises}
use Rattle.ebr_code.specs.declared.instruction.Handler.{Handler, out-Handler}
use Rattle.ebr_code.specs.Instructions.{Handling, catches, handled, handling_of, run}
use Rattle.ebr_code.proofs.Layers.{handling_of-out}
use Rattle.ebr_memory.specs.Catching.{catcher}

-- what the handler that catches a fault does
abbrev by_catcher : Option Handling → ℕ → Calls → Fault → Runs
by_catcher None k calls f σ = raises f σ
by_catcher (Some h) k calls f σ = h.run calls (with_fault k f (bare σ))

handled_by : (k : ℕ) (hs : List Handling) (calls : Calls) (f : Fault) (σ : State) → handled k hs calls f σ ≡ by_catcher (catcher hs f) k calls f σ
handled_by k [] calls f σ = refl
handled_by k (h ∷ hs) calls f σ = by_test (is_caught (catches h.caught) f) (handled_by k hs calls f σ)
  where
    by_test : (b : Bool) → handled k hs calls f σ ≡ by_catcher (catcher hs f) k calls f σ → (if b then h.run calls (with_fault k f (bare σ)) else handled k hs calls f σ) ≡ by_catcher (if b then Some h else catcher hs f) k calls f σ
    by_test true e = refl
    by_test false e = e

pub handled_at : (k : ℕ) (hs : List Handler) (calls : Calls) (f : Fault) (σ : State) (h : Handler) → Some (handling_of h) ≡ catcher (map handling_of hs) f → handled k (map handling_of hs) calls f σ ≡ run (out-Handler h).body calls (with_fault k f (bare σ))
handled_at k hs calls f σ h e =
    handled_by k (map handling_of hs) calls f σ ∙ sym (ap (λ o. by_catcher o k calls f σ) e) ∙ ap (λ (x : Handling). x.run calls (with_fault k f (bare σ))) (handling_of-out h)

pub handled_not : (k : ℕ) (hs : List Handler) (calls : Calls) (f : Fault) (σ : State) → None ≡ catcher (map handling_of hs) f → handled k (map handling_of hs) calls f σ ≡ raises f σ
handled_not k hs calls f σ e = handled_by k (map handling_of hs) calls f σ ∙ sym (ap (λ o. by_catcher o k calls f σ) e)
