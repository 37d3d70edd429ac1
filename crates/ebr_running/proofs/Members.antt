-- What the look-up of a package's variable says of reading it.
use Rattle.std.proofs.Common.{◌≡◌, ℕ, Option, Some, None, sym, ap, refl, true≢false, is_some}
use Rattle.std.specs.Prelude.{option_map}
use Rattle.std.proofs.lemmas.Option.{same_Some}
use Rattle.ebr_base.specs.declared.value.Value.{Value}
use Rattle.ebr_base.specs.declared.value.Value.TheVariants as value
use Rattle.ebr_run.specs.Packages.{PackageState, at}
use Rattle.ebr_run.specs.State.{State, Runs, broken}
use Rattle.ebr_run.specs.Values.{on_member}
use Rattle.ebr_memory.specs.Packages.{member}

module _ (k : ℕ) (next : Value → Runs) (σ : State) where
  pub read_found : (v : Value) (o : Option PackageState) → Some v ≡ option_map (member k) o → on_member o (λ s. next (at value.Null k s.members)) σ ≡ next v σ
  read_found v None e = absurd (true≢false (ap is_some e))
  read_found v (Some s) e = ap (λ w. next w σ) (sym (same_Some _ _ e))

  pub read_lost : (o : Option PackageState) → None ≡ option_map (member k) o → on_member o (λ s. next (at value.Null k s.members)) σ ≡ broken σ
  read_lost None e = refl
  read_lost (Some s) e = absurd (true≢false (ap is_some (sym e)))
