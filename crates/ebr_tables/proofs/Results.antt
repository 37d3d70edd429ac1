-- Facts under a result, by its cases.
use Rattle.std.proofs.Common.{◌≡◌, sym, subst}
use Rattle.std.specs.Prelude.{Option, Some, None, Result, Ok, Err, OnOk, OnErr}
use Rattle.ebr_base.specs.Answers.{Answers}
use Rattle.ebr_base.specs.declared.code.Code.{Code}
use Rattle.ebr_base.specs.declared.code.Stop.{Stop}
use Rattle.ebr_tables.specs.Tables.{unless_refused}

module _ {T E : Type 0} {P Q : Type 0} where
  pub OnOk-map : (r : Result T E) → (P → Q) → OnOk r P → OnOk r Q
  OnOk-map (Ok x) f p = f p
  OnOk-map (Err e) f p = p

  pub OnErr-map : (r : Result T E) → (P → Q) → OnErr r P → OnErr r Q
  OnErr-map (Ok x) f p = p
  OnErr-map (Err e) f p = f p

-- an answer that is Ok: nothing refused it
pub not_refused : {T : Type 0} (r : Result T Stop) (refusal : Option Code) (x : T) → Answers r (unless_refused refusal x) → OnOk r (refusal ≡ None)
not_refused (Ok y) None x h = same None
  where
    same : (o : Option Code) → o ≡ o
    same o = λ i. o
not_refused (Ok y) (Some code) x h = absurd cc
not_refused (Err stop) refusal x h = tt

-- what holds of both values that something may have after a call, of the one after success by what success says
pub either_way : {T E X A : Type 0} (P : X → Type 0) (r : Result T E) (x a b : X) → OnOk r (x ≡ a) → OnErr r (x ≡ b) → OnOk r A → (A → P a) → P b → P x
either_way P (Ok y) x a b ok err here pa pb = subst P (sym ok) (pa here)
either_way P (Err e) x a b ok err here pa pb = subst P (sym err) pb
