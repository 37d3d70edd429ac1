-- What follows from what a call answers.
use Rattle.std.proofs.Common.{◌≡◌, ℕ, refl, ◌==◌, List, Option, Some, None, Ok, Err, cond, length, sym, ap, subst, ◌∙◌}
use Rattle.std.specs.Prelude.{Result, IfOk}
use Rattle.ebr_base.specs.Answers.{Answers}
use Rattle.ebr_base.specs.declared.code.Code.{Code}
use Rattle.ebr_base.specs.declared.code.Stop.{Stop}
use Rattle.ebr_base.specs.declared.numbers.RowNo.{RowNo}
use Rattle.ebr_base.specs.declared.numbers.TableId.{TableId}
use Rattle.ebr_base.specs.declared.row.TxId.{TxId}
use Rattle.ebr_base.specs.declared.value.Value.{Value}
use Rattle.ebr_versions.specs.Keys.{key_of, key_places}
use Rattle.ebr_tx.specs.Data.{Data}
use Rattle.ebr_tx.specs.Conflicts.{KeyTest}
use Rattle.ebr_tx.specs.Calls.{unless_refused, new_key_refusal}

pub if_ok : {X E : Type 0} (P Q : X → Type 0) (r : Result X E) → ((x : X) → P x → Q x) → IfOk r P → IfOk r Q
if_ok P Q (Ok x) each h = each x h
if_ok P Q (Err e) each h = tt

-- what is answered where nothing refuses
pub unless_ok : {X : Type 0} (P : X → Type 0) (r : Result X Stop) (o : Option Code) (x : X) → Answers r (unless_refused o x) → (o ≡ None → P x) → IfOk r P
unless_ok P (Ok y) None x h p = subst P (same x y h) (p refl)
  where
    same : {X : Type 0} (a b : X) → ◌≡◌ {A = Result X Code} (Ok a) (Ok b) → a ≡ b
    same a b e = cc
unless_ok P (Ok y) (Some code) x h p = cc
unless_ok P (Err e) o x h p = tt

-- the test of a key that is made of a table's places
pub new_key_is : (d : Data) (t : TxId) (table : TableId) (this : Option RowNo) (values key : List Value) (places : List ℕ) → key_places d.tables table ≡ places → key ≡ key_of places values
    → cond (length places == 0) None (KeyTest d t table this key) ≡ new_key_refusal d t table this values
new_key_is d t table this values key places at made =
    ap (λ k. cond (length places == 0) None (KeyTest d t table this k)) made
    ∙ ap (λ ps. cond (length ps == 0) None (KeyTest d t table this (key_of ps values))) (sym at)
