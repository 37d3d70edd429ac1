-- Lists that loops make, one element after the other.
use Rattle.std.proofs.Common.{◌≡◌, ℕ, ◌+◌, ◌<◌, ◌≤◌, ◌⊎◌, ⊎_elim, List, [], ◌∷◌, ◌++◌, map, drop, length, get_or, Option, Some, None, refl, sym, ap, ◌∙◌, append_assoc}
use Rattle.std.specs.Prelude.{slice_get}
use Rattle.std.proofs.lemmas.List.{drop_more, drop_all}
use Rattle.std.proofs.lemmas.Option.{slice_get_within, get_or_from_slice_get, slice_get_cases}
use Rattle.ebr_base.specs.declared.numbers.TableId.{TableId}
use Rattle.ebr_base.specs.declared.row.TxId.{TxId}
use Rattle.ebr_versions.specs.Data.{row_no}
use Rattle.ebr_tx.specs.Data.{Data}
use Rattle.ebr_exprtree.specs.declared.expression.Expr.{Expr}
use Rattle.ebr_dml.specs.declared.plan.Setting.{Setting}
use Rattle.ebr_dml.specs.Plans.{setting, settings}
use Rattle.ebr_dml.specs.Rows.{seen_row}
use Rattle.ebr_dml.specs.inside.Takes.{numbered_row}

-- one element more of a list that a loop makes
pub one-behind : {A B : Type 0} (f : A → B) (done more : List B) (x : B) (a : A) (left : List A) (whole : List B)
    → done ++ map f (a ∷ left) ≡ whole → more ≡ done ++ x ∷ [] → x ≡ f a → more ++ map f left ≡ whole
one-behind f done more x a left whole h m e =
    ap (λ xs. xs ++ map f left) (m ∙ ap (λ y. done ++ y ∷ []) e) ∙ append_assoc done (f a ∷ []) (map f left) ∙ h

-- ---- the elements from a place on

module _ {A : Type 0} where
  pub from-some : (at : ℕ) (xs : List A) (x : A) → slice_get xs at ≡ Some x → drop at xs ≡ x ∷ drop (at + 1) xs
  from-some at xs x e = drop_more xs at x (slice_get_within xs at x e) ∙ ap (λ y. y ∷ drop (at + 1) xs) (get_or_from_slice_get xs at x x e)

  no-some : (x : A) → ◌≡◌ {A = Option A} (Some x) None → ⊥
  no-some x h = cc

  pub from-none : (at : ℕ) (xs : List A) → slice_get xs at ≡ None → drop at xs ≡ []
  from-none at xs e =
      ⊎_elim (λ (s : (x : A) × (at < length xs) × (slice_get xs at ≡ Some x) × (get_or xs at x ≡ x)). absurd (no-some s.0 (sym s.2 ∙ e)))
      (λ (past : (length xs ≤ at) × (slice_get xs at ≡ None)). drop_all at xs past.0) (slice_get_cases xs at).1

-- one value more
pub one-setting : (sets more : List Setting) (places : List ℕ) (list : List Expr) (place : ℕ) (value : Expr) (others : List ℕ) (rest : List Expr) (whole : List Setting)
    → places ≡ place ∷ others → list ≡ value ∷ rest → more ≡ sets ++ setting place value ∷ [] → sets ++ settings places list ≡ whole → more ++ settings others rest ≡ whole
one-setting sets more places list place value others rest whole p l m h =
    ap (λ xs. xs ++ settings others rest) m
    ∙ append_assoc sets (setting place value ∷ []) (settings others rest)
    ∙ sym (ap (λ xs. sets ++ xs) (ap (λ ps. settings ps list) p ∙ ap (settings (place ∷ others)) l))
    ∙ h

-- no value is left
pub settings-none : (places : List ℕ) → settings places [] ≡ []
settings-none [] = refl
settings-none (place ∷ places) = refl

-- the rows of these numbers
pub rows-numbered : (d : Data) (t : TxId) (table : TableId) (ns : List ℕ) → map (numbered_row d t table) (map row_no ns) ≡ map (seen_row d t table) ns
rows-numbered d t table [] = refl
rows-numbered d t table (n ∷ ns) = ap (λ rows. seen_row d t table n ∷ rows) (rows-numbered d t table ns)
