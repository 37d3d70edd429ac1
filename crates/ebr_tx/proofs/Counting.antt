-- The bytes of a transaction's changes in a record.
use Rattle.std.proofs.Common.{◌≡◌, ℕ, ◌+◌, ◌-◌, ◌≤◌, List, [], ◌∷◌, ◌++◌, min, length, take, drop, ap, ◌∙◌, arith}
use Rattle.std.specs.Prelude.{sum_by}
use Rattle.std.proofs.lemmas.List.{take_min}
use Rattle.std.proofs.lemmas.List.Sums.{sum_by-append, sum_by-take-drop}
use Rattle.ebr_base.specs.declared.row.Change.{Change}
use Rattle.ebr_tx.specs.Limits.{change_length, record_length, max_record}
use Rattle.ebr_tx.specs.inside.Filed.{IsCounted}

module _ (changes : List Change) (bytes n kept undone : ℕ) (counted : IsCounted bytes changes) (least : kept ≡ min (length changes) n) (is : undone ≡ min 134217729 (sum_by change_length (drop kept changes))) where
  parts : sum_by change_length (take kept changes) + sum_by change_length (drop kept changes) ≡ sum_by change_length changes
  parts = sum_by-take-drop change_length changes kept

  exact : undone ≡ sum_by change_length (drop kept changes)
  exact = omega (arith, is, parts, counted.short)

  pub undone_fits : undone ≤ bytes
  undone_fits = omega (arith, exact, parts, counted.sum)

  first : take kept changes ≡ take n changes
  first = let other : kept ≡ min n (length changes) = omega (arith, least) in ap (λ k. take k changes) other ∙ take_min n changes

  pub counted_cut : IsCounted (bytes - undone) (take n changes)
  counted_cut =
      let same : sum_by change_length (take kept changes) ≡ sum_by change_length (take n changes) = ap (sum_by change_length) first in
      record {
        sum = omega (arith, same, exact, parts, counted.sum);
        short = omega (arith, same, parts, counted.short);
      }

-- with one more change
pub counted_more : (changes more : List Change) (bytes length : ℕ) (c : Change) → IsCounted bytes changes → more ≡ changes ++ c ∷ [] → length ≡ change_length c → record_length (changes ++ c ∷ []) ≤ max_record → IsCounted (bytes + length) more
counted_more changes more bytes length c counted is its short =
    let whole : sum_by change_length more ≡ sum_by change_length changes + sum_by change_length (c ∷ []) = ap (sum_by change_length) is ∙ sum_by-append change_length changes (c ∷ []) in
    let same : sum_by change_length more ≡ sum_by change_length (changes ++ c ∷ []) = ap (sum_by change_length) is in
    record {
      sum = omega (arith, whole, its, counted.sum);
      short = omega (arith, same, short);
    }
