-- The integrity of the data, where tables were added.
use Rattle.std.proofs.Common.{◌≡◌, ℕ, true, List, [], ◌∷◌, ◌++◌, Some, sym, subst, append-nil, append_assoc}
use Rattle.std.specs.List.{AllByRecursion}
use Rattle.ebr_base.specs.declared.numbers.RowNo.{RowNo}
use Rattle.ebr_base.specs.declared.numbers.TableId.{TableId}
use Rattle.ebr_base.specs.declared.row.Change.{Change}
use Rattle.ebr_base.specs.declared.row.RowId.{RowId}
use Rattle.ebr_base.specs.declared.value.Value.{Value}
use Rattle.ebr_versions.specs.declared.table.Table.{Table}
use Rattle.ebr_versions.specs.Data.{changes_in, last_change}
use Rattle.ebr_versions.specs.Keys.{KeysDiffer, is_added, key_at, key_places, row_in}
use Rattle.ebr_versions.proofs.KeyLemmas.{has_change, is_added-append, is_row-true, key_places-append, last_change-of}
use Rattle.ebr_tx.specs.Data.{Transaction}
use Rattle.ebr_tx.specs.inside.Sound.{IsSound}
use Rattle.ebr_tx.proofs.Kept.{sound_table}
use Rattle.ebr_integrity.specs.Integrity.{HasIntegrity, IsOfAdded}
use Rattle.ebr_integrity.proofs.ChangeLemmas.{all_weaker}

-- a table that has a row with a key was added
added_from_key : (commits : List (List Change)) (tables : List Table) (places : List ℕ) (t : TableId) (r : RowNo) (key : List Value) → AllByRecursion (IsOfAdded tables) (changes_in commits) → key_at commits places (row_in t r) ≡ Some key
    → is_added tables t ≡ true
added_from_key commits tables places t r key all e =
    let last = has_change places key (last_change (row_in t r) (changes_in commits)) e in
    let facts = last_change-of (IsOfAdded tables) (row_in t r) (changes_in commits) last.0 all last.1 in
    subst (λ (row : RowId). is_added tables row.table ≡ true) (is_row-true last.0.row (row_in t r) facts.1) facts.0

-- keys differ with others too, since no row is in those
keys_more : (commits : List (List Change)) (xs ys : List Table) → AllByRecursion (IsOfAdded xs) (changes_in commits) → KeysDiffer commits xs → KeysDiffer commits (xs ++ ys)
keys_more commits xs ys all keys t a b key some at_a at_b =
    let old = added_from_key commits xs (key_places (xs ++ ys) t) t a key all at_a in
    let same = key_places-append t xs ys old in
    keys t a b key some (subst (λ places. key_at commits places (row_in t a) ≡ Some key) same at_a) (subst (λ places. key_at commits places (row_in t b) ≡ Some key) same at_b)

sound_more : (commits : List (List Change)) (tables more : List Table) (live : List Transaction) → IsSound commits tables live → IsSound commits (tables ++ more) live
sound_more commits tables [] live h = subst (λ ts. IsSound commits ts live) (sym (append-nil tables)) h
sound_more commits tables (x ∷ more) live h = subst (λ ts. IsSound commits ts live) (append_assoc tables (x ∷ []) more) (sound_more commits (tables ++ x ∷ []) more live (sound_table commits tables live x h))

pub integrity_more : (P : Change → Type 0) (commits : List (List Change)) (tables more : List Table) (live : List Transaction) → HasIntegrity P commits tables live → HasIntegrity P commits (tables ++ more) live
integrity_more P commits tables more live h = record {
  sound = sound_more commits tables more live h.sound;
  keys = keys_more commits tables more h.added h.keys;
  numbered = h.numbered;
  added = all_weaker (IsOfAdded tables) (IsOfAdded (tables ++ more)) (λ c. is_added-append c.row.table tables more) (changes_in commits) h.added;
  orderly = h.orderly;
}
