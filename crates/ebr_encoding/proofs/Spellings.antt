-- The same of records, and of what was written of them.
use Rattle.std.proofs.Common.{◌≡◌, ℕ, ◌^◌, ◌<◌, Bool, List, [], ◌∷◌, ◌++◌, length, Some, ap, ◌∙◌, append_assoc}
use Rattle.std.specs.Int.{w16, w32, to_be_bytes}
use Rattle.std.specs.List.{flat_map, AllByRecursion}
use Rattle.ebr_base.specs.declared.numbers.EditionNo.{EditionNo}
use Rattle.ebr_base.specs.declared.numbers.TableId.{TableId}
use Rattle.ebr_base.specs.declared.row.Change.{Change}
use Rattle.ebr_base.specs.declared.table.Column as table
use Rattle.ebr_record.specs.declared.record.DroppedClass.{DroppedClass}
use Rattle.ebr_record.specs.declared.record.Record.TheVariants as made
use Rattle.ebr_record.specs.Payload.{change_bytes, column_bytes, name_bytes, payload, text_bytes}
use Rattle.ebr_encoding.specs.Reading.{both, byte_at, change_at, class_at, column_at, column_record_at, commit_at, counted, decoded, default_at, edition_at, edition_gone_at, flag_at, gone_at, name_at, number, object_at, table_at, table_gone_at, text_at}
use Rattle.ebr_encoding.specs.inside.Written.{IsReadAgain}
use Rattle.ebr_encoding.proofs.Again.{again16, again32, byte_again, class_again, flag_again}
use Rattle.ebr_encoding.proofs.Fields.{class_bytes, counted_bytes, flag_bytes}
use Rattle.ebr_encoding.proofs.Laws.{both_again, counted_again, many_again, mapped_again, only_again}

pub commit_same : (changes : List Change) → length changes < 2 ^ 32 → AllByRecursion (λ c. IsReadAgain change_at (change_bytes c) c) changes → decoded (payload (made.Commit changes)) ≡ Some (made.Commit changes)
unfolding decoded commit_at
commit_same changes few all =
    let spelled : List ℕ = counted_bytes (to_be_bytes w32) change_bytes changes in
    only_again commit_at spelled (made.Commit changes) (mapped_again (counted (number w32) change_at) spelled made.Commit changes
    (counted_again change_at change_bytes (number w32) (to_be_bytes w32 (length changes)) changes (again32 (length changes) few) (many_again change_at change_bytes changes all)))

pub edition_same : (name : List ℕ) (parent : EditionNo) → IsReadAgain name_at (name_bytes name) name → parent.0 < 2 ^ 32 → decoded (payload (made.Edition name parent)) ≡ Some (made.Edition name parent)
unfolding decoded edition_at
edition_same name parent named small =
    let spelled : List ℕ = name_bytes name ++ to_be_bytes w32 parent.0 in
    only_again edition_at spelled (made.Edition name parent) (mapped_again (both name_at (number w32)) spelled (λ r. made.Edition r.0 (record { 0 = r.1 })) (name, parent.0)
    (both_again name_at (number w32) (name_bytes name) (to_be_bytes w32 parent.0) name parent.0 named (again32 parent.0 small)))

pub edition_gone_same : (e : EditionNo) → e.0 < 2 ^ 32 → decoded (payload (made.EditionGone e)) ≡ Some (made.EditionGone e)
unfolding decoded edition_gone_at
edition_gone_same e small = only_again edition_gone_at (to_be_bytes w32 e.0) (made.EditionGone e) (mapped_again (number w32) (to_be_bytes w32 e.0) (λ n. made.EditionGone (record { 0 = n })) e.0 (again32 e.0 small))

pub default_same : (e : EditionNo) → e.0 < 2 ^ 32 → decoded (payload (made.Default e)) ≡ Some (made.Default e)
unfolding decoded default_at
default_same e small = only_again default_at (to_be_bytes w32 e.0) (made.Default e) (mapped_again (number w32) (to_be_bytes w32 e.0) (λ n. made.Default (record { 0 = n })) e.0 (again32 e.0 small))

pub object_same : (e : EditionNo) (enabled : Bool) (text : List ℕ) → e.0 < 2 ^ 32 → IsReadAgain text_at (text_bytes text) text → decoded (payload (made.Object e enabled text)) ≡ Some (made.Object e enabled text)
unfolding decoded object_at
object_same e enabled text small read =
    let front : List ℕ = to_be_bytes w32 e.0 ++ flag_bytes enabled in
    only_again object_at (front ++ text_bytes text) (made.Object e enabled text)
    (mapped_again (both (both (number w32) flag_at) text_at) (front ++ text_bytes text) (λ r. made.Object (record { 0 = r.0.0 }) r.0.1 r.1) ((e.0, enabled), text)
    (both_again (both (number w32) flag_at) text_at front (text_bytes text) (e.0, enabled) text
    (both_again (number w32) flag_at (to_be_bytes w32 e.0) (flag_bytes enabled) e.0 enabled (again32 e.0 small) (flag_again enabled)) read))

pub gone_same : (e : EditionNo) (c : DroppedClass) (name : List ℕ) → e.0 < 2 ^ 32 → IsReadAgain name_at (name_bytes name) name → decoded (payload (made.Gone e c name)) ≡ Some (made.Gone e c name)
unfolding decoded gone_at
gone_same e c name small named =
    let front : List ℕ = to_be_bytes w32 e.0 ++ class_bytes c in
    only_again gone_at (front ++ name_bytes name) (made.Gone e c name)
    (mapped_again (both (both (number w32) class_at) name_at) (front ++ name_bytes name) (λ r. made.Gone (record { 0 = r.0.0 }) r.0.1 r.1) ((e.0, c), name)
    (both_again (both (number w32) class_at) name_at front (name_bytes name) (e.0, c) name
    (both_again (number w32) class_at (to_be_bytes w32 e.0) (class_bytes c) e.0 c (again32 e.0 small) (class_again c)) named))

pub table_same : (name : List ℕ) (columns : List table.Column) (key : List ℕ) → IsReadAgain name_at (name_bytes name) name → length columns < 2 ^ 16
    → AllByRecursion (λ c. IsReadAgain column_at (column_bytes c) c) columns → AllByRecursion (λ k. IsReadAgain (number w16) (to_be_bytes w16 k) k) key
    → decoded (payload (made.Table name columns key)) ≡ Some (made.Table name columns key)
unfolding decoded table_at
table_same name columns key named few each places =
    let spelled : List ℕ = counted_bytes (to_be_bytes w16) column_bytes columns in
    let front : List ℕ = name_bytes name ++ spelled in
    let back : List ℕ = counted_bytes (λ n. n ∷ []) (to_be_bytes w16) key in
    let regrouped : payload (made.Table name columns key) ≡ 7 ∷ (front ++ back) =
    ap (λ (t : List ℕ). 7 ∷ (t ++ back)) (append_assoc (name_bytes name) (to_be_bytes w16 (length columns)) (flat_map column_bytes columns)) in
    ap decoded regrouped ∙ only_again table_at (front ++ back) (made.Table name columns key)
    (mapped_again (both (both name_at (counted (number w16) column_at)) (counted byte_at (number w16))) (front ++ back) (λ r. made.Table r.0.0 r.0.1 r.1) ((name, columns), key)
    (both_again (both name_at (counted (number w16) column_at)) (counted byte_at (number w16)) front back (name, columns) key
    (both_again name_at (counted (number w16) column_at) (name_bytes name) spelled name columns named
    (counted_again column_at column_bytes (number w16) (to_be_bytes w16 (length columns)) columns (again16 (length columns) few) (many_again column_at column_bytes columns each)))
    (counted_again (number w16) (to_be_bytes w16) byte_at (length key ∷ []) key (byte_again (length key)) (many_again (number w16) (to_be_bytes w16) key places))))

pub column_same : (t : TableId) (c : table.Column) → t.0 < 2 ^ 32 → IsReadAgain column_at (column_bytes c) c → decoded (payload (made.Column t c)) ≡ Some (made.Column t c)
unfolding decoded column_record_at
column_same t c small read =
    let spelled : List ℕ = to_be_bytes w32 t.0 ++ column_bytes c in
    only_again column_record_at spelled (made.Column t c) (mapped_again (both (number w32) column_at) spelled (λ r. made.Column (record { 0 = r.0 }) r.1) (t.0, c)
    (both_again (number w32) column_at (to_be_bytes w32 t.0) (column_bytes c) t.0 c (again32 t.0 small) read))

pub table_gone_same : (t : TableId) → t.0 < 2 ^ 32 → decoded (payload (made.TableGone t)) ≡ Some (made.TableGone t)
unfolding decoded table_gone_at
table_gone_same t small = only_again table_gone_at (to_be_bytes w32 t.0) (made.TableGone t) (mapped_again (number w32) (to_be_bytes w32 t.0) (λ n. made.TableGone (record { 0 = n })) t.0 (again32 t.0 small))
