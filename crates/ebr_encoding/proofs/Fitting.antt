-- The parts of a record that has a payload have a spelling.
use Rattle.std.proofs.Common.{ℕ, ◌≤◌, Bool, List, ◌++◌, get_or, length, Option, Some, None, arith, length-append}
use Rattle.std.specs.Prelude.{IfSome}
use Rattle.std.specs.Int.{w16, w32, w64, to_be_bytes}
use Rattle.std.specs.List.{flat_map}
use Rattle.std.proofs.lemmas.List.Folds.{length-flat_map-take}
use Rattle.ebr_base.specs.declared.numbers.EditionNo.{EditionNo}
use Rattle.ebr_base.specs.declared.row.Change.{Change}
use Rattle.ebr_base.specs.declared.value.Value.{Value}
use Rattle.ebr_record.specs.declared.record.Record.TheVariants as made
use Rattle.ebr_record.specs.Payload.{AreValues, HasPayload, change_bytes, max_payload, value_bytes, values_bytes}
use Rattle.ebr_encoding.specs.inside.Fits.{FitsChange, FitsChanges, FitsValues}

row_fits : (values : List Value) → AreValues values → length (flat_map value_bytes values) ≤ max_payload → FitsValues values
row_fits values are short = (are.0, λ k d within. (are.1 k d within, omega (arith, length-flat_map-take value_bytes values k d within, short)))

values_fit : (o : Option (List Value)) → IfSome o AreValues → length (values_bytes o) ≤ max_payload → IfSome o FitsValues
values_fit None are short = tt
values_fit (Some values) are short = row_fits values are (omega (arith, short, length-append (to_be_bytes w16 (length values)) (flat_map value_bytes values)))

change_fits : (c : Change) → IfSome c.values AreValues → length (change_bytes c) ≤ max_payload → FitsChange c
change_fits c are short = values_fit c.values are (omega (arith, short, length-append (to_be_bytes w32 c.row.table.0 ++ to_be_bytes w64 c.row.row.0) (values_bytes c.values)))

pub commit_fits : (changes : List Change) → HasPayload (made.Commit changes) → FitsChanges changes
commit_fits changes has =
    let all : length (flat_map change_bytes changes) ≤ max_payload = omega (arith, has.short, length-append (to_be_bytes w32 (length changes)) (flat_map change_bytes changes)) in
    (has.lists.0, λ k d within. change_fits (get_or changes k d) (has.lists.1 k d within) (omega (arith, length-flat_map-take change_bytes changes k d within, all)))

pub text_fits : (e : EditionNo) (enabled : Bool) (text : List ℕ) → HasPayload (made.Object e enabled text) → length text ≤ max_payload
text_fits e enabled text has = omega (arith, has.short, length-append (to_be_bytes w32 (length text)) text)
