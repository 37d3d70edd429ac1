-- A body leaves as many values as it was given.
use Rattle.std.proofs.Common.{◌≡◌, ℕ, List, [], ◌∷◌, length, Option, refl, ap, ◌∙◌}
use Rattle.std.specs.Prelude.{slice_set, unwrap_or}
use Rattle.std.proofs.lemmas.List.{length-set}
use Rattle.ebr_base.specs.declared.value.Value.{Value}
use Rattle.ebr_exprtree.specs.declared.op.Op.{Op}
use Rattle.ebr_exprtree.specs.declared.op.Op.TheVariants as op
use Rattle.ebr_bodies.specs.Bodies.{put, row_left}
use Rattle.ebr_bodies.specs.Ready.{Ready}

put_length : (places : List ℕ) (values row : List Value) → length (put places values row) ≡ length row
put_length [] values row = refl
put_length (place ∷ places) [] row = refl
put_length (place ∷ places) (v ∷ values) row = put_length places values (slice_set row place v) ∙ length-set row place v

pub row_length : (o : Op) (r : Ready) (new : List Value) (left : Option (List Value)) (row : List Value) → row ≡ row_left o r new left → length row ≡ length new
row_length op.Delete r new left row is = ap (λ (xs : List Value). length xs) is
row_length op.Insert r new left row is = ap (λ (xs : List Value). length xs) is ∙ put_length r.places (unwrap_or left []) new
row_length op.Update r new left row is = ap (λ (xs : List Value). length xs) is ∙ put_length r.places (unwrap_or left []) new
