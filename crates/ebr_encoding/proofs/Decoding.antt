-- What a record that was read says of its bytes, and what one that wasn't.
use Rattle.std.proofs.Common.{◌≡◌, ℕ, ◌<◌, ◌≤◌, List, length, Some, None, Result, Ok, Err, sym, ap, ◌∙◌, arith}
use Rattle.ebr_record.specs.declared.record.Record.{Record}
use Rattle.ebr_record.specs.Payload.{max_payload, payload}
use Rattle.ebr_encoding.specs.declared.fault.DecodeErr.{DecodeErr}
use Rattle.ebr_encoding.specs.declared.fault.DecodeErr.TheVariants.{Bad, NoMemory}
use Rattle.ebr_encoding.specs.declared.form.Form.{Form}
use Rattle.ebr_encoding.specs.declared.form.Form.TheVariants.{Short, Long}
use Rattle.ebr_encoding.specs.Reading.{decoded}
use Rattle.ebr_encoding.specs.Spelled.{HasForm, IsSpelled, Reads, Spells, most_bytes, most_changes}
use Rattle.ebr_encoding.specs.inside.Gives.{Gives}
use Rattle.ebr_encoding.specs.inside.Said.{changes_said}
use Rattle.ebr_encoding.proofs.Laws.{IsBytes}
use Rattle.ebr_encoding.proofs.Takings.{is_read}

at_most : (form : Form) → most_bytes form ≤ max_payload
at_most Short = omega arith
at_most Long = omega arith

-- what is spelled so is read
read_again : (bytes : List ℕ) (r : Record) → Spells bytes r → decoded bytes ≡ Some r
read_again bytes r spells = ap decoded spells.is ∙ spells.spelled.same

module _ (form : Form) (bytes : List ℕ) where
  pub too_long : most_bytes form < length bytes → (r : Record) → Spells bytes r → HasForm form r → ⊥
  too_long long r spells has =
      let same : length bytes ≡ length (payload r) = ap length spells.is in
      omega (arith, long, same, has.short)

  pub too_many : IsBytes bytes → most_changes form < changes_said bytes → (r : Record) → Spells bytes r → HasForm form r → ⊥
  too_many fits many r spells has = omega (arith, many, (is_read bytes r fits (read_again bytes r spells)).1, has.few)

  pub reads : (result : Result Record DecodeErr) → IsBytes bytes → length bytes ≤ most_bytes form → changes_said bytes ≤ most_changes form → Gives (λ r. r) result (decoded bytes) → Reads form bytes result
  reads (Ok r) fits short few given =
      let read = is_read bytes r fits given in
      let same : length bytes ≡ length (payload r) = ap length read.0 in
      let spelled : IsSpelled r = record { lists = read.2; short = omega (arith, same, short, at_most form); same = ap decoded (sym read.0) ∙ given } in
      (record { is = read.0; spelled = spelled }, record { short = omega (arith, same, short); few = omega (arith, read.1, few) })
  reads (Err Bad) fits short few given = λ r spells has. none (sym given ∙ read_again bytes r spells)
    where
      none : {r : Record} → None ≡ Some r → ⊥
      none e = absurd cc
  reads (Err NoMemory) fits short few given = tt
