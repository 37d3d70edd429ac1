-- A file has at most one list of records.
use Rattle.std.proofs.Common.{◌≡◌, ◌≢◌, inl, inr, ℕ, zero, suc, ◌+◌, ◌<◌, ◌≤◌, ◌==◌, Bool, true, false, if◌then◌else◌, List, [], ◌∷◌, ◌++◌, length, take, drop, get_or, Option, Some, None, refl, sym, ◌∙◌, ap, arith, append_assoc, length-append}
use Rattle.std.proofs.lemmas.List.{take_at, drop_at}
use Rattle.std.proofs.lemmas.Bool.Decides.{nat_tests}
use Rattle.std.specs.List.{flat_map}
use Rattle.std.specs.Int.{w32, w64, to_be_bytes, from_be_bytes}
use Rattle.std.proofs.lemmas.Nat.{from_be_bytes-to_be_bytes_4, from_be_bytes-to_be_bytes_8}
use Rattle.ebr_record.specs.declared.record.Record.{Record}
use Rattle.ebr_record.specs.declared.record.Record.TheVariants as made
use Rattle.ebr_record.specs.Payload.{payload}
use Rattle.ebr_encoding.specs.Reading.{decoded}
use Rattle.ebr_encoding.specs.declared.form.Form.{Form}
use Rattle.ebr_encoding.specs.declared.form.Form.TheVariants.{Short, Long}
use Rattle.ebr_journal.specs.Journal.{entry, share_in, mark, MayStand, MayAllStand, Layout, none_yet, long_in, behind_short, front, records_in, IsBlank, Ends, HasRecords, and_more, payload_at, walked, with_first, and_short, laid_out, recovered}

-- no record's payload begins as the mark's would
pub first_byte : (r : Record) → get_or (payload r) 0 0 ≤ 9
first_byte (made.Commit changes) = omega arith
first_byte (made.Edition name parent) = omega arith
first_byte (made.EditionGone e) = omega arith
first_byte (made.Default e) = omega arith
first_byte (made.Object e enabled text) = omega arith
first_byte (made.Gone e class name) = omega arith
first_byte (made.Table name columns key) = omega arith
first_byte (made.Column t column) = omega arith
first_byte (made.TableGone t) = omega arith

pub some_bytes : (r : Record) → 1 ≤ length (payload r)
some_bytes (made.Commit changes) = omega arith
some_bytes (made.Edition name parent) = omega arith
some_bytes (made.EditionGone e) = omega arith
some_bytes (made.Default e) = omega arith
some_bytes (made.Object e enabled text) = omega arith
some_bytes (made.Gone e class name) = omega arith
some_bytes (made.Table name columns key) = omega arith
some_bytes (made.Column t column) = omega arith
some_bytes (made.TableGone t) = omega arith

pub length-entry : (form : Form) (r : Record) → length (entry form r) ≡ share_in form r
length-entry Short r = omega (arith, length-append (to_be_bytes w32 (length (payload r))) (payload r))
length-entry Long r = omega (arith, length-append (to_be_bytes w64 (length (payload r))) (payload r))

shut : (gate k : ℕ) → gate ≢ k → (gate == k) ≡ false
shut gate k closed = grind (arith, nat_tests)

pub walked_past : (n : ℕ) (r : Record) (more : List ℕ) → MayStand Long r → walked (suc n) (entry Long r ++ more) ≡ r ∷ walked n more
unfolding walked
walked_past n r more has =
    let size : from_be_bytes w64 (to_be_bytes w64 (length (payload r))) ≡ length (payload r) = from_be_bytes-to_be_bytes_8 (length (payload r)) (omega (arith, has.spelled.short)) in
    let is_payload : payload_at Long (entry Long r ++ more) ≡ payload r = ap (λ (k : ℕ). take k (payload r ++ more)) size ∙ take_at (payload r) more (length (payload r)) refl in
    let there : decoded (payload_at Long (entry Long r ++ more)) ≡ Some r = ap decoded is_payload ∙ has.spelled.same in
    let behind : drop (share_in Long r) (entry Long r ++ more) ≡ more = drop_at (entry Long r) more (share_in Long r) (length-entry Long r) in
    ap (λ (o : Option Record). and_more o (λ x. walked n (drop (share_in Long x) (entry Long r ++ more)))) there ∙ ap (λ (l : List ℕ). r ∷ walked n l) behind

walked_all : (n : ℕ) (records : List Record) (gate : ℕ) (rest : List ℕ) → length records ≤ n → gate ≢ 1 → MayAllStand Long records
    → walked n (flat_map (entry Long) records ++ gate ∷ rest) ≡ records
unfolding walked
walked_all zero [] gate rest le closed has = refl
walked_all zero (r ∷ records) gate rest le closed has = absurd (omega arith)
walked_all (suc n) [] gate rest le closed has =
    ap (λ (b : Bool). if b then and_more (decoded (payload_at Long (gate ∷ rest))) (λ r. walked n (drop (share_in Long r) (gate ∷ rest))) else []) (shut gate 1 closed)
walked_all (suc n) (r ∷ records) gate rest le closed has =
    ap (walked (suc n)) (append_assoc (entry Long r) (flat_map (entry Long) records) (gate ∷ rest))
    ∙ walked_past n r (flat_map (entry Long) records ++ gate ∷ rest) has.0
    ∙ ap (λ (l : List Record). r ∷ l) (walked_all n records gate rest (omega arith) closed has.1)

-- the first byte of the payload
sixth : (r : Record) (more : List ℕ) → get_or (entry Short r ++ more) 5 0 ≤ 9
sixth (made.Commit changes) more = omega arith
sixth (made.Edition name parent) more = omega arith
sixth (made.EditionGone e) more = omega arith
sixth (made.Default e) more = omega arith
sixth (made.Object e enabled text) more = omega arith
sixth (made.Gone e class name) more = omega arith
sixth (made.Table name columns key) more = omega arith
sixth (made.Column t column) more = omega arith
sixth (made.TableGone t) more = omega arith

pub laid_out_past : (n : ℕ) (r : Record) (more : List ℕ) → MayStand Short r → laid_out (suc n) (entry Short r ++ more) ≡ with_first r (laid_out n more)
unfolding laid_out
laid_out_past n r more has =
    let bytes = entry Short r ++ more in
    let no_mark : (get_or bytes 5 0 == 10) ≡ false = shut (get_or bytes 5 0) 10 (λ e. omega (arith, e, sixth r more)) in
    let size : from_be_bytes w32 (to_be_bytes w32 (length (payload r))) ≡ length (payload r) = from_be_bytes-to_be_bytes_4 (length (payload r)) (omega (arith, has.spelled.short)) in
    let is_payload : payload_at Short bytes ≡ payload r = ap (λ (k : ℕ). take k (payload r ++ more)) size ∙ take_at (payload r) more (length (payload r)) refl in
    let there : decoded (payload_at Short bytes) ≡ Some r = ap decoded is_payload ∙ has.spelled.same in
    let behind : drop (share_in Short r) bytes ≡ more = drop_at (entry Short r) more (share_in Short r) (length-entry Short r) in
    ap (λ (b : Bool). if b then record { short = []; long = Some (walked n (drop 7 bytes)) } else and_short (decoded (payload_at Short bytes)) (λ x. laid_out n (drop (share_in Short x) bytes))) no_mark
    ∙ ap (λ (o : Option Record). and_short o (λ x. laid_out n (drop (share_in Short x) bytes))) there ∙ ap (λ (l : List ℕ). with_first r (laid_out n l)) behind

pub laid_out_all : (n : ℕ) (short : List Record) (long : Option (List Record)) (gate : ℕ) (rest : List ℕ) → length short + length (long_in long) < n → gate ≢ 1 → MayAllStand Short short → MayAllStand Long (long_in long)
    → laid_out n ((flat_map (entry Short) short ++ behind_short long) ++ gate ∷ rest) ≡ record { short = short; long = long }
unfolding laid_out
laid_out_all zero short long gate rest lt closed shorts longs = absurd (omega (arith, lt))
laid_out_all (suc n) [] None gate rest lt closed shorts longs =
    ap (λ (b : Bool). if b then (if get_or (gate ∷ rest) 5 0 == 10 then record { short = []; long = Some (walked n (drop 7 (gate ∷ rest))) } else and_short (decoded (payload_at Short (gate ∷ rest))) (λ r. laid_out n (drop (share_in Short r) (gate ∷ rest)))) else none_yet) (shut gate 1 closed)
laid_out_all (suc n) [] (Some long) gate rest lt closed shorts longs =
    ap (λ (l : List Record). record { short = []; long = Some l }) (walked_all n long gate rest (omega (arith, lt)) closed longs)
laid_out_all (suc n) (r ∷ short) long gate rest lt closed shorts longs =
    let more = (flat_map (entry Short) short ++ behind_short long) ++ gate ∷ rest in
    let split : (flat_map (entry Short) (r ∷ short) ++ behind_short long) ++ gate ∷ rest ≡ entry Short r ++ more =
    ap (λ (l : List ℕ). l ++ gate ∷ rest) (append_assoc (entry Short r) (flat_map (entry Short) short) (behind_short long)) ∙ append_assoc (entry Short r) (flat_map (entry Short) short ++ behind_short long) (gate ∷ rest) in
    ap (laid_out (suc n)) split ∙ laid_out_past n r more shorts.0 ∙ ap (with_first r) (laid_out_all n short long gate rest (omega (arith, lt)) closed shorts.1 longs)

few : (form : Form) (records : List Record) → length records ≤ length (flat_map (entry form) records)
few form [] = omega arith
few form (r ∷ records) = omega (arith, few form records, length-append (entry form r) (flat_map (entry form) records), length-entry form r)

few_long : (long : Option (List Record)) → length (long_in long) ≤ length (behind_short long)
few_long None = omega arith
few_long (Some long) = omega (arith, few Long long, length-append mark (flat_map (entry Long) long))

-- the layout of a journal
pub recovered_ends : (bytes : List ℕ) (l : Layout) → Ends bytes l → recovered bytes ≡ l
unfolding recovered
recovered_ends bytes l ends =
    let shorts = flat_map (entry Short) l.short in
    let longs = behind_short l.long in
    ap recovered ends.is
    ∙ laid_out_all (length (front l ++ ends.gate ∷ ends.rest)) l.short l.long ends.gate ends.rest
    (omega (arith, few Short l.short, few_long l.long, length-append shorts longs, length-append (shorts ++ longs) (ends.gate ∷ ends.rest))) ends.closed ends.spelled.short ends.spelled.long

pub recovered_blank : (bytes : List ℕ) → IsBlank bytes → records_in (recovered bytes) ≡ []
unfolding recovered laid_out
recovered_blank [] blank = refl
recovered_blank (a ∷ []) blank = same (a == 1)
  where
    same : (b : Bool) → records_in (if b then none_yet else none_yet) ≡ []
    same true = refl
    same false = refl
recovered_blank (a ∷ b ∷ rest) (inl short) = absurd (omega arith)
recovered_blank (a ∷ b ∷ rest) (inr two) = ap (λ (t : Bool). records_in (if t then laid_out (length (a ∷ b ∷ rest)) (b ∷ rest) else none_yet)) (shut a 1 two.1)

-- the file has no other list of records
pub recovered_is : (bytes : List ℕ) (records : List Record) → HasRecords bytes records → records_in (recovered bytes) ≡ records
recovered_is bytes records (inl blank) = recovered_blank bytes blank.0 ∙ sym blank.1
recovered_is bytes records (inr journal) = ap records_in (recovered_ends bytes journal.layout journal.safe.ends) ∙ sym journal.are

pub one_list : (bytes : List ℕ) (k l : List Record) → HasRecords bytes k → HasRecords bytes l → k ≡ l
one_list bytes k l a b = sym (recovered_is bytes k a) ∙ recovered_is bytes l b
