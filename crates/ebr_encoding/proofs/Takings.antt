-- The same of records: what bytes are read as is spelled so, and has as many changes as they say.
use Rattle.std.proofs.Common.{◌≡◌, ℕ, suc, ◌^◌, Bool, true, false, cond, eqb, List, [], ◌∷◌, ◌++◌, length, Option, Some, refl, sym, ap, subst, ◌∙◌, append_assoc}
use Rattle.std.specs.Int.{w16, w32, to_be_bytes}
use Rattle.std.specs.List.{flat_map}
use Rattle.std.proofs.lemmas.Bool.{eqb-true}
use Rattle.std.proofs.lemmas.List.{append-nil}
use Rattle.ebr_record.specs.declared.record.Record.{Record}
use Rattle.ebr_record.specs.declared.record.Record.TheVariants as made
use Rattle.ebr_record.specs.Payload.{HasLists, change_bytes, column_bytes, name_bytes, payload, text_bytes}
use Rattle.ebr_encoding.specs.Reading.{Reader, both, byte_at, change_at, class_at, column_at, column_record_at, commit_at, counted, decoded, default_at, edition_at, edition_gone_at, flag_at, gone_at, many, mapped, name_at, number, object_at, only, table_at, table_gone_at, text_at}
use Rattle.ebr_encoding.specs.Spelled.{changes_of}
use Rattle.ebr_encoding.specs.inside.Said.{changes_said, count_in}
use Rattle.ebr_encoding.proofs.Fields.{byte_takes, change_takes, class_bytes, class_takes, column_takes, counted_bytes, flag_bytes, flag_takes, name_takes, number_takes, text_takes, wide16, wide32}
use Rattle.ebr_encoding.proofs.Listed.{changes_hold, table_holds}
use Rattle.ebr_encoding.proofs.Laws.{IsBytes, Takes, behind, bind_some, both_takes, counted_takes, many_takes, mapped_is, mapped_takes, only_is}

-- a record that was read from these bytes
abbrev pub IsOf : List ℕ → Record → Type 0
IsOf bytes r = (bytes ≡ payload r) × (changes_of r ≡ changes_said bytes) × HasLists r

-- a kind of record, and what is read behind it; no commit
module _ {A : Type 0} (kind : ℕ) (p : Reader A) (f : A → List ℕ) (to : A → Record) where
  whole : ((a : A) → payload (to a) ≡ kind ∷ f a) → Takes p f → (fields : List ℕ) (r : Record) → IsBytes fields → mapped to p fields ≡ Some (r, []) → kind ∷ fields ≡ payload r
  whole same tp fields r fits e = mapped_takes p f to payload (kind ∷ []) same tp fields r [] fits e ∙ append-nil (payload r)

  pub is_of : ((a : A) → payload (to a) ≡ kind ∷ f a) → ((a : A) → changes_of (to a) ≡ 0) → ((bytes : List ℕ) (a : A) → IsBytes bytes → p bytes ≡ Some (a, []) → HasLists (to a)) → eqb kind 1 ≡ false → Takes p f → (fields : List ℕ) (r : Record) → IsBytes fields → only (mapped to p fields) ≡ Some r → IsOf (kind ∷ fields) r
  unfolding changes_said
  is_of same none lists other tp fields r fits e =
      let read = only_is (mapped to p fields) r e in
      let a = mapped_is p to fields r [] read in
      let few : changes_of r ≡ 0 = subst (λ (x : Record). changes_of x ≡ 0) a.2 (none a.0) in
      (whole same tp fields r fits read, few ∙ sym (ap (λ (b : Bool). cond b (count_in (number w32 fields)) 0) other), subst HasLists a.2 (lists fields a.0 fits a.1))

commit_is : (fields : List ℕ) (r : Record) → IsBytes fields → only (commit_at fields) ≡ Some r → IsOf (1 ∷ fields) r
unfolding commit_at changes_said counted
commit_is fields r fits e =
    let read = only_is (commit_at fields) r e in
    let changes = mapped_is (counted (number w32) change_at) made.Commit fields r [] read in
    let n = bind_some (number w32 fields) (λ n. many change_at n.0 n.1) (changes.0, []) changes.1 in
    let first : fields ≡ to_be_bytes w32 n.0.0 ++ n.0.1 = number_takes w32 (2 ^ 32) wide32 fields n.0.0 n.0.1 fits n.1 in
    let counts : length changes.0 ≡ n.0.0 = (many_takes change_at change_bytes change_takes n.0.0 n.0.1 changes.0 [] (behind (to_be_bytes w32 n.0.0) n.0.1 (subst IsBytes first fits)) n.2).1 in
    let few : changes_of r ≡ n.0.0 = subst (λ (x : Record). changes_of x ≡ n.0.0) changes.2 counts in (
      whole 1 (counted (number w32) change_at) (counted_bytes (to_be_bytes w32) change_bytes) made.Commit (λ a. refl) (counted_takes change_at change_bytes (number w32) (to_be_bytes w32) (number_takes w32 (2 ^ 32) wide32) change_takes) fields r fits read,
      few ∙ sym (ap count_in n.1),
      subst HasLists changes.2 (changes_hold fields changes.0 [] fits changes.1),
    )

edition_is : (fields : List ℕ) (r : Record) → IsBytes fields → only (edition_at fields) ≡ Some r → IsOf (2 ∷ fields) r
unfolding edition_at
edition_is = is_of 2 (both name_at (number w32)) (λ x. name_bytes x.0 ++ to_be_bytes w32 x.1) _ (λ a. refl) (λ a. refl) (λ bytes a fits e. tt) refl (both_takes _ _ name_bytes (to_be_bytes w32) name_takes (number_takes w32 (2 ^ 32) wide32))

edition_gone_is : (fields : List ℕ) (r : Record) → IsBytes fields → only (edition_gone_at fields) ≡ Some r → IsOf (3 ∷ fields) r
unfolding edition_gone_at
edition_gone_is = is_of 3 (number w32) (to_be_bytes w32) _ (λ a. refl) (λ a. refl) (λ bytes a fits e. tt) refl (number_takes w32 (2 ^ 32) wide32)

default_is : (fields : List ℕ) (r : Record) → IsBytes fields → only (default_at fields) ≡ Some r → IsOf (4 ∷ fields) r
unfolding default_at
default_is = is_of 4 (number w32) (to_be_bytes w32) _ (λ a. refl) (λ a. refl) (λ bytes a fits e. tt) refl (number_takes w32 (2 ^ 32) wide32)

object_is : (fields : List ℕ) (r : Record) → IsBytes fields → only (object_at fields) ≡ Some r → IsOf (5 ∷ fields) r
unfolding object_at
object_is = is_of 5 (both (both (number w32) flag_at) text_at) (λ x. (to_be_bytes w32 x.0.0 ++ flag_bytes x.0.1) ++ text_bytes x.1) _ (λ a. refl) (λ a. refl) (λ bytes a fits e. tt) refl
    (both_takes _ _ (λ x. to_be_bytes w32 x.0 ++ flag_bytes x.1) text_bytes (both_takes _ _ (to_be_bytes w32) flag_bytes (number_takes w32 (2 ^ 32) wide32) flag_takes) text_takes)

gone_is : (fields : List ℕ) (r : Record) → IsBytes fields → only (gone_at fields) ≡ Some r → IsOf (6 ∷ fields) r
unfolding gone_at
gone_is = is_of 6 (both (both (number w32) class_at) name_at) (λ x. (to_be_bytes w32 x.0.0 ++ class_bytes x.0.1) ++ name_bytes x.1) _ (λ a. refl) (λ a. refl) (λ bytes a fits e. tt) refl
    (both_takes _ _ (λ x. to_be_bytes w32 x.0 ++ class_bytes x.1) name_bytes (both_takes _ _ (to_be_bytes w32) class_bytes (number_takes w32 (2 ^ 32) wide32) class_takes) name_takes)

table_is : (fields : List ℕ) (r : Record) → IsBytes fields → only (table_at fields) ≡ Some r → IsOf (7 ∷ fields) r
unfolding table_at
table_is = is_of 7 (both (both name_at (counted (number w16) column_at)) (counted byte_at (number w16)))
    (λ x. (name_bytes x.0.0 ++ counted_bytes (to_be_bytes w16) column_bytes x.0.1) ++ counted_bytes (λ n. n ∷ []) (to_be_bytes w16) x.1) _
    (λ a. ap (λ (t : List ℕ). 7 ∷ (t ++ counted_bytes (λ n. n ∷ []) (to_be_bytes w16) a.1)) (append_assoc (name_bytes a.0.0) (to_be_bytes w16 (length a.0.1)) (flat_map column_bytes a.0.1))) (λ a. refl) (λ bytes a. table_holds bytes a []) refl
    (both_takes _ _ (λ x. name_bytes x.0 ++ counted_bytes (to_be_bytes w16) column_bytes x.1) (counted_bytes (λ n. n ∷ []) (to_be_bytes w16))
    (both_takes _ _ name_bytes (counted_bytes (to_be_bytes w16) column_bytes) name_takes (counted_takes column_at column_bytes (number w16) (to_be_bytes w16) (number_takes w16 (2 ^ 16) wide16) column_takes))
    (counted_takes (number w16) (to_be_bytes w16) byte_at (λ n. n ∷ []) byte_takes (number_takes w16 (2 ^ 16) wide16)))

column_record_is : (fields : List ℕ) (r : Record) → IsBytes fields → only (column_record_at fields) ≡ Some r → IsOf (8 ∷ fields) r
unfolding column_record_at
column_record_is = is_of 8 (both (number w32) column_at) (λ x. to_be_bytes w32 x.0 ++ column_bytes x.1) _ (λ a. refl) (λ a. refl) (λ bytes a fits e. tt) refl (both_takes _ _ (to_be_bytes w32) column_bytes (number_takes w32 (2 ^ 32) wide32) column_takes)

table_gone_is : (fields : List ℕ) (r : Record) → IsBytes fields → only (table_gone_at fields) ≡ Some r → IsOf (9 ∷ fields) r
unfolding table_gone_at
table_gone_is = is_of 9 (number w32) (to_be_bytes w32) _ (λ a. refl) (λ a. refl) (λ bytes a fits e. tt) refl (number_takes w32 (2 ^ 32) wide32)

-- a test of the kind
by_kind : {G : Type 0} (b : Bool) (x y : Option (Record × List ℕ)) (r : Record) → only (cond b x y) ≡ Some r → (b ≡ true → only x ≡ Some r → G) → (only y ≡ Some r → G) → G
by_kind true x y r e met other = met refl e
by_kind false x y r e met other = other e

of_kind : (n kind : ℕ) (fields : List ℕ) (r : Record) → eqb kind n ≡ true → IsOf (n ∷ fields) r → IsOf (kind ∷ fields) r
of_kind n kind fields r e h = subst (λ (k : ℕ). IsOf (k ∷ fields) r) (sym (eqb-true kind n e)) h

pub is_read : (bytes : List ℕ) (r : Record) → IsBytes bytes → decoded bytes ≡ Some r → IsOf bytes r
unfolding decoded
is_read [] r fits e = absurd cc
is_read (kind ∷ fields) r fits e =
    by_kind (eqb kind 1) _ _ r e (λ is read. of_kind 1 kind fields r is (commit_is fields r rest read)) (λ e.
    by_kind (eqb kind 2) _ _ r e (λ is read. of_kind 2 kind fields r is (edition_is fields r rest read)) (λ e.
    by_kind (eqb kind 3) _ _ r e (λ is read. of_kind 3 kind fields r is (edition_gone_is fields r rest read)) (λ e.
    by_kind (eqb kind 4) _ _ r e (λ is read. of_kind 4 kind fields r is (default_is fields r rest read)) (λ e.
    by_kind (eqb kind 5) _ _ r e (λ is read. of_kind 5 kind fields r is (object_is fields r rest read)) (λ e.
    by_kind (eqb kind 6) _ _ r e (λ is read. of_kind 6 kind fields r is (gone_is fields r rest read)) (λ e.
    by_kind (eqb kind 7) _ _ r e (λ is read. of_kind 7 kind fields r is (table_is fields r rest read)) (λ e.
    by_kind (eqb kind 8) _ _ r e (λ is read. of_kind 8 kind fields r is (column_record_is fields r rest read)) (λ e.
    by_kind (eqb kind 9) _ _ r e (λ is read. of_kind 9 kind fields r is (table_gone_is fields r rest read)) (λ e. absurd cc)))))))))
  where
    rest : IsBytes fields
    rest = λ i. fits (suc i)
