-- What the bytes begin with is told by `lead_of`, and nothing else.
use Rattle.std.proofs.Common.{ℕ, ◌≡◌, ◌≤◌, Bool, true, false, ◌&&◌, ◌||◌, nat_lt, List, [], ◌∷◌, length, drop, refl, ap, ◌∙◌, sym, arith, subst, codes, inl, inr}
use Rattle.std.proofs.lemmas.Bool.{and_parts, and_from, or_from, or_left, or_right, both_ways, cond-true, cond-false, cond_both, ltb-true, lt-ltb, false_from_ne_true}
use Rattle.std.specs.Str.{bytes_eq}
use Rattle.ebr_cut.specs.declared.span.Lead.{Lead}
use Rattle.ebr_cut.specs.declared.span.Lead.TheVariants as lead
use Rattle.ebr_cut.specs.Heads.{BeginsWith, Object, Procedure, Function, Package, Trigger, word_of, or_replace, editionable, BeginsUnit, BeginsBlock, BeginsCall, Leads}
use Rattle.ebr_cut.specs.Reading.{word_front, begins_with, without, without_or_replace, begins_object, names_object, begins_unit, lead_of}
use Rattle.ebr_cut.proofs.Statements.{zero_from}
use Rattle.ebr_cut.proofs.Words.{ahead, words_more, no_words, first}

-- whether a word begins the bytes, where another does
begins_yes : (v w : List ℕ) (words : List (List ℕ)) (bytes : List ℕ) → BeginsWith (w ∷ words) bytes → bytes_eq w v ≡ true → begins_with v bytes ≡ true
begins_yes v w words bytes b e =
    let f = first w words bytes b in
    ap (λ n. nat_lt 0 n) (f.front v ∙ cond-true (bytes_eq w v) f.long 0 e) ∙ lt-ltb 0 f.long f.some

without_yes : (v w : List ℕ) (words : List (List ℕ)) (bytes : List ℕ) → BeginsWith (w ∷ words) bytes → bytes_eq w v ≡ true → BeginsWith words (without v bytes)
without_yes v w words bytes b e =
    let f = first w words bytes b in
    subst (λ n. BeginsWith words (drop n bytes)) (sym (f.front v ∙ cond-true (bytes_eq w v) f.long 0 e)) f.rest

front_no : (v w : List ℕ) (words : List (List ℕ)) (bytes : List ℕ) → BeginsWith (w ∷ words) bytes → bytes_eq w v ≡ false → word_front v bytes ≡ 0
front_no v w words bytes b e = let f = first w words bytes b in f.front v ∙ cond-false (bytes_eq w v) f.long 0 e

begins_no : (v w : List ℕ) (words : List (List ℕ)) (bytes : List ℕ) → BeginsWith (w ∷ words) bytes → bytes_eq w v ≡ false → begins_with v bytes ≡ false
begins_no v w words bytes b e = ap (λ n. nat_lt 0 n) (front_no v w words bytes b e)

without_no : (v bytes : List ℕ) → word_front v bytes ≡ 0 → without v bytes ≡ bytes
without_no v bytes e = ap (λ n. drop n bytes) e

-- a word that begins the bytes
begun : (v : List ℕ) (words : List (List ℕ)) (bytes : List ℕ) → length v ≤ 128 → begins_with v bytes ≡ true → BeginsWith words (without v bytes) → BeginsWith (v ∷ words) bytes
begun v words bytes few e b = words_more v bytes (without v bytes) words few (ahead v bytes (ltb-true 0 _ e)) b

begun_alone : (v bytes : List ℕ) → length v ≤ 128 → begins_with v bytes ≡ true → BeginsWith (v ∷ []) bytes
begun_alone v bytes few e = begun v [] bytes few e (no_words (without v bytes))

object_yes : (o : Object) (bytes : List ℕ) → BeginsWith (word_of o ∷ []) bytes → begins_object bytes ≡ true
unfolding begins_object
object_yes Procedure bytes b = or_left _ _ (or_left _ _ (or_left _ _ (begins_yes (codes "PROCEDURE") (codes "PROCEDURE") [] bytes b refl)))
object_yes Function bytes b = or_left _ _ (or_left _ _ (or_right _ _ (begins_yes (codes "FUNCTION") (codes "FUNCTION") [] bytes b refl)))
object_yes Package bytes b = or_left _ _ (or_right _ _ (begins_yes (codes "PACKAGE") (codes "PACKAGE") [] bytes b refl))
object_yes Trigger bytes b = or_right _ _ (begins_yes (codes "TRIGGER") (codes "TRIGGER") [] bytes b refl)

abbrev IsObject : List ℕ → Type 0
IsObject bytes = (o : Object) × BeginsWith (word_of o ∷ []) bytes

either : {P : Type 0} (x y : Bool) → (x ≡ true → P) → (y ≡ true → P) → (x || y) ≡ true → P
either true y f g h = f refl
either false y f g h = g h

object_sound : (bytes : List ℕ) → begins_object bytes ≡ true → IsObject bytes
unfolding begins_object
object_sound bytes =
    let p = begins_with (codes "PROCEDURE") bytes in
    let f = begins_with (codes "FUNCTION") bytes in
    let k = begins_with (codes "PACKAGE") bytes in
    let t = begins_with (codes "TRIGGER") bytes in
    either (p || f || k) t
    (either (p || f) k
    (either p f (λ e. (Procedure, begun_alone (codes "PROCEDURE") bytes (omega arith) e)) (λ e. (Function, begun_alone (codes "FUNCTION") bytes (omega arith) e)))
    (λ e. (Package, begun_alone (codes "PACKAGE") bytes (omega arith) e)))
    (λ e. (Trigger, begun_alone (codes "TRIGGER") bytes (omega arith) e))

-- EDITIONABLE, if it is there
object_not : (o : Object) (v : List ℕ) → bytes_eq (codes "PROCEDURE") v ≡ false → bytes_eq (codes "FUNCTION") v ≡ false → bytes_eq (codes "PACKAGE") v ≡ false → bytes_eq (codes "TRIGGER") v ≡ false
    → bytes_eq (word_of o) v ≡ false
object_not Procedure v p f k t = p
object_not Function v p f k t = f
object_not Package v p f k t = k
object_not Trigger v p f k t = t

named_yes : (named : Bool) (o : Object) (bytes : List ℕ) → BeginsWith (editionable named (word_of o ∷ [])) bytes → BeginsWith (word_of o ∷ []) (without (codes "EDITIONABLE") bytes)
named_yes true o bytes b = without_yes (codes "EDITIONABLE") (codes "EDITIONABLE") (word_of o ∷ []) bytes b refl
named_yes false o bytes b =
    subst (BeginsWith (word_of o ∷ [])) (sym (without_no (codes "EDITIONABLE") bytes (front_no (codes "EDITIONABLE") (word_of o) [] bytes b (object_not o _ refl refl refl refl)))) b

abbrev IsNamed : List ℕ → Type 0
IsNamed bytes = (named : Bool) × (o : Object) × BeginsWith (editionable named (word_of o ∷ [])) bytes

named_by : (b : Bool) (bytes : List ℕ) → begins_with (codes "EDITIONABLE") bytes ≡ b → IsObject (without (codes "EDITIONABLE") bytes) → IsNamed bytes
named_by true bytes e x = (true, x.0, begun (codes "EDITIONABLE") (word_of x.0 ∷ []) bytes (omega arith) e x.1)
named_by false bytes e x = (false, x.0, subst (BeginsWith (word_of x.0 ∷ [])) (without_no (codes "EDITIONABLE") bytes (zero_from _ e)) x.1)

-- OR REPLACE, if it is there
named_not : (named : Bool) (o : Object) (bytes : List ℕ) → BeginsWith (editionable named (word_of o ∷ [])) bytes → begins_with (codes "OR") bytes ≡ false
named_not true o bytes b = begins_no (codes "OR") (codes "EDITIONABLE") (word_of o ∷ []) bytes b refl
named_not false o bytes b = begins_no (codes "OR") (word_of o) [] bytes b (object_not o _ refl refl refl refl)

replaced_yes : (replaced named : Bool) (o : Object) (bytes : List ℕ) → BeginsWith (or_replace replaced (editionable named (word_of o ∷ []))) bytes
    → BeginsWith (editionable named (word_of o ∷ [])) (without_or_replace bytes)
unfolding without_or_replace
replaced_yes true named o bytes b =
    let words = editionable named (word_of o ∷ []) in
    let rest = without (codes "OR") bytes in
    let one = begins_yes (codes "OR") (codes "OR") (codes "REPLACE" ∷ words) bytes b refl in
    let behind = without_yes (codes "OR") (codes "OR") (codes "REPLACE" ∷ words) bytes b refl in
    let two = begins_yes (codes "REPLACE") (codes "REPLACE") words rest behind refl in
    subst (BeginsWith words) (sym (cond-true _ _ _ (and_from _ _ one two))) (without_yes (codes "REPLACE") (codes "REPLACE") words rest behind refl)
replaced_yes false named o bytes b =
    let rest = without (codes "OR") bytes in
    let test : (begins_with (codes "OR") bytes && begins_with (codes "REPLACE") rest) ≡ false = ap (λ k. k && begins_with (codes "REPLACE") rest) (named_not named o bytes b) in
    subst (BeginsWith (editionable named (word_of o ∷ []))) (sym (cond-false _ (without (codes "REPLACE") rest) bytes test)) b

abbrev IsReplaced : List ℕ → Type 0
IsReplaced bytes = (replaced : Bool) × (named : Bool) × (o : Object) × BeginsWith (or_replace replaced (editionable named (word_of o ∷ []))) bytes

replaced_sound : (bytes : List ℕ) → IsNamed (without_or_replace bytes) → IsReplaced bytes
unfolding without_or_replace
replaced_sound bytes =
    let rest = without (codes "OR") bytes in
    cond_both (begins_with (codes "OR") bytes && begins_with (codes "REPLACE") rest) (without (codes "REPLACE") rest) bytes (λ k. IsNamed k → IsReplaced bytes)
    (λ e x. let p = and_parts _ _ e in
    let words = editionable x.0 (word_of x.1 ∷ []) in
    (true, x.0, x.1, begun (codes "OR") (codes "REPLACE" ∷ words) bytes (omega arith) p.0 (begun (codes "REPLACE") words rest (omega arith) p.1 x.2)))
    (λ e x. (false, x.0, x.1, x.2))

names_yes : (replaced named : Bool) (o : Object) (bytes : List ℕ) → BeginsWith (or_replace replaced (editionable named (word_of o ∷ []))) bytes → names_object bytes ≡ true
unfolding names_object
names_yes replaced named o bytes b =
    let y = without_or_replace bytes in
    object_yes o (without (codes "EDITIONABLE") y) (named_yes named o y (replaced_yes replaced named o bytes b))

names_sound : (bytes : List ℕ) → names_object bytes ≡ true → IsReplaced bytes
unfolding names_object
names_sound bytes e =
    let y = without_or_replace bytes in
    replaced_sound bytes (named_by (begins_with (codes "EDITIONABLE") y) y refl (object_sound (without (codes "EDITIONABLE") y) e))

unit_yes : (bytes : List ℕ) → BeginsUnit bytes → begins_unit bytes ≡ true
unit_yes bytes u =
    let words = or_replace u.0 (editionable u.1 (word_of u.2 ∷ [])) in
    and_from _ _ (begins_yes (codes "CREATE") (codes "CREATE") words bytes u.3 refl)
    (names_yes u.0 u.1 u.2 (without (codes "CREATE") bytes) (without_yes (codes "CREATE") (codes "CREATE") words bytes u.3 refl))

unit_sound : (bytes : List ℕ) → begins_unit bytes ≡ true → BeginsUnit bytes
unit_sound bytes e =
    let p = and_parts _ _ e in
    let x = names_sound (without (codes "CREATE") bytes) p.1 in
    (x.0, x.1, x.2, begun (codes "CREATE") (or_replace x.0 (editionable x.1 (word_of x.2 ∷ []))) bytes (omega arith) p.0 x.3)

abbrev begins_block : List ℕ → Bool
begins_block bytes = begins_with (codes "BEGIN") bytes || begins_with (codes "DECLARE") bytes

block_yes : (bytes : List ℕ) → BeginsBlock bytes → begins_block bytes ≡ true
block_yes bytes (inl b) = or_left _ _ (begins_yes (codes "BEGIN") (codes "BEGIN") [] bytes b refl)
block_yes bytes (inr b) = or_right _ _ (begins_yes (codes "DECLARE") (codes "DECLARE") [] bytes b refl)

block_sound : (bytes : List ℕ) → begins_block bytes ≡ true → BeginsBlock bytes
block_sound bytes = either _ _ (λ e. inl (begun_alone (codes "BEGIN") bytes (omega arith) e)) (λ e. inr (begun_alone (codes "DECLARE") bytes (omega arith) e))

block_no : (w : List ℕ) (words : List (List ℕ)) (bytes : List ℕ) → BeginsWith (w ∷ words) bytes → bytes_eq w (codes "BEGIN") ≡ false → bytes_eq w (codes "DECLARE") ≡ false → begins_block bytes ≡ false
block_no w words bytes b e f = or_from _ _ (begins_no (codes "BEGIN") w words bytes b e) (begins_no (codes "DECLARE") w words bytes b f)

call_yes : (bytes : List ℕ) → BeginsCall bytes → begins_with (codes "CALL") bytes ≡ true
call_yes bytes b = begins_yes (codes "CALL") (codes "CALL") [] bytes b refl

-- what is told stands in front
pub lead_sound : (bytes : List ℕ) → Leads (lead_of bytes) bytes
unfolding lead_of
lead_sound bytes =
    cond_both (begins_block bytes) _ _ (λ l. Leads l bytes) (block_sound bytes)
    (λ b. cond_both (begins_with (codes "CALL") bytes) _ _ (λ l. Leads l bytes) (begun_alone (codes "CALL") bytes (omega arith))
    (λ c. cond_both (begins_unit bytes) _ _ (λ l. Leads l bytes) (unit_sound bytes)
    (λ u. (λ x. both_ways _ u (unit_yes bytes x), λ x. both_ways _ b (block_yes bytes x), λ x. both_ways _ c (call_yes bytes x)))))

-- what stands in front is told
pub lead_only : (l : Lead) (bytes : List ℕ) → Leads l bytes → lead_of bytes ≡ l
unfolding lead_of
lead_only lead.Block bytes h = cond-true (begins_block bytes) _ _ (block_yes bytes h)
lead_only lead.Call bytes h = cond-false (begins_block bytes) _ _ (block_no (codes "CALL") [] bytes h refl refl) ∙ cond-true (begins_with (codes "CALL") bytes) _ _ (call_yes bytes h)
lead_only lead.Unit bytes h =
    let words = or_replace h.0 (editionable h.1 (word_of h.2 ∷ [])) in
    cond-false (begins_block bytes) _ _ (block_no (codes "CREATE") words bytes h.3 refl refl)
    ∙ cond-false (begins_with (codes "CALL") bytes) _ _ (begins_no (codes "CALL") (codes "CREATE") words bytes h.3 refl) ∙ cond-true (begins_unit bytes) _ _ (unit_yes bytes h)
lead_only lead.Other bytes h =
    cond-false (begins_block bytes) _ _ (false_from_ne_true (begins_block bytes) (λ e. h.1 (block_sound bytes e)))
    ∙ cond-false (begins_with (codes "CALL") bytes) _ _ (false_from_ne_true (begins_with (codes "CALL") bytes) (λ e. h.2 (begun_alone (codes "CALL") bytes (omega arith) e)))
    ∙ cond-false (begins_unit bytes) _ _ (false_from_ne_true (begins_unit bytes) (λ e. h.0 (unit_sound bytes e)))
