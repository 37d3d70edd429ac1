-- Tables that are found by their numbers.
use Rattle.std.proofs.Common.{◌≡◌, ℕ, zero, suc, ◌<◌, Bool, true, false, cond, ◌&&◌, eqb, List, [], ◌∷◌, ◌++◌, Option, Some, None, length, refl, sym, ap, ◌∙◌, subst, arith}
use Rattle.std.specs.Prelude.{slice_get, option_and_then, find}
use Rattle.std.proofs.lemmas.Bool.{false≢true, and_parts}
use Rattle.ebr_base.specs.declared.numbers.TableId.{TableId}
use Rattle.ebr_spots.specs.declared.spot.Spot.{Spot}
use Rattle.ebr_spots.specs.Spots.{has, is_spot, IsFirstFrom, IsNoneFrom, IsNoLater}
use Rattle.ebr_spots.specs.Filed.{found, is_mark_of}
use Rattle.ebr_spots.proofs.Filing.{index_more}
use Rattle.ebr_versions.specs.declared.table.Table.{Table}
use Rattle.ebr_versions.specs.Data.{is_table}
use Rattle.ebr_versions.specs.Keys.{key_places}
use Rattle.ebr_versions.specs.inside.Tables.{table_mark, AreFiledById, key_of_table}

pub filed_first : (spots : List Spot) (tables : List Table) → spots ≡ [] → tables ≡ [] → AreFiledById spots tables
filed_first spots tables s t = subst (λ (ss : List Spot). AreFiledById ss tables) (sym s) (subst (λ (ts : List Table). AreFiledById [] ts) (sym t) (λ q. none q.list q.place q))
  where
    none : (i p : ℕ) (q : Spot) → false ≡ is_mark_of q (option_and_then table_mark (found ([] ∷ []) i p))
    none zero p q = refl
    none (suc i) p q = refl

pub filed_more : (spots more : List Spot) (tables new : List Table) (x : Table) (k : Spot) (n : ℕ) → n ≡ length tables → k ≡ record { table = x.id.0; number = 0; list = 0; place = n } → new ≡ tables ++ x ∷ []
    → ((q : Spot) → has more q ≡ cond (is_spot k q) true (has spots q)) → AreFiledById spots tables → AreFiledById more new
filed_more spots more tables new x k n len at is added filed =
    let s : Spot = record { table = x.id.0; number = 0; list = 0; place = n } in
    subst (AreFiledById more) (sym is)
    (index_more table_mark [] tables x s refl len refl spots more (subst (λ (s : Spot). (q : Spot) → has more q ≡ cond (is_spot s q) true (has spots q)) at added) filed)

find_first : (p : Table → Bool) (xs : List Table) (n : ℕ) (x : Table) → slice_get xs n ≡ Some x → p x ≡ true → ((q : ℕ) (y : Table) → q < n → slice_get xs q ≡ Some y → p y ≡ false) → find p xs ≡ Some x
find_first p [] n x e passes before = cc
find_first p (y ∷ ys) zero x e passes before = let same : p y ≡ true = ap p (inside y x e) ∙ passes in rw same e
  where
    inside : (a b : Table) → Some a ≡ Some b → a ≡ b
    inside a b e = cc
find_first p (y ∷ ys) (suc n) x e passes before =
    let fails : p y ≡ false = before 0 y (omega arith) refl in
    rw fails (find_first p ys n x e passes (λ q z l f. before (suc q) z (omega (arith, l)) f))

find_none : (p : Table → Bool) (xs : List Table) → ((q : ℕ) (y : Table) → slice_get xs q ≡ Some y → p y ≡ false) → find p xs ≡ None
find_none p [] fails = refl
find_none p (y ∷ ys) fails = let here : p y ≡ false = fails 0 y refl in rw here (find_none p ys (λ q z f. fails (suc q) z f))

module _ (spots : List Spot) (tables : List Table) (filed : AreFiledById spots tables) (t : TableId) where
  abbrev from : Spot
  from = record { table = t.0; number = 0; list = 0; place = 0 }

  abbrev at_place : ℕ → Spot
  at_place p = record { table = t.0; number = 0; list = 0; place = p }

  -- a table of that number is filed at its place
  is_filed_there : (q : ℕ) (y : Table) → slice_get tables q ≡ Some y → is_table y.id t ≡ true → has spots (at_place q) ≡ true
  is_filed_there q y e same = filed (at_place q) ∙ ap (λ o. is_mark_of (at_place q) (option_and_then table_mark o)) e ∙ ap (λ b. b && true) same

  fails : (b : Bool) → (b ≡ true → ⊥) → b ≡ false
  fails true h = absurd (h refl)
  fails false h = refl

  -- what stands at a spot of that number is a table of that number
  table_there : (i p : ℕ) (k : Spot) → is_mark_of k (option_and_then table_mark (found (tables ∷ []) i p)) ≡ true → k.table ≡ t.0 → (x : Table) × (slice_get tables p ≡ Some x) × (is_table x.id t ≡ true) × (i ≡ 0)
  table_there (suc i) p k e same = absurd (false≢true e)
  table_there zero p k e same = by (slice_get tables p) refl e
    where
      by : (o : Option Table) → slice_get tables p ≡ o → is_mark_of k (option_and_then table_mark o) ≡ true → (x : Table) × (slice_get tables p ≡ Some x) × (is_table x.id t ≡ true) × (zero ≡ 0)
      by None f m = absurd (false≢true m)
      by (Some x) f m = (x, f, ap (eqb x.id.0) (sym same) ∙ (and_parts (eqb x.id.0 k.table) (eqb 0 k.number) m).0, refl)

  pub found_by_id : (k start : Spot) → start ≡ from → IsFirstFrom spots start k → slice_get tables k.place ≡ find (λ (x : Table). is_table x.id t) tables
  found_by_id k start e h =
      let first : IsFirstFrom spots from k = subst (λ (s : Spot). IsFirstFrom spots s k) e h in
      let x = table_there k.list k.place k (sym (filed k) ∙ first.here) first.table in
      x.1
      ∙ sym (find_first (λ (y : Table). is_table y.id t) tables k.place x.0 x.1 x.2
      (λ q y l f. fails (is_table y.id t) (λ same.
      let later : IsNoLater k (at_place q) = first.first 0 q (record { list = omega arith; place = λ _. omega arith }) (is_filed_there q y f same) in
      absurd (omega (arith, l, later.place x.3)))))

  pub none_by_id : (start : Spot) → start ≡ from → IsNoneFrom spots start → find (λ (x : Table). is_table x.id t) tables ≡ None
  none_by_id start e h =
      let none : IsNoneFrom spots from = subst (λ (s : Spot). IsNoneFrom spots s) e h in
      find_none (λ (y : Table). is_table y.id t) tables
      (λ q y f. fails (is_table y.id t) (λ same. false≢true (sym (none 0 q (record { list = omega arith; place = λ _. omega arith })) ∙ is_filed_there q y f same)))

  pub places_found : (k start : Spot) → start ≡ from → IsFirstFrom spots start k → key_of_table (slice_get tables k.place) ≡ key_places tables t
  places_found k start e h = ap key_of_table (found_by_id k start e h)

  pub places_none : (start : Spot) → start ≡ from → IsNoneFrom spots start → [] ≡ key_places tables t
  places_none start e h = sym (ap key_of_table (none_by_id start e h))
