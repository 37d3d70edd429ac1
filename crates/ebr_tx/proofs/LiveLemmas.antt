-- Live transactions, and one of them changed.
use Rattle.std.proofs.Common.{◌≡◌, ℕ, suc, ◌+◌, ◌<◌, Bool, true, false, not, cond, ◌&&◌, ◌||◌, List, [], ◌∷◌, ◌++◌, Option, Some, None, map, take, drop, max, get_or, set, length, refl, sym, ap, subst, ◌∙◌, arith}
use Rattle.std.specs.Prelude.{All, filter, find, is_some, unwrap_or, option_map}
use Rattle.std.specs.List.{flat_map, position_or_len, list_any, last_or}
use Rattle.std.proofs.lemmas.Option.{same_Some}
use Rattle.std.proofs.lemmas.List.{drop_more, map-append, take-map}
use Rattle.std.proofs.lemmas.Bool.{and_from}
use Rattle.std.proofs.lemmas.List.Folds.{list_any_at}
use Rattle.std.proofs.lemmas.Simd.{map-map}
use Rattle.std.proofs.lemmas.List.Elements.{All-filter, All-get_or, All-head, All-nil, All-push, All-set, All-tail, All-take, All-weaker}
use Rattle.ebr_base.specs.declared.numbers.SessionId.{SessionId}
use Rattle.ebr_base.specs.declared.numbers.TableId.{TableId}
use Rattle.ebr_base.specs.declared.row.Change.{Change}
use Rattle.ebr_base.specs.declared.row.TxId.{TxId}
use Rattle.ebr_versions.specs.declared.table.Table.{Table}
use Rattle.ebr_versions.specs.Data.{greatest_number_in}
use Rattle.ebr_versions.specs.inside.Index.{entry_of}
use Rattle.ebr_versions.specs.Keys.{is_added}
use Rattle.ebr_versions.specs.Store.{OfAdded}
use Rattle.ebr_versions.proofs.Indexing.{same_changes}
use Rattle.ebr_versions.proofs.KeyLemmas.{OfAdded-append}
use Rattle.ebr_versions.proofs.NumberLemmas.{greatest_number_in-append}
use Rattle.ebr_locks.specs.Locks.{same_tx}
use Rattle.ebr_tx.specs.Data.{Transaction, is_of_session, top_of, named_at, is_named, names_of, not_begun, IsIn, changed, changes_by}
use Rattle.ebr_tx.specs.Calls.{with_change}
use Rattle.ebr_tx.specs.inside.Filed.{FiledTransaction, transactions_of, is_live, IsFiledBy, AreFiledBy}

-- what is asked of the parts of elements
module _ {X Y : Type 0} (f : X → Y) where
  pub any-map : (p : Y → Bool) (xs : List X) → list_any p (map f xs) ≡ list_any (λ x. p (f x)) xs
  any-map p [] = refl
  any-map p (x ∷ xs) = ap (λ b. p (f x) || b) (any-map p xs)

  pub filter-map : (p : Y → Bool) (xs : List X) → filter p (map f xs) ≡ map f (filter (λ x. p (f x)) xs)
  filter-map p [] = refl
  filter-map p (x ∷ xs) = by (p (f x)) (filter-map p xs)
    where
      by : (b : Bool) → filter p (map f xs) ≡ map f (filter (λ y. p (f y)) xs)
          → cond b (f x ∷ filter p (map f xs)) (filter p (map f xs)) ≡ map f (cond b (x ∷ filter (λ y. p (f y)) xs) (filter (λ y. p (f y)) xs))
      by true rest = ap (λ ys. f x ∷ ys) rest
      by false rest = rest

  pub find-map : (p : Y → Bool) (xs : List X) → find p (map f xs) ≡ option_map f (find (λ x. p (f x)) xs)
  find-map p [] = refl
  find-map p (x ∷ xs) = by (p (f x)) (find-map p xs)
    where
      by : (b : Bool) → find p (map f xs) ≡ option_map f (find (λ y. p (f y)) xs) → cond b (Some (f x)) (find p (map f xs)) ≡ option_map f (cond b (Some x) (find (λ y. p (f y)) xs))
      by true rest = refl
      by false rest = rest

  pub last-map : (o : Option X) (xs : List X) → last_or (option_map f o) (map f xs) ≡ option_map f (last_or o xs)
  last-map o [] = refl
  last-map o (x ∷ xs) = last-map (Some x) xs

one-more : (n : ℕ) → 1 + n ≡ suc n
one-more n = omega arith

-- a transaction whose name is among the names is there
pub found-in : (t : TxId) (xs : List Transaction) → IsIn (names_of xs) t → is_some (find (is_named t) xs) ≡ true
found-in t [] e = cc
found-in t (x ∷ xs) e = by (is_named t x) e (found-in t xs)
  where
    by : (b : Bool) → (b || list_any (λ n. same_tx n t) (names_of xs)) ≡ true → (IsIn (names_of xs) t → is_some (find (is_named t) xs) ≡ true) → is_some (cond b (Some x) (find (is_named t) xs)) ≡ true
    by true h rest = refl
    by false h rest = rest h

-- a change of a transaction that keeps its name keeps the names
pub names-changed : (t : TxId) (f : Transaction → Transaction) → ((x : Transaction) → (f x).id ≡ x.id) → (xs : List Transaction) → names_of (changed t f xs) ≡ names_of xs
names-changed t f keeps [] = refl
names-changed t f keeps (x ∷ xs) = by (is_named t x) (names-changed t f keeps xs)
  where
    by : (b : Bool) → names_of (changed t f xs) ≡ names_of xs → names_of (cond b (f x ∷ xs) (x ∷ changed t f xs)) ≡ x.id ∷ names_of xs
    by true rest = ap (λ i. i ∷ names_of xs) (keeps x)
    by false rest = ap (λ ns. x.id ∷ ns) rest

-- a stack by the names of those that stand on it
pub names-filter : (p : TxId → Bool) (xs : List Transaction) → filter p (names_of xs) ≡ names_of (filter (λ x. p x.id) xs)
names-filter p xs = filter-map (λ (x : Transaction). x.id) p xs

pub stack-is : (s : SessionId) (xs : List FiledTransaction) → filter (is_of_session s) (names_of (transactions_of xs)) ≡ map (λ (x : FiledTransaction). x.transaction.id) (filter (λ (x : FiledTransaction). is_of_session s x.transaction.id) xs)
stack-is s xs =
    ap (filter (is_of_session s)) (map-map (λ (x : Transaction). x.id) (λ (x : FiledTransaction). x.transaction) xs)
    ∙ filter-map (λ (x : FiledTransaction). x.transaction.id) (is_of_session s) xs

-- the name of the last one of a session
pub top-is : (s : SessionId) (live : List FiledTransaction) (o : Option FiledTransaction) → o ≡ last_or None (filter (λ (x : FiledTransaction). is_of_session s x.transaction.id) live)
    → unwrap_or (option_map (λ (x : FiledTransaction). x.transaction.id) o) (named_at s 0) ≡ top_of (names_of (transactions_of live)) s
top-is s live o e =
    ap (λ q. unwrap_or (option_map (λ (x : FiledTransaction). x.transaction.id) q) (named_at s 0)) e
    ∙ ap (λ q. unwrap_or q (named_at s 0)) (sym (last-map (λ (x : FiledTransaction). x.transaction.id) None (filter (λ (x : FiledTransaction). is_of_session s x.transaction.id) live)))
    ∙ ap (λ ns. unwrap_or (last_or None ns) (named_at s 0)) (sym (stack-is s live))

-- what is there stands at its place
pub place-within : {X : Type 0} (p : X → Bool) (xs : List X) → is_some (find p xs) ≡ true → position_or_len p xs < length xs
place-within p [] e = cc
place-within p (x ∷ xs) e = by (p x) e (place-within p xs)
  where
    by : (b : Bool) → is_some (cond b (Some x) (find p xs)) ≡ true → (is_some (find p xs) ≡ true → position_or_len p xs < length xs) → cond (not b) (1 + position_or_len p xs) 0 < suc (length xs)
    by true e rest = omega arith
    by false e rest = let within : position_or_len p xs < length xs = rest e in omega arith

found-at : {X : Type 0} (p : X → Bool) (xs : List X) (d : X) → is_some (find p xs) ≡ true → find p xs ≡ Some (get_or xs (position_or_len p xs) d)
found-at p [] d is = cc
found-at {X = X} p (x ∷ xs) d is = by (p x) is (found-at p xs d)
  where
    by : (b : Bool) → is_some (cond b (Some x) (find p xs)) ≡ true → (is_some (find p xs) ≡ true → find p xs ≡ Some (get_or xs (position_or_len p xs) d))
        → cond b (Some x) (find p xs) ≡ Some (get_or (x ∷ xs) (cond (not b) (1 + position_or_len p xs) 0) d)
    by true is rest = refl
    by false is rest = rest is ∙ ap (λ n. Some (get_or (x ∷ xs) n d)) (sym (one-more (position_or_len p xs)))

pub found-all : {X : Type 0} (P : X → Type 0) (p : X → Bool) (xs : List X) (x : X) → find p xs ≡ Some x → All P xs → P x
found-all P p [] x e all = cc
found-all {X = X} P p (y ∷ ys) x e all = by (p y) e (λ h. found-all P p ys x h (All-tail P y ys all))
  where
    by : (b : Bool) → cond b (Some y) (find p ys) ≡ Some x → (find p ys ≡ Some x → P x) → P x
    by true h rest = subst P (same_Some y x h) (All-head P y ys all)
    by false h rest = rest h

-- live transactions by their names
pub live-found : (t : TxId) (xs : List FiledTransaction) → IsIn (names_of (transactions_of xs)) t → is_some (find (is_live t) xs) ≡ true
live-found t xs e = some (find (is_live t) xs) ∙ ap is_some (sym (find-map (λ (x : FiledTransaction). x.transaction) (is_named t) xs)) ∙ found-in t (transactions_of xs) e
  where
    some : (o : Option FiledTransaction) → is_some o ≡ is_some (option_map (λ (x : FiledTransaction). x.transaction) o)
    some None = refl
    some (Some x) = refl

pub own-is : (t : TxId) (xs : List FiledTransaction) (x : FiledTransaction) → find (is_live t) xs ≡ Some x → x.transaction ≡ unwrap_or (find (is_named t) (transactions_of xs)) (not_begun t)
own-is t xs x e = sym (ap (λ o. unwrap_or o (not_begun t)) (find-map (λ (y : FiledTransaction). y.transaction) (is_named t) xs ∙ ap (option_map (λ (y : FiledTransaction). y.transaction)) e))

pub own-none : (t : TxId) (xs : List FiledTransaction) → find (is_live t) xs ≡ None → not_begun t ≡ unwrap_or (find (is_named t) (transactions_of xs)) (not_begun t)
own-none t xs e = sym (ap (λ o. unwrap_or o (not_begun t)) (find-map (λ (y : FiledTransaction). y.transaction) (is_named t) xs ∙ ap (option_map (λ (y : FiledTransaction). y.transaction)) e))

-- another transaction that passes
pub other-at : (t : TxId) (p : Transaction → Bool) (xs : List FiledTransaction) (i : ℕ) (x : FiledTransaction) → i < length xs → x ≡ get_or xs i x → is_live t x ≡ false → p x.transaction ≡ true
    → true ≡ list_any (λ (y : Transaction). not (is_named t y) && p y) (transactions_of xs)
other-at t p xs i x l is other passes =
    sym (any-map (λ (y : FiledTransaction). y.transaction) (λ (y : Transaction). not (is_named t y) && p y) xs
    ∙ list_any_at (λ (y : FiledTransaction). not (is_live t y) && p y.transaction) xs i x l
    (ap (λ (y : FiledTransaction). not (is_live t y) && p y.transaction) (sym is) ∙ and_from (not (is_live t x)) (p x.transaction) (ap not other) passes))

pub own-at : (t : TxId) (xs : List FiledTransaction) (at : ℕ) (x : FiledTransaction) → IsIn (names_of (transactions_of xs)) t → at ≡ position_or_len (is_live t) xs → x ≡ get_or xs at x
    → x.transaction ≡ unwrap_or (find (is_named t) (transactions_of xs)) (not_begun t)
own-at t xs at x there place is =
    own-is t xs x (found-at (is_live t) xs x (live-found t xs there) ∙ ap Some (sym (is ∙ ap (λ n. get_or xs n x) place)))

-- a write at the place of a transaction changes it
put-at : (t : TxId) (g : Transaction → Transaction) (xs : List FiledTransaction) (y d : FiledTransaction) → y.transaction ≡ g (get_or xs (position_or_len (is_live t) xs) d).transaction
    → transactions_of (set xs (position_or_len (is_live t) xs) y) ≡ changed t g (transactions_of xs)
put-at t g [] y d e = refl
put-at t g (x ∷ xs) y d e = by (is_live t x) e (put-at t g xs y d)
  where
    by : (b : Bool) → y.transaction ≡ g (get_or (x ∷ xs) (cond (not b) (1 + position_or_len (is_live t) xs) 0) d).transaction
        → (y.transaction ≡ g (get_or xs (position_or_len (is_live t) xs) d).transaction → transactions_of (set xs (position_or_len (is_live t) xs) y) ≡ changed t g (transactions_of xs))
        → transactions_of (set (x ∷ xs) (cond (not b) (1 + position_or_len (is_live t) xs) 0) y) ≡ cond b (g x.transaction ∷ transactions_of xs) (x.transaction ∷ changed t g (transactions_of xs))
    by true e rest = ap (λ z. z ∷ transactions_of xs) e
    by false e rest =
        ap (λ k. transactions_of (set (x ∷ xs) k y)) (one-more (position_or_len (is_live t) xs))
        ∙ ap (λ zs. x.transaction ∷ zs) (rest (e ∙ ap (λ k. g (get_or (x ∷ xs) k d).transaction) (one-more (position_or_len (is_live t) xs))))

pub put : (t : TxId) (g : Transaction → Transaction) (xs : List FiledTransaction) (at : ℕ) (x y : FiledTransaction) → at ≡ position_or_len (is_live t) xs → x ≡ get_or xs at x → y.transaction ≡ g x.transaction
    → transactions_of (set xs at y) ≡ changed t g (transactions_of xs)
put t g xs at x y place is e =
    ap (λ n. transactions_of (set xs n y)) place ∙ put-at t g xs y x (e ∙ ap (λ (z : FiledTransaction). g z.transaction) (is ∙ ap (λ n. get_or xs n x) place))

pub stays_filed : (tables : List Table) (xs zs : List FiledTransaction) (at : ℕ) (x y : FiledTransaction) → at < length zs → zs ≡ xs → x ≡ get_or xs at x → (IsFiledBy tables x → IsFiledBy tables y)
    → AreFiledBy tables xs → AreFiledBy tables (set xs at y)
stays_filed tables xs zs at x y l e is keeps all =
    All-set (IsFiledBy tables) xs at y (keeps (subst (IsFiledBy tables) (sym is) (All-get_or (IsFiledBy tables) xs at x (subst (λ (ys : List FiledTransaction). at < length ys) e l) all))) all

pub push_filed : (tables : List Table) (x : FiledTransaction) (c : Change) (print : Option ℕ) → print ≡ (entry_of tables c).print → is_added tables c.row.table ≡ true → IsFiledBy tables x
    → IsFiledBy tables (record { transaction = with_change c x.transaction; entries = x.entries ++ record { row = c.row; print = print } ∷ [] })
push_filed tables x c print is added filed = record {
  entries = ap (λ es. es ++ record { row = c.row; print = print } ∷ []) filed.entries
      ∙ ap (λ p. map (entry_of tables) x.transaction.changes ++ record { row = c.row; print = p } ∷ []) is
      ∙ sym (map-append (entry_of tables) x.transaction.changes (c ∷ []));
  added = All-push (λ (d : Change). is_added tables d.row.table ≡ true) x.transaction.changes c filed.added added;
}

pub kept_filed : (tables : List Table) (x : FiledTransaction) (y : Transaction) → y.changes ≡ x.transaction.changes → IsFiledBy tables x → IsFiledBy tables (record x { transaction = y })
kept_filed tables x y same filed = record {
  entries = filed.entries ∙ ap (map (entry_of tables)) (sym same);
  added = subst (OfAdded tables) (sym same) filed.added;
}

pub cut_filed : (tables : List Table) (x : FiledTransaction) (y : Transaction) (n : ℕ) → y.changes ≡ take n x.transaction.changes → IsFiledBy tables x
    → IsFiledBy tables (record { transaction = y; entries = take n x.entries })
cut_filed tables x y n cut filed = record {
  entries = ap (take n) filed.entries ∙ take-map (entry_of tables) n x.transaction.changes ∙ ap (map (entry_of tables)) (sym cut);
  added = subst (OfAdded tables) (sym cut) (All-take (λ (d : Change). is_added tables d.row.table ≡ true) n x.transaction.changes filed.added);
}

pub empty_filed : (tables : List Table) (y : Transaction) → y.changes ≡ [] → IsFiledBy tables (record { transaction = y; entries = [] })
empty_filed tables y none = record {
  entries = ap (map (entry_of tables)) (sym none);
  added = subst (OfAdded tables) (sym none) (All-nil (λ (d : Change). is_added tables d.row.table ≡ true));
}

pub table_filed : (tables : List Table) (t : Table) (live : List FiledTransaction) → AreFiledBy tables live → AreFiledBy (tables ++ t ∷ []) live
table_filed tables t live all = All-weaker (IsFiledBy tables) (IsFiledBy (tables ++ t ∷ [])) (λ x filed. record {
  entries = filed.entries ∙ sym (same_changes tables t x.transaction.changes filed.added);
  added = OfAdded-append tables (t ∷ []) x.transaction.changes filed.added;
}) live all

-- one more transaction, and one fewer
pub opened : (xs ys : List FiledTransaction) (t : TxId) → ys ≡ xs ++ record { transaction = not_begun t; entries = [] } ∷ [] → transactions_of ys ≡ transactions_of xs ++ not_begun t ∷ []
opened xs ys t is = ap transactions_of is ∙ map-append (λ (x : FiledTransaction). x.transaction) xs (record { transaction = not_begun t; entries = [] } ∷ [])

pub opened_filed : (tables : List Table) (xs ys : List FiledTransaction) (t : TxId) → ys ≡ xs ++ record { transaction = not_begun t; entries = [] } ∷ [] → AreFiledBy tables xs → AreFiledBy tables ys
opened_filed tables xs ys t is all = subst (AreFiledBy tables) (sym is) (All-push (IsFiledBy tables) xs (record { transaction = not_begun t; entries = [] }) all (empty_filed tables (not_begun t) refl))

pub removed : (xs ys : List FiledTransaction) (t : TxId) → ys ≡ filter (λ (x : FiledTransaction). not (is_live t x)) xs → transactions_of ys ≡ filter (λ (x : Transaction). not (is_named t x)) (transactions_of xs)
removed xs ys t is = ap transactions_of is ∙ sym (filter-map (λ (x : FiledTransaction). x.transaction) (λ (x : Transaction). not (is_named t x)) xs)

pub removed_filed : (tables : List Table) (xs ys : List FiledTransaction) (t : TxId) → ys ≡ filter (λ (x : FiledTransaction). not (is_live t x)) xs → AreFiledBy tables xs → AreFiledBy tables ys
removed_filed tables xs ys t is all = subst (AreFiledBy tables) (sym is) (All-filter (λ (x : FiledTransaction). not (is_live t x)) (IsFiledBy tables) xs all)

-- the step of the loop over the transactions
pub greatest_row_more : (live : List FiledTransaction) (i : ℕ) (x : FiledTransaction) (table : TableId) (so_far : ℕ) → i < length live → x ≡ get_or live i x
    → max (greatest_number_in (flat_map changes_by (transactions_of (drop (i + 1) live))) table) (max (greatest_number_in x.transaction.changes table) so_far)
    ≡ max (greatest_number_in (flat_map changes_by (transactions_of (drop i live))) table) so_far
greatest_row_more live i x table so_far h e =
    let joined : greatest_number_in (flat_map changes_by (transactions_of (drop i live))) table
    ≡ max (greatest_number_in x.transaction.changes table) (greatest_number_in (flat_map changes_by (transactions_of (drop (i + 1) live))) table) =
    ap (λ xs. greatest_number_in (flat_map changes_by (transactions_of xs)) table) (drop_more live i x h ∙ ap (λ y. y ∷ drop (i + 1) live) (sym e))
    ∙ greatest_number_in-append x.transaction.changes (flat_map changes_by (transactions_of (drop (i + 1) live))) table
    in
    omega arith
