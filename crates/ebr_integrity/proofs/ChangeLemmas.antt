-- Changes of rows: the first of them, one more, and the commit of others.
use Rattle.std.proofs.Common.{◌≡◌, ℕ, zero, suc, Bool, true, false, ◌||◌, List, [], ◌∷◌, ◌++◌, Option, Some, None, take, refl, sym, ap, subst, ◌∙◌, append-nil, append_assoc}
use Rattle.std.specs.Prelude.{◌==◌, is_some}
use Rattle.std.specs.List.{AllByRecursion, list_any}
use Rattle.std.proofs.lemmas.Bool.{both_ways, and_from, or_right, or_left, eq-eqb}
use Rattle.std.proofs.lemmas.List.Folds.{list_any-append}
use Rattle.ebr_base.specs.declared.row.Change.{Change}
use Rattle.ebr_base.specs.declared.row.RowId.{RowId}
use Rattle.ebr_versions.specs.Data.{is_of, is_row, last_change, changes_row, Latest}
use Rattle.ebr_versions.proofs.KeyLemmas.{is_row-true}
use Rattle.ebr_versions.proofs.LawLemmas.{changes_row_is}
use Rattle.ebr_tx.specs.Commits.{AreThere, IsThere}
use Rattle.ebr_tx.specs.Reads.{over}
use Rattle.ebr_tx.proofs.FreeKeys.{latest_over}
use Rattle.ebr_integrity.specs.Integrity.{ShareNoRow}

-- ---- all of some changes

pub all_take : (P : Change → Type 0) (n : ℕ) (xs : List Change) → AllByRecursion P xs → AllByRecursion P (take n xs)
all_take P zero xs h = tt
all_take P (suc n) [] h = tt
all_take P (suc n) (x ∷ xs) h = (h.0, all_take P n xs h.1)

pub all_push : (P : Change → Type 0) (xs : List Change) (c : Change) → AllByRecursion P xs → P c → AllByRecursion P (xs ++ c ∷ [])
all_push P [] c h k = (k, tt)
all_push P (x ∷ xs) c h k = (h.0, all_push P xs c h.1 k)

pub all_append : (P : Change → Type 0) (xs ys : List Change) → AllByRecursion P xs → AllByRecursion P ys → AllByRecursion P (xs ++ ys)
all_append P [] ys h k = k
all_append P (x ∷ xs) ys h k = (h.0, all_append P xs ys h.1 k)

pub all_weaker : (P Q : Change → Type 0) → ((c : Change) → P c → Q c) → (xs : List Change) → AllByRecursion P xs → AllByRecursion Q xs
all_weaker P Q f [] h = tt
all_weaker P Q f (x ∷ xs) h = (f x h.0, all_weaker P Q f xs h.1)

-- ---- rows that are changed

pub any_take : (p : Change → Bool) (n : ℕ) (xs : List Change) → list_any p (take n xs) ≡ true → list_any p xs ≡ true
any_take p zero xs h = absurd (both_ways false refl h)
any_take p (suc n) [] h = h
any_take p (suc n) (x ∷ xs) h = by (p x) h (any_take p n xs)
  where
    by : (b : Bool) → (b || list_any p (take n xs)) ≡ true → (list_any p (take n xs) ≡ true → list_any p xs ≡ true) → (b || list_any p xs) ≡ true
    by true h rest = refl
    by false h rest = rest h

pub share_sym : (xs ys : List Change) → ShareNoRow xs ys → ShareNoRow ys xs
share_sym xs ys h row in_ys = by (changes_row row xs) refl
  where
    by : (b : Bool) → changes_row row xs ≡ b → b ≡ false
    by true e = absurd (both_ways (changes_row row ys) (h row e) in_ys)
    by false e = refl

pub share_take : (n : ℕ) (xs ys : List Change) → ShareNoRow xs ys → ShareNoRow (take n xs) ys
share_take n xs ys h row e = h row (any_take (is_of row) n xs e)

pub share_none : (ys : List Change) → ShareNoRow [] ys
share_none ys row e = absurd (both_ways false refl e)

pub share_push : (xs ys : List Change) (c : Change) → ShareNoRow xs ys → changes_row c.row ys ≡ false → ShareNoRow (xs ++ c ∷ []) ys
share_push xs ys c h none row e = by (changes_row row xs) refl (sym (list_any-append (is_of row) xs (c ∷ [])) ∙ e)
  where
    it : (b : Bool) → is_row c.row row ≡ b → (b || false) ≡ true → changes_row row ys ≡ false
    it true is k = ap (λ r. changes_row r ys) (sym (is_row-true c.row row is)) ∙ none
    it false is k = absurd (both_ways false refl k)

    by : (b : Bool) → changes_row row xs ≡ b → (b || (is_row c.row row || false)) ≡ true → changes_row row ys ≡ false
    by true is k = h row is
    by false is k = it (is_row c.row row) refl k

-- ---- rows that are there

pub there_take : (commits : List (List Change)) (n : ℕ) (before xs : List Change) → AreThere commits before xs → AreThere commits before (take n xs)
there_take commits zero before xs h = tt
there_take commits (suc n) before [] h = tt
there_take commits (suc n) before (x ∷ xs) h = (h.0, there_take commits n (before ++ x ∷ []) xs h.1)

pub there_push : (commits : List (List Change)) (before xs : List Change) (c : Change) → AreThere commits before xs → IsThere commits (before ++ xs) c → AreThere commits before (xs ++ c ∷ [])
there_push commits before [] c h new = (subst (λ ys. IsThere commits ys c) (append-nil before) new, tt)
there_push commits before (x ∷ xs) c h new =
    (h.0, there_push commits (before ++ x ∷ []) xs c h.1 (subst (λ ys. IsThere commits ys c) (sym (append_assoc before (x ∷ []) xs)) new))

none_last : (row : RowId) (cs : List Change) → changes_row row cs ≡ false → last_change row cs ≡ None
none_last row cs h = by (last_change row cs) refl
  where
    by : (o : Option Change) → last_change row cs ≡ o → o ≡ None
    by None e = refl
    by (Some c) e = absurd (both_ways (changes_row row cs) h (changes_row_is row cs ∙ ap is_some e))

-- another transaction's commit leaves the rows that it doesn't change
pub latest_spared : (commits : List (List Change)) (u : List Change) (row : RowId) → changes_row row u ≡ false → Latest (commits ++ u ∷ []) row ≡ Latest commits row
latest_spared commits u row h = latest_over commits u row ∙ ap (λ o. over o (Latest commits row)) (none_last row u h)

abbrev AllSpared : List Change → List Change → Type 0
AllSpared u cs = AllByRecursion (λ (c : Change). changes_row c.row u ≡ false) cs

there_after : (commits : List (List Change)) (u before cs : List Change) → AllSpared u cs → AreThere commits before cs → AreThere (commits ++ u ∷ []) before cs
there_after commits u before [] spared h = tt
there_after commits u before (c ∷ cs) spared h = (
  λ gone. ap is_some (ap (over (last_change c.row before)) (latest_spared commits u c.row spared.0)) ∙ h.0 gone,
  there_after commits u (before ++ c ∷ []) cs spared.1 h.1,
)

row_itself : (c : Change) → is_of c.row c ≡ true
row_itself c = and_from (c.row.table.0 == c.row.table.0) (c.row.row.0 == c.row.row.0) (eq-eqb c.row.table.0 c.row.table.0 refl) (eq-eqb c.row.row.0 c.row.row.0 refl)

-- each of the changes is of a row that they change
all_spared : (u done cs : List Change) → ShareNoRow (done ++ cs) u → AllSpared u cs
all_spared u done [] h = tt
all_spared u done (c ∷ cs) h = (
  h c.row (list_any-append (is_of c.row) done (c ∷ cs) ∙ or_right (changes_row c.row done) (changes_row c.row (c ∷ cs)) (or_left (is_of c.row c) (changes_row c.row cs) (row_itself c))),
  all_spared u (done ++ c ∷ []) cs (subst (λ xs. ShareNoRow xs u) (sym (append_assoc done (c ∷ []) cs)) h),
)

pub there_commit : (commits : List (List Change)) (u cs : List Change) → ShareNoRow cs u → AreThere commits [] cs → AreThere (commits ++ u ∷ []) [] cs
there_commit commits u cs apart h = there_after commits u [] cs (all_spared u [] cs apart) h
