-- The objects that are actual in each edition, and what an edition sees of them.
-- Oracle Database Development Guide 19c, Using Edition-Based Redefinition, Editioned and Noneditioned Objects: an edition
-- inherits what its parent has, until it defines or drops an object itself. That a dropped object hides its ancestors'
-- and never gives way to them, and how definitions are stamped, is own.
use Rattle.std.specs.Prelude.{ℕ, suc, Bool, ◌&&◌, if◌then◌else◌, nat_lt, List, [], ◌∷◌, ◌++◌, Option, Some, None, option_map, is_some, Result, Ok, Err, filter, fold, count_by}
use Rattle.std.specs.List.{list_any, slice_get}
use Rattle.ebr_base.specs.declared.numbers.EditionNo.{EditionNo}
use Rattle.ebr_base.specs.declared.numbers.Stamp.{Stamp}
use Rattle.ebr_base.specs.declared.object.ObjectKey.{ObjectKey}
use Rattle.ebr_base.specs.declared.code.Code.{Code}
use Rattle.ebr_base.specs.declared.code.Code.TheVariants.{Ora, Ebr}
use Rattle.ebr_base.specs.Keys.{same_key}
use Rattle.ebr_editions.specs.declared.entry.EditionEntry.{EditionEntry}
use Rattle.ebr_editions.specs.Editions.{is_edition, line_of}

-- One definition of an object in an edition, or one drop, which leaves no object.
pub record ObjectEntry (O : Type 0) : Type 0 where
  pub edition : EditionNo
  pub key : ObjectKey
  pub object : Option O
  pub stamp : Stamp

abbrev pub with_key : List ObjectKey → ObjectKey → List ObjectKey
with_key keys key = if list_any (same_key key) keys then keys else keys ++ key ∷ []

-- what was defined or dropped in an edition, or else what is inherited
abbrev pub entry_or : {O : Type 0} → Option (Option O) → Option O → Option O
entry_or None inherited = inherited
entry_or (Some object) inherited = object

-- What an edition sees of a key up the line: the first edition that had it defined or dropped decides.
abbrev pub nearest : {O : Type 0} → (EditionNo → Option (Option O)) → List EditionNo → Option O
nearest at [] = None
nearest at (e ∷ es) = entry_or (at e) (nearest at es)

abbrev pub max_objects : ℕ
max_objects = 4096

module _ {O : Type 0} where
  abbrev pub is_in : EditionNo → ObjectEntry O → Bool
  is_in e x = is_edition e x.edition

  abbrev pub is_entry_of : EditionNo → ObjectKey → ObjectEntry O → Bool
  is_entry_of e key x = is_in e x && same_key key x.key

  -- how many definitions and drops an edition has had
  abbrev pub entries_in : List (ObjectEntry O) → EditionNo → ℕ
  entries_in entries e = count_by (is_in e) entries

  -- the stamp of the next definition or drop in an edition
  abbrev pub next_stamp : List (ObjectEntry O) → EditionNo → Stamp
  next_stamp entries e = record { edition = e; count = suc (entries_in entries e) }

  -- the entries after one more definition or drop
  abbrev pub with_entry : List (ObjectEntry O) → EditionNo → ObjectKey → Option O → List (ObjectEntry O)
  with_entry entries e key object = entries ++ record { edition = e; key = key; object = object; stamp = next_stamp entries e } ∷ []

  -- the last entry for a key in an edition
  abbrev pub last_entry : List (ObjectEntry O) → EditionNo → ObjectKey → Option (ObjectEntry O)
  last_entry entries e key = fold (λ found x. if is_entry_of e key x then Some x else found) None entries

  -- what that entry left: an object, or none where it was a drop
  abbrev pub last_object : List (ObjectEntry O) → EditionNo → ObjectKey → Option (Option O)
  last_object entries e key = option_map (λ (x : ObjectEntry O). x.object) (last_entry entries e key)

  -- The object that an edition sees under a key: in each edition of its line the last entry for the key counts, where
  -- there is none that of the parent does, and a drop ends the search with nothing.
  abbrev pub Visible : List EditionEntry → List (ObjectEntry O) → EditionNo → ObjectKey → Option O
  Visible made entries e key = nearest (λ d. last_object entries d key) (line_of made e)

  -- the object that is actual in an edition itself
  abbrev pub actual_object : List (ObjectEntry O) → EditionNo → ObjectKey → Option O
  actual_object entries e key = entry_or (last_object entries e key) None

  -- the keys of entries, each once, in the order of its first entry
  abbrev pub keys_of : List (ObjectEntry O) → List ObjectKey
  keys_of entries = fold (λ keys (x : ObjectEntry O). with_key keys x.key) [] entries

  -- the keys with an entry in an edition, by place, each with the object that is actual there
  abbrev pub actual_at : List (ObjectEntry O) → EditionNo → ℕ → Option (ObjectKey × Option O)
  actual_at entries e at = option_map (λ key. (key, actual_object entries e key)) (slice_get (keys_of (filter (is_in e) entries)) at)

  -- how many objects an edition sees
  abbrev pub visible_count : List EditionEntry → List (ObjectEntry O) → EditionNo → ℕ
  visible_count made entries e = count_by (λ key. is_some (Visible made entries e key)) (keys_of entries)

  -- What the definition of an object answers: EBR-0034 where more than 4,096 objects would be visible afterwards, else
  -- its stamp. (Limit and code are own.)
  abbrev pub put_answer : List EditionEntry → List (ObjectEntry O) → EditionNo → ObjectKey → O → Result Stamp Code
  put_answer made entries e key o =
      if nat_lt max_objects (visible_count made (with_entry entries e key (Some o)) e) then Err (Ebr 34) else Ok (next_stamp entries e)

  -- What the drop of an object answers: ORA-04043 where the key isn't visible, else its stamp.
  abbrev pub hide_answer : List EditionEntry → List (ObjectEntry O) → EditionNo → ObjectKey → Result Stamp Code
  hide_answer made entries e key = if is_some (Visible made entries e key) then Ok (next_stamp entries e) else Err (Ora 4043)

  -- the entries after the drop of a key and, where another one is visible, of that one too
  abbrev pub without_both : List EditionEntry → List (ObjectEntry O) → EditionNo → ObjectKey → ObjectKey → List (ObjectEntry O)
  without_both made entries e key other =
      let hidden = with_entry entries e key None in
      if is_some (Visible made entries e other) then with_entry hidden e other None else hidden
