-- What a list of object entries leaves to be kept: the keys, and for each edition the count of its entries and the last
-- object of each key. This is what contracts see of `Actuals`; what it means is said by the entries that leave it.
use Rattle.std.specs.Prelude.{◌≡◌, ◌<◌, ℕ, suc, List, [], Option, fold}
use Rattle.std.specs.Option.{unwrap_or, option_copied}
use Rattle.std.specs.Borrow.{Bor}
use Rattle.std.specs.Map.{lookup}
use Rattle.indexmap.specs.IndexMap.{insert_entry}
use Rattle.ebr_base.specs.declared.numbers.EditionNo.{EditionNo}
use Rattle.ebr_base.specs.declared.numbers.TheConstants.{MAX_COUNT}
use Rattle.ebr_base.specs.declared.object.ObjectKey.{ObjectKey}
use Rattle.ebr_editions.specs.Editions.{is_edition}
use Rattle.ebr_base.specs.Keys.{same_key}
use Rattle.ebr_editions.specs.Objects.{ObjectEntry, entries_in, with_key}

-- one edition's entries: how many, and the object of the last one for each key, in the order of the first ones
pub record Defined (O : Type 0) : Type 0 where
  pub count : ℕ
  pub objects : List (ObjectKey × Option O)

pub record Held (O : Type 0) : Type 0 where
  pub keys : List ObjectKey
  pub editions : List (EditionNo × Defined O)

-- a key and its object behind references
abbrev pub deref_object : {O : Type 0} → Bor ObjectKey × Option (Bor O) → ObjectKey × Option O
deref_object p = (p.0.now, option_copied p.1)

module _ {O : Type 0} where
  abbrev pub nothing_defined : Defined O
  nothing_defined = record { count = 0; objects = [] }

  abbrev pub with_object : Defined O → ObjectKey → Option O → Defined O
  with_object d key object = record { count = suc d.count; objects = insert_entry same_key d.objects key object }

  abbrev pub defined_in : List (EditionNo × Defined O) → EditionNo → Defined O
  defined_in editions e = unwrap_or (lookup (is_edition e) editions) nothing_defined

  abbrev pub with_definition : List (EditionNo × Defined O) → EditionNo → ObjectKey → Option O → List (EditionNo × Defined O)
  with_definition editions e key object = insert_entry is_edition editions e (with_object (defined_in editions e) key object)

  abbrev pub hold : Held O → EditionNo → ObjectKey → Option O → Held O
  hold h e key object = record { keys = with_key h.keys key; editions = with_definition h.editions e key object }

  abbrev pub nothing_held : Held O
  nothing_held = record { keys = []; editions = [] }

  abbrev pub held : List (ObjectEntry O) → Held O
  held entries = fold (λ h (x : ObjectEntry O). hold h x.edition x.key x.object) nothing_held entries

-- Entries leave what is held, and those of each edition can be counted.
pub record HasEntries {O : Type 0} (h : Held O) : Type 0 where
  pub entries : List (ObjectEntry O)
  pub is : h ≡ held entries
  pub few : (e : EditionNo) → entries_in entries e < MAX_COUNT

-- This is so of whichever entries leave what is held.
abbrev pub ForEntries : {O : Type 0} → Held O → (List (ObjectEntry O) → Type 0) → Type 0
ForEntries {O} h P = (entries : List (ObjectEntry O)) → h ≡ held entries → P entries
