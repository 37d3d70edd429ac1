-- What is held, read as the definitions read the entries that leave it.
use Rattle.std.specs.Prelude.{ℕ, suc, ◌&&◌, not, List, Option, is_some, count_by}
use Rattle.std.specs.Map.{lookup}
use Rattle.std.specs.List.{slice_get}
use Rattle.ebr_base.specs.declared.numbers.EditionNo.{EditionNo}
use Rattle.ebr_base.specs.declared.numbers.Stamp.{Stamp}
use Rattle.ebr_base.specs.declared.object.ObjectKey.{ObjectKey}
use Rattle.ebr_editions.specs.declared.entry.EditionEntry.{EditionEntry}
use Rattle.ebr_editions.specs.Editions.{line_of}
use Rattle.ebr_base.specs.Keys.{same_key}
use Rattle.ebr_editions.specs.Objects.{nearest}
use Rattle.ebr_editions.specs.Held.{Held, defined_in}

abbrev pub held_object : {O : Type 0} → Held O → EditionNo → ObjectKey → Option (Option O)
held_object h e key = lookup (same_key key) (defined_in h.editions e).objects

abbrev pub held_visible : {O : Type 0} → List EditionEntry → Held O → EditionNo → ObjectKey → Option O
held_visible made h e key = nearest (λ d. held_object h d key) (line_of made e)

abbrev pub held_stamp : {O : Type 0} → Held O → EditionNo → Stamp
held_stamp h e = record { edition = e; count = suc (defined_in h.editions e).count }

abbrev pub held_at : {O : Type 0} → Held O → EditionNo → ℕ → Option (ObjectKey × Option O)
held_at h e at = slice_get (defined_in h.editions e).objects at

-- how many objects an edition sees under other keys than this one
abbrev pub held_others : {O : Type 0} → List EditionEntry → Held O → EditionNo → ObjectKey → ℕ
held_others made h e key = count_by (λ k. not (same_key k key) && is_some (held_visible made h e k)) h.keys
