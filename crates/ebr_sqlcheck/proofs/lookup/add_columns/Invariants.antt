use Rattle.std.proofs.Common.{◌≡◌, ℕ, List, drop}
use Rattle.std.specs.List.{list_any}
use Rattle.std.specs.Str.{bytes_eq}
use Rattle.ebr_sqlcheck.specs.inside.Found.{note, with_last}
use Rattle.ebr_sqlcheck.proofs.lookup.add_columns.Given as goal

abbrev pub invariant-loop-column : goal.invariant-loop-column
invariant-loop-column l =
    (n : List ℕ) → with_last (list_any (λ c. bytes_eq n c.name) (drop l.column-index l.column-items)) l.at (note n l.notes.entries) ≡ with_last (list_any (λ c. bytes_eq n c.name) l.column-items) l.at (note n l.initial.notes.entries)
