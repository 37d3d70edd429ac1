use Rattle.std.proofs.Common.{◌≡◌, ℕ, List, None, not, ◌++◌, ◌∷◌, [], ap, subst, ◌∙◌}
use Rattle.std.specs.Prelude.{filter, OnOk}
use Rattle.std.specs.Str.{bytes_eq}
use Rattle.std.specs.Map.{lookup}
use Rattle.std.proofs.lemmas.List.{map-append}
use Rattle.indexmap.specs.IndexMap.{insert_entry}
use Rattle.indexmap.proofs.CallerLemmas.{insert_entry-new}
use Rattle.ebr_tx.specs.declared.savepoints.Savepoint.{Savepoint}
use Rattle.ebr_tx.specs.Savepoints.{is_savepoint}
use Rattle.ebr_tx.specs.inside.Marked.{Marked, savepoint_of, savepoints_of}
use Rattle.ebr_tx.proofs.MarkLemmas.{removed, gone}
use Rattle.ebr_tx.proofs.savepoints.Named.put.Goals as goal

pub returns-clause-ok : goal.returns-clause-ok
returns-clause-ok c =
    let name : List ℕ = c.args.savepoint.name in
    let e : Marked = (name, (c.args.savepoint.changes, c.args.savepoint.locks)) in
    let left = c.shift_remove.new.self in
    let none : lookup (bytes_eq name) left.entries ≡ None = ap (lookup (bytes_eq name)) c.shift_remove.ensures.entries ∙ gone name c.reserve.new.self.entries c.reserve.ensures.unique in
    let put : c.insert.new.self.entries ≡ insert_entry bytes_eq left.entries name e.1 = subst (λ r. OnOk r (c.insert.new.self.entries ≡ insert_entry bytes_eq left.entries name e.1)) c.unwrap.ensures c.insert.ensures.entries in
    ap savepoints_of (put ∙ insert_entry-new bytes_eq left name e.1 none)
    ∙ map-append savepoint_of left.entries (e ∷ [])
    ∙ ap (λ (ss : List Savepoint). ss ++ c.args.savepoint ∷ [])
    (ap savepoints_of c.shift_remove.ensures.entries ∙ removed name c.reserve.new.self.entries c.reserve.ensures.unique
    ∙ ap (λ (ss : List Savepoint). filter (λ (s : Savepoint). not (is_savepoint name s)) ss) (ap savepoints_of c.reserve.ensures.entries ∙ c.self.view_is))
