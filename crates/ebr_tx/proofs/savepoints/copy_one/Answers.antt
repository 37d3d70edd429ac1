use Rattle.std.proofs.Common.{◌≡◌, List, ℕ, None, Some, ◌++◌, ◌∷◌, [], add-one, take, sym, ap, ◌∙◌}
use Rattle.std.specs.Prelude.{slice_get}
use Rattle.std.specs.Str.{bytes_eq}
use Rattle.std.specs.Map.{lookup}
use Rattle.indexmap.specs.IndexMap.{insert_entry}
use Rattle.indexmap.proofs.CallerLemmas.{insert_entry-new}
use Rattle.ebr_tx.specs.inside.Marked.{Marked}
use Rattle.ebr_tx.proofs.MarkLemmas.{new_name, one_more}
use Rattle.ebr_tx.proofs.savepoints.copy_one.Goals as goal

pub returns : goal.returns
returns c =
    let es : List Marked = c.args.items.now.entries in
    let e : Marked = (c.in-Some.name.now, (c.in-Some.lengths.now.0, c.in-Some.lengths.now.1)) in
    let here : slice_get es c.args.at ≡ Some e = sym c.in-Some.ensures.entry in
    let none : lookup (bytes_eq e.0) c.args.copies.now.entries ≡ None = ap (lookup (bytes_eq e.0)) c.requires ∙ new_name es c.args.at e c.len.ensures.unique here in
    c.in_ok-insert.ensures.entries
    ∙ ap (λ (n : List ℕ). insert_entry bytes_eq c.args.copies.now.entries n e.1) c.in_ok-clone_in.ensures
    ∙ insert_entry-new bytes_eq c.args.copies.now e.0 e.1 none
    ∙ ap (λ (xs : List Marked). xs ++ e ∷ []) c.requires ∙ one_more es c.args.at e here ∙ ap (λ n. take n es) (sym (add-one c.args.at))
