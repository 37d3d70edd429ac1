use Rattle.std.proofs.Common.{List, sym, subst}
use Rattle.ebr_ast.specs.declared.package.ItemNotes.{ItemNotes}
use Rattle.ebr_ast.specs.declared.unit.PackageItem.{PackageItem}
use Rattle.ebr_ast.specs.inside.Notes.{HasPlaces, HasCounts, HasCodes, AreNoted}
use Rattle.ebr_ast.proofs.Noted.{is_done}
use Rattle.ebr_ast.proofs.package.PackageItems.shared.Goals as goal

pub invariant_of-new : goal.invariant_of-new
invariant_of-new c =
    let seen = c.as_slice.ensures in
    let answer = c.note_items-done.result in
    let done = c.in_ok-list.ensures.done in
    let said = c.note_items-done.ensures in
    let notes = c.note_items-done.new.notes in
    let all : AreNoted c.args.list notes.places.entries notes.before.entries notes.variables notes.codes.entries
    = record {
      found = subst (λ (xs : List PackageItem). HasPlaces xs notes.places.entries) seen (is_done answer done said.found);
      counted = subst (λ (xs : List PackageItem). HasCounts xs notes.before.entries notes.variables) seen (is_done answer done said.counted);
      coded = subst (λ (xs : List PackageItem). HasCodes xs notes.codes.entries) seen (is_done answer done said.coded);
    } in
    subst (λ (p : List PackageItem × ItemNotes). AreNoted p.0 p.1.places.entries p.1.before.entries p.1.variables p.1.codes.entries) (sym c.in_ok-list.ensures.both) all
