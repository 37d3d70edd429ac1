use Rattle.std.proofs.Common.{◌≡◌, ◌+◌, ◌∷◌, drop, sym, ap, ◌∙◌, arith}
use Rattle.std.specs.Option.{option_or, unwrap_or}
use Rattle.std.proofs.lemmas.Grind.{common_steps}
use Rattle.ebr_ast.specs.Members.{is_declared, is_variable, variables_before}
use Rattle.ebr_ast.specs.inside.Notes.{note, where_so}
use Rattle.ebr_ast.proofs.Noted.{count_more, few_more}
use Rattle.ebr_ast.proofs.package.note_counts.Goals as goal

pub loop-item-preserved : goal.loop-item-preserved
loop-item-preserved c =
    let was = c.loop-item in
    let item = c.item-item.result in
    let rest = drop (was.item-index + 1) c.args.items.now in
    let e : drop was.item-index c.args.items.now ≡ item ∷ rest = grind (arith, common_steps) in
    record {
      counted = λ n.
          ap (λ o. unwrap_or o (was.all + c.weight-all.result + variables_before n rest)) (c.in_ok-note_count.ensures n)
          ∙ ap (λ w. unwrap_or (option_or (note n was.before.entries) (where_so (is_declared n item) was.all)) (was.all + w + variables_before n rest)) c.weight-all.ensures
          ∙ count_more (is_declared n item) (is_variable item) (note n was.before.entries) was.all (variables_before n rest)
          ∙ ap (λ xs. unwrap_or (note n was.before.entries) (was.all + variables_before n xs)) (sym e)
          ∙ was.invariant.counted n;
      few = few_more (is_variable item) was.all was.item-index c.weight-all.result c.weight-all.ensures was.invariant.few;
    }
