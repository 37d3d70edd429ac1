use Rattle.std.proofs.Common.{◌∙◌, ◌++◌, ◌∷◌, [], ap, refl}
use Rattle.ebr_changes.proofs.FiledLemmas.{own_more, own_same}
use Rattle.ebr_changes.proofs.changes.Changes.push.Goals as goal

pub invariant_of-self-in_err-file : goal.invariant_of-self-in_err-file
invariant_of-self-in_err-file c =
    own_same c.self.inside.changes.items c.reserve.new.self.items c.self.inside.index c.file.new.self c.self.invariant c.file.ensures.keeps c.in_err-file.ensures.err c.reserve.ensures.items

pub invariant_of-self-2 : goal.invariant_of-self-2
invariant_of-self-2 c =
    own_more c.self.inside.changes.items c.push_reserved.new.self.items c.self.inside.index c.file.new.self c.args.c (record { row = c.args.c.row; print = c.args.print }) refl c.self.invariant c.file.ensures.keeps c.in_ok-file.ensures.ok
    (c.push_reserved.ensures.items ∙ ap (λ ds. ds ++ c.args.c ∷ []) c.reserve.ensures.items)
