use Rattle.std.proofs.Common.{◌≡◌, ◌<◌, ◌++◌, ◌∷◌, [], get_or, length, rules, ap, ◌∙◌}
use Rattle.ebr_versions.specs.declared.index.Entry.{Entry}
use Rattle.ebr_versions.proofs.Indexing.{entries_more}
use Rattle.ebr_versions.proofs.versions.file.Goals as goal

pub loop-change-preserved : goal.loop-change-preserved
loop-change-preserved c =
    let within : c.loop-change.change-index < length c.args.changes.now = search rules in
    let here : get_or c.args.changes.now c.loop-change.change-index c.change-item.result ≡ c.change-item.result = search rules in
    record {
      entries = entries_more c.args.tables.now c.args.changes.now c.loop-change.change-index c.change-item.result c.loop-change.index.pending c.overtake.new.self.pending c.file.new.self.pending within here
          c.loop-change.invariant.entries c.overtake.ensures.entries (c.in_ok-file.ensures.ok ∙ ap (λ (e : Entry). c.overtake.new.self.pending ++ e ∷ []) c.entry_of.ensures);
      keeps = λ front e x. c.in_ok-file.ensures.keeps front e (c.overtake.ensures.keeps front e (c.loop-change.invariant.keeps front e x));
    }
