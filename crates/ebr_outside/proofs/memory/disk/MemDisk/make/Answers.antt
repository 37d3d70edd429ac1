use Rattle.std.proofs.Common.{◌∙◌, [], ◌∷◌, ◌++◌, List, ap}
use Rattle.ebr_outside.specs.declared.memory.disk_call.DiskCall.{DiskCall}
use Rattle.ebr_outside.proofs.Replaying.{kept_by}
use Rattle.ebr_outside.proofs.memory.disk.MemDisk.make.Goals as goal

pub invariant_of-self-2 : goal.invariant_of-self-2
invariant_of-self-2 c =
    let i = c.self.inside in
    kept_by i.first i.bytes.items c.apply.new.bytes.items i.past.items c.push_reserved.new.self.items c.args.call (c.push_reserved.ensures.items ∙ ap (λ (past : List DiskCall). past ++ c.args.call ∷ []) c.reserve.ensures.items) c.in_ok-apply.ensures.ok c.self.invariant
