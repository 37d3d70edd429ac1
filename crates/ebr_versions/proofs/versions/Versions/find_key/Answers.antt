use Rattle.std.proofs.Common.{◌≡◌, List, Some, take, ap, subst, ◌∙◌}
use Rattle.std.specs.Prelude.{IfSome}
use Rattle.std.proofs.Math.Seq.{take-length}
use Rattle.ebr_base.specs.declared.numbers.RowNo.{RowNo}
use Rattle.ebr_base.specs.declared.row.Change.{Change}
use Rattle.ebr_versions.specs.Keys.{HasKey}
use Rattle.ebr_versions.proofs.versions.Versions.find_key.Goals as goal

pub returns-clause-found : goal.returns-clause-found
returns-clause-found c =
    subst (λ (cs : List (List Change)). IfSome c.find_key_at.result (λ (r : RowNo). HasKey cs c.args.self.now.tables c.args.t r c.args.key.now))
    (ap (λ n. take n c.args.self.now.commits) c.count.ensures.count ∙ take-length c.args.self.now.commits) c.find_key_at.ensures.found

pub returns-clause-only : goal.returns-clause-only
returns-clause-only c =
    subst (λ (cs : List (List Change)). (r : RowNo) → HasKey cs c.args.self.now.tables c.args.t r c.args.key.now → c.find_key_at.result ≡ Some r)
    (ap (λ n. take n c.args.self.now.commits) c.count.ensures.count ∙ take-length c.args.self.now.commits) c.find_key_at.ensures.only
