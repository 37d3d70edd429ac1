use Rattle.std.proofs.Common.{[], ◌∷◌, ◌++◌, ap, subst, ◌∙◌, append_assoc}
use Rattle.sha2.specs.Hashers.{Holds256}
use Rattle.ebr_versions.proofs.print.add_number.Goals as goal

pub returns : goal.returns
returns c = λ m holds.
    subst (Holds256 c.update-2.new.self) (append_assoc m (c.args.kind ∷ []) c.to_be_bytes.result ∙ ap (λ bs. m ++ (c.args.kind ∷ bs)) c.to_be_bytes.ensures)
    (c.update-2.ensures (m ++ c.args.kind ∷ []) (c.update.ensures m holds))
