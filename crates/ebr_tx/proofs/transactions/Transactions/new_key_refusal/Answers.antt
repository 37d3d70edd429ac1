use Rattle.std.proofs.Common.{ℕ, List, ap, ◌∙◌}
use Rattle.ebr_versions.specs.Keys.{key_of}
use Rattle.ebr_tx.proofs.Answered.{new_key_is}
use Rattle.ebr_tx.proofs.transactions.Transactions.new_key_refusal.Goals as goal

pub returns : goal.returns
returns c =
    c.key_code.ensures
    ∙ new_key_is c.args.self.now.contents c.args.t c.args.def.now.id c.args.this c.args.values.now c.as_slice-2.result.now c.args.def.now.key c.requires.known.key
    (c.as_slice-2.ensures ∙ c.in_ok-key.ensures.key ∙ ap (λ (places : List ℕ). key_of places c.args.values.now) c.as_slice.ensures)
