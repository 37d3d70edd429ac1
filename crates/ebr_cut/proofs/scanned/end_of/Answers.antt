use Rattle.std.proofs.Common.{ℕ, List, take, subst, sym, ap, ◌∙◌}
use Rattle.ebr_cut.specs.declared.scanned.Scanned.TheVariants as scanned
use Rattle.ebr_cut.specs.Scans.{Scans}
use Rattle.ebr_cut.proofs.CutOff.{stored_scans}
use Rattle.ebr_cut.proofs.Tokens.{end_of-last, stored_front}
use Rattle.ebr_cut.proofs.scanned.end_of.Goals as goal

pub returns-in-Some-clause-value : goal.returns-in-Some-clause-value
returns-in-Some-clause-value c =
    let d = c.in-Some.last.now in
    ap (λ t. t.to) (c.in-Some.ensures.item.3.1 d) ∙ sym (end_of-last c.args.tokens.now 0 d c.in-Some.ensures.item.3.0)

pub returns-in-Some-clause-stored : goal.returns-in-Some-clause-stored
returns-in-Some-clause-stored c text front = ap (λ k. take k text) (returns-in-Some-clause-value c) ∙ stored_front text c.args.tokens.now front

pub returns-in-Some-clause-tokens : goal.returns-in-Some-clause-tokens
returns-in-Some-clause-tokens c text scans front =
    subst (λ (k : List ℕ). Scans k (scanned.Tokens c.args.tokens.now)) (sym (returns-in-Some-clause-stored c text front)) (stored_scans text c.args.tokens.now scans front)
