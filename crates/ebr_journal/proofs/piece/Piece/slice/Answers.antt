use Rattle.std.proofs.Common.{◌≡◌, ℕ, ◌+◌, ◌-◌, List, take, drop, ◌∙◌, ap, arith}
use Rattle.ebr_journal.proofs.Pieces.{part_of}
use Rattle.ebr_journal.proofs.piece.Piece.slice.Goals as goal

pub returns-clause-part : goal.returns-clause-part
returns-clause-part c = λ bytes part.
    let piece = c.args.self.now in
    let k = c.args.at - piece.from in
    let size : k + c.args.size - k ≡ c.args.size = omega arith in
    ap (λ (n : ℕ). take n (drop k c.as_slice.result.now)) size
    ∙ ap (λ (l : List ℕ). take c.args.size (drop k l)) c.as_slice.ensures.value
    ∙ part_of bytes piece.bytes.items piece.from c.args.at c.args.size part c.requires.from c.requires.to
