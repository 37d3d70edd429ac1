use Rattle.std.proofs.Common.{ℕ, ◌+◌, ◌≤◌, List, sym, subst}
use Rattle.ebr_journal.specs.Journal.{last_gate, share_in}
use Rattle.ebr_journal.specs.Crash.{IsPiece, Puts, added}
use Rattle.ebr_journal.proofs.Layouts.{added_next, piece_size}
use Rattle.ebr_journal.proofs.put.put_record.Goals as goal

pub returns-clause-puts : goal.returns-clause-puts
returns-clause-puts g c = λ tells before settled follows room.
    let m0 = g.D.Disk.as_medium c.args.disk.now in
    let r = c.args.r.now in
    let is_piece = subst (λ (p : List ℕ). IsPiece c.args.form p r) (sym c.as_slice.ensures) c.in_ok-piece.ensures in
    subst (λ (n : ℕ). Puts m0 c.args.gate n before (added before r) c.put.result (g.D.Disk.as_medium c.put.new.disk)) (piece_size c.args.form r c.as_slice.result.now is_piece)
    (c.put.ensures.puts tells before (added before r) settled (added_next before r c.args.form c.as_slice.result.now follows c.requires.fits is_piece settled.safe.ends.spelled (subst (λ n. n + share_in c.args.form r ≤ last_gate c.args.form) settled.place room)))
