use Rattle.std.proofs.Common.{ℕ, List, subst}
use Rattle.std.proofs.lemmas.Result.{IfOk-weaker}
use Rattle.ebr_script.specs.Pieces.{text_of}
use Rattle.ebr_session.specs.Sessions.{run_piece}
use Rattle.ebr_session.specs.inside.Requests.{IsTurn, Reading, Takes}
use Rattle.ebr_session.proofs.Doing.{read_less, takes_piece}
use Rattle.ebr_session.proofs.script.Script.next.Goals as goal

pub invariant_of-self-2 : goal.invariant_of-self-2
invariant_of-self-2 c = read_less c.self.inside.bytes c.in-Some.piece c.self.inside.pieces c.pop.new.self c.in-Some.ensures c.self.invariant

pub returns-clause-takes : goal.returns-clause-takes
returns-clause-takes c = IfOk-weaker c.turn_of.result _ _ (λ t h. subst (λ (old : Reading). Takes t old (record { script = c.self.inside.bytes; left = c.pop.new.self })) c.self.view_is
    (takes_piece t c.self.inside.bytes c.in-Some.piece c.self.inside.pieces c.pop.new.self c.in-Some.ensures
    (subst (λ (s : List ℕ). IsTurn t (run_piece c.in-Some.piece.what (text_of s c.in-Some.piece))) c.as_slice.ensures h))) c.turn_of.ensures
