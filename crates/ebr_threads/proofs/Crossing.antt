-- A worker at its chair, and the engine of a run, may cross threads.
use Rattle.std.specs.Prelude.{ℕ, List, [], ◌∷◌}
use mir.Syntax.{Lifetime}
use base.Fml.{Lft}
use denote.RattleType.{RattleType}
use denote.Ref.{ShrRef}
use denote.Struct.Tuple.{TupleAt, type_at}
use denote.Param.Send.{IsSend, IsSync, sendable, shr_sync, view_send}
use denote.Param.SendFields.{declared_send, declared_sync}
use Rattle.std.proofs.marker.PhantomData.TheSendSync as phantom
use Rattle.ebr_outside.specs.declared.sink.Sink as sink
use Rattle.ebr_record.specs.declared.keep.Keep as keep
use Rattle.ebr_core.proofs.Crossing.{engine_send}
use Rattle.ebr_threads.proofs.Sessions.{session_send}
use Rattle.ebr_turn.specs.declared.booked.Booked as booked
use Rattle.ebr_turn.specs.contracts.turn.Chair as chair
use Rattle.ebr_turn.specs.contracts.turn.Turn as turn
use Rattle.ebr_turn.proofs.turn.Chair.TheSendSync as chair_fact
use Rattle.ebr_turn.proofs.turn.Turn.TheSendSync as turn_fact
use Rattle.ebr_worker.specs.contracts.worker.Worker as worker
use Rattle.ebr_worker.specs.contracts.worker.Worker.TheInside as worker_inside
use Rattle.ebr_threads.specs.declared.desk.Naming as naming
use Rattle.ebr_threads.specs.contracts.desk.Desk as desk
use Rattle.ebr_threads.specs.contracts.desk.Desk.TheInside as desk_inside
use Rattle.ebr_threads.specs.contracts.seated.Seated as seated

pub worker_send : (S : RattleType) (s : sink.Ghosts S.Denot) → IsSend S → IsSend (worker.the_row S s)
worker_send S s sends = view_send _ _ _ _ _ (declared_send (worker_inside.the_type S s) (session_send _, (search (sends, sendable), (search sendable, (search sendable depth 20, (search sendable depth 20, tt))))))

module _ (K N X : RattleType) (k : keep.Ghosts K.Denot) (n : naming.Ghosts N.Denot) (b : booked.Ghosts (desk.the_row K N k n).Denot X.Denot) (sends : IsSend K) (named : IsSend N) where
  desk_send : IsSend (desk.the_row K N k n)
  desk_send = view_send _ _ _ _ _ (declared_send (desk_inside.the_type K N k n) (engine_send K k sends, (search (phantom.the_send), tt)))

  chair_send : IsSend (chair.the_row (desk.the_row K N k n) X b)
  chair_send = chair_fact.the_send (desk.the_row K N k n) X b desk_send

  pub turn_sync : IsSync (turn.the_row (desk.the_row K N k n) X b)
  turn_sync = turn_fact.the_sync (desk.the_row K N k n) X b desk_send

  pub seated_send : (S : RattleType) (s : sink.Ghosts S.Denot) → IsSend S → IsSend (seated.the_row S K N X s k n b)
  seated_send S s sent = declared_send (seated.the_type S K N X s k n b) (worker_send S s sent, (chair_send, tt))

-- what the threads' closure lends them
pub lent_sync : (name : List ℕ) (k l m : Lifetime) (κ μ ν : Lft) (R T G : RattleType) → IsSync R → IsSync T → IsSync G → IsSync (TupleAt name (ShrRef k κ R ∷ ShrRef l μ T ∷ ShrRef m ν G ∷ []))
lent_sync name k l m κ μ ν R T G r t g = declared_sync (type_at name (ShrRef k κ R ∷ ShrRef l μ T ∷ ShrRef m ν G ∷ [])) (shr_sync k κ R r, (shr_sync l μ T t, (shr_sync m ν G g, tt)))
