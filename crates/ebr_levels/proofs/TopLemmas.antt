-- The transaction on top of a session's stack.
use Rattle.std.proofs.Common.{◌≡◌, ◌<◌, ℕ, sym, ap, subst, ◌∙◌}
use Rattle.ebr_base.specs.declared.numbers.SessionId.{SessionId}
use Rattle.ebr_base.specs.declared.row.TxId.{TxId}
use Rattle.ebr_tx.specs.Data.{Data, IsLive, names_of, stack_of, named_at}
use Rattle.ebr_tx.specs.Calls.{HasLevel, HasSession, levels, top}
use Rattle.ebr_seats.specs.Seats.{stack_to}
use Rattle.ebr_seats.proofs.Live.{has_level, own_live, top_live as top_lives}
use Rattle.ebr_seats.proofs.Stacks.{levels_are, top_is as is_top}
use Rattle.ebr_levels.specs.Keeps.{AreEarly, UnderChange}
use Rattle.ebr_levels.specs.Levels.{IsTop, Leaves}

module _ (d : Data) (t : TxId) (h : IsTop d t) where
  pub top_live : IsLive d t
  top_live = top_lives d t.session t.depth h.stack

  pub top_is : top d t.session ≡ t
  top_is = is_top d t.session t.depth h.stack

  pub top_levels : levels d t.session ≡ t.depth
  top_levels = levels_are d t.session t.depth h.stack

  pub top_session : HasSession d t.session
  top_session = own_live d t.session t.depth h.stack

-- a transaction that is no session's own is an autonomous one
pub top_level : (d : Data) (t : TxId) → IsTop d t → 0 < t.depth → HasLevel d t.session
top_level d t h some = has_level d t.session t.depth h.stack some

pub top_stays : (a b : Data) (t : TxId) (under : UnderChange) → IsTop a t → Leaves a t under b → IsTop b t
top_stays a b t under h l = record { stack = ap (λ ns. stack_of ns t.session) l.names ∙ h.stack; early = l.keeps.early h.early }

-- the transaction of so many levels, where that many are open
pub top_by_stack : (d : Data) (t : TxId) (s : SessionId) (n : ℕ) → t ≡ named_at s n → stack_of (names_of d.live) s ≡ stack_to s n → AreEarly d → IsTop d t
top_by_stack d t s n is stack early = subst (IsTop d) (sym is) (record { stack = stack; early = early })
