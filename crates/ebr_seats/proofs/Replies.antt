-- What an ask for transactions leaves is held.
use Rattle.std.proofs.Common.{◌≡◌, ℕ, List, refl, sym, ap, subst, ◌∙◌}
use Rattle.std.specs.Prelude.{◌==◌, Some, Ok, Err}
use Rattle.ebr_base.specs.declared.numbers.SessionId.{SessionId}
use Rattle.ebr_base.specs.declared.row.TxId.{TxId}
use Rattle.ebr_tx.specs.Data.{Data, named_at, own}
use Rattle.ebr_tx.specs.Calls.{levels, top, after_settle}
use Rattle.ebr_record.specs.Keeper.{Keeper}
use Rattle.ebr_database.specs.Base.{Base}
use Rattle.ebr_database.specs.Outcome.{Outcome, gives}
use Rattle.ebr_database.specs.Storable.{AllStorable}
use Rattle.ebr_database.specs.Transact.{Done, commit, settled, keep_changes}
use Rattle.ebr_database.specs.Shows.{Said, base_of}
use Rattle.ebr_database.specs.ReadBack.{IsReadBack}
use Rattle.ebr_database.specs.Database.{Session, Database, data_of, base_in, session_at, after_outcome, replied, as_answer, on_top, own_on_top}
use Rattle.ebr_seats.specs.declared.seat.Seat.{Seat}
use Rattle.ebr_seats.specs.Seats.{Goes, Holds, IsSeatOf, Leaves, seat_at, with_seat}
use Rattle.ebr_seats.specs.inside.Apart.{Others}
use Rattle.ebr_seats.proofs.Stacks.{levels_are, top_is}
use Rattle.ebr_seats.proofs.Seated.{Seated, seated, sit_again}

module _ (used : ℕ) (d : Data) (seats : List Seat) (db : Database) (s : SessionId) (x : Session) (h : Holds used d seats db) (there : session_at db.sessions s.0 ≡ Some x) where
  abbrev pub held : Seated d seats s x
  held = seated used d seats db s x h there

  pub base_is : base_in db ≡ record { data_now = d; used = used }
  base_is = λ i. record { data_now = sym h.data_is i; used = sym h.used_is i }

  pub top_here : (t : TxId) → ((seat : Seat) → seat_at seats s.0 ≡ Some seat → t ≡ named_at s seat.levels) → on_top db s ≡ t
  top_here t is = ap (λ e. top e s) (sym h.data_is) ∙ top_is d s held.seat.levels held.sits.stack ∙ sym (is held.seat held.there)

  pub own_here : own_on_top (data_of db) s ≡ (held.seat.levels == 0)
  own_here = ap (λ e. levels e s == 0) (sym h.data_is) ∙ ap (λ n. n == 0) (levels_are d s held.seat.levels held.sits.stack)

  module _ (d' : Data) (used' : ℕ) (seat' : Seat) (x' : Session) (o : Others d d' s) (storable : AllStorable d') (sits : IsSeatOf d' s seat' x') where
    pub holds_on : (out : Outcome Base Done) → IsReadBack db out → out.state ≡ record { data_now = d'; used = used' } → Holds used' d' (with_seat seats s seat') (replied db s x' out).database
    holds_on out back is =
        let after : base_in (after_outcome db out) ≡ record { data_now = d'; used = used' } = back ∙ is in
        record {
          data_is = sym (ap (λ (b : Base). b.data_now) after);
          used_is = sym (ap (λ (b : Base). b.used) after);
          storable = storable;
          sit = sit_again d d' seats db.sessions s held.seat seat' x x' h.sit o held.there there sits;
        }

    pub leaves : (out : Outcome Base Done) (a : Done) → out ≡ gives (record { data_now = d'; used = used' }) a → IsReadBack db out → Leaves used' d' (with_seat seats s seat') (as_answer a) (replied db s x' out)
    leaves out a is back = record {
      answer = ap (λ (p : Outcome Base Done). as_answer p.value) (sym is);
      none = ap (λ (p : Outcome Base Done). p.made) is;
      holds = holds_on out back (ap (λ (p : Outcome Base Done). p.state) is);
    }

    pub goes : (out : Outcome Base Done) (a : Done) (old new : Keeper) → used' ≡ new.used → Said out (base_of d' new) old new a → IsReadBack db out → Goes old new d' (with_seat seats s seat') (as_answer a) (replied db s x' out)
    goes out a old new same said back = record {
      answer = ap as_answer (sym said.value);
      grew = said.grew;
      holds = subst (λ n. Holds n d' (with_seat seats s seat') (replied db s x' out).database) same
          (holds_on out back (said.state ∙ (λ i. record { data_now = d'; used = sym same i })));
    }

-- a commit that isn't refused has settled
by_settled : (t : TxId) (d : Data) (v : Done) (used : ℕ) (u : Unit {0}) → (settled t d v used).value ≡ Ok u → (settled t d v used).state.data_now ≡ after_settle d t
by_settled t d (Ok w) used u e = refl
by_settled t d (Err code) used u e = cc

pub commit_settles : (t : TxId) (b : Base) (u : Unit {0}) → (commit t b).value ≡ Ok u → (commit t b).state.data_now ≡ after_settle b.data_now t
commit_settles t b u e = let kc : Outcome ℕ Done = keep_changes (own b.data_now t).changes b.used in by_settled t b.data_now kc.value kc.state u e
