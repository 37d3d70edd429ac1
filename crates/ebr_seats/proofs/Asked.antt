-- What each ask for transactions leaves, by what its call says.
use Rattle.std.proofs.Common.{◌≡◌, ℕ, ◌≤◌, Bool, true, false, cond, List, refl, sym, ap, subst, ◌∙◌}
use Rattle.std.specs.Prelude.{◌==◌, ◌&&◌, ◌||◌, nat_lt, if◌then◌else◌, is_some, Option, Some, None, IfSome, option_map, Result, Ok, Err, OnOk, OnErr}
use Rattle.std.proofs.lemmas.Bool.{le-ltb}
use Rattle.ebr_base.specs.declared.code.Code.{Code}
use Rattle.ebr_base.specs.declared.code.Code.TheVariants.{Ora}
use Rattle.ebr_base.specs.declared.numbers.SessionId.{SessionId}
use Rattle.ebr_base.specs.declared.row.TxId.{TxId}
use Rattle.ebr_tx.specs.declared.savepoints.Savepoint.{Savepoint}
use Rattle.ebr_tx.specs.declared.savepoints.TxMark.{TxMark}
use Rattle.ebr_tx.specs.Data.{Data, IsLive, names_of, named_at}
use Rattle.ebr_tx.specs.Calls.{IsMarkOf, mark_of, after_settle, after_rollback, after_savepoint, after_back_to, back_to_answer, back_to_savepoint, savepoint_named}
use Rattle.ebr_record.specs.Keeper.{Keeper}
use Rattle.ebr_database.specs.declared.failure.Failure.{Failure}
use Rattle.ebr_database.specs.declared.failure.Failure.TheVariants as failure
use Rattle.ebr_database.specs.Base.{Base}
use Rattle.ebr_database.specs.Outcome.{Outcome, gives}
use Rattle.ebr_database.specs.Storable.{AllStorable}
use Rattle.ebr_database.specs.Transact.{Done, commit, roll_back, savepoint, back_to}
use Rattle.ebr_database.specs.Shows.{Said, Shows, GaveUp, base_of, Leaves as Left}
use Rattle.ebr_database.specs.ReadBack.{AreReadBack}
use Rattle.ebr_database.specs.Database.{Session, Database, data_of, base_in, session_at, on_top, own_on_top, is_done, at_end, at_back, moved_back, replied, as_answer, reply_commit, reply_rollback, reply_savepoint, reply_back_to}
use Rattle.ebr_seats.specs.declared.seat.Seat.{Seat}
use Rattle.ebr_seats.specs.Seats.{Finishes, Goes, Holds, IsSeatOf, Leaves, seat_at, with_seat, ended_if, moved_if}
use Rattle.ebr_seats.proofs.Others.{Touches, others, touches_same, settled, rolled_back, saved, went_back}
use Rattle.ebr_seats.proofs.Seated.{Seated, seats_same}
use Rattle.ebr_seats.proofs.Live.{own_live}
use Rattle.ebr_seats.proofs.Marks.{ended_seat, saved_seat, moved_seat}
use Rattle.ebr_seats.proofs.Replies.{held, base_is, top_here, own_here, leaves, goes, commit_settles}

abbrev plain : Result (Unit {0}) Code → Result (Unit {0}) Code
plain r = r

and_true : (b : Bool) → (b && true) ≡ b
and_true true = refl
and_true false = refl

and_false : (b : Bool) → (b && false) ≡ false
and_false true = refl
and_false false = refl

abbrev pub IsTop : List Seat → SessionId → TxId → Type 0
IsTop seats s t = (seat : Seat) → seat_at seats s.0 ≡ Some seat → t ≡ named_at s seat.levels

module _ (used : ℕ) (d : Data) (seats : List Seat) (db : Database) (s : SessionId) (x : Session) (h : Holds used d seats db) (there : session_at db.sessions s.0 ≡ Some x)
    (back : AreReadBack db) (t : TxId) (is_top : IsTop seats s t) where
  abbrev sd : Seated d seats s x
  sd = held used d seats db s x h there

  abbrev level : ℕ
  level = sd.seat.levels

  t_is : t ≡ named_at s level
  t_is = is_top sd.seat sd.there

  of_s : t.session.0 ≡ s.0
  of_s = ap (λ (u : TxId). u.session.0) t_is

  top_eq : on_top db s ≡ t
  top_eq = top_here used d seats db s x h there t is_top

  base_eq : base_in db ≡ record { data_now = d; used = used }
  base_eq = base_is used d seats db s x h there

  own_eq : own_on_top (data_of db) s ≡ (level == 0)
  own_eq = own_here used d seats db s x h there

  own_lives : IsLive d (named_at s 0)
  own_lives = own_live d s level sd.sits.stack

  module _ (d' : Data) (names : names_of d'.live ≡ names_of d.live) (storable : AllStorable d') where
    -- ---- COMMIT

    module _ (old new : Keeper) (same : used ≡ old.used) where
      base_old : base_in db ≡ base_of d old
      base_old = base_eq ∙ (λ i. record { data_now = d; used = same i })

      out_is : commit (on_top db s) (base_in db) ≡ commit t (base_of d old)
      out_is = λ i. commit (top_eq i) (base_old i)

      pub committed : (u : Unit {0}) → Said (commit t (base_of d old)) (base_of d' new) old new (Ok u) → Goes old new d' (with_seat seats s (ended_if (level == 0) sd.seat)) (as_answer (Ok u)) (reply_commit db s x)
      committed u said =
          let said' : Said (commit (on_top db s) (base_in db)) (base_of d' new) old new (Ok u) = subst (λ o. Said o (base_of d' new) old new (Ok u)) (sym out_is) said in
          let after : d' ≡ after_settle d t = sym (ap (λ (b : Base). b.data_now) said.state) ∙ commit_settles t (base_of d old) u said.value in
          let touched : Touches d d' t = settled d d' t names after in
          let flag : (own_on_top (data_of db) s && is_done (commit (on_top db s) (base_in db)).value) ≡ (level == 0) =
          ap (λ v. own_on_top (data_of db) s && is_done v) said'.value ∙ and_true (own_on_top (data_of db) s) ∙ own_eq in
          subst (λ b. Goes old new d' (with_seat seats s (ended_if (level == 0) sd.seat)) (as_answer (Ok u)) (replied db s (at_end b x) (commit (on_top db s) (base_in db)))) (sym flag)
          (goes used d seats db s x h there d' new.used (ended_if (level == 0) sd.seat) (at_end (level == 0) x) (others d d' t s of_s touched) storable
          (ended_seat d d' s t sd.seat x t_is touched sd.sits) (commit (on_top db s) (base_in db)) (Ok u) old new refl said' (back.commit (on_top db s)))

      pub refused : (code : Code) → d' ≡ d → Said (commit t (base_of d old)) (base_of d' new) old new (Err code) → Goes old new d' seats (as_answer (Err code)) (reply_commit db s x)
      refused code unchanged said =
          let said' : Said (commit (on_top db s) (base_in db)) (base_of d' new) old new (Err code) = subst (λ o. Said o (base_of d' new) old new (Err code)) (sym out_is) said in
          let touched : Touches d d' t = touches_same d d' t unchanged in
          let flag : (own_on_top (data_of db) s && is_done (commit (on_top db s) (base_in db)).value) ≡ false =
          ap (λ v. own_on_top (data_of db) s && is_done v) said'.value ∙ and_false (own_on_top (data_of db) s) in
          subst (λ b. Goes old new d' seats (as_answer (Err code)) (replied db s (at_end b x) (commit (on_top db s) (base_in db)))) (sym flag)
          (subst (λ ss. Goes old new d' ss (as_answer (Err code)) (replied db s x (commit (on_top db s) (base_in db)))) (seats_same seats s sd.seat sd.there)
          (goes used d seats db s x h there d' new.used sd.seat x (others d d' t s of_s touched) storable
          (subst (λ e. IsSeatOf e s sd.seat x) (sym unchanged) sd.sits) (commit (on_top db s) (base_in db)) (Err code) old new refl said' (back.commit (on_top db s))))

      pub commit_reply : (r : Result (Unit {0}) Failure) (seats' : List Seat) → OnErr r (d' ≡ d) → OnErr r (seats' ≡ seats) → OnOk r (seats' ≡ with_seat seats s (ended_if (level == 0) sd.seat))
          → Shows (commit t (base_of d old)) (base_of d' new) old new r → Finishes old new d' seats' r (reply_commit db s x)
      commit_reply (Ok u) seats' unchanged kept ended said = subst (λ ss. Goes old new d' ss (as_answer (Ok u)) (reply_commit db s x)) (sym ended) (committed u said)
      commit_reply (Err (failure.Refused code)) seats' unchanged kept ended said = subst (λ ss. Goes old new d' ss (as_answer (Err code)) (reply_commit db s x)) (sym kept) (refused code unchanged said)
      commit_reply (Err (failure.Halted why)) seats' unchanged kept ended said = subst (λ (o : Outcome Base Done). GaveUp old new o.made why) (sym out_is) said

    -- ---- ROLLBACK

    pub rollback_reply : Left (roll_back t) d d' (Ok tt) → Leaves used d' (with_seat seats s (ended_if (level == 0) sd.seat)) (as_answer (Ok tt)) (reply_rollback db s x)
    rollback_reply left =
        let is : roll_back (on_top db s) (base_in db) ≡ gives (record { data_now = d'; used = used }) (Ok tt) = (λ i. roll_back (top_eq i) (base_eq i)) ∙ left.is used in
        let after : d' ≡ after_rollback d t = sym (ap (λ (o : Outcome Base Done). o.state.data_now) (left.is used)) in
        let touched : Touches d d' t = rolled_back d d' t names after in
        let flag : (own_on_top (data_of db) s && true) ≡ (level == 0) = and_true (own_on_top (data_of db) s) ∙ own_eq in
        subst (λ b. Leaves used d' (with_seat seats s (ended_if (level == 0) sd.seat)) (as_answer (Ok tt)) (replied db s (at_end b x) (roll_back (on_top db s) (base_in db)))) (sym flag)
        (leaves used d seats db s x h there d' used (ended_if (level == 0) sd.seat) (at_end (level == 0) x) (others d d' t s of_s touched) storable
        (ended_seat d d' s t sd.seat x t_is touched sd.sits) (roll_back (on_top db s) (base_in db)) (Ok tt) is (back.roll_back (on_top db s)))

    -- ---- SAVEPOINT

    pub savepoint_reply : (name : List ℕ) → Left (savepoint t name) d d' (Ok tt) → Leaves used d' seats (as_answer (Ok tt)) (reply_savepoint db s x name)
    savepoint_reply name left =
        let is : savepoint (on_top db s) name (base_in db) ≡ gives (record { data_now = d'; used = used }) (Ok tt) = (λ i. savepoint (top_eq i) name (base_eq i)) ∙ left.is used in
        let after : d' ≡ after_savepoint d t name = sym (ap (λ (o : Outcome Base Done). o.state.data_now) (left.is used)) in
        let touched : Touches d d' t = saved d d' t names name after in
        subst (λ ss. Leaves used d' ss (as_answer (Ok tt)) (reply_savepoint db s x name)) (seats_same seats s sd.seat sd.there)
        (leaves used d seats db s x h there d' used sd.seat x (others d d' t s of_s touched) storable
        (saved_seat d d' s t name sd.seat x t_is own_lives after touched sd.sits) (savepoint (on_top db s) name (base_in db)) (Ok tt) is (back.savepoint (on_top db s) name))

    -- ---- ROLLBACK TO SAVEPOINT

    pub back_to_reply : (name : List ℕ) → Left (back_to t name) d d' (Ok tt) → IsMarkOf d' (named_at s 0) (mark_of d' (named_at s 0))
        → Leaves used d' (with_seat seats s (moved_if (level == 0) (mark_of d' (named_at s 0)) sd.seat)) (as_answer (Ok tt)) (reply_back_to db s x name)
    back_to_reply name left here =
        let out : Outcome Base Done = back_to (on_top db s) name (base_in db) in
        let now : TxMark = mark_of d' (named_at s 0) in
        let is : out ≡ gives (record { data_now = d'; used = used }) (Ok tt) = (λ i. back_to (top_eq i) name (base_eq i)) ∙ left.is used in
        let after : d' ≡ after_back_to d t name = sym (ap (λ (o : Outcome Base Done). o.state.data_now) (left.is used)) in
        let touched : Touches d d' t = went_back d d' t names name after in
        let mark_eq : mark_of out.state.data_now (named_at s 0) ≡ now = ap (λ (o : Outcome Base Done). mark_of o.state.data_now (named_at s 0)) is in
        subst (λ b. Leaves used d' (with_seat seats s (moved_if (level == 0) now sd.seat)) (as_answer (Ok tt)) (replied db s (at_back b (mark_of out.state.data_now (named_at s 0)) x) out)) (sym own_eq)
        (subst (λ m. Leaves used d' (with_seat seats s (moved_if (level == 0) now sd.seat)) (as_answer (Ok tt)) (replied db s (at_back (level == 0) m x) out)) (sym mark_eq)
        (leaves used d seats db s x h there d' used (moved_if (level == 0) now sd.seat) (at_back (level == 0) now x) (others d d' t s of_s touched) storable
        (moved_seat d d' s t now sd.seat x t_is refl here touched sd.sits) out (Ok tt) is (back.back_to (on_top db s) name)))

    stays_where : (name : List ℕ) (code : Code) → back_to_answer d t name ≡ Err code → after_back_to d t name ≡ d
    stays_where name code e = by (savepoint_named d t name) e
      where
        by : (o : Option Savepoint) → plain (if is_some o then Ok tt else Err (Ora 1086)) ≡ plain (Err code) → back_to_savepoint d t name o ≡ d
        by None e = refl
        by (Some p) e = cc

    not_later : (m : TxMark) → IsMarkOf d (named_at s 0) m → moved_back (mark_of d (named_at s 0)) m ≡ m
    not_later m is = by (nat_lt (mark_of d (named_at s 0)).changes m.changes) (nat_lt (mark_of d (named_at s 0)).locks m.locks) (below _ _ is.changes) (below _ _ is.locks)
      where
        below : (a b : ℕ) → b ≤ a → nat_lt a b ≡ false
        below a b le = le-ltb a b le

        by : (p q : Bool) → p ≡ false → q ≡ false → cond (p || q) (mark_of d (named_at s 0)) m ≡ m
        by true q e f = cc
        by false true e f = cc
        by false false e f = refl

    mark_stays : (call : Option TxMark) → IfSome call (IsMarkOf d (named_at s 0)) → option_map (moved_back (mark_of d (named_at s 0))) call ≡ call
    mark_stays None is = refl
    mark_stays (Some m) is = ap Some (not_later m is)

    same_session : (b : Bool) → at_back b (mark_of d (named_at s 0)) x ≡ x
    same_session true = ap (λ call. record x { call = call }) (mark_stays x.call sd.sits.mark)
    same_session false = refl

    pub no_savepoint_reply : (name : List ℕ) (code : Code) → Left (back_to t name) d d' (Err code) → Leaves used d' seats (as_answer (Err code)) (reply_back_to db s x name)
    no_savepoint_reply name code left =
        let out : Outcome Base Done = back_to (on_top db s) name (base_in db) in
        let is : out ≡ gives (record { data_now = d'; used = used }) (Err code) = (λ i. back_to (top_eq i) name (base_eq i)) ∙ left.is used in
        let after : d' ≡ d = sym (ap (λ (o : Outcome Base Done). o.state.data_now) (left.is used)) ∙ stays_where name code (ap (λ (o : Outcome Base Done). o.value) (left.is used)) in
        let touched : Touches d d' t = touches_same d d' t after in
        let mark_eq : mark_of out.state.data_now (named_at s 0) ≡ mark_of d (named_at s 0) = ap (λ (o : Outcome Base Done). mark_of o.state.data_now (named_at s 0)) is ∙ ap (λ e. mark_of e (named_at s 0)) after in
        let session_eq : at_back (own_on_top (data_of db) s) (mark_of out.state.data_now (named_at s 0)) x ≡ x =
        ap (λ m. at_back (own_on_top (data_of db) s) m x) mark_eq ∙ same_session (own_on_top (data_of db) s) in
        subst (λ y. Leaves used d' seats (as_answer (Err code)) (replied db s y out)) (sym session_eq)
        (subst (λ ss. Leaves used d' ss (as_answer (Err code)) (replied db s x out)) (seats_same seats s sd.seat sd.there)
        (leaves used d seats db s x h there d' used sd.seat x (others d d' t s of_s touched) storable
        (subst (λ e. IsSeatOf e s sd.seat x) (sym after) sd.sits) out (Err code) is (back.back_to (on_top db s) name)))
