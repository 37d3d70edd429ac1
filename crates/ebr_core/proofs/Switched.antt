-- The session's edition is set, or not.
use Rattle.std.proofs.Common.{◌≡◌, ℕ, List, [], Bool, true, false, refl, sym, ap, subst, ◌∙◌, append-nil}
use Rattle.std.specs.Prelude.{Some, Result, Ok, Err, is_some, if◌then◌else◌}
use Rattle.ebr_base.specs.declared.code.Code.{Code}
use Rattle.ebr_base.specs.declared.code.Code.TheVariants.{Ebr}
use Rattle.ebr_base.specs.declared.numbers.EditionNo.{EditionNo}
use Rattle.ebr_base.specs.declared.numbers.SessionId.{SessionId}
use Rattle.ebr_asks.specs.declared.answer.Answer.TheVariants as answer
use Rattle.ebr_cross.specs.Definitions.{set_edition}
use Rattle.ebr_record.specs.Keeper.{Keeper}
use Rattle.ebr_database.specs.Database.{Session, Database, data_of, session_at, with_session}
use Rattle.ebr_seats.specs.Ends.{own_of}
use Rattle.ebr_seats.specs.Seats.{Holds as Seated}
use Rattle.ebr_levels.proofs.ReplyLemmas.{early_same_call}
use Rattle.ebr_tx.specs.Data.{own, named_at}
use Rattle.ebr_core.specs.declared.current.Current.{Current}
use Rattle.ebr_core.specs.Machine.{lists_of, refused, edition_found, edition_set, reply_set}
use Rattle.ebr_core.specs.inside.Held.{Holds, IsReplied}
use Rattle.ebr_core.proofs.HeldAgain.{leaves_on}

module _ {K : Type 0} (as_keeper : K → Keeper) (old : Current K) (db : Database) (h : Holds as_keeper old db) (s : SessionId) (x : Session) (name : List ℕ) where
  begun_is : (b : Bool) → b ≡ is_some (own old.world.tx.contents (named_at s 0)).begun → is_some (own (data_of db) (own_of s)).begun ≡ b
  begun_is b e = ap (λ d. is_some (own d (named_at s 0)).begun) (sym h.seated.data_is) ∙ sym e

  not_set : (code : Code) → edition_found db s name ≡ Err code → IsReplied as_keeper old old (answer.Refused code 0 []) (reply_set db s x name)
  not_set code is =
      subst (λ r. IsReplied as_keeper old old (answer.Refused code 0 []) (edition_set db s x r)) (sym is)
      (leaves_on as_keeper old old db h refl refl refl (refused db code) (sym (append-nil db.records)) h.early refl _ (record { answer = refl; none = refl; holds = h.seated }))

  pub has_begun : true ≡ is_some (own old.world.tx.contents (named_at s 0)).begun → IsReplied as_keeper old old (answer.Refused (Ebr 16) 0 []) (reply_set db s x name)
  has_begun e = not_set (Ebr 16) (ap (λ b. if b then Err (Ebr 16) else set_edition (lists_of db).editions.made name) (begun_is true e))

  found_is : false ≡ is_some (own old.world.tx.contents (named_at s 0)).begun → (r : Result EditionNo Code) → r ≡ set_edition old.world.catalogue.chain.made name → edition_found db s name ≡ r
  found_is e r is = ap (λ b. if b then Err (Ebr 16) else set_edition (lists_of db).editions.made name) (begun_is false e) ∙ ap (λ c. set_edition c.chain.made name) (sym h.catalogue_is) ∙ sym is

  pub not_there : false ≡ is_some (own old.world.tx.contents (named_at s 0)).begun → (code : Code) → Err code ≡ set_edition old.world.catalogue.chain.made name → IsReplied as_keeper old old (answer.Refused code 0 []) (reply_set db s x name)
  not_there e code is = not_set code (found_is e (Err code) is)

  pub is_set : (new : Current K) (d : EditionNo) → session_at db.sessions s.0 ≡ Some x → new.world.catalogue ≡ old.world.catalogue → new.views ≡ old.views → new.world.book ≡ old.world.book → new.world.keeper ≡ old.world.keeper
      → false ≡ is_some (own old.world.tx.contents (named_at s 0)).begun → Ok d ≡ set_edition old.world.catalogue.chain.made name
      → Seated (as_keeper old.world.keeper).used new.world.tx.contents new.seats.items (with_session db s (record x { edition = Some d })) → IsReplied as_keeper old new answer.Done (reply_set db s x name)
  is_set new d there catalogue views books keeper e is seated =
      subst (λ r. IsReplied as_keeper old new answer.Done (edition_set db s x r)) (sym (found_is e (Ok d) is))
      (leaves_on as_keeper old new db h catalogue views books (edition_set db s x (Ok d)) (sym (append-nil db.records))
      (early_same_call db s x (record x { edition = Some d }) there refl h.early) keeper _ (record { answer = refl; none = refl; holds = seated }))
