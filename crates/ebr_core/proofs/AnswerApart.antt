-- The promise of an answer that editions are apart, from what it leaves.
use Rattle.std.proofs.Common.{◌≡◌, Bool, true, false, List, [], ◌∷◌, ◌++◌, length, refl, sym, ap, subst, ◌∙◌}
use Rattle.std.specs.Prelude.{Option, Some, None}
use Rattle.ebr_base.specs.declared.numbers.SessionId.{SessionId}
use Rattle.ebr_ast.specs.declared.view.EditionView.{EditionView}
use Rattle.ebr_asks.specs.declared.ask.Ask.{Ask}
use Rattle.ebr_asks.specs.declared.answer.Answer.{Answer}
use Rattle.ebr_asks.specs.declared.answer.Answer.TheVariants as answer
use Rattle.ebr_asks.specs.declared.entry.Entry.{Entry}
use Rattle.ebr_record.specs.Keeper.{Keeper}
use Rattle.ebr_database.specs.Database.{Session, Database, session_at}
use Rattle.ebr_core.specs.Apart.{EndsAlike, IsAnsweredApart, IsApart}
use Rattle.ebr_core.specs.Engine.{AnswersAsk, EngineState, Gives, database_of, entry_of, first_of, has_given_up}
use Rattle.ebr_core.specs.History.{After, edition_of, next}
use Rattle.ebr_core.specs.Machine.{Build, Reply}
use Rattle.ebr_core.proofs.Books.{as_many}
use Rattle.ebr_core.proofs.Histories.{After-append, next_made}
use Rattle.ebr_core.proofs.ReplyApart.{reply_alike}

-- where it is the reply, and leaves the database that the reply leaves
replied_apart : (db : Database) (s : SessionId) (q : Ask) (a : Answer) (now : Database) → a ≡ (Reply db s q).answer → now ≡ (Reply db s q).database → IsAnsweredApart db s q a now
replied_apart db s q a now answer left e other edition differ agree never never' =
    subst (λ y. EndsAlike e y (Reply db s q).records now (Reply other s q)) (sym answer)
    (subst (λ d. EndsAlike e (Reply db s q).answer (Reply db s q).records d (Reply other s q)) (sym left) (by (session_at db.sessions s.0) refl edition))
  where
    by : (o : Option Session) → session_at db.sessions s.0 ≡ o → edition_of o ≡ Some e → EndsAlike e (Reply db s q).answer (Reply db s q).records (Reply db s q).database (Reply other s q)
    by None is here = cc
    by (Some x) is here = reply_alike db other differ s x e is here q agree never never'

module _ {K : Type 0} (as_keeper : K → Keeper) (old new : EngineState K) (s : SessionId) (q : Ask) where
  -- the database behind one more entry
  behind : (x : Entry) → new.history ≡ old.history ++ x ∷ [] → new.recovered ≡ old.recovered → length new.books ≡ length old.books → database_of new ≡ next (database_of old) x
  behind x entry recovered books = (λ i. After (Build (recovered i) (books i)) new.history) ∙ ap (After (first_of old)) entry ∙ After-append (first_of old) old.history x

  by_answer : (given_up : Bool) (a : Answer) → new.history ≡ old.history ++ entry_of s q a ∷ [] → new.recovered ≡ old.recovered → length new.books ≡ length old.books → Gives as_keeper given_up old.keeper new.keeper q a (Reply (database_of old) s q)
      → IsApart (database_of old) s q a (database_of new)
  by_answer true a entry recovered books g = subst (λ y. IsApart (database_of old) s q y (database_of new)) (sym g.0) tt
  by_answer false answer.DiskFault entry recovered books g = tt
  by_answer false answer.NoMemory entry recovered books g = tt
  by_answer false answer.Stopped entry recovered books g = absurd g
  by_answer false a entry recovered books g = replied_apart (database_of old) s q a (database_of new) g.0 (behind (entry_of s q a) entry recovered books ∙ next_made (database_of old) (entry_of s q a) refl)

  pub answer_apart : (a : Answer) → AnswersAsk as_keeper old new s q a → IsApart (database_of old) s q a (database_of new)
  answer_apart a h = by_answer (has_given_up old.history) a h.entry h.recovered (ap (λ (bs : List (Option EditionView)). length bs) h.books ∙ as_many old.books s.0 h.book) h.gives
