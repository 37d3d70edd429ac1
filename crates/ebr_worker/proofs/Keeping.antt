-- What became of the keeper behind a turn.
use Rattle.std.proofs.Common.{◌≡◌, List, [], ◌∷◌, ◌++◌, sym, ◌∙◌, ap, subst}
use Rattle.ebr_base.specs.declared.numbers.SessionId.{SessionId}
use Rattle.ebr_asks.specs.declared.entry.Entry.{Entry}
use Rattle.ebr_record.specs.Keeper.{Keeper}
use Rattle.ebr_core.specs.Engine.{EngineState, first_of}
use Rattle.ebr_core.specs.Kept.{Kept}
use Rattle.ebr_core.specs.Machine.{Build}
use Rattle.ebr_core.proofs.KeptBehind.{kept_first, kept_more}
use Rattle.ebr_worker.specs.Work.{Adds}

module _ {K : Type 0} (as_keeper : K → Keeper) (first : Keeper) where
  -- one entry more
  pub kept_adds : (s : SessionId) (x : Entry) (e e' : EngineState K) → Adds as_keeper s x e e' → Kept first (as_keeper e.keeper) (first_of e) e.history → Kept first (as_keeper e'.keeper) (first_of e') e'.history
  kept_adds s x e e' adds kept =
      subst (λ d. Kept first (as_keeper e'.keeper) d e'.history) (λ i. Build (sym adds.recovered i) (sym adds.books i))
      (subst (λ (h : List Entry). Kept first (as_keeper e'.keeper) (first_of e) h) (sym (adds.is ∙ ap (λ y. e.history ++ y ∷ []) adds.entry))
      (kept_more as_keeper first (first_of e) e.history s adds.ask adds.answer e.keeper e'.keeper kept adds.gives))

-- before the first entry
pub kept_none : {K : Type 0} (as_keeper : K → Keeper) (e : EngineState K) → e.history ≡ [] → Kept (as_keeper e.keeper) (as_keeper e.keeper) (first_of e) e.history
kept_none as_keeper e none = subst (λ (h : List Entry). Kept (as_keeper e.keeper) (as_keeper e.keeper) (first_of e) h) (sym none) (kept_first as_keeper (as_keeper e.keeper) (first_of e) e.keeper (λ i. as_keeper e.keeper))
