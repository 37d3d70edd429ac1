-- The changes of editions that records tell of.
use Rattle.std.proofs.Common.{◌≡◌, ap, ◌∙◌}
use Rattle.ebr_editions.specs.Editions.{Editions}
use Rattle.ebr_cross.specs.declared.catalogue.Catalogue.{Catalogue}
use Rattle.ebr_cross.specs.Catalogue.{Lists, as_catalogue}

-- the catalogue with other editions
pub with-chain : (old : Catalogue) (c : Lists) (s s' : Editions) → old ≡ as_catalogue c → s ≡ s' → ◌≡◌ {A = Catalogue} (record { chain = s; actuals = old.actuals; tables = old.tables }) (as_catalogue (record c { editions = s' }))
with-chain old c s s' h e =
    let make : Catalogue → Editions → Catalogue = λ k t. record { chain = t; actuals = k.actuals; tables = k.tables } in
    ap (λ k. make k s) h ∙ ap (make (as_catalogue c)) e

pub chain-of : (old : Catalogue) (c : Lists) → old ≡ as_catalogue c → old.chain ≡ c.editions
chain-of old c h = ap (λ (k : Catalogue). k.chain) h
