-- What is done, one after the other.
use Rattle.std.proofs.Common.{◌≡◌, List, [], ◌∷◌, ◌++◌, refl, sym, ap, subst, ◌∙◌, append-nil, append_assoc, true}
use Rattle.std.specs.List.{filter_map}
use Rattle.std.proofs.lemmas.List.Elements.{filter_map-append}
use Rattle.ebr_base.specs.declared.numbers.TableId.{TableId}
use Rattle.ebr_base.specs.declared.row.Change.{Change}
use Rattle.ebr_base.specs.declared.row.TxId.{TxId}
use Rattle.ebr_base.specs.declared.table.TableDef.{TableDef}
use Rattle.ebr_versions.specs.declared.table.Table.{Table}
use Rattle.ebr_versions.specs.Keys.{is_added}
use Rattle.ebr_record.specs.declared.record.Record.{Record}
use Rattle.ebr_record.specs.declared.record.Record.TheVariants as made
use Rattle.ebr_database.specs.Base.{Base}
use Rattle.ebr_database.specs.Database.{commit_in}
use Rattle.ebr_levels.specs.Keeps.{UnderChange}
use Rattle.ebr_levels.proofs.LeavesLemmas.{leaves_fewer, leaves_leaves, leaves_same}
use Rattle.ebr_integrity.specs.Commits.{IsSuitable}
use Rattle.ebr_integrity.specs.Integrity.{IsIntact, IsIntactBy}
use Rattle.ebr_integrity.specs.inside.Works.{AreAllowedCommits, Works, WorksIn}

module _ (living : List TableDef) where
  allowed_append : (tables : List Table) (commits : List (List Change)) (xs ys : List Record) → AreAllowedCommits living tables commits xs
      → AreAllowedCommits living tables (commits ++ filter_map commit_in xs) ys → AreAllowedCommits living tables commits (xs ++ ys)
  allowed_append tables commits [] ys h k = subst (λ cs. AreAllowedCommits living tables cs ys) (append-nil commits) k
  allowed_append tables commits (made.Commit changes ∷ xs) ys h k =
      (h.0, allowed_append tables (commits ++ changes ∷ []) xs ys h.1 (subst (λ cs. AreAllowedCommits living tables cs ys) (sym (append_assoc commits (changes ∷ []) (filter_map commit_in xs))) k))
  allowed_append tables commits (r ∷ xs) ys h k = absurd h

  -- no record was made
  pub works_none : (b now : Base) → now.data_now.commits ≡ b.data_now.commits → now.data_now.tables ≡ b.data_now.tables → IsIntactBy (IsSuitable living) now.data_now → Works living b [] now
  works_none b now commits tables intact = record { allowed = tt; more = commits ∙ sym (append-nil b.data_now.commits); tables = tables; intact = intact }

  pub works_same : (b : Base) → IsIntact living b.data_now → Works living b [] b
  works_same b fit = works_none b b refl refl fit.intact

  pub works_both : (a b c : Base) (xs ys : List Record) → Works living a xs b → Works living b ys c → Works living a (xs ++ ys) c
  works_both a b c xs ys h k = record {
    allowed = allowed_append a.data_now.tables a.data_now.commits xs ys h.allowed
        (subst (λ cs. AreAllowedCommits living a.data_now.tables cs ys) h.more (subst (λ ts. AreAllowedCommits living ts b.data_now.commits ys) h.tables k.allowed));
    more =
        k.more ∙ ap (λ l. l ++ filter_map commit_in ys) h.more ∙ append_assoc a.data_now.commits (filter_map commit_in xs) (filter_map commit_in ys)
        ∙ ap (λ l. a.data_now.commits ++ l) (sym (filter_map-append commit_in xs ys));
    tables = k.tables ∙ h.tables;
    intact = k.intact;
  }

  pub fit_behind : (b now : Base) (made : List Record) → Works living b made now → IsIntact living b.data_now → IsIntact living now.data_now
  fit_behind b now made h fit = record { intact = h.intact; known = λ id t e. ap (λ (ts : List Table). is_added ts id) h.tables ∙ fit.known id t e }

  -- ---- in one transaction

  module _ (t : TxId) (under : UnderChange) where
    pub in_same : (b : Base) → IsIntact living b.data_now → WorksIn living b t under [] b
    in_same b fit = record { works = works_same b fit; leaves = leaves_same b.data_now t under }

    pub in_both : (a b c : Base) (xs ys : List Record) → WorksIn living a t under xs b → WorksIn living b t under ys c → WorksIn living a t under (xs ++ ys) c
    in_both a b c xs ys h k = record { works = works_both a b c xs ys h.works k.works; leaves = leaves_leaves a.data_now b.data_now c.data_now t under h.leaves k.leaves }

    pub in_fewer : (more : UnderChange) → ((x : TableId) → under t x ≡ true → more t x ≡ true) → (b now : Base) (made : List Record) → WorksIn living b t more made now → WorksIn living b t under made now
    in_fewer more each b now made h = record { works = h.works; leaves = leaves_fewer b.data_now now.data_now t under more each h.leaves }
