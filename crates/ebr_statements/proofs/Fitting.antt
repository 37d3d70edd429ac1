-- What calls ask for after other calls.
use Rattle.std.proofs.Common.{◌≡◌, ◌<◌, ◌-◌, ℕ, true, false, List, [], ◌∷◌, Result, Ok, Err, All, get_or, length, refl, sym, ap, subst, ◌∙◌}
use Rattle.std.specs.Prelude.{OnErr}
use Rattle.std.specs.List.{AllByRecursion}
use Rattle.std.proofs.lemmas.List.Elements.{All-from_recursion}
use Rattle.ebr_base.specs.declared.code.Code.{Code}
use Rattle.ebr_base.specs.declared.code.Stop.{Stop}
use Rattle.ebr_base.specs.declared.code.Stop.TheVariants.{Raised, NoMemory}
use Rattle.ebr_base.specs.declared.numbers.TableId.{TableId}
use Rattle.ebr_base.specs.declared.table.TableDef.{TableDef}
use Rattle.ebr_base.specs.declared.row.TxId.{TxId}
use Rattle.ebr_ast.specs.declared.query.Query.{Query as Select}
use Rattle.ebr_ast.specs.declared.sql.SqlTree.{SqlTree}
use Rattle.ebr_ast.specs.declared.sql.SqlTree.TheVariants as sql
use Rattle.ebr_ast.specs.declared.view.EditionView.{EditionView}
use Rattle.ebr_versions.specs.declared.table.Table.{Table}
use Rattle.ebr_versions.specs.Keys.{is_added, key_places}
use Rattle.ebr_tx.specs.Data.{Data}
use Rattle.ebr_tx.specs.declared.savepoints.TxMark.{TxMark}
use Rattle.ebr_tx.specs.Calls.{IsKnown, after_begin, after_mark, levels, mark_of, top}
use Rattle.ebr_cross.specs.declared.catalogue.Catalogue.{Catalogue}
use Rattle.ebr_dml.specs.Steps.{CanStep, DmlState}
use Rattle.ebr_database.specs.Storable.{AllStorable}
use Rattle.ebr_database.proofs.AllStays as stays_storable
use Rattle.ebr_exec.specs.Places.{Under}
use Rattle.ebr_exec.specs.Shows.{Runs}
use Rattle.ebr_exec.specs.Statements.{Ran}
use Rattle.ebr_levels.specs.Keeps.{UnderChange}
use Rattle.ebr_levels.specs.Levels.{GoesBack, Inside, IsTop, Leaves, above}
use Rattle.ebr_levels.proofs.TopLemmas.{top_live, top_stays}
use Rattle.ebr_levels.proofs.LeavesLemmas.{goes_back, goes_back_same, leaves_back, leaves_begun, leaves_fewer, leaves_known, leaves_leaves, leaves_same}
use Rattle.ebr_levels.proofs.EndLemmas.{inside_closed}
use Rattle.ebr_levels.proofs.InsideLemmas.{inside_begins, inside_open, inside_statement, inside_top, inside_top_is}
use Rattle.ebr_levels.proofs.StepLemmas.{can_still_step}
use Rattle.ebr_seats.specs.Ends.{closed_from_top}
use Rattle.ebr_statements.proofs.Naming.{among_itself}
use Rattle.ebr_statements.specs.Fits.{Fits, IsAsBefore, Remains, StayCurrent, IsCurrent}
use Rattle.ebr_statements.specs.inside.Fits.{FitsOpen, RemainsOpen, Spares, under_by}
use Rattle.ebr_statements.specs.inside.Opened.{Stays}

-- a table that is known stays so
known_by : (x y : Data) (def : TableDef) → y.tables ≡ x.tables → IsKnown x def → IsKnown y def
known_by x y def e h = record {
  added = ap (λ (tables : List Table). is_added tables def.id) e ∙ h.added;
  key = ap (λ (tables : List Table). key_places tables def.id) e ∙ h.key;
}

module _ (now : Catalogue) where
  pub current_then : (a b : List EditionView) → IsCurrent now a → StayCurrent now a b → IsCurrent now b
  current_then a b c s = record { lists = c.lists; own_keys = c.own_keys; current = s c.lists c.own_keys c.current c.is; is = c.is }

  pub stay_same : (a : List EditionView) → StayCurrent now a a
  stay_same a c keys current is = current

  pub stay_stay : (a b e : List EditionView) → StayCurrent now a b → StayCurrent now b e → StayCurrent now a e
  stay_stay a b e s s' c keys current is = s' c keys (s c keys current is) is

  module _ (t : TxId) (under : UnderChange) where
    pub remains_same : (views : List EditionView) (d : Data) → AllStorable d → Remains now t under views d views d
    remains_same views d all = record { current = stay_same views; leaves = leaves_same d t under; storable = all }

    pub remains_then : (a b e : List EditionView) (x y z : Data) → Remains now t under a x b y → Remains now t under b y e z → Remains now t under a x e z
    remains_then a b e x y z r r' = record {
      current = stay_stay a b e r.current r'.current;
      leaves = leaves_leaves x y z t under r.leaves r'.leaves;
      storable = r'.storable;
    }

    pub fits_then : (a b : List EditionView) (x y : Data) → Fits now a x t → Remains now t under a x b y → Fits now b y t
    fits_then a b x y f r = record {
      fit = record {
        current = current_then a b f.fit.current r.current;
        known = leaves_known x y t under _ r.leaves f.fit.known;
        narrow = f.fit.narrow;
        storable = r.storable;
      };
      top = top_stays x y t under f.top r.leaves;
    }

    pub remains_fewer : (more : UnderChange) (a b : List EditionView) (x y : Data) → ((table : TableId) → under t table ≡ true → more t table ≡ true) → Remains now t more a x b y → Remains now t under a x b y
    remains_fewer more a b x y f r = record { current = r.current; leaves = leaves_fewer x y t under more f r.leaves; storable = r.storable }

    -- the tables that are known stay so
    known_open : (n m : ℕ) (x y before : Data) → Inside before t under n x → Inside before t under m y → (tables : List TableDef) → All (IsKnown x) tables → All (IsKnown y) tables
    known_open n m x y before h k tables all = λ i e lt. known_by x y (get_or tables i e) (k.keeps.tables ∙ sym h.keeps.tables) (all i e lt)

    -- a body begins, with no autonomous transaction above
    pub opens : (a : List EditionView) (x : Data) → Fits now a x t → FitsOpen now a x under t 0
    opens a x f = record { fit = f.fit; opened = (x, inside_begins x t under f.top) }

    pub open_then : (n m : ℕ) (a b : List EditionView) (x y : Data) → FitsOpen now a x under t n → RemainsOpen now t under n a x m b y → FitsOpen now b y under t m
    open_then n m a b x y f r =
        let before = f.opened.0 in
        let inside : Inside before t under m y = r.stays before f.opened.1 in record {
          fit = record {
            current = current_then a b f.fit.current r.current;
            known = known_open n m x y before f.opened.1 inside _ f.fit.known;
            narrow = f.fit.narrow;
            storable = r.storable;
          };
          opened = (before, inside);
        }

    pub remains_open_same : (n : ℕ) (a : List EditionView) (x : Data) → AllStorable x → RemainsOpen now t under n a x n a x
    remains_open_same n a x all = record { current = stay_same a; stays = λ before h. h; storable = all }

    pub remains_open_then : (n m k : ℕ) (a b e : List EditionView) (x y z : Data) → RemainsOpen now t under n a x m b y → RemainsOpen now t under m b y k e z → RemainsOpen now t under n a x k e z
    remains_open_then n m k a b e x y z r r' = record {
      current = stay_stay a b e r.current r'.current;
      stays = λ before h. r'.stays before (r.stays before h);
      storable = r'.storable;
    }

    -- the statement of a body, in the transaction on top
    pub top_fits : (n : ℕ) (a : List EditionView) (x : Data) (u : TxId) → u ≡ above t n → FitsOpen now a x under t n → Fits now a x u
    top_fits n a x u is f = record { fit = f.fit; top = subst (λ w. IsTop x w) (sym is) (inside_top f.opened.0 x t under n f.opened.1) }

    pub top_remains : (n : ℕ) (a b : List EditionView) (x y : Data) (u : TxId) → u ≡ above t n → Remains now u under a x b y → RemainsOpen now t under n a x n b y
    top_remains n a b x y u is r = record {
      current = r.current;
      stays = λ before h. inside_statement before x y t under n h (subst (λ w. Leaves x w under y) is r.leaves);
      storable = r.storable;
    }

    -- one step of rows, or one call that leaves the books
    pub left_remains : (a : List EditionView) (x y : Data) → Leaves x t under y → AllStorable y → Remains now t under a x a y
    left_remains a x y leaves all = record { current = stay_same a; leaves = leaves; storable = all }

    -- a call that leaves the data
    pub made_remains : (a b : List EditionView) (x : Data) → StayCurrent now a b → AllStorable x → Remains now t under a x b x
    made_remains a b x current all = record { current = current; leaves = leaves_same x t under; storable = all }

    pub step_remains : (a : List EditionView) (x y : Data) (s : DmlState) (changing : List Under) (id : TableId) → Spares under t changing (id ∷ []) → s.tx ≡ t → s.plan.table.id ≡ id
        → ((u : UnderChange) → u s.tx s.plan.table.id ≡ false → Leaves x s.tx u y) → AllStorable y → Remains now t under a x a y
    step_remains a x y s changing id spares own there leaves all =
        let same : under s.tx s.plan.table.id ≡ under t id = λ i. under (own i) (there i) in
        let off : under s.tx s.plan.table.id ≡ false = same ∙ spares.own id (among_itself id) in
        left_remains a x y (subst (λ u. Leaves x u under y) own (leaves under off)) all

    -- what statements leave whose tables are under change around
    pub spared : (changing : List Under) (tables : List TableId) (a b : List EditionView) (x y : Data) → Spares under t changing tables → Remains now t (under_by changing) a x b y → Remains now t under a x b y
    spared changing tables a b x y spares r = remains_fewer (under_by changing) a b x y spares.others r

    -- a body ends
    pub closes : (n : ℕ) (a b : List EditionView) (x y z : Data) → IsTop x t → RemainsOpen now t under 0 a x n b y → z ≡ closed_from_top n t.session y → AllStorable z → Remains now t under a x b z
    closes n a b x y z top r is all = record {
      current = r.current;
      leaves = subst (Leaves x t under) (sym is) (inside_closed n x y t under (r.stays x (inside_begins x t under top)));
      storable = all;
    }

    pub open_top : (n : ℕ) (a b : List EditionView) (x y : Data) → IsTop x t → RemainsOpen now t under 0 a x n b y → IsTop y (above t n)
    open_top n a b x y top r = inside_top x y t under n (r.stays x (inside_begins x t under top))

    -- how many levels are open
    pub so_many : (n : ℕ) (a b : List EditionView) (x y : Data) → IsTop x t → RemainsOpen now t under 0 a x n b y → levels y t.session - t.depth ≡ n
    so_many n a b x y top r = inside_open x y t under n (r.stays x (inside_begins x t under top))

    pub asked_remains : (n m : ℕ) (a : List EditionView) (x y : Data) → Stays under t n x m y → AllStorable y → RemainsOpen now t under n a x m a y
    asked_remains n m a x y stays all = record { current = stay_same a; stays = stays; storable = all }

-- the next step can be made, after what bodies left
pub can_go_on : (x y : Data) (t : TxId) (under : UnderChange) (s : DmlState) → s.tx ≡ t → IsTop x t → under t s.plan.table.id ≡ true → CanStep x s → Leaves x t under y → CanStep y s
can_go_on x y t under s own top on can leaves =
    can_still_step x y s under (subst (IsTop x) (sym own) top) (subst (λ u. under u s.plan.table.id ≡ true) (sym own) on) can (subst (λ u. Leaves x u under y) (sym own) leaves)

-- the transaction on top, for a body
pub open_is_top : (now : Catalogue) (a : List EditionView) (x : Data) (under : UnderChange) (t : TxId) (n : ℕ) → FitsOpen now a x under t n → top x t.session ≡ above t n
open_is_top now a x under t n f = inside_top_is f.opened.0 x t under n f.opened.1

pub one_of : {A : Type 0} (P : A → Type 0) (xs : List A) (i : ℕ) (d : A) → i < length xs → AllByRecursion P xs → P (get_or xs i d)
one_of P xs i d h all = All-from_recursion P xs all i d h

module _ (now : Catalogue) (t : TxId) (under : UnderChange) where
  -- the transaction begins
  pub begins_remains : (a : List EditionView) (x y : Data) → Fits now a x t → y ≡ after_begin x t → Remains now t under a x a y
  begins_remains a x y f is = left_remains now t under a x y (leaves_begun x y t under (top_live x t f.top) is) (subst AllStorable (sym is) (stays_storable.begun x t f.fit.storable))

  -- it goes back to the mark that was taken before
  pub back_remains : (a b : List EditionView) (x y z : Data) (m : TxMark) → IsTop x t → Remains now t under a x b y → m ≡ mark_of x t → z ≡ after_mark y t m → Remains now t under a x b z
  back_remains a b x y z m top r marked is = record {
    current = r.current;
    leaves = leaves_back x y z t under m marked (top_live x t top) r.leaves is;
    storable = subst AllStorable (sym is) (stays_storable.to_mark y t m r.storable);
  }

-- ---- what is as before

pub whatever_answer : {A E P : Type 0} (r : Result A E) → P → OnErr r P
whatever_answer (Ok a) p = tt
whatever_answer (Err e) p = p

pub changed_back : (now : Catalogue) (t : TxId) (under : UnderChange) (a b : List EditionView) (x y z : Data) (m : TxMark) → IsTop x t → Remains now t under a x b y → m ≡ mark_of x t → z ≡ after_mark y t m → GoesBack x t z
changed_back now t under a b x y z m top r marked is = goes_back x y z t under m marked (top_live x t top) r.leaves is

module _ {K : Type 0} (k : K) where
  pub nothing_done : (s : SqlTree) (t : TxId) (d : Data) → IsAsBefore s t d d k k
  nothing_done (sql.Query q) t d = (refl, refl)
  nothing_done (sql.Insert i) t d = goes_back_same d t
  nothing_done (sql.Update u) t d = goes_back_same d t
  nothing_done (sql.Delete x) t d = goes_back_same d t
  nothing_done (sql.Apply name) t d = goes_back_same d t

  pub change_as_before : (k' : K) (s : SqlTree) (t : TxId) (d d' : Data) → ((q : Select) → s ≡ sql.Query q → ⊥) → GoesBack d t d' → IsAsBefore s t d d' k k'
  change_as_before k' (sql.Query q) t d d' none h = absurd (none q refl)
  change_as_before k' (sql.Insert i) t d d' none h = h
  change_as_before k' (sql.Update u) t d d' none h = h
  change_as_before k' (sql.Delete x) t d d' none h = h
  change_as_before k' (sql.Apply name) t d d' none h = h

-- a query that doesn't answer
pub query_as_before : (stop : Stop) (old new : Data) (defined : Result Ran Code) → Runs (Err stop) old new defined → new ≡ old
query_as_before (Raised code) old new defined h = h.1
query_as_before NoMemory old new defined h = h

pub this_one : {A : Type 0} (P : A → Type 0) (xs : List A) (i : ℕ) (x : A) → x ≡ get_or xs i x → i < length xs → AllByRecursion P xs → P x
this_one P xs i x is h all = subst P (sym is) (one_of P xs i x h all)
