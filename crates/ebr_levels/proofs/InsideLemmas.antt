-- Inside a body: statements in the transaction on top, and the asks for transactions at those above.
use Rattle.std.proofs.Common.{◌≡◌, ℕ, zero, suc, ◌+◌, ◌-◌, ◌<◌, ◌≤◌, Bool, true, false, cond, List, [], ◌∷◌, ◌++◌, Option, Some, None, get_or, length, refl, sym, ap, subst, ◌∙◌, append-nil, append_assoc, arith}
use Rattle.std.specs.Prelude.{All, ◌==◌, nat_le, if◌then◌else◌}
use Rattle.std.proofs.lemmas.Bool.{eq-eqb, eqb-true, leb-false}
use Rattle.std.proofs.lemmas.List.{map-append}
use Rattle.std.proofs.lemmas.List.Elements.{filter-append}
use Rattle.ebr_base.specs.declared.code.Code.TheVariants.{Ebr}
use Rattle.ebr_base.specs.declared.row.Change.{Change}
use Rattle.ebr_base.specs.declared.row.TxId.{TxId}
use Rattle.ebr_base.specs.declared.table.TableDef.{TableDef}
use Rattle.ebr_tx.specs.declared.savepoints.Savepoint.{Savepoint}
use Rattle.ebr_tx.specs.Data.{Transaction, Data, IsLive, is_of_session, names_of, stack_of, named_at, not_begun, own}
use Rattle.ebr_tx.specs.Calls.{HasLevel, HasSession, IsKnown, ended, kept_to, with_savepoint, savepoint_at, savepoint_named, levels, max_levels, with_commit, after_back_to, back_to_savepoint, after_push, after_rollback, after_savepoint, after_settle, push_refusal, top}
use Rattle.ebr_tx.proofs.OtherRows.{same_bool}
use Rattle.ebr_tx.proofs.Stays.{stacks-stay}
use Rattle.ebr_seats.specs.Seats.{stack_to}
use Rattle.ebr_seats.proofs.Live.{has_level, own_live}
use Rattle.ebr_seats.proofs.Others.{Touches, rolled_back, settled, saved, went_back}
use Rattle.ebr_seats.proofs.Stacks.{levels_are, stack_length, top_is}
use Rattle.ebr_levels.specs.Keeps.{AreEarly, IsNoHigher, IsOutside, Spares, UnderChange}
use Rattle.ebr_levels.specs.Levels.{Inside, IsTop, Leaves, opened, above}
use Rattle.ebr_levels.proofs.OthersLemmas.{outside_differs}
use Rattle.ebr_levels.proofs.EarlyLemmas.{early_pushed, early_rolled_back, early_saved, early_settled, early_went_back, own_pushed}
use Rattle.ebr_levels.proofs.KeepsLemmas.{keeps_keeps, keeps_same, keeps_spared}
use Rattle.ebr_levels.proofs.LeavesLemmas.{known_on}
use Rattle.ebr_levels.proofs.TopLemmas.{top_live}

plus_zero : (p : ℕ) → p + 0 ≡ p
plus_zero p = omega arith

pub plus_one : (p n : ℕ) → p + suc n ≡ suc (p + n)
plus_one p n = omega arith

pub above_none : (t : TxId) → above t 0 ≡ t
above_none t = ap (named_at t.session) (plus_zero t.depth)

pub inside_begins : (d : Data) (t : TxId) (under : UnderChange) → IsTop d t → Inside d t under 0 d
inside_begins d t under h = record { first = h; names = sym (append-nil (names_of d.live)); keeps = keeps_same d t under }

pub inside_equal : (a d d' : Data) (t : TxId) (under : UnderChange) (n : ℕ) → d' ≡ d → Inside a t under n d → Inside a t under n d'
inside_equal a d d' t under n is i = subst (Inside a t under n) (sym is) i

-- ---- the stack

module _ (t : TxId) where
  all_of_session : (n : ℕ) → stack_of (opened t n) t.session ≡ opened t n
  all_of_session zero = refl
  all_of_session (suc n) =
      filter-append (is_of_session t.session) (opened t n) (above t (suc n) ∷ [])
      ∙ ap (λ b. stack_of (opened t n) t.session ++ cond b (above t (suc n) ∷ []) []) (eq-eqb t.session.0 t.session.0 refl)
      ∙ ap (λ xs. xs ++ above t (suc n) ∷ []) (all_of_session n)

  stack_joined : (n : ℕ) → stack_to t.session t.depth ++ opened t n ≡ stack_to t.session (t.depth + n)
  stack_joined zero = append-nil (stack_to t.session t.depth) ∙ ap (stack_to t.session) (sym (plus_zero t.depth))
  stack_joined (suc n) =
      sym (append_assoc (stack_to t.session t.depth) (opened t n) (above t (suc n) ∷ []))
      ∙ ap (λ xs. xs ++ above t (suc n) ∷ []) (stack_joined n)
      ∙ ap (λ m. stack_to t.session (t.depth + n) ++ named_at t.session m ∷ []) (plus_one t.depth n)
      ∙ ap (stack_to t.session) (sym (plus_one t.depth n))

module _ (a d : Data) (t : TxId) (under : UnderChange) (n : ℕ) (i : Inside a t under n d) where
  pub inside_stack : stack_of (names_of d.live) t.session ≡ stack_to t.session (t.depth + n)
  inside_stack =
      ap (λ ns. stack_of ns t.session) i.names
      ∙ filter-append (is_of_session t.session) (names_of a.live) (opened t n)
      ∙ ap (λ xs. xs ++ stack_of (opened t n) t.session) i.first.stack
      ∙ ap (λ ys. stack_to t.session t.depth ++ ys) (all_of_session t n)
      ∙ stack_joined t n

  -- the transaction on top may run statements
  pub inside_top : IsTop d (above t n)
  inside_top = record { stack = inside_stack; early = i.keeps.early i.first.early }

  pub inside_live : IsLive d (above t n)
  inside_live = top_live d (above t n) inside_top

  pub inside_top_is : top d t.session ≡ above t n
  inside_top_is = top_is d t.session (t.depth + n) inside_stack

  pub inside_levels : levels d t.session ≡ t.depth + n
  inside_levels = levels_are d t.session (t.depth + n) inside_stack

  -- no autonomous transaction is open where none was opened
  pub inside_at_own : (levels d t.session == t.depth) ≡ (n == 0)
  inside_at_own =
      ap (λ m. m == t.depth) inside_levels
      ∙ same_bool ((t.depth + n) == t.depth) (n == 0)
      (λ e. eq-eqb n 0 (none (eqb-true (t.depth + n) t.depth e)))
      (λ e. eq-eqb (t.depth + n) t.depth (all (eqb-true n 0 e)))
    where
      none : t.depth + n ≡ t.depth → n ≡ 0
      none e = omega (arith, e)

      all : n ≡ 0 → t.depth + n ≡ t.depth
      all e = omega (arith, e)

  pub inside_open : levels d t.session - t.depth ≡ n
  inside_open = let e : levels d t.session ≡ t.depth + n = inside_levels in omega (arith, e)

  pub inside_session : HasSession d t.session
  inside_session = own_live d t.session (t.depth + n) inside_stack

  pub inside_level : 0 < n → HasLevel d t.session
  inside_level some = has_level d t.session (t.depth + n) inside_stack (omega (arith, some))

pub inside_known : (a d : Data) (t : TxId) (under : UnderChange) (n : ℕ) (tables : List TableDef) → Inside a t under n d → All (IsKnown a) tables → All (IsKnown d) tables
inside_known a d t under n tables i all k e h = known_on a d (get_or tables k e) i.keeps.tables (all k e h)

-- ---- what a step at a transaction above leaves

outside_above : (t : TxId) (n : ℕ) (u : TxId) → 0 < n → IsNoHigher t u → IsOutside (above t n) u
outside_above t n u some low e = let h : u.depth ≤ t.depth = low e in omega (arith, h, some)

inside_spared : (a d d' : Data) (t : TxId) (under : UnderChange) (n : ℕ) → Inside a t under n d → names_of d'.live ≡ names_of d.live → Spares d t d' → Inside a t under n d'
inside_spared a d d' t under n i names s = record { first = i.first; names = names ∙ i.names; keeps = keeps_spared a d d' t under i.keeps s }

module _ (d d' : Data) (t : TxId) (n : ℕ) (some : 0 < n) where
  spares_left : (under : UnderChange) → Leaves d (above t n) under d' → Spares d t d'
  spares_left under l = record {
    tables = l.keeps.tables;
    committed = l.keeps.committed;
    commits = l.keeps.commits;
    owns = λ u low. l.keeps.others u (outside_above t n u some low);
    locks = λ u low. l.keeps.other_locks u (outside_above t n u some low);
    early = l.keeps.early;
  }

  spares_touched : Touches d d' (above t n) → d'.tables ≡ d.tables → (more : List (List Change)) → d'.commits ≡ d.commits ++ more → (AreEarly d → AreEarly d') → Spares d t d'
  spares_touched o tables more commits early = record {
    tables = tables;
    committed = more;
    commits = commits;
    owns = λ u low. o.owns u (outside_differs (above t n) u (outside_above t n u some low));
    locks = λ u low. o.locks u (outside_differs (above t n) u (outside_above t n u some low));
    early = early;
  }

-- a statement in the transaction on top, whichever that is
pub inside_statement : (a d d' : Data) (t : TxId) (under : UnderChange) (n : ℕ) → Inside a t under n d → Leaves d (above t n) under d' → Inside a t under n d'
inside_statement a d d' t under zero i l =
    let mine : Leaves d t under d' = subst (λ u. Leaves d u under d') (above_none t) l in
    record { first = i.first; names = mine.names ∙ i.names; keeps = keeps_keeps a d d' t under i.keeps mine.keeps }
inside_statement a d d' t under (suc n) i l = inside_spared a d d' t under (suc n) i l.names (spares_left d d' t (suc n) (omega arith) under l)

-- ---- steps at a transaction above

more_commits : (commits : List (List Change)) (cs : List Change) → (more : List (List Change)) × (with_commit commits cs ≡ commits ++ more)
more_commits commits [] = ([], sym (append-nil commits))
more_commits commits (c ∷ cs) = ((c ∷ cs) ∷ [], refl)

module _ (a d d' : Data) (t : TxId) (under : UnderChange) (n : ℕ) (some : 0 < n) (i : Inside a t under n d) where
  abbrev u : TxId
  u = above t n

  stays : names_of d'.live ≡ names_of d.live → Touches d d' u → d'.tables ≡ d.tables → d'.commits ≡ d.commits → (AreEarly d → AreEarly d') → Inside a t under n d'
  stays names o tables commits early =
      inside_spared a d d' t under n i names (spares_touched d d' t n some o tables [] (commits ∙ sym (append-nil d.commits)) early)

  pub after_rolled_back : d' ≡ after_rollback d u → Inside a t under n d'
  after_rolled_back is =
      let names : names_of d'.live ≡ names_of d.live = stacks-stay u ended (λ x. refl) d.live d'.live (ap (λ (e : Data). e.live) is) in
      stays names (rolled_back d d' u names is) (ap (λ (e : Data). e.tables) is) (ap (λ (e : Data). e.commits) is) (early_rolled_back d d' u is)

  pub after_saved : (name : List ℕ) → d' ≡ after_savepoint d u name → Inside a t under n d'
  after_saved name is =
      let names : names_of d'.live ≡ names_of d.live = stacks-stay u (with_savepoint (savepoint_at d u name)) (λ x. refl) d.live d'.live (ap (λ (e : Data). e.live) is) in
      stays names (saved d d' u names name is) (ap (λ (e : Data). e.tables) is) (ap (λ (e : Data). e.commits) is) (early_saved d d' u name is)

  pub after_went_back : (name : List ℕ) → d' ≡ after_back_to d u name → Inside a t under n d'
  after_went_back name is = stays names (went_back d d' u names name is) (by_tables (savepoint_named d u name) is) (by_commits (savepoint_named d u name) is) (early_went_back d d' u name is)
    where
      by_names : (o : Option Savepoint) → d' ≡ back_to_savepoint d u name o → names_of d'.live ≡ names_of d.live
      by_names None is = ap (λ (e : Data). names_of e.live) is
      by_names (Some s) is = stacks-stay u (kept_to name s.changes) (λ x. refl) d.live d'.live (ap (λ (e : Data). e.live) is)

      by_tables : (o : Option Savepoint) → d' ≡ back_to_savepoint d u name o → d'.tables ≡ d.tables
      by_tables None is = ap (λ (e : Data). e.tables) is
      by_tables (Some s) is = ap (λ (e : Data). e.tables) is

      by_commits : (o : Option Savepoint) → d' ≡ back_to_savepoint d u name o → d'.commits ≡ d.commits
      by_commits None is = ap (λ (e : Data). e.commits) is
      by_commits (Some s) is = ap (λ (e : Data). e.commits) is

      names : names_of d'.live ≡ names_of d.live
      names = by_names (savepoint_named d u name) is

  pub after_settled : d' ≡ after_settle d u → Inside a t under n d'
  after_settled is =
      let names : names_of d'.live ≡ names_of d.live = stacks-stay u ended (λ x. refl) d.live d'.live (ap (λ (e : Data). e.live) is) in
      let more : (cs : List (List Change)) × (with_commit d.commits (own d u).changes ≡ d.commits ++ cs) = more_commits d.commits (own d u).changes in
      inside_spared a d d' t under n i names
      (spares_touched d d' t n some (settled d d' u names is) (ap (λ (e : Data). e.tables) is) more.0 (ap (λ (e : Data). e.commits) is ∙ more.1) (early_settled d d' u is))

-- ---- one more

few : (n : ℕ) → (if nat_le max_levels n then Some (Ebr 14) else None) ≡ None → n < max_levels
few n e = by (nat_le max_levels n) refl e
  where
    some_none : Some (Ebr 14) ≡ None → ⊥
    some_none e = cc

    by : (b : Bool) → nat_le max_levels n ≡ b → (if b then Some (Ebr 14) else None) ≡ None → n < max_levels
    by true is e = absurd (some_none e)
    by false is e = leb-false max_levels n is

module _ (a d : Data) (t : TxId) (under : UnderChange) (n : ℕ) (i : Inside a t under n d) where
  -- where nothing refuses one more, there are fewer than 50
  pub few_above : push_refusal d t.session ≡ None → t.depth + n < 50
  few_above none = subst (λ m. m < max_levels) (inside_levels a d t under n i) (few (levels d t.session) none)

  opened_now : Inside a t under (suc n) (after_push d t.session)
  opened_now = record {
    first = i.first;
    names = map-append (λ (x : Transaction). x.id) d.live (not_begun (named_at t.session (length (stack_of (names_of d.live) t.session))) ∷ [])
        ∙ ap (λ m. names_of d.live ++ named_at t.session m ∷ []) height
        ∙ ap (λ ns. ns ++ above t (suc n) ∷ []) i.names
        ∙ append_assoc (names_of a.live) (opened t n) (above t (suc n) ∷ []);
    keeps = keeps_spared a d (after_push d t.session) t under i.keeps (record {
      tables = refl;
      committed = [];
      commits = sym (append-nil d.commits);
      owns = λ u low. own_pushed d t.session u;
      locks = λ u low. refl;
      early = early_pushed d (after_push d t.session) t.session refl;
    });
  }
    where
      height : length (stack_of (names_of d.live) t.session) ≡ t.depth + suc n
      height = let e : length (stack_of (names_of d.live) t.session) ≡ (t.depth + n) + 1 = ap (λ (xs : List TxId). length xs) (inside_stack a d t under n i) ∙ stack_length t.session (t.depth + n) in omega (arith, e)

  pub after_opened : (d' : Data) → d' ≡ after_push d t.session → Inside a t under (n + 1) d'
  after_opened d' is = subst (Inside a t under (n + 1)) (sym is) (subst (λ m. Inside a t under m (after_push d t.session)) (more n) opened_now)
    where
      more : (n : ℕ) → suc n ≡ n + 1
      more n = omega arith
