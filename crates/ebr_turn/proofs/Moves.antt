-- Each move keeps the rule.
use Rattle.std.proofs.Common.{◌≡◌, ◌≢◌, ◌⊎◌, ℕ, zero, suc, ◌+◌, ◌%◌, ◌^◌, ◌<◌, ◌≤◌, List, [], ◌∷◌, ◌++◌, length, get_or, set, sym, refl, ap, ◌∙◌, subst, ⊎_elim, inl, inr, arith, Option, Some, None, Bool, true, false, true≢false, length-set, length-append}
use Rattle.std.proofs.lemmas.List.{append-nil, append_assoc}
use mathlib.Core.Logic.{dite}
use mathlib.Core.Option.{none, some, some-injective, some-ne-none}
use mathlib.Core.Option as maybe
use native.Mathlib.Decide.{ℕ_discrete}
use lib.ListN.{get_elem?}
use lib.Seq.{set-get_or}
use Rattle.atomic_table.specs.Table.{State, Me, Step, step, rest, keeps, takes, gives, Allows, Splits, Joins, opening, Final, Seen}
use Rattle.atomic_table.proofs.Lists.{at_set, set_here, set_else, set_again, at_longer, at_last}
use Rattle.ebr_turn.specs.declared.view.View.{View}
use Rattle.ebr_turn.specs.declared.view.Stage.{Stage}
use Rattle.ebr_turn.specs.declared.view.Stage.TheVariants.{Idle, Waits, Holds}
use Rattle.ebr_turn.specs.Chairs.{In, pick_if, items, list_of, own_list, lists, opener, done, parted, fresh, joined, Closes, Leaves, Left}
use Rattle.ebr_turn.specs.inside.Rule.{Where, nowhere, sits, kept_by, Hold, free, by, Now, gone, StageOk, Fits, Found, Slot, Sits, waiting, holding, drew, looked, advanced, carried}
use Rattle.ebr_turn.proofs.Items.{total_set, total_snoc, total_two, here_set, snoc_at, in_left, in_right, in_or, items_here, items_else, in_own, own_in, list_of_is}

abbrev pick : {A P : Type 0} → Dec P → A → A → A
pick (yes _) a b = a
pick (no _) a b = b

pick_yes : {A P : Type 0} (d : Dec P) (a b : A) → P → pick d a b ≡ a
pick_yes (yes _) a b p = refl
pick_yes (no n) a b p = absurd (n p)

pick_no : {A P : Type 0} (d : Dec P) (a b : A) → (P → ⊥) → pick d a b ≡ b
pick_no (yes p) a b n = absurd (n p)
pick_no (no _) a b n = refl

module _ {A : Type 0} where
  put : (ℕ → A) → ℕ → A → ℕ → A
  put f i c j = pick (ℕ_discrete j i) c (f j)

  put_here : (f : ℕ → A) (i : ℕ) (c : A) (j : ℕ) → j ≡ i → put f i c j ≡ c
  unfolding put
  put_here f i c j e = pick_yes (ℕ_discrete j i) c (f j) e

  put_else : (f : ℕ → A) (i : ℕ) (c : A) (j : ℕ) → j ≢ i → put f i c j ≡ f j
  unfolding put
  put_else f i c j ne = pick_no (ℕ_discrete j i) c (f j) ne

differ : (a b : ℕ) → a ≡ b → a < b → ⊥
differ a b e h = omega arith

abbrev number_or : ℕ → Option ℕ → ℕ
number_or d None = d
number_or d (Some n) = n

abbrev number_kind : Option ℕ → ℕ
number_kind None = 0
number_kind (Some n) = 1

same_number : (o : Option ℕ) (a b : ℕ) → o ≡ Some a → o ≡ Some b → a ≡ b
same_number o a b p q = ap (number_or 0) (sym p ∙ q)

-- what tells the cases of a sum apart
abbrev place_kind : Where → ℕ
place_kind nowhere = 0
place_kind (sits j) = 1
place_kind (kept_by j) = 2

abbrev place_seat : Where → ℕ
place_seat nowhere = 0
place_seat (sits j) = j
place_seat (kept_by j) = j

abbrev hold_kind : Hold → ℕ
hold_kind free = 0
hold_kind (by j) = 1

abbrev hold_seat : Hold → ℕ
hold_seat free = 0
hold_seat (by j) = j

-- a number whose list the seat b had has it with the seat a
abbrev moved : ℕ → ℕ → Where → Where
moved b a nowhere = nowhere
moved b a (sits j) = pick (ℕ_discrete j b) (kept_by a) (sits j)
moved b a (kept_by j) = pick (ℕ_discrete j b) (kept_by a) (kept_by j)

sits_moved : (b a j : ℕ) (p : Where) → p ≡ sits j → j ≡ b → moved b a p ≡ kept_by a
sits_moved b a j p is e = ap (moved b a) is ∙ pick_yes (ℕ_discrete j b) (kept_by a) (sits j) e

kept_moved : (b a j : ℕ) (p : Where) → p ≡ kept_by j → j ≡ b → moved b a p ≡ kept_by a
kept_moved b a j p is e = ap (moved b a) is ∙ pick_yes (ℕ_discrete j b) (kept_by a) (kept_by j) e

sits_stays : (b a j : ℕ) (p : Where) → p ≡ sits j → j ≢ b → moved b a p ≡ sits j
sits_stays b a j p is ne = ap (moved b a) is ∙ pick_no (ℕ_discrete j b) (kept_by a) (sits j) ne

kept_stays : (b a j : ℕ) (p : Where) → p ≡ kept_by j → j ≢ b → moved b a p ≡ kept_by j
kept_stays b a j p is ne = ap (moved b a) is ∙ pick_no (ℕ_discrete j b) (kept_by a) (kept_by j) ne

module _ {I : Type 0} where
  abbrev stage_kind : Stage I → ℕ
  stage_kind Idle = 0
  stage_kind (Waits t) = 1
  stage_kind (Holds met) = 2

  abbrev stage_ticket : Stage I → ℕ
  stage_ticket Idle = 0
  stage_ticket (Waits t) = t
  stage_ticket (Holds met) = 0

  abbrev stage_met : Stage I → List (ℕ × I)
  stage_met Idle = []
  stage_met (Waits t) = []
  stage_met (Holds met) = met

  idle_not_holds : (s : Stage I) (met : List (ℕ × I)) → s ≡ Idle → s ≡ Holds met → ⊥
  idle_not_holds s met a b = differ 0 2 (ap stage_kind (sym a ∙ b)) (omega arith)

  waits_not_holds : (s : Stage I) (t : ℕ) (met : List (ℕ × I)) → s ≡ Waits t → s ≡ Holds met → ⊥
  waits_not_holds s t met a b = differ 1 2 (ap stage_kind (sym a ∙ b)) (omega arith)

  each_set : (base : List (ℕ × I)) (now : Now I) (views : List (View I)) (id : ℕ) (w : View I) → ((j : ℕ) (u : View I) → j ≢ id → get_elem? views j ≡ some u → Fits base now j u) → Fits base now id w
      → (j : ℕ) (u : View I) → get_elem? (set views id w) j ≡ some u → Fits base now j u
  each_set base now views id w others mine j u e =
      ⊎_elim
      (λ (x : (j ≡ id) × (w ≡ u)). subst (λ (y : ℕ × View I). Fits base now y.0 y.1) (λ i. (sym x.0 i, x.1 i)) mine)
      (λ (x : (j ≢ id) × (get_elem? views j ≡ some u)). others j u x.0 x.1)
      (at_set views id j w u e)

  same_view : (views : List (View I)) (i j : ℕ) (v u : View I) → get_elem? views i ≡ some v → get_elem? views j ≡ some u → j ≡ i → v ≡ u
  same_view views i j v u a b e = some-injective v u (sym a ∙ (ap (λ (k : ℕ). get_elem? views k) (sym e) ∙ b))

  at_put : (views : List (View I)) (id j : ℕ) (v w : View I) → get_elem? views id ≡ some v → j ≡ id → get_elem? (set views id w) j ≡ some w
  at_put views id j v w at e = ap (λ (k : ℕ). get_elem? (set views id w) k) e ∙ here_set views id v w at

  -- a seat with the same number and lists takes the place of another
  found_set : (base : List (ℕ × I)) (now now' : Now I) (views : List (View I)) (id : ℕ) (v w : View I) → get_elem? views id ≡ some v → w.number ≡ v.number → w.kept ≡ v.kept
      → (n : ℕ) (p : Where) → (p ≡ nowhere → items n now.log ≡ [] → items n now'.log ≡ []) → Found base now views n p → Found base now' (set views id w) n p
  found_set base now now' views id v w at num kept n nowhere still f = still refl f
  found_set base now now' views id v w at num kept n (sits j) still f = dite (ℕ_discrete j id)
      (λ e. (w, at_put views id j v w at e, num ∙ (ap (λ (u : View I). u.number) (same_view views id j v f.0 at f.1 e) ∙ f.2)))
      (λ ne. (f.0, set_else views id j w ne ∙ f.1, f.2))
  found_set base now now' views id v w at num kept n (kept_by j) still f = dite (ℕ_discrete j id)
      (λ e. (w, f.1, at_put views id j v w at e, subst (In (n, f.1)) (sym (kept ∙ ap (λ (u : View I). u.kept) (same_view views id j v f.0 at f.2 e))) f.3))
      (λ ne. (f.0, f.1, set_else views id j w ne ∙ f.2, f.3))

  found_longer : (base : List (ℕ × I)) (now now' : Now I) (views : List (View I)) (w : View I) (n : ℕ) (p : Where) → items n now'.log ≡ items n now.log → Found base now views n p → Found base now' (views ++ w ∷ []) n p
  found_longer base now now' views w n nowhere same f = same ∙ f
  found_longer base now now' views w n (sits j) same f = (f.0, at_longer views (w ∷ []) j f.0 f.1, f.2)
  found_longer base now now' views w n (kept_by j) same f = (f.0, f.1, at_longer views (w ∷ []) j f.0 f.2, f.3)

  -- the same, where a fact of the others is given at their distance from a third seat
  at_joined : (base : List (ℕ × I)) (now : Now I) (views : List (View I)) (id j : ℕ) (w : View I) {other : ℕ} → ((i : ℕ) (u : View I) → i ≢ id → get_elem? views i ≡ some u → i ≢ other → Fits base now i u) → Fits base now id w
      → (u : View I) → get_elem? (set views id w) j ≡ some u → j ≢ other → Fits base now j u
  at_joined base now views id j w others mine u e ne =
      ⊎_elim
      (λ (x : (j ≡ id) × (w ≡ u)). subst (λ (y : ℕ × View I). Fits base now y.0 y.1) (λ i. (sym x.0 i, x.1 i)) mine)
      (λ (x : (j ≢ id) × (get_elem? views j ≡ some u)). others j u x.0 x.1 ne)
      (at_set views id j w u e)

  abbrev entry : ℕ → List I → ℕ × List I
  entry n xs = (n, xs)

  found_joined : (base : List (ℕ × I)) (now now' : Now I) (views : List (View I)) (id other : ℕ) (v w : View I) → get_elem? views id ≡ some v → get_elem? views other ≡ some w → other ≢ id
      → (n : ℕ) (p : Where) → items n now'.log ≡ items n now.log → Found base now views n p → Found base now' (set (set views id (joined v w)) other gone) n (moved other id p)
  found_joined base now now' views id other v w at there apart n nowhere same f = same ∙ f
  found_joined base now now' views id other v w at there apart n (sits j) same f = let u : View I = joined v w in let vs = set views id u in
      let at' : get_elem? (set vs other gone) id ≡ some u = set_else vs other id gone (λ e. apart (sym e)) ∙ here_set views id v u at in
      dite (ℕ_discrete j other)
      (λ e. subst (Found base now' (set vs other gone) n) (sym (sits_moved other id j (sits j) refl e))
      (u, w.mine, at', in_right (n, w.mine) v.kept (lists w) (in_left (n, w.mine) (own_list w.number w.mine) w.kept (own_in w.number w.mine n (ap (λ (z : View I). z.number) (same_view views other j w f.0 there f.1 e) ∙ f.2)))))
      (λ ne. subst (Found base now' (set vs other gone) n) (sym (sits_stays other id j (sits j) refl ne))
      (dite (ℕ_discrete j id)
      (λ e. (u, ap (λ (k : ℕ). get_elem? (set vs other gone) k) e ∙ at', ap (λ (z : View I). z.number) (same_view views id j v f.0 at f.1 e) ∙ f.2))
      (λ ni. (f.0, set_else vs other j gone ne ∙ (set_else views id j u ni ∙ f.1), f.2))))
  found_joined base now now' views id other v w at there apart n (kept_by j) same f = let u : View I = joined v w in let vs = set views id u in
      let at' : get_elem? (set vs other gone) id ≡ some u = set_else vs other id gone (λ e. apart (sym e)) ∙ here_set views id v u at in
      dite (ℕ_discrete j other)
      (λ e. subst (Found base now' (set vs other gone) n) (sym (kept_moved other id j (kept_by j) refl e))
      (u, f.1, at', in_right (n, f.1) v.kept (lists w) (in_right (n, f.1) (own_list w.number w.mine) w.kept (subst (In (n, f.1)) (sym (ap (λ (z : View I). z.kept) (same_view views other j w f.0 there f.2 e))) f.3))))
      (λ ne. subst (Found base now' (set vs other gone) n) (sym (kept_stays other id j (kept_by j) refl ne))
      (dite (ℕ_discrete j id)
      (λ e. (u, f.1, ap (λ (k : ℕ). get_elem? (set vs other gone) k) e ∙ at', in_left (n, f.1) v.kept (lists w) (subst (In (n, f.1)) (sym (ap (λ (z : View I). z.kept) (same_view views id j v f.0 at f.2 e))) f.3)))
      (λ ni. (f.0, f.1, set_else vs other j gone ne ∙ (set_else views id j u ni ∙ f.2), f.3))))

  stage_drawn : (base : List (ℕ × I)) (now : Now I) (n id j : ℕ) → n ≡ now.ticket → (st : Stage I) → StageOk base now j st → StageOk base (record now { ticket = n + 1; owner = put now.owner n id }) j st
  stage_drawn base now n id j is Idle h = tt
  stage_drawn base now n id j is (Waits t) h = let a = h.0 in let b = h.1 in (a, omega arith, put_else now.owner n id t (λ e. omega arith) ∙ h.2)
  stage_drawn base now n id j is (Holds met) h = let b = h.2 in (h.0, put_else now.owner n id now.serving (λ e. omega arith) ∙ h.1, omega arith, h.3)

  -- the stages speak of the log, the tickets and the holder alone
  stage_same : (base : List (ℕ × I)) (now now' : Now I) → now'.log ≡ now.log → now'.ticket ≡ now.ticket → now'.serving ≡ now.serving → now'.owner ≡ now.owner → now'.hold ≡ now.hold
      → (j : ℕ) (st : Stage I) → StageOk base now j st → StageOk base now' j st
  stage_same base now now' l t s o h j Idle k = tt
  stage_same base now now' l t s o h j (Waits n) k = subst (λ (z : ℕ × ℕ × (ℕ → ℕ)). (z.1 ≤ n) × (n < z.0) × (z.2 n ≡ j)) (λ i. (sym t i, sym s i, sym o i)) k
  stage_same base now now' l t s o h j (Holds met) k = subst (λ (z : List (ℕ × I) × ℕ × ℕ × (ℕ → ℕ) × Hold). (z.4 ≡ by j) × (z.3 z.2 ≡ j) × (z.2 < z.1) × (met ≡ base ++ z.0)) (λ i. (sym l i, sym t i, sym s i, sym o i, sym h i)) k

  -- no other seat holds while one is taking the slot
  stage_taken : (base : List (ℕ × I)) (now : Now I) (id j : ℕ) → now.hold ≡ free → (st : Stage I) → StageOk base now j st → StageOk base (record now { hold = by id }) j st
  stage_taken base now id j is Idle h = tt
  stage_taken base now id j is (Waits t) h = h
  stage_taken base now id j is (Holds met) h = absurd (differ 0 1 (ap hold_kind (sym is ∙ h.0)) (omega arith))

  stage_left : (base : List (ℕ × I)) (now : Now I) (log : List (ℕ × I)) (n id j : ℕ) → n ≡ now.serving → now.owner now.serving ≡ id → now.hold ≡ by id → j ≢ id → (st : Stage I) → StageOk base now j st
      → StageOk base (record now { log = log; serving = n + 1; hold = free }) j st
  stage_left base now log n id j is own held other Idle h = tt
  stage_left base now log n id j is own held other (Waits t) h = let a = h.0 in
      let apart : t ≢ now.serving = λ e. other (sym h.2 ∙ (ap now.owner e ∙ own)) in (omega arith, h.1, h.2)
  stage_left base now log n id j is own held other (Holds met) h = absurd (other (ap hold_seat (sym h.0 ∙ held)))

module _ {T I : Type 0} (booked : T → List (ℕ × I)) where
  abbrev St : Type 0
  St = State (Option T) (View I)

  abbrev Sat : Type 0
  Sat = Me (Option T) (View I)

  abbrev Homes : Type 0
  Homes = List (maybe.Option (Option T))

  abbrev share : View I → ℕ
  share v = v.share

  abbrev left : View I → ℕ
  left v = v.left

  slot_set : (base log : List (ℕ × I)) (homes : Homes) (views : List (View I)) (id : ℕ) (v w : View I) → get_elem? views id ≡ some v → ((met : List (ℕ × I)) → v.stage ≡ Holds met → ⊥)
      → (h : Hold) → Slot booked base log homes views h → Slot booked base log homes (set views id w) h
  slot_set base log homes views id v w at not free s = s
  slot_set base log homes views id v w at not (by j) s = (s.0, s.1, set_else views id j w (λ e. not s.1 (ap (λ (u : View I). u.stage) (same_view views id j v s.0 at s.2 e) ∙ s.3)) ∙ s.2, s.3)

  slot_longer : (base log : List (ℕ × I)) (homes : Homes) (views : List (View I)) (w : View I) (h : Hold) → Slot booked base log homes views h → Slot booked base log homes (views ++ w ∷ []) h
  slot_longer base log homes views w free s = s
  slot_longer base log homes views w (by j) s = (s.0, s.1, at_longer views (w ∷ []) j s.0 s.2, s.3)

  pub starts : (value : T) (seats : ℕ) → 0 < seats → Sits booked (booked value) seats (opening (0 ∷ 0 ∷ []) (Some value ∷ []) (opener (booked value) seats))
  starts value seats some_seat = record {
    now = now;
    words_are = refl;
    one = refl;
    counts = refl;
    order = omega arith;
    slot = (value, refl, sym (append-nil (booked value)));
    each = one_seat;
    found = λ n. refl;
    listed = λ n. inl refl;
    shares = omega arith;
    room = omega arith;
  }
    where
      now : Now I
      now = record { log = []; ticket = 0; serving = 0; owner = λ _. 0; hold = free; places = λ _. nowhere; giver = 0; given = [] }

      one_seat : (j : ℕ) (v : View I) → get_elem? (opener (booked value) seats ∷ []) j ≡ some v → Fits (booked value) now j v
      one_seat zero v e = subst (Fits (booked value) now 0) (some-injective _ _ e) record {
        based = λ _. refl;
        stage = tt;
        own = λ n h. absurd (differ 0 1 (ap number_kind h) (omega arith));
        kept = λ n xs h. absurd h;
        gives = λ _. (refl, refl);
        live = λ z. absurd (omega arith);
      }
      one_seat (suc j) v e = absurd (some-ne-none v (sym e))

  pub draws : (base : List (ℕ × I)) (seats slots id : ℕ) (me : Sat) → me.0.stage ≡ Idle → 0 < me.0.left → 0 < me.0.share → Allows (Sits booked base seats) slots id me 0 (λ n. (n + 1) % 2 ^ 64) (drew booked (step slots 0 1 0 none) me)
  draws base seats slots id me idle more live s r deep at small =
      let v : View I = me.0 in
      let n : ℕ = get_or s.words 0 0 in
      let is : n ≡ r.now.ticket = ap (λ (ws : List ℕ). get_or ws 0 0) r.words_are in
      let w : View I = waiting v n in
      let now' : Now I = record r.now { ticket = n + 1; owner = put r.now.owner n id } in
      let mine = r.each id v at in
      let order = r.order in
      let room = r.room in
      let room' = total_set left s.views id v w at in
      let wraps : (n + 1) % 2 ^ 64 ≡ n + 1 = omega arith in (
        w,
        keeps,
        tt,
        record {
          now = now';
          words_are = λ i. set (r.words_are i) 0 (wraps i);
          one = r.one;
          counts = r.counts;
          order = omega arith;
          slot = slot_set base r.now.log s.homes s.views id v w at (λ met h. idle_not_holds v.stage met idle h) r.now.hold r.slot;
          each = each_set base now' s.views id w
              (λ j u ne e. let f = r.each j u e in record { based = f.based; stage = stage_drawn base r.now n id j is u.stage f.stage; own = f.own; kept = f.kept; gives = f.gives; live = f.live })
              record { based = mine.based; stage = (omega arith, omega arith, put_here r.now.owner n id n refl); own = mine.own; kept = mine.kept; gives = mine.gives; live = λ z. absurd (omega arith) };
          found = λ m. found_set base r.now now' s.views id v w at refl refl m (r.now.places m) (λ _ h. h) (r.found m);
          listed = r.listed;
          shares = let t = total_set share s.views id v w at in let u = r.shares in omega arith;
          room = omega arith;
        },
        refl,
      )

  -- where the seat's own ticket is served, the slot is at home
  is_home : (base : List (ℕ × I)) (now : Now I) (homes : Homes) (views : List (View I)) (id : ℕ) (v : View I) (t : ℕ) → get_elem? views id ≡ some v → v.stage ≡ Waits t → now.owner now.serving ≡ id
      → ((j : ℕ) (u : View I) → get_elem? views j ≡ some u → Fits base now j u) → (h : Hold) → Slot booked base now.log homes views h → (h ≡ free) × ((y : T) × (get_elem? homes 0 ≡ some (some (Some y))) × (booked y ≡ base ++ now.log))
  is_home base now homes views id v t at waits own each free s = (refl, s)
  is_home base now homes views id v t at waits own each (by j) s =
      let f : StageOk base now j (Holds s.1) = subst (StageOk base now j) s.3 (each j s.0 s.2).stage in
      let same : j ≡ id = sym f.1 ∙ own in
      absurd (waits_not_holds v.stage t s.1 waits (ap (λ (u : View I). u.stage) (same_view views id j v s.0 at s.2 same) ∙ s.3))

  unchanged : (base : List (ℕ × I)) (seats : ℕ) (s : St) (i id : ℕ) (v : View I) → get_elem? s.views id ≡ some v → Sits booked base seats s
      → Sits booked base seats record { words = set s.words i (get_or s.words i 0); homes = s.homes; views = set s.views id v }
  unchanged base seats s i id v at r = subst (λ (z : List ℕ × List (View I)). Sits booked base seats record { words = z.0; homes = s.homes; views = z.1 }) (λ k. (sym (set-get_or s.words i 0) k, sym (set_again s.views id v at) k)) r

  pub looks : (base : List (ℕ × I)) (seats slots id : ℕ) (me : Sat) (t : ℕ) → me.0.stage ≡ Waits t → 0 < me.0.share → Allows (Sits booked base seats) slots id me 1 (λ n. n) (looked booked (step slots 1 0 0 none) me)
  looks base seats slots id me t waits live s r deep at small =
      let v : View I = me.0 in
      let n : ℕ = get_or s.words 1 0 in
      let is : n ≡ r.now.serving = ap (λ (ws : List ℕ). get_or ws 1 0) r.words_are in
      let mine = r.each id v at in
      let st : StageOk base r.now id (Waits t) = subst (StageOk base r.now id) waits mine.stage in
      dite (ℕ_discrete n t)
      (λ hit.
      let same : t ≡ r.now.serving = sym hit ∙ is in
      let own : r.now.owner r.now.serving ≡ id = ap r.now.owner (sym same) ∙ st.2 in
      let home = is_home base r.now s.homes s.views id v t at waits own r.each r.now.hold r.slot in
      let y : T = home.1.0 in
      let w : View I = holding v (booked y) in
      let now' : Now I = record r.now { hold = by id } in
      let before = st.1 in (
        w,
        takes 0 (Some y),
        home.1.1,
        record {
          now = now';
          words_are = set-get_or s.words 1 0 ∙ r.words_are;
          one = length-set s.homes 0 none ∙ r.one;
          counts = r.counts;
          order = r.order;
          slot = (w, booked y, here_set s.views id v w at, refl);
          each = each_set base now' s.views id w
              (λ j u ne e. let f = r.each j u e in record { based = f.based; stage = stage_taken base r.now id j home.0 u.stage f.stage; own = f.own; kept = f.kept; gives = f.gives; live = f.live })
              record { based = mine.based; stage = (refl, own, omega arith, home.1.2); own = mine.own; kept = mine.kept; gives = mine.gives; live = λ z. absurd (omega arith) };
          found = λ m. found_set base r.now now' s.views id v w at refl refl m (r.now.places m) (λ _ h. h) (r.found m);
          listed = r.listed;
          shares = let a = total_set share s.views id v w at in let b = r.shares in omega arith;
          room = let a = total_set left s.views id v w at in let b = r.room in omega arith;
        },
        λ t' again. (
          (λ _. (y, refl, (r.now.log, home.1.2 ∙ ap (λ (l : List (ℕ × I)). l ++ r.now.log) (sym (mine.based live)), λ k num. sym (mine.own k num).1))),
          λ ne. absurd (ne (hit ∙ ap stage_ticket (sym waits ∙ again))),
        ),
      ))
      (λ miss. (
        v,
        keeps,
        tt,
        unchanged base seats s 1 id v at r,
        λ t' again. ((λ e. absurd (miss (e ∙ ap stage_ticket (sym again ∙ waits)))), λ _. refl),
      ))

  advances_at : (base : List (ℕ × I)) (seats slots id : ℕ) (v : View I) (k : ℕ) (x : I) (met : List (ℕ × I)) (y : T) → v.stage ≡ Holds met → v.number ≡ Some k → booked y ≡ met ++ (k, x) ∷ [] → 0 < v.share
      → Allows (Sits booked base seats) slots id (v, (0, Some y) ∷ []) 1 (λ n. (n + 1) % 2 ^ 64) (advanced booked (step slots 1 1 0 none) (v, (0, Some y) ∷ []))
  advances_at base seats slots id v k x met y holds num is_booked live s r deep at small =
      let n : ℕ = get_or s.words 1 0 in
      let is : n ≡ r.now.serving = ap (λ (ws : List ℕ). get_or ws 1 0) r.words_are in
      let mine = r.each id v at in
      let st : StageOk base r.now id (Holds met) = subst (StageOk base r.now id) holds mine.stage in
      let w : View I = done v x in
      let log : List (ℕ × I) = r.now.log ++ (k, x) ∷ [] in
      let now' : Now I = record r.now { log = log; serving = n + 1; hold = free } in
      let here : r.now.places k ≡ sits id = (mine.own k num).0 in
      let before = st.2 in
      let room = r.room in
      let one = r.one in
      let counts = r.counts in
      let longer = length-append r.now.log ((k, x) ∷ []) in
      let wraps : (n + 1) % 2 ^ 64 ≡ n + 1 = omega arith in (
        w,
        gives,
        tt,
        record {
          now = now';
          words_are = λ i. set (r.words_are i) 1 (wraps i);
          one = length-set s.homes 0 (some (Some y)) ∙ r.one;
          counts = omega arith;
          order = omega arith;
          slot = (y, set_here s.homes 0 (some (Some y)) (omega arith), is_booked ∙ (ap (λ (l : List (ℕ × I)). l ++ (k, x) ∷ []) st.3 ∙ append_assoc base r.now.log ((k, x) ∷ [])));
          each = each_set base now' s.views id w
              (λ j u ne e. let f = r.each j u e in record {
                based = f.based;
                stage = stage_left base r.now log n id j is st.1 st.0 ne u.stage f.stage;
                own = λ m h. let o = f.own m h in (o.0, o.1 ∙ sym (items_else k m r.now.log x (λ q. ne (ap place_seat (sym o.0 ∙ (ap r.now.places (sym q) ∙ here))))));
                kept = λ m xs h. let o = f.kept m xs h in (o.0, o.1 ∙ sym (items_else k m r.now.log x (λ q. differ 1 2 (ap place_kind (sym here ∙ (ap r.now.places q ∙ o.0))) (omega arith))));
                gives = f.gives;
                live = f.live;
              })
              record {
                based = mine.based;
                stage = tt;
                own = λ m h. let o = mine.own m h in let q : k ≡ m = same_number v.number k m num h in
                    (o.0, ap (λ (l : List I). l ++ x ∷ []) o.1 ∙ subst (λ (z : ℕ). items m r.now.log ++ x ∷ [] ≡ items m (r.now.log ++ (z, x) ∷ [])) (sym q) (sym (items_here m r.now.log x)));
                kept = λ m xs h. let o = mine.kept m xs h in (o.0, o.1 ∙ sym (items_else k m r.now.log x (λ q. differ 1 2 (ap place_kind (sym here ∙ (ap r.now.places q ∙ o.0))) (omega arith))));
                gives = mine.gives;
                live = λ z. absurd (omega arith);
              };
          found = λ m. found_set base r.now now' s.views id v w at refl refl m (r.now.places m)
              (λ none_there h. items_else k m r.now.log x (λ q. differ 0 1 (ap place_kind (sym none_there ∙ (ap r.now.places (sym q) ∙ here))) (omega arith)) ∙ h) (r.found m);
          listed = r.listed;
          shares = let a = total_set share s.views id v w at in let b = r.shares in omega arith;
          room = let a = total_set left s.views id v w at in omega arith;
        },
        (k, x, met, y, holds, num, refl, is_booked, refl),
      )

  pub splits : (base : List (ℕ × I)) (seats id n : ℕ) (v : View I) → v.stage ≡ Idle → 2 ≤ v.share → 2 ^ 31 ≤ v.left → v.gives ≡ true → (In n v.given → ⊥) → Splits (Sits booked base seats) id v (parted n v) (fresh n v)
  splits base seats id n v idle shared enough may new s r at =
      let w : View I = parted n v in
      let o : View I = fresh n v in
      let vs : List (View I) = set s.views id w in
      let j' : ℕ = length vs in
      let now' : Now I = record r.now { places = put r.now.places n (sits j'); given = n ∷ r.now.given } in
      let mine = r.each id v at in
      let gave = mine.gives may in
      let none_there : r.now.places n ≡ nowhere = ⊎_elim (λ e. e) (λ (i : In n r.now.given). absurd (new (subst (In n) (sym gave.1) i))) (r.listed n) in
      let no_item : items n r.now.log ≡ [] = subst (Found base r.now s.views n) none_there (r.found n) in
      let apart_sits : (m j : ℕ) → r.now.places m ≡ sits j → m ≢ n = λ m j h e. differ 0 1 (ap place_kind (sym none_there ∙ (ap r.now.places (sym e) ∙ h))) (omega arith) in
      let apart_kept : (m j : ℕ) → r.now.places m ≡ kept_by j → m ≢ n = λ m j h e. differ 0 2 (ap place_kind (sym none_there ∙ (ap r.now.places (sym e) ∙ h))) (omega arith) in
      let stays : (m : ℕ) → m ≢ n → put r.now.places n (sits j') m ≡ r.now.places m = λ m ne. put_else r.now.places n (sits j') m ne in record {
        now = now';
        words_are = r.words_are;
        one = r.one;
        counts = r.counts;
        order = r.order;
        slot = slot_longer base r.now.log s.homes vs o r.now.hold (slot_set base r.now.log s.homes s.views id v w at (λ met h. idle_not_holds v.stage met idle h) r.now.hold r.slot);
        each = λ j u e. ⊎_elim
            (λ (there : get_elem? vs j ≡ some u). each_set base now' s.views id w
            (λ i x ne h. let f = r.each i x h in record {
              based = f.based;
              stage = stage_same base r.now now' refl refl refl refl refl i x.stage f.stage;
              own = λ m k. let p = f.own m k in (stays m (apart_sits m i p.0) ∙ p.0, p.1);
              kept = λ m xs k. let p = f.kept m xs k in (stays m (apart_kept m i p.0) ∙ p.0, p.1);
              gives = λ k. absurd (ne (sym (f.gives k).0 ∙ gave.0));
              live = f.live;
            })
            record {
              based = λ _. mine.based (omega arith);
              stage = subst (StageOk base now' id) (sym idle) tt;
              own = λ m k. let p = mine.own m k in (stays m (apart_sits m id p.0) ∙ p.0, p.1);
              kept = λ m xs k. let p = mine.kept m xs k in (stays m (apart_kept m id p.0) ∙ p.0, p.1);
              gives = λ _. (gave.0, ap (λ (l : List ℕ). n ∷ l) gave.1);
              live = λ z. absurd (omega arith);
            } j u there)
            (λ (last : (j ≡ length vs) × (o ≡ u)). subst (λ (z : ℕ × View I). Fits base now' z.0 z.1) (λ i. (sym last.0 i, last.1 i)) record {
              based = λ _. mine.based (omega arith);
              stage = tt;
              own = λ m k. (put_here r.now.places n (sits j') m (sym (same_number o.number n m refl k)), subst (λ (z : ℕ). [] ≡ items z r.now.log) (same_number o.number n m refl k) (sym no_item));
              kept = λ m xs k. absurd k;
              gives = λ k. absurd (true≢false (sym k));
              live = λ z. absurd (omega arith);
            })
            (snoc_at vs o u j e);
        found = λ m. dite (ℕ_discrete m n)
            (λ e. subst (Found base now' (vs ++ o ∷ []) m) (sym (put_here r.now.places n (sits j') m e)) (o, at_last vs o (length vs) refl, ap (λ (z : ℕ). let q : Option ℕ = Some z in q) (sym e)))
            (λ ne. subst (Found base now' (vs ++ o ∷ []) m) (sym (stays m ne)) (found_longer base now' now' vs o m (r.now.places m) refl (found_set base r.now now' s.views id v w at refl refl m (r.now.places m) (λ _ h. h) (r.found m))));
        listed = λ m. dite (ℕ_discrete m n) (λ e. inr (inl (sym e))) (λ ne. ⊎_elim (λ h. inl (stays m ne ∙ h)) (λ h. inr (inr h)) (r.listed m));
        shares = let a = total_set share s.views id v w at in let b = r.shares in let c = total_snoc share vs o in omega arith;
        room = let a = total_set left s.views id v w at in let b = r.room in let c = total_snoc left vs o in omega arith;
      }

  giver_stays : (b : Bool) (id giver : ℕ) → (b ≡ true → ⊥) → pick_if b id giver ≡ giver
  giver_stays true id giver n = absurd (n refl)
  giver_stays false id giver n = refl

  -- who gives when two seats are made one: a is whether the first gives, b whether the second does
  one_gives : (a b : Bool) (id other giver : ℕ) (l m all : List ℕ) → (a ≡ true → (giver ≡ id) × (l ≡ all)) → (b ≡ true → (giver ≡ other) × (m ≡ all)) → pick_if a true b ≡ true
      → (pick_if b id giver ≡ id) × (pick_if a l m ≡ all)
  one_gives true true id other giver l m all f g h = (refl, (f refl).1)
  one_gives true false id other giver l m all f g h = f refl
  one_gives false true id other giver l m all f g h = (refl, (g refl).1)
  one_gives false false id other giver l m all f g h = absurd (true≢false (sym h))

  pub joins : (base : List (ℕ × I)) (seats id : ℕ) (v : View I) (other : ℕ) (w : View I) → v.stage ≡ Idle → w.stage ≡ Idle → 0 < v.share → 0 < w.share → Joins (Sits booked base seats) id v other w (joined v w) gone
  joins base seats id v other w idle idle' live live' s r at apart there =
      let u : View I = joined v w in
      let vs : List (View I) = set s.views id u in
      let there' : get_elem? s.views other ≡ some w = sym (set_else s.views id other u apart) ∙ there in
      let places' : ℕ → Where = λ n. moved other id (r.now.places n) in
      let mine = r.each id v at in
      let theirs = r.each other w there' in
      let now' : Now I = record r.now { places = places'; giver = pick_if w.gives id r.now.giver } in
      let apart' : id ≢ other = λ e. apart (sym e) in record {
        now = now';
        words_are = r.words_are;
        one = r.one;
        counts = r.counts;
        order = r.order;
        slot = slot_set base r.now.log s.homes vs other w gone there (λ met h. idle_not_holds w.stage met idle' h) r.now.hold
            (slot_set base r.now.log s.homes s.views id v u at (λ met h. idle_not_holds v.stage met idle h) r.now.hold r.slot);
        each = each_set base now' vs other gone
            (λ j x ne h. at_joined base now' s.views id j u
            (λ i y ni k. λ nj. let f = r.each i y k in record {
              based = f.based;
              stage = stage_same base r.now now' refl refl refl refl refl i y.stage f.stage;
              own = λ m q. let p = f.own m q in (sits_stays other id i (r.now.places m) p.0 nj, p.1);
              kept = λ m xs q. let p = f.kept m xs q in (kept_stays other id i (r.now.places m) p.0 nj, p.1);
              gives = λ q. let p = f.gives q in (giver_stays w.gives id r.now.giver (λ g. nj (sym p.0 ∙ (theirs.gives g).0)) ∙ p.0, p.1);
              live = f.live;
            })
            record {
              based = λ _. mine.based live;
              stage = subst (StageOk base now' id) (sym idle) tt;
              own = λ m q. let p = mine.own m q in (sits_stays other id id (r.now.places m) p.0 apart', p.1);
              kept = λ m xs q. ⊎_elim
                  (λ (k : In (entry m xs) v.kept). let p = mine.kept m xs k in (kept_stays other id id (r.now.places m) p.0 apart', p.1))
                  (λ (k : In (entry m xs) (lists w)). ⊎_elim
                  (λ (own : In (entry m xs) (own_list w.number w.mine)). let o = in_own w.number w.mine m xs own in let p = theirs.own m o.0 in (sits_moved other id other (r.now.places m) p.0 refl, sym o.1 ∙ p.1))
                  (λ (kept : In (entry m xs) w.kept). let p = theirs.kept m xs kept in (kept_moved other id other (r.now.places m) p.0 refl, p.1))
                  (in_or (m, xs) (own_list w.number w.mine) w.kept k))
                  (in_or (m, xs) v.kept (lists w) q);
              gives = one_gives v.gives w.gives id other r.now.giver v.given w.given r.now.given mine.gives theirs.gives;
              live = λ z. absurd (omega arith);
            } x h ne)
            record {
              based = λ z. absurd (omega arith);
              stage = tt;
              own = λ m q. absurd (differ 0 1 (ap number_kind q) (omega arith));
              kept = λ m xs q. absurd q;
              gives = λ q. absurd (true≢false (sym q));
              live = λ _. refl;
            };
        found = λ m. found_joined base r.now now' s.views id other v w at there' apart m (r.now.places m) refl (r.found m);
        listed = λ m. ⊎_elim (λ h. inl (ap (moved other id) h)) (λ h. inr h) (r.listed m);
        shares = let a = total_set share s.views id v u at in let b = r.shares in let c = total_set share vs other w gone there in omega arith;
        room = let a = total_set left s.views id v u at in let b = r.room in let c = total_set left vs other w gone there in omega arith;
      }

  -- when the table is closed, every other seat is spent, and the lists of the last one are the items of their numbers
  closes_at : (base : List (ℕ × I)) (seats : ℕ) (id : ℕ) (v : View I) → v.stage ≡ Idle → v.share ≡ seats → (s : St) (r : Sits booked base seats s) → get_elem? s.views id ≡ some v
      → ((y : T) × (get_elem? s.homes 0 ≡ some (some (Some y))) × (booked y ≡ base ++ r.now.log)) × ((n : ℕ) → items n r.now.log ≡ list_of n (lists v))
  closes_at base seats id v idle all s r at = (is_free r.now.hold r.slot, λ n. sym (list_of_is n (lists v) (items n r.now.log) (each_is n) (has n (r.now.places n) (r.found n))))
    where
      mine : Fits base r.now id v
      mine = r.each id v at

      spent : (j : ℕ) (u : View I) → j ≢ id → get_elem? s.views j ≡ some u → u ≡ gone
      spent j u ne e = let two = total_two share s.views id j v u at e ne in let sum = r.shares in (r.each j u e).live (omega arith)

      is_free : (h : Hold) → Slot booked base r.now.log s.homes s.views h → (y : T) × (get_elem? s.homes 0 ≡ some (some (Some y))) × (booked y ≡ base ++ r.now.log)
      is_free free k = k
      is_free (by j) k = dite (ℕ_discrete j id)
          (λ e. absurd (idle_not_holds v.stage k.1 idle (ap (λ (u : View I). u.stage) (same_view s.views id j v k.0 at k.2 e) ∙ k.3)))
          (λ ne. absurd (idle_not_holds k.0.stage k.1 (ap (λ (u : View I). u.stage) (spent j k.0 ne k.2)) k.3))

      each_is : (n : ℕ) (xs : List I) → In (n, xs) (lists v) → xs ≡ items n r.now.log
      each_is n xs h = ⊎_elim
          (λ (own : In (entry n xs) (own_list v.number v.mine)). let o = in_own v.number v.mine n xs own in sym o.1 ∙ (mine.own n o.0).1)
          (λ (kept : In (entry n xs) v.kept). (mine.kept n xs kept).1)
          (in_or (n, xs) (own_list v.number v.mine) v.kept h)

      has : (n : ℕ) (p : Where) → Found base r.now s.views n p → (items n r.now.log ≡ []) ⊎ ((xs : List I) × In (n, xs) (lists v))
      has n nowhere f = inl f
      has n (sits j) f = dite (ℕ_discrete j id)
          (λ e. inr (v.mine, in_left (n, v.mine) (own_list v.number v.mine) v.kept (own_in v.number v.mine n (ap (λ (u : View I). u.number) (same_view s.views id j v f.0 at f.1 e) ∙ f.2))))
          (λ ne. absurd (differ 0 1 (ap number_kind (sym (ap (λ (u : View I). u.number) (spent j f.0 ne f.1)) ∙ f.2)) (omega arith)))
      has n (kept_by j) f = dite (ℕ_discrete j id)
          (λ e. inr (f.1, in_right (n, f.1) (own_list v.number v.mine) v.kept (subst (In (n, f.1)) (sym (ap (λ (u : View I). u.kept) (same_view s.views id j v f.0 at f.2 e))) f.3)))
          (λ ne. absurd (subst (In (n, f.1)) (ap (λ (u : View I). u.kept) (spent j f.0 ne f.2)) f.3))

  -- what closing gives: the first list, and after it for each number the list of its chair
  pub closes : (base : List (ℕ × I)) (seats id : ℕ) (v : View I) (ws : List ℕ) (xs : List (Option T)) → v.stage ≡ Idle → v.share ≡ seats → Final (Seen (Sits booked base seats) id v) ws xs
      → (y : T) × (get_elem? xs 0 ≡ some (Some y)) × (length xs ≡ 1) × Closes booked base v y
  closes base seats id v ws xs idle all f =
      let s = f.0 in let r = f.1.0 in let c = closes_at base seats id v idle all s r f.1.1 in
      (c.0.0, f.4 0 (Some c.0.0) c.0.1, sym f.3 ∙ r.one, (r.now.log, c.0.2, c.1))

  abbrev value_or : T → Option T → T
  value_or d None = d
  value_or d (Some y) = y

  -- what is taken from the closed table
  pub unwrapped : (base : List (ℕ × I)) (seats id : ℕ) (v : View I) (ws : List ℕ) (xs : List (Option T)) (o : Option T) → v.stage ≡ Idle → v.share ≡ seats → Final (Seen (Sits booked base seats) id v) ws xs → get_elem? xs 0 ≡ some o
      → (y : T) × (o ≡ Some y) × Closes booked base v y
  unwrapped base seats id v ws xs o idle all f taken = let c = closes base seats id v ws xs idle all f in (c.0, some-injective o (Some c.0) (sym taken ∙ c.1), c.3)

  pub is_closed : (base : List (ℕ × I)) (seats id : ℕ) (v : View I) (ws : List ℕ) (xs : List (Option T)) (o : Option T) (y : T) → v.stage ≡ Idle → v.share ≡ seats → Final (Seen (Sits booked base seats) id v) ws xs → get_elem? xs 0 ≡ some o
      → o ≡ Some y → Closes booked base v y
  is_closed base seats id v ws xs o y idle all f taken is = let c = unwrapped base seats id v ws xs o idle all f taken in subst (Closes booked base v) (ap (value_or y) (sym c.1 ∙ is)) c.2

  -- the advance, once the value is in the slot
  pub advances_after : (base : List (ℕ × I)) (seats slots id : ℕ) (old me : Sat) (y : T) → Leaves booked old.0 y → old.1 ≡ carried old.0.stage → me ≡ (old.0, (0, Some y) ∷ rest old.1) → 0 < old.0.share
      → Allows (Sits booked base seats) slots id me 1 (λ n. (n + 1) % 2 ^ 64) (advanced booked (step slots 1 1 0 none) me)
  advances_after base seats slots id old me y e rests is live =
      let empty : rest old.1 ≡ [] = ap rest (rests ∙ ap carried e.3) in
      let now : me ≡ (old.0, (0, Some y) ∷ []) = is ∙ ap (λ (c : List (ℕ × Option T)). let m : Sat = (old.0, (0, Some y) ∷ c) in m) empty in
      subst (λ (m : Sat). Allows (Sits booked base seats) slots id m 1 (λ n. (n + 1) % 2 ^ 64) (advanced booked (step slots 1 1 0 none) m)) (sym now)
      (advances_at base seats slots id old.0 e.0 e.1 e.2 y e.3 e.4 e.5 live)

  abbrev head_value : T → List (ℕ × Option T) → T
  head_value d [] = d
  head_value d (x ∷ xs) = value_or d x.1

  abbrev last_or : ℕ × I → List (ℕ × I) → ℕ × I
  last_or d [] = d
  last_or d (x ∷ xs) = last_or x xs

  last_snoc : (d : ℕ × I) (l : List (ℕ × I)) (x : ℕ × I) → last_or d (l ++ x ∷ []) ≡ x
  last_snoc d [] x = refl
  last_snoc d (y ∷ l) x = last_snoc y l x

  -- what the advance tells, for every way to read the entry
  pub left_any : (st : Step (Option T)) (old me me' : Sat) (y : T) (n : ℕ) → me ≡ (old.0, (0, Some y) ∷ rest old.1) → advanced booked st me n me' → Left booked old.0 y me'.0
  left_any st old me me' y n is a k x met holds num is_booked =
      let same_y : a.3 ≡ y = ap (head_value y) (sym a.6 ∙ ap (λ (m : Sat). m.1) is) in
      let same_x : a.1 ≡ x = ap (λ (z : ℕ × I). z.1) (sym (last_snoc (k, x) a.2 (a.0, a.1)) ∙ (ap (last_or (k, x)) (sym a.7 ∙ (ap booked same_y ∙ is_booked)) ∙ last_snoc (k, x) met (k, x))) in
      ap (λ (m : Sat). m.0) a.8 ∙ (λ i. done (is i).0 (same_x i))
