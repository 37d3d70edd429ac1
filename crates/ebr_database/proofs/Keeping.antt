-- What is kept over several calls.
use Rattle.std.proofs.Common.{◌≡◌, ◌+◌, ◌≤◌, ◌⊎◌, inl, inr, ⊎_elim, List, [], ◌∷◌, ◌++◌, Option, Some, None, refl, sym, ap, subst, ◌∙◌, append_assoc, append-nil, arith}
use Rattle.std.specs.Prelude.{IfSome, IsTrue}
use Rattle.std.proofs.lemmas.List.Sums.{sum_by-append}
use Rattle.ebr_record.specs.declared.record.Record.{Record}
use Rattle.ebr_record.specs.Keeper.{Keeper, share}
use Rattle.ebr_database.specs.declared.failure.Halt.{Halt}
use Rattle.ebr_database.specs.declared.failure.Halt.TheVariants.{DiskFault, Stopped, NoMemory}
use Rattle.ebr_database.specs.Shows.{with_records, Between, Holds, JustKept, OneMore, Grew, Cause, GaveUp}

pub with_none : (kept : Option (List Record)) → with_records kept [] ≡ kept
with_none None = refl
with_none (Some l) = ap Some (append-nil l)

with_both : (kept : Option (List Record)) (m n : List Record) → with_records (with_records kept m) n ≡ with_records kept (m ++ n)
with_both None m n = refl
with_both (Some l) m n = ap Some (append_assoc l m n)

further : (kept : Option (List Record)) (m n l : List Record) → Between (with_records kept m) n l → Between kept (m ++ n) l
further None m n l b = tt
further (Some old) m n l b = (m ++ b.0, b.1, b.2 ∙ append_assoc old m b.0, ap (λ x. m ++ x) b.3 ∙ sym (append_assoc m b.0 b.1))

longer : (kept : Option (List Record)) (m n l : List Record) → Between kept m l → Between kept (m ++ n) l
longer None m n l b = tt
longer (Some old) m n l b = (b.0, b.1 ++ n, b.2, ap (λ x. x ++ n) b.3 ∙ append_assoc b.0 b.1 n)

-- ---- what a stop leaves now

-- the kept list alone, whatever others were left
all_kept : (kept : Option (List Record)) (P : List Record → Type 0) (left l : List Record) → IfSome kept (λ records. (l : List Record) → P l → l ≡ records) → P l → OneMore kept left l
all_kept None P left l h x = tt
all_kept (Some records) P left l h x = inl (h l x)

-- where just the kept list is left
pub just_one : (k : Keeper) (left l : List Record) → IsTrue k.tells → JustKept k → k.may_leave k.moment l → OneMore k.records left l
just_one k left l told just x = all_kept k.records (k.may_leave k.moment) left l (just told) x

one_of_more : (kept : Option (List Record)) (left more l : List Record) → OneMore kept left l → OneMore kept (left ++ more) l
one_of_more None left more l h = tt
one_of_more (Some records) left more l (inl same) = inl same
one_of_more (Some records) left more l (inr next) = inr (next.0, next.1 ++ more, ap (λ x. x ++ more) next.2, next.3)

-- ---- several calls

pub grew_same : (k : Keeper) → Grew k k []
grew_same k = record {
  records = sym (with_none k.records);
  used = omega arith;
  faults = omega arith;
  stopped = refl;
  moment = omega arith;
  tells = refl;
  holds = λ told t l h x. inl x;
  rest = λ just. just;
}

holds_holds : (a b c : Keeper) (m n : List Record) → Grew a b m → (IsTrue b.tells → Holds b c n) → IsTrue a.tells → Holds a c (m ++ n)
holds_holds a b c m n g h told t l before x =
    let later : t ≤ b.moment = omega (arith, before, g.moment) in
    ⊎_elim (λ y. ⊎_elim (λ z. inl z) (λ z. inr (longer a.records m n l z)) (g.holds told t l before y)) (λ y. inr (further a.records m n l (subst (λ k. Between k n l) g.records y))) (h (subst IsTrue (sym g.tells) told) t l later x)

pub grew_grew : (a b c : Keeper) (m n : List Record) → Grew a b m → Grew b c n → Grew a c (m ++ n)
grew_grew a b c m n g h = record {
  records = h.records ∙ ap (λ k. with_records k n) g.records ∙ with_both a.records m n;
  used = omega (arith, g.used, h.used, sum_by-append share m n);
  faults = omega (arith, g.faults, h.faults);
  stopped = h.stopped ∙ g.stopped;
  moment = omega (arith, g.moment, h.moment);
  tells = h.tells ∙ g.tells;
  holds = holds_holds a b c m n g h.holds;
  rest = λ just. h.rest (g.rest just);
}

causes : (a b c : Keeper) (m : List Record) (why : Halt) → Grew a b m → Cause why b c → Cause why a c
causes a b c m DiskFault g h = omega (arith, g.faults, h)
causes a b c m Stopped g h = sym g.stopped ∙ h
causes a b c m NoMemory g h = tt

pub grew_gave_up : (a b c : Keeper) (m n : List Record) (why : Halt) → Grew a b m → GaveUp b c n why → GaveUp a c (m ++ n) why
grew_gave_up a b c m n why g h = record {
  kept = m ++ h.kept;
  left = h.left;
  made_is = ap (λ x. m ++ x) h.made_is ∙ sym (append_assoc m h.kept h.left);
  records = h.records ∙ ap (λ k. with_records k h.kept) g.records ∙ with_both a.records m h.kept;
  used = omega (arith, g.used, h.used, sum_by-append share m h.kept);
  faults = omega (arith, g.faults, h.faults);
  moment = omega (arith, g.moment, h.moment);
  tells = h.tells ∙ g.tells;
  holds = holds_holds a b c m n g h.holds;
  now = λ told just. h.now (subst IsTrue (sym g.tells) told) (g.rest just);
  cause = causes a b c m why g h.cause;
}

pub gave_up_more : (a b : Keeper) (m n : List Record) (why : Halt) → GaveUp a b m why → GaveUp a b (m ++ n) why
gave_up_more a b m n why h = record {
  kept = h.kept;
  left = h.left ++ n;
  made_is = ap (λ x. x ++ n) h.made_is ∙ append_assoc h.kept h.left n;
  records = h.records;
  used = h.used;
  faults = h.faults;
  moment = h.moment;
  tells = h.tells;
  now = λ told just l x. one_of_more b.records h.left n l (h.now told just l x);
  holds = λ told t l before x. ⊎_elim (λ y. inl y) (λ y. inr (longer a.records m n l y)) (h.holds told t l before x);
  cause = h.cause;
}

-- nothing was kept, and there was no memory
pub stays : (k : Keeper) (m : List Record) → GaveUp k k m NoMemory
stays k m = record {
  kept = [];
  left = m;
  made_is = refl;
  records = sym (with_none k.records);
  used = omega arith;
  faults = omega arith;
  moment = omega arith;
  tells = refl;
  holds = λ told t l h x. inl x;
  now = λ told just l x. just_one k m l told just x;
  cause = tt;
}

-- all was kept, and there was no memory
pub kept_stops : (a b : Keeper) (m : List Record) → Grew a b m → GaveUp a b m NoMemory
kept_stops a b m g = record {
  kept = m;
  left = [];
  made_is = sym (append-nil m);
  records = g.records;
  used = g.used;
  faults = g.faults;
  moment = g.moment;
  tells = g.tells;
  holds = g.holds;
  now = λ told just l x. just_one b [] l (subst IsTrue (sym g.tells) told) (g.rest just) x;
  cause = tt;
}
