-- Where the bodies of triggers run alike, both catalogues make the same triggers ready, and their editions see the same in both.
use Rattle.std.proofs.Common.{◌≡◌, List, [], ◌∷◌, map, Option, Some, None, Result, Ok, Err, refl, sym, ap, subst, ⊎_elim}
use Rattle.std.specs.List.{AllByRecursion}
use Rattle.ebr_base.specs.declared.code.Code.{Code}
use Rattle.ebr_base.specs.declared.numbers.EditionNo.{EditionNo}
use Rattle.ebr_ast.specs.declared.unit.UnitTree.{UnitTree}
use Rattle.ebr_ast.specs.declared.unit.UnitTree.TheVariants as unit
use Rattle.ebr_ast.specs.declared.view.EditionView.{EditionView}
use Rattle.ebr_exec.specs.Places.{Names}
use Rattle.ebr_fire.specs.declared.firing.Firing.{Firing}
use Rattle.ebr_query.specs.Results.{all, in_front}
use Rattle.ebr_run.specs.Units.{valid_unit}
use Rattle.ebr_bodies.specs.Agree.{RunAlike}
use Rattle.ebr_bodies.specs.Ready.{Ready, ready_unit, ready_for, all_ready}

module _ (m n : Names) where
  -- an edition sees the same in both
  abbrev pub SeesSame : EditionNo → Type 0
  SeesSame e = m.view e ≡ n.view e

  abbrev pub FiredSame : Firing → Type 0
  FiredSame f = SeesSame f.edition

  abbrev pub ReadySame : Ready → Type 0
  ReadySame r = SeesSame r.edition

  -- those whose bodies run in the statement's edition are among them
  pub fired_same : (e : EditionNo) → SeesSame e → (fs : List Firing) → RunAlike m n e fs → AllByRecursion FiredSame fs
  fired_same e sees [] h = tt
  fired_same e sees (f ∷ fs) h = (⊎_elim (λ is. subst SeesSame (sym is) sees) (λ same. same) h.0, fired_same e sees fs h.1)

  -- ---- one trigger

  one_same : (f : Firing) → FiredSame f → ready_for m f ≡ ready_for n f
  one_same f same = ap (λ (v : EditionView). ready_unit v f.edition (valid_unit v f.key)) same

  abbrev pub OneSame : Result Ready Code → Type 0
  OneSame (Ok r) = ReadySame r
  OneSame (Err code) = Unit {0}

  unit_sees : (v : EditionView) (e : EditionNo) → SeesSame e → (u : Option UnitTree) → OneSame (ready_unit v e u)
  unit_sees v e same None = tt
  unit_sees v e same (Some (unit.Trigger t)) = same
  unit_sees v e same (Some u) = tt

  -- ---- all of them

  abbrev pub AllSame : Result (List Ready) Code → Type 0
  AllSame (Ok rs) = AllByRecursion ReadySame rs
  AllSame (Err code) = Unit {0}

  in_front_sees : (r : Ready) → ReadySame r → (rest : Result (List Ready) Code) → AllSame rest → AllSame (in_front r rest)
  in_front_sees r same (Ok rs) h = (same, h)
  in_front_sees r same (Err code) h = tt

  joined_sees : (first : Result Ready Code) (rest : List (Result Ready Code)) → OneSame first → AllSame (all rest) → AllSame (all (first ∷ rest))
  joined_sees (Ok r) rest same h = in_front_sees r same (all rest) h
  joined_sees (Err code) rest same h = tt

  pub all_sees : (fs : List Firing) → AllByRecursion FiredSame fs → AllSame (all_ready m fs)
  all_sees [] h = tt
  all_sees (f ∷ fs) h = joined_sees (ready_for m f) (map (ready_for m) fs) (unit_sees (m.view f.edition) f.edition h.0 (valid_unit (m.view f.edition) f.key)) (all_sees fs h.1)

  mapped_same : (fs : List Firing) → AllByRecursion FiredSame fs → map (ready_for m) fs ≡ map (ready_for n) fs
  mapped_same [] h = refl
  mapped_same (f ∷ fs) h = let first = one_same f h.0 in let rest = mapped_same fs h.1 in λ i. first i ∷ rest i

  pub all_same : (fs : List Firing) → AllByRecursion FiredSame fs → all_ready m fs ≡ all_ready n fs
  all_same fs h = ap (λ (rs : List (Result Ready Code)). all rs) (mapped_same fs h)
