-- The line of editions.
-- Oracle Database Development Guide 19c, Using Edition-Based Redefinition, Editions: a database begins with the edition
-- `ORA$BASE`; each later edition is the child of exactly one edition, and an edition has at most one child.
use Rattle.std.specs.Prelude.{◌≡◌, ◌≢◌, ℕ, zero, suc, ◌<◌, ◌≤◌, Bool, true, false, ◌==◌, if◌then◌else◌, nat_le, List, [], ◌∷◌, ◌++◌, Option, Some, None, option_map, is_some, MatchOption, Result, Ok, Err, find, filter, map, length, fold, codes, All, AllPairs}
use Rattle.std.specs.Option.{unwrap_or}
use Rattle.std.specs.Str.{bytes_eq}
use Rattle.ebr_base.specs.declared.numbers.EditionNo.{EditionNo}
use Rattle.ebr_base.specs.declared.code.Code.{Code}
use Rattle.ebr_base.specs.declared.code.Code.TheVariants.{Ora, Ebr}
use Rattle.ebr_editions.specs.declared.entry.EditionEntry.{EditionEntry}

-- All editions ever made, in the order of creation, and the default edition.
pub record Editions : Type 0 where
  pub made : List EditionEntry
  pub default : EditionNo

abbrev pub first_edition : EditionNo
first_edition = record { 0 = 1 }

-- a database begins with one edition, which is the default
abbrev pub first_editions : Editions
first_editions = record {
  made = record { number = first_edition; name = codes "ORA$BASE"; parent = None; living = true } ∷ [];
  default = first_edition;
}

abbrev pub is_edition : EditionNo → EditionNo → Bool
is_edition d e = d.0 == e.0

abbrev pub is_numbered : EditionNo → EditionEntry → Bool
is_numbered e x = is_edition x.number e

-- the edition of a number, living or gone
abbrev pub edition_of : List EditionEntry → EditionNo → Option EditionEntry
edition_of made e = find (is_numbered e) made

abbrev pub living_entry : Option EditionEntry → Bool
living_entry None = false
living_entry (Some x) = x.living

abbrev pub is_living : List EditionEntry → EditionNo → Bool
is_living made e = living_entry (edition_of made e)

abbrev pub parent_entry : Option EditionEntry → Option EditionNo
parent_entry None = None
parent_entry (Some x) = x.parent

-- the edition that an edition, living or gone, was made as a child of
abbrev pub parent_of : List EditionEntry → EditionNo → Option EditionNo
parent_of made e = parent_entry (edition_of made e)

-- the name of an edition, living or gone
abbrev pub name_of : List EditionEntry → EditionNo → Option (List ℕ)
name_of made e = option_map (λ (x : EditionEntry). x.name) (edition_of made e)

-- the editions that live, in the order of creation
abbrev pub living : List EditionEntry → List EditionEntry
living made = filter (λ (x : EditionEntry). x.living) made

-- the living edition of a name
abbrev pub edition_named : List EditionEntry → List ℕ → Option EditionNo
edition_named made name = option_map (λ (x : EditionEntry). x.number) (find (λ (x : EditionEntry). bytes_eq name x.name) (living made))

abbrev pub is_parent : EditionNo → Option EditionNo → Bool
is_parent e None = false
is_parent e (Some p) = is_edition p e

-- the living edition that is a child of an edition
abbrev pub child_of : List EditionEntry → EditionNo → Option EditionNo
child_of made e = option_map (λ (x : EditionEntry). x.number) (find (λ (x : EditionEntry). is_parent e x.parent) (living made))

-- the end of the line: the living edition that was made last
abbrev pub leaf : List EditionEntry → EditionNo
leaf made = fold (λ e (x : EditionEntry). x.number) first_edition (living made)

-- the parent that CREATE EDITION names, which must live; without a name the leaf
abbrev pub named_parent : List EditionEntry → Option (List ℕ) → Option EditionNo
named_parent made None = Some (leaf made)
named_parent made (Some name) = edition_named made name

abbrev pub max_editions : ℕ
max_editions = 256

-- A number is one more than that of the edition made before, and so is never given again.
abbrev pub next_edition : List EditionEntry → EditionNo
next_edition made = record { 0 = suc (length made) }

abbrev pub create_below : List EditionEntry → Option EditionNo → Result EditionNo Code
create_below made None = Err (Ora 38802)
create_below made (Some p) =
    if is_some (child_of made p) then Err (Ebr 30) else
    if nat_le max_editions (length (living made)) then Err (Ebr 35) else Ok (next_edition made)

-- What CREATE EDITION answers: EBR-0031 where a living edition has the name, ORA-38802 where none has the parent's name,
-- EBR-0030 where the parent has a living child, EBR-0035 where 256 editions live; else the new edition's number. (The
-- order and the EBR codes are own.)
abbrev pub create_answer : List EditionEntry → List ℕ → Option (List ℕ) → Result EditionNo Code
create_answer made name parent = if is_some (edition_named made name) then Err (Ebr 31) else create_below made (named_parent made parent)

abbrev pub new_edition : List EditionEntry → List ℕ → Option EditionNo → EditionEntry
new_edition made name parent = record { number = next_edition made; name = name; parent = parent; living = true }

-- the editions after CREATE EDITION of a name below a parent
abbrev pub with_edition : Editions → List ℕ → Option (List ℕ) → Editions
with_edition c name parent = record c { made = c.made ++ new_edition c.made name (named_parent c.made parent) ∷ [] }

abbrev pub drop_named : List EditionEntry → Option EditionNo → Result EditionNo Code
drop_named made None = Err (Ora 38802)
drop_named made (Some e) = if is_some (child_of made e) then Err (Ebr 32) else Ok e

-- What DROP EDITION answers: ORA-38802 where no living edition has the name, EBR-0032 where it has a living child; else
-- the number of the edition that goes.
abbrev pub drop_answer : List EditionEntry → List ℕ → Result EditionNo Code
drop_answer made name = drop_named made (edition_named made name)

abbrev pub gone : EditionNo → EditionEntry → EditionEntry
gone e x = if is_numbered e x then record x { living = false } else x

-- the editions after an edition was dropped: it stays in the list, and doesn't live
abbrev pub without_edition : Editions → EditionNo → Editions
without_edition c e = record c { made = map (gone e) c.made }

-- what ALTER DATABASE DEFAULT EDITION answers: ORA-38802 where no living edition has the name
abbrev pub default_answer : List EditionEntry → List ℕ → Result (Unit {0}) Code
default_answer made name = if is_some (edition_named made name) then Ok tt else Err (Ora 38802)

-- the editions after it: the living edition of the name is the default
abbrev pub with_default : Editions → List ℕ → Editions
with_default c name = record c { default = unwrap_or (edition_named c.made name) c.default }

-- each of these editions is the child of the one before it, and the first is the child of `parent`
abbrev pub IsLineBelow : Option EditionNo → List EditionEntry → Type 0
IsLineBelow parent [] = Unit {0}
IsLineBelow parent (x ∷ xs) = (x.parent ≡ parent) × IsLineBelow (Some x.number) xs

-- the numbers are n + 1, n + 2 and so on
abbrev pub IsNumberedFrom : ℕ → List EditionEntry → Type 0
IsNumberedFrom n [] = Unit {0}
IsNumberedFrom n (x ∷ xs) = (x.number.0 ≡ suc n) × IsNumberedFrom (suc n) xs

-- a parent has a smaller number than its child; edition 1 alone has no parent
abbrev pub HasSmallerParent : EditionEntry → Type 0
HasSmallerParent x = MatchOption x.parent (x.number.0 ≡ 1) (λ p. p.0 < x.number.0)

-- What holds of every database's editions: they are numbered from 1 in the order of creation, a parent has a smaller
-- number than its child, those that live form a line in which each is the child of the one before it, no two of them
-- share a name, there are at most 256, and the default edition is one of them.
pub record IsLine (c : Editions) : Type 0 where
  pub numbered : IsNumberedFrom 0 c.made
  pub parents : All HasSmallerParent c.made
  pub line : IsLineBelow None (living c.made)
  pub names : AllPairs (λ (x y : EditionEntry). x.name ≢ y.name) (living c.made)
  pub few : length (living c.made) ≤ max_editions
  pub default_lives : is_living c.made c.default ≡ true

-- at most n editions of the line that begins with this one: itself, its parent, and so on up
abbrev pub line_up : List EditionEntry → ℕ → Option EditionNo → List EditionNo
line_up made zero e = []
line_up made (suc n) None = []
line_up made (suc n) (Some e) = e ∷ line_up made n (parent_of made e)

abbrev pub line_from : List EditionEntry → Option EditionNo → List EditionNo
line_from made None = []
line_from made (Some e) = line_up made (suc e.0) (Some e)

-- The line of an edition: itself, its parent, and so on up. Numbers fall along it, so its own number bounds its length.
abbrev pub line_of : List EditionEntry → EditionNo → List EditionNo
line_of made e = line_from made (Some e)
