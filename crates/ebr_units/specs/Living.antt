-- The books of the living editions, and what they answer.
-- Oracle Database Development Guide 19c, Using Edition-Based Redefinition, Name Resolution for Editioned and Noneditioned
-- Objects; that compiled units are held in a book for each edition is own.
use Rattle.std.specs.Prelude.{◌≡◌, Bool, true, if◌then◌else◌, List, All, find, Option, Some, None, IfSome, Result, IfOk, OnOk}
use Rattle.ebr_base.specs.declared.numbers.EditionNo.{EditionNo}
use Rattle.ebr_ast.specs.declared.view.EditionView.{EditionView}
use Rattle.ebr_ast.specs.Views.{IsInOrder}
use Rattle.ebr_editions.specs.Editions.{is_edition, is_living}
use Rattle.ebr_cross.specs.declared.catalogue.Catalogue.{Catalogue}
use Rattle.ebr_cross.specs.declared.record.CatalogueRecord.{CatalogueRecord}
use Rattle.ebr_cross.specs.Catalogue.{Lists, HaveOwnKeys, IsViewOf, View, as_catalogue}
use Rattle.ebr_cross.specs.Records.{with_record}
use Rattle.ebr_code.specs.Books.{Book}
use Rattle.ebr_laws.specs.Served.{HasCodeOf}
use Rattle.ebr_units.specs.Served.{served}

-- A book is told by what its edition sees, and so are the books of several editions.

abbrev pub is_of : EditionNo → EditionView → Bool
is_of e v = is_edition v.edition e

-- what an edition sees, where its book is among these
abbrev pub view_in : EditionNo → List EditionView → Option EditionView
view_in e views = find (is_of e) views

-- a book of no objects
abbrev pub nothing : Book
nothing = record { unit = λ key. None; stamp = λ key. None; objects = 0 }

abbrev pub served_by : Option EditionView → Book
served_by None = nothing
served_by (Some v) = served v

-- What books answer in an edition: what its book does, and nothing where it has none.
abbrev pub served_in : List EditionView → EditionNo → Book
served_in views e = served_by (view_in e views)

-- Each book is of all that its edition sees.
abbrev pub AreCurrent : Lists → List EditionView → Type 0
AreCurrent c views = All (λ (v : EditionView). IsViewOf c v.edition v) views

-- The book of an edition is among these, and is of all that it sees.
abbrev pub HasBook : Lists → EditionNo → List EditionView → Type 0
HasBook c e views = view_in e views ≡ Some (View c e)

-- Books answer, in each living edition, by the code of each unit that is visible and valid there and by the stamp of each
-- object that is visible there, as if all were compiled anew.
abbrev pub ServeAll : Lists → List EditionView → Type 0
ServeAll c views = (e : EditionNo) → is_living c.editions.made e ≡ true → HasCodeOf (View c e) (served_in views e)

-- Books that are kept: each is of all that its edition sees, and none that was current before is lost.
pub record Keeps (c : Lists) (old new : List EditionView) : Type 0 where
  pub current : AreCurrent c new
  pub others : (e : EditionNo) → HasBook c e old → HasBook c e new

-- What is answered is the book of all that an edition sees, with the code of its units, and it is kept.
pub record Gives {E : Type 0} (c : Lists) (e : EditionNo) (old : List EditionView) (result : Result EditionView E) (new : List EditionView) : Type 0 where
  pub book : IfOk result (λ v. IsViewOf c e v)
  pub code : IfOk result (λ v. HasCodeOf (View c e) (served v))
  pub there : OnOk result (HasBook c e new)
  pub keeps : Keeps c old new

-- all that an edition sees, where it lives
abbrev pub living_view : Lists → EditionNo → Option EditionView
living_view c e = if is_living c.editions.made e then Some (View c e) else None

-- There is a book exactly where the edition lives. It is of all that the edition sees, and has the code of its units.
pub record IsBookIn (c : Lists) (e : EditionNo) (book : Option EditionView) : Type 0 where
  pub is : book ≡ living_view c e
  pub order : IfSome book (λ v. IsInOrder v)
  pub code : IfSome book (λ v. HasCodeOf (View c e) (served v))

-- What is answered is this book, and it is kept.
pub record GivesLiving {E : Type 0} (c : Lists) (e : EditionNo) (old : List EditionView) (result : Result (Option EditionView) E) (new : List EditionView) : Type 0 where
  pub book : IfOk result (λ book. IsBookIn c e book)
  pub there : OnOk result (is_living c.editions.made e ≡ true → HasBook c e new)
  pub keeps : Keeps c old new

-- There are lists that the catalogue keeps, in which objects stand under their own keys. Definitions leave no other catalogue.
pub record IsKept (now : Catalogue) : Type 0 where
  pub lists : Lists
  pub own_keys : HaveOwnKeys lists
  pub is : now ≡ as_catalogue lists

-- This is so of whichever lists a catalogue keeps, where the books are of what editions see of these.
abbrev pub ForBooks : Catalogue → List EditionView → (Lists → Type 0) → Type 0
ForBooks now views P = (c : Lists) → HaveOwnKeys c → AreCurrent c views → now ≡ as_catalogue c → P c

-- The same of the lists before a record, which led from them to what the catalogue keeps.
abbrev pub ForBooksBefore : Catalogue → List EditionView → CatalogueRecord → (Lists → Type 0) → Type 0
ForBooksBefore now views r P = (c : Lists) → HaveOwnKeys c → AreCurrent c views → now ≡ as_catalogue (with_record c r) → P c

-- This is so of whichever lists a view is of, where the books are of what editions see of these.
abbrev pub ForSeen : EditionView → List EditionView → (Lists → Type 0) → Type 0
ForSeen v views P = (c : Lists) → AreCurrent c views → IsViewOf c v.edition v → P c
