-- The grammar of subprograms and packages (Oracle Database PL/SQL Language Reference 19c, Procedure Declaration and
-- Definition, Function Declaration and Definition, CREATE PACKAGE, CREATE PACKAGE BODY; which of their forms there are is
-- this server's own choice):
--   subprogram = head (IS | AS) body
--   PACKAGE n (IS | AS) {decl | head ;} END [n] ;
--   PACKAGE BODY n (IS | AS) {decl} {subprogram} [initial] END [n] ;
-- BODY is no reserved word, so it may name a package. A name behind END leaves nothing.
use Rattle.std.specs.Prelude.{ℕ, List, [], ◌∷◌}
use Rattle.ebr_grammar.specs.declared.kind.Kind.{Kind}
use Rattle.ebr_grammar.specs.declared.kind.Kind.TheVariants as k
use Rattle.ebr_grammar.specs.Kinds.{name_kinds, names_but}
use Rattle.ebr_grammar.specs.Grammar.{token, nothing, both, made, led}
use Rattle.ebr_grammar.specs.Outcome.{named_by}
use Rattle.ebr_grammar.specs.Words.{mark, ◌▸◌, ◌◂◌, ◌∣◌, maybe, all, name}
use Rattle.ebr_ast.specs.declared.statement.Block.{Block}
use Rattle.ebr_ast.specs.declared.statement.Decl.{Decl}
use Rattle.ebr_ast.specs.declared.unit.Head.{Head}
use Rattle.ebr_ast.specs.declared.unit.Subprogram.{Subprogram}
use Rattle.ebr_ast.specs.declared.unit.PackageItem.{PackageItem}
use Rattle.ebr_ast.specs.declared.unit.PackageItem.TheVariants as item
use Rattle.ebr_ast.specs.declared.unit.PackageBody.{PackageBody}
use Rattle.ebr_ast.specs.declared.unit.UnitTree.{UnitTree}
use Rattle.ebr_ast.specs.declared.unit.UnitTree.TheVariants as unit
use Rattle.ebr_stmtparse.specs.declared.grammar.Initial.{Initial}
use Rattle.ebr_stmtparse.specs.Parts.{declaration_part, body_part, initial_part}
use Rattle.ebr_plparse.specs.declared.packages.BodyMembers.{BodyMembers}
use Rattle.ebr_plparse.specs.Productions.{P, part, is_or_as}
use Rattle.ebr_plparse.specs.Heads.{head, head_begins}

-- ---- subprograms

abbrev pub subprogram_tree : Head → Block → Subprogram
subprogram_tree head body = record { head = head; body = body }

-- (IS | AS) body
unfoldable pub given_body : P Block
given_body = both (λ _ body. body) is_or_as (part body_part)

unfoldable pub subprogram : P Subprogram
subprogram = both subprogram_tree head given_body

-- ---- the end of a package

-- END [n] ;
unfoldable pub unit_end : P (Unit {0})
unit_end = k.End ▸ both (λ _ x. x) (maybe name) (mark k.Semicolon)

-- ---- specifications

abbrev pub declaration_begins : List Kind
declaration_begins = k.Pragma ∷ k.Cursor ∷ name_kinds

abbrev pub item_begins : List Kind
item_begins = k.Procedure ∷ k.Function ∷ declaration_begins

-- decl | head ;
unfoldable pub package_item : P PackageItem
package_item = led head_begins (made item.Head head ◂ k.Semicolon) ∣ made item.Decl (part declaration_part)

unfoldable pub package_items : P (List PackageItem)
package_items = all (led item_begins package_item)

-- behind a package's name and IS or AS
unfoldable pub specification_rest : P (List ℕ → UnitTree)
specification_rest = both (λ items _ name. unit.Package name items) package_items unit_end

-- behind a package's name
unfoldable pub specification : P (List ℕ → UnitTree)
specification = both (λ _ f. f) is_or_as specification_rest

-- ---- bodies

unfoldable pub declarations : P (List Decl)
declarations = all (led declaration_begins (part declaration_part))

unfoldable pub subprograms : P (List Subprogram)
subprograms = all (led head_begins subprogram)

abbrev pub no_initial : Initial
no_initial = record { statements = []; handlers = [] }

-- [initial]
unfoldable pub maybe_initial : P Initial
maybe_initial = led (k.Begin ∷ []) (part initial_part) ∣ nothing no_initial

abbrev pub members_tree : List Decl → List Subprogram → Initial → BodyMembers
members_tree declarations subprograms initial = record { declarations = declarations; subprograms = subprograms; initial = initial }

-- {decl} {subprogram} [initial]
unfoldable pub body_members : P BodyMembers
body_members = both (λ declarations (f : List Decl → BodyMembers). f declarations) declarations (both (λ subprograms initial declarations. members_tree declarations subprograms initial) subprograms maybe_initial)

unfoldable pub closed_members : P BodyMembers
closed_members = both (λ members _. members) body_members unit_end

abbrev pub body_tree : List ℕ → BodyMembers → PackageBody
body_tree name members =
    record { name = name; declarations = members.declarations; subprograms = members.subprograms; statements = members.initial.statements; handlers = members.initial.handlers }

-- behind PACKAGE BODY
unfoldable pub package_body : P PackageBody
package_body = both body_tree name (both (λ _ members. members) is_or_as closed_members)

-- ---- either

-- Behind PACKAGE and the word BODY: the package BODY, or a package's body.
unfoldable pub behind_body : P (List ℕ → UnitTree)
behind_body = led (k.Is ∷ k.As ∷ []) specification ∣ made (λ body _. unit.PackageBody body) package_body

-- behind PACKAGE
unfoldable pub any_package : P UnitTree
any_package = both (λ body f. f body) (token (k.Body ∷ []) named_by) behind_body
    ∣ both (λ name f. f name) (token (names_but (k.Body ∷ [])) named_by) specification
