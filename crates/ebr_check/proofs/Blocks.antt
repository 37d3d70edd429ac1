-- The places of a block, of its handlers, and of a loop that makes a name known, noted part by part.
use Rattle.std.proofs.Common.{◌≡◌, ℕ, true, false, List, [], ◌∷◌, ◌++◌, map, Option, refl, sym, ap, ◌∙◌}
use Rattle.std.specs.List.{filter_map}
use Rattle.ebr_ast.specs.declared.statement.Block.{Block, out-Block}
use Rattle.ebr_ast.specs.declared.statement.Caught.{Caught}
use Rattle.ebr_ast.specs.declared.statement.Decl.{Decl}
use Rattle.ebr_ast.specs.declared.statement.Handler.{Handler, out-Handler}
use Rattle.ebr_ast.specs.declared.statement.Stmt.{Stmt}
use Rattle.ebr_scope.specs.declared.place.Place.{Place}
use Rattle.ebr_scope.specs.Meanings.{Scope}
use Rattle.ebr_scope.specs.Declarations.{decl_name}
use Rattle.ebr_scope.specs.Around.{Env, knowing, within_block, within_loop}
use Rattle.ebr_scope.specs.Lent.{env}
use Rattle.ebr_validity.specs.Sites.{Site, Declares, Pragmas, Handles}
use Rattle.ebr_rules.specs.Noted.{noted}
use Rattle.ebr_validity.specs.Targets.{In}
use Rattle.ebr_rules.proofs.Laws.{noted_append}
use Rattle.ebr_check.specs.inside.Caught as written
use Rattle.ebr_validity.specs.Statements.{Handling, each, in_statement, in_body, in_handler, caught_of, caught_in_full, inside_of, handlers, decls_sites, with_decls}
use Rattle.ebr_check.proofs.Laws.{body-out, handler-out}

-- ---- blocks

-- the places of a block with these declarations
abbrev block_sites : Block → List Decl → In
block_sites b ds around =
    let inner = within_block (with_decls ds around) around in
    Declares (filter_map decl_name ds) ∷ Pragmas around.outermost ds ∷ (decls_sites ds around
    ++ (each (map in_statement (out-Block b).statements) inner ++ handlers (map in_handler (out-Block b).handlers) inner))

pub block_noted : (b : Block) (ds : List Decl) (place inner : Place) (k k1 k2 : Scope) (l l1 l2 l3 l4 n : Option ℕ)
    → ds ≡ (out-Block b).declarations
    → l1 ≡ noted (Declares (filter_map decl_name ds) ∷ []) l
    → l2 ≡ noted (Pragmas place.outermost ds ∷ []) l1
    → l3 ≡ noted (decls_sites ds (env place k)) l2
    → k1 ≡ with_decls ds (env place k)
    → inner ≡ record place { outermost = false }
    → l4 ≡ noted (each (map in_statement (out-Block b).statements) (env inner k1)) l3
    → k2 ≡ k1
    → n ≡ noted (handlers (map in_handler (out-Block b).handlers) (env inner k2)) l4
    → n ≡ noted (in_body b (env place k)) l
block_noted b ds place inner k k1 k2 l l1 l2 l3 l4 n d h1 h2 h3 s1 p h4 s2 h5 =
    let around : Env = env place k in
    let ss = each (map in_statement (out-Block b).statements) in
    let hs = handlers (map in_handler (out-Block b).handlers) in
    let behind : Env = within_block (with_decls ds around) around in
    let q : env inner k1 ≡ behind = ap (λ (x : Place). env x k1) p ∙ ap (env (record place { outermost = false })) s1 in
    h5
    ∙ ap (λ (x : Env). noted (hs x) l4) (ap (env inner) s2 ∙ q)
    ∙ ap (noted (hs behind)) (h4 ∙ ap (λ (x : Env). noted (ss x) l3) q)
    ∙ sym (noted_append (ss behind) (hs behind) l3)
    ∙ ap (noted (ss behind ++ hs behind)) h3
    ∙ sym (noted_append (decls_sites ds around) (ss behind ++ hs behind) l2)
    ∙ ap (noted (decls_sites ds around ++ (ss behind ++ hs behind))) (h2 ∙ ap (noted (Pragmas place.outermost ds ∷ [])) h1)
    ∙ ap (λ (xs : List Decl). noted (block_sites b xs around) l) d
    ∙ ap (λ (f : In). noted (f around) l) (sym (body-out b))

-- ---- loops

-- the body of a loop that makes a name known, behind what comes before
pub loop_noted : (before : List Site) (list : List Stmt) (place inner : Place) (k k1 known : Scope) (l m n : Option ℕ)
    → m ≡ noted before l
    → k1 ≡ known
    → inner ≡ record place { in_loop = true }
    → n ≡ noted (each (map in_statement list) (env inner k1)) m
    → n ≡ noted (before ++ each (map in_statement list) (within_loop (knowing known (env place k)))) l
loop_noted before list place inner k k1 known l m n h s p b =
    let body = each (map in_statement list) in
    let behind : Env = within_loop (knowing known (env place k)) in
    let q : env inner k1 ≡ behind = ap (λ (x : Place). env x k1) p ∙ ap (env (record place { in_loop = true })) s in
    b
    ∙ ap (λ (x : Env). noted (body x) m) q
    ∙ ap (noted (body behind)) h
    ∙ sym (noted_append before (body behind) l)

-- ---- handlers

caught_same : (hs : List Handler) → map caught_of (map in_handler hs) ≡ map written.caught_of hs
caught_same [] = refl
caught_same (h ∷ hs) =
    ap (λ (x : Handling). x.caught ∷ map caught_of (map in_handler hs)) (handler-out h)
    ∙ ap (λ (cs : List Caught). (out-Handler h).caught ∷ cs) (caught_same hs)

pub handlers_noted : (hs slice : List Handler) (around : Env) (l m n : Option ℕ)
    → slice ≡ hs
    → m ≡ noted (Handles (map (caught_in_full around) (map written.caught_of slice)) ∷ []) l
    → n ≡ noted (each (map inside_of (map in_handler hs)) around) m
    → n ≡ noted (handlers (map in_handler hs) around) l
handlers_noted hs slice around l m n q h e =
    e
    ∙ ap (noted (each (map inside_of (map in_handler hs)) around))
    (h ∙ ap (λ (cs : List Caught). noted (Handles (map (caught_in_full around) cs) ∷ []) l) (ap (map written.caught_of) q ∙ sym (caught_same hs)))
