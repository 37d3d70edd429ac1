-- What a tree that is made of its parts does: one line of its definition.
use Rattle.std.proofs.Common.{◌≡◌}
use Rattle.ebr_exprtree.specs.declared.expression.Expr.{Expr}
use Rattle.ebr_exprtree.specs.declared.expression.Addend.{Addend}
use Rattle.ebr_exprtree.specs.declared.expression.Expr.TheOpen.{Expr-F, Addend-F}
use Rattle.ebr_exprtree.specs.declared.expression.Expr.TheViews.{roll-Expr, roll-Addend}
use Rattle.ebr_exprtree.specs.declared.expression.Expr.TheFolds.{fold-roll-Expr, fold-roll-Addend, map-Expr, map-Addend}
use Rattle.ebr_ast.specs.declared.statement.Block.{Block}
use Rattle.ebr_ast.specs.declared.statement.Branch.{Branch}
use Rattle.ebr_ast.specs.declared.statement.Handler.{Handler}
use Rattle.ebr_ast.specs.declared.statement.Stmt.{Stmt}
use Rattle.ebr_ast.specs.declared.statement.Stmt.TheOpen.{Stmt-F, Block-F, Branch-F, Handler-F}
use Rattle.ebr_ast.specs.declared.statement.Stmt.TheViews.{roll-Stmt, roll-Block, roll-Branch, roll-Handler}
use Rattle.ebr_ast.specs.declared.statement.Stmt.TheFolds.{fold-roll-Stmt, fold-roll-Block, fold-roll-Branch, fold-roll-Handler, map-Stmt, map-Block, map-Branch, map-Handler}
use Rattle.ebr_run.specs.Expressions.{Reading, Term, reads, term, reading_of, term_of}
use Rattle.ebr_run.specs.Statements.{Meaning, Handling, act, in_block, branch, handler, meaning_of, block_meaning, handling_of}
use Rattle.ebr_run.specs.inside.Branches.{branch_of}

pub reading-roll : (d : Expr-F Expr Addend) → reading_of (roll-Expr d) ≡ reads (map-Expr Expr Addend Reading Term reading_of term_of d)
unfolding reading_of term_of
reading-roll d = fold-roll-Expr Reading Term reads term d

pub term-roll : (d : Addend-F Expr Addend) → term_of (roll-Addend d) ≡ term (map-Addend Expr Addend Reading Term reading_of term_of d)
unfolding reading_of term_of
term-roll d = fold-roll-Addend Reading Term reads term d

pub meaning-roll : (d : Stmt-F Stmt Block Branch Handler)
    → meaning_of (roll-Stmt d) ≡ act (map-Stmt Stmt Block Branch Handler Meaning Meaning (Expr × Meaning) Handling meaning_of block_meaning branch_of handling_of d)
unfolding meaning_of block_meaning branch_of handling_of
meaning-roll d = fold-roll-Stmt Meaning Meaning (Expr × Meaning) Handling act in_block branch handler d

pub block-roll : (d : Block-F Stmt Block Branch Handler)
    → block_meaning (roll-Block d) ≡ in_block (map-Block Stmt Block Branch Handler Meaning Meaning (Expr × Meaning) Handling meaning_of block_meaning branch_of handling_of d)
unfolding meaning_of block_meaning branch_of handling_of
block-roll d = fold-roll-Block Meaning Meaning (Expr × Meaning) Handling act in_block branch handler d

pub branch-roll : (d : Branch-F Stmt Block Branch Handler)
    → branch_of (roll-Branch d) ≡ branch (map-Branch Stmt Block Branch Handler Meaning Meaning (Expr × Meaning) Handling meaning_of block_meaning branch_of handling_of d)
unfolding meaning_of block_meaning branch_of handling_of
branch-roll d = fold-roll-Branch Meaning Meaning (Expr × Meaning) Handling act in_block branch handler d

pub handler-roll : (d : Handler-F Stmt Block Branch Handler)
    → handling_of (roll-Handler d) ≡ handler (map-Handler Stmt Block Branch Handler Meaning Meaning (Expr × Meaning) Handling meaning_of block_meaning branch_of handling_of d)
unfolding meaning_of block_meaning branch_of handling_of
handler-roll d = fold-roll-Handler Meaning Meaning (Expr × Meaning) Handling act in_block branch handler d
