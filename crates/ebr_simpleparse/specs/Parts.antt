-- Declarations, simple statements and parts of others, as forms of another grammar.
use Rattle.std.specs.Prelude.{[], ◌∷◌}
use Rattle.ebr_grammar.specs.declared.kind.Kind.TheVariants as k
use Rattle.ebr_grammar.specs.Kinds.{name_kinds}
use Rattle.ebr_grammar.specs.Forms.{Outer}
use Rattle.ebr_ast.specs.declared.statement.Caught.{Caught}
use Rattle.ebr_ast.specs.declared.statement.Decl.{Decl}
use Rattle.ebr_ast.specs.declared.statement.Stmt.{Stmt}
use Rattle.ebr_exprparse.specs.declared.level.Level.TheVariants.{Whole}
use Rattle.ebr_exprparse.specs.Expressions.{begins}
use Rattle.ebr_simpleparse.specs.declared.headings.Heading.{Heading}
use Rattle.ebr_simpleparse.specs.Productions.{SpelledBy, reads_by}
use Rattle.ebr_simpleparse.specs.Paths.{Called, call, caught}
use Rattle.ebr_simpleparse.specs.Simple.{simple, simple_begins}
use Rattle.ebr_simpleparse.specs.Declarations.{declaration, declaration_begins}
use Rattle.ebr_simpleparse.specs.Headings.{SpellsHeading, heading_reader}

-- n [. n] [( [e {, e}] )]: ebr_simpleparse::read_call
abbrev pub call_part : Outer Called
call_part = record { begins = name_kinds; goes_on = k.LeftParen ∷ k.Dot ∷ []; form = SpelledBy call; reader = reads_by call }

-- OTHERS | n [. n] {OR n [. n]}: ebr_simpleparse::read_caught
abbrev pub caught_part : Outer Caught
caught_part = record { begins = name_kinds; goes_on = k.Or ∷ k.Dot ∷ []; form = SpelledBy caught; reader = reads_by caught }

-- Statements that hold no others: ebr_simpleparse::read_simple.
abbrev pub simple_part : Outer Stmt
simple_part = record { begins = simple_begins; goes_on = []; form = SpelledBy simple; reader = reads_by simple }

-- ebr_simpleparse::read_declaration
abbrev pub declaration_part : Outer Decl
declaration_part = record { begins = declaration_begins; goes_on = []; form = SpelledBy declaration; reader = reads_by declaration }

-- What a FOR loop goes over, up to and with LOOP: ebr_simpleparse::read_heading.
abbrev pub heading_part : Outer Heading
heading_part = record { begins = begins Whole; goes_on = []; form = SpellsHeading; reader = heading_reader }
