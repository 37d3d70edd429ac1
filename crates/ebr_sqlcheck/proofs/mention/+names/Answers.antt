use Rattle.std.proofs.Common.{rules}
use Rattle.ebr_exprtree.specs.declared.expression.Expr.TheViews.{the_lemmas}
use Rattle.ebr_sqlcheck.proofs.Laws.{names_in-out, names_in_term-out}
use Rattle.ebr_sqlcheck.proofs.mention.+names.Goals as goal

pub names_in-returns-in-Name : goal.names_in-returns-in-Name
names_in-returns-in-Name g t c = search (rules, the_lemmas, names_in-out)

pub names_in-returns-in-Row : goal.names_in-returns-in-Row
names_in-returns-in-Row g t c = search (rules, the_lemmas, names_in-out)

pub names_in-returns-in-Place : goal.names_in-returns-in-Place
names_in-returns-in-Place g t c = search (rules, the_lemmas, names_in-out)

pub names_in-returns-in-Bind : goal.names_in-returns-in-Bind
names_in-returns-in-Bind g t c = search (rules, the_lemmas, names_in-out)

pub names_in-returns-in-Call : goal.names_in-returns-in-Call
names_in-returns-in-Call g t c = search (rules, the_lemmas, names_in-out)

pub names_in-returns-in-Plus : goal.names_in-returns-in-Plus
names_in-returns-in-Plus g t c = search (rules, the_lemmas, names_in-out)

pub names_in-returns-in-Minus : goal.names_in-returns-in-Minus
names_in-returns-in-Minus g t c = search (rules, the_lemmas, names_in-out)

pub names_in-returns-in-IsNull : goal.names_in-returns-in-IsNull
names_in-returns-in-IsNull g t c = search (rules, the_lemmas, names_in-out)

pub names_in-returns-in-Not : goal.names_in-returns-in-Not
names_in-returns-in-Not g t c = search (rules, the_lemmas, names_in-out)

pub names_in-returns-in-Number : goal.names_in-returns-in-Number
names_in-returns-in-Number g t c = search (rules, the_lemmas, names_in-out)

pub names_in-returns-in-Text : goal.names_in-returns-in-Text
names_in-returns-in-Text g t c = search (rules, the_lemmas, names_in-out)

pub names_in-returns-in-Null : goal.names_in-returns-in-Null
names_in-returns-in-Null g t c = search (rules, the_lemmas, names_in-out)

pub names_in-returns-in-Boolean : goal.names_in-returns-in-Boolean
names_in-returns-in-Boolean g t c = search (rules, the_lemmas, names_in-out)

pub names_in-returns-in-SqlCode : goal.names_in-returns-in-SqlCode
names_in-returns-in-SqlCode g t c = search (rules, the_lemmas, names_in-out)

pub names_in-returns-in-Firing : goal.names_in-returns-in-Firing
names_in-returns-in-Firing g t c = search (rules, the_lemmas, names_in-out)

pub names_in-returns-in-Attribute : goal.names_in-returns-in-Attribute
names_in-returns-in-Attribute g t c = search (rules, the_lemmas, names_in-out)

pub names_in-returns-in_err-names_in-in-Quotient : goal.names_in-returns-in_err-names_in-in-Quotient
names_in-returns-in_err-names_in-in-Quotient g t c = search (rules, the_lemmas, names_in-out)

pub names_in-returns-in_ok-names_in-in-Quotient : goal.names_in-returns-in_ok-names_in-in-Quotient
names_in-returns-in_ok-names_in-in-Quotient g t c = search (rules, the_lemmas, names_in-out)

pub names_in-returns-in_err-names_in-in-Product : goal.names_in-returns-in_err-names_in-in-Product
names_in-returns-in_err-names_in-in-Product g t c = search (rules, the_lemmas, names_in-out)

pub names_in-returns-in_ok-names_in-in-Product : goal.names_in-returns-in_ok-names_in-in-Product
names_in-returns-in_ok-names_in-in-Product g t c = search (rules, the_lemmas, names_in-out)

pub names_in-returns-in_err-names_in-in-Sum : goal.names_in-returns-in_err-names_in-in-Sum
names_in-returns-in_err-names_in-in-Sum g t c = search (rules, the_lemmas, names_in-out)

pub names_in-returns-in_ok-names_in-in-Sum : goal.names_in-returns-in_ok-names_in-in-Sum
names_in-returns-in_ok-names_in-in-Sum g t c = search (rules, the_lemmas, names_in-out)

pub names_in-returns-in_err-names_in-in-Compare : goal.names_in-returns-in_err-names_in-in-Compare
names_in-returns-in_err-names_in-in-Compare g t c = search (rules, the_lemmas, names_in-out)

pub names_in-returns-in_ok-names_in-in-Compare : goal.names_in-returns-in_ok-names_in-in-Compare
names_in-returns-in_ok-names_in-in-Compare g t c = search (rules, the_lemmas, names_in-out)

pub names_in-returns-in_err-names_in-in-In : goal.names_in-returns-in_err-names_in-in-In
names_in-returns-in_err-names_in-in-In g t c = search (rules, the_lemmas, names_in-out)

pub names_in-returns-in_ok-names_in-in-In : goal.names_in-returns-in_ok-names_in-in-In
names_in-returns-in_ok-names_in-in-In g t c = search (rules, the_lemmas, names_in-out)

pub names_in-returns-in_err-names_in-in-Like : goal.names_in-returns-in_err-names_in-in-Like
names_in-returns-in_err-names_in-in-Like g t c = search (rules, the_lemmas, names_in-out)

pub names_in-returns-in_ok-names_in-in-Like : goal.names_in-returns-in_ok-names_in-in-Like
names_in-returns-in_ok-names_in-in-Like g t c = search (rules, the_lemmas, names_in-out)

pub names_in-returns-in_err-names_in-in-And : goal.names_in-returns-in_err-names_in-in-And
names_in-returns-in_err-names_in-in-And g t c = search (rules, the_lemmas, names_in-out)

pub names_in-returns-in_ok-names_in-in-And : goal.names_in-returns-in_ok-names_in-in-And
names_in-returns-in_ok-names_in-in-And g t c = search (rules, the_lemmas, names_in-out)

pub names_in-returns-in_err-names_in-in-Or : goal.names_in-returns-in_err-names_in-in-Or
names_in-returns-in_err-names_in-in-Or g t c = search (rules, the_lemmas, names_in-out)

pub names_in-returns-in_ok-names_in-in-Or : goal.names_in-returns-in_ok-names_in-in-Or
names_in-returns-in_ok-names_in-in-Or g t c = search (rules, the_lemmas, names_in-out)

pub names_in-returns-in_err-names_in-in-Between : goal.names_in-returns-in_err-names_in-in-Between
names_in-returns-in_err-names_in-in-Between g t c = search (rules, the_lemmas, names_in-out)

pub names_in-returns-in_err-names_in-in-Between-2 : goal.names_in-returns-in_err-names_in-in-Between-2
names_in-returns-in_err-names_in-in-Between-2 g t c = search (rules, the_lemmas, names_in-out)

pub names_in-returns-in_ok-names_in-in-Between-2 : goal.names_in-returns-in_ok-names_in-in-Between-2
names_in-returns-in_ok-names_in-in-Between-2 g t c = search (rules, the_lemmas, names_in-out)

pub term_name-returns : goal.term_name-returns
term_name-returns g t c = search (rules, the_lemmas, names_in_term-out)
