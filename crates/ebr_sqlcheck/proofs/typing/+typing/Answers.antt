use Rattle.std.proofs.Common.{rules}
use Rattle.ebr_exprtree.specs.declared.expression.Expr.TheViews.{the_lemmas}
use Rattle.ebr_sqlcheck.proofs.Laws.{typed-out, typed_term-out}
use Rattle.ebr_sqlcheck.proofs.typing.+typing.Goals as goal

pub typed-returns-in-Number : goal.typed-returns-in-Number
typed-returns-in-Number g t c = search (rules, the_lemmas, typed-out)

pub typed-returns-in-Text : goal.typed-returns-in-Text
typed-returns-in-Text g t c = search (rules, the_lemmas, typed-out)

pub typed-returns-in-Null : goal.typed-returns-in-Null
typed-returns-in-Null g t c = search (rules, the_lemmas, typed-out)

pub typed-returns-in-Boolean : goal.typed-returns-in-Boolean
typed-returns-in-Boolean g t c = search (rules, the_lemmas, typed-out)

pub typed-returns-in-Name : goal.typed-returns-in-Name
typed-returns-in-Name g t c = search (rules, the_lemmas, typed-out)

pub typed-returns-in-Row : goal.typed-returns-in-Row
typed-returns-in-Row g t c = search (rules, the_lemmas, typed-out)

pub typed-returns-in-Place : goal.typed-returns-in-Place
typed-returns-in-Place g t c = search (rules, the_lemmas, typed-out)

pub typed-returns-in-Bind : goal.typed-returns-in-Bind
typed-returns-in-Bind g t c = search (rules, the_lemmas, typed-out)

pub typed-returns-in-Call : goal.typed-returns-in-Call
typed-returns-in-Call g t c = search (rules, the_lemmas, typed-out)

pub typed-returns-in-Plus : goal.typed-returns-in-Plus
typed-returns-in-Plus g t c = search (rules, the_lemmas, typed-out)

pub typed-returns-in-Minus : goal.typed-returns-in-Minus
typed-returns-in-Minus g t c = search (rules, the_lemmas, typed-out)

pub typed-returns-in-Not : goal.typed-returns-in-Not
typed-returns-in-Not g t c = search (rules, the_lemmas, typed-out)

pub typed-returns-in-SqlCode : goal.typed-returns-in-SqlCode
typed-returns-in-SqlCode g t c = search (rules, the_lemmas, typed-out)

pub typed-returns-in-Firing : goal.typed-returns-in-Firing
typed-returns-in-Firing g t c = search (rules, the_lemmas, typed-out)

pub typed-returns-in-Attribute : goal.typed-returns-in-Attribute
typed-returns-in-Attribute g t c = search (rules, the_lemmas, typed-out)

pub typed-returns-in_err-wants-in-Quotient : goal.typed-returns-in_err-wants-in-Quotient
typed-returns-in_err-wants-in-Quotient g t c = search (rules, the_lemmas, typed-out)

pub typed-returns-in_ok-wants-in-Quotient : goal.typed-returns-in_ok-wants-in-Quotient
typed-returns-in_ok-wants-in-Quotient g t c = search (rules, the_lemmas, typed-out)

pub typed-returns-in_err-wants-in-Product : goal.typed-returns-in_err-wants-in-Product
typed-returns-in_err-wants-in-Product g t c = search (rules, the_lemmas, typed-out)

pub typed-returns-in_ok-wants-in-Product : goal.typed-returns-in_ok-wants-in-Product
typed-returns-in_ok-wants-in-Product g t c = search (rules, the_lemmas, typed-out)

pub typed-returns-in_err-wants-in-And : goal.typed-returns-in_err-wants-in-And
typed-returns-in_err-wants-in-And g t c = search (rules, the_lemmas, typed-out)

pub typed-returns-in_ok-wants-in-And : goal.typed-returns-in_ok-wants-in-And
typed-returns-in_ok-wants-in-And g t c = search (rules, the_lemmas, typed-out)

pub typed-returns-in_err-wants-in-Or : goal.typed-returns-in_err-wants-in-Or
typed-returns-in_err-wants-in-Or g t c = search (rules, the_lemmas, typed-out)

pub typed-returns-in_ok-wants-in-Or : goal.typed-returns-in_ok-wants-in-Or
typed-returns-in_ok-wants-in-Or g t c = search (rules, the_lemmas, typed-out)

pub typed-returns-in_err-wants-in-Like : goal.typed-returns-in_err-wants-in-Like
typed-returns-in_err-wants-in-Like g t c = search (rules, the_lemmas, typed-out)

pub typed-returns-in_err-wants-in-Like-2 : goal.typed-returns-in_err-wants-in-Like-2
typed-returns-in_err-wants-in-Like-2 g t c = search (rules, the_lemmas, typed-out)

pub typed-returns-in_ok-wants-in-Like-2 : goal.typed-returns-in_ok-wants-in-Like-2
typed-returns-in_ok-wants-in-Like-2 g t c = search (rules, the_lemmas, typed-out)

pub typed-returns-in_err-a-in-Sum : goal.typed-returns-in_err-a-in-Sum
typed-returns-in_err-a-in-Sum g t c = search (rules, the_lemmas, typed-out)

pub typed-returns-in_ok-a-in-Sum : goal.typed-returns-in_ok-a-in-Sum
typed-returns-in_ok-a-in-Sum g t c = search (rules, the_lemmas, typed-out)

pub typed-returns-in_err-a-in-Compare : goal.typed-returns-in_err-a-in-Compare
typed-returns-in_err-a-in-Compare g t c = search (rules, the_lemmas, typed-out)

pub typed-returns-in_ok-a-in-Compare : goal.typed-returns-in_ok-a-in-Compare
typed-returns-in_ok-a-in-Compare g t c = search (rules, the_lemmas, typed-out)

pub typed-returns-in_err-typed-in-IsNull : goal.typed-returns-in_err-typed-in-IsNull
typed-returns-in_err-typed-in-IsNull g t c = search (rules, the_lemmas, typed-out)

pub typed-returns-in_ok-typed-in-IsNull : goal.typed-returns-in_ok-typed-in-IsNull
typed-returns-in_ok-typed-in-IsNull g t c = search (rules, the_lemmas, typed-out)

pub typed-returns-in_err-x-in-Between : goal.typed-returns-in_err-x-in-Between
typed-returns-in_err-x-in-Between g t c = search (rules, the_lemmas, typed-out)

pub typed-returns-in_err-compared-in-Between : goal.typed-returns-in_err-compared-in-Between
typed-returns-in_err-compared-in-Between g t c = search (rules, the_lemmas, typed-out)

pub typed-returns-in_ok-compared-in-Between : goal.typed-returns-in_ok-compared-in-Between
typed-returns-in_ok-compared-in-Between g t c = search (rules, the_lemmas, typed-out)

pub typed-returns-in_err-x-in-In : goal.typed-returns-in_err-x-in-In
typed-returns-in_err-x-in-In g t c = search (rules, the_lemmas, typed-out)

pub typed-returns-in_ok-x-in-In : goal.typed-returns-in_ok-x-in-In
typed-returns-in_ok-x-in-In g t c = search (rules, the_lemmas, typed-out)

pub added_to-returns : goal.added_to-returns
added_to-returns g t c = search (rules, the_lemmas, typed_term-out)
