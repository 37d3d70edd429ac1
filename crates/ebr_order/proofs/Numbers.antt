-- Numbers that are cut at a bound.
use Rattle.std.proofs.Common.{ℕ, ◌≡◌, ◌+◌, ◌-◌, ◌*◌, ◌<◌, Bool, true, false, List, [], ◌∷◌, length, drop, get_or, min, if◌then◌else◌, arith, sym, ◌∙◌, ap}
use Rattle.std.proofs.lemmas.List.{at_drop_more}
use Rattle.ebr_base.specs.Word.{is_digit}
use Rattle.ebr_order.specs.Order.{number_after}

-- with the digit in front or without it
same_by : (bound m n : ℕ) (bytes : List ℕ) (more more' : ℕ) (q : Bool) → min bound m ≡ min bound n → min bound (number_after more bytes) ≡ min bound (number_after more' bytes)
    → min bound (if q then number_after more bytes else m) ≡ min bound (if q then number_after more' bytes else n)
same_by bound m n bytes more more' true same on = on
same_by bound m n bytes more more' false same on = same

-- Numbers that are equal up to a bound stay so behind more digits.
pub same_up_to : (bound m n : ℕ) (bytes : List ℕ) → min bound m ≡ min bound n → min bound (number_after m bytes) ≡ min bound (number_after n bytes)
same_up_to bound m n [] same = same
same_up_to bound m n (b ∷ bytes) same =
    same_by bound m n bytes (m * 10 + (b - 48)) (n * 10 + (b - 48)) (is_digit b) same (same_up_to bound (m * 10 + (b - 48)) (n * 10 + (b - 48)) bytes (omega (arith, same)))

after_digit : (n b : ℕ) (bytes : List ℕ) → is_digit b ≡ true → number_after n (b ∷ bytes) ≡ number_after (n * 10 + (b - 48)) bytes
after_digit n b bytes digit = ap (λ q. if q then number_after (n * 10 + (b - 48)) bytes else n) digit

-- One digit more is read, and the number is cut.
pub more : (bound n m b at whole : ℕ) (bytes : List ℕ) → at < length bytes → get_or bytes at 0 ≡ b → is_digit b ≡ true → m ≡ min (n * 10 + (b - 48)) bound
    → min bound (number_after n (drop at bytes)) ≡ whole → min bound (number_after m (drop (at + 1) bytes)) ≡ whole
more bound n m b at whole bytes within is digit made so_far =
    let rest : List ℕ = drop (at + 1) bytes in
    let front : number_after n (drop at bytes) ≡ number_after (n * 10 + (b - 48)) rest =
    at_drop_more (number_after n) bytes at 0 within ∙ ap (λ x. number_after n (x ∷ rest)) is ∙ after_digit n b rest digit in
    same_up_to bound m (n * 10 + (b - 48)) rest (omega (arith, made)) ∙ sym (ap (min bound) front) ∙ so_far
