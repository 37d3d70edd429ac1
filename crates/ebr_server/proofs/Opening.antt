-- What was read of what a word names.
use Rattle.std.proofs.Common.{ℕ, ◌≡◌, ◌<◌, ◌≤◌, List, [], length, take, get_or, false, ◌∷◌, Option, Some, None, min, true, arith, refl, sym, ◌∙◌, ap, subst}
use Rattle.std.specs.Prelude.{IfSome, unwrap_or}
use Rattle.std.proofs.lemmas.List.{take_all, length-take}
use Rattle.std.proofs.lemmas.Option.{slice_get-get_or}
use Rattle.ebr_outside.specs.HostCalls.{with_call}
use Rattle.ebr_outside.specs.declared.host_call.HostCall.{HostCall}
use Rattle.ebr_outside.specs.declared.host_call.HostMethod.TheVariants as method
use Rattle.ebr_server.specs.declared.exit.ExitCode.{ExitCode}
use Rattle.ebr_server.specs.declared.exit.ExitCode.TheVariants as code
use Rattle.ebr_outside.specs.Disk.{HoldsJust, Medium}
use Rattle.ebr_server.specs.Disks.{IsEntry}
use Rattle.ebr_server.specs.Program.{CallsInOrder, IsLong, disk_at, source_at, told_at, word_at}
use Rattle.ebr_server.specs.inside.Opened.{Fails, WasRead, with_steps}
use Rattle.ebr_server.proofs.Calls.{one_failed, one_step}

abbrev pub word_is : (words : List (List ℕ)) (at : ℕ) (w d : List ℕ) → at < length words → w ≡ get_or words at d → word_at words at ≡ w
word_is words at w d within is = ap (λ o. unwrap_or o []) (slice_get-get_or words at d within) ∙ sym is

-- the one step of opening it, which came through
pub opened_so : (words : List (List ℕ)) (at : ℕ) (w d : List ℕ) (o new : Option (List HostCall)) → at < length words → w ≡ get_or words at d → new ≡ with_call o (record { method = method.Source; word = w; failed = false }) → new ≡ with_steps o (source_at words at ∷ [])
opened_so words at w d o new within is called =
    called ∙ ap (λ v. with_call o (record { method = method.Source; word = v; failed = false })) (sym (word_is words at w d within is)) ∙ one_step o (source_at words at)

-- what was read, by what is told of the source
read_told : (told left : Option (List ℕ)) (text : List ℕ) (n : ℕ) → IfSome told (λ b. left ≡ Some b) → IfSome left (λ l. text ≡ take n l) → IfSome told (λ b. text ≡ take n b)
read_told None left text n of_told of_left = tt
read_told (Some b) left text n of_told of_left =
    let P : Option (List ℕ) → Type 0 = λ o. IfSome o (λ l. text ≡ take n l) in
    subst P of_told of_left

whole : (text b : List ℕ) (n : ℕ) → text ≡ take n b → length text < n → text ≡ b
whole text b n e short =
    let m : length text ≡ min n (length b) = ap length e ∙ length-take n b in
    e ∙ take_all n b (omega (arith, m, short))

read_whole : (told : Option (List ℕ)) (text : List ℕ) (n : ℕ) → IfSome told (λ b. text ≡ take n b) → length text < n → IfSome told (λ b. text ≡ b)
read_whole None text n e short = tt
read_whole (Some b) text n e short = whole text b n e short

read_long : (told : Option (List ℕ)) (text : List ℕ) (n limit : ℕ) → IfSome told (λ b. text ≡ take n b) → limit < length text → IfSome told (λ b. limit < length b)
read_long None text n limit e long = tt
read_long (Some b) text n limit e long =
    let m : length text ≡ min n (length b) = ap length e ∙ length-take n b in
    omega (arith, m, long)

module _ (bytes : List ℕ → Option (List ℕ)) (words : List (List ℕ)) (at : ℕ) (w d text : List ℕ) (left : Option (List ℕ)) (within : at < length words) (is : w ≡ get_or words at d)
    (of_told : IfSome (bytes w) (λ b. left ≡ Some b)) (of_left : IfSome left (λ l. text ≡ take 1048577 l)) where
  read_here : IfSome (told_at bytes words at) (λ b. text ≡ take 1048577 b)
  read_here = subst (λ v. IfSome (bytes v) (λ b. text ≡ take 1048577 b)) (sym (word_is words at w d within is)) (read_told (bytes w) left text 1048577 of_told of_left)

  pub was_read : length text ≤ 1048576 → WasRead bytes words at text
  was_read short = record { is = read_whole (told_at bytes words at) text 1048577 read_here (omega (arith, short)); short = short }

  pub too_long : (fails : Type 0) (c : ExitCode) → 1048576 < length text → c ≡ code.TooLong at → Fails bytes words at fails c
  too_long fails c long is_code =
      let there : (at ≡ at) × IsLong bytes words at = (refl, read_long (told_at bytes words at) text 1048577 1048576 read_here long) in
      subst (Fails bytes words at fails) (sym is_code) there

-- ---- a disk

-- what the host tells of it
pub entry_so : {D : Type 0} (as_medium : D → Medium) (disks : List ℕ → Option (List ℕ)) (words : List (List ℕ)) (at : ℕ) (w d : List ℕ) (disk : D) → at < length words → w ≡ get_or words at d → IfSome (disks w) (HoldsJust (as_medium disk)) → (as_medium disk).faults ≡ 0
    → IsEntry as_medium (disks (word_at words at)) disk
entry_so as_medium disks words at w d disk within is holds fresh = record {
  holds = subst (λ v. IfSome (disks v) (HoldsJust (as_medium disk))) (sym (word_is words at w d within is)) holds;
  fresh = fresh;
}

-- the one step of opening it, which came through, or failed
pub disk_so : (words : List (List ℕ)) (at : ℕ) (w d : List ℕ) (o new : Option (List HostCall)) → at < length words → w ≡ get_or words at d → new ≡ with_call o (record { method = method.Disk; word = w; failed = false }) → new ≡ with_steps o (disk_at words at ∷ [])
disk_so words at w d o new within is called =
    called ∙ ap (λ v. with_call o (record { method = method.Disk; word = v; failed = false })) (sym (word_is words at w d within is)) ∙ one_step o (disk_at words at)

pub disk_not : (words : List (List ℕ)) (at : ℕ) (w d : List ℕ) (o new : Option (List HostCall)) → at < length words → w ≡ get_or words at d → new ≡ with_call o (record { method = method.Disk; word = w; failed = true }) → CallsInOrder o new (disk_at words at ∷ []) (Some at) [] false
disk_not words at w d o new within is called =
    one_failed o new (disk_at words at) (called ∙ ap (λ v. with_call o (record { method = method.Disk; word = v; failed = true })) (sym (word_is words at w d within is)))
