use Rattle.std.proofs.Common.{◌+◌, ◌&&◌, map, length, take, ap, sym, ◌∙◌, refl}
use Rattle.std.specs.List.{prefix_len}
use Rattle.std.specs.Str.{bytes_eq}
use Rattle.ebr_base.specs.Word.{is_word_byte, upper}
use Rattle.ebr_cut.proofs.Lengths.{bounded}
use Rattle.ebr_cut.proofs.head.is_spelled.Goals as goal

pub returns-then-begins_with_letter : goal.returns-then-begins_with_letter
returns-then-begins_with_letter c =
    let word = c.args.word.now in
    let bytes = c.args.bytes.now in
    let run = c.run_length-length.ensures.value ∙ ap (prefix_len is_word_byte) c.front_of.ensures in
    c.is_same.ensures ∙ ap (λ n. bytes_eq (map upper (take n bytes)) word) run ∙ sym (bounded word bytes (length word + 1) refl)
    ∙ ap (λ b. b && bytes_eq (map upper (take (prefix_len is_word_byte bytes) bytes)) word) c.if-begins_with_letter.ensures
