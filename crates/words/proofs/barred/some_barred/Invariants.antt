use Rattle.std.proofs.Common.{◌≡◌, drop, map, string_bytes}
use Rattle.std.specs.List.{list_any}
use Rattle.words.specs.Barred.{is_barred_word}
use Rattle.words.proofs.barred.some_barred.Given as goal

abbrev pub invariant-loop-word : goal.invariant-loop-word
invariant-loop-word l = list_any is_barred_word (map string_bytes (drop l.word-index l.words))
    ≡ list_any is_barred_word (map string_bytes l.words)
