-- A text that is cut into its lines: graphic bytes, and a line feed behind each line.
use Rattle.std.proofs.Common.{◌≡◌, ℕ, zero, suc, ◌-◌, Bool, true, false, ◌==◌, nat_le, List, [], ◌∷◌, ◌++◌, length, get_or, take_all, map, refl, ap, ◌∙◌, arith}
use Rattle.std.specs.List.{list_all, prefix_len, suffix_len}
use Rattle.std.proofs.lemmas.Bool.{and_parts}
use Rattle.std.proofs.lemmas.Bool.Decides.{nat_tests}
use Rattle.std.proofs.lemmas.List.Sums.{prefix_len_is, suffix_len_is}
use Rattle.dxf_groups.specs.TextLines.{is_feed, is_blank, text_lines, without_return, without_leading_blanks, without_trailing_blanks, content_of, contents_of}

-- a byte that is neither a blank nor the end of a line: none of those, nor of the control codes
abbrev pub is_graphic : ℕ → Bool
is_graphic b = nat_le 33 b

-- a text of such bytes
abbrev pub are_graphic : List ℕ → Bool
are_graphic text = list_all is_graphic text

-- a test that no graphic byte passes
record Misses (test : ℕ → Bool) : Type 0 where
  outside : test 0 ≡ false
  graphic : (b : ℕ) → is_graphic b ≡ true → test b ≡ false

feeds_missed : Misses is_feed
feeds_missed = record { outside = refl; graphic = λ b is. grind (arith, nat_tests) }

blanks_missed : Misses is_blank
blanks_missed = record { outside = refl; graphic = λ b is. grind (arith, nat_tests) }

returns_missed : Misses (λ b. b == 13)
returns_missed = record { outside = refl; graphic = λ b is. grind (arith, nat_tests) }

-- at no place of such a text does one pass it, nor past its end
missed_at : (test : ℕ → Bool) → Misses test → (text : List ℕ) (i : ℕ) → are_graphic text ≡ true
    → test (get_or text i 0) ≡ false
missed_at test missed [] i graphic = missed.outside
missed_at test missed (b ∷ bs) zero graphic =
    missed.graphic b (and_parts (is_graphic b) (are_graphic bs) graphic).0
missed_at test missed (b ∷ bs) (suc i) graphic =
    missed_at test missed bs i (and_parts (is_graphic b) (are_graphic bs) graphic).1

-- such a text before a line feed is the first line
line_cut : (text rest : List ℕ) → are_graphic text ≡ true
    → text_lines (text ++ 10 ∷ rest) ≡ text ∷ text_lines rest
line_cut [] rest graphic = refl
line_cut (b ∷ bs) rest graphic =
    let parts = and_parts (is_graphic b) (are_graphic bs) graphic in
    rw (feeds_missed.graphic b parts.0, line_cut bs rest parts.1) refl

module _ (text : List ℕ) (graphic : are_graphic text ≡ true) where
  -- it has no carriage return at its end
  returns_kept : without_return text ≡ text
  returns_kept =
      rw (missed_at (λ b. b == 13) returns_missed text (length text - 1) graphic)
      (take_all (length text - 0) text (omega arith))

  -- nor blanks that it begins with
  beginning_kept : without_leading_blanks text ≡ text
  beginning_kept =
      let none : prefix_len is_blank text ≡ 0 =
      prefix_len_is is_blank text 0 0 (omega arith) (λ k below. absurd (omega arith))
      (λ some. missed_at is_blank blanks_missed text 0 graphic) in
      rw none refl

  -- nor blanks that it ends with
  end_kept : without_trailing_blanks text ≡ text
  end_kept =
      let none : suffix_len is_blank text ≡ length text - length text =
      suffix_len_is is_blank text (length text) 0 (omega arith)
      (λ k from below. absurd (omega arith))
      (λ some. missed_at is_blank blanks_missed text (length text - 1) graphic) in
      take_all (length text - suffix_len is_blank text) text (omega arith)

  -- so all of it counts
  all_counts : content_of text ≡ text
  all_counts =
      ap (λ t. without_trailing_blanks (without_leading_blanks t)) returns_kept
      ∙ (ap without_trailing_blanks beginning_kept ∙ end_kept)

  -- what counts of it before a line feed, and of what follows
  pub content_cut : (rest : List ℕ) → contents_of (text ++ 10 ∷ rest) ≡ text ∷ contents_of rest
  content_cut rest =
      ap (map content_of) (line_cut text rest graphic)
      ∙ ap (λ t. t ∷ contents_of rest) all_counts
