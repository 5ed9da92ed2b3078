-- What counts of a line at whose ends no blank stands but spaces and a carriage return.
use Rattle.std.proofs.Common.{◌≡◌, ℕ, ◌+◌, ◌-◌, ◌≤◌, ◌<◌, true, false, cond, eqb, List, length, take, drop, slice_index, sym, ap, subst, ◌∙◌, arith}
use Rattle.std.proofs.lemmas.Bool.Decides.{nat_tests}
use Rattle.std.proofs.lemmas.List.{get_or-drop, get_or-take, length-drop, length-take, take_all}
use Rattle.std.proofs.lemmas.List.Sums.{prefix_len_is, suffix_len_is}
use Rattle.std.specs.List.{suffix_len}
use Rattle.dxf_groups.specs.TextLines.{content_of, is_blank, without_leading_blanks, without_return, without_trailing_blanks}
use Rattle.dxf_groups.specs.Spans.{span_of}
use Rattle.dxf_groups.proofs.FirstLines.{part_of_prefix}

-- a byte above the space is no blank
above_space : (b : ℕ) → 32 < b → is_blank b ≡ false
above_space b is = grind (arith, nat_tests, is)

-- a list without the blanks that it begins with, where these are counted
leading_gone : (xs : List ℕ) (start : ℕ) → start < length xs
    → ((k : ℕ) → k < start → is_blank (slice_index xs k) ≡ true)
    → is_blank (slice_index xs start) ≡ false → without_leading_blanks xs ≡ drop start xs
leading_gone xs start within blanks stops =
    ap (λ n. drop n xs) (prefix_len_is is_blank xs start 0 (omega arith) blanks (λ _. stops))

-- a list that ends with no blank
no_trailing : (xs : List ℕ) → 0 < length xs → is_blank (slice_index xs (length xs - 1)) ≡ false
    → without_trailing_blanks xs ≡ xs
no_trailing xs some stops =
    let none = suffix_len_is is_blank xs (length xs) 0 (omega arith) (λ k le lt. absurd (omega arith)) (λ _. stops) in
    take_all (length xs - suffix_len is_blank xs) xs (omega (arith, none))

-- what counts of a prefix of a line, as a part of the line
near_counts : (line : List ℕ) (start m : ℕ) → start < length (take m line)
    → ((k : ℕ) → k < start → is_blank (slice_index line k) ≡ true)
    → is_blank (slice_index (take m line) start) ≡ false
    → is_blank (slice_index (take m line) (length (take m line) - 1)) ≡ false
    → take (length (take m line) - start) (drop start line)
    ≡ without_trailing_blanks (without_leading_blanks (take m line))
near_counts line start m within blanks first last =
    let bare = take m line in
    let few = length-take m line in
    let blanks_of_bare : (k : ℕ) → k < start → is_blank (slice_index bare k) ≡ true =
    λ k lt. ap is_blank (get_or-take m line k 0 (omega arith)) ∙ blanks k lt in
    let rest = drop start bare in
    let long = length-drop start bare in
    let at_last : start + (length rest - 1) ≡ length bare - 1 = omega arith in
    let ends : is_blank (slice_index rest (length rest - 1)) ≡ false =
    ap is_blank (get_or-drop start bare (length rest - 1) 0 ∙ ap (λ k. slice_index bare k) at_last) ∙ last in
    sym (part_of_prefix line start (length bare - start) m (omega arith))
    ∙ take_all (length bare - start) rest (omega arith)
    ∙ sym (no_trailing rest (omega arith) ends)
    ∙ ap without_trailing_blanks (sym (leading_gone bare start within blanks_of_bare first))

-- what counts of the first line of a text, where neither its first byte behind the spaces nor the last
-- one before its carriage return is a blank
pub near_content : (text : List ℕ) (feed start : ℕ) (bare : List ℕ)
    → bare ≡ without_return (take feed text) → start < length bare
    → ((k : ℕ) → k < start → is_blank (slice_index text k) ≡ true)
    → 32 < slice_index bare start → 32 < slice_index bare (length bare - 1)
    → span_of (take feed text) (record { start = start; end = length bare })
    ≡ content_of (take feed text)
near_content text feed start bare is within blanks first last =
    let line = take feed text in
    let m : ℕ = length line - cond {A = ℕ} (eqb (slice_index line (length line - 1)) 13) 1 0 in
    let few : length bare ≤ feed =
    omega (arith, ap (λ (xs : List ℕ). length xs) is, length-take m line, length-take feed text) in
    let blanks_of_line : (k : ℕ) → k < start → is_blank (slice_index line k) ≡ true =
    λ k lt. ap is_blank (get_or-take feed text k 0 (omega (arith, few))) ∙ blanks k lt in
    rw is
    (near_counts line start m (subst (λ (xs : List ℕ). start < length xs) is within) blanks_of_line
    (above_space _ (subst (λ (xs : List ℕ). 32 < slice_index xs start) is first))
    (above_space _ (subst (λ (xs : List ℕ). 32 < slice_index xs (length xs - 1)) is last)))
