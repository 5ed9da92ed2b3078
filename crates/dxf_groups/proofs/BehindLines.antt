-- What stands behind lines of a text, and where a reader stands.
use Rattle.std.proofs.Common.{◌≡◌, ℕ, suc, ◌+◌, ◌-◌, ◌≤◌, true, false, List, drop, length, Option, Some, None, Result, Ok, Err, nat_eq, refl, ap, sym, ◌∙◌, arith}
use Rattle.std.specs.List.{after_first, starts_with}
use Rattle.solid_model.specs.declared.fault.Fault.{Fault}
use Rattle.solid_model.specs.declared.fault.Fault.TheVariants.{Binary}
use Rattle.solid_model.specs.Limits.{most_text_bytes}
use Rattle.dxf_groups.specs.Pairs.{behind_end, binary_sentinel, pairs_of, rest_of_text, without_mark}
use Rattle.dxf_groups.specs.ReadPairs.{StandsIn, end_line_of, left_from}
use Rattle.dxf_groups.specs.TextLines.{behind_lines, is_feed}

-- two lines after the place where a line begins, the second one after it does
pub two_lines_on : (text whole : List ℕ) (start next after line : ℕ) → 1 ≤ line
    → drop start text ≡ behind_lines (line - 1) whole
    → drop next text ≡ after_first is_feed (drop start text)
    → drop after text ≡ after_first is_feed (drop next text)
    → drop after text ≡ behind_lines (line + 2 - 1) whole
two_lines_on text whole start next after line some begins first second =
    let on : suc (suc (line - 1)) ≡ line + 2 - 1 = omega (arith, some) in
    second ∙ ap (after_first is_feed) (first ∙ ap (after_first is_feed) begins)
    ∙ ap (λ n. behind_lines n whole) on

-- the pairs of a text that begins as a binary file does end so,
pub binary_ending : (text : List ℕ) (place : ℕ) → drop place text ≡ without_mark text
    → starts_with nat_eq (drop place text) binary_sentinel ≡ true
    → Err (Binary 1) ≡ (pairs_of text).ending
unfolding pairs_of
binary_ending text place mark binary =
    let is = sym (ap (λ t. starts_with nat_eq t binary_sentinel) mark) ∙ binary in rw is refl

-- and those of another end as those behind its mark do
pub text_ending : (text : List ℕ) (place : ℕ) → drop place text ≡ without_mark text
    → starts_with nat_eq (drop place text) binary_sentinel ≡ false
    → (left_from text place 1 None).ending ≡ (pairs_of text).ending
unfolding pairs_of
text_ending text place mark other =
    let is = sym (ap (λ t. starts_with nat_eq t binary_sentinel) mark) ∙ other in rw (is, mark) refl

-- a reader that has read nothing stands behind the mark
pub stands_at_mark : (text : List ℕ) (place : ℕ) → length text ≤ most_text_bytes
    → place ≤ length text → drop place text ≡ without_mark text
    → (ending : Option (Result ℕ Fault))
    → (left_from text place 1 ending).ending ≡ (pairs_of text).ending
    → ((end : ℕ) → ending ≡ Some (Ok end) → 1 ≡ end + 2) → StandsIn text place 1 ending
stands_at_mark text place short within mark ending same passed = record {
  at = record {
    short = short;
    within = within;
    counted = omega arith;
    some = omega arith;
    begins = mark;
  };
  same_ending = same;
  passed = passed;
}

-- a reader that has read the end pair stands before the rest of its text
pub rest_behind : (text : List ℕ) (place line end : ℕ) (ending : Option (Result ℕ Fault))
    → StandsIn text place line ending → end_line_of ending ≡ Some end
    → rest_of_text text ≡ Some (drop place text)
unfolding rest_of_text
rest_behind text place line end None stands is = absurd cc
rest_behind text place line end (Some (Err fault)) stands is = absurd cc
rest_behind text place line end (Some (Ok read)) stands is =
    let on : line - 1 ≡ read + 1 = omega (arith, stands.passed read refl) in
    ap (λ e. behind_end e (without_mark text)) (sym stands.same_ending)
    ∙ ap Some (sym (stands.at.begins ∙ ap (λ n. behind_lines n (without_mark text)) on))
