-- Pairs are passed over up to the first one that is given.
use Rattle.std.proofs.Common.{◌≡◌, ◌≤◌, ◌+◌, ◌&&◌, ℕ, ℤ, pos, Bool, true, false, not, cond, Ok, List, ◌∷◌, [], length, Some, refl, sym, ap, ◌∙◌, arith}
use Rattle.std.specs.Ordering.{int_eq}
use Rattle.std.proofs.lemmas.Bool.{or_parts}
use Rattle.dxf_groups.specs.Codes.{group_code_of, is_comment, is_end}
use Rattle.dxf_groups.specs.declared.pairs.ReadPair.{ReadPair}
use Rattle.dxf_groups.specs.Pairs.{TextPair, Pairs, ended, text_pair, with_pair, pair_before, pairs_from}
use Rattle.dxf_groups.specs.Groups.{from_wanted, is_given, is_wanted, wanted_on}
use Rattle.dxf_groups.specs.ReadPairs.{IsReadFrom, pairs_at}
use Rattle.dxf_groups.specs.Spans.{span_of}
use Rattle.dxf_groups.proofs.FirstPairs.{pair_first}

module _ (wanted : ℤ → Bool) where
  -- a code that is given is no comment's
  pub given_is_kept : (code : ℤ) → is_given wanted code ≡ true → is_comment code ≡ false
  given_is_kept code = by (is_comment code)
    where
      by : (b : Bool) → (not b && is_wanted wanted code) ≡ true → b ≡ false
      by true given = sym given
      by false given = refl

  -- a pair with another code is passed over, whether it is a comment or not
  pub other_passed : (p : TextPair) (rest : Pairs) → is_given wanted p.code ≡ false
      → wanted_on wanted (pair_before p rest) ≡ wanted_on wanted rest
  other_passed p rest = by (is_comment p.code)
    where
      by : (b : Bool) → (not b && is_wanted wanted p.code) ≡ false
          → wanted_on wanted (cond b rest (cond (is_end p.code p.value) (ended (Ok p.line)) (with_pair p rest)))
          ≡ wanted_on wanted rest
      by true comment = refl
      by false other =
          let no_end : is_end p.code p.value ≡ false =
          rw ((or_parts (int_eq p.code (pos 0)) (wanted p.code) other).0) refl in
          rw (no_end, other) refl

  -- a pair that is given is left
  pub given_left : (p : TextPair) (rest : Pairs) → is_given wanted p.code ≡ true
      → wanted_on wanted (pair_before p rest) ≡ pair_before p rest
  given_left p rest = by (is_comment p.code)
    where
      or_end : (b : Bool) → is_wanted wanted p.code ≡ true
          → wanted_on wanted (cond b (ended (Ok p.line)) (with_pair p rest))
          ≡ cond b (ended (Ok p.line)) (with_pair p rest)
      or_end true given = refl
      or_end false given = rw given refl

      by : (b : Bool) → (not b && is_wanted wanted p.code) ≡ true
          → wanted_on wanted (cond b rest (cond (is_end p.code p.value) (ended (Ok p.line)) (with_pair p rest)))
          ≡ cond b rest (cond (is_end p.code p.value) (ended (Ok p.line)) (with_pair p rest))
      by true given = absurd cc
      by false given = or_end (is_end p.code p.value) given

  -- so a pair that is read there is the first one of those that are given
  pub read_given : (text : List ℕ) (all left : Pairs) (read : ReadPair) → wanted_on wanted all ≡ wanted_on wanted left
      → IsReadFrom text left read → is_given wanted read.pair.code ≡ true → IsReadFrom text (wanted_on wanted all) read
  read_given text all left read same is given = record {
    span = is.span;
    place_after = is.place_after;
    pairs = same ∙ (ap (wanted_on wanted) is.pairs
        ∙ given_left (text_pair read.pair (span_of text read.pair.value)) (pairs_at text read.after (read.pair.line + 2)) given);
  }

  -- what begins with two lines that are another pair goes on behind them
  pub other_lines_passed : (n : ℕ) (lines : List (List ℕ)) (code value : List ℕ) (after rest : List (List ℕ)) (z : ℤ)
      → lines ≡ code ∷ after → after ≡ value ∷ rest → group_code_of code ≡ Some z → is_given wanted z ≡ false
      → wanted_on wanted (pairs_from n lines) ≡ wanted_on wanted (pairs_from (n + 2) rest)
  other_lines_passed n lines code value after rest z is next some other =
      ap (wanted_on wanted) (pair_first n lines code value after rest z is next some)
      ∙ other_passed (record { code = z; value = value; line = n }) (pairs_from (n + 2) rest) other

  -- what is passed over isn't left
  pub no_more_left : (ps : List TextPair) → length (from_wanted wanted ps) ≤ length ps
  no_more_left [] = omega arith
  no_more_left (p ∷ ps) = by (is_wanted wanted p.code) (no_more_left ps)
    where
      by : (b : Bool) → length (from_wanted wanted ps) ≤ length ps
          → length (cond b (p ∷ ps) (from_wanted wanted ps)) ≤ length (p ∷ ps)
      by true fewer = omega arith
      by false fewer = omega (arith, fewer)
