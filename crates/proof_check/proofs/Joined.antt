-- What the check takes is just the lines of a log.
use Rattle.std.proofs.Common.{◌≡◌, Bool, ℕ, ◌+◌, ◌≤◌, List, [], ◌∷◌, length, Some, IsTrue, refl, ap, ap₂, sym, subst, ◌∙◌, arith, length-append}
use Rattle.solid_model.specs.Blocks.{ProblemParts}
use Rattle.lemmas.specs.Lists.{Each}
use Rattle.completeness_logs.specs.declared.entry.LogEntry.{LogEntry}
use Rattle.completeness_logs.specs.Logs.{KnownBlocks, IsRightEntry, after_entry, AreTreesUnder, listed_along, listed_at, listed_by}
use Rattle.completeness_logs.specs.LogTexts.{most_listed}
use Rattle.completeness_logs.proofs.Listed.{listed_count}
use Rattle.proof_check.specs.Checks.{IsRestOfLog, Reads, AreLogLines, log_lines}
use Rattle.proof_check.specs.LogLines.{LogReading}

module _ (p : ProblemParts) (r : LogReading) (short : LogEntry → Bool) (entry_line : LogEntry → List ℕ) (closing_line : ℕ → List ℕ) (reads : Reads r short entry_line closing_line) where
  count_on : (known : KnownBlocks) (rest : List KnownBlocks) (e : LogEntry) (steps : List LogEntry) (n : ℕ)
      → n + length (listed_along p (known ∷ rest) (e ∷ steps)) ≡ n + listed_by e + length (listed_along p (after_entry e known rest) steps)
  count_on known rest e steps n =
      let a = length-append (listed_at p known e) (listed_along p (after_entry e known rest) steps) in
      let b = listed_count p known e in
      omega (arith, a, b)

  pub rest_of_log : (steps : List LogEntry) (ks : List KnownBlocks) (n : ℕ) → AreTreesUnder p ks steps → Each (λ e. IsTrue (short e)) steps → n + length (listed_along p ks steps) ≤ most_listed
      → IsRestOfLog p r ks n (log_lines entry_line closing_line steps (n + length (listed_along p ks steps)))
  rest_of_log [] [] n f each few = (reads.end (n + 0) few ∙ ap Some (let h : n + 0 ≡ n = omega arith in h), refl)
  rest_of_log [] (k ∷ ks) n f each few = absurd f
  rest_of_log (e ∷ steps) [] n f each few = absurd f
  rest_of_log (e ∷ steps) (k ∷ ks) n (right, f) (is, each) few =
      let same = count_on k ks e steps n in
      let more : n + listed_by e + length (listed_along p (after_entry e k ks) steps) ≤ most_listed = subst (λ m. m ≤ most_listed) same few in (
        e,
        reads.entry e is,
        right,
        omega (arith, more),
        subst (λ m. IsRestOfLog p r (after_entry e k ks) (n + listed_by e) (log_lines entry_line closing_line steps m)) (sym same) (rest_of_log steps (after_entry e k ks) (n + listed_by e) f each more),
      )

  Log : List KnownBlocks → ℕ → List (List ℕ) → Type 0
  Log ks n ls = AreLogLines p short entry_line closing_line ks n ls

  one_more : (k : KnownBlocks) (ks : List KnownBlocks) (n : ℕ) (l : List ℕ) (ls : List (List ℕ)) (e : LogEntry) → r.entry l ≡ Some e → IsRightEntry p k e
      → AreLogLines p short entry_line closing_line (after_entry e k ks) (n + listed_by e) ls → AreLogLines p short entry_line closing_line (k ∷ ks) n (l ∷ ls)
  one_more k ks n l ls e said right log = record {
    steps = e ∷ log.steps;
    each = ((reads.only_entry l e said).0, log.each);
    follow = (right, log.follow);
    few = subst (λ m. m ≤ most_listed) (sym (count_on k ks e log.steps n)) log.few;
    are = ap₂ ◌∷◌ (reads.only_entry l e said).1 (log.are ∙ ap (log_lines entry_line closing_line log.steps) (sym (count_on k ks e log.steps n)));
  }

  pub log_of_rest : (ls : List (List ℕ)) (ks : List KnownBlocks) (n : ℕ) → n ≤ most_listed → IsRestOfLog p r ks n ls → AreLogLines p short entry_line closing_line ks n ls
  log_of_rest [] [] n few rest = absurd rest
  log_of_rest [] (k ∷ ks) n few rest = absurd rest
  log_of_rest (l ∷ ls) [] n few (said, none) = record {
    steps = [];
    each = tt;
    follow = tt;
    few = omega (arith, few);
    are = ap₂ ◌∷◌ (reads.only_end l n said ∙ ap closing_line (let h : n ≡ n + 0 = omega arith in h)) none;
  }
  log_of_rest (l ∷ ls) (k ∷ ks) n few (e, said, right, more, rest) = one_more k ks n l ls e said right (log_of_rest ls (after_entry e k ks) (n + listed_by e) more rest)
