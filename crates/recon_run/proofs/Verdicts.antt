-- What stands behind a drawing is a log of its problem, or is refused.
use Rattle.std.proofs.Common.{◌≡◌, ◌⊎◌, inl, inr, ⊎_elim, Bool, ℕ, suc, ◌+◌, ◌<◌, ◌≤◌, List, [], ◌∷◌, length, take, drop, Option, Some, None, Result, Ok, Err, refl, ap, sym, subst, ◌∙◌, arith}
use Rattle.std.proofs.lemmas.Bool.{cases_lt}
use Rattle.completeness_logs.specs.declared.entry.LogEntry.{LogEntry}
use Rattle.completeness_logs.specs.declared.entry.LogEntry.TheVariants.{Fail, Whole, Force, Split}
use Rattle.completeness_logs.specs.Logs.{KnownBlocks, IsRightEntry, IsUndecided, ShowsFail, ShowsForce, ShowsSolid, after_entry, nothing_known, listed_by}
use Rattle.completeness_logs.specs.LogTexts.{IsLog, most_listed, opening_line}
use Rattle.dxf_entities.specs.Entries.{before_entries, entries_of}
use Rattle.dxf_entities.specs.declared.layer_line.LayerLine.{LayerLine}
use Rattle.dxf_entities.specs.Apart.{lines_apart, lines_read}
use Rattle.dxf_entities.specs.Forms.{FormParts}
use Rattle.dxf_entities.specs.Reading.{Progress, between, nothing_read, entries_read, pairs_read, text_read}
use Rattle.dxf_entities.proofs.NearPoints.{HasSteps, after_ok}
use Rattle.dxf_entities.specs.Steps.{◌>>=◌}
use Rattle.dxf_groups.specs.Pairs.{behind_end, pairs_of, rest_of_text, without_mark}
use Rattle.dxf_groups.specs.TextLines.{behind_lines, is_feed, text_lines}
use Rattle.proof_check.specs.declared.fault.LogKind.{LogKind}
use Rattle.proof_check.specs.declared.fault.LogKind.TheVariants.{BadLine, BadBlock, Unproved, Unsolid, TooMany, BadCount, Short, Long}
use Rattle.proof_check.specs.Checks.{IsRefusedFrom, IsRestOfLog, IsWrongEnd, found_along}
use Rattle.proof_check.specs.LogLines.{closing_count, entry_of_line, log_reading}
use Rattle.proof_check.specs.Refusals.{IsLogRefused, IsWrongEntry}
use Rattle.proof_check.proofs.SaidRefusals.{head_refused, rest_refused}
use Rattle.proof_check.proofs.WholeLogs.{log_from}
use Rattle.solid_model.specs.declared.fault.Fault.{Fault}
use Rattle.solid_model.specs.Blocks.{ProblemParts}
use Rattle.solid_model.specs.Line.{Line}
use Rattle.std.specs.List.{position_or_len}
use Rattle.text_lines.proofs.FirstLines.{next_begins}

-- ---- what stands behind a drawing

never_ok : {A B : Type 0} (r : Result A Fault) (next : A → Result B Fault) → ((a : A) (b : B) → next a ≡ Ok b → ⊥) → (b : B) → (r >>= next) ≡ Ok b → ⊥
never_ok (Ok a) next none b e = none a b e
never_ok (Err f) next none b e = cc

no_lines_at_fault : (es : List _) (f : Fault) (s : _) (ls : List LayerLine) → entries_read es (Err f) s ≡ Ok ls → ⊥
no_lines_at_fault [] f s ls e = cc
no_lines_at_fault (x ∷ es) f s ls e = never_ok _ (entries_read es (Err f)) (λ t ms. no_lines_at_fault es f t ms) ls e

-- a text that has lines has an end, and something stands behind it
pub rest_there : (form : FormParts) (text : List ℕ) (read : List Line × List LayerLine) → lines_read form text ≡ Ok read
    → (rest : List ℕ) × (rest_of_text text ≡ Some rest)
unfolding lines_read text_read rest_of_text
rest_there form text read reads = by (pairs_of text).ending refl
  where
    begun : Result Progress Fault
    begun = between (before_entries (pairs_of text).pairs) (nothing_read form)

    kept : HasSteps (pairs_read form (pairs_of text)) (λ ls. Ok (lines_apart ls)) read
    kept = after_ok (pairs_read form (pairs_of text)) (λ ls. Ok (lines_apart ls)) read reads

    by : (ending : Result ℕ Fault) → (pairs_of text).ending ≡ ending → (rest : List ℕ) × (behind_end (pairs_of text).ending (without_mark text) ≡ Some rest)
    by (Ok line) is = (behind_lines (line + 1) (without_mark text), ap (λ ending. behind_end ending (without_mark text)) is)
    by (Err f) is = absurd (never_ok begun (entries_read (entries_of (pairs_of text).pairs) (Err f)) (λ s ms. no_lines_at_fault (entries_of (pairs_of text).pairs) f s ms) kept.value
        (subst (λ ending. (begun >>= entries_read (entries_of (pairs_of text).pairs) ending) ≡ Ok kept.value) is kept.first))

-- ---- verdicts

-- so or not
either : (P : Type 0) → ((P ⊎ (P → ⊥)) → ⊥) → ⊥
either P never = never (inr (λ p. never (inl p)))

module _ (p : ProblemParts) where
  -- an entry that isn't right is wrong
  entry_judged : (known : KnownBlocks) (n : ℕ) (e : LogEntry) → n ≤ most_listed
      → ((IsRightEntry p known e × (n + listed_by e ≤ most_listed)) → ⊥) → ((kind : LogKind) → IsWrongEntry p known n e kind → ⊥) → ⊥
  entry_judged known n (Fail place) few right wrong =
      either (ShowsFail p known place) (λ s. ⊎_elim (λ is. right (is, omega (arith, few))) (λ not_so. wrong Unproved (refl, not_so)) s)
  entry_judged known n Whole few right wrong = either (ShowsSolid p known) (λ s. ⊎_elim
      (λ is. ⊎_elim (λ l. right (is, omega (arith, l))) (λ l. wrong TooMany (inr (refl, is, l))) (cases_lt n most_listed))
      (λ not_so. wrong Unsolid (inl (refl, not_so))) s)
  entry_judged known n (Force block full place) few right wrong = either (IsUndecided p known block) (λ s. ⊎_elim
      (λ open_. either (ShowsForce p known block full place) (λ u. ⊎_elim
      (λ shows. right ((open_, shows), omega (arith, few)))
      (λ not_so. wrong Unproved (inr (refl, open_, not_so))) u))
      (λ not_so. wrong BadBlock (inl (refl, not_so))) s)
  entry_judged known n (Split block) few right wrong =
      either (IsUndecided p known block) (λ s. ⊎_elim (λ is. right (is, omega (arith, few))) (λ not_so. wrong BadBlock (refl, not_so)) s)

  -- so is a last line
  end_judged : (n number : ℕ) (ls : List (List ℕ)) (o : Option ℕ) → (((o ≡ Some n) × (ls ≡ [])) → ⊥)
      → ((kind : LogKind) (line : ℕ) → IsWrongEnd n number ls o kind line → ⊥) → ⊥
  end_judged n number ls None right wrong = wrong BadLine number (refl, refl)
  end_judged n number ls (Some m) right wrong = either (m ≡ n) (λ s. ⊎_elim
      (λ same. more ls refl same)
      (λ other. wrong BadCount number (inl (refl, other, refl))) s)
    where
      more : (ms : List (List ℕ)) → ls ≡ ms → m ≡ n → ⊥
      more [] e same = right (ap Some same, e)
      more (x ∷ ms) e same = wrong Long (suc number) (inr (refl, same, (λ none. let h : x ∷ ms ≡ [] = sym e ∙ none in cc), refl))

  -- and all lines that are left
  lines_judged : (ls : List (List ℕ)) (ks : List KnownBlocks) (n number : ℕ) → n ≤ most_listed → (IsRestOfLog p log_reading ks n ls → ⊥)
      → ((kind : LogKind) (line : ℕ) → IsRefusedFrom p log_reading ks n number ls kind line → ⊥) → ⊥
  lines_judged [] [] n number few right wrong = wrong Short number (refl, refl)
  lines_judged [] (k ∷ ks) n number few right wrong = wrong Short number (refl, refl)
  lines_judged (l ∷ ls) [] n number few right wrong = end_judged n number ls (closing_count l) right wrong
  lines_judged (l ∷ ls) (k ∷ ks) n number few right wrong = by (entry_of_line l) refl (λ j js m i. lines_judged ls js m i)
    where
      by : (o : Option LogEntry) → entry_of_line l ≡ o
          → (Unit {0} → (js : List KnownBlocks) (m i : ℕ) → m ≤ most_listed → (IsRestOfLog p log_reading js m ls → ⊥) → ((kind : LogKind) (line : ℕ) → IsRefusedFrom p log_reading js m i ls kind line → ⊥) → ⊥) → ⊥
      by None none again = wrong BadLine number (inl (none, refl, refl))
      by (Some e) is again = entry_judged k n e few
          (λ (so, within). again tt (after_entry e k ks) (n + listed_by e) (suc number) within
          (λ rest. right (e, is, so, within, rest))
          (λ kind line refused. wrong kind line (inr (e, is, inr (so, within, refused)))))
          (λ kind bad. wrong kind number (inr (e, is, inl (refl, bad))))

  -- so it can't be that a text is neither a log nor refused
  pub judged_somehow : (text : List ℕ) → ((listed : List (List Bool)) → IsLog p text listed → ⊥) → ((kind : LogKind) (line : ℕ) → IsLogRefused p text kind line → ⊥) → ⊥
  judged_somehow [] log refused = refused Short 1 (refl, refl)
  judged_somehow (c ∷ cs) log refused = ⊎_elim (λ l. cut (place + 1) (inl (l, refl))) (λ l. cut place (inr (l, refl))) (cases_lt place (length (c ∷ cs)))
    where
      place : ℕ
      place = position_or_len is_feed (c ∷ cs)

      cut : (next : ℕ) → ((place < length (c ∷ cs)) × (next ≡ place + 1)) ⊎ ((length (c ∷ cs) ≤ place) × (next ≡ place)) → ⊥
      cut next at =
          let line = take place (c ∷ cs) in
          let rest = drop next (c ∷ cs) in
          let lines : text_lines (c ∷ cs) ≡ line ∷ text_lines rest = next_begins (c ∷ cs) (omega arith) place next refl at in
          either (line ≡ opening_line p.blocks.count) (λ s. ⊎_elim
          (λ same. lines_judged (text_lines rest) (nothing_known ∷ []) 0 2 (omega arith)
          (λ is_rest. log (found_along p log_reading (nothing_known ∷ []) (text_lines rest))
          (log_from p (c ∷ cs) line rest (found_along p log_reading (nothing_known ∷ []) (text_lines rest)) lines same is_rest refl))
          (λ kind number bad. refused kind number (rest_refused p (c ∷ cs) line rest lines same kind number bad)))
          (λ other. refused BadLine 1 (head_refused p (c ∷ cs) line rest lines other)) s)
