-- What is refused as lines are read is what is refused by what they say, and the other way round.
use Rattle.std.proofs.Common.{◌≡◌, ◌⊎◌, inl, inr, Bool, ℕ, suc, ◌+◌, List, [], ◌∷◌, length, Option, Some, None, refl, ap, sym, subst, ◌∙◌, arith}
use Rattle.std.proofs.lemmas.Bool.{lt-ltb, ltb-true}
use Rattle.std.proofs.lemmas.Option.{none-some}
use Rattle.solid_model.specs.Blocks.{ProblemParts}
use Rattle.dxf_groups.specs.TextLines.{text_lines}
use Rattle.completeness_logs.specs.declared.entry.LogEntry.{LogEntry}
use Rattle.completeness_logs.specs.Logs.{KnownBlocks, after_entry, nothing_known, listed_by}
use Rattle.completeness_logs.specs.LogTexts.{IsLog, opening_line}
use Rattle.proof_check.specs.declared.fault.LogKind.{LogKind}
use Rattle.proof_check.specs.declared.fault.LogKind.TheVariants.{BadLine, Short}
use Rattle.proof_check.specs.declared.fault.LogRefused.{LogRefused}
use Rattle.proof_check.specs.declared.fault.LogRefused.TheVariants.{Fault, Memory}
use Rattle.proof_check.specs.Checks.{IsRefusedFrom, IsWrongEnd, AreReadRefused}
use Rattle.proof_check.specs.LogLines.{log_reading, entry_of_line, closing_count}
use Rattle.proof_check.specs.Refusals.{SaysEntry, SaysEnd, IsWrongCount, IsFirstRefused, AreRefused, IsLogRefused, TellsRefusal}
use Rattle.proof_check.proofs.ReadBack.{entry_read, entry_spelled, end_read_short, end_as}
use Rattle.proof_check.proofs.WholeLogs.{one_whole_refusal, whole_refused_or_right}

-- ---- one line

entry_says : (line : List ℕ) (e : LogEntry) → SaysEntry line e → entry_of_line line ≡ Some e
entry_says line e (short, is) = ap entry_of_line is ∙ entry_read e short

no_entry : (line : List ℕ) → ((e : LogEntry) → SaysEntry line e → ⊥) → entry_of_line line ≡ None
no_entry line none = by (entry_of_line line) refl
  where
    by : (o : Option LogEntry) → entry_of_line line ≡ o → entry_of_line line ≡ None
    by None e = e
    by (Some entry) e = absurd (none entry (entry_spelled line entry e))

end_says : (line : List ℕ) (n : ℕ) → SaysEnd line n → closing_count line ≡ Some n
end_says line n (short, is) = ap closing_count is ∙ end_read_short n (ltb-true n 10000000000 short)

says_end : (line : List ℕ) (n : ℕ) → closing_count line ≡ Some n → SaysEnd line n
says_end line n e = let (short, is) = end_as line n e in (lt-ltb n 10000000000 short, is)

no_end : (line : List ℕ) → ((n : ℕ) → SaysEnd line n → ⊥) → closing_count line ≡ None
no_end line none = by (closing_count line) refl
  where
    by : (o : Option ℕ) → closing_count line ≡ o → closing_count line ≡ None
    by None e = e
    by (Some n) e = absurd (none n (says_end line n e))

-- what is wrong with a last line
said_last : (listed number : ℕ) (l : List ℕ) (ls : List (List ℕ)) (kind : LogKind) (line : ℕ) → IsWrongEnd listed number ls (closing_count l) kind line
    → (((n : ℕ) → SaysEnd l n → ⊥) × (kind ≡ BadLine) × (line ≡ number)) ⊎ ((n : ℕ) × SaysEnd l n × IsWrongCount listed number ls n kind line)
said_last listed number l ls kind line wrong = by (closing_count l) refl wrong
  where
    by : (o : Option ℕ) → closing_count l ≡ o → IsWrongEnd listed number ls o kind line
        → (((n : ℕ) → SaysEnd l n → ⊥) × (kind ≡ BadLine) × (line ≡ number)) ⊎ ((n : ℕ) × SaysEnd l n × IsWrongCount listed number ls n kind line)
    by None e (is, at) = inl ((λ n says. none-some n (sym e ∙ end_says l n says)), is, at)
    by (Some n) e w = inr (n, says_end l n e, w)

read_last : (listed number : ℕ) (l : List ℕ) (ls : List (List ℕ)) (kind : LogKind) (line : ℕ)
    → (((n : ℕ) → SaysEnd l n → ⊥) × (kind ≡ BadLine) × (line ≡ number)) ⊎ ((n : ℕ) × SaysEnd l n × IsWrongCount listed number ls n kind line)
    → IsWrongEnd listed number ls (closing_count l) kind line
read_last listed number l ls kind line (inl (none, is, at)) = subst (λ o. IsWrongEnd listed number ls o kind line) (sym (no_end l none)) (is, at)
read_last listed number l ls kind line (inr (n, says, wrong)) = subst (λ o. IsWrongEnd listed number ls o kind line) (sym (end_says l n says)) wrong

-- ---- line by line

module _ (p : ProblemParts) where
  pub said_refused : (ls : List (List ℕ)) (ks : List KnownBlocks) (n number : ℕ) (kind : LogKind) (line : ℕ)
      → IsRefusedFrom p log_reading ks n number ls kind line → IsFirstRefused p ks n number ls kind line
  said_refused [] [] n number kind line refused = refused
  said_refused [] (k ∷ ks) n number kind line refused = refused
  said_refused (l ∷ ls) [] n number kind line refused = said_last n number l ls kind line refused
  said_refused (l ∷ ls) (k ∷ ks) n number kind line (inl (none, is, at)) = inl ((λ e says. none-some e (sym none ∙ entry_says l e says)), is, at)
  said_refused (l ∷ ls) (k ∷ ks) n number kind line (inr (e, said, inl wrong)) = inr (e, entry_spelled l e said, inl wrong)
  said_refused (l ∷ ls) (k ∷ ks) n number kind line (inr (e, said, inr (right, few, more))) =
      inr (e, entry_spelled l e said, inr (right, few, said_refused ls (after_entry e k ks) (n + listed_by e) (suc number) kind line more))

  read_refused : (ls : List (List ℕ)) (ks : List KnownBlocks) (n number : ℕ) (kind : LogKind) (line : ℕ)
      → IsFirstRefused p ks n number ls kind line → IsRefusedFrom p log_reading ks n number ls kind line
  read_refused [] [] n number kind line refused = refused
  read_refused [] (k ∷ ks) n number kind line refused = refused
  read_refused (l ∷ ls) [] n number kind line refused = read_last n number l ls kind line refused
  read_refused (l ∷ ls) (k ∷ ks) n number kind line (inl (none, is, at)) = inl (no_entry l none, is, at)
  read_refused (l ∷ ls) (k ∷ ks) n number kind line (inr (e, says, inl wrong)) = inr (e, entry_says l e says, inl wrong)
  read_refused (l ∷ ls) (k ∷ ks) n number kind line (inr (e, says, inr (right, few, more))) =
      inr (e, entry_says l e says, inr (right, few, read_refused ls (after_entry e k ks) (n + listed_by e) (suc number) kind line more))

  -- ---- all lines

  pub said_lines : (ls : List (List ℕ)) (kind : LogKind) (line : ℕ) → AreReadRefused p ls kind line → AreRefused p ls kind line
  said_lines [] kind line refused = refused
  said_lines (l ∷ ls) kind line (inl other) = inl other
  said_lines (l ∷ ls) kind line (inr (same, more)) = inr (same, said_refused ls (nothing_known ∷ []) 0 2 kind line more)

  read_lines : (ls : List (List ℕ)) (kind : LogKind) (line : ℕ) → AreRefused p ls kind line → AreReadRefused p ls kind line
  read_lines [] kind line refused = refused
  read_lines (l ∷ ls) kind line (inl other) = inl other
  read_lines (l ∷ ls) kind line (inr (same, more)) = inr (same, read_refused ls (nothing_known ∷ []) 0 2 kind line more)

  -- ---- one verdict

  pub one_refusal_said : (text : List ℕ) (a b : LogKind) (i j : ℕ) → IsLogRefused p text a i → IsLogRefused p text b j → (a ≡ b) × (i ≡ j)
  one_refusal_said text a b i j x y = one_whole_refusal p text a b i j (read_lines (text_lines text) a i x) (read_lines (text_lines text) b j y)

  pub never_said : (text : List ℕ) (kind : LogKind) (line : ℕ) → IsLogRefused p text kind line → (choices : List (List Bool)) → IsLog p text choices → ⊥
  never_said text kind line refused = whole_refused_or_right p text kind line (read_lines (text_lines text) kind line refused)

-- ---- what the check of a text says

pub none_short : (p : ProblemParts) (text : List ℕ) → length text ≡ 0 → IsLogRefused p text Short 1
none_short p [] e = (refl, refl)
none_short p (c ∷ cs) e = absurd (omega (arith, e))

module _ (p : ProblemParts) (text line rest : List ℕ) (first : text_lines text ≡ line ∷ text_lines rest) where
  pub head_refused : (line ≡ opening_line p.blocks.count → ⊥) → IsLogRefused p text BadLine 1
  head_refused other = subst (λ ls. AreRefused p ls BadLine 1) (sym first) (inl (other, refl, refl))

  pub rest_refused : line ≡ opening_line p.blocks.count → (kind : LogKind) (at : ℕ) → IsRefusedFrom p log_reading (nothing_known ∷ []) 0 2 (text_lines rest) kind at → IsLogRefused p text kind at
  rest_refused head kind at refused =
      subst (λ ls. AreRefused p ls kind at) (sym first) (inr (head, said_refused p (text_lines rest) (nothing_known ∷ []) 0 2 kind at refused))

  pub rest_told : line ≡ opening_line p.blocks.count → (refused : LogRefused)
      → TellsRefusal (IsRefusedFrom p log_reading (nothing_known ∷ []) 0 2 (text_lines rest)) refused → TellsRefusal (IsLogRefused p text) refused
  rest_told head (Fault f) tells = rest_refused head f.kind f.line tells
  rest_told head Memory tells = tells
