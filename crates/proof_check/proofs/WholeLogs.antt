-- Whole logs: what the check of their lines tells.
use Rattle.std.proofs.Common.{◌≡◌, inl, inr, Bool, true, false, ℕ, ◌+◌, ◌<◌, ◌≤◌, List, [], ◌∷◌, ◌++◌, length, map, take, drop, Some, None, IsTrue, if◌then◌else◌, refl, ap, ap₂, sym, subst, ◌∙◌, codes, arith, take-append-drop}
use Rattle.std.specs.Fmt.{decimal}
use Rattle.std.specs.Str.{bytes_eq}
use Rattle.std.proofs.lemmas.List.{append-nil}
use Rattle.std.proofs.lemmas.Option.{none-some}
use Rattle.std.proofs.lemmas.Slice.Eq.{bytes_eq-Decides}
use Rattle.solid_model.specs.Blocks.{ProblemParts}
use Rattle.lemmas.specs.Lists.{Each}
use Rattle.completeness_logs.specs.declared.entry.LogEntry.{LogEntry}
use Rattle.completeness_logs.specs.Logs.{KnownBlocks, AreTreesUnder, after_entry, tree_entries, listed_choices, listed_along, listed_at, nothing_known}
use Rattle.dxf_groups.specs.TextLines.{text_lines}
use Rattle.completeness_logs.specs.LogTexts.{opening_line, closing_line, entry_line, is_short_entry, most_listed, IsLog}
use Rattle.completeness_logs.proofs.Trees.{follows_tree, tree_follows, tree_listed}
use Rattle.proof_check.specs.declared.fault.LogKind.{LogKind}
use Rattle.proof_check.specs.Checks.{IsRestOfLog, Reads, log_lines, found_along, found_at, states_after, AreReadRefused, IsReadRefused}
use Rattle.text_lines.specs.Numbers.{number_of_word}
use Rattle.proof_check.specs.LogLines.{log_reading, opening_count}
use Rattle.proof_check.proofs.Joined.{rest_of_log, log_of_rest}
use Rattle.text_lines.proofs.NumberWords.{number_read, number_written}
use Rattle.proof_check.proofs.OneVerdict.{refused_or_right, one_refusal}
use Rattle.proof_check.proofs.ReadBack.{entry_read, entry_spelled, end_read, end_spelled}

pub reads : Reads log_reading is_short_entry entry_line closing_line
reads = record { entry = λ e h. entry_read e h; end = λ n l. end_read n l; only_entry = λ line e h. entry_spelled line e h; only_end = λ line n h. end_spelled line n h }

-- ---- the first line

pub head_read : (n : ℕ) → n < 10000000000 → opening_count (opening_line n) ≡ Some n
head_read n l = step ∙ number_read n l
  where
    step : opening_count (opening_line n) ≡ number_of_word (decimal n)
    step = refl

pub head_written : (line : List ℕ) (n : ℕ) → opening_count line ≡ Some n → line ≡ opening_line n
head_written line n h = by (bytes_eq (take 13 line) (codes "log 1 blocks ")) refl h
  where
    put : (n : ℕ) → codes "log 1 blocks " ++ decimal n ≡ opening_line n
    put n = refl

    by : (b : Bool) → bytes_eq (take 13 line) (codes "log 1 blocks ") ≡ b → (if b then number_of_word (drop 13 line) else None) ≡ Some n → line ≡ opening_line n
    by true e f = sym (take-append-drop 13 line) ∙ ap₂ ◌++◌ ((bytes_eq-Decides (take 13 line) (codes "log 1 blocks ")).0 e) (number_written (drop 13 line) n f).0 ∙ put n
    by false e f = absurd (none-some n f)

-- ---- what is found

found_spelled : (p : ProblemParts) (es : List LogEntry) (ks : List KnownBlocks) (end : List ℕ) → Each (λ e. IsTrue (is_short_entry e)) es → AreTreesUnder p ks es
    → found_along p log_reading ks (map entry_line es ++ end ∷ []) ≡ listed_along p ks es
found_spelled p [] [] end each f = refl
found_spelled p [] (k ∷ ks) end each f = absurd f
found_spelled p (e ∷ es) [] end each f = absurd f
found_spelled p (e ∷ es) (k ∷ ks) end (is, each) (right, f) =
    ap (λ o. found_at p k o ++ found_along p log_reading (states_after k ks o) (map entry_line es ++ end ∷ [])) (entry_read e is)
    ∙ ap (λ xs. listed_at p k e ++ xs) (found_spelled p es (after_entry e k ks) end each f)

-- lines that are left behind the first one are a log's
pub log_from : (p : ProblemParts) (text : List ℕ) (line rest : List ℕ) (found : List (List Bool)) → text_lines text ≡ line ∷ text_lines rest → line ≡ opening_line p.blocks.count
    → IsRestOfLog p log_reading (nothing_known ∷ []) 0 (text_lines rest) → found ≡ found_along p log_reading (nothing_known ∷ []) (text_lines rest) → IsLog p text found
log_from p text line rest found first head is_rest is_found =
    let log = log_of_rest p log_reading is_short_entry entry_line closing_line reads (text_lines rest) (nothing_known ∷ []) 0 (omega arith) is_rest in
    let (tree, under, same) = follows_tree p nothing_known log.steps log.follow in
    let all : listed_along p (nothing_known ∷ []) log.steps ≡ listed_choices p nothing_known tree = ap (listed_along p (nothing_known ∷ [])) (same ∙ sym (append-nil (tree_entries tree))) ∙ tree_listed p tree nothing_known [] [] ∙ append-nil (listed_choices p nothing_known tree) in
    let count : 0 + length (listed_along p (nothing_known ∷ []) log.steps) ≡ length (listed_choices p nothing_known tree) = let e = ap length all in omega (arith, e) in
    record {
      tree = tree;
      under = under;
      short = subst (Each (λ e. IsTrue (is_short_entry e))) same log.each;
      few = subst (λ n. n ≤ most_listed) count log.few;
      lines = first ∙ ap₂ ◌∷◌ head (log.are ∙ ap₂ (λ es n. log_lines entry_line closing_line es n) same count);
      lists = is_found ∙ ap (found_along p log_reading (nothing_known ∷ [])) log.are ∙ found_spelled p log.steps (nothing_known ∷ []) _ log.each log.follow ∙ all;
    }

-- and a log's lines are so
pub rest_from : (p : ProblemParts) (text : List ℕ) (choices : List (List Bool)) → (log : IsLog p text choices)
    → IsRestOfLog p log_reading (nothing_known ∷ []) 0 (map entry_line (tree_entries log.tree) ++ closing_line (length (listed_choices p nothing_known log.tree)) ∷ [])
rest_from p text choices log =
    let follow : AreTreesUnder p (nothing_known ∷ []) (tree_entries log.tree) = subst (λ es. AreTreesUnder p (nothing_known ∷ []) es) (append-nil (tree_entries log.tree)) (tree_follows p log.tree nothing_known [] [] log.under tt) in
    let all : listed_along p (nothing_known ∷ []) (tree_entries log.tree) ≡ listed_choices p nothing_known log.tree = ap (listed_along p (nothing_known ∷ [])) (sym (append-nil (tree_entries log.tree))) ∙ tree_listed p log.tree nothing_known [] [] ∙ append-nil (listed_choices p nothing_known log.tree) in
    let count : 0 + length (listed_along p (nothing_known ∷ []) (tree_entries log.tree)) ≡ length (listed_choices p nothing_known log.tree) = let e = ap length all in omega (arith, e) in
    subst (λ n. IsRestOfLog p log_reading (nothing_known ∷ []) 0 (log_lines entry_line closing_line (tree_entries log.tree) n)) count
    (rest_of_log p log_reading is_short_entry entry_line closing_line reads (tree_entries log.tree) (nothing_known ∷ []) 0 follow log.short (subst (λ n. n ≤ most_listed) (sym count) log.few))

-- ---- one verdict

pub whole_refused_or_right : (p : ProblemParts) (text : List ℕ) (kind : LogKind) (line : ℕ) → IsReadRefused p text kind line → (choices : List (List Bool)) → IsLog p text choices → ⊥
whole_refused_or_right p text kind line refused choices log = by (subst (λ ls. AreReadRefused p ls kind line) log.lines refused)
  where
    by : AreReadRefused p (opening_line p.blocks.count ∷ map entry_line (tree_entries log.tree) ++ closing_line (length (listed_choices p nothing_known log.tree)) ∷ []) kind line → ⊥
    by (inl (other, is, at)) = other refl
    by (inr (same, more)) = refused_or_right p log_reading _ (nothing_known ∷ []) 0 2 kind line more (rest_from p text choices log)

one_of_lines : (p : ProblemParts) (ls : List (List ℕ)) (a b : LogKind) (i j : ℕ) → AreReadRefused p ls a i → AreReadRefused p ls b j → (a ≡ b) × (i ≡ j)
one_of_lines p [] a b i j x y = (x.0 ∙ sym y.0, x.1 ∙ sym y.1)
one_of_lines p (l ∷ ls) a b i j (inl (o, x, u)) (inl (q, y, v)) = (x ∙ sym y, u ∙ sym v)
one_of_lines p (l ∷ ls) a b i j (inl (o, x, u)) (inr (same, more)) = absurd (o same)
one_of_lines p (l ∷ ls) a b i j (inr (same, more)) (inl (o, x, u)) = absurd (o same)
one_of_lines p (l ∷ ls) a b i j (inr (s, more)) (inr (t, too)) = one_refusal p log_reading ls (nothing_known ∷ []) 0 2 a b i j more too

pub one_whole_refusal : (p : ProblemParts) (text : List ℕ) (a b : LogKind) (i j : ℕ) → IsReadRefused p text a i → IsReadRefused p text b j → (a ≡ b) × (i ≡ j)
one_whole_refusal p text a b i j x y = one_of_lines p (text_lines text) a b i j x y
