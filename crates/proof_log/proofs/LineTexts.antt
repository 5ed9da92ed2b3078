-- The lines of the text of some lines are these.
use Rattle.std.proofs.Common.{◌≡◌, ◌==◌, ◌&&◌, not, Bool, true, false, cond, ℕ, List, [], ◌∷◌, ◌++◌, map, nat_lt, IsTrue, refl, ap, sym, subst, ◌∙◌, arith, append_assoc, append-nil, codes}
use Rattle.std.specs.Char.{is_ascii_digit}
use Rattle.std.specs.Fmt.{decimal}
use Rattle.std.specs.List.{onto_first}
use Rattle.std.specs.Str.{all_ascii_digits}
use Rattle.std.proofs.lemmas.Bool.{and_parts, and_from, ltb-true, eqb-true, false≢true}
use Rattle.std.proofs.lemmas.Fmt.{digits_decimal}
use Rattle.completeness_logs.specs.declared.entry.LinePlace.{LinePlace}
use Rattle.completeness_logs.specs.declared.entry.LogEntry.{LogEntry}
use Rattle.completeness_logs.specs.declared.entry.LogEntry.TheVariants.{Fail, Whole, Force, Split}
use Rattle.completeness_logs.specs.LogTexts.{closing_line, entry_line, full_word, has_short_numbers, is_short_entry, opening_line, place_words, upright_word, view_word}
use Rattle.dxf_groups.specs.TextLines.{is_feed, text_lines}
use Rattle.lemmas.specs.Lists.{Each}
use Rattle.proof_log.specs.Lines.{fed, text_of_lines}
use Rattle.solid_model.specs.declared.frame.View.{View}
use Rattle.solid_model.specs.declared.frame.View.TheVariants.{Front, Top, Side}
use Rattle.text_lines.proofs.NumberWords.{own}
use Rattle.text_lines.specs.Words.{joined_behind}

-- ---- bytes without a line feed

abbrev pub has_no_feed : List ℕ → Bool
has_no_feed [] = true
has_no_feed (b ∷ bytes) = not (is_feed b) && has_no_feed bytes

abbrev AreUnfed : List (List ℕ) → Type 0
AreUnfed = Each (λ line. has_no_feed line ≡ true)

is_not : (b : Bool) → not b ≡ true → b ≡ false
is_not true e = absurd (false≢true e)
is_not false e = refl

no_feed_both : (xs ys : List ℕ) → has_no_feed xs ≡ true → has_no_feed ys ≡ true → has_no_feed (xs ++ ys) ≡ true
no_feed_both [] ys none none_too = none_too
no_feed_both (x ∷ xs) ys none none_too =
    let parts = and_parts (not (is_feed x)) (has_no_feed xs) none in
    and_from (not (is_feed x)) (has_no_feed (xs ++ ys)) parts.0 (no_feed_both xs ys parts.1 none_too)

-- ---- lines

line_cut : (line rest : List ℕ) → has_no_feed line ≡ true → text_lines (line ++ 10 ∷ rest) ≡ line ∷ text_lines rest
line_cut [] rest none = refl
line_cut (b ∷ bytes) rest none =
    let parts = and_parts (not (is_feed b)) (has_no_feed bytes) none in
    ap (λ c. cond c ([] ∷ text_lines (bytes ++ 10 ∷ rest)) (onto_first b (text_lines (bytes ++ 10 ∷ rest)))) (is_not (is_feed b) parts.0)
    ∙ ap (onto_first b) (line_cut bytes rest parts.1)

pub lines_read : (lines : List (List ℕ)) → Each (λ line. has_no_feed line ≡ true) lines → text_lines (text_of_lines lines) ≡ lines
lines_read [] none = refl
lines_read (line ∷ lines) (none, others) =
    ap text_lines (append_assoc line (10 ∷ []) (text_of_lines lines)) ∙ line_cut line (text_of_lines lines) none ∙ ap (λ ls. line ∷ ls) (lines_read lines others)

pub line_more : (lines : List (List ℕ)) (line : List ℕ) → text_of_lines (lines ++ line ∷ []) ≡ text_of_lines lines ++ fed line
line_more [] line = append-nil (fed line)
line_more (l ∷ lines) line = ap (λ t. fed l ++ t) (line_more lines line) ∙ sym (append_assoc (fed l) (text_of_lines lines) (fed line))

-- ---- the words of a log

digit_no_feed : (c : ℕ) → is_ascii_digit c ≡ true → not (is_feed c) ≡ true
digit_no_feed c h = by (c == 10) refl
  where
    by : (b : Bool) → (c == 10) ≡ b → not (is_feed c) ≡ true
    by false f = ap not f
    by true f = absurd (false≢true (subst (λ d. is_ascii_digit d ≡ true) (eqb-true c 10 f) h))

digits_no_feed : (w : List ℕ) → all_ascii_digits w ≡ true → has_no_feed w ≡ true
digits_no_feed [] h = refl
digits_no_feed (c ∷ w) h =
    let parts = and_parts (is_ascii_digit c) _ h in and_from (not (is_feed c)) (has_no_feed w) (digit_no_feed c parts.0) (digits_no_feed w parts.1)

decimal_no_feed : (n : ℕ) → nat_lt n 10000000000 ≡ true → has_no_feed (decimal n) ≡ true
decimal_no_feed n e = let l = ltb-true n 10000000000 e in digits_no_feed (decimal n) (digits_decimal own n (omega (arith, l)))

joined_no_feed : (word : List ℕ) (words : List (List ℕ)) → has_no_feed word ≡ true → AreUnfed words → has_no_feed (joined_behind word words) ≡ true
joined_no_feed word [] none others = none
joined_no_feed word (next ∷ words) none (first, others) = no_feed_both word (32 ∷ joined_behind next words) none (joined_no_feed next words first others)

view_no_feed : (v : View) → has_no_feed (view_word v) ≡ true
view_no_feed Front = refl
view_no_feed Top = refl
view_no_feed Side = refl

upright_no_feed : (u : Bool) → has_no_feed (upright_word u) ≡ true
upright_no_feed true = refl
upright_no_feed false = refl

full_no_feed : (f : Bool) → has_no_feed (full_word f) ≡ true
full_no_feed true = refl
full_no_feed false = refl

place_no_feed : (s : LinePlace) → has_short_numbers s ≡ true → AreUnfed (place_words s)
place_no_feed s h =
    let (a, c) = and_parts (nat_lt s.at 10000000000) _ h in (view_no_feed s.view, (upright_no_feed s.upright, (decimal_no_feed s.at a, (decimal_no_feed s.cell c, tt))))

entry_no_feed : (e : LogEntry) → is_short_entry e ≡ true → has_no_feed (entry_line e) ≡ true
entry_no_feed (Fail s) h = joined_no_feed (codes "fail") (place_words s) refl (place_no_feed s h)
entry_no_feed Whole h = refl
entry_no_feed (Force block full s) h =
    let (b, r) = and_parts (nat_lt block 10000000000) _ h in
    joined_no_feed (codes "force") (decimal block ∷ full_word full ∷ place_words s) refl (decimal_no_feed block b, (full_no_feed full, place_no_feed s r))
entry_no_feed (Split block) h = joined_no_feed (codes "split") (decimal block ∷ []) refl (decimal_no_feed block h, tt)

opening_no_feed : (n : ℕ) → nat_lt n 10000000000 ≡ true → has_no_feed (opening_line n) ≡ true
opening_no_feed n h = joined_no_feed (codes "log") (codes "1" ∷ codes "blocks" ∷ decimal n ∷ []) refl (refl, (refl, (decimal_no_feed n h, tt)))

closing_no_feed : (n : ℕ) → nat_lt n 10000000000 ≡ true → has_no_feed (closing_line n) ≡ true
closing_no_feed n h = joined_no_feed (codes "end") (decimal n ∷ []) refl (decimal_no_feed n h, tt)

-- the lines of a log's text
entries_no_feed : (es : List LogEntry) (last : List ℕ) → Each (λ e. IsTrue (is_short_entry e)) es → has_no_feed last ≡ true → AreUnfed (map entry_line es ++ last ∷ [])
entries_no_feed [] last short none = (none, tt)
entries_no_feed (e ∷ es) last (is, short) none = (entry_no_feed e is, entries_no_feed es last short none)

pub log_lines_read : (blocks solids : ℕ) (es : List LogEntry) → nat_lt blocks 10000000000 ≡ true → nat_lt solids 10000000000 ≡ true → Each (λ e. IsTrue (is_short_entry e)) es
    → text_lines ((fed (opening_line blocks) ++ text_of_lines (map entry_line es)) ++ fed (closing_line solids)) ≡ opening_line blocks ∷ map entry_line es ++ closing_line solids ∷ []
log_lines_read blocks solids es b s short =
    ap text_lines (append_assoc (fed (opening_line blocks)) (text_of_lines (map entry_line es)) (fed (closing_line solids))
    ∙ ap (λ t. fed (opening_line blocks) ++ t) (sym (line_more (map entry_line es) (closing_line solids))))
    ∙ lines_read (opening_line blocks ∷ map entry_line es ++ closing_line solids ∷ []) (opening_no_feed blocks b, entries_no_feed es (closing_line solids) short (closing_no_feed solids s))
