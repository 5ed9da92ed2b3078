-- The first line of what is left of a text.
use Rattle.std.proofs.Common.{◌≡◌, ℕ, zero, suc, ◌+◌, ◌-◌, ◌<◌, ◌≤◌, Bool, true, false, not, cond, List, [], ◌∷◌, length, take, drop, refl, map, sym, ap, ap₂, subst, ◌∙◌, arith}
use Rattle.std.specs.List.{onto_first, position_or_len, before_first, after_first}
use Rattle.std.proofs.lemmas.List.{take-take, drop-take, drop-drop, length-take, length-drop}
use Rattle.dxf_groups.specs.declared.span.Span.{Span}
use Rattle.dxf_groups.specs.Spans.{IsSpanIn, span_of}
use Rattle.dxf_groups.specs.TextLines.{behind_lines, is_feed, text_lines, content_of, contents_of}

-- a byte before the line feed is one more of the first line
one_more : (k b : ℕ) (bytes : List ℕ) (lines : List (List ℕ))
    → lines ≡ take k bytes ∷ text_lines (drop (k + 1) bytes)
    → onto_first b lines ≡ take (1 + k) (b ∷ bytes) ∷ text_lines (drop (1 + k + 1) (b ∷ bytes))
one_more k b bytes lines is =
    let line : 1 + k ≡ suc k = omega arith in
    let after : suc k + 1 ≡ suc (k + 1) = omega arith in
    rw (is, line, after) refl

-- a text that has a byte is its first line, up to the line feed, and the lines after that
pub lines-first : (text : List ℕ) → 0 < length text
    → text_lines text ≡ before_first is_feed text ∷ text_lines (after_first is_feed text)
lines-first [] some = absurd (omega arith)
lines-first (b ∷ []) some = at (is_feed b)
  where
    at : (feed : Bool)
        → cond feed ([] ∷ []) ((b ∷ []) ∷ [])
        ≡ take (cond (not feed) (1 + 0) 0) (b ∷ []) ∷ text_lines
        (drop (cond (not feed) (1 + 0) 0 + 1) (b ∷ []))
    at true = refl
    at false = refl
lines-first (b ∷ c ∷ bytes) some = at (is_feed b) (lines-first (c ∷ bytes) (omega arith))
  where
    at : (feed : Bool)
        → text_lines (c ∷ bytes)
        ≡ before_first is_feed (c ∷ bytes) ∷ text_lines (after_first is_feed (c ∷ bytes))
        → cond feed ([] ∷ text_lines (c ∷ bytes)) (onto_first b (text_lines (c ∷ bytes)))
        ≡ take (cond (not feed) (1 + position_or_len is_feed (c ∷ bytes)) 0) (b ∷ c ∷ bytes)
        ∷ text_lines
        (drop (cond (not feed) (1 + position_or_len is_feed (c ∷ bytes)) 0 + 1) (b ∷ c ∷ bytes))
    at true later = refl
    at false later = one_more (position_or_len is_feed (c ∷ bytes)) b (c ∷ bytes) _ later

-- the content of the first line, and those of the others
first_content : (text : List ℕ) (feed : ℕ) → 0 < length text → feed ≡ position_or_len is_feed text
    → contents_of text ≡ content_of (take feed text) ∷ contents_of (drop (feed + 1) text)
first_content text feed some is = rw is (ap (map content_of) (lines-first text some))

-- a part of a prefix of a list is that part of the list
pub part_of_prefix : (xs : List ℕ) (start len m : ℕ) → start + len ≤ m
    → take len (drop start (take m xs)) ≡ take len (drop start xs)
part_of_prefix xs start len m le =
    let split : m ≡ start + (m - start) = omega arith in
    ap (λ k. take len (drop start (take k xs))) split
    ∙ ap (take len) (drop-take start (m - start) xs)
    ∙ take-take len (m - start) (drop start xs) (omega arith)

-- a span of a prefix of what is left of a text is a span of the text
span_shifted : (text : List ℕ) (start feed : ℕ) (s : Span) → s.start ≤ s.end → s.end ≤ feed
    → span_of (take feed (drop start text)) s
    ≡ span_of text (record { start = start + s.start; end = start + s.end })
span_shifted text start feed s ordered within =
    let same : s.end - s.start ≡ start + s.end - (start + s.start) = omega arith in
    part_of_prefix (drop start text) s.start (s.end - s.start) feed (omega arith)
    ∙ ap (take (s.end - s.start)) (drop-drop s.start start text)
    ∙ ap (λ k. take k (drop (start + s.start) text)) same

-- the first line of what is left of a text, by its line feed and the span of its content
pub line_found : (text rest : List ℕ) (start feed : ℕ) (s : Span) (after : ℕ)
    → rest ≡ drop start text → start < length text → feed ≡ position_or_len is_feed rest
    → IsSpanIn (take feed rest) s → span_of (take feed rest) s ≡ content_of (take feed rest)
    → drop after text ≡ drop (start + feed + 1) text
    → contents_of (drop start text)
    ≡ span_of text (record { start = start + s.start; end = start + s.end })
    ∷ contents_of (drop after text)
line_found text rest start feed s after left some is inside content same =
    let some_left : 0 < length rest = rw left (omega (arith, length-drop start text)) in
    let place : Span = record { start = start + s.start; end = start + s.end } in
    let whole =
    subst
    (λ (xs : List ℕ). contents_of xs ≡ content_of (take feed rest) ∷ contents_of (drop (feed + 1) xs))
    left (first_content rest feed some_left is) in
    let within : s.end ≤ feed = omega (arith, inside.1, length-take feed rest) in
    let of_text =
    sym content
    ∙ subst (λ (xs : List ℕ). span_of (take feed xs) s ≡ span_of text place) (sym left)
    (span_shifted text start feed s inside.0 within) in
    let next : start + (feed + 1) ≡ start + feed + 1 = omega arith in
    let rest_after = drop-drop (feed + 1) start text ∙ ap (λ k. drop k text) next ∙ sym same in
    whole ∙ ap₂ (λ (x : List ℕ) (xs : List ℕ). x ∷ contents_of xs) of_text rest_after

-- behind it stands what is behind its line feed
pub next_line : (text rest : List ℕ) (start feed after : ℕ) → rest ≡ drop start text
    → feed ≡ position_or_len is_feed rest → drop after text ≡ drop (start + feed + 1) text
    → drop after text ≡ after_first is_feed (drop start text)
next_line text rest start feed after left is same =
    let next : start + feed + 1 ≡ start + (feed + 1) = omega arith in
    same ∙ ap (λ k. drop k text) next ∙ sym (drop-drop (feed + 1) start text)
    ∙ ap (λ k. drop (k + 1) (drop start text)) (is ∙ ap (position_or_len is_feed) left)

-- the lines behind the first line are the others,
lines_after_first : (text : List ℕ)
    → text_lines (after_first is_feed text) ≡ drop 1 (text_lines text)
lines_after_first [] = refl
lines_after_first (b ∷ bytes) = sym (ap (drop 1) (lines-first (b ∷ bytes) (omega arith)))

-- and so are those behind the first so many
pub lines_behind : (n : ℕ) (text : List ℕ)
    → text_lines (behind_lines n text) ≡ drop n (text_lines text)
lines_behind zero text = refl
lines_behind (suc n) text =
    let more : n + 1 ≡ suc n = omega arith in
    lines_after_first (behind_lines n text) ∙ ap (drop 1) (lines_behind n text)
    ∙ drop-drop 1 n (text_lines text) ∙ ap (λ k. drop k (text_lines text)) more
