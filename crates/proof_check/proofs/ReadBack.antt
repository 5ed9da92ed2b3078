-- Lines are read as they are spelled.
use Rattle.std.proofs.Common.{◌≡◌, Bool, true, false, ℕ, ◌<◌, ◌≤◌, nat_lt, List, [], ◌∷◌, ◌++◌, Option, Some, None, option_map, if◌then◌else◌, refl, ap, subst, ◌∙◌, codes, arith}
use Rattle.std.specs.Fmt.{decimal}
use Rattle.std.specs.Str.{bytes_eq}
use Rattle.std.proofs.lemmas.Bool.{and_parts, and_from, lt-ltb, ltb-true}
use Rattle.std.proofs.lemmas.Option.{none-some, same_Some}
use Rattle.solid_model.specs.declared.frame.View.{View}
use Rattle.solid_model.specs.declared.frame.View.TheVariants.{Front, Top, Side}
use Rattle.completeness_logs.specs.declared.entry.LogEntry.{LogEntry}
use Rattle.completeness_logs.specs.declared.entry.LogEntry.TheVariants.{Fail, Whole, Force, Split}
use Rattle.completeness_logs.specs.declared.entry.LinePlace.{LinePlace}
use Rattle.text_lines.specs.Words.{joined_behind, joined}
use Rattle.completeness_logs.specs.LogTexts.{view_word, upright_word, full_word, place_words, entry_line, closing_line, has_short_numbers, is_short_entry, most_listed}
use Rattle.text_lines.specs.Numbers.{number_of_word}
use Rattle.text_lines.specs.Words.{Cut, cut, of_both, either_word}
use Rattle.proof_check.specs.LogLines.{view_of_word, place_with, place_along, place_seen_in, place_named, force_with, force_on, force_of, fail_of, split_of, entry_behind, entry_of_cut, entry_of_line, closing_count_of_cut, closing_count}
use Rattle.text_lines.proofs.Cuts.{back, cut_back}
use Rattle.text_lines.proofs.NumberWords.{number_written, number_read}
use Rattle.text_lines.proofs.Spaces.{cut_word, decimal_no_space, map_some, both_some, back_as, is_that}

-- ---- spelled, then read

view_step : (v : View) (rest : List ℕ) → place_named (view_word v ++ 32 ∷ rest) ≡ place_seen_in v rest
view_step Front rest = refl
view_step Top rest = refl
view_step Side rest = refl

way_step : (v : View) (u : Bool) (rest : List ℕ) → place_seen_in v (upright_word u ++ 32 ∷ rest) ≡ place_along v u rest
way_step v false rest = refl
way_step v true rest = refl

at_step : (v : View) (u : Bool) (n : ℕ) (rest : List ℕ) → n < 10000000000 → place_along v u (decimal n ++ 32 ∷ rest) ≡ place_with v u n rest
at_step v u n rest l = ap (λ (k : Cut). of_both (place_with v u) (number_of_word k.word) k.rest) (cut_word (decimal n) rest (decimal_no_space n l))
    ∙ ap (λ o. of_both (place_with v u) o (Some rest)) (number_read n l)

spot_read : (s : LinePlace) → has_short_numbers s ≡ true → place_named (joined (place_words s)) ≡ Some s
spot_read s h =
    let (a, c) = and_parts (nat_lt s.at 10000000000) _ h in
    view_step s.view (joined_behind (upright_word s.upright) (decimal s.at ∷ decimal s.cell ∷ []))
    ∙ way_step s.view s.upright (joined_behind (decimal s.at) (decimal s.cell ∷ []))
    ∙ at_step s.view s.upright s.at (decimal s.cell) (ltb-true s.at 10000000000 a)
    ∙ ap (option_map (λ cell. record { view = s.view; upright = s.upright; at = s.at; cell = cell })) (number_read s.cell (ltb-true s.cell 10000000000 c))

value_step : (b : ℕ) (f : Bool) (rest : List ℕ) → force_on b (full_word f ++ 32 ∷ rest) ≡ force_with b f rest
value_step b false rest = refl
value_step b true rest = refl

block_step : (n : ℕ) (rest : List ℕ) → n < 10000000000 → force_of (decimal n ++ 32 ∷ rest) ≡ force_on n rest
block_step n rest l = ap (λ (k : Cut). of_both force_on (number_of_word k.word) k.rest) (cut_word (decimal n) rest (decimal_no_space n l))
    ∙ ap (λ o. of_both force_on o (Some rest)) (number_read n l)

fail_step : (rest : List ℕ) → entry_of_line (codes "fail" ++ 32 ∷ rest) ≡ fail_of rest
fail_step rest = refl

force_step : (rest : List ℕ) → entry_of_line (codes "force" ++ 32 ∷ rest) ≡ force_of rest
force_step rest = refl

split_step : (rest : List ℕ) → entry_of_line (codes "split" ++ 32 ∷ rest) ≡ split_of rest
split_step rest = refl

pub entry_read : (e : LogEntry) → is_short_entry e ≡ true → entry_of_line (entry_line e) ≡ Some e
entry_read (Fail s) h = fail_step (joined (place_words s)) ∙ ap (option_map (λ t. Fail t)) (spot_read s h)
entry_read Whole h = refl
entry_read (Force block full s) h =
    let (b, r) = and_parts (nat_lt block 10000000000) _ h in
    force_step (joined_behind (decimal block) (full_word full ∷ place_words s))
    ∙ block_step block (joined_behind (full_word full) (place_words s)) (ltb-true block 10000000000 b)
    ∙ value_step block full (joined (place_words s))
    ∙ ap (option_map (λ t. Force block full t)) (spot_read s r)
entry_read (Split block) h = split_step (decimal block) ∙ ap (option_map (λ b. Split b)) (number_read block (ltb-true block 10000000000 h))

end_step : (rest : List ℕ) → closing_count (codes "end" ++ 32 ∷ rest) ≡ number_of_word rest
end_step rest = refl

pub end_read_short : (n : ℕ) → n < 10000000000 → closing_count (closing_line n) ≡ Some n
end_read_short n l = end_step (decimal n) ∙ number_read n l

pub end_read : (n : ℕ) → n ≤ most_listed → closing_count (closing_line n) ≡ Some n
end_read n l = end_read_short n (omega (arith, l))

-- ---- read, so it was spelled

either_spelled : (off on w : List ℕ) (b : Bool) → either_word off on w ≡ Some b → w ≡ (if b then on else off)
either_spelled off on w b e = by (bytes_eq w off) (bytes_eq w on) refl refl e
  where
    by : (n y : Bool) → bytes_eq w off ≡ n → bytes_eq w on ≡ y → (if n then Some false else (if y then Some true else None)) ≡ Some b → w ≡ (if b then on else off)
    by true y f g h = is_that w off f ∙ ap (λ (c : Bool). if c then on else off) (same_Some false b h)
    by false true f g h = is_that w on g ∙ ap (λ (c : Bool). if c then on else off) (same_Some true b h)
    by false false f g h = absurd (none-some b h)

way_as : (b : Bool) → (if b then codes "u" else codes "l") ≡ upright_word b
way_as true = refl
way_as false = refl

value_as : (b : Bool) → (if b then codes "1" else codes "0") ≡ full_word b
value_as true = refl
value_as false = refl

view_spelled : (w : List ℕ) (v : View) → view_of_word w ≡ Some v → w ≡ view_word v
view_spelled w v e = by (bytes_eq w (codes "front")) (bytes_eq w (codes "top")) (bytes_eq w (codes "side")) refl refl refl e
  where
    by : (a b c : Bool) → bytes_eq w (codes "front") ≡ a → bytes_eq w (codes "top") ≡ b → bytes_eq w (codes "side") ≡ c
        → (if a then Some Front else (if b then Some Top else (if c then Some Side else None))) ≡ Some v → w ≡ view_word v
    by true b c f g h e = is_that w (codes "front") f ∙ ap view_word (same_Some Front v e)
    by false true c f g h e = is_that w (codes "top") g ∙ ap view_word (same_Some Top v e)
    by false false true f g h e = is_that w (codes "side") h ∙ ap view_word (same_Some Side v e)
    by false false false f g h e = absurd (none-some v e)

spot_spelled : (line : List ℕ) (s : LinePlace) → place_named line ≡ Some s → (has_short_numbers s ≡ true) × (line ≡ joined (place_words s))
spot_spelled line s e =
    let (view, a, is_view, cut1, e1) = both_some place_seen_in (view_of_word (cut line).word) (cut line).rest s e in
    let (upright, b, is_way, cut2, e2) = both_some (place_along view) (either_word (codes "l") (codes "u") (cut a).word) (cut a).rest s e1 in
    let (at, c, is_at, cut3, e3) = both_some (place_with view upright) (number_of_word (cut b).word) (cut b).rest s e2 in
    let (cell, is_cell, e4) = map_some (λ cell. record { view = view; upright = upright; at = at; cell = cell }) (number_of_word c) s e3 in
    let (wa, la) = number_written (cut b).word at is_at in
    let (wc, lc) = number_written c cell is_cell in
    subst (λ (t : LinePlace). (has_short_numbers t ≡ true) × (line ≡ joined (place_words t))) e4 (
      and_from (nat_lt at 10000000000) _ (lt-ltb at 10000000000 la) (lt-ltb cell 10000000000 lc),
      back_as line (view_word view) a (view_spelled (cut line).word view is_view) cut1
          ∙ ap (λ xs. view_word view ++ 32 ∷ xs) (back_as a (upright_word upright) b (either_spelled (codes "l") (codes "u") (cut a).word upright is_way ∙ way_as upright) cut2
          ∙ ap (λ xs. upright_word upright ++ 32 ∷ xs) (back_as b (decimal at) c wa cut3 ∙ ap (λ xs. decimal at ++ 32 ∷ xs) wc)),
    )

abbrev Spells : List ℕ → LogEntry → Type 0
Spells line e = (is_short_entry e ≡ true) × (line ≡ entry_line e)

force_spelled : (line rest : List ℕ) (e : LogEntry) → line ≡ codes "force" ++ 32 ∷ rest → force_of rest ≡ Some e → Spells line e
force_spelled line rest e is h =
    let (n, a, is_n, cut1, h1) = both_some force_on (number_of_word (cut rest).word) (cut rest).rest e h in
    let (full, b, known_full, cut2, h2) = both_some (force_with n) (either_word (codes "0") (codes "1") (cut a).word) (cut a).rest e h1 in
    let (s, said, h3) = map_some (λ s. Force n full s) (place_named b) e h2 in
    let (wn, ln) = number_written (cut rest).word n is_n in
    let (short, ws) = spot_spelled b s said in
    subst (Spells line) h3 (
      and_from (nat_lt n 10000000000) _ (lt-ltb n 10000000000 ln) short,
      is ∙ ap (λ xs. codes "force" ++ 32 ∷ xs) (back_as rest (decimal n) a wn cut1
          ∙ ap (λ xs. decimal n ++ 32 ∷ xs) (back_as a (full_word full) b (either_spelled (codes "0") (codes "1") (cut a).word full known_full ∙ value_as full) cut2
          ∙ ap (λ xs. full_word full ++ 32 ∷ xs) ws)),
    )

fail_spelled : (line rest : List ℕ) (e : LogEntry) → line ≡ codes "fail" ++ 32 ∷ rest → fail_of rest ≡ Some e → Spells line e
fail_spelled line rest e is h =
    let (s, said, f) = map_some (λ s. Fail s) (place_named rest) e h in
    let (short, ws) = spot_spelled rest s said in
    subst (Spells line) f (short, is ∙ ap (λ xs. codes "fail" ++ 32 ∷ xs) ws)

split_spelled : (line rest : List ℕ) (e : LogEntry) → line ≡ codes "split" ++ 32 ∷ rest → split_of rest ≡ Some e → Spells line e
split_spelled line rest e is h =
    let (n, said, f) = map_some (λ b. Split b) (number_of_word rest) e h in
    let (wn, ln) = number_written rest n said in
    subst (Spells line) f (lt-ltb n 10000000000 ln, is ∙ ap (λ xs. codes "split" ++ 32 ∷ xs) wn)

behind_spelled : (line w rest : List ℕ) (e : LogEntry) → line ≡ w ++ 32 ∷ rest → entry_behind w rest ≡ Some e → Spells line e
behind_spelled line w rest e is h = by (bytes_eq w (codes "fail")) (bytes_eq w (codes "force")) (bytes_eq w (codes "split")) refl refl refl h
  where
    such : (v : List ℕ) → bytes_eq w v ≡ true → line ≡ v ++ 32 ∷ rest
    such v f = is ∙ ap (λ x. x ++ 32 ∷ rest) (is_that w v f)

    by : (a b c : Bool) → bytes_eq w (codes "fail") ≡ a → bytes_eq w (codes "force") ≡ b → bytes_eq w (codes "split") ≡ c
        → (if a then fail_of rest else (if b then force_of rest else (if c then split_of rest else None))) ≡ Some e → Spells line e
    by true b c f g k h = fail_spelled line rest e (such (codes "fail") f) h
    by false true c f g k h = force_spelled line rest e (such (codes "force") g) h
    by false false true f g k h = split_spelled line rest e (such (codes "split") k) h
    by false false false f g k h = absurd (none-some e h)

whole_spelled : (line w : List ℕ) (e : LogEntry) → line ≡ w → (if bytes_eq w (codes "solid") then Some Whole else None) ≡ Some e → Spells line e
whole_spelled line w e is h = by (bytes_eq w (codes "solid")) refl h
  where
    by : (b : Bool) → bytes_eq w (codes "solid") ≡ b → (if b then Some Whole else None) ≡ Some e → Spells line e
    by true f h = subst (Spells line) (same_Some Whole e h) (refl, is ∙ is_that w (codes "solid") f)
    by false f h = absurd (none-some e h)

pub entry_spelled : (line : List ℕ) (e : LogEntry) → entry_of_line line ≡ Some e → (is_short_entry e ≡ true) × (line ≡ entry_line e)
entry_spelled line e h = by (cut line).rest refl h
  where
    by : (o : Option (List ℕ)) → (cut line).rest ≡ o → entry_of_cut (cut line).word o ≡ Some e → Spells line e
    by None f h = whole_spelled line (cut line).word e (cut_back line ∙ ap (back (cut line).word) f) h
    by (Some rest) f h = behind_spelled line (cut line).word rest e (back_as line (cut line).word rest refl f) h

pub end_as : (line : List ℕ) (n : ℕ) → closing_count line ≡ Some n → (n < 10000000000) × (line ≡ closing_line n)
end_as line n h = by (cut line).rest refl h
  where
    on : (rest : List ℕ) (b : Bool) → bytes_eq (cut line).word (codes "end") ≡ b → (cut line).rest ≡ Some rest → (if b then number_of_word rest else None) ≡ Some n → (n < 10000000000) × (line ≡ closing_line n)
    on rest true f g h =
        let (is, short) = number_written rest n h in
        (short, back_as line (codes "end") rest (is_that (cut line).word (codes "end") f) g ∙ ap (λ xs. codes "end" ++ 32 ∷ xs) is)
    on rest false f g h = absurd (none-some n h)

    by : (o : Option (List ℕ)) → (cut line).rest ≡ o → closing_count_of_cut (cut line).word o ≡ Some n → (n < 10000000000) × (line ≡ closing_line n)
    by None f h = absurd (none-some n h)
    by (Some rest) f h = on rest (bytes_eq (cut line).word (codes "end")) refl f h

pub end_spelled : (line : List ℕ) (n : ℕ) → closing_count line ≡ Some n → line ≡ closing_line n
end_spelled line n h = (end_as line n h).1
