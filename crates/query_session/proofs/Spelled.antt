-- Lines are read as they are spelled.
use Rattle.std.proofs.Common.{◌≡◌, Bool, true, false, ℕ, ◌<◌, nat_lt, nat_le, List, [], ◌∷◌, ◌++◌, Option, Some, None, option_map, if◌then◌else◌, refl, ap, sym, subst, ◌∙◌, codes, arith}
use Rattle.std.specs.Option.{option_and_then}
use Rattle.std.specs.Fmt.{decimal}
use Rattle.std.specs.Str.{bytes_eq}
use Rattle.std.proofs.lemmas.Bool.{and_parts, and_from, ltb-true, leb-true}
use Rattle.std.proofs.lemmas.Option.{none-some, same_Some}
use Rattle.text_lines.specs.Numbers.{number_of_word}
use Rattle.text_lines.specs.Words.{Cut, cut, joined, joined_behind, of_both}
use Rattle.text_lines.proofs.Cuts.{back, cut_back}
use Rattle.text_lines.proofs.NumberWords.{number_written, number_read}
use Rattle.text_lines.proofs.Spaces.{cut_word, decimal_no_space, map_some, both_some, back_as, is_that}
use Rattle.query_session.specs.declared.ask.Ask.{Ask}
use Rattle.query_session.specs.declared.ask.Ask.TheVariants as ask
use Rattle.query_session.specs.declared.ask.Asking.{Asking}
use Rattle.query_session.specs.Askings.{is_in, may_be_asked, may_stand, ask_words, asking_line, readers_line, may_read}
use Rattle.query_session.specs.SessionLines.{kept_in, number_within, page_from, page_of, wait_of, ask_behind, ask_of_cut, ask_of_line, asking_with, asking_of_line, readers_of_cut, readers_of_line}

-- ---- spelled, then read

in_range : (least most n : ℕ) → most < 10000000000 → is_in least most n ≡ true → n < 10000000000
in_range least most n few h = let l = leb-true n most (and_parts (nat_le least n) _ h).1 in omega (arith, l, few)

number_in_read : (least most n : ℕ) → most < 10000000000 → is_in least most n ≡ true → number_within least most (decimal n) ≡ Some n
number_in_read least most n few h = ap (option_and_then (kept_in least most)) (number_read n (in_range least most n few h)) ∙ ap (λ b. if b then Some n else None) h

page_step : (rest : List ℕ) → ask_of_line (codes "page" ++ 32 ∷ rest) ≡ page_of rest
page_step rest = refl

wait_step : (rest : List ℕ) → ask_of_line (codes "wait" ++ 32 ∷ rest) ≡ wait_of rest
wait_step rest = refl

readers_step : (rest : List ℕ) → readers_of_line (codes "readers" ++ 32 ∷ rest) ≡ number_within 1 16 rest
readers_step rest = refl

place_step : (n : ℕ) (rest : List ℕ) → is_in 0 65536 n ≡ true → page_of (decimal n ++ 32 ∷ rest) ≡ page_from n rest
place_step n rest h = ap (λ (k : Cut). of_both page_from (number_within 0 65536 k.word) k.rest) (cut_word (decimal n) rest (decimal_no_space n (in_range 0 65536 n (omega arith) h)))
    ∙ ap (λ o. of_both page_from o (Some rest)) (number_in_read 0 65536 n (omega arith) h)

ask_read : (a : Ask) → may_be_asked a ≡ true → ask_of_line (joined (ask_words a)) ≡ Some a
ask_read (ask.Page from most) h =
    let (f, m) = and_parts (is_in 0 65536 from) _ h in
    page_step (joined_behind (decimal from) (decimal most ∷ [])) ∙ place_step from (decimal most) f
    ∙ ap (option_map (λ n. ask.Page from n)) (number_in_read 1 256 most (omega arith) m)
ask_read (ask.Wait count) h = wait_step (decimal count) ∙ ap (option_map (λ n. ask.Wait n)) (number_in_read 1 65536 count (omega arith) h)
ask_read ask.Stop h = refl

asking_step : (readers n : ℕ) (rest : List ℕ) → n < 10000000000 → asking_of_line readers (decimal n ++ 32 ∷ rest) ≡ asking_with readers n rest
asking_step readers n rest l = ap (λ (k : Cut). of_both (asking_with readers) (number_of_word k.word) k.rest) (cut_word (decimal n) rest (decimal_no_space n l))
    ∙ ap (λ o. of_both (asking_with readers) o (Some rest)) (number_read n l)

-- the line of an asking is that of its reader's number and then of its words
line_as : (n : ℕ) (a : Ask) → joined (decimal n ∷ ask_words a) ≡ decimal n ++ 32 ∷ joined (ask_words a)
line_as n (ask.Page from most) = refl
line_as n (ask.Wait count) = refl
line_as n ask.Stop = refl

pub asking_read : (readers : ℕ) (a : Asking) → may_read readers ≡ true → may_stand readers a ≡ true → asking_of_line readers (asking_line a) ≡ Some a
asking_read readers a r h =
    let (reader, may) = and_parts (nat_lt a.reader readers) _ h in
    let few = leb-true readers 16 (and_parts (nat_le 1 readers) _ r).1 in
    let below = ltb-true a.reader readers reader in
    ap (asking_of_line readers) (line_as a.reader a.ask) ∙ asking_step readers a.reader (joined (ask_words a.ask)) (omega (arith, few, below))
    ∙ ap (λ b. if b then option_map (λ x. record { reader = a.reader; ask = x }) (ask_of_line (joined (ask_words a.ask))) else None) reader
    ∙ ap (option_map (λ x. record { reader = a.reader; ask = x })) (ask_read a.ask may)

pub readers_read : (n : ℕ) → may_read n ≡ true → readers_of_line (readers_line n) ≡ Some n
readers_read n h = readers_step (decimal n) ∙ number_in_read 1 16 n (omega arith) h

-- ---- read, so it was spelled

kept_some : {A : Type 0} (b : Bool) (o : Option A) (y : A) → (if b then o else None) ≡ Some y → (b ≡ true) × (o ≡ Some y)
kept_some true o y e = (refl, e)
kept_some false o y e = absurd (none-some y e)

number_in_written : (least most : ℕ) (w : List ℕ) (n : ℕ) → number_within least most w ≡ Some n → (is_in least most n ≡ true) × (w ≡ decimal n)
number_in_written least most w n e = by (number_of_word w) refl e
  where
    by : (o : Option ℕ) → number_of_word w ≡ o → option_and_then (kept_in least most) o ≡ Some n → (is_in least most n ≡ true) × (w ≡ decimal n)
    by None f h = absurd (none-some n h)
    by (Some m) f h =
        let (is, same) = kept_some (is_in least most m) (Some m) n h in
        let eq = same_Some m n same in
        (subst (λ k. is_in least most k ≡ true) eq is, (number_written w m f).0 ∙ ap decimal eq)

abbrev Spells : List ℕ → Ask → Type 0
Spells line a = (may_be_asked a ≡ true) × (line ≡ joined (ask_words a))

page_spelled : (line rest : List ℕ) (a : Ask) → line ≡ codes "page" ++ 32 ∷ rest → page_of rest ≡ Some a → Spells line a
page_spelled line rest a is h =
    let (from, behind, is_from, cut1, h1) = both_some page_from (number_within 0 65536 (cut rest).word) (cut rest).rest a h in
    let (most, is_most, same) = map_some (λ n. ask.Page from n) (number_within 1 256 behind) a h1 in
    let (rf, wf) = number_in_written 0 65536 (cut rest).word from is_from in
    let (rm, wm) = number_in_written 1 256 behind most is_most in
    subst (Spells line) same (
      and_from (is_in 0 65536 from) _ rf rm,
      is ∙ ap (λ xs. codes "page" ++ 32 ∷ xs) (back_as rest (decimal from) behind wf cut1 ∙ ap (λ xs. decimal from ++ 32 ∷ xs) wm),
    )

wait_spelled : (line rest : List ℕ) (a : Ask) → line ≡ codes "wait" ++ 32 ∷ rest → wait_of rest ≡ Some a → Spells line a
wait_spelled line rest a is h =
    let (count, is_count, same) = map_some (λ n. ask.Wait n) (number_within 1 65536 rest) a h in
    let (r, w) = number_in_written 1 65536 rest count is_count in
    subst (Spells line) same (r, is ∙ ap (λ xs. codes "wait" ++ 32 ∷ xs) w)

stop_spelled : (line w : List ℕ) (a : Ask) → line ≡ w → (if bytes_eq w (codes "stop") then Some ask.Stop else None) ≡ Some a → Spells line a
stop_spelled line w a is h =
    let (same, some) = kept_some (bytes_eq w (codes "stop")) (Some ask.Stop) a h in
    subst (Spells line) (same_Some ask.Stop a some) (refl, is ∙ is_that w (codes "stop") same)

behind_spelled : (line w rest : List ℕ) (a : Ask) → line ≡ w ++ 32 ∷ rest → ask_behind w rest ≡ Some a → Spells line a
behind_spelled line w rest a is h = by (bytes_eq w (codes "page")) (bytes_eq w (codes "wait")) refl refl h
  where
    such : (v : List ℕ) → bytes_eq w v ≡ true → line ≡ v ++ 32 ∷ rest
    such v f = is ∙ ap (λ x. x ++ 32 ∷ rest) (is_that w v f)

    by : (b c : Bool) → bytes_eq w (codes "page") ≡ b → bytes_eq w (codes "wait") ≡ c
        → (if b then page_of rest else (if c then wait_of rest else None)) ≡ Some a → Spells line a
    by true c f g h = page_spelled line rest a (such (codes "page") f) h
    by false true f g h = wait_spelled line rest a (such (codes "wait") g) h
    by false false f g h = absurd (none-some a h)

ask_spelled : (line : List ℕ) (a : Ask) → ask_of_line line ≡ Some a → Spells line a
ask_spelled line a h = by (cut line).rest refl h
  where
    by : (o : Option (List ℕ)) → (cut line).rest ≡ o → ask_of_cut (cut line).word o ≡ Some a → Spells line a
    by None f h = stop_spelled line (cut line).word a (cut_back line ∙ ap (back (cut line).word) f) h
    by (Some rest) f h = behind_spelled line (cut line).word rest a (back_as line (cut line).word rest refl f) h

pub asking_spelled : (readers : ℕ) (line : List ℕ) (a : Asking) → asking_of_line readers line ≡ Some a → (may_stand readers a ≡ true) × (line ≡ asking_line a)
asking_spelled readers line a h =
    let (n, rest, is_n, cut1, h1) = both_some (asking_with readers) (number_of_word (cut line).word) (cut line).rest a h in
    let (below, h2) = kept_some (nat_lt n readers) (option_map (λ x. record { reader = n; ask = x }) (ask_of_line rest)) a h1 in
    let (x, is_x, same) = map_some (λ x. record { reader = n; ask = x }) (ask_of_line rest) a h2 in
    let (may, w) = ask_spelled rest x is_x in
    subst (λ (b : Asking). (may_stand readers b ≡ true) × (line ≡ asking_line b)) same (
      and_from (nat_lt n readers) _ below may,
      back_as line (decimal n) rest (number_written (cut line).word n is_n).0 cut1 ∙ ap (λ xs. decimal n ++ 32 ∷ xs) w ∙ sym (line_as n x),
    )

pub readers_spelled : (line : List ℕ) (n : ℕ) → readers_of_line line ≡ Some n → (may_read n ≡ true) × (line ≡ readers_line n)
readers_spelled line n h = by (cut line).rest refl h
  where
    by : (o : Option (List ℕ)) → (cut line).rest ≡ o → readers_of_cut (cut line).word o ≡ Some n → (may_read n ≡ true) × (line ≡ readers_line n)
    by None f h = absurd (none-some n h)
    by (Some rest) f h =
        let (same, h1) = kept_some (bytes_eq (cut line).word (codes "readers")) (number_within 1 16 rest) n h in
        let (r, w) = number_in_written 1 16 rest n h1 in
        (r, back_as line (codes "readers") rest (is_that (cut line).word (codes "readers") same) f ∙ ap (λ xs. codes "readers" ++ 32 ∷ xs) w)
