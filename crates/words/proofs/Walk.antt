-- The walk of `clap` over words: what it refuses and which rows it makes, as one value; and its next turn.
use Rattle.std.proofs.Common.{◌≡◌, ◌∙◌, ◌⊎◌, inl, inr, ⊎_elim, true≢false, refl, sym, ap, ap₂, ℕ, zero, suc, drop, Bool, false, cond, List, [], ◌∷◌, length, Option, Some, None}
use Rattle.std.specs.Prelude.{encode_utf8, slice_get}
use Rattle.std.specs.List.{fold}
use Rattle.std.specs.Option.{option_map_or}
use Rattle.std.specs.Str.{bytes_eq, chars}
use Rattle.clap.specs.Lexer.{long_of, short_of}
use Rattle.clap.specs.Kinds.{Kinds, or_else}
use Rattle.clap.specs.Faults.{bundle_fault, bundle_step_fault, flag_word_fault, flags_fault, long_fault, settle_fault, short_fault, step_fault, turn_fault, walk_fault}
use Rattle.clap.specs.Walk.{Held, Outcome, Row, Rule, Step, Waiting, Walk, after_flag, after_step, arg_by_long, bundle_met, bundle_step, idle, long_met, long_or_other, option, positional, plain, plain_word, settled, short_or_plain, trailing, walked}
use Rattle.words.specs.Words.{Table, Text, is_digits}
use Rattle.words.proofs.Texts.{short_no_number}
use Rattle.words.proofs.Built.{by_short, built_rules, shape_by}
use Rattle.words.proofs.OneUse.{none}

-- the walk with nothing behind it but what is held, at this position
abbrev pub standing : Waiting → Held → ℕ → Walk
standing waiting h position = record { held = h; waiting = waiting; position = position; is_trailing = false; stopped = None }

module _ (t : Table) where
  abbrev pub held_after : Walk → List Text → Held
  held_after w words = (fold (walked (built_rules t) []) w words).held

  abbrev pub rest_fault : Walk → List Text → Kinds
  rest_fault w words = or_else (walk_fault (shape_by (built_rules t)) [] w words)
      (settle_fault (built_rules t) false (held_after w words))

  -- the rows at the end of the words, where they aren't refused
  abbrev pub outcome : Walk → List Text → Option (List Row)
  outcome w words = cond (none (rest_fault w words)) (Some (settled (built_rules t) (held_after w words)).rows) None

  next_word : (w : Walk) (x : Text) (xs : List Text)
      → outcome w (x ∷ xs) ≡ cond (none (turn_fault (shape_by (built_rules t)) [] w x))
      (outcome (walked (built_rules t) [] w x) xs) None
  unfolding walk_fault
  next_word w x xs = go (turn_fault (shape_by (built_rules t)) [] w x)
    where
      after : Walk
      after = walked (built_rules t) [] w x

      go : (k : Kinds)
          → cond (none (or_else (or_else k (walk_fault (shape_by (built_rules t)) [] (walked (built_rules t) [] w x) xs))
          (settle_fault (built_rules t) false (held_after (walked (built_rules t) [] w x) xs))))
          (Some (settled (built_rules t) (held_after (walked (built_rules t) [] w x) xs)).rows) None
          ≡ cond (none k) (outcome (walked (built_rules t) [] w x) xs) None
      go [] = refl
      go (k ∷ ks) = refl

  -- what a word comes to, by whether it is `--` and by what it is as a long word
  abbrev word_step : Waiting → Held → ℕ → Text → Bool → Option (Text × Option Text) → Held × Step
  word_step waiting h position x ends long = cond ends (h, trailing position) (long_or_other (built_rules t) waiting x long h)

  abbrev turned : Waiting → Held → ℕ → Text → List Text → Bool → Option (Text × Option Text) → Option (List Row)
  turned waiting h position x xs ends long = cond
      (none (or_else (cond ends [] (flag_word_fault (built_rules t) false long x h))
      (step_fault (shape_by (built_rules t)) position (word_step waiting h position x ends long).0
      (word_step waiting h position x ends long).1)))
      (outcome (after_step (built_rules t) x (standing waiting h position) (word_step waiting h position x ends long).0
      (word_step waiting h position x ends long).1) xs) None

  one_turn : (waiting : Waiting) (h : Held) (position : ℕ) (x : Text) (xs : List Text)
      → outcome (standing waiting h position) (x ∷ xs) ≡ turned waiting h position x xs (bytes_eq x (45 ∷ 45 ∷ [])) (long_of x)
  unfolding walked
  one_turn idle h position x xs = next_word (standing idle h position) x xs
  one_turn (option id) h position x xs = next_word (standing (option id) h position) x xs
  one_turn positional h position x xs = next_word (standing positional h position) x xs

  -- ---- a long word, by the argument that it names

  abbrev long_step : Waiting → Held → Text → Option Text → Option Rule → Held × Step
  long_step waiting h x v found = after_flag (built_rules t) waiting x (long_met (built_rules t) found v h).0
      (long_met (built_rules t) found v h).1

  abbrev pub turned_long : Waiting → Held → ℕ → Text → List Text → Option Text → Option Rule → Option (List Row)
  turned_long waiting h position x xs v found = cond
      (none (or_else (long_fault (built_rules t) false found v h)
      (step_fault (shape_by (built_rules t)) position (long_step waiting h x v found).0 (long_step waiting h x v found).1)))
      (outcome (after_step (built_rules t) x (standing waiting h position) (long_step waiting h x v found).0
      (long_step waiting h x v found).1) xs) None

  pub long_turn : (waiting : Waiting) (h : Held) (position : ℕ) (x : Text) (xs : List Text) (p : Text × Option Text)
      → bytes_eq x (45 ∷ 45 ∷ []) ≡ false → long_of x ≡ Some p
      → outcome (standing waiting h position) (x ∷ xs) ≡ turned_long waiting h position x xs p.1 (arg_by_long (built_rules t) p.0)
  long_turn waiting h position x xs p ends long = one_turn waiting h position x xs
      ∙ ap₂ (turned waiting h position x xs) ends long

  -- ---- any other word

  abbrev pub turned_plain : Waiting → Held → ℕ → Text → List Text → Option (List Row)
  turned_plain waiting h position x xs = cond
      (none (step_fault (shape_by (built_rules t)) position (plain_word (built_rules t) waiting x h).0
      (plain_word (built_rules t) waiting x h).1))
      (outcome (after_step (built_rules t) x (standing waiting h position) (plain_word (built_rules t) waiting x h).0
      (plain_word (built_rules t) waiting x h).1) xs) None

  abbrev turned_short : Waiting → Held → ℕ → Text → List Text → Option Text → Option (List Row)
  turned_short waiting h position x xs short = cond
      (none (or_else (option_map_or (λ flags. bundle_fault (built_rules t) false flags h) short [])
      (step_fault (shape_by (built_rules t)) position (short_or_plain (built_rules t) waiting x short h).0
      (short_or_plain (built_rules t) waiting x short h).1)))
      (outcome (after_step (built_rules t) x (standing waiting h position) (short_or_plain (built_rules t) waiting x short h).0
      (short_or_plain (built_rules t) waiting x short h).1) xs) None

  -- a bundle of short options: it is refused, or where its bytes are no text it is a plain word
  bundled : (k : ℕ) (flags : Text) (h : Held) → ((flags_fault (built_rules t) false k flags 0 h ≡ [])
      × (bundle_met (built_rules t) k flags 0 plain h ≡ (h, plain)))
      ⊎ (none (flags_fault (built_rules t) false k flags 0 h) ≡ false)
  unfolding flags_fault bundle_met
  bundled zero flags h = inl (refl, refl)
  bundled (suc k) flags h = go (slice_get (chars flags) 0) refl
    where
      go : (o : Option ℕ) → slice_get (chars flags) 0 ≡ o
          → ((bundle_step_fault (built_rules t) false o flags 0 h (flags_fault (built_rules t) false k) ≡ [])
          × (bundle_step (built_rules t) o flags 0 plain h (bundle_met (built_rules t) k) ≡ (h, plain)))
          ⊎ (none (bundle_step_fault (built_rules t) false o flags 0 h (flags_fault (built_rules t) false k)) ≡ false)
      go None is = inl (refl, refl)
      go (Some x) is = inr (ap (λ a. none (short_fault (built_rules t) false a (drop (length (encode_utf8 x)) flags) h
          (flags_fault (built_rules t) false k (drop (length (encode_utf8 x)) flags) 0))) (by_short t x))

  abbrev flagged : Waiting → Held → ℕ → Text → List Text → Kinds → Held × Outcome → Option (List Row)
  flagged waiting h position x xs k met = cond
      (none (or_else k (step_fault (shape_by (built_rules t)) position (after_flag (built_rules t) waiting x met.0 met.1).0
      (after_flag (built_rules t) waiting x met.0 met.1).1)))
      (outcome (after_step (built_rules t) x (standing waiting h position) (after_flag (built_rules t) waiting x met.0 met.1).0
      (after_flag (built_rules t) waiting x met.0 met.1).1) xs) None

  refused_first : (k rest : Kinds) (o : Option (List Row)) → none k ≡ false → cond (none (or_else k rest)) o None ≡ None
  refused_first [] rest o e = absurd (true≢false e)
  refused_first (k ∷ ks) rest o e = refl

  short_turn : (waiting : Waiting) (h : Held) (position : ℕ) (x : Text) (xs : List Text) (short : Option Text) → h.skip ≡ 0
      → (turned_short waiting h position x xs short ≡ turned_plain waiting h position x xs)
      ⊎ ((flags : Text) × (short ≡ Some flags) × (turned_short waiting h position x xs short ≡ None))
  short_turn waiting h position x xs None first = inl refl
  short_turn waiting h position x xs (Some flags) first = ⊎_elim
      (λ (e : (flags_fault (built_rules t) false (length flags) flags 0 h ≡ [])
      × (bundle_met (built_rules t) (length flags) flags 0 plain h ≡ (h, plain))).
      inl (as_flagged ∙ ap₂ (flagged waiting h position x xs) e.0 e.1))
      (λ (e : none (flags_fault (built_rules t) false (length flags) flags 0 h) ≡ false). inr
      (flags, refl, as_flagged ∙ refused_first _ _ _ e))
      (bundled (length flags) flags h)
    where
      same : record h { skip = 0 } ≡ h
      same = ap (λ n. record h { skip = n }) (sym first)

      as_flagged : turned_short waiting h position x xs (Some flags) ≡ flagged waiting h position x xs
          (flags_fault (built_rules t) false (length flags) flags 0 h) (bundle_met (built_rules t) (length flags) flags 0 plain h)
      as_flagged =
          ap₂ (λ (n : ℕ) (g : Held). flagged waiting h position x xs (flags_fault (built_rules t) false (length flags) flags n g)
          (bundle_met (built_rules t) (length flags) flags n plain g)) first same

  -- a word that is no long one is a plain one, or is refused and is no number
  pub other_turn : (waiting : Waiting) (h : Held) (position : ℕ) (x : Text) (xs : List Text) → h.skip ≡ 0
      → bytes_eq x (45 ∷ 45 ∷ []) ≡ false → long_of x ≡ None
      → (outcome (standing waiting h position) (x ∷ xs) ≡ turned_plain waiting h position x xs)
      ⊎ ((is_digits x ≡ false) × (outcome (standing waiting h position) (x ∷ xs) ≡ None))
  other_turn waiting h position x xs first ends long =
      let turn = one_turn waiting h position x xs ∙ ap₂ (turned waiting h position x xs) ends long in
      ⊎_elim (λ (e : turned_short waiting h position x xs (short_of x) ≡ turned_plain waiting h position x xs). inl (turn ∙ e))
      (λ (e : (flags : Text) × (short_of x ≡ Some flags) × (turned_short waiting h position x xs (short_of x) ≡ None)).
      inr (short_no_number x e.0 e.1, turn ∙ e.2))
      (short_turn waiting h position x xs (short_of x) first)
