-- The listed choices of a log are the matching ones.
use Rattle.std.proofs.Common.{◌≡◌, ◌≢◌, ◌⊎◌, ◌==◌, Bool, true, false, not, ℕ, zero, suc, ◌+◌, ◌<◌, List, [], ◌∷◌, ◌++◌, length, map, Option, Some, None, if◌then◌else◌, inl, inr, refl, ap, sym, subst, ◌∙◌, arith}
use Rattle.std.specs.List.{range_with_len}
use Rattle.std.proofs.lemmas.Bool.{eqb-true}
use Rattle.std.proofs.lemmas.Option.{none-some}
use Rattle.solid_model.specs.Blocks.{ProblemParts}
use Rattle.solid_model.specs.Demands.{said_by}
use Rattle.lemmas.specs.Lists.{Member, Each, Ascends}
use Rattle.lemmas.proofs.Lists.{member-append, member-append_left, member-append_right, each-from, ascends-append}
use Rattle.solid_model.specs.Demands.{AllMet}
use Rattle.solid_model.specs.Forcing.{IsLess}
use Rattle.solid_model.proofs.Lives.{met_less, with_less, known_new, less_with, not_excluded}
use Rattle.completeness_logs.specs.declared.entry.LogEntry.{LogEntry}
use Rattle.completeness_logs.specs.declared.entry.LogEntry.TheVariants.{Fail, Whole, Force, Split}
use Rattle.completeness_logs.specs.Logs.{line_placed, KnownBlocks, with_block, LogTree, IsTreeUnder, listed_choices, listed_at, listed_by, known_full, choice_known, ShowsSolid}
use Rattle.completeness_logs.specs.Logs.LogTree.{fails, whole, forces, splits}

-- two lists without repeats, no member of the one being one of the other
apart : {A : Type 0} (xs ys : List A) → Ascends ◌≢◌ xs → Ascends ◌≢◌ ys → ((x : A) → Member xs x → Member ys x → ⊥) → Ascends ◌≢◌ (xs ++ ys)
apart xs ys once once_too none = ascends-append ◌≢◌ xs ys once once_too
    (each-from (λ x. Each (λ y. x ≢ y) ys) xs (λ x m. each-from (λ y. x ≢ y) ys (λ y k e. none x m (subst (λ z. Member ys z) (sym e) k))))

-- ---- what an entry lists

pub listed_count : (p : ProblemParts) (known : KnownBlocks) (e : LogEntry) → length (listed_at p known e) ≡ listed_by e
listed_count p known (Fail l) = refl
listed_count p known Whole = refl
listed_count p known (Force block full l) = refl
listed_count p known (Split block) = refl

-- ---- the choice that decisions make

-- what a list made of a range of numbers says at a place
said_range : (f : ℕ → Bool) (a n block : ℕ) → block < n → said_by (map f (range_with_len a n)) block ≡ Some (f (a + block))
said_range f a zero block l = absurd (omega arith)
said_range f a (suc n) zero l = ap (λ k. Some (f k)) (let e : a ≡ a + 0 = omega arith in e)
said_range f a (suc n) (suc block) l = said_range f (a + 1) n block (omega arith) ∙ ap (λ k. Some (f k)) (let e : a + 1 + block ≡ a + suc block = omega arith in e)

range_length : (f : ℕ → Bool) (a n : ℕ) → length (map f (range_with_len a n)) ≡ n
range_length f a zero = refl
range_length f a (suc n) = ap suc (range_length f (a + 1) n)

-- lists that say the same are equal
same_said : (xs ys : List Bool) → length xs ≡ length ys → ((k : ℕ) → k < length xs → said_by xs k ≡ said_by ys k) → xs ≡ ys
same_said [] [] e same = refl
same_said [] (y ∷ ys) e same = absurd (omega (arith, e))
same_said (x ∷ xs) [] e same = absurd (omega (arith, e))
same_said (x ∷ xs) (y ∷ ys) e same =
    let h : Some x ≡ Some y = same 0 (omega arith) in
    let t : xs ≡ ys = same_said xs ys (omega (arith, e)) (λ k l. same (suc k) (omega arith)) in
    ap (λ z. z ∷ xs) (ap known_full h) ∙ ap (λ zs. y ∷ zs) t

-- whatever a list says, it says within its length
said_within : (xs : List Bool) (k : ℕ) (value : Bool) → said_by xs k ≡ Some value → k < length xs
said_within [] k value e = absurd (none-some value e)
said_within (x ∷ xs) zero value e = omega arith
said_within (x ∷ xs) (suc k) value e = let l = said_within xs k value e in omega (arith, l)

says_within : (xs : List Bool) (k : ℕ) → k < length xs → (value : Bool) × (said_by xs k ≡ Some value)
says_within [] k l = absurd (omega arith)
says_within (x ∷ xs) zero l = (x, refl)
says_within (x ∷ xs) (suc k) l = says_within xs k (omega arith)

some_full : (known : Option Bool) → known ≢ None → known ≡ Some (known_full known)
some_full None some = absurd (some refl)
some_full (Some full) some = refl

module _ (p : ProblemParts) where
  -- decisions are on blocks that are there
  abbrev pub AreBelow : KnownBlocks → Type 0
  AreBelow known = (block : ℕ) (value : Bool) → known block ≡ Some value → block < p.blocks.count

  with_below : (known : KnownBlocks) (block : ℕ) (full : Bool) → AreBelow known → block < p.blocks.count → AreBelow (with_block known block full)
  with_below known block full below l other value = by (block == other) refl
    where
      by : (b : Bool) → (block == other) ≡ b → (if b then Some full else known other) ≡ Some value → other < p.blocks.count
      by false f e = below other value e
      by true f e = subst (λ k. k < p.blocks.count) (eqb-true block other f) l

  pub choice_length : (known : KnownBlocks) → length (choice_known p known) ≡ p.blocks.count
  choice_length known = range_length (λ block. known_full (known block)) 0 p.blocks.count

  said_choice : (known : KnownBlocks) (block : ℕ) → block < p.blocks.count → said_by (choice_known p known) block ≡ Some (known_full (known block))
  said_choice known block l = said_range (λ b. known_full (known b)) 0 p.blocks.count block l ∙ ap (λ b. Some (known_full (known b))) (let e : 0 + block ≡ block = omega arith in e)

  module _ (known : KnownBlocks) (all : (block : ℕ) → block < p.blocks.count → known block ≢ None) where
    -- where all is decided, the choice says it
    pub choice_says : AreBelow known → IsLess known (said_by (choice_known p known))
    choice_says below block value e = said_choice known block (below block value e) ∙ ap (λ o. Some (known_full o)) e

    -- and nothing_known else
    pub choice_only : IsLess (said_by (choice_known p known)) known
    choice_only block value e =
        let l : block < p.blocks.count = subst (λ n. block < n) (choice_length known) (said_within (choice_known p known) block value e) in
        some_full (known block) (all block l) ∙ sym (said_choice known block l) ∙ e

    -- so one that says all of it is this one
    pub only_choice : (choice : List Bool) → length choice ≡ p.blocks.count → IsLess known (said_by choice) → choice_known p known ≡ choice
    only_choice choice whole_ less = same_said (choice_known p known) choice (choice_length known ∙ sym whole_) (λ block l.
        let k : block < p.blocks.count = subst (λ n. block < n) (choice_length known) l in
        said_choice known block k ∙ sym (less block (known_full (known block)) (some_full (known block) (all block k))))

  -- ---- what is listed

  -- all choices that decisions leave, under which each line can be met, each once
  pub record AreUnder (known : KnownBlocks) (choices : List (List Bool)) : Type 0 where
    pub long : (choice : List Bool) → Member choices choice → length choice ≡ p.blocks.count
    pub said : (choice : List Bool) → Member choices choice → IsLess known (said_by choice)
    pub met : (choice : List Bool) → Member choices choice → AllMet p (said_by choice)
    pub once : Ascends ◌≢◌ choices
    pub complete : (choice : List Bool) → length choice ≡ p.blocks.count → IsLess known (said_by choice) → AllMet p (said_by choice) → Member choices choice

  under_whole : (known : KnownBlocks) → AreBelow known → ShowsSolid p known → AreUnder known (choice_known p known ∷ [])
  under_whole known below (all, met) = record {
    long = λ choice m. one choice m (λ c. length c ≡ p.blocks.count) (choice_length known);
    said = λ choice m. one choice m (λ c. IsLess known (said_by c)) (choice_says known all below);
    met = λ choice m. one choice m (λ c. AllMet p (said_by c)) (λ l has. met_less p (said_by (choice_known p known)) known (choice_only known all) l (met l has));
    once = (tt, tt);
    complete = λ choice whole_ less _. inl (only_choice known all choice whole_ less);
  }
    where
      one : (choice : List Bool) → Member (choice_known p known ∷ []) choice → (P : List Bool → Type 0) → P (choice_known p known) → P choice
      one choice (inl e) P h = subst P e h
      one choice (inr m) P h = absurd m

  opposite : (v f : Bool) → (v ≡ f) ⊎ (v ≡ not f)
  opposite true true = inl refl
  opposite true false = inr refl
  opposite false true = inr refl
  opposite false false = inl refl

  under_force : (known : KnownBlocks) (block : ℕ) (full : Bool) (choices : List (List Bool)) → (block < p.blocks.count) → known block ≡ None
      → ((choice : List Bool) → length choice ≡ p.blocks.count → IsLess known (said_by choice) → AllMet p (said_by choice) → said_by choice block ≡ Some (not full) → ⊥)
      → AreUnder (with_block known block full) choices → AreUnder known choices
  under_force known block full choices there undecided excluded u = record {
    long = u.long;
    said = λ choice m other value e. u.said choice m other value (less_with known (record { block = block; full = full }) undecided other value e);
    met = u.met;
    once = u.once;
    complete = λ choice whole_ less met.
        let (value, said) = says_within choice block (subst (λ n. block < n) (sym whole_) there) in
        elim (opposite value full) as (λ _. Member choices choice) [
          | inl same ↦ u.complete choice whole_ (with_less known (said_by choice) (record { block = block; full = full }) less (said ∙ ap Some same)) met
          | inr other ↦ absurd (excluded choice whole_ less met (said ∙ ap Some other))
        ];
  }

  under_split : (known : KnownBlocks) (block : ℕ) (first second : List (List Bool)) → (block < p.blocks.count) → known block ≡ None
      → AreUnder (with_block known block true) first → AreUnder (with_block known block false) second → AreUnder known (first ++ second)
  under_split known block first second there undecided u v = record {
    long = λ choice m. elim (member-append first second choice m) as (λ _. length choice ≡ p.blocks.count) [ inl a ↦ u.long choice a | inr b ↦ v.long choice b ];
    said = λ choice m other value e. elim (member-append first second choice m) as (λ _. said_by choice other ≡ Some value) [
      | inl a ↦ u.said choice a other value (less_with known (record { block = block; full = true }) undecided other value e)
      | inr b ↦ v.said choice b other value (less_with known (record { block = block; full = false }) undecided other value e)
    ];
    met = λ choice m. elim (member-append first second choice m) as (λ _. AllMet p (said_by choice)) [ inl a ↦ u.met choice a | inr b ↦ v.met choice b ];
    once = apart first second u.once v.once (λ choice a b. differ (sym (u.said choice a block true (known_new known (record { block = block; full = true })))
        ∙ v.said choice b block false (known_new known (record { block = block; full = false }))));
    complete = λ choice whole_ less met.
        let (value, said) = says_within choice block (subst (λ n. block < n) (sym whole_) there) in
        by choice whole_ less met value said;
  }
    where
      differ : Some true ≡ Some false → ⊥
      differ e = cc

      by : (choice : List Bool) → length choice ≡ p.blocks.count → IsLess known (said_by choice) → AllMet p (said_by choice) → (value : Bool) → said_by choice block ≡ Some value → Member (first ++ second) choice
      by choice whole_ less met true said = member-append_left first second choice (u.complete choice whole_ (with_less known (said_by choice) (record { block = block; full = true }) less said) met)
      by choice whole_ less met false said = member-append_right first second choice (v.complete choice whole_ (with_less known (said_by choice) (record { block = block; full = false }) less said) met)

  -- THE LAW of logs, under any decisions
  pub listed_under : (t : LogTree) (known : KnownBlocks) → AreBelow known → IsTreeUnder p known t → AreUnder known (listed_choices p known t)
  listed_under (fails l) known below (has, lost) = record {
    long = λ choice m. absurd m;
    said = λ choice m. absurd m;
    met = λ choice m. absurd m;
    once = tt;
    complete = λ choice whole_ less met. absurd (lost (met_less p known (said_by choice) less (line_placed l) (met (line_placed l) has)));
  }
  listed_under whole known below is = under_whole known below is
  listed_under (forces block full l t) known below ((there, undecided), (has, excludes), is) =
      under_force known block full (listed_choices p (with_block known block full) t) there undecided
      (λ choice whole_ less met said. not_excluded p known (said_by choice) less met block (not full) said (undecided, line_placed l, has, excludes))
      (listed_under t (with_block known block full) (with_below known block full below there) is)
  listed_under (splits block t u) known below ((there, undecided), is, too) =
      under_split known block (listed_choices p (with_block known block true) t) (listed_choices p (with_block known block false) u) there undecided
      (listed_under t (with_block known block true) (with_below known block true below there) is)
      (listed_under u (with_block known block false) (with_below known block false below there) too)
