-- A parse by a table: it fails exactly where the words aren't taken, and else its rows are those of their uses.
use Rattle.std.proofs.Common.{◌≡◌, ◌∙◌, refl, sym, ap, ap₂, ℕ, Bool, true, false, cond, not, ◌&&◌, ◌||◌, List, [], ◌∷◌, ◌++◌, map, Option, Some, None, is_some, codes, true≢false}
use Rattle.std.specs.Prelude.{option_and_then, option_map, unwrap_or}
use Rattle.std.specs.List.{count_by, find, fold, list_all, list_any}
use Rattle.std.specs.Option.{option_map_or}
use Rattle.std.specs.Str.{bytes_eq}
use Rattle.std.proofs.lemmas.Slice.Eq.{bytes_eq-Decides}
use Rattle.clap.specs.Facts.{explicit_source}
use Rattle.clap.specs.Kinds.{Kinds, or_else}
use Rattle.clap.specs.Faults.{check_fault, default_fault, defaults_fault, is_simple_and_free}
use Rattle.clap.specs.Simple.{App, filled, is_simple}
use Rattle.clap.specs.Takes.{is_given}
use Rattle.clap.specs.Walk.{Row, Rule, default_rows, has_row, is_early_multiple, more_values, one_of, reading_by, row_text, with_default}
use Rattle.clap.specs.declared.parser.matches.ValueSource.TheVariants.{DefaultValue}
use Rattle.clap.specs.declared.builder.value_parser.Reading.TheVariants as reading
use Rattle.clap.specs.declared.error.kind.ErrorKind.TheVariants.{MissingRequiredArgument}
use Rattle.clap.proofs.WalkLemmas.{both, find-map}
use Rattle.words.specs.declared.table.Range.{Range}
use Rattle.words.specs.Rows.{has_flag, is_range, is_sound, read_in}
use Rattle.words.specs.Rules.{app_by, number_rules, option_rule, rule_by, rules_of}
use Rattle.words.specs.Words.{Field, Table, Text, Use, has_number, is_used, number_name}
use Rattle.words.proofs.Built.{built_number, built_numbers, built_option, built_rules, rules_filled, shape_by}
use Rattle.words.proofs.OneUse.{at_new, none, use_row}

-- ---- the command is one of which `clap` says all

all_among : (p : Rule → Bool) (g : Field → Rule) → ((f : Field) → p (g f) ≡ true) → (fs : List Field) (rest : List Rule)
    → list_all p rest ≡ true → list_all p (map g fs ++ rest) ≡ true
all_among p g each [] rest e = e
all_among p g each (f ∷ fs) rest e = ap₂ (λ a b. a && b) (each f) (all_among p g each fs rest e)

any_among : (p : Rule → Bool) (g : Field → Rule) → ((f : Field) → p (g f) ≡ false) → (fs : List Field) (rest : List Rule)
    → list_any p (map g fs ++ rest) ≡ list_any p rest
any_among p g each [] rest = refl
any_among p g each (f ∷ fs) rest = ap (λ b. b || list_any p (map g fs ++ rest)) (each f) ∙ any_among p g each fs rest

rules_simple : (t : Table) → list_all (λ (a : Rule). a.is_simple) (rules_of t) ≡ true
rules_simple t = all_among (λ a. a.is_simple) option_rule (λ f. one f.name f.range) t.options (number_rules t.number)
    (number t.number)
  where
    one : (name : Text) (range : Option Range) → (rule_by name range).is_simple ≡ true
    one name None = refl
    one name (Some r) = refl

    number : (n : Option Range) → list_all (λ (a : Rule). a.is_simple) (number_rules n) ≡ true
    number None = refl
    number (Some r) = refl

-- what the rules of options and of numbers pass, as they are built, all rules of a table pass, as they are built
all_built : (p : Rule → Bool) → ((name : Text) → p (filled (rule_by name None)) ≡ true)
    → ((name : Text) (r : Range) → p (filled (rule_by name (Some r))) ≡ true) → ((r : Range) → p (built_number r) ≡ true)
    → (t : Table) → list_all p (built_rules t) ≡ true
all_built p flag option number t = all_among p built_option (λ f. one f.name f.range) t.options (built_numbers t.number) (numbers t.number)
  where
    one : (name : Text) (range : Option Range) → p (filled (rule_by name range)) ≡ true
    one name None = flag name
    one name (Some r) = option name r

    numbers : (n : Option Range) → list_all p (built_numbers n) ≡ true
    numbers None = refl
    numbers (Some r) = ap (λ b. b && true) (number r)

built_simple : (t : Table) → list_all (λ (a : Rule). a.is_simple) (built_rules t) ≡ true
built_simple = all_built (λ a. a.is_simple) (λ name. refl) (λ name r. refl) (λ r. refl)

built_free : (t : Table) → list_all (λ (a : Rule). a.is_free) (built_rules t) ≡ true
built_free = all_built (λ a. a.is_free) (λ name. refl) (λ name r. refl) (λ r. refl)

built_in_order : (t : Table) (k : ℕ) → list_any (is_early_multiple k) (built_rules t) ≡ false
built_in_order t k = any_among (is_early_multiple k) built_option (λ f. one f.name f.range) t.options (built_numbers t.number)
    ∙ number t.number
  where
    one : (name : Text) (range : Option Range) → is_early_multiple k (filled (rule_by name range)) ≡ false
    one name None = refl
    one name (Some r) = refl

    number : (n : Option Range) → list_any (is_early_multiple k) (built_numbers n) ≡ false
    number None = refl
    number (Some r) = refl

-- the command of a table, built
abbrev built_app : List Rule → App
built_app rules = record { top = shape_by rules; subs = [] }

simple_by : (a b c d : Bool) → a ≡ true → b ≡ true → c ≡ false → d ≡ true
    → (((a && true) && ((b && not c) && true)) && (d && true)) ≡ true
simple_by true true false true e f g h = refl
simple_by false b c d e f g h = absurd (true≢false (sym e))
simple_by true false c d e f g h = absurd (true≢false (sym f))
simple_by true true true d e f g h = absurd (true≢false g)
simple_by true true false false e f g h = absurd (true≢false (sym h))

pub simple_and_free : (t : Table) → is_simple_and_free (app_by (rules_of t)) ≡ true
simple_and_free t =
    simple_by (list_all (λ (a : Rule). a.is_simple) (rules_of t)) _ _ _ (rules_simple t)
    (ap (list_all (λ (a : Rule). a.is_simple)) (rules_filled t) ∙ built_simple t)
    (ap (λ rs. list_any (is_early_multiple (count_by (λ (a : Rule). is_some a.index) rs)) rs) (rules_filled t)
    ∙ built_in_order t _)
    (ap (list_all (λ (a : Rule). a.is_free)) (rules_filled t) ∙ built_free t)

pub simple_alone : (t : Table) → is_simple (app_by (rules_of t)) ≡ true
simple_alone t = (both _ _ (simple_and_free t)).0

-- ---- defaults

abbrev or_row : Option Row → Option Row → Option Row
or_row None b = b
or_row (Some a) b = Some a

abbrev found_in : List Row → Text → Option Row
found_in rows name = find (λ r. bytes_eq r.id name) rows

found_added : (rows : List Row) (row : Row) (name : Text)
    → found_in (rows ++ row ∷ []) name ≡ or_row (found_in rows name) (cond (bytes_eq row.id name) (Some row) None)
found_added [] row name = refl
found_added (r ∷ rs) row name = go (bytes_eq r.id name) (found_added rs row name)
  where
    go : (b : Bool) → found_in (rs ++ row ∷ []) name ≡ or_row (found_in rs name) (cond (bytes_eq row.id name) (Some row) None)
        → cond b (Some r) (found_in (rs ++ row ∷ []) name) ≡ or_row (cond b (Some r) (found_in rs name))
        (cond (bytes_eq row.id name) (Some row) None)
    go true e = refl
    go false e = e

has_found : (rows : List Row) (name : Text) → has_row name rows ≡ is_some (found_in rows name)
has_found [] name = refl
has_found (r ∷ rs) name = go (bytes_eq r.id name) (has_found rs name)
  where
    go : (b : Bool) → has_row name rs ≡ is_some (found_in rs name) → (b || has_row name rs)
        ≡ is_some (cond b (Some r) (found_in rs name))
    go true e = refl
    go false e = e

abbrev default_row : Text → Row
default_row option = record {
  id = option;
  values = codes "false" ∷ [];
  count = None;
  source = Some DefaultValue;
  reading =
      reading.AsWritten;
}

abbrev flag_row : Bool → Text → Option Row
flag_row b name = cond b (Some (default_row name)) None

kept_row : (option : Text) (r : Range) (rows : List Row) → with_default rows (filled (rule_by option (Some r))) ≡ rows
kept_row option r rows = go (has_row option rows)
  where
    go : (b : Bool) → cond b rows rows ≡ rows
    go true = refl
    go false = refl

-- a flag that has no row gets one
default_found : (rows : List Row) (option name : Text)
    → found_in (with_default rows (filled (rule_by option None))) name
    ≡ or_row (found_in rows name) (flag_row (bytes_eq option name) name)
default_found rows option name = go (has_row option rows) refl (bytes_eq option name) refl
  where
    same_row : bytes_eq option name ≡ true → option ≡ name
    same_row is = (bytes_eq-Decides option name).0 is

    there : (o : Option Row) → is_some o ≡ true → o ≡ or_row o (flag_row true name)
    there None e = absurd (true≢false (sym e))
    there (Some r) e = refl

    as_is : (o : Option Row) → o ≡ or_row o None
    as_is None = refl
    as_is (Some r) = refl

    go : (b : Bool) → has_row option rows ≡ b → (d : Bool) → bytes_eq option name ≡ d
        → found_in (cond b rows (default_rows option (reading_by (filled (rule_by option None)))
        (filled (rule_by option None)).defaults rows)) name
        ≡ or_row (found_in rows name) (flag_row d name)
    go true is true e = there (found_in rows name) (sym (has_found rows name) ∙ ap (λ x. has_row x rows) (sym (same_row e)) ∙ is)
    go true is false e = as_is (found_in rows name)
    go false is d e =
        ap (λ rs. found_in rs name) (at_new option (more_values DefaultValue (codes "false" ∷ [])) (default_row option ∷ [])
        rows is)
        ∙ found_added rows (default_row option) name ∙ ap (or_row (found_in rows name)) (last d e)
      where
        last : (b : Bool) → bytes_eq option name ≡ b → cond (bytes_eq option name) (Some (default_row option)) None
            ≡ flag_row b name
        last true is = ap (λ b. cond b (Some (default_row option)) None) is ∙ ap (λ x. Some (default_row x)) (same_row is)
        last false is = ap (λ b. cond b (Some (default_row option)) None) is

or_flags : (o : Option Row) (a b : Bool) (name : Text) → or_row (or_row o (flag_row a name)) (flag_row b name)
    ≡ or_row o (flag_row (a || b) name)
or_flags None true b name = refl
or_flags None false b name = refl
or_flags (Some r) a b name = refl

defaults_found : (rows : List Row) (fs : List Field) (n : Option Range) (name : Text)
    → found_in (fold with_default rows (map built_option fs ++ built_numbers n)) name
    ≡ or_row (found_in rows name) (flag_row (has_flag fs name) name)
defaults_found rows [] n name = go n
  where
    none_more : (o : Option Row) → o ≡ or_row o None
    none_more None = refl
    none_more (Some r) = refl

    kept : (b : Bool) → found_in (cond b rows rows) name ≡ found_in rows name
    kept true = refl
    kept false = refl

    go : (m : Option Range) → found_in (fold with_default rows (built_numbers m)) name ≡ or_row (found_in rows name) None
    go None = none_more (found_in rows name)
    go (Some r) = kept (has_row number_name rows) ∙ none_more (found_in rows name)
defaults_found rows (f ∷ fs) n name = defaults_found (with_default rows (built_option f)) fs n name ∙ go f.range
  where
    go : (range : Option Range) → or_row (found_in (with_default rows (filled (rule_by f.name range))) name)
        (flag_row (has_flag fs name) name)
        ≡ or_row (found_in rows name) (flag_row ((not (is_some range) && bytes_eq f.name name) || has_flag fs name) name)
    go None = ap (λ o. or_row o (flag_row (has_flag fs name) name)) (default_found rows f.name name)
        ∙ or_flags (found_in rows name) (bytes_eq f.name name) (has_flag fs name) name
    go (Some r) = ap (λ rs. or_row (found_in rs name) (flag_row (has_flag fs name) name)) (kept_row f.name r rows)

no_default_fault : (rows : List Row) (option : Text) (range : Option Range) → default_fault rows (filled (rule_by option range))
    ≡ []
no_default_fault rows option (Some r) = go (has_row option rows) _
  where
    go : (b : Bool) (k : Kinds) → cond (b || true) [] k ≡ []
    go true k = refl
    go false k = refl
no_default_fault rows option None = go (has_row option rows)
  where
    go : (b : Bool) → ◌≡◌ {A = Kinds} (cond (b || false) [] []) []
    go true = refl
    go false = refl

pub defaults_none : (rows : List Row) (fs : List Field) (n : Option Range)
    → defaults_fault rows (map built_option fs ++ built_numbers n) ≡ []
unfolding defaults_fault
defaults_none rows [] None = refl
defaults_none rows [] (Some r) = go (has_row number_name rows)
  where
    go : (b : Bool) → ◌≡◌ {A = Kinds} (or_else (cond (b || true) [] []) []) []
    go true = refl
    go false = refl
defaults_none rows (f ∷ fs) n =
    ap (λ k. or_else k (defaults_fault (with_default rows (built_option f)) (map built_option fs ++ built_numbers n)))
    (no_default_fault rows f.name f.range)
    ∙ defaults_none (with_default rows (built_option f)) fs n

-- ---- what is read of the rows

pub row_of_use : (name : Text) (us : List Use) → found_in (map use_row us) name
    ≡ option_map use_row (find (λ u. bytes_eq u.0.name name) us)
row_of_use name us = sym (find-map (λ r. bytes_eq r.id name) use_row us)

pub read_rows : (t : Table) (us : List Use) (name : Text) → one_of name (fold with_default (map use_row us) (built_rules t))
    ≡ read_in t us name
read_rows t us name =
    ap (option_and_then row_text) (defaults_found (map use_row us) t.options t.number name
    ∙ ap (λ o. or_row o (flag_row (has_flag t.options name) name)) (row_of_use name us))
    ∙ go (find (λ u. bytes_eq u.0.name name) us) (has_flag t.options name)
  where
    go : (o : Option Use) (b : Bool) → option_and_then row_text (or_row (option_map use_row o) (flag_row b name))
        ≡ cond b (Some (unwrap_or (option_map (λ (u : Use). u.1) o) (codes "false"))) (option_map (λ u. u.1) o)
    go None true = refl
    go None false = refl
    go (Some u) true = refl
    go (Some u) false = refl

found_any : (us : List Use) (name : Text) → option_map_or (λ (u : Use). true) (find (λ u. bytes_eq u.0.name name) us) false
    ≡ is_used name us
found_any [] name = refl
found_any (u ∷ us) name = go (bytes_eq u.0.name name) (found_any us name)
  where
    go : (b : Bool) → option_map_or (λ (v : Use). true) (find (λ v. bytes_eq v.0.name name) us) false ≡ is_used name us
        → option_map_or (λ (v : Use). true) (cond b (Some u) (find (λ v. bytes_eq v.0.name name) us)) false
        ≡ (b || is_used name us)
    go true e = refl
    go false e = e

no_number_flag : (fs : List Field) → list_all (λ f. is_range f.range && not (bytes_eq f.name number_name)) fs ≡ true
    → has_flag fs number_name ≡ false
no_number_flag [] e = refl
no_number_flag (f ∷ fs) e =
    let parts = both _ _ e in
    ap₂ (λ a b. a || b) (go (not (is_some f.range)) (bytes_eq f.name number_name) (both _ _ parts.0).1)
    (no_number_flag fs parts.1)
  where
    go : (a b : Bool) → not b ≡ true → (a && b) ≡ false
    go a true h = absurd (true≢false (sym h))
    go true false h = refl
    go false false h = refl

number_given : (t : Table) (us : List Use) → is_sound t ≡ true
    → is_given number_name (fold with_default (map use_row us) (built_rules t)) ≡ is_used number_name us
number_given t us sound =
    ap (λ o. option_map_or (λ (r : Row). explicit_source r.source) o false)
    (defaults_found (map use_row us) t.options t.number number_name
    ∙ ap₂ (λ o b. or_row o (flag_row b number_name)) (row_of_use number_name us) (no_number_flag t.options (both _ _ sound).0))
    ∙ go (find (λ u. bytes_eq u.0.name number_name) us) ∙ found_any us number_name
  where
    go : (o : Option Use) → option_map_or (λ (r : Row). explicit_source r.source) (or_row (option_map use_row o) None) false
        ≡ option_map_or (λ (u : Use). true) o false
    go None = refl
    go (Some u) = refl

-- ---- what is required

abbrev lacking : List Row → Rule → Bool
lacking rows a = a.required && not (is_given a.id rows)

required_number : (t : Table) (rows : List Row) → list_any (lacking rows) (built_rules t)
    ≡ list_any (lacking rows) (built_numbers t.number)
required_number t rows = any_among (lacking rows) built_option (λ f. one f.name f.range) t.options (built_numbers t.number)
  where
    one : (name : Text) (range : Option Range) → lacking rows (filled (rule_by name range)) ≡ false
    one name None = refl
    one name (Some r) = refl

pub check_passes : (t : Table) (us : List Use) (rows : List Row) → is_sound t ≡ true → rows ≡ map use_row us
    → none (check_fault (shape_by (built_rules t)) (fold with_default rows (built_rules t)) false) ≡ has_number t us
check_passes t us rows sound same =
    ap (λ rs. none (check_fault (shape_by (built_rules t)) (fold with_default rs (built_rules t)) false)) same
    ∙ kind (list_any (lacking (fold with_default (map use_row us) (built_rules t))) (built_rules t))
    ∙ ap not (required_number t (fold with_default (map use_row us) (built_rules t)))
    ∙ go t.number
  where
    kind : (b : Bool) → none (cond b (MissingRequiredArgument ∷ []) []) ≡ not b
    kind true = refl
    kind false = refl

    turn : (a b : Bool) → a ≡ b → not (not a || false) ≡ b
    turn true b e = e
    turn false b e = e

    go : (n : Option Range) → not (list_any (lacking (fold with_default (map use_row us) (built_rules t))) (built_numbers n))
        ≡ option_map_or (λ (r : Range). is_used number_name us) n true
    go None = refl
    go (Some r) = turn _ _ (number_given t us sound)
