-- What `clap` makes of a table, and which argument it finds by a name.
use Rattle.std.proofs.Common.{◌≡◌, ◌∙◌, refl, sym, ap, ap₂, ℕ, Bool, true, false, cond, not, ◌&&◌, ◌==◌, List, [], ◌∷◌, ◌++◌, map, Option, Some, None, is_some, codes, true≢false}
use Rattle.std.specs.List.{find, list_all}
use Rattle.std.specs.Option.{option_map, option_map_or}
use Rattle.std.specs.Str.{bytes_eq}
use Rattle.std.proofs.Math.Bool.{or-false}
use Rattle.clap.specs.Simple.{Shape, filled, filled_from, index_after, new_shape, with_index}
use Rattle.clap.specs.Walk.{Rule, arg_by_id, arg_by_index, arg_by_long, arg_by_short, has_long, has_short}
use Rattle.clap.proofs.WalkLemmas.{both}
use Rattle.words.specs.declared.table.Range.{Range}
use Rattle.words.specs.Rows.{is_range, is_sound}
use Rattle.words.specs.Rules.{number_rule, number_rules, option_rule, rule_by}
use Rattle.words.specs.Words.{Field, Table, Text, number_name, option_of}

-- the arguments of a built command
abbrev pub built_option : Field → Rule
built_option f = filled (option_rule f)

abbrev pub built_number : Range → Rule
built_number range = with_index 1 (filled (number_rule range))

abbrev pub built_numbers : Option Range → List Rule
built_numbers None = []
built_numbers (Some range) = built_number range ∷ []

abbrev pub built_rules : Table → List Rule
built_rules t = map built_option t.options ++ built_numbers t.number

abbrev pub shape_by : List Rule → Shape
shape_by rules = record (new_shape (codes "recon")) {
  rules = rules;
  disable_help_flag = true;
  disable_help_subcommand = true;
  is_built = true;
}

-- ---- building

option_stays : (i : ℕ) (name : Text) (range : Option Range)
    → (with_index i (filled (rule_by name range)) ≡ filled (rule_by name range)) × (index_after i (rule_by name range) ≡ i)
option_stays i name None = (refl, refl)
option_stays i name (Some r) = (refl, refl)

options_filled : (i : ℕ) (fs : List Field) (rest : List Rule) → filled_from i (map option_rule fs ++ rest)
    ≡ map built_option fs ++ filled_from i rest
options_filled i [] rest = refl
options_filled i (f ∷ fs) rest =
    let stays = option_stays i f.name f.range in
    ap₂ (λ (a : Rule) (k : ℕ). a ∷ filled_from k (map option_rule fs ++ rest)) stays.0 stays.1
    ∙ ap (λ rs. built_option f ∷ rs) (options_filled i fs rest)

numbers_filled : (n : Option Range) → filled_from 1 (number_rules n) ≡ built_numbers n
numbers_filled None = refl
numbers_filled (Some r) = refl

pub rules_filled : (t : Table) → filled_from 1 (map option_rule t.options ++ number_rules t.number) ≡ built_rules t
rules_filled t = options_filled 1 t.options (number_rules t.number)
    ∙ ap (λ rs. map built_option t.options ++ rs) (numbers_filled t.number)

-- ---- lookups

abbrev pub else_found : Option Rule → Option Rule → Option Rule
else_found None b = b
else_found (Some a) b = Some a

-- the first argument that passes, where a test of the fields tells whether an option does
found_among : (p : Rule → Bool) (q : Field → Bool) → ((f : Field) → p (built_option f) ≡ q f)
    → (fs : List Field) (rest : List Rule)
    → find p (map built_option fs ++ rest) ≡ else_found (option_map built_option (find q fs)) (find p rest)
found_among p q same [] rest = refl
found_among p q same (f ∷ fs) rest =
    ap (λ b. cond b (Some (built_option f)) (find p (map built_option fs ++ rest))) (same f)
    ∙ go (q f) (found_among p q same fs rest)
  where
    go : (b : Bool) → find p (map built_option fs ++ rest) ≡ else_found (option_map built_option (find q fs)) (find p rest)
        → cond b (Some (built_option f)) (find p (map built_option fs ++ rest))
        ≡ else_found (option_map built_option (cond b (Some f) (find q fs))) (find p rest)
    go true e = refl
    go false e = e

none_found : (fs : List Field) → find (λ (f : Field). false) fs ≡ None
none_found [] = refl
none_found (f ∷ fs) = none_found fs

long_test : (name other : Text) (range : Option Range) → (not (is_some (filled (rule_by name range)).index)
    && has_long (filled (rule_by name range)) other) ≡ bytes_eq name other
long_test name other None = or-false (bytes_eq name other)
long_test name other (Some r) = or-false (bytes_eq name other)

no_number_by : (p : Rule → Bool) → ((r : Range) → p (built_number r) ≡ false) → (n : Option Range) → find p (built_numbers n)
    ≡ None
no_number_by p fails None = refl
no_number_by p fails (Some r) = ap (λ b. cond b (Some (built_number r)) None) (fails r)

else_none : (a : Option Rule) → else_found a None ≡ a
else_none None = refl
else_none (Some a) = refl

pub by_long : (t : Table) (name : Text) → arg_by_long (built_rules t) name ≡ option_map built_option (option_of t name)
by_long t name =
    found_among (λ a. not (is_some a.index) && has_long a name) (λ f. bytes_eq f.name name) (λ f. long_test f.name name f.range)
    t.options (built_numbers t.number)
    ∙ ap (else_found (option_map built_option (option_of t name)))
    (no_number_by (λ a. not (is_some a.index) && has_long a name) (λ r. refl) t.number)
    ∙ else_none (option_map built_option (option_of t name))

short_test : (name : Text) (x : ℕ) (range : Option Range) → (not (is_some (filled (rule_by name range)).index)
    && has_short (filled (rule_by name range)) x) ≡ false
short_test name x None = refl
short_test name x (Some r) = refl

pub by_short : (t : Table) (x : ℕ) → arg_by_short (built_rules t) x ≡ None
by_short t x =
    found_among (λ a. not (is_some a.index) && has_short a x) (λ f. false) (λ f. short_test f.name x f.range) t.options
    (built_numbers t.number)
    ∙ ap₂ (λ o m. else_found (option_map built_option o) m) (none_found t.options)
    (no_number_by (λ a. not (is_some a.index) && has_short a x) (λ r. refl) t.number)

index_test : (name : Text) (i : ℕ) (range : Option Range) → option_map_or (λ k. k == i) (filled (rule_by name range)).index
    false ≡ false
index_test name i None = refl
index_test name i (Some r) = refl

abbrev pub number_at : Option Range → Option Rule
number_at = option_map built_number

pub by_first_index : (t : Table) → arg_by_index (built_rules t) 1 ≡ number_at t.number
by_first_index t =
    found_among (λ a. option_map_or (λ k. k == 1) a.index false) (λ f. false) (λ f. index_test f.name 1 f.range) t.options
    (built_numbers t.number)
    ∙ ap (λ o. else_found (option_map built_option o) (find (λ a. option_map_or (λ k. k == 1) a.index false)
    (built_numbers t.number))) (none_found t.options)
    ∙ go t.number
  where
    go : (n : Option Range) → find (λ a. option_map_or (λ k. k == 1) a.index false) (built_numbers n) ≡ number_at n
    go None = refl
    go (Some r) = refl

pub by_second_index : (t : Table) → arg_by_index (built_rules t) 2 ≡ None
by_second_index t =
    found_among (λ a. option_map_or (λ k. k == 2) a.index false) (λ f. false) (λ f. index_test f.name 2 f.range) t.options
    (built_numbers t.number)
    ∙ ap₂ (λ o m. else_found (option_map built_option o) m) (none_found t.options)
    (no_number_by (λ a. option_map_or (λ k. k == 2) a.index false) (λ r. refl) t.number)

id_test : (name id : Text) (range : Option Range) → bytes_eq (filled (rule_by name range)).id id ≡ bytes_eq name id
id_test name id None = refl
id_test name id (Some r) = refl

by_id_any : (t : Table) (id : Text) → arg_by_id (built_rules t) id
    ≡ else_found (option_map built_option (option_of t id)) (arg_by_id (built_numbers t.number) id)
by_id_any t id = found_among (λ a. bytes_eq a.id id) (λ f. bytes_eq f.name id) (λ f. id_test f.name id f.range) t.options
    (built_numbers t.number)

pub by_id : (t : Table) (name : Text) (f : Field) → option_of t name ≡ Some f → arg_by_id (built_rules t) name
    ≡ Some (built_option f)
by_id t name f found = by_id_any t name ∙ ap (λ o. else_found (option_map built_option o)
    (arg_by_id (built_numbers t.number) name)) found

not_called : (fs : List Field) → list_all (λ f. is_range f.range && not (bytes_eq f.name number_name)) fs ≡ true
    → find (λ f. bytes_eq f.name number_name) fs ≡ None
not_called [] e = refl
not_called (f ∷ fs) e =
    let parts = both _ _ e in
    let named = (both _ _ parts.0).1 in
    go (bytes_eq f.name number_name) named (not_called fs parts.1)
  where
    go : (b : Bool) → not b ≡ true → find (λ g. bytes_eq g.name number_name) fs ≡ None
        → cond b (Some f) (find (λ g. bytes_eq g.name number_name) fs) ≡ None
    go true e h = absurd (true≢false (sym e))
    go false e h = h

pub no_number_option : (t : Table) → is_sound t ≡ true → option_of t number_name ≡ None
no_number_option t sound = not_called t.options (both _ _ sound).0

pub by_number_id : (t : Table) (r : Range) → is_sound t ≡ true → t.number ≡ Some r → arg_by_id (built_rules t) number_name
    ≡ Some (built_number r)
by_number_id t r sound is =
    by_id_any t number_name ∙ ap₂ (λ o n. else_found (option_map built_option o) (arg_by_id (built_numbers n) number_name))
    (no_number_option t sound) is
