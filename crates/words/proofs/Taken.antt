-- A parse by a table fails exactly where the words aren't taken, and else gives the values of their uses.
use Rattle.std.proofs.Common.{◌≡◌, ◌∙◌, ◌⊎◌, ⊎_elim, refl, sym, ap, Bool, true, false, cond, ◌&&◌, List, [], ◌∷◌, map, drop, Option, Some, None, is_some, true≢false}
use Rattle.std.specs.List.{fold, list_any}
use Rattle.clap.specs.Kinds.{IsAmong, Kinds, or_else}
use Rattle.clap.specs.Faults.{built_fault, check_fault, defaults_fault, entered_fault, fault_of, level_fault, settle_fault, walk_fault}
use Rattle.clap.specs.Matches.{found_of}
use Rattle.clap.specs.Simple.{HasMatchesOf, entered, matches_of}
use Rattle.clap.specs.Values.{kind_of}
use Rattle.clap.specs.Walk.{Row, idle, nothing_held, one_of, rows_after, rows_of, settled, walk, with_default}
use Rattle.clap.specs.declared.error.Error.{Error}
use Rattle.clap.specs.declared.error.kind.ErrorKind.{ErrorKind}
use Rattle.clap.specs.declared.error.kind.ErrorKind.TheVariants.{OutOfMemory}
use Rattle.clap.specs.declared.parser.matches.ArgMatches.{ArgMatches}
use Rattle.clap.proofs.WalkLemmas.{both, one_text-rows}
use Rattle.words.specs.Barred.{is_barred_word}
use Rattle.words.specs.Rows.{IsRead, is_sound}
use Rattle.words.specs.Rules.{app_by, rules_of}
use Rattle.words.specs.Words.{Table, Text, Use, fits_after, has_number, taken, uses, where_fit}
use Rattle.words.proofs.Built.{built_rules, rules_filled, shape_by}
use Rattle.words.proofs.Fits.{joined}
use Rattle.words.proofs.OneUse.{none, use_row}
use Rattle.words.proofs.Parsed.{check_passes, defaults_none, read_rows, simple_alone}
use Rattle.words.proofs.Stands.{held}
use Rattle.words.proofs.Steps.{walked_uses}
use Rattle.words.proofs.Texts.{neither}
use Rattle.words.proofs.Walk.{outcome, rest_fault, standing}

-- ---- one level, and no subcommand

abbrev level : Table → List Text → Kinds
level t words = level_fault (shape_by (built_rules t)) [] nothing_held words false []

no_subcommand : (t : Table) (words : List Text) (stop : Option (Text × List Text))
    → level_fault (shape_by (built_rules t)) [] nothing_held words
    (is_some (entered (record { top = shape_by (built_rules t); subs = [] }) stop))
    (entered_fault (record { top = shape_by (built_rules t); subs = [] }) stop) ≡ level t words
no_subcommand t words None = refl
no_subcommand t words (Some p) = refl

fault_is : (t : Table) (words : List Text) → fault_of (app_by (rules_of t)) words ≡ level t (drop 1 words)
fault_is t words =
    ap (λ rs. built_fault (record { top = shape_by rs; subs = [] }) nothing_held (drop 1 words)) (rules_filled t)
    ∙ no_subcommand t (drop 1 words) (walk (built_rules t) [] nothing_held (drop 1 words)).stopped

rows_are : (t : Table) (words : List Text) → matches_of (app_by (rules_of t)) words ≡ rows_after (built_rules t) [] (drop 1 words)
rows_are t words = ap (λ rs. rows_after rs [] (drop 1 words)) (rules_filled t)

-- the rows at the end of the walk
abbrev last_rows : Table → List Text → List Row
last_rows t words = (settled (built_rules t) (walk (built_rules t) [] nothing_held words).held).rows

abbrev checked : Table → List Text → Kinds
checked t words = check_fault (shape_by (built_rules t)) (fold with_default (last_rows t words) (built_rules t)) false

first_two : (a b c : Kinds) → none (or_else a (or_else b c)) ≡ (none (or_else a b) && none c)
first_two [] [] c = refl
first_two [] (k ∷ ks) c = refl
first_two (k ∷ ks) b c = refl

level_parts : (t : Table) (words : List Text) → none (level t words)
    ≡ (none (rest_fault t (standing idle (held [] None) 1) words) && none (checked t words))
level_parts t words =
    first_two (walk_fault (shape_by (built_rules t)) [] (standing idle (held [] None) 1) words)
    (settle_fault (built_rules t) false (walk (built_rules t) [] nothing_held words).held)
    (or_else (defaults_fault (last_rows t words) (built_rules t)) (checked t words))
    ∙ ap (λ k. none (rest_fault t (standing idle (held [] None) 1) words) && none (or_else k (checked t words)))
    (defaults_none (last_rows t words) t.options t.number)

same_choice : {X : Type 0} (b c : Bool) (x y : X) → cond b (Some x) None ≡ cond c (Some y) None → (b ≡ c) × (c ≡ true → x ≡ y)
same_choice true true x y e = (refl, λ _. cc)
same_choice false false x y e = (refl, λ h. absurd (true≢false (sym h)))
same_choice true false x y e = cc
same_choice false true x y e = cc

never : {X : Type 0} (b : Bool) (x : X) → cond b (Some x) None ≡ None → b ≡ false
never true x e = cc
never false x e = refl

both_same : (a b c : Bool) → (a ≡ true → b ≡ c) → (a && b) ≡ (a && c)
both_same true b c h = h refl
both_same false b c h = refl

-- what a parse answers, by whether it fails
record IsAnswered (t : Table) (words : List Text) : Type 0 where
  pub said : none (level t words) ≡ true → (us : List Use) × (taken t words ≡ Some us)
      × (rows_after (built_rules t) [] words ≡ fold with_default (map use_row us) (built_rules t))
  pub not_said : none (level t words) ≡ false → taken t words ≡ None

answered : (t : Table) (words : List Text) → is_sound t ≡ true → list_any is_barred_word words ≡ false → IsAnswered t words
answered t words sound clear = go (uses t None words) refl
  where
    start : outcome t (standing idle (held [] None) 1) words ≡ joined [] (uses t None words)
    start = walked_uses t sound words clear

    at_uses : (us : List Use) → uses t None words ≡ Some us → IsAnswered t words
    at_uses us is =
        let parts = same_choice (none (rest_fault t (standing idle (held [] None) 1) words)) (fits_after [] us)
        (last_rows t words) (map use_row us) (start ∙ ap (joined []) is) in
        let fault : none (level t words) ≡ (fits_after [] us && has_number t us) =
        level_parts t words ∙ ap (λ b. b && none (checked t words)) parts.0
        ∙ both_same (fits_after [] us) _ _ (λ fits. check_passes t us (last_rows t words) sound (parts.1 fits)) in
        let is_said : taken t words ≡ cond (fits_after [] us && has_number t us) (Some us) None = ap (where_fit t) is in
        record {
          said = λ e. let fine = sym fault ∙ e in (
            us,
            is_said ∙ ap (λ b. cond b (Some us) None) fine,
            ap (λ rs. fold with_default rs (built_rules t))
                (parts.1 (both _ _ fine).0),
          );
          not_said = λ e. is_said ∙ ap (λ b. cond b (Some us) None) (sym fault ∙ e);
        }

    go : (o : Option (List Use)) → uses t None words ≡ o → IsAnswered t words
    go None is =
        let first = never (none (rest_fault t (standing idle (held [] None) 1) words)) (last_rows t words)
        (start ∙ ap (joined []) is) in
        let fault : none (level t words) ≡ false = level_parts t words ∙ ap (λ b. b && none (checked t words)) first in
        record { said = λ e. absurd (true≢false (sym e ∙ fault)); not_said = λ e. ap (where_fit t) is }
    go (Some us) is = at_uses us is

-- ---- the parse

nothing_among : (k : ErrorKind) (kinds : Kinds) → IsAmong k kinds → none kinds ≡ false
nothing_among k [] h = absurd h
nothing_among k (x ∷ xs) h = refl

pub read : (t : Table) (words : List Text) (m : ArgMatches) → is_sound t ≡ true → list_any is_barred_word (drop 1 words) ≡ false
    → HasMatchesOf (app_by (rules_of t)) words m → fault_of (app_by (rules_of t)) words ≡ [] → IsRead t (drop 1 words) m
read t words m sound clear matches fault =
    let got = (answered t (drop 1 words) sound clear).said (ap none (sym (fault_is t words) ∙ fault)) in
    let rows : rows_of (found_of m) ≡ fold with_default (map use_row got.0) (built_rules t) = (matches (simple_alone t)).0
    ∙ rows_are t words ∙ got.2 in
    (got.0, got.1, λ name. one_text-rows (found_of m) name ∙ ap (one_of name) rows ∙ read_rows t got.0 name)

pub refused : (t : Table) (words : List Text) (e : Error) → is_sound t ≡ true → list_any is_barred_word (drop 1 words) ≡ false
    → ((kind_of e ≡ OutOfMemory) ⊎ IsAmong (kind_of e) (fault_of (app_by (rules_of t)) words)) → (kind_of e ≡ OutOfMemory → ⊥)
    → taken t (drop 1 words) ≡ None
refused t words e sound clear kinds other = ⊎_elim
    (λ (h : kind_of e ≡ OutOfMemory). absurd (other h))
    (λ (h : IsAmong (kind_of e) (fault_of (app_by (rules_of t)) words)).
    (answered t (drop 1 words) sound clear).not_said (ap none (sym (fault_is t words))
    ∙ nothing_among (kind_of e) (fault_of (app_by (rules_of t)) words) h))
    kinds

pub rest_clear : (words : List Text) → list_any is_barred_word words ≡ false → list_any is_barred_word (drop 1 words) ≡ false
rest_clear [] e = refl
rest_clear (w ∷ ws) e = (neither (is_barred_word w) (list_any is_barred_word ws) e).1
