-- A code is 1 exactly where the columns can draw the wanted style.
use Rattle.std.proofs.Common.{div-le_self, ◌≡◌, ◌≢◌, ◌↔◌, ◌==◌, ◌&&◌, ◌||◌, not, Bool, true, false, ℕ, ◌/◌, ◌^◌, ◌<◌, ◌≤◌, if◌then◌else◌, bit_and, bit_or, refl, ap, ap₂, sym, ◌∙◌, arith}
use Rattle.std.specs.Int.Bits.{and_lt}
use Rattle.std.proofs.lemmas.Bool.{and_parts, and_from, eqb-true, eqb-false}
use Rattle.std.proofs.lemmas.Nat.{or_lt}
use Rattle.solid_model.specs.Known.{known_bits, LiesWithin}
use Rattle.solid_model.proofs.KnownBits.{blank_from, blank_to, solid_from, solid_to, dashed_from, dashed_to}
use Rattle.solid_model.specs.declared.segment.Style.TheVariants.{Blank, Dashed, Solid}
use Rattle.lemmas.specs.Bits.{is_set, near}
use Rattle.solid_model.specs.Demands.{CanDraw}
use Rattle.lemmas.proofs.NearBits.{near_to}
use Rattle.lemmas.proofs.WordBits.{set_both, set_either, zeros, lowest_set, lowest_at_most}
use Rattle.column_lanes.specs.Meets.{IsMetByte, bits_without, must_differ, may_differ, can_begin, met_code}
use Rattle.column_lanes.proofs.NearBits.{set_apart, near_fits, apart_fits, some_near, some_behind}

module _ (fl ml fr mr : ℕ) (a : fl < 2 ^ 64) (b : ml < 2 ^ 64) (c : fr < 2 ^ 64) (d : mr < 2 ^ 64) (l_within : LiesWithin fl ml) (r_within : LiesWithin fr mr) where
  abbrev full : ℕ
  full = bit_or fl fr

  abbrev differ : ℕ
  differ = may_differ fl ml fr mr

  abbrev both : ℕ
  both = bit_and ml mr

  abbrev begin : ℕ
  begin = can_begin fl ml fr mr

  full_fits : full < 2 ^ 64
  full_fits = or_lt 64 fl fr a c

  differ_fits : differ < 2 ^ 64
  differ_fits = or_lt 64 (bits_without ml fr) (bits_without mr fl) (apart_fits ml fr b c) (apart_fits mr fl d a)

  both_fits : both < 2 ^ 64
  both_fits = and_lt 64 ml mr b d

  begin_fits : begin < 2 ^ 64
  begin_fits = and_lt 64 both (near full) both_fits (near_fits full full_fits)

  differ_is : (k : ℕ) → is_set differ k ≡ ((is_set ml k && not (is_set fr k)) || (is_set mr k && not (is_set fl k)))
  differ_is k = set_either (bits_without ml fr) (bits_without mr fl) k ∙ ap₂ ◌||◌ (set_apart ml fr k) (set_apart mr fl k)

  pub blank_met : (must_differ fl ml fr mr ≡ 0) ↔ CanDraw (known_bits fl ml) (known_bits fr mr) Blank
  blank_met = (
    blank_from fl ml fr mr l_within r_within (bits_without fl mr) (bits_without fr ml) (set_apart fl mr) (set_apart fr ml),
    blank_to fl ml fr mr l_within r_within (bits_without fl mr) (bits_without fr ml) (set_apart fl mr) (set_apart fr ml),
  )

  pub solid_met : (bit_and differ (near full) ≢ 0) ↔ CanDraw (known_bits fl ml) (known_bits fr mr) Solid
  solid_met =
      let near_is = some_near differ full differ_fits full_fits in (
        (λ some. let parts = near_is.0 some in solid_from fl ml fr mr l_within r_within differ a c full_fits differ_fits differ_is parts.0 parts.1),
        (λ drawn. near_is.1 (solid_to fl ml fr mr l_within r_within differ a c full_fits differ_fits differ_is drawn)),
      )

  -- the first depth at which both can begin is the first at which both may be full, if there is one
  begins : (both ≢ 0) × (zeros both ≤ zeros full) → zeros begin ≡ zeros both
  begins parts =
      let low = lowest_set both both_fits parts.0 in
      let there : is_set begin (zeros both) ≡ true = set_both both (near full) (zeros both) ∙ and_from _ _ low.0 (near_to full (zeros both) full_fits low.1 parts.1) in
      let some = (some_near both full both_fits full_fits).1 parts in
      let set = (and_parts _ _ (sym (set_both both (near full) (zeros begin)) ∙ (lowest_set begin begin_fits some).0)).0 in
      let up = lowest_at_most begin begin_fits (zeros both) there in
      let down = lowest_at_most both both_fits (zeros begin) set in
      omega arith

  pub dashed_met : (bits_without differ (near begin) ≢ 0) ↔ CanDraw (known_bits fl ml) (known_bits fr mr) Dashed
  dashed_met =
      let behind_is = some_behind differ begin differ_fits begin_fits in
      let near_is = some_near both full both_fits full_fits in (
        (λ some.
            let far = behind_is.0 some in
            let parts = near_is.0 far.0 in
            let far_fits : differ / 2 ^ zeros both / 2 < 2 ^ 64 = less differ (2 ^ zeros both) differ_fits in
            dashed_from fl ml fr mr l_within r_within differ a c full_fits differ_fits differ_is both both_fits (set_both ml mr) parts.0 parts.1
            (λ none. far.1 (ap (λ (z : ℕ). differ / 2 ^ z / 2) (begins parts) ∙ none)) far_fits),
        (λ drawn.
            let parts = dashed_to fl ml fr mr l_within r_within differ a c full_fits differ_fits differ_is both both_fits (set_both ml mr) drawn in
            behind_is.1 (near_is.1 (parts.0, parts.1), λ none. parts.2 (ap (λ (z : ℕ). differ / 2 ^ z / 2) (sym (begins (parts.0, parts.1))) ∙ none))),
      )
    where
      less : (n m : ℕ) → n < 2 ^ 64 → n / m / 2 < 2 ^ 64
      less n m l = (let le = div-le_self n m in omega (arith, le))

  -- a byte that tells whether a number is 0
  one_if_none : {A : Type 0} (n : ℕ) → (n ≡ 0) ↔ A → ((if n == 0 then 1 else 0) < 2) × (◌≡◌ {A = ℕ} (if n == 0 then 1 else 0) 1 ↔ A)
  one_if_none {A} n tells = by (n == 0) refl
    where
      by : (t : Bool) → (n == 0) ≡ t → ((if t then 1 else 0) < 2) × (◌≡◌ {A = ℕ} (if t then 1 else 0) 1 ↔ A)
      by true e = (omega arith, ((λ _. tells.0 (eqb-true n 0 e)), (λ _. refl)))
      by false e = (omega arith, ((λ one. absurd (omega (arith, one))), (λ x. absurd (eqb-false n 0 e (tells.1 x)))))

  one_if_some : {A : Type 0} (n : ℕ) → (n ≢ 0) ↔ A → ((if n == 0 then 0 else 1) < 2) × (◌≡◌ {A = ℕ} (if n == 0 then 0 else 1) 1 ↔ A)
  one_if_some {A} n tells = by (n == 0) refl
    where
      by : (t : Bool) → (n == 0) ≡ t → ((if t then 0 else 1) < 2) × (◌≡◌ {A = ℕ} (if t then 0 else 1) 1 ↔ A)
      by true e = (omega arith, ((λ one. absurd (omega (arith, one))), (λ x. absurd (tells.1 x (eqb-true n 0 e)))))
      by false e = (omega arith, ((λ _. tells.0 (eqb-false n 0 e)), (λ _. refl)))

  pub code_is_met : (want : ℕ) → want < 3 → IsMetByte (met_code fl ml fr mr want) want (known_bits fl ml) (known_bits fr mr)
  code_is_met want few = by (want == 0) (want == 1) refl refl
    where
      by : (s t : Bool) → (want == 0) ≡ s → (want == 1) ≡ t
          → IsMetByte (if s then (if must_differ fl ml fr mr == 0 then 1 else 0)
          else (if t then (if bits_without differ (near begin) == 0 then 0 else 1) else (if bit_and differ (near full) == 0 then 0 else 1))) want (known_bits fl ml) (known_bits fr mr)
      by true t e f = (Blank, eqb-true want 0 e, (one_if_none (must_differ fl ml fr mr) blank_met).0, (one_if_none (must_differ fl ml fr mr) blank_met).1)
      by false true e f = (Dashed, eqb-true want 1 f, (one_if_some (bits_without differ (near begin)) dashed_met).0, (one_if_some (bits_without differ (near begin)) dashed_met).1)
      by false false e f = (
        Solid,
        (let other = eqb-false want 0 e in let another = eqb-false want 1 f in omega arith),
        (one_if_some (bit_and differ (near full)) solid_met).0,
        (one_if_some (bit_and differ (near full)) solid_met).1,
      )
