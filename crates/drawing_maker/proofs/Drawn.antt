-- Cubes that are drawn one after another are those of a number.
use Rattle.std.proofs.Common.{◌≡◌, ◌%◌, ◌&&◌, not, Bool, true, ℕ, suc, List, [], ◌∷◌, ◌++◌, ap, ◌∙◌, append_assoc}
use Rattle.rand_pcg.specs.Lcg.{Lcg}
use Rattle.rand_pcg.specs.Pcg.{pcg32}
use Rattle.drawing_maker.specs.declared.cube.Kind.TheVariants.{EightVoids}
use Rattle.drawing_maker.specs.declared.cube.Cube.{Cube}
use Rattle.drawing_maker.specs.Cubes.{next_origin}
use Rattle.drawing_maker.specs.Made.{generator_of, kind_by, scale_by, has_eight_voids, later_cubes, made_cubes}

-- the generator after two words
abbrev pub after_two : Lcg → Lcg
after_two g = (pcg32 (pcg32 g).1).1

-- the first cube, and a later one, by a generator
abbrev pub first_by : Lcg → Cube
first_by g = record { kind = EightVoids; scale = scale_by (pcg32 (pcg32 g).1).0; origin = 0 }

abbrev pub later_by : Lcg → Bool → ℕ → Cube
later_by g alone origin = record { kind = kind_by alone ((pcg32 g).0 % 8); scale = scale_by (pcg32 (pcg32 g).1).0; origin = origin }

-- the first cube stands, and 13 more are to come
pub first_drawn : (n : ℕ) (g next : Lcg) (p : Cube) (drawn : List Cube) (origin more : ℕ) → g ≡ generator_of n → p ≡ first_by g
    → next ≡ after_two g → drawn ≡ p ∷ [] → origin ≡ next_origin p → more ≡ 13 → drawn ++ later_cubes more next true origin ≡ made_cubes n
first_drawn n g next p drawn origin more from first moved one behind all =
    let whole : p ≡ first_by (generator_of n) = first ∙ ap first_by from in
    let beyond = moved ∙ ap after_two from in
    let start : drawn ≡ first_by (generator_of n) ∷ [] = one ∙ ap (λ q. q ∷ []) whole in
    let end : origin ≡ next_origin (first_by (generator_of n)) = behind ∙ ap next_origin whole in
    λ t. start t ++ later_cubes (all t) (beyond t) true (end t)

-- one more stands, and one less is to come
pub one_more_drawn : (n : ℕ) (g next : Lcg) (p : Cube) (drawn now : List Cube) (alone still : Bool) (origin end more : ℕ)
    → drawn ++ later_cubes (suc more) g alone origin ≡ made_cubes n → p ≡ later_by g alone origin → next ≡ after_two g → now ≡ drawn ++ p ∷ []
    → end ≡ next_origin p → still ≡ (alone && not (has_eight_voids p.kind)) → now ++ later_cubes more next still end ≡ made_cubes n
one_more_drawn n g next p drawn now alone still origin end more so_far later moved one behind only =
    let q = later_by g alone origin in
    let pushed : now ≡ drawn ++ q ∷ [] = one ∙ ap (λ x. drawn ++ x ∷ []) later in
    let beyond : end ≡ next_origin q = behind ∙ ap next_origin later in
    let kept : still ≡ (alone && not (has_eight_voids q.kind)) = only ∙ ap (λ (x : Cube). alone && not (has_eight_voids x.kind)) later in
    (λ t. pushed t ++ later_cubes more (moved t) (kept t) (beyond t))
    ∙ append_assoc drawn (q ∷ []) (later_cubes more (after_two g) (alone && not (has_eight_voids q.kind)) (next_origin q))
    ∙ so_far
