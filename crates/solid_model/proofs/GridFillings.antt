-- Fillings of the eight cells round a point, and of the four cells round an edge.
use Rattle.std.proofs.Common.{◌≡◌, ◌⊎◌, inl, inr, ⊎_elim, Bool, true, false, not, ◌&&◌, ◌||◌, refl, sym, ◌∙◌}
use Rattle.std.proofs.lemmas.Bool.{false≢true, both_ways, and_parts, or_cases, not_from_true, false_from_ne_true}
use Rattle.solid_model.specs.declared.cell.Axis.{Axis}
use Rattle.solid_model.specs.declared.cell.Axis.TheVariants.{X, Y, Z}
use Rattle.solid_model.specs.declared.cell.Cell.{Cell}
use Rattle.solid_model.specs.Cells.{cell_before}
use Rattle.solid_model.specs.Edges.{second_axis, third_axis, is_edge, is_edge_of}
use Rattle.solid_model.specs.WalledBoxes.{same_axis}
use Rattle.solid_model.specs.VirtualFaces.{axis_across_both}
use Rattle.solid_model.proofs.ColumnRule.{edge_where_parting, same_from_agree}
use Rattle.solid_model.proofs.Views.{is_edge_of_turned, is_edge_of_flipped}

-- ---- the eight cells round a point

-- what holds of both Bools
abbrev of_both : (Bool → Bool) → Bool
of_both p = p true && p false

-- holds of each
of_each : (p : Bool → Bool) → of_both p ≡ true → (b : Bool) → p b ≡ true
of_each p h true = (and_parts (p true) (p false) h).0
of_each p h false = (and_parts (p true) (p false) h).1

-- what holds of any four Bools
abbrev of_any_four : (Bool → Bool → Bool → Bool → Bool) → Bool
of_any_four p = of_both (λ a. of_both (λ b. of_both (λ c. of_both (p a b c))))

of_each_four : (p : Bool → Bool → Bool → Bool → Bool) → of_any_four p ≡ true → (a b c d : Bool) → p a b c d ≡ true
of_each_four p h a b c = of_each (p a b c) (of_each (λ z. of_both (p a b z)) (of_each (λ y. of_both (λ z. of_both (p a y z)))
    (of_each (λ x. of_both (λ y. of_both (λ z. of_both (p x y z)))) h a) b) c)

-- Four cells a to d stand after a point along an axis, and e to h before them. Where e to h make an edge, a to d make one too, or
-- another edge ends or begins at the point.
abbrev goes_on_or_turns : Bool → Bool → Bool → Bool → Bool → Bool → Bool → Bool → Bool
goes_on_or_turns a b c d e f g h = not (is_edge_of e f g h) || (is_edge_of a b c d
    || ((is_edge_of a c e g || is_edge_of b d f h) || (is_edge_of a e b f || is_edge_of c g d h)))

-- of all 256 fillings
always : of_any_four (λ a b c d. of_any_four (goes_on_or_turns a b c d)) ≡ true
always = refl

always_at : (a b c d e f g h : Bool) → goes_on_or_turns a b c d e f g h ≡ true
always_at a b c d = of_each_four (goes_on_or_turns a b c d) (of_each_four (λ x y z w. of_any_four (goes_on_or_turns x y z w)) always a b c d)

-- one of two is an edge
abbrev IsOneEdge : Bool → Bool → Type 0
IsOneEdge a b = (a ≡ true) ⊎ (b ≡ true)

-- where an edge among e to h isn't one among a to d, a further edge ends or begins
abbrev EndsAtTurn : Bool → Bool → Bool → Bool → Bool → Bool → Bool → Bool → Type 0
EndsAtTurn a b c d e f g h = is_edge_of e f g h ≡ true → is_edge_of a b c d ≡ false
    → IsOneEdge (is_edge_of a c e g) (is_edge_of b d f h) ⊎ IsOneEdge (is_edge_of a e b f) (is_edge_of c g d h)

ends_at_turn : (a b c d e f g h : Bool) → EndsAtTurn a b c d e f g h
ends_at_turn a b c d e f g h edge none =
    ⊎_elim {C = Turns} (λ stops. absurd (both_ways _ (not_from_true _ edge) stops))
    (λ rest. ⊎_elim {C = Turns} (λ goes_on. absurd (both_ways _ none goes_on))
    (λ turns. ⊎_elim {C = Turns} (λ one. inl (or_cases _ _ one)) (λ one. inr (or_cases _ _ one)) (or_cases _ _ turns))
    (or_cases (is_edge_of a b c d) _ rest))
    (or_cases (not (is_edge_of e f g h)) _ (always_at a b c d e f g h))
  where
    Turns : Type 0
    Turns = IsOneEdge (is_edge_of a c e g) (is_edge_of b d f h) ⊎ IsOneEdge (is_edge_of a e b f) (is_edge_of c g d h)

-- along an axis an edge begins or ends at a point
abbrev pub IsEdgeAt : (Cell → Bool) → Axis → Cell → Type 0
IsEdgeAt full a p = IsOneEdge (is_edge full a p) (is_edge full a (cell_before a p))

-- where an edge along an axis ends at a point, and none goes on from it, an edge along one of the two other axes begins or ends there
pub turns_where_it_ends : (full : Cell → Bool) (a : Axis) (p : Cell) → is_edge full a (cell_before a p) ≡ true → is_edge full a p ≡ false
    → IsEdgeAt full (second_axis a) p ⊎ IsEdgeAt full (third_axis a) p
turns_where_it_ends full a p = along a (λ b c.
    let q = cell_before a p in
    ends_at_turn (full p) (full (cell_before b p)) (full (cell_before c p)) (full (cell_before b (cell_before c p)))
    (full q) (full (cell_before b q)) (full (cell_before c q)) (full (cell_before b (cell_before c q))))
  where
    -- the same of the cells round p, those before it counted from the point q, by the axes b and c
    Round : Axis → Axis → Cell → Type 0
    Round b c q = EndsAtTurn (full p) (full (cell_before b p)) (full (cell_before c p)) (full (cell_before b (cell_before c p)))
        (full q) (full (cell_before b q)) (full (cell_before c q)) (full (cell_before b (cell_before c q)))

    along : (x : Axis) → ((b c : Axis) → Round b c (cell_before x p)) → is_edge full x (cell_before x p) ≡ true → is_edge full x p ≡ false
        → IsEdgeAt full (second_axis x) p ⊎ IsEdgeAt full (third_axis x) p
    along X h = h Y Z
    along Y h = h Z X
    along Z h = h X Y

-- ---- the four cells round an edge

-- where four cells make no edge and the first two agree, so do the last two
pub flat_sides : (a b c d : Bool) → is_edge_of a b c d ≡ false → a ≡ b → c ≡ d
flat_sides a b c d none same = same_from_agree c d (false_from_ne_true _ (λ part.
    both_ways (is_edge_of a b c d) none ((λ t. is_edge_of a (sym same t) c d) ∙ is_edge_of_flipped a a c d ∙ edge_where_parting c d a part)))

-- the edge between a face across an axis a and the one before it along an axis b, by the cells on both sides of the two faces
edge_across_both : (full : Cell → Bool) (a b : Axis) (n : Cell) → same_axis a b ≡ false → is_edge full (axis_across_both a b) n
    ≡ is_edge_of (full n) (full (cell_before a n)) (full (cell_before b n)) (full (cell_before a (cell_before b n)))
edge_across_both full X X n other = absurd (false≢true (sym other))
edge_across_both full X Y n other = refl
edge_across_both full X Z n other = is_edge_of_turned (full n) _ _ _
edge_across_both full Y X n other = is_edge_of_turned (full n) _ _ _
edge_across_both full Y Y n other = absurd (false≢true (sym other))
edge_across_both full Y Z n other = refl
edge_across_both full Z X n other = refl
edge_across_both full Z Y n other = is_edge_of_turned (full n) _ _ _
edge_across_both full Z Z n other = absurd (false≢true (sym other))

-- the cells on both sides of a face across an axis agree
abbrev pub IsFlatFace : (Cell → Bool) → Axis → Cell → Type 0
IsFlatFace full a n = full n ≡ full (cell_before a n)

-- across what is no edge, a face has cells that agree where the face before it has,
pub flat_after : (full : Cell → Bool) (a b : Axis) (n : Cell) → same_axis a b ≡ false → is_edge full (axis_across_both a b) n ≡ false
    → IsFlatFace full a (cell_before b n) → IsFlatFace full a n
flat_after full a b n other none flat =
    flat_sides (full (cell_before b n)) (full (cell_before a (cell_before b n))) (full n) (full (cell_before a n))
    (is_edge_of_flipped _ _ (full n) (full (cell_before a n)) ∙ sym (edge_across_both full a b n other) ∙ none) flat

-- and the other way round
pub flat_before : (full : Cell → Bool) (a b : Axis) (n : Cell) → same_axis a b ≡ false → is_edge full (axis_across_both a b) n ≡ false
    → IsFlatFace full a n → IsFlatFace full a (cell_before b n)
flat_before full a b n other none flat =
    flat_sides (full n) (full (cell_before a n)) (full (cell_before b n)) (full (cell_before a (cell_before b n)))
    (sym (edge_across_both full a b n other) ∙ none) flat
