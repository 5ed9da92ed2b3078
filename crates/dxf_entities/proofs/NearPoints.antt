-- The coordinates that are read of a file are near.
use Rattle.std.proofs.Common.{◌≡◌, Bool, true, false, if◌then◌else◌, ℕ, List, [], ◌∷◌, ◌++◌, ℤ, pos, Option, Some, None, Result, Ok, Err, IfOk, IfSome, refl, subst}
use Rattle.std.specs.Option.{unwrap_or}
use Rattle.dxf_entities.specs.declared.coordinates.Ends.{Ends}
use Rattle.dxf_entities.specs.declared.kind.Kind.{Kind}
use Rattle.dxf_entities.specs.declared.kind.Kind.TheVariants as kind
use Rattle.dxf_entities.specs.declared.shape.Shape.{Shape}
use Rattle.dxf_entities.specs.declared.shape.Shape.TheVariants as shape
use Rattle.dxf_entities.specs.Coordinates.{value_at, coordinate_at, with_coordinate, present, line_ends}
use Rattle.dxf_entities.specs.Entries.{has_code}
use Rattle.dxf_entities.specs.Known.{Point, IsNearPoint, Known, AreNear, KnownOutline, IsNearOutline}
use Rattle.dxf_entities.specs.Outlines.{first_x, with_x, ended_vertex, with_y, flat, first_flags, with_vertex, come_back, route_of, whole_route}
use Rattle.dxf_entities.specs.Shapes.{begun_shape, with_shape, known_shape, points_of}
use Rattle.dxf_entities.specs.Steps.{◌>>=◌}
use Rattle.dxf_groups.specs.declared.numerals.NumeralFault.{NumeralFault}
use Rattle.dxf_groups.specs.Numerals.{scaled_of, whole_of}
use Rattle.dxf_groups.specs.Pairs.{TextPair}
use Rattle.dxf_groups.proofs.NumeralReach.{scaled_near}
use Rattle.solid_model.specs.declared.fault.Fault.{Fault}
use Rattle.solid_model.specs.Line.{IsNear}
use Rattle.lemmas.specs.Lists.{Each}
use Rattle.lemmas.proofs.Lists.{each-append}

-- ---- steps that may have a fault

-- two answers with equal values have one value
pub ok_value : {A : Type 0} (a b : A) → ◌≡◌ {A = Result A Fault} (Ok a) (Ok b) → a ≡ b
ok_value a b e = cc

-- two steps that have an answer, by the value between them
pub record HasSteps {A B : Type 0} (r : Result A Fault) (f : A → Result B Fault) (b : B) : Type 0 where
  pub value : A
  pub first : r ≡ Ok value
  pub second : f value ≡ Ok b

-- a step's answer comes from an answer of the step before
pub after_ok : {A B : Type 0} (r : Result A Fault) (f : A → Result B Fault) (b : B) → (r >>= f) ≡ Ok b
    → HasSteps r f b
after_ok (Ok a) f b e = record { value = a; first = refl; second = e }
after_ok (Err x) f b e = absurd cc

-- ---- values

-- the coordinate that a value gives is near
value_near : (p : TextPair) (r : Result ℤ NumeralFault) (z : ℤ) → IfOk r IsNear
    → value_at p r ≡ Ok z → IsNear z
value_near p (Ok k) z near e = subst IsNear (ok_value k z e) near
value_near p (Err x) z near e = absurd cc

-- a value that is read is near
read_near : (decimals : ℕ) (p : TextPair) (z : ℤ) → value_at p (scaled_of decimals p.value) ≡ Ok z
    → IsNear z
read_near decimals p z e =
    value_near p (scaled_of decimals p.value) z (scaled_near decimals p.value) e

-- ---- the coordinates of a line

-- a coordinate that is read is near
coordinate_near : (decimals : ℕ) (p : TextPair) (known : Option ℤ) (z : ℤ)
    → coordinate_at decimals p known ≡ Ok z → IsNear z
coordinate_near decimals p (Some k) z e = absurd cc
coordinate_near decimals p None z e = read_near decimals p z e

-- near coordinates stay so with one more that is read
one_more_near : (decimals : ℕ) (p : TextPair) (known : Option ℤ) (with : ℤ → Known) (d : Known)
    → ((z : ℤ) → IsNear z → AreNear (with z))
    → (coordinate_at decimals p known >>= λ z. Ok (with z)) ≡ Ok d → AreNear d
one_more_near decimals p known with d near e =
    let z = after_ok (coordinate_at decimals p known) (λ z. Ok (with z)) d e in
    subst AreNear (ok_value (with z.value) d z.second)
    (near z.value (coordinate_near decimals p known z.value z.first))

-- and with one more pair, whichever of the four codes it has
pair_near : (x0 y0 x1 y1 : Bool) (decimals : ℕ) (p : TextPair) (c d : Known) → AreNear c
    → (if x0 then (coordinate_at decimals p c.x0 >>= λ z. Ok (record c { x0 = Some z }))
    else (if y0 then (coordinate_at decimals p c.y0 >>= λ z. Ok (record c { y0 = Some z }))
    else (if x1 then (coordinate_at decimals p c.x1 >>= λ z. Ok (record c { x1 = Some z }))
    else (if y1 then (coordinate_at decimals p c.y1 >>= λ z. Ok (record c { y1 = Some z }))
    else Ok c)))) ≡ Ok d → AreNear d
pair_near true y0 x1 y1 decimals p c d near e =
    one_more_near decimals p c.x0 (λ z. record c { x0 = Some z }) d
    (λ z n. record { x0 = n; y0 = near.y0; x1 = near.x1; y1 = near.y1 }) e
pair_near false true x1 y1 decimals p c d near e =
    one_more_near decimals p c.y0 (λ z. record c { y0 = Some z }) d
    (λ z n. record { x0 = near.x0; y0 = n; x1 = near.x1; y1 = near.y1 }) e
pair_near false false true y1 decimals p c d near e =
    one_more_near decimals p c.x1 (λ z. record c { x1 = Some z }) d
    (λ z n. record { x0 = near.x0; y0 = near.y0; x1 = n; y1 = near.y1 }) e
pair_near false false false true decimals p c d near e =
    one_more_near decimals p c.y1 (λ z. record c { y1 = Some z }) d
    (λ z n. record { x0 = near.x0; y0 = near.y0; x1 = near.x1; y1 = n }) e
pair_near false false false false decimals p c d near e = subst AreNear (ok_value c d e) near

-- a coordinate that is there is near
present_near : (line : ℕ) (code : ℤ) (known : Option ℤ) (z : ℤ) → IfSome known IsNear
    → present line code known ≡ Ok z → IsNear z
present_near line code (Some k) z near e = subst IsNear (ok_value k z e) near
present_near line code None z near e = absurd cc

-- so are both ends
record AreNearEnds (ends : Ends) : Type 0 where
  from : IsNearPoint ends.from
  to : IsNearPoint ends.to

ends_near : (line : ℕ) (c : Known) (ends : Ends) → AreNear c → line_ends line c ≡ Ok ends
    → AreNearEnds ends
unfolding line_ends
ends_near line c ends near e =
    let x0 = after_ok (present line (pos 10) c.x0) _ ends e in
    let y0 = after_ok (present line (pos 20) c.y0) _ ends x0.second in
    let x1 = after_ok (present line (pos 11) c.x1) _ ends y0.second in
    let y1 = after_ok (present line (pos 21) c.y1) _ ends x1.second in
    let found : Ends = record {
      from = record { x = x0.value; y = y0.value };
      to = record { x = x1.value; y = y1.value };
    } in
    subst AreNearEnds (ok_value found ends y1.second) (record {
      from = record {
        x = present_near line (pos 10) c.x0 x0.value near.x0 x0.first;
        y = present_near line (pos 20) c.y0 y0.value near.y0 y0.first;
      };
      to = record {
        x = present_near line (pos 11) c.x1 x1.value near.x1 x1.first;
        y = present_near line (pos 21) c.y1 y1.value near.y1 y1.first;
      };
    })

-- ---- the vertices of a polyline

-- the x coordinate of a vertex is near
first_x_near : (decimals line : ℕ) (p : TextPair) (begun : Option ℤ) (x : ℤ)
    → first_x decimals line p begun ≡ Ok x → IsNear x
first_x_near decimals line p (Some k) x e = absurd cc
first_x_near decimals line p None x e = read_near decimals p x e

-- a vertex that ends is near
ended_near : (decimals line : ℕ) (p : TextPair) (begun : Option ℤ) (vs : List Point) (v : Point)
    → IfSome begun IsNear → ended_vertex decimals line p begun vs ≡ Ok v → IsNearPoint v
ended_near decimals line p (Some x) vs v near e =
    let y = after_ok (value_at p (scaled_of decimals p.value)) _ v e in
    subst IsNearPoint (ok_value (record { x = x; y = y.value }) v y.second)
    (record { x = near; y = read_near decimals p y.value y.first })
ended_near decimals line p None [] v near e = absurd cc
ended_near decimals line p None (w ∷ ws) v near e = absurd cc

-- one more pair keeps what is known near, whichever of the codes it has
vertex_near : (x y bulge flags : Bool) (decimals line : ℕ) (p : TextPair) (o d : KnownOutline)
    → IsNearOutline o
    → (if x then with_x decimals line p o
    else (if y then with_y decimals line p o
    else (if bulge then (flat line p (whole_of p.value) >>= λ _. Ok o)
    else (if flags then (first_flags p o.closed >>= λ closed. Ok (record o { closed = Some closed }))
    else Ok o)))) ≡ Ok d → IsNearOutline d
vertex_near true y bulge flags decimals line p o d near e =
    let x = after_ok (first_x decimals line p o.begun) _ d e in
    subst IsNearOutline (ok_value (record o { begun = Some x.value }) d x.second) (record {
      vertices = near.vertices;
      begun = first_x_near decimals line p o.begun x.value x.first;
    })
vertex_near false true bulge flags decimals line p o d near e =
    let v = after_ok (ended_vertex decimals line p o.begun o.vertices) _ d e in
    let own = ended_near decimals line p o.begun o.vertices v.value near.begun v.first in
    subst IsNearOutline
    (ok_value (record o { vertices = o.vertices ++ v.value ∷ []; begun = None }) d v.second)
    (record {
      vertices = each-append IsNearPoint o.vertices (v.value ∷ []) near.vertices (own, tt);
      begun = tt;
    })
vertex_near false false true flags decimals line p o d near e =
    let same = after_ok (flat line p (whole_of p.value)) (λ _. Ok o) d e in
    subst IsNearOutline (ok_value o d same.second) near
vertex_near false false false true decimals line p o d near e =
    let closed = after_ok (first_flags p o.closed) _ d e in
    subst IsNearOutline (ok_value (record o { closed = Some closed.value }) d closed.second)
    (record { vertices = near.vertices; begun = near.begun })
vertex_near false false false false decimals line p o d near e =
    subst IsNearOutline (ok_value o d e) near

-- vertices that come back are near
come_back_near : (vs : List Point) → Each IsNearPoint vs → Each IsNearPoint (come_back vs)
come_back_near [] near = near
come_back_near (a ∷ []) near = near
come_back_near (a ∷ b ∷ vs) near =
    each-append IsNearPoint (a ∷ b ∷ vs) (a ∷ []) near (near.0, tt)

-- whether it is closed or not
route_near : (closed : Bool) (vs : List Point) → Each IsNearPoint vs
    → Each IsNearPoint (if closed then come_back vs else vs)
route_near true vs near = come_back_near vs near
route_near false vs near = near

whole_route_near : (line : ℕ) (begun : Option ℤ) (points found : List Point)
    → Each IsNearPoint points → whole_route line begun points ≡ Ok found → Each IsNearPoint found
whole_route_near line (Some x) points found near e = absurd cc
whole_route_near line None points found near e =
    subst (Each IsNearPoint) (ok_value points found e) near

-- ---- what an entity draws

-- what is known of it is near
abbrev pub IsNearShape : Shape → Type 0
IsNearShape (shape.Line c) = AreNear c
IsNearShape (shape.Polyline o) = IsNearOutline o
IsNearShape shape.Nothing = Unit {0}

-- so it begins
pub begun_near : (k : Kind) → IsNearShape (begun_shape k)
begun_near kind.Line = record { x0 = tt; y0 = tt; x1 = tt; y1 = tt }
begun_near kind.Polyline = record { vertices = tt; begun = tt }
begun_near kind.Geometry = tt
begun_near kind.Other = tt

-- so it stays with one more pair
shape_near : (decimals line : ℕ) (p : TextPair) (s t : Shape) → IsNearShape s
    → with_shape decimals line p s ≡ Ok t → IsNearShape t
shape_near decimals line p (shape.Line c) t near e =
    let k = after_ok (with_coordinate decimals p c) (λ more. Ok (shape.Line more)) t e in
    subst IsNearShape (ok_value (shape.Line k.value) t k.second)
    (pair_near (has_code 10 p) (has_code 20 p) (has_code 11 p) (has_code 21 p) decimals p c k.value near
    k.first)
shape_near decimals line p (shape.Polyline o) t near e =
    let k = after_ok (with_vertex decimals line p o) (λ more. Ok (shape.Polyline more)) t e in
    subst IsNearShape (ok_value (shape.Polyline k.value) t k.second)
    (vertex_near (has_code 10 p) (has_code 20 p) (has_code 42 p) (has_code 70 p) decimals line p o k.value
    near k.first)
shape_near decimals line p shape.Nothing t near e =
    subst IsNearShape (ok_value shape.Nothing t e) tt

-- and with all its pairs
pub known_near : (decimals line : ℕ) (ps : List TextPair) (s t : Shape) → IsNearShape s
    → known_shape decimals line ps s ≡ Ok t → IsNearShape t
known_near decimals line [] s t near e = subst IsNearShape (ok_value s t e) near
known_near decimals line (p ∷ ps) s t near e =
    let k = after_ok (with_shape decimals line p s) (known_shape decimals line ps) t e in
    known_near decimals line ps k.value t (shape_near decimals line p s k.value near k.first) k.second

-- the points through which it goes are near
pub points_near : (line : ℕ) (s : Shape) (points : List Point) → IsNearShape s
    → points_of line s ≡ Ok points → Each IsNearPoint points
points_near line (shape.Line c) points near e =
    let ends = after_ok (line_ends line c) _ points e in
    let both = ends_near line c ends.value near ends.first in
    subst (Each IsNearPoint)
    (ok_value (ends.value.from ∷ ends.value.to ∷ []) points ends.second)
    (both.from, (both.to, tt))
points_near line (shape.Polyline o) points near e =
    whole_route_near line o.begun (route_of o) points
    (route_near (unwrap_or o.closed false) o.vertices near.vertices) e
points_near line shape.Nothing points near e =
    subst (Each IsNearPoint) (ok_value [] points e) tt
