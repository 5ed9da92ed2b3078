-- The order of a plane's points, and of their places in space.
use Rattle.std.proofs.Common.{◌≡◌, Bool, true, false, ◌&&◌, ◌||◌, List, [], ◌∷◌, map, ℤ, int_lt, IsTrue, refl, sym, ◌∙◌, ap, ap₂, arith}
use Rattle.std.specs.Ordering.{int_eq}
use Rattle.std.proofs.lemmas.Bool.{false_from_ne_true}
use Rattle.std.proofs.lemmas.Bool.Decides.{Decides-int_eq}
use Rattle.std.proofs.lemmas.Int.{ints}
use Rattle.solid_model.specs.declared.face.Out.{Out}
use Rattle.solid_model.specs.declared.face.Out.TheVariants.{MinusX, PlusX, MinusY, PlusY, MinusZ, PlusZ}
use Rattle.solid_model.specs.Faces.{place, BeginsLeast, starts_before}
use Rattle.solid_model.specs.Orders.{is_before, ComesBefore}
use Rattle.solid_model.specs.Rounds.{Spot}
use Rattle.solid_model.proofs.CellOrder.{Decides-int_lt}
use Rattle.lemmas.proofs.Lists.{each-map, each-from_map, each-weaker}
use Rattle.faces.specs.PlaneFaces.{is_up_first}
use Rattle.faces.specs.PlaneLoops.{is_spot_before, BeginsFirst, first_corner_before}

pub not_less : (z : ℤ) → int_lt z z ≡ false
not_less z = false_from_ne_true (int_lt z z) (λ e. let l = (Decides-int_lt z z).0 e in omega (arith, ints))

pub same_int : (z : ℤ) → int_eq z z ≡ true
same_int z = (Decides-int_eq z z).1 refl

-- where one coordinate is the same, the other two decide
same_x : (at z w y v : ℤ) → (int_lt z w || (int_eq z w && int_lt y v)) ≡ (int_lt z w || (int_eq z w && (int_lt y v || (int_eq y v && int_lt at at))))
same_x at z w y v = ap (λ b. int_lt z w || (int_eq z w && b)) (sym (ap (λ b. int_lt y v || (int_eq y v && b)) (not_less at) ∙ by (int_lt y v) (int_eq y v)))
  where
    by : (a b : Bool) → (a || (b && false)) ≡ a
    by true b = refl
    by false true = refl
    by false false = refl

same_y : (at z w x u : ℤ) → (int_lt z w || (int_eq z w && int_lt x u)) ≡ (int_lt z w || (int_eq z w && (int_lt at at || (int_eq at at && int_lt x u))))
same_y at z w x u = ap (λ b. int_lt z w || (int_eq z w && b)) (sym (ap₂ (λ a b. a || (b && int_lt x u)) (not_less at) (same_int at)))

same_z : (at y v x u : ℤ) → (int_lt y v || (int_eq y v && int_lt x u)) ≡ (int_lt at at || (int_eq at at && (int_lt y v || (int_eq y v && int_lt x u))))
same_z at y v x u = sym (ap₂ (λ a b. a || (b && (int_lt y v || (int_eq y v && int_lt x u)))) (not_less at) (same_int at))

-- points of a plane come in the order of their places
pub order_in_space : (out : Out) (at : ℤ) (p q : Spot) → is_spot_before (is_up_first out) p q ≡ is_before (place out at p) (place out at q)
order_in_space MinusX at p q = same_x at p.u q.u p.v q.v
order_in_space PlusX at p q = same_x at p.v q.v p.u q.u
order_in_space MinusY at p q = same_y at p.v q.v p.u q.u
order_in_space PlusY at p q = same_y at p.u q.u p.v q.v
order_in_space MinusZ at p q = same_z at p.u q.u p.v q.v
order_in_space PlusZ at p q = same_z at p.v q.v p.u q.u

module _ (out : Out) (at : ℤ) where
  -- so do lists of points,
  pub starts_in_space : (ps qs : List Spot) → first_corner_before (is_up_first out) ps qs ≡ starts_before (map (place out at) ps) (map (place out at) qs)
  starts_in_space [] qs = refl
  starts_in_space (p ∷ ps) [] = refl
  starts_in_space (p ∷ ps) (q ∷ qs) = order_in_space out at p q

  -- and what begins at its first corner begins at its least one
  pub begins_least : (ps : List Spot) → BeginsFirst (is_up_first out) ps → BeginsLeast (map (place out at) ps)
  begins_least [] h = h
  begins_least (p ∷ ps) h =
      each-map (place out at) (ComesBefore (place out at p)) ps
      (each-weaker (λ q. IsTrue (is_spot_before (is_up_first out) p q)) (λ q. ComesBefore (place out at p) (place out at q)) ps
      (λ q e. sym (order_in_space out at p q) ∙ e) h)

  pub begins_first : (ps : List Spot) → BeginsLeast (map (place out at) ps) → BeginsFirst (is_up_first out) ps
  begins_first [] h = h
  begins_first (p ∷ ps) h =
      each-weaker (λ q. ComesBefore (place out at p) (place out at q)) (λ q. IsTrue (is_spot_before (is_up_first out) p q)) ps
      (λ q e. order_in_space out at p q ∙ e) (each-from_map (place out at) (ComesBefore (place out at p)) ps h)
