-- Each line of a grid stands once among all of them.
use Rattle.std.proofs.Common.{◌≡◌, ◌≢◌, inl, inr, Bool, true, false, ℕ, if◌then◌else◌, suc, ◌<◌, List, [], ◌++◌, slice_get, Some, ap, sym, subst, ◌∙◌, arith}
use Rattle.std.specs.List.{range_with_len}
use Rattle.std.proofs.lemmas.Bool.{cases_lt, both_ways}
use Rattle.std.proofs.lemmas.Option.{slice_get_within, get_or_from_slice_get}
use Rattle.solid_model.specs.declared.frame.View.{View}
use Rattle.solid_model.specs.declared.frame.View.TheVariants.{Front, Top, Side}
use Rattle.solid_model.specs.declared.line_id.LineId.{LineId}
use Rattle.solid_model.specs.Demands.{lines_at, lines_along, lines_in, lines_of}
use Rattle.solid_model.specs.GridBox.{grid_sizes, axis_along, axis_across}
use Rattle.solid_model.specs.Wire.{is_drawn_view}
use Rattle.solid_model.specs.Panels.{GridParts}
use Rattle.lemmas.specs.Lists.{Member, Ascends}
use Rattle.lemmas.proofs.Concatenations.{ascends-flat_map, member-from_flat_map}
use Rattle.lemmas.proofs.ListPlaces.{ascends-pairs}
use Rattle.lemmas.proofs.Lists.{ascends-append, ascends-map, each-from, member-append, member-from_map}
use Rattle.lemmas.proofs.Ranges.{ascends-range}

-- lists without repeats that share no member are one
apart : {A : Type 0} (xs ys : List A) → Ascends ◌≢◌ xs → Ascends ◌≢◌ ys → ((x : A) → Member xs x → Member ys x → ⊥) → Ascends ◌≢◌ (xs ++ ys)
apart xs ys one two none = ascends-append ◌≢◌ xs ys one two
    (each-from _ xs (λ x m. each-from (λ y. x ≢ y) ys (λ y n same. none x m (subst (Member ys) (sym same) n))))

abbrev is_front : View → Bool
is_front Front = true
is_front Top = false
is_front Side = false

abbrev is_top : View → Bool
is_top Front = false
is_top Top = true
is_top Side = false

module _ (g : GridParts) where
  -- lines of one position
  once_at : (v : View) (upright : Bool) (at : ℕ) → Ascends ◌≢◌ (lines_at g v upright at)
  once_at v upright at = ascends-map (λ cell. record { view = v; upright = upright; at = at; cell = cell }) ◌<◌ ◌≢◌ (range_with_len 0 (grid_sizes g (axis_along v upright)))
      (λ x y less same. (let e = ap (λ (l : LineId). l.cell) same in omega (arith, less, e))) (ascends-range (grid_sizes g (axis_along v upright)) 0)

  at_so : (v : View) (upright : Bool) (at : ℕ) (l : LineId) → Member (lines_at g v upright at) l → (l.view ≡ v) × (l.upright ≡ upright) × (l.at ≡ at)
  at_so v upright at l m =
      let (cell, _, is) = member-from_map (λ cell. record { view = v; upright = upright; at = at; cell = cell }) (range_with_len 0 (grid_sizes g (axis_along v upright))) l m in
      (sym (ap (λ (x : LineId). x.view) is), sym (ap (λ (x : LineId). x.upright) is), sym (ap (λ (x : LineId). x.at) is))

  -- the level, or the upright, lines of a view
  once_along : (v : View) (upright : Bool) → Ascends ◌≢◌ (lines_along g v upright)
  once_along v upright =
      let positions = suc (grid_sizes g (axis_across v upright)) in
      ascends-flat_map ◌<◌ ◌≢◌ (lines_at g v upright) (range_with_len 0 positions) (ascends-range positions 0) (once_at v upright)
      (λ x y less. each-from _ (lines_at g v upright x) (λ l m. each-from (λ k. l ≢ k) (lines_at g v upright y)
      (λ k n same. (let e = (at_so v upright x l m).2 in let f = (at_so v upright y k n).2 in let h = ap (λ (z : LineId). z.at) same in omega (arith, less, e, f, h)))))

  along_so : (v : View) (upright : Bool) (l : LineId) → Member (lines_along g v upright) l → (l.view ≡ v) × (l.upright ≡ upright)
  along_so v upright l m =
      let (at, _, here) = member-from_flat_map (lines_at g v upright) (range_with_len 0 (suc (grid_sizes g (axis_across v upright)))) l m in
      let so = at_so v upright at l here in (so.0, so.1)

  -- those of a view, if it isn't missing
  abbrev shown_in : View → Bool → List LineId
  shown_in v shown = if shown then (lines_along g v false ++ lines_along g v true) else []

  once_in : (v : View) → Ascends ◌≢◌ (lines_in g v)
  once_in v = by (is_drawn_view g v)
    where
      by : (shown : Bool) → Ascends ◌≢◌ (shown_in v shown)
      by true = apart (lines_along g v false) (lines_along g v true) (once_along v false) (once_along v true)
          (λ l m n. both_ways l.upright (along_so v false l m).1 (along_so v true l n).1)
      by false = tt

  in_so : (v : View) (l : LineId) → Member (lines_in g v) l → l.view ≡ v
  in_so v l = by (is_drawn_view g v)
    where
      by : (shown : Bool) → Member (shown_in v shown) l → l.view ≡ v
      by true m = elim (member-append (lines_along g v false) (lines_along g v true) l m) as (λ _. l.view ≡ v) [
        | inl level ↦ (along_so v false l level).0
        | inr up ↦ (along_so v true l up).0
      ]
      by false m = absurd m

  once_of : Ascends ◌≢◌ (lines_of g)
  once_of = apart (lines_in g Front) (lines_in g Top ++ lines_in g Side) (once_in Front)
      (apart (lines_in g Top) (lines_in g Side) (once_in Top) (once_in Side)
      (λ l m n. both_ways (is_top l.view) (ap is_top (in_so Side l n)) (ap is_top (in_so Top l m))))
      (λ l m n. both_ways (is_front l.view) (elim (member-append (lines_in g Top) (lines_in g Side) l n) as (λ _. is_front l.view ≡ false) [
        | inl top ↦ ap is_front (in_so Top l top)
        | inr side ↦ ap is_front (in_so Side l side)
      ]) (ap is_front (in_so Front l m)))

  -- so a line has one number
  pub one_number : (i j : ℕ) (l : LineId) → slice_get (lines_of g) i ≡ Some l → slice_get (lines_of g) j ≡ Some l → i ≡ j
  one_number i j l one two =
      let lines = lines_of g in
      let first = get_or_from_slice_get lines i l l one in
      let second = get_or_from_slice_get lines j l l two in
      elim (cases_lt i j) as (λ _. i ≡ j) [
        | inl less ↦ absurd (ascends-pairs ◌≢◌ lines once_of i j l less (slice_get_within lines j l two) (first ∙ sym second))
        | inr more ↦ elim (cases_lt j i) as (λ _. i ≡ j) [
          | inl less ↦ absurd (ascends-pairs ◌≢◌ lines once_of j i l less (slice_get_within lines i l one) (second ∙ sym first))
          | inr same ↦ omega (arith, more, same)
        ]
      ]
