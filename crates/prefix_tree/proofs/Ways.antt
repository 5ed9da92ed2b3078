-- A way down a tree, which is kept while the tree grows, is left at a value, and goes on.
use Rattle.std.proofs.Common.{◌≡◌, inl, inr, set, ℕ, zero, suc, ◌+◌, ◌%◌, ◌<◌, ◌≤◌, Bool, List, [], ◌∷◌, ◌++◌, length, get_or, take, refl, sym, ◌∙◌, ap, subst, arith}
use Rattle.std.proofs.Math.Nat.{mod-lt}
use Rattle.std.proofs.lemmas.Bool.{cases_lt, cases_eq}
use Rattle.std.proofs.lemmas.Grind.{get_or-set_at}
use Rattle.std.proofs.lemmas.List.{get_or-take, take-take, get_or_append_left, get_or_push, get_or_read, get_or-set_other, length-set, length-take, length_push}
use Rattle.prefix_tree.specs.Nodes.{WayParts, IsWay, AreWays, root_way, way_at}
use Rattle.prefix_tree.specs.Places.{StandsAt}
use Rattle.prefix_tree.proofs.Stored.{stands-grown}

-- it is a way still where there are more prefixes
pub way_kept : (prefixes more : List (List Bool)) (way : WayParts) → IsWay prefixes way → IsWay (prefixes ++ more) way
way_kept prefixes more way is = λ k l. stands-grown prefixes more (take k way.values) (get_or way.nodes k 0) (is k l)

-- at the root
pub way_begun : IsWay ([] ∷ []) root_way
way_begun zero l = record { below = omega arith; there = refl }
way_begun (suc k) l = absurd (omega arith)

-- left after so many values, for others that begin with these
pub way_turned : (prefixes : List (List Bool)) (way : WayParts) (p : List Bool) (count : ℕ) → take count way.values ≡ take count p → IsWay prefixes way
    → IsWay prefixes (record { values = p; nodes = take (count + 1) way.nodes })
way_turned prefixes way p count same is = λ k l. subst (StandsAt prefixes (take k p)) (sym (node k l))
    (subst (λ (q : List Bool). StandsAt prefixes q (get_or way.nodes k 0)) (values k (within k l)) (is k (led k l)))
  where
    within : (k : ℕ) → k < length (take (count + 1) way.nodes) → k ≤ count
    within k l = omega (arith, length-take (count + 1) way.nodes)

    led : (k : ℕ) → k < length (take (count + 1) way.nodes) → k < length way.nodes
    led k l = omega (arith, length-take (count + 1) way.nodes)

    node : (k : ℕ) → k < length (take (count + 1) way.nodes) → get_or (take (count + 1) way.nodes) k 0 ≡ get_or way.nodes k 0
    node k l = get_or-take (count + 1) way.nodes k 0 (let h = within k l in omega arith)

    values : (k : ℕ) → k ≤ count → take k way.values ≡ take k p
    values k l = sym (take-take k count way.values l) ∙ ap (take k) same ∙ take-take k count p l

-- gone on
pub way_pushed : (prefixes : List (List Bool)) (way : WayParts) (at : ℕ) → IsWay prefixes way → StandsAt prefixes (take (length way.nodes) way.values) at
    → IsWay prefixes (record { values = way.values; nodes = way.nodes ++ at ∷ [] })
way_pushed prefixes way at is there = λ k l. elim (cases_lt k (length way.nodes)) as (λ _. StandsAt prefixes (take k way.values) (get_or (way.nodes ++ at ∷ []) k 0)) [
  | inl earlier ↦ subst (StandsAt prefixes (take k way.values)) (sym (get_or_append_left way.nodes (at ∷ []) 0 k earlier)) (is k earlier)
  | inr later ↦ (
      let last : length way.nodes ≡ k = omega (arith, length_push way.nodes at) in
      subst (StandsAt prefixes (take k way.values)) (sym (get_or_push way.nodes at 0 k last)) (subst (λ n. StandsAt prefixes (take n way.values) at) last there))
]

-- left at the root
pub way_left : (prefixes : List (List Bool)) (way : WayParts) → StandsAt prefixes [] (get_or way.nodes 0 0)
    → IsWay prefixes (record { values = way.values; nodes = take 1 way.nodes })
way_left prefixes way root = λ k l.
    let first : k ≡ 0 = omega (arith, length-take 1 way.nodes) in
    subst (λ (n : ℕ). StandsAt prefixes (take n way.values) (get_or (take 1 way.nodes) n 0)) (sym first)
    (subst (StandsAt prefixes []) (sym (get_or-take 1 way.nodes 0 0 (omega arith))) root)

-- ---- several ways

-- all at the root
pub ways_begun : (ways : List WayParts) → 0 < length ways → ((k : ℕ) → k < length ways → way_at ways k ≡ root_way) → AreWays ([] ∷ []) ways
ways_begun ways some root = record { some = some; each = λ k l. subst (IsWay ([] ∷ [])) (sym (root k l)) way_begun }

-- the number of one of them, of which there are so many
pub way_number : (prefixes : List (List Bool)) (ways : List WayParts) (by count : ℕ) → AreWays prefixes ways → count ≡ length ways → by % count < length ways
way_number prefixes ways by count are is = subst (λ n. by % count < n) is (mod-lt by (omega (arith, are.some)))

-- a way that is read at a place
pub way_read : (prefixes : List (List Bool)) (ways : List WayParts) (at : ℕ) (way : WayParts) → AreWays prefixes ways → at < length ways → way ≡ get_or ways at way
    → IsWay prefixes way
way_read prefixes ways at way are l read = subst (IsWay prefixes) (sym (get_or_read ways at way l read root_way)) (are.each at l)

-- the way of a place, led on while the tree grew, among the others
pub ways_set : (prefixes grown : List (List Bool)) → ((more : List (List Bool)) × (grown ≡ prefixes ++ more)) → (ways : List WayParts) (at : ℕ) (way : WayParts)
    → AreWays prefixes ways → at < length ways → IsWay grown way → AreWays grown (set ways at way)
ways_set prefixes grown (more, is) ways at way are l goes = record {
  some = omega (arith, are.some, length-set ways at way);
  each = λ k within. elim (cases_eq k at) as (λ _. IsWay grown (way_at (set ways at way) k)) [
    | inl here ↦ subst (IsWay grown) (sym (get_or-set_at ways at k way root_way here l)) goes
    | inr elsewhere ↦ subst (IsWay grown) (sym (get_or-set_other ways at k way root_way elsewhere))
        (subst (λ v. IsWay v (way_at ways k)) (sym is) (way_kept prefixes more (way_at ways k) (are.each k (omega (arith, within, length-set ways at way)))))
  ];
}
