-- The lists that lead to the nodes of a tree, and what they are when it grows.
use Rattle.std.proofs.Common.{◌≡◌, ◌≢◌, ◌⊎◌, inl, inr, ℕ, zero, suc, ◌+◌, ◌<◌, ◌≤◌, Bool, true, false, List, [], ◌∷◌, ◌++◌, Some, None, append-nil, append_assoc, length, get_or, set, take, refl, sym, ◌∙◌, ap, ap₂, subst, arith}
use Rattle.std.proofs.Math.Seq.{take-append_seam, take-append-add}
use Rattle.std.proofs.lemmas.Bool.{cases_eq, cases_lt, ne_eqb}
use Rattle.std.proofs.lemmas.List.{take_all, take-append-le, get_or_append_left, get_or_push, get_or-set_same, get_or-set_other, length-append, length-set, length_push}
use Rattle.std.proofs.lemmas.Option.{none-some, same_Some}
use Rattle.std.specs.Prelude.{if◌then◌else◌}
use Rattle.prefix_tree.specs.Nodes.{NodeParts, new_node, node_at, unless_root, child, with_child, way_of, ways_on, ways, IsTrie}
use Rattle.prefix_tree.specs.Places.{prefix_at, StandsAt, AreDistinct}
use Rattle.prefix_tree.proofs.Stored.{stands-grown, stands-last}

-- lists that are the same with one value more are the same, and so are the values
pub same_push : {A : Type 0} (xs ys : List A) (a b : A) → xs ++ a ∷ [] ≡ ys ++ b ∷ [] → (xs ≡ ys) × (a ≡ b)
same_push xs ys a b e =
    let long : length xs ≡ length ys = omega (arith, ap length e, length_push xs a, length_push ys b) in (
      sym (take-append_seam xs (a ∷ [])) ∙ ap₂ (λ (n : ℕ) (l : List _). take n l) long e ∙ take-append_seam ys (b ∷ []),
      sym (get_or_push xs a b (length xs) refl) ∙ ap (λ (l : List _). get_or l (length xs) b) e ∙ get_or_push ys b b (length xs) (sym long),
    )

-- ---- lists that lead to nodes

-- those of more nodes come behind those before them
ways_grown : (before : List (List Bool)) (nodes : List NodeParts) → (more : List (List Bool)) × (ways_on before nodes ≡ before ++ more) × (length more ≡ length nodes)
ways_grown before [] = ([], sym (append-nil before), refl)
ways_grown before (n ∷ nodes) =
    let r = ways_grown (before ++ way_of before n ∷ []) nodes in
    (way_of before n ∷ r.0, r.1 ∙ append_assoc before (way_of before n ∷ []) r.0, ap suc r.2)

ways_kept : (before : List (List Bool)) (nodes : List NodeParts) (k : ℕ) → k < length before → prefix_at (ways_on before nodes) k ≡ prefix_at before k
ways_kept before nodes k l =
    let r = ways_grown before nodes in
    ap (λ (v : List (List Bool)). prefix_at v k) r.1 ∙ get_or_append_left before r.0 [] k l

way_on : (before : List (List Bool)) (nodes : List NodeParts) (j : ℕ) → j < length nodes → (node_at nodes j).before < length before + j
    → prefix_at (ways_on before nodes) (length before + j) ≡ way_of (ways_on before nodes) (node_at nodes j)
way_on before [] j l e = absurd (omega arith)
way_on before (n ∷ nodes) zero l e =
    let next = before ++ way_of before n ∷ [] in
    let here : length before + 0 ≡ length before = omega arith in
    let old : n.before < length before = omega arith in
    ap (prefix_at (ways_on next nodes)) here
    ∙ ways_kept next nodes (length before) (omega (arith, length_push before (way_of before n)))
    ∙ get_or_push before (way_of before n) [] (length before) refl
    ∙ ap (λ (p : List Bool). p ++ n.value ∷ []) (sym (ways_kept next nodes n.before (omega (arith, length_push before (way_of before n)))
    ∙ get_or_append_left before (way_of before n ∷ []) [] n.before old))
way_on before (n ∷ nodes) (suc j) l e =
    let next = before ++ way_of before n ∷ [] in
    let there : length next + j ≡ length before + suc j = omega (arith, length_push before (way_of before n)) in
    ap (prefix_at (ways_on next nodes)) (sym there) ∙ way_on next nodes j (omega arith) (subst (λ m. (node_at nodes j).before < m) (sym there) e)

on_push : (before : List (List Bool)) (nodes : List NodeParts) (n : NodeParts) → ways_on before (nodes ++ n ∷ []) ≡ ways_on before nodes ++ way_of (ways_on before nodes) n ∷ []
on_push before [] n = refl
on_push before (m ∷ nodes) n = on_push (before ++ way_of before m ∷ []) nodes n

way_with : (before : List (List Bool)) (n : NodeParts) (b : Bool) (k : ℕ) → way_of before (with_child n b k) ≡ way_of before n
way_with before n true k = refl
way_with before n false k = refl

on_set : (before : List (List Bool)) (nodes : List NodeParts) (at : ℕ) (b : Bool) (k : ℕ) → ways_on before (set nodes at (with_child (node_at nodes at) b k)) ≡ ways_on before nodes
on_set before [] at b k = refl
on_set before (n ∷ nodes) zero b k = ap (λ (w : List Bool). ways_on (before ++ w ∷ []) nodes) (way_with before n b k)
on_set before (n ∷ nodes) (suc at) b k = on_set (before ++ way_of before n ∷ []) nodes at b k

-- one leads to each node
pub length-ways : (nodes : List NodeParts) → length (ways nodes) ≡ length nodes
length-ways [] = refl
length-ways (root ∷ nodes) = (let r = ways_grown ([] ∷ []) nodes in omega (arith, ap length r.1, length-append ([] ∷ []) r.0, r.2))

-- the empty one leads to the root
pub way-root : (nodes : List NodeParts) → 0 < length nodes → prefix_at (ways nodes) 0 ≡ []
way-root [] l = absurd (omega arith)
way-root (root ∷ nodes) l = ways_kept ([] ∷ []) nodes 0 (omega arith)

-- to another node leads that of the node before it, and one value more
way-on : (nodes : List NodeParts) (k : ℕ) → 0 < k → k < length nodes → (node_at nodes k).before < k → prefix_at (ways nodes) k ≡ way_of (ways nodes) (node_at nodes k)
way-on [] k some l e = absurd (omega arith)
way-on (root ∷ nodes) zero some l e = absurd (omega arith)
way-on (root ∷ nodes) (suc j) some l e =
    let there : 1 + j ≡ suc j = omega arith in
    ap (prefix_at (ways_on ([] ∷ []) nodes)) (sym there) ∙ way_on ([] ∷ []) nodes j (omega arith) (subst (λ m. (node_at nodes j).before < m) (sym there) e)

-- that of a node behind the others comes behind theirs
ways-push : (nodes : List NodeParts) (n : NodeParts) → 0 < length nodes → ways (nodes ++ n ∷ []) ≡ ways nodes ++ way_of (ways nodes) n ∷ []
ways-push [] n l = absurd (omega arith)
ways-push (root ∷ nodes) n l = on_push ([] ∷ []) nodes n

-- where a node leads on doesn't matter
ways-set : (nodes : List NodeParts) (at : ℕ) (b : Bool) (k : ℕ) → ways (set nodes at (with_child (node_at nodes at) b k)) ≡ ways nodes
ways-set [] at b k = refl
ways-set (root ∷ nodes) zero b k = refl
ways-set (root ∷ nodes) (suc at) b k = on_set ([] ∷ []) nodes at b k

-- ---- a tree

module _ (nodes : List NodeParts) (t : IsTrie nodes) where
  abbrev way : ℕ → List Bool
  way k = prefix_at (ways nodes) k

  -- the list that leads to a node, by the node before it
  pub way-led : (k : ℕ) → 0 < k → k < length nodes → way k ≡ way (node_at nodes k).before ++ (node_at nodes k).value ∷ []
  way-led k some l = way-on nodes k some l (t.earlier k some l)

  -- it has no more values than nodes stand before that one
  few_on : (n k : ℕ) → k ≤ n → k < length nodes → length (way k) ≤ k
  few_on n zero a l = omega (arith, ap length (way-root nodes t.some))
  few_on zero (suc k) a l = absurd (omega arith)
  few_on (suc n) (suc k) a l =
      let before = (node_at nodes (suc k)).before in
      let less : before < suc k = t.earlier (suc k) (omega arith) l in
      omega (arith, few_on n before (omega arith) (omega arith), ap length (way-led (suc k) (omega arith) l), length_push (way before) (node_at nodes (suc k)).value)

  pub few-values : (k : ℕ) → k < length nodes → length (way k) ≤ k
  few-values k l = few_on k k (omega arith) l

  -- one that leads to another node than the root isn't empty
  not_empty : (p : List Bool) (b : Bool) → [] ≢ p ++ b ∷ []
  not_empty p b e = absurd (omega (arith, ap length e, length_push p b))

  -- no two nodes are led to by one list
  one_node : (n i j : ℕ) → i ≤ n → i < length nodes → j < length nodes → way i ≡ way j → i ≡ j
  one_node n zero zero a li lj e = refl
  one_node n zero (suc j) a li lj e = absurd (not_empty _ _ (sym (way-root nodes t.some) ∙ e ∙ way-led (suc j) (omega arith) lj))
  one_node n (suc i) zero a li lj e = absurd (not_empty _ _ (sym (way-root nodes t.some) ∙ sym e ∙ way-led (suc i) (omega arith) li))
  one_node zero (suc i) (suc j) a li lj e = absurd (omega arith)
  one_node (suc n) (suc i) (suc j) a li lj e =
      let x = node_at nodes (suc i) in
      let y = node_at nodes (suc j) in
      let same = same_push (way x.before) (way y.before) x.value y.value (sym (way-led (suc i) (omega arith) li) ∙ e ∙ way-led (suc j) (omega arith) lj) in
      let less : x.before < suc i = t.earlier (suc i) (omega arith) li in
      let low : y.before < suc j = t.earlier (suc j) (omega arith) lj in
      let before : x.before ≡ y.before = one_node n x.before y.before (omega arith) (omega arith) (omega arith) same.0 in
      same_Some (suc i) (suc j) (sym (t.led (suc i) (omega arith) li) ∙ ap₂ (λ (k : ℕ) (b : Bool). child (node_at nodes k) b) before same.1 ∙ t.led (suc j) (omega arith) lj)

  pub ways_distinct : AreDistinct (ways nodes)
  ways_distinct i j li lj e = one_node i i j (omega arith) (omega (arith, length-ways nodes)) (omega (arith, length-ways nodes)) e

  -- to the first values of a list that leads to a node, so many, leads some node too
  closed_on : (n k m : ℕ) → k ≤ n → k < length nodes → m ≤ length (way k) → (j : ℕ) × StandsAt (ways nodes) (take m (way k)) j
  closed_on n zero m a l h = (0, record { below = omega (arith, length-ways nodes); there = sym (take_all m (way 0) (omega (arith, ap length (way-root nodes t.some)))) })
  closed_on zero (suc k) m a l h = absurd (omega arith)
  closed_on (suc n) (suc k) m a l h = elim (cases_lt m (length (way (suc k)))) as (λ _. (j : ℕ) × StandsAt (ways nodes) (take m (way (suc k))) j) [
    | inl less ↦ (
        let x = node_at nodes (suc k) in
        let low : x.before < suc k = t.earlier (suc k) (omega arith) l in
        let is = way-led (suc k) (omega arith) l in
        let within : m ≤ length (way x.before) = omega (arith, ap length is, length_push (way x.before) x.value) in
        let r = closed_on n x.before m (omega arith) (omega arith) within in
        (r.0, subst (λ (p : List Bool). StandsAt (ways nodes) p r.0) (sym (ap (take m) is ∙ take-append-le m (way x.before) (x.value ∷ []) within)) r.1))
    | inr all ↦ (suc k, record { below = omega (arith, length-ways nodes); there = sym (take_all m (way (suc k)) all) })
  ]

  pub closed : (p : List Bool) (k m : ℕ) → StandsAt (ways nodes) p k → m ≤ length p → (j : ℕ) × StandsAt (ways nodes) (take m p) j
  closed p k m s h = subst (λ (q : List Bool). (j : ℕ) × StandsAt (ways nodes) (take m q) j) s.there
      (closed_on k k m (omega arith) (let l = s.below in omega (arith, length-ways nodes)) (omega (arith, ap length s.there)))

  -- where a node leads nowhere for a value, nothing is led to by its list and the value,
  no_child : (at : ℕ) (b : Bool) (k : ℕ) → at < length nodes → child (node_at nodes at) b ≡ None → StandsAt (ways nodes) (way at ++ b ∷ []) k → ⊥
  no_child at b zero l none s = not_empty (way at) b (sym (way-root nodes t.some) ∙ s.there)
  no_child at b (suc k) l none s =
      let x = node_at nodes (suc k) in
      let lk : suc k < length nodes = (let h = s.below in omega (arith, length-ways nodes)) in
      let same = same_push (way x.before) (way at) x.value b (sym (way-led (suc k) (omega arith) lk) ∙ s.there) in
      let less : x.before < suc k = t.earlier (suc k) (omega arith) lk in
      let before : x.before ≡ at = one_node x.before x.before at (omega arith) (omega arith) l same.0 in
      none-some (suc k) (sym none ∙ ap₂ (λ (j : ℕ) (c : Bool). child (node_at nodes j) c) (sym before) (sym same.1) ∙ t.led (suc k) (omega arith) lk)

  -- nor by a list that begins with these
  pub leads_nowhere : (at : ℕ) (b : Bool) (rest : List Bool) (k : ℕ) → at < length nodes → child (node_at nodes at) b ≡ None → StandsAt (ways nodes) (way at ++ b ∷ rest) k → ⊥
  leads_nowhere at b rest k l none s =
      let first = closed (way at ++ b ∷ rest) k (length (way at) + 1) s (omega (arith, length-append (way at) (b ∷ rest))) in
      no_child at b first.0 l none (subst (λ (p : List Bool). StandsAt (ways nodes) p first.0) (take-append-add (way at) (b ∷ rest) 1) first.1)

-- ---- a tree of one node

bare-child : (before : ℕ) (value b : Bool) → child (new_node before value) b ≡ None
bare-child before value true = refl
bare-child before value false = refl

pub one_tree : IsTrie (new_node 0 false ∷ [])
one_tree = record {
  some = omega arith;
  earlier = λ k some l. absurd (omega arith);
  led = λ k some l. absurd (omega arith);
  leads = λ at b next l e. absurd (alone at b next l e);
}
  where
    alone : (at : ℕ) (b : Bool) (next : ℕ) → at < 1 → child (node_at (new_node 0 false ∷ []) at) b ≡ Some next → ⊥
    alone zero b next l e = none-some next (sym (bare-child 0 false b) ∙ e)
    alone (suc at) b next l e = absurd (omega arith)

-- ---- a node more

root_or : (k : ℕ) → 0 < k → unless_root k ≡ Some k
root_or k l = ap (λ (t : Bool). if t then None else Some k) (ne_eqb k 0 (λ e. omega arith))

-- a node leads to the new child, or to where it led
child-with : (n : NodeParts) (b c : Bool) (k next : ℕ) → 0 < k → child (with_child n b k) c ≡ Some next → (child n c ≡ Some next) ⊎ ((c ≡ b) × (next ≡ k))
child-with n true true k next some e = inr (refl, sym (same_Some k next (sym (root_or k some) ∙ e)))
child-with n true false k next some e = inl e
child-with n false true k next some e = inl e
child-with n false false k next some e = inr (refl, sym (same_Some k next (sym (root_or k some) ∙ e)))

-- where it led, it leads on
child-kept : (n : NodeParts) (b c : Bool) (k next : ℕ) → child n b ≡ None → child n c ≡ Some next → child (with_child n b k) c ≡ Some next
child-kept n true true k next none e = absurd (none-some next (sym none ∙ e))
child-kept n true false k next none e = e
child-kept n false true k next none e = e
child-kept n false false k next none e = absurd (none-some next (sym none ∙ e))

child-made : (n : NodeParts) (b : Bool) (k : ℕ) → 0 < k → child (with_child n b k) b ≡ Some k
child-made n true k some = root_or k some
child-made n false k some = root_or k some

before-with : (n : NodeParts) (b : Bool) (k : ℕ) → (with_child n b k).before ≡ n.before
before-with n true k = refl
before-with n false k = refl

value-with : (n : NodeParts) (b : Bool) (k : ℕ) → (with_child n b k).value ≡ n.value
value-with n true k = refl
value-with n false k = refl

-- the nodes with a new one, to which a node leads for a value
abbrev pub with_node : List NodeParts → ℕ → Bool → List NodeParts
with_node nodes at b = set (nodes ++ new_node at b ∷ []) at (with_child (node_at nodes at) b (length nodes))

module _ (nodes : List NodeParts) (t : IsTrie nodes) (at : ℕ) (b : Bool) (l : at < length nodes) (none : child (node_at nodes at) b ≡ None) where
  -- its list comes behind the others
  pub ways_with : ways (with_node nodes at b) ≡ ways nodes ++ (prefix_at (ways nodes) at ++ b ∷ []) ∷ []
  ways_with =
      ap (λ (n : NodeParts). ways (set (nodes ++ new_node at b ∷ []) at (with_child n b (length nodes)))) (sym (get_or_append_left nodes (new_node at b ∷ []) (new_node 0 false) at l))
      ∙ ways-set (nodes ++ new_node at b ∷ []) at b (length nodes) ∙ ways-push nodes (new_node at b) t.some

  longer : length (with_node nodes at b) ≡ length nodes + 1
  longer = length-set (nodes ++ new_node at b ∷ []) at (with_child (node_at nodes at) b (length nodes)) ∙ length_push nodes (new_node at b)

  -- the others stay as they were
  node-other : (i : ℕ) → i < length nodes → i ≢ at → node_at (with_node nodes at b) i ≡ node_at nodes i
  node-other i li ne = get_or-set_other (nodes ++ new_node at b ∷ []) at i (with_child (node_at nodes at) b (length nodes)) (new_node 0 false) ne
      ∙ get_or_append_left nodes (new_node at b ∷ []) (new_node 0 false) i li

  node-same : node_at (with_node nodes at b) at ≡ with_child (node_at nodes at) b (length nodes)
  node-same = get_or-set_same (nodes ++ new_node at b ∷ []) at (with_child (node_at nodes at) b (length nodes)) (new_node 0 false) (omega (arith, length_push nodes (new_node at b)))

  node-new : node_at (with_node nodes at b) (length nodes) ≡ new_node at b
  node-new = get_or-set_other (nodes ++ new_node at b ∷ []) at (length nodes) (with_child (node_at nodes at) b (length nodes)) (new_node 0 false) (λ e. omega arith)
      ∙ get_or_push nodes (new_node at b) (new_node 0 false) (length nodes) refl

  -- those before them are the same
  before-kept : (i : ℕ) → i < length nodes → (node_at (with_node nodes at b) i).before ≡ (node_at nodes i).before
  before-kept i li = elim (cases_eq i at) as (λ _. (node_at (with_node nodes at b) i).before ≡ (node_at nodes i).before) [
    | inl e ↦ ap (λ k. (node_at (with_node nodes at b) k).before) e ∙ ap (λ (n : NodeParts). n.before) node-same ∙ before-with (node_at nodes at) b (length nodes) ∙ ap (λ k. (node_at nodes k).before) (sym e)
    | inr ne ↦ ap (λ (n : NodeParts). n.before) (node-other i li ne)
  ]

  value-kept : (i : ℕ) → i < length nodes → (node_at (with_node nodes at b) i).value ≡ (node_at nodes i).value
  value-kept i li = elim (cases_eq i at) as (λ _. (node_at (with_node nodes at b) i).value ≡ (node_at nodes i).value) [
    | inl e ↦ ap (λ k. (node_at (with_node nodes at b) k).value) e ∙ ap (λ (n : NodeParts). n.value) node-same ∙ value-with (node_at nodes at) b (length nodes) ∙ ap (λ k. (node_at nodes k).value) (sym e)
    | inr ne ↦ ap (λ (n : NodeParts). n.value) (node-other i li ne)
  ]

  -- where a node led it leads on
  led_on : (i next : ℕ) (c : Bool) → i < length nodes → child (node_at nodes i) c ≡ Some next → child (node_at (with_node nodes at b) i) c ≡ Some next
  led_on i next c li e = elim (cases_eq i at) as (λ _. child (node_at (with_node nodes at b) i) c ≡ Some next) [
    | inl same ↦ ap (λ k. child (node_at (with_node nodes at b) k) c) same ∙ ap (λ n. child n c) node-same
        ∙ child-kept (node_at nodes at) b c (length nodes) next none (ap (λ k. child (node_at nodes k) c) (sym same) ∙ e)
    | inr ne ↦ ap (λ n. child n c) (node-other i li ne) ∙ e
  ]

  -- where a node leads it led, but for the new one
  leads : (i next : ℕ) (c : Bool) → i < length nodes → child (node_at (with_node nodes at b) i) c ≡ Some next
      → (child (node_at nodes i) c ≡ Some next) ⊎ ((i ≡ at) × (c ≡ b) × (next ≡ length nodes))
  leads i next c li e = elim (cases_eq i at) as (λ _. (child (node_at nodes i) c ≡ Some next) ⊎ ((i ≡ at) × (c ≡ b) × (next ≡ length nodes))) [
    | inl same ↦ (let f : child (with_child (node_at nodes at) b (length nodes)) c ≡ Some next = ap (λ n. child n c) (sym node-same) ∙ ap (λ k. child (node_at (with_node nodes at b) k) c) (sym same) ∙ e in
        elim (child-with (node_at nodes at) b c (length nodes) next t.some f) as (λ _. (child (node_at nodes i) c ≡ Some next) ⊎ ((i ≡ at) × (c ≡ b) × (next ≡ length nodes))) [
          | inl g ↦ inl (ap (λ k. child (node_at nodes k) c) same ∙ g)
          | inr g ↦ inr (same, g.0, g.1)
        ])
    | inr ne ↦ inl (ap (λ n. child n c) (sym (node-other i li ne)) ∙ e)
  ]

  -- a node is an old one or the new one
  old_or_new : (i : ℕ) → i < length (with_node nodes at b) → (i < length nodes) ⊎ (i ≡ length nodes)
  old_or_new i li = elim (cases_lt i (length nodes)) as (λ _. (i < length nodes) ⊎ (i ≡ length nodes)) [
    | inl old ↦ inl old
    | inr new ↦ inr (omega (arith, longer))
  ]

  -- the nodes are a tree again
  pub tree_with : IsTrie (with_node nodes at b)
  tree_with = record {
    some = omega (arith, longer);
    earlier = λ k some lk. elim (old_or_new k lk) as (λ _. (node_at (with_node nodes at b) k).before < k) [
      | inl old ↦ subst (λ m. m < k) (sym (before-kept k old)) (t.earlier k some old)
      | inr new ↦ (let e : (node_at (with_node nodes at b) k).before ≡ at = ap (λ j. (node_at (with_node nodes at b) j).before) new ∙ ap (λ (n : NodeParts). n.before) node-new in omega arith)
    ];
    led = λ k some lk. elim (old_or_new k lk) as (λ _. child (node_at (with_node nodes at b) (node_at (with_node nodes at b) k).before) (node_at (with_node nodes at b) k).value ≡ Some k) [
      | inl old ↦ (let low = t.earlier k some old in
          ap₂ (λ (j : ℕ) (c : Bool). child (node_at (with_node nodes at b) j) c) (before-kept k old) (value-kept k old)
          ∙ led_on (node_at nodes k).before k (node_at nodes k).value (omega arith) (t.led k some old))
      | inr new ↦ ap (λ j. child (node_at (with_node nodes at b) (node_at (with_node nodes at b) j).before) (node_at (with_node nodes at b) j).value) new
          ∙ ap (λ (n : NodeParts). child (node_at (with_node nodes at b) n.before) n.value) node-new
          ∙ ap (λ n. child n b) node-same ∙ child-made (node_at nodes at) b (length nodes) t.some ∙ ap Some (sym new)
    ];
    leads = λ i c next li e. subst (λ (v : List (List Bool)). StandsAt v (prefix_at v i ++ c ∷ []) next) (sym ways_with)
        (elim (old_or_new i li) as (λ _. StandsAt grown (prefix_at grown i ++ c ∷ []) next) [
          | inl old ↦ subst (λ (p : List Bool). StandsAt grown (p ++ c ∷ []) next) (sym (get_or_append_left (ways nodes) (made ∷ []) [] i (omega (arith, length-ways nodes)))) (from i c next old (leads i next c old e))
          | inr new ↦ absurd (none-some next (sym (ap (λ j. child (node_at (with_node nodes at b) j) c) new ∙ ap (λ n. child n c) node-new ∙ bare-child at b c) ∙ e))
        ]);
  }
    where
      made : List Bool
      made = prefix_at (ways nodes) at ++ b ∷ []

      grown : List (List Bool)
      grown = ways nodes ++ made ∷ []

      from : (i : ℕ) (c : Bool) (next : ℕ) → i < length nodes → (child (node_at nodes i) c ≡ Some next) ⊎ ((i ≡ at) × (c ≡ b) × (next ≡ length nodes))
          → StandsAt grown (prefix_at (ways nodes) i ++ c ∷ []) next
      from i c next li (inl old) = stands-grown (ways nodes) (made ∷ []) (prefix_at (ways nodes) i ++ c ∷ []) next (t.leads i c next li old)
      from i c next li (inr new) =
          subst (StandsAt grown (prefix_at (ways nodes) i ++ c ∷ [])) (length-ways nodes ∙ sym new.2)
          (subst (λ (p : List Bool). StandsAt grown p (length (ways nodes))) (sym (ap₂ (λ (j : ℕ) (d : Bool). prefix_at (ways nodes) j ++ d ∷ []) new.0 new.1)) (stands-last (ways nodes) made))
