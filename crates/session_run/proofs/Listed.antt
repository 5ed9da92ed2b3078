-- Choices that are listed, or so many that there is no room for more.
use Rattle.std.proofs.Common.{◌≡◌, inl, inr, Bool, ℕ, ◌-◌, ◌≤◌, List, ◌++◌, length, take, drop, IsPermutation, sym, ap, subst, arith, length-append, length-take, take-append-drop}
use Rattle.std.proofs.lemmas.List.Sorted.{length_permutation}
use Rattle.lemmas.specs.Lists.{Member, Each}
use Rattle.lemmas.proofs.Lists.{each-at, each-from, each-weaker, member-append_left, member-append_right}
use Rattle.lemmas.proofs.Permutations.{member-permutation}
use Rattle.session_run.specs.Session.{AreAmong}

-- they still are where the list goes on, as far as there is room
pub listed_more : (most : ℕ) (first all choices : List (List Bool)) → (more : List (List Bool)) × (all ≡ first ++ more) → length all ≤ most
    → AreAmong most first choices → AreAmong most all choices
listed_more most first all choices (more, is) few (inl each) =
    inl (each-weaker (Member first) (Member all) choices (λ x k. subst (λ l. Member l x) (sym is) (member-append_left first more x k)) each)
listed_more most first all choices (more, is) few (inr full) = inr (omega (arith, few, full, ap length is, length-append first more))

-- and where it goes on as far as there is room, and stands in another order
pub listed_moved : (most : ℕ) (told rest solids choices : List (List Bool)) → IsPermutation (told ++ take (most - length told) rest) solids
    → AreAmong most told choices → AreAmong most solids choices
listed_moved most told rest solids choices moved (inl each) =
    let more = take (most - length told) rest in
    inl (each-weaker (Member told) (Member solids) choices
    (λ x k. member-permutation (told ++ more) solids x moved (member-append_left told more x k)) each)
listed_moved most told rest solids choices moved (inr full) =
    let more = take (most - length told) rest in
    inr (omega (arith, full, length_permutation (told ++ more) solids moved, length-append told more, length-take (most - length told) rest))

-- part of them is listed where they are
pub listed_part : (most : ℕ) (listed choices part : List (List Bool)) → Each (Member choices) part → AreAmong most listed choices → AreAmong most listed part
listed_part most listed choices part within (inl each) =
    inl (each-weaker (Member choices) (Member listed) part (λ x k. each-at (Member listed) choices x each k) within)
listed_part most listed choices part within (inr full) = inr full

-- a part of a list has members of it
pub part_within : (from most : ℕ) (list part : List (List Bool)) → part ≡ take most (drop from list) → Each (Member list) part
part_within from most list part is =
    let behind = drop from list in
    each-from (Member list) part (λ x k.
    let near = subst (λ l. Member l x) is k in
    let in_rest = subst (λ l. Member l x) (take-append-drop most behind) (member-append_left (take most behind) (drop most behind) x near) in
    subst (λ l. Member l x) (take-append-drop from list) (member-append_right (take from list) behind x in_rest))
