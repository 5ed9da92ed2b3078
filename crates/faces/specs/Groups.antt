-- Members of a list, put into groups by their keys.
use Rattle.std.specs.Prelude.{◌≡◌, Bool, false, nat_eq, ℕ, List, [], ◌∷◌, ◌++◌, length, slice_set, slice_index_or, Option, Some, None, IsTrue}
use Rattle.std.specs.List.{filter}
use Rattle.lemmas.specs.Lists.{Member, Each, Ascends}

-- those that have a key, in their order
abbrev pub with_key : {A : Type 0} → (A → ℕ) → ℕ → List A → List A
with_key key k xs = filter (λ x. nat_eq (key x) k) xs

-- a group: all that have the key of one of them
abbrev pub IsGroup : {A : Type 0} → (A → ℕ) → List A → List A → Type 0
IsGroup {A} key xs group = (x : A) × Member xs x × (group ≡ with_key key (key x) xs)

-- the first of one group stands before the first of another one
abbrev pub heads_before : {A : Type 0} → (A → A → Bool) → List A → List A → Bool
heads_before before (x ∷ xs) (y ∷ ys) = before x y
heads_before before _ _ = false

-- all groups of a list, in the order in which the list has their first members
pub record AreGroups {A : Type 0} (key : A → ℕ) (xs : List A) (groups : List (List A)) : Type 0 where
  pub each : Each (IsGroup key xs) groups
  pub complete : (x : A) → Member xs x → Member groups (with_key key (key x) xs)
  pub ordered : (before : A → A → Bool) → Ascends (λ x y. IsTrue (before x y)) xs → Ascends (λ g h. IsTrue (heads_before before g h)) groups

-- One member more is put where the table has the number of its key's group, or else into a group of its own.
abbrev pub IsPut : {A : Type 0} → A → ℕ → Option ℕ → List (Option ℕ) → List (List A) → List (Option ℕ) → List (List A) → Type 0
IsPut x k (Some g) table groups new_table new_groups =
    (new_table ≡ table) × (new_groups ≡ slice_set groups g (slice_index_or groups g [] ++ x ∷ []))
IsPut x k None table groups new_table new_groups =
    (new_table ≡ slice_set table k (Some (length groups))) × (new_groups ≡ groups ++ (x ∷ []) ∷ [])
