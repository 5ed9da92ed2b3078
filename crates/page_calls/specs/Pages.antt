-- Pages: choices that are handed out, call by call, while a search goes on and at its end.
use Rattle.std.specs.Prelude.{◌≡◌, ◌⊎◌, ◌+◌, ◌≤◌, Bool, true, ℕ, List, [], ◌∷◌, ◌++◌, length, Option, Some, None, Result, IsErrOf, IsPermutation}
use Rattle.std.specs.List.{flat_map}
use Rattle.solid_model.specs.Blocks.{ProblemParts}
use Rattle.solid_model.specs.Limits.{most_page_choices}
use Rattle.lemmas.specs.Lists.{Each}
use Rattle.solid_model.specs.Solutions.{AreSolutions}
use Rattle.tv_base.specs.Faults.{Rose}

-- a call that hands out a page: its number, how many choices this page and those before it have, its choices, and whether it
-- was accepted
pub record Call : Type 0 where
  pub number : ℕ
  pub total : ℕ
  pub choices : List (List Bool)
  pub accepted : Bool

-- where the calls are told, these were added to them
abbrev pub AddsCalls : Option (List Call) → Option (List Call) → List Call → Type 0
AddsCalls None now more = Unit {0}
AddsCalls (Some told) now more = now ≡ Some (told ++ more)

-- this call was added, or none was
abbrev pub MayAddCall : Option (List Call) → Option (List Call) → Call → Type 0
MayAddCall before now c = AddsCalls before now (c ∷ []) ⊎ AddsCalls before now []

-- the choices of all calls, one call after another
abbrev pub choices_of : List Call → List (List Bool)
choices_of calls = flat_map (λ c. c.choices) calls

-- after so many calls with so many choices, the calls are numbered on; none is empty or above the limit of a page, and each
-- says how many choices there are with its own
abbrev pub AreNumbered : ℕ → ℕ → List Call → Type 0
AreNumbered number total [] = Unit {0}
AreNumbered number total (c ∷ calls) = (c.number ≡ number + 1) × (1 ≤ length c.choices) × (length c.choices ≤ most_page_choices)
    × (c.total ≡ total + length c.choices) × AreNumbered (number + 1) (total + length c.choices) calls

-- the pages of different solutions of a problem, of which only the last one may have been refused
pub record ArePages (p : ProblemParts) (calls : List Call) : Type 0 where
  pub numbered : AreNumbered 0 0 calls
  pub solutions : AreSolutions p (choices_of calls)
  pub done : List Call
  pub refused : List Call
  pub parts : calls ≡ done ++ refused
  pub accepted : Each (λ c. c.accepted ≡ true) done
  pub few : length refused ≤ 1

-- pages of solutions of a problem were added, with no more than so many choices
pub record HasPaged (p : ProblemParts) (most : ℕ) (before now : Option (List Call)) : Type 0 where
  pub calls : List Call
  pub adds : AddsCalls before now calls
  pub pages : ArePages p calls
  pub few : length (choices_of calls) ≤ most

-- the pages of just these solutions were added, in some order, and all were accepted
pub record HasAllPaged (p : ProblemParts) (before now : Option (List Call)) (solids : List (List Bool)) : Type 0 where
  pub calls : List Call
  pub adds : AddsCalls before now calls
  pub pages : ArePages p calls
  pub accepted : Each (λ c. c.accepted ≡ true) calls
  pub all : IsPermutation (choices_of calls) solids

-- a count of faults that never falls, and rose where there is no result because of a fault
abbrev pub CountsFaults : {T E : Type 0} → ℕ → ℕ → Result T E → E → Type 0
CountsFaults before now result fault = (before ≤ now) × (IsErrOf result fault → Rose before now)
