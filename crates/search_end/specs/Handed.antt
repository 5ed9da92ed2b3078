-- What has been handed out so far.
use Rattle.std.specs.Prelude.{◌≡◌, ◌≤◌, Bool, true, ℕ, List, length, Option, Result, MatchResult}
use Rattle.solid_model.specs.Blocks.{ProblemParts}
use Rattle.lemmas.specs.Lists.{Each}
use Rattle.solid_model.specs.Solutions.{AreSolutions}
use Rattle.page_calls.specs.Pages.{Call, AddsCalls, AreNumbered, HasPaged, choices_of}

-- the choices that were handed out, and in how many calls
pub record HandedParts : Type 0 where
  pub choices : List (List Bool)
  pub pages : ℕ

-- so many calls with these choices were added, and all were accepted
pub record IsHandedOut (before now : Option (List Call)) (h : HandedParts) : Type 0 where
  pub calls : List Call
  pub adds : AddsCalls before now calls
  pub numbered : AreNumbered 0 0 calls
  pub accepted : Each (λ c. c.accepted ≡ true) calls
  pub all : choices_of calls ≡ h.choices
  pub counted : length calls ≡ h.pages

-- different solutions of a problem, no more than so many
abbrev pub AreFewSolutions : ProblemParts → ℕ → List (List Bool) → Type 0
AreFewSolutions p most choices = AreSolutions p choices × (length choices ≤ most)

-- wherever these choices had been handed out, all of these now are
abbrev pub HandsOn : Option (List Call) → HandedParts → Option (List Call) → HandedParts → Type 0
HandsOn old handed now all = (before : Option (List Call)) → IsHandedOut before old handed → IsHandedOut before now all

-- wherever these choices had been handed out, pages were added, those of these choices and of the call that was refused
abbrev pub BreaksOff : ProblemParts → ℕ → Option (List Call) → HandedParts → Option (List Call) → Type 0
BreaksOff p most old handed now = (before : Option (List Call)) → IsHandedOut before old handed → HasPaged p most before now

-- pages go on behind these choices, until all are handed out that the result has, or till they break off
abbrev pub PagesOn : {E : Type 0} → ProblemParts → ℕ → Option (List Call) → HandedParts → Option (List Call) → Result HandedParts E → Type 0
PagesOn p most old handed now result = MatchResult result
    (λ all. AreFewSolutions p most all.choices × HandsOn old handed now all)
    (λ _. BreaksOff p most old handed now)
