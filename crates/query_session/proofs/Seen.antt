-- What was seen of a list is seen again of a list that goes on from it.
use Rattle.std.proofs.Common.{◌≡◌, ◌<◌, ◌≤◌, ◌+◌, ◌-◌, ℕ, Bool, List, [], length, drop, get_or, sym, ap, ◌∙◌, length-append, length-drop, length-take, arith}
use Rattle.std.proofs.lemmas.List.{get_or-drop, get_or-take, get_or_append_left}
use Rattle.solution_book.specs.declared.reader.Page.{Page}
use Rattle.solution_book.specs.Editions.{StartsWith}
use Rattle.solution_book.specs.Pages.{IsPageOf}

-- what stands in a page stands in its list
in_list : (from most place : ℕ) (list : List (List Bool)) (page : Page) → IsPageOf from most list page → from ≤ place → place < from + most
    → get_or page.solids.items (place - from) [] ≡ get_or list place []
in_list from most place list page is le lt =
    ap (λ l. get_or l (place - from) []) is.part ∙ get_or-take most (drop from list) (place - from) [] (omega (arith, le, lt))
    ∙ get_or-drop from list (place - from) [] ∙ ap (λ n. get_or list n []) (let h : from + (place - from) ≡ place = omega (arith, le) in h)

-- a page has so many places
page_length : (from most : ℕ) (list : List (List Bool)) (page : Page) → IsPageOf from most list page → (length page.solids.items ≤ most) × (length page.solids.items ≤ length list - from)
page_length from most list page is =
    let a = ap length is.part in
    let b = length-take most (drop from list) in
    let c = length-drop from list in
    (omega (arith, a, b, c), omega (arith, a, b, c))

-- and as many as are asked for and there are
page_reaches : (from most place : ℕ) (list : List (List Bool)) (page : Page) → IsPageOf from most list page → from ≤ place → place < from + most → place < length list
    → place < from + length page.solids.items
page_reaches from most place list page is le lt there =
    let a = ap length is.part in
    let b = length-take most (drop from list) in
    let c = length-drop from list in
    omega (arith, a, b, c, le, lt, there)

pub seen_again : (from most again longest place : ℕ) (list later : List (List Bool)) (page other : Page) → IsPageOf from most list page → StartsWith later list
    → IsPageOf again longest later other → from ≤ place → place < from + length page.solids.items → again ≤ place → place < again + longest
    → (place < again + length other.solids.items) × (get_or other.solids.items (place - again) [] ≡ get_or page.solids.items (place - from) [])
seen_again from most again longest place list later page other is (rest, on) is_other le held le_other within =
    let (short, few) = page_length from most list page is in
    let there : place < length list = omega (arith, le, held, few) in
    let longer = ap length on in
    let sum = length-append list rest in (
      page_reaches again longest place later other is_other le_other within (omega (arith, there, longer, sum)),
      in_list again longest place later other is_other le_other within ∙ ap (λ l. get_or l place []) on ∙ get_or_append_left list rest [] place there
          ∙ sym (in_list from most place list page is le (omega (arith, held, short))),
    )
