-- Pages of lists that go on.
use Rattle.std.proofs.Common.{◌≡◌, ◌↔◌, ◌<◌, ◌+◌, ◌-◌, ℕ, zero, suc, Bool, List, [], ◌∷◌, ◌++◌, length, take, drop, min, refl, sym, ap, ◌∙◌, append_assoc, length-drop, arith}
use Rattle.std.proofs.Math.Seq.{drop-append_seam}
use Rattle.std.proofs.lemmas.List.{length-take, take-append-drop}
use Rattle.solution_book.specs.declared.reader.Page.{Page}
use Rattle.solution_book.specs.Editions.{StartsWith}
use Rattle.solution_book.specs.Pages.{IsPageOf}

pub short_at_the_end : (from most : ℕ) (list : List (List Bool)) (page : Page) → IsPageOf from most list page
    → (length page.solids.items < most) ↔ ((0 < most) × (length list < from + most))
short_at_the_end from most list page is =
    let long : length page.solids.items ≡ min most (length list - from) =
    ap length is.part ∙ length-take most (drop from list) ∙ ap (λ n. min most n) (length-drop from list) in
    ((λ lt. (omega (arith, long, lt), omega (arith, long, lt))), (λ h. omega (arith, long, h.0, h.1)))

-- a list that begins with one that begins with a third begins with that
pub starts_on : (xs ys zs : List (List Bool)) → StartsWith xs ys → StartsWith ys zs → StartsWith xs zs
starts_on xs ys zs (more, e) (rest, f) = (rest ++ more, e ∙ ap (λ l. l ++ more) f ∙ append_assoc zs rest more)

-- what is left of a list that goes on begins with what was left
drop_starts : (n : ℕ) (xs ys : List (List Bool)) → StartsWith (drop n (xs ++ ys)) (drop n xs)
drop_starts zero xs ys = (ys, refl)
drop_starts (suc n) [] ys = (drop (suc n) ys, refl)
drop_starts (suc n) (x ∷ xs) ys = drop_starts n xs ys

-- and so do its first ones
take_starts : (n : ℕ) (xs ys : List (List Bool)) → StartsWith (take n (xs ++ ys)) (take n xs)
take_starts zero xs ys = ([], refl)
take_starts (suc n) [] ys = (take (suc n) ys, refl)
take_starts (suc n) (x ∷ xs) ys = let r = take_starts n xs ys in (r.0, ap (λ l. x ∷ l) r.1)

pub only_grow : (from most : ℕ) (list later : List (List Bool)) (page again : Page) → StartsWith later list → IsPageOf from most list page → IsPageOf from most later again
    → StartsWith again.solids.items page.solids.items
only_grow from most list later page again (rest, goes_on) is is_again =
    let left = drop_starts from list rest in
    let first = take_starts most (drop from list) left.0 in
    (first.0, is_again.part ∙ ap (λ l. take most (drop from l)) goes_on ∙ ap (take most) left.1 ∙ first.1 ∙ ap (λ l. l ++ first.0) (sym is.part))

pub one_list : (read list later : List (List Bool)) (most : ℕ) (page : Page) → StartsWith list read → StartsWith later list → IsPageOf (length read) most later page
    → StartsWith later (read ++ page.solids.items)
one_list read list later most page (rest, starts) (more, goes_on) is =
    let whole : later ≡ read ++ (rest ++ more) = goes_on ∙ ap (λ l. l ++ more) starts ∙ append_assoc read rest more in
    let next : page.solids.items ≡ take most (rest ++ more) =
    is.part ∙ ap (λ l. take most (drop (length read) l)) whole ∙ ap (take most) (drop-append_seam read (rest ++ more)) in (
      drop most (rest ++ more),
      whole ∙ ap (λ l. read ++ l) (sym (take-append-drop most (rest ++ more)))
          ∙ sym (append_assoc read (take most (rest ++ more)) (drop most (rest ++ more)))
          ∙ ap (λ l. (read ++ l) ++ drop most (rest ++ more)) (sym next),
    )
