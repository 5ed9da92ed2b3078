-- Lists that are seen as others, member by member.
use Rattle.std.proofs.Common.{◌≡◌, ℕ, ◌<◌, List, map, length, get_or, sym, ap, ◌∙◌, arith}
use Rattle.std.proofs.lemmas.List.{get_or-map, length-map}

module _ {V X Y : Type 0} (see : V → Y) (f : X → Y) where
  -- both are of one length
  pub same_count : (vs : List V) (xs : List X) → map see vs ≡ map f xs → length vs ≡ length xs
  same_count vs xs same = sym (length-map vs see) ∙ ap length same ∙ length-map xs f

  -- and so is each member
  pub member : (vs : List V) (xs : List X) (i : ℕ) (d : V) (e : X) → i < length xs → map see vs ≡ map f xs → see (get_or vs i d) ≡ f (get_or xs i e)
  member vs xs i d e l same =
      let counted = same_count vs xs same in
      sym (get_or-map see vs i d (see d) (omega (arith, counted, l))) ∙ ap (λ ys. get_or ys i (see d)) same ∙ get_or-map f xs i e (see d) l
