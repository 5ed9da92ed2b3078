-- A piece that is taken out of a frontier stands between two parts of it, which are left.
use Rattle.std.proofs.Common.{◌≡◌, inl, inr, Bool, true, false, List, [], ◌∷◌, ◌++◌, refl, sym, ap}
use Rattle.std.proofs.lemmas.Bool.{both_ways}
use Rattle.lemmas.specs.Truth.{same_values}
use Rattle.lemmas.specs.Lists.{Member}
use Rattle.lemmas.proofs.Truth.{Decides-same_values}
use Rattle.search_core.specs.Core.{without}

-- where a piece stands: what is before it and what is behind it is what is left without it
pub record StandsBetween (piece : List Bool) (prefixes : List (List Bool)) : Type 0 where
  pub front : List (List Bool)
  pub back : List (List Bool)
  pub is : prefixes ≡ front ++ piece ∷ back
  pub left : without piece prefixes ≡ front ++ back

-- it is the first prefix, or it stands among the others
step : (piece prefix : List Bool) (prefixes : List (List Bool)) → (t : Bool) → same_values piece prefix ≡ t → Member (prefix ∷ prefixes) piece
    → (Member prefixes piece → StandsBetween piece prefixes) → StandsBetween piece (prefix ∷ prefixes)
step piece prefix prefixes true e k among = record {
  front = [];
  back = prefixes;
  is = ap (λ p. p ∷ prefixes) (sym ((Decides-same_values piece prefix).0 e));
  left = rw e refl;
}
step piece prefix prefixes false e (inl f) among = absurd (both_ways (same_values piece prefix) e ((Decides-same_values piece prefix).1 (sym f)))
step piece prefix prefixes false e (inr k) among =
    let stands = among k in
    record {
      front = prefix ∷ stands.front;
      back = stands.back;
      is = ap (λ l. prefix ∷ l) stands.is;
      left = rw e (ap (λ l. prefix ∷ l) stands.left);
    }

-- a piece of the frontier stands somewhere
pub stands_between : (piece : List Bool) (prefixes : List (List Bool)) → Member prefixes piece → StandsBetween piece prefixes
stands_between piece [] k = absurd k
stands_between piece (prefix ∷ prefixes) k = step piece prefix prefixes (same_values piece prefix) refl k (stands_between piece prefixes)
