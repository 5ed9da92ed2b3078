-- Lists of uses that fit, and what they make of the uses that follow.
use Rattle.std.proofs.Common.{◌≡◌, ◌∙◌, refl, sym, ap, Bool, true, false, cond, not, ◌&&◌, ◌||◌, List, [], ◌∷◌, ◌++◌, map, Option, Some, None, append_assoc, append-nil, true≢false}
use Rattle.std.specs.List.{list_all, find}
use Rattle.std.specs.Str.{bytes_eq}
use Rattle.std.proofs.lemmas.Slice.Eq.{bytes_eq-Decides}
use Rattle.std.proofs.Math.Bool.{and_assoc, and-true}
use Rattle.clap.specs.Walk.{Row}
use Rattle.clap.proofs.WalkLemmas.{both}
use Rattle.words.proofs.OneUse.{use_row}
use Rattle.words.specs.Rows.{is_range}
use Rattle.words.specs.Words.{Field, Text, Use, fits_after, is_used, number_name, put, suits}

pub fits-append : (seen us vs : List Use) → fits_after seen (us ++ vs) ≡ (fits_after seen us && fits_after (seen ++ us) vs)
fits-append seen [] vs = ap (λ xs. fits_after xs vs) (sym (append-nil seen))
fits-append seen (u ∷ us) vs =
    let one = not (is_used u.0.name seen) && suits u in
    ap (λ b. one && b) (fits-append (seen ++ u ∷ []) us vs ∙ ap (λ xs. fits_after (seen ++ u ∷ []) us && fits_after xs vs)
    (append_assoc seen (u ∷ []) us))
    ∙ sym (and_assoc one (fits_after (seen ++ u ∷ []) us) (fits_after (seen ++ (u ∷ us)) vs))

-- one more use
pub fits_one : (us : List Use) (u : Use) → fits_after [] (us ++ u ∷ [])
    ≡ (fits_after [] us && (not (is_used u.0.name us) && suits u))
fits_one us u = fits-append [] us (u ∷ []) ∙ ap (λ b. fits_after [] us && b) (and-true (not (is_used u.0.name us) && suits u))

pub unsuited : (us : List Use) (u : Use) → suits u ≡ false → fits_after [] (us ++ u ∷ []) ≡ false
unsuited us u e = fits_one us u ∙ go (fits_after [] us) (not (is_used u.0.name us)) (suits u) e
  where
    go : (a b c : Bool) → c ≡ false → (a && (b && c)) ≡ false
    go false b c h = refl
    go true false c h = refl
    go true true c h = h

pub repeated : (us : List Use) (u : Use) → is_used u.0.name us ≡ true → fits_after [] (us ++ u ∷ []) ≡ false
repeated us u e = fits_one us u ∙ ap (λ b. fits_after [] us && (not b && suits u)) e ∙ go (fits_after [] us)
  where
    go : (a : Bool) → (a && false) ≡ false
    go false = refl
    go true = refl

-- the rows of uses, where they fit after those so far
abbrev pub joined : List Use → Option (List Use) → Option (List Row)
joined us None = None
joined us (Some vs) = cond (fits_after [] (us ++ vs)) (Some (map use_row (us ++ vs))) None

pub joined_put : (us : List Use) (u : Use) (o : Option (List Use)) → joined us (put u o) ≡ joined (us ++ u ∷ []) o
joined_put us u None = refl
joined_put us u (Some vs) = ap (λ xs. cond (fits_after [] xs) (Some (map use_row xs)) None) (sym (append_assoc us (u ∷ []) vs))

pub joined_unfit : (us : List Use) (o : Option (List Use)) → fits_after [] us ≡ false → joined us o ≡ None
joined_unfit us None e = refl
joined_unfit us (Some vs) e = ap (λ b. cond b (Some (map use_row (us ++ vs))) None)
    (fits-append [] us vs ∙ ap (λ b. b && fits_after us vs) e)

pub used_later : (name : Text) (us vs : List Use) → is_used name us ≡ true → is_used name (us ++ vs) ≡ true
used_later name [] vs e = absurd (true≢false (sym e))
used_later name (u ∷ us) vs e = go (bytes_eq u.0.name name) e (λ h. used_later name us vs h)
  where
    go : (b : Bool) → (b || is_used name us) ≡ true → (is_used name us ≡ true → is_used name (us ++ vs) ≡ true)
        → (b || is_used name (us ++ vs)) ≡ true
    go true h later = refl
    go false h later = later h

pub used_last : (us : List Use) (u : Use) (name : Text) → bytes_eq u.0.name name ≡ true → is_used name (us ++ u ∷ []) ≡ true
used_last [] u name e = ap (λ b. b || false) e
used_last (v ∷ us) u name e = go (bytes_eq v.0.name name) (used_last us u name e)
  where
    go : (b : Bool) → is_used name (us ++ u ∷ []) ≡ true → (b || is_used name (us ++ u ∷ [])) ≡ true
    go true h = refl
    go false h = h

-- the option that is found has the name, and its range is one that `clap` can have
pub found_named : (fs : List Field) (name : Text) (f : Field) → find (λ g. bytes_eq g.name name) fs ≡ Some f → f.name ≡ name
found_named [] name f e = cc
found_named (g ∷ gs) name f e = go (bytes_eq g.name name) refl e (λ h. found_named gs name f h)
  where
    go : (b : Bool) → bytes_eq g.name name ≡ b → cond b (Some g) (find (λ h. bytes_eq h.name name) gs) ≡ Some f
        → (find (λ h. bytes_eq h.name name) gs ≡ Some f → f.name ≡ name) → f.name ≡ name
    go true is h later = let same : g ≡ f = cc in ap (λ (k : Field). k.name) (sym same) ∙ (bytes_eq-Decides g.name name).0 is
    go false is h later = later h

pub found_range : (fs : List Field) (name : Text) (f : Field)
    → list_all (λ g. is_range g.range && not (bytes_eq g.name number_name)) fs ≡ true
    → find (λ g. bytes_eq g.name name) fs ≡ Some f → is_range f.range ≡ true
found_range [] name f sound e = cc
found_range (g ∷ gs) name f sound e = go (bytes_eq g.name name) e (λ h. found_range gs name f (both _ _ sound).1 h)
  where
    go : (b : Bool) → cond b (Some g) (find (λ h. bytes_eq h.name name) gs) ≡ Some f
        → (find (λ h. bytes_eq h.name name) gs ≡ Some f → is_range f.range ≡ true) → is_range f.range ≡ true
    go true h later = let same : g ≡ f = cc in ap (λ (k : Field). is_range k.range) (sym same) ∙ (both _ _ (both _ _ sound).0).0
    go false h later = later h
