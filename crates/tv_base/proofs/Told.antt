-- What calls in a row do to bytes that are told.
use Rattle.std.proofs.Common.{◌≡◌, ℕ, ◌+◌, ◌-◌, ◌≤◌, List, ◌++◌, length, take, drop, Option, None, Some, sym, ap, ◌∙◌, arith, append_assoc, length-append}
use Rattle.std.proofs.lemmas.List.{take_at, drop_at, take-append-drop, length-take-le}
use Rattle.std.proofs.Math.Seq.{take-add}
use Rattle.std.specs.Io.KnownBytes.{Appends, Consumes}
use Rattle.tv_base.specs.Pieces.{ReadsWithin, ReadsPast}

-- what was copied to a buffer's beginning, and what is left of the bytes, are the bytes
pub copied_and_left : (xs buffer new : List ℕ) (n : ℕ) → n ≤ length xs → new ≡ take n xs ++ drop n buffer → xs ≡ take n new ++ drop n xs
copied_and_left xs buffer new n within copied =
    sym (ap (λ ys. ys ++ drop n xs) (ap (take n) copied ∙ take_at (take n xs) (drop n buffer) n (length-take-le n xs within)) ∙ take-append-drop n xs)

-- two pieces appended one after the other are one piece
pub appends_both : (a b c : Option (List ℕ)) (xs ys : List ℕ) → Appends a b xs → Appends b c ys → Appends a c (xs ++ ys)
appends_both None b c xs ys first second = tt
appends_both (Some old) None c xs ys first second = absurd first
appends_both (Some old) (Some mid) None xs ys first second = absurd second
appends_both (Some old) (Some mid) (Some new) xs ys first second = second ∙ ap (λ zs. zs ++ ys) first ∙ append_assoc old xs ys

-- a prefix of a piece, and then one of the rest, are a longer prefix
pub appends_more : (a b c : Option (List ℕ)) (n k : ℕ) (piece : List ℕ) → Appends a b (take n piece) → Appends b c (take k (drop n piece)) → Appends a c (take (n + k) piece)
appends_more a b c n k piece first second = rw (take-add n k piece) (appends_both a b c (take n piece) (take k (drop n piece)) first second)

-- two pieces read one after the other are one piece
pub consumes_both : (a b c : Option (List ℕ)) (xs ys : List ℕ) → Consumes a b xs → Consumes b c ys → Consumes a c (xs ++ ys)
consumes_both None b c xs ys first second = tt
consumes_both (Some old) None c xs ys first second = absurd first
consumes_both (Some old) (Some mid) None xs ys first second = absurd second
consumes_both (Some old) (Some mid) (Some new) xs ys first second = first ∙ ap (λ zs. xs ++ zs) second ∙ sym (append_assoc xs ys new)

-- a piece that was read, and then at most as many bytes as the limit leaves, are within the limit
pub reads_within : (a b c : Option (List ℕ)) (xs : List ℕ) (limit : ℕ) → length xs ≤ limit → Consumes a b xs → ReadsWithin b c (limit - length xs) → ReadsWithin a c limit
reads_within a b c xs limit fits first rest =
    (xs ++ rest.0, omega (arith, length-append xs rest.0, rest.1), consumes_both a b c xs rest.0 first rest.2)

-- what was read in `most + 1` bytes is more than `most` bytes, and leaves what stands behind it
pub reads_past : (a b : Option (List ℕ)) (xs : List ℕ) (most : ℕ) → Consumes a b xs → length xs ≡ most + 1 → ReadsPast a b most
reads_past None b xs most read long = tt
reads_past (Some old) None xs most read long = absurd read
reads_past (Some old) (Some mid) xs most read long =
    (omega (arith, long, ap length read, length-append xs mid), ap Some (sym (ap (drop (most + 1)) read ∙ drop_at xs mid (most + 1) long)))
