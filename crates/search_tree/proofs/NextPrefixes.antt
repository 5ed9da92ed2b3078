-- What is left where a walk stands, and what is next to the opened prefixes.
use Rattle.std.proofs.Common.{◌≡◌, ◌⊎◌, inl, inr, ⊎_elim, Bool, true, false, ℕ, zero, suc, ◌-◌, ◌<◌, ◌≤◌, List, [], ◌∷◌, ◌++◌, length, take, drop, filter, cond, IsTrue, refl, sym, ◌∙◌, ap, ap₂, subst, append-nil, append_assoc, length-append, take-append-drop, arith}
use Rattle.std.specs.List.{flat_map}
use Rattle.std.proofs.lemmas.List.{take-append-le, drop-append-le, take_at}
use Rattle.std.proofs.lemmas.List.Elements.{filter-append}
use Rattle.std.proofs.lemmas.Bool.{cases_lt, false_from_ne_true}
use Rattle.std.proofs.lemmas.Grind.{flat_map-append}
use Rattle.solid_model.proofs.PrefixTree.{BeginsWith, live_from_none, live_from_more, live_from_whole, live_from_begins}
use Rattle.lemmas.specs.Lists.{Member, Each, Ascends}
use Rattle.solid_model.specs.Tree.{PrefixTest, extensions, live_from, is_next_to, opened_of, rest_of}
use Rattle.lemmas.proofs.Concatenations.{member-flat_map}
use Rattle.solid_model.proofs.AllowedReports.{filter_none, last_of, next_there, next_of}
use Rattle.lemmas.proofs.Lists.{each-at, each-from, each-append, each-weaker, each-filter, member-append, member-append_left, member-append_right, member-push_last, member-filter, ascends-append_across}
use Rattle.search_tree.specs.Walk.{after, coming}
use Rattle.search_tree.specs.Opened.{StandsAtLast}
use Rattle.search_tree.proofs.StatedOrder.{Before, not_itself, before_longer, one_way, each_extension, ascending_tree}
use Rattle.search_tree.proofs.Walks.{live_from_head}
use Rattle.search_tree.specs.Rest.{live_side, live_sides, live_besides, besides}

-- ---- one value more at the end

-- with a full value more the empty side comes first
besides_full : (live : PrefixTest) (piece values : List Bool) → live_besides live piece (values ++ true ∷ [])
    ≡ live_side live (piece ++ values) false ++ live_besides live piece values
besides_full live piece [] = rw (append-nil piece) (sym (append-nil (live_side live piece false)))
besides_full live piece (true ∷ values) =
    ap (λ xs. xs ++ live_side live piece false) (besides_full live (piece ++ true ∷ []) values)
    ∙ append_assoc (live_side live ((piece ++ true ∷ []) ++ values) false) (live_besides live (piece ++ true ∷ []) values) (live_side live piece false)
    ∙ ap (λ p. live_side live p false ++ (live_besides live (piece ++ true ∷ []) values ++ live_side live piece false)) (append_assoc piece (true ∷ []) values)
besides_full live piece (false ∷ values) =
    besides_full live (piece ++ false ∷ []) values
    ∙ ap (λ p. live_side live p false ++ live_besides live (piece ++ false ∷ []) values) (append_assoc piece (false ∷ []) values)

-- with an empty one there is none more
besides_empty : (live : PrefixTest) (piece values : List Bool) → live_besides live piece (values ++ false ∷ []) ≡ live_besides live piece values
besides_empty live piece [] = refl
besides_empty live piece (true ∷ values) = ap (λ xs. xs ++ live_side live piece false) (besides_empty live (piece ++ true ∷ []) values)
besides_empty live piece (false ∷ values) = besides_empty live (piece ++ false ∷ []) values

module _ (live : PrefixTest) (floor : ℕ) (prefix : List Bool) (below : floor ≤ length prefix) where
  pub back_over_full : besides live floor (prefix ++ true ∷ []) ≡ live_side live prefix false ++ besides live floor prefix
  back_over_full =
      ap (λ piece. live_besides live piece (drop floor (prefix ++ true ∷ []))) (take-append-le floor prefix (true ∷ []) below)
      ∙ ap (live_besides live (take floor prefix)) (drop-append-le floor prefix (true ∷ []) below)
      ∙ besides_full live (take floor prefix) (drop floor prefix)
      ∙ ap (λ p. live_side live p false ++ besides live floor prefix) (take-append-drop floor prefix)

  pub back_over_empty : besides live floor (prefix ++ false ∷ []) ≡ besides live floor prefix
  back_over_empty =
      ap (λ piece. live_besides live piece (drop floor (prefix ++ false ∷ []))) (take-append-le floor prefix (false ∷ []) below)
      ∙ ap (live_besides live (take floor prefix)) (drop-append-le floor prefix (false ∷ []) below)
      ∙ besides_empty live (take floor prefix) (drop floor prefix)

-- ---- what is to come are those below what is left

-- what a prefix begins with is its extension, as far as there is room
begun_member : (more : ℕ) (prefix rest : List Bool) → length rest ≤ more → Member (extensions more prefix) (prefix ++ rest)
begun_member zero prefix [] l = inl (sym (append-nil prefix))
begun_member zero prefix (x ∷ rest) l = absurd (omega arith)
begun_member (suc more) prefix [] l = inl (sym (append-nil prefix))
begun_member (suc more) prefix (true ∷ rest) l =
    inr (member-append_left (extensions more (prefix ++ true ∷ [])) (extensions more (prefix ++ false ∷ [])) (prefix ++ true ∷ rest)
    (subst (Member (extensions more (prefix ++ true ∷ []))) (append_assoc prefix (true ∷ []) rest) (begun_member more (prefix ++ true ∷ []) rest (omega arith))))
begun_member (suc more) prefix (false ∷ rest) l =
    inr (member-append_right (extensions more (prefix ++ true ∷ [])) (extensions more (prefix ++ false ∷ [])) (prefix ++ false ∷ rest)
    (subst (Member (extensions more (prefix ++ false ∷ []))) (append_assoc prefix (false ∷ []) rest) (begun_member more (prefix ++ false ∷ []) rest (omega arith))))

-- what holds of whatever begins with a prefix and is longer holds of each longer extension
each_longer : (P : List Bool → Type 0) (more : ℕ) (prefix : List Bool) → ((value : Bool) (rest : List Bool) → P (prefix ++ value ∷ rest))
    → Each P (drop 1 (extensions more prefix))
each_longer P zero prefix h = tt
each_longer P (suc more) prefix h =
    let below = λ (value : Bool). each_extension P more (prefix ++ value ∷ []) (λ rest. subst P (sym (append_assoc prefix (value ∷ []) rest)) (h value rest)) in
    each-append P (extensions more (prefix ++ true ∷ [])) (extensions more (prefix ++ false ∷ [])) (below true) (below false)

module _ (live : PrefixTest) (n : ℕ) (closed : (prefix rest : List Bool) → IsTrue (live (prefix ++ rest)) → IsTrue (live prefix))
    (short : (prefix : List Bool) → IsTrue (live prefix) → length prefix ≤ n) where
  -- a live prefix is one of those that begin with what it begins with
  live_member : (prefix rest : List Bool) → IsTrue (live (prefix ++ rest)) → Member (live_from live n prefix) (prefix ++ rest)
  live_member prefix rest lives =
      let within = short (prefix ++ rest) lives in
      member-filter live (extensions (n - length prefix) prefix) (prefix ++ rest)
      (begun_member (n - length prefix) prefix rest (omega (arith, within, length-append prefix rest))) lives

  -- those below a side, if it is live
  below_side : (prefix : List Bool) (full : Bool) → flat_map (live_from live n) (live_side live prefix full) ≡ live_from live n (prefix ++ full ∷ [])
  below_side prefix full = at (live (prefix ++ full ∷ [])) refl
    where
      at : (t : Bool) → live (prefix ++ full ∷ []) ≡ t → flat_map (live_from live n) (live_side live prefix full) ≡ live_from live n (prefix ++ full ∷ [])
      at true e = rw e (append-nil (live_from live n (prefix ++ full ∷ [])))
      at false e = rw (e, live_from_none live n (prefix ++ full ∷ []) e closed) refl

  -- those below two lists of prefixes
  below_both : (xs ys : List (List Bool)) → flat_map (live_from live n) (xs ++ ys) ≡ flat_map (live_from live n) xs ++ flat_map (live_from live n) ys
  below_both = flat_map-append (live_from live n)

  -- the later ones are those below what is beside the prefix
  after_besides : (piece values : List Bool) → after live n piece values ≡ flat_map (live_from live n) (live_besides live piece values)
  after_besides piece [] = refl
  after_besides piece (true ∷ values) =
      ap₂ ◌++◌ (after_besides (piece ++ true ∷ []) values) (sym (below_side piece false))
      ∙ sym (below_both (live_besides live (piece ++ true ∷ []) values) (live_side live piece false))
  after_besides piece (false ∷ values) = after_besides (piece ++ false ∷ []) values

  -- the longer ones are those below the sides
  longer_sides : (prefix : List Bool) → IsTrue (live prefix) → drop 1 (live_from live n prefix) ≡ flat_map (live_from live n) (live_sides live prefix)
  longer_sides prefix lives = by (cases_lt (length prefix) n) ∙ sym sides
    where
      side : Bool → List (List Bool)
      side full = live_from live n (prefix ++ full ∷ [])

      sides : flat_map (live_from live n) (live_sides live prefix) ≡ side true ++ side false
      sides = below_both (live_side live prefix true) (live_side live prefix false) ∙ ap₂ ◌++◌ (below_side prefix true) (below_side prefix false)

      dead : n ≤ length prefix → (full : Bool) → side full ≡ []
      dead whole full = live_from_none live n (prefix ++ full ∷ [])
          (false_from_ne_true (live (prefix ++ full ∷ [])) (λ e. omega (arith, short (prefix ++ full ∷ []) e, length-append prefix (full ∷ []), whole))) closed

      by : (length prefix < n) ⊎ (n ≤ length prefix) → drop 1 (live_from live n prefix) ≡ side true ++ side false
      by (inl more) = ap (drop 1) (live_from_more live n prefix lives more)
      by (inr whole) = ap (drop 1) (live_from_whole live n prefix lives (omega (arith, short prefix lives, whole)))
          ∙ ap₂ ◌++◌ (sym (dead whole true)) (sym (dead whole false))

  -- what is left where a walk stands
  abbrev pub left_at : ℕ → List Bool → List (List Bool)
  left_at floor prefix = live_sides live prefix ++ besides live floor prefix

  coming_left : (floor : ℕ) (prefix : List Bool) → IsTrue (live prefix) → coming live n floor prefix ≡ flat_map (live_from live n) (left_at floor prefix)
  coming_left floor prefix lives =
      ap₂ ◌++◌ (longer_sides prefix lives) (after_besides (take floor prefix) (drop floor prefix))
      ∙ sym (below_both (live_sides live prefix) (besides live floor prefix))

  -- ---- a test that passes some prefixes and none that begin with them and are longer

  module _ (next : PrefixTest) where
    record Stops (root : List Bool) : Type 0 where
      lives : IsTrue (live root)
      passes : IsTrue (next root)
      alone : (value : Bool) (rest : List Bool) → next (root ++ value ∷ rest) ≡ false

    -- of those that begin with one of them it keeps that alone
    only_root : (root : List Bool) → Stops root → filter next (live_from live n root) ≡ root ∷ []
    only_root root stops =
        ap (filter next) (live_from_head live n root stops.lives) ∙ rw (stops.passes, filter_none next (drop 1 (live_from live n root)) none) refl
      where
        tail : (more : ℕ) → drop 1 (filter live (extensions more root)) ≡ filter live (drop 1 (extensions more root))
        tail zero = rw stops.lives refl
        tail (suc more) = rw stops.lives refl

        none : Each (λ x. next x ≡ false) (drop 1 (live_from live n root))
        none = subst (Each (λ x. next x ≡ false)) (sym (tail (n - length root)))
            (each-filter live (λ x. next x ≡ false) (drop 1 (extensions (n - length root) root)) (each_longer (λ x. next x ≡ false) (n - length root) root stops.alone))

    -- so it keeps them all
    only_roots : (roots : List (List Bool)) → Each Stops roots → filter next (flat_map (live_from live n) roots) ≡ roots
    only_roots [] h = refl
    only_roots (root ∷ roots) h =
        filter-append next (live_from live n root) (flat_map (live_from live n) roots) ∙ ap₂ ◌++◌ (only_root root h.0) (only_roots roots h.1)

  -- ---- beside a prefix

  -- it is the empty side of what the prefix begins with, where the prefix has the full one
  record IsBeside (piece prefix root : List Bool) : Type 0 where
    front : List Bool
    rest : List Bool
    is : root ≡ (piece ++ front) ++ false ∷ []
    path : prefix ≡ (piece ++ front) ++ true ∷ rest
    lives : IsTrue (live root)

  -- with a value of the piece taken off it
  beside_shorter : (piece prefix root : List Bool) (value : Bool) → IsBeside (piece ++ value ∷ []) prefix root → IsBeside piece prefix root
  beside_shorter piece prefix root value b = record {
    front = value ∷ b.front;
    rest = b.rest;
    is = b.is ∙ ap (λ p. p ++ false ∷ []) (append_assoc piece (value ∷ []) b.front);
    path = b.path ∙ ap (λ p. p ++ true ∷ b.rest) (append_assoc piece (value ∷ []) b.front);
    lives = b.lives;
  }

  -- what a live side is
  each_side : (P : List Bool → Type 0) (prefix : List Bool) (full : Bool) → (IsTrue (live (prefix ++ full ∷ [])) → P (prefix ++ full ∷ [])) → Each P (live_side live prefix full)
  each_side P prefix full h = at (live (prefix ++ full ∷ [])) refl
    where
      at : (t : Bool) → live (prefix ++ full ∷ []) ≡ t → Each P (cond t ((prefix ++ full ∷ []) ∷ []) [])
      at true e = (h e, tt)
      at false e = tt

  each_beside : (piece values prefix : List Bool) → prefix ≡ piece ++ values → Each (IsBeside piece prefix) (live_besides live piece values)
  each_beside piece [] prefix e = tt
  each_beside piece (true ∷ values) prefix e =
      each-append (IsBeside piece prefix) (live_besides live (piece ++ true ∷ []) values) (live_side live piece false)
      (each-weaker (IsBeside (piece ++ true ∷ []) prefix) (IsBeside piece prefix) (live_besides live (piece ++ true ∷ []) values)
      (λ root b. beside_shorter piece prefix root true b) (each_beside (piece ++ true ∷ []) values prefix (e ∙ sym (append_assoc piece (true ∷ []) values))))
      (each_side (IsBeside piece prefix) piece false (λ lives. record {
        front = [];
        rest = values;
        is = ap (λ p. p ++ false ∷ []) (sym (append-nil piece));
        path = e ∙ ap (λ p. p ++ true ∷ values) (sym (append-nil piece));
        lives = lives;
      }))
  each_beside piece (false ∷ values) prefix e =
      each-weaker (IsBeside (piece ++ false ∷ []) prefix) (IsBeside piece prefix) (live_besides live (piece ++ false ∷ []) values)
      (λ root b. beside_shorter piece prefix root false b) (each_beside (piece ++ false ∷ []) values prefix (e ∙ sym (append_assoc piece (false ∷ []) values)))

  -- ---- what is left of a piece is its rest

  module _ (piece : List Bool) (quantum : ℕ) (prefix : List Bool) (stands : StandsAtLast live n piece quantum prefix) where
    abbrev opened : List (List Bool)
    opened = opened_of live n piece quantum

    abbrev behind : List (List Bool)
    behind = drop quantum (live_from live n piece)

    abbrev roots : List (List Bool)
    roots = left_at (length piece) prefix

    -- what is opened comes before what is behind
    opened_before : (x y : List Bool) → Member opened x → Member behind y → Before x y
    opened_before x y k l =
        let across = ascends-append_across Before opened behind (subst (Ascends Before) (sym (take-append-drop quantum (live_from live n piece))) (ascending_tree live n piece)) in
        each-at (Before x) behind y (each-at (λ z. Each (Before z) behind) opened x across k) l

    -- it is live, and begins with the piece
    opened_in : (x : List Bool) → Member opened x → BeginsWith piece x × IsTrue (live x)
    opened_in x k = each-at (λ p. BeginsWith piece p × IsTrue (live p)) (live_from live n piece) x (live_from_begins live n piece)
        (subst (λ xs. Member xs x) (take-append-drop quantum (live_from live n piece)) (member-append_left opened behind x k))

    prefix_opened : Member opened prefix
    prefix_opened = subst (λ xs. Member xs prefix) (sym stands.last.1) (member-push_last stands.last.0 prefix)

    -- what is behind are those below the roots
    behind_roots : behind ≡ flat_map (live_from live n) roots
    behind_roots = stands.left ∙ coming_left (length piece) prefix stands.lives

    -- nothing that is opened begins with a root
    not_opened : (root rest : List Bool) → Member roots root → Member opened (root ++ rest) → ⊥
    not_opened root rest listed k =
        let there = member-flat_map (live_from live n) roots root (root ++ rest) listed (live_member root rest (opened_in (root ++ rest) k).1) in
        not_itself (root ++ rest) (opened_before (root ++ rest) (root ++ rest) k (subst (λ xs. Member xs (root ++ rest)) (sym behind_roots) there))

    -- a root is next to what is opened, and nothing that begins with it and is longer is
    root_stops : (root : List Bool) → Member roots root → IsTrue (live root) → (parent : List Bool) (value : Bool) → Member opened parent → root ≡ parent ++ value ∷ []
        → Stops (is_next_to opened) root
    root_stops root listed lives parent value k e = record {
      lives = lives;
      passes = subst (λ x. IsTrue (is_next_to opened x)) (sym e) (next_there opened parent value k);
      alone = λ more rest. false_from_ne_true (is_next_to opened (root ++ more ∷ rest)) (λ h.
          let (front, last, f) = last_of more rest in
          let same : root ++ more ∷ rest ≡ (root ++ front) ++ last ∷ [] = ap (λ l. root ++ l) f ∙ sym (append_assoc root front (last ∷ [])) in
          not_opened root front listed (next_of opened (root ++ front) last (subst (λ x. IsTrue (is_next_to opened x)) same h)));
    }

    -- what the prefix begins with, from the piece on, is opened
    begun_opened : (front rest : List Bool) → prefix ≡ (piece ++ front) ++ true ∷ rest → Member opened (piece ++ front)
    begun_opened front rest path =
        let begun = piece ++ front in
        let lives : IsTrue (live begun) = closed begun (true ∷ rest) (subst (λ x. IsTrue (live x)) path stands.lives) in
        let first : Before begun prefix = subst (Before begun) (sym path) (before_longer begun rest true) in
        let listed = subst (λ xs. Member xs begun) (sym (take-append-drop quantum (live_from live n piece))) (live_member piece front lives) in
        ⊎_elim {C = Member opened begun} (λ k. k) (λ k. absurd (one_way begun prefix first (opened_before prefix begun prefix_opened k))) (member-append opened behind begun listed)

    -- the roots
    side_stops : (root : List Bool) → Member (live_sides live prefix) root → Stops (is_next_to opened) root
    side_stops root k =
        let P = λ (r : List Bool). IsTrue (live r) × ((value : Bool) × (r ≡ prefix ++ value ∷ [])) in
        let side = λ (full : Bool). each_side P prefix full (λ lives. (lives, (full, refl))) in
        let (lives, (value, e)) = each-at P (live_sides live prefix) root (each-append P (live_side live prefix true) (live_side live prefix false) (side true) (side false)) k in
        root_stops root (member-append_left (live_sides live prefix) (besides live (length piece) prefix) root k) lives prefix value prefix_opened e

    same_values : take (length piece) prefix ≡ piece
    same_values = let (values, e) = (opened_in prefix prefix_opened).0 in ap (take (length piece)) e ∙ take_at piece values (length piece) refl

    beside_stops : (root : List Bool) → Member (besides live (length piece) prefix) root → Stops (is_next_to opened) root
    beside_stops root k =
        let floor = length piece in
        let all = each_beside (take floor prefix) (drop floor prefix) prefix (sym (take-append-drop floor prefix)) in
        let b = subst (λ p. IsBeside p prefix root) same_values (each-at (IsBeside (take floor prefix) prefix) (besides live floor prefix) root all k) in
        root_stops root (member-append_right (live_sides live prefix) (besides live floor prefix) root k) b.lives (piece ++ b.front) false
        (begun_opened b.front b.rest b.path) b.is

    -- they are the rest
    pub rest_roots : rest_of live n piece quantum ≡ roots
    rest_roots =
        ap (filter (is_next_to opened)) behind_roots
        ∙ only_roots (is_next_to opened) roots (each-from (Stops (is_next_to opened)) roots (λ root k.
        ⊎_elim {C = Stops (is_next_to opened) root} (side_stops root) (beside_stops root)
        (member-append (live_sides live prefix) (besides live (length piece) prefix) root k)))
