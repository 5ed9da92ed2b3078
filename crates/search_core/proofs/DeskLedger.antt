-- The ledger of a desk: at the beginning, before a report and after it.
use Rattle.std.proofs.Common.{◌≡◌, inl, inr, ℕ, ◌+◌, ◌<◌, ◌≤◌, Bool, true, false, List, [], ◌∷◌, ◌++◌, Some, None, map, length, take, drop, get_or, refl, sym, ◌∙◌, ap, ap₂, subst, arith}
use Rattle.std.proofs.lemmas.Bool.{cases_lt, ltb-false}
use Rattle.std.proofs.lemmas.List.{length-append, take-append-le, take-append-drop, take_all, length-take-le, drop-append-le, drop_more, map-append, get_or_append_left}
use Rattle.std.proofs.lemmas.List.Sorted.{IsPermutation-refl}
use Rattle.std.specs.Option.{is_some}
use Rattle.std.specs.Prelude.{Option, if◌then◌else◌, nat_lt}
use Rattle.solid_model.specs.declared.ended.EndKind.{EndKind}
use Rattle.solid_model.specs.declared.ended.EndKind.TheVariants.{Whole, CutNodes, CutSolids}
use Rattle.solid_model.specs.Blocks.{ProblemParts}
use Rattle.solid_model.specs.Forcing.{is_live}
use Rattle.lemmas.specs.Lists.{Member, Each}
use Rattle.solid_model.specs.Reports.{Report, IsReport}
use Rattle.solid_model.specs.Search.{SearchLimits}
use Rattle.solid_model.specs.Tree.{IsAllowed}
use Rattle.lemmas.proofs.Lists.{each-append, each-push, each-weaker}
use Rattle.lemmas.specs.Counts.{times_listed, times_among}
use Rattle.search_core.specs.declared.note.Note.{Note}
use Rattle.search_core.specs.Ledger.{LedgerParts, history_of, desk_of, IsBegun, HasGrown, HasPosted, IsLedger, KeepsFrontier, IsLedgerOf}
use Rattle.search_core.specs.Core.{Core, Event, IsCoreRun, without, core_start, end_at, end_after, after_event}
use Rattle.search_core.specs.Desk.{desk_state, event_of, pieces_put, IsDesk, IsFirstPiece, IsTaken}
use Rattle.search_core.specs.Notes.{told, AreShared}
use Rattle.prefix_tree.specs.Places.{prefix_at, StandsAt, AreDistinct}
use Rattle.search_core.specs.Frontier.{count_of, IsFirstPut}
use Rattle.search_core.proofs.KeptFrontiers.{frontier-posted, frontier-grown, frontier-begun, counted-member, member-counted, left-among}
use Rattle.prefix_tree.proofs.Stored.{stands-grown}
use Rattle.search_core.proofs.Told.{after-push, run-push, each-drop, rests-told, told-grown, told-push, shared-push}

-- ---- before a report

module _ (b after : LedgerParts) (g : HasGrown b after) (h : IsLedger b) where
  -- they tell the same
  pub history-grown : history_of after ≡ history_of b
  history-grown =
      ap₂ (λ (notes : List Note) (found : List (List Bool)). told after.stored notes found (drop 1 after.put)) g.notes g.found
      ∙ ap₂ (λ (stored : List (List Bool)) (put : List ℕ). told stored b.notes b.found (drop 1 put)) g.grown.1 g.put
      ∙ told-grown b.stored g.grown.0 b.notes b.found (drop 1 b.put) h.pieces (each-drop (λ k. k < length b.stored) 1 b.put h.put)

  longer : length b.stored ≤ length after.stored
  longer = let e = ap length g.grown.1 in omega (arith, length-append b.stored g.grown.0)

  root_stored : get_or b.put 0 0 < length b.stored
  root_stored = (subst (Each (λ k. k < length b.stored)) (drop_more b.put 0 0 h.begun) h.put).0

  -- and are in order
  ledger-grown : IsLedger after
  ledger-grown = record {
    distinct = g.distinct;
    begun = subst (λ (put : List ℕ). 0 < length put) (sym g.put) h.begun;
    root = ap₂ (λ (stored : List (List Bool)) (put : List ℕ). prefix_at stored (get_or put 0 0)) g.grown.1 g.put ∙ get_or_append_left b.stored g.grown.0 [] (get_or b.put 0 0) root_stored ∙ h.root;
    put = subst (Each (λ k. k < length after.stored)) (sym g.put) (each-weaker (λ k. k < length b.stored) (λ k. k < length after.stored) b.put (λ k l. omega (arith, longer)) h.put);
    pieces = subst (Each (λ (x : Note). x.piece < length after.stored)) (sym g.notes)
        (each-weaker (λ (x : Note). x.piece < length b.stored) (λ (x : Note). x.piece < length after.stored) b.notes (λ x l. omega (arith, longer)) h.pieces);
    shared = subst (λ (notes : List Note). AreShared notes after.found (drop 1 after.put)) (sym g.notes)
        (subst (λ (found : List (List Bool)). AreShared b.notes found (drop 1 after.put)) (sym g.found) (subst (λ (put : List ℕ). AreShared b.notes b.found (drop 1 put)) (sym g.put) h.shared));
  }

-- a desk's ledger stays that of the desk
pub desk-grown : (p : ProblemParts) (limits : SearchLimits) (b after : LedgerParts) (opened : ℕ) (end : Option EndKind) → HasGrown b after → IsLedgerOf p limits b opened end
    → IsLedgerOf p limits after opened end
desk-grown p limits b after opened end g h =
    let same = history-grown b after g h.ledger in
    record {
      ledger = ledger-grown b after g h.ledger;
      run = subst (IsCoreRun (is_live p) p.blocks.count limits (core_start (is_live p))) (sym same) h.run;
      frontier = subst (λ (es : List Event). KeepsFrontier after.stored after.counts (desk_state p limits es).frontier) (sym same)
          (subst (λ (stored : List (List Bool)). KeepsFrontier stored after.counts (desk_state p limits (history_of b)).frontier) (sym g.grown.1)
          (frontier-grown b.stored g.grown.0 b.counts after.counts (desk_state p limits (history_of b)).frontier (subst AreDistinct g.grown.1 g.distinct) g.counts h.frontier));
      found = ap (λ (es : List Event). (desk_state p limits es).found) same ∙ h.found ∙ ap (take limits.solids) (sym g.found);
      opened = h.opened ∙ ap (λ (es : List Event). (desk_state p limits es).opened) (sym same);
      end = h.end ∙ ap (λ (es : List Event). (desk_state p limits es).end) (sym same);
      few_found = λ e. subst (λ (found : List (List Bool)). length found ≤ limits.solids) (sym g.found) (h.few_found e);
      few_opened = h.few_opened;
    }

-- ---- a report

-- the first ones of the first ones and others, where all of the first are first
take-first : {A : Type 0} (n : ℕ) (xs ys : List A) → take n (take n xs ++ ys) ≡ take n (xs ++ ys)
take-first n xs ys = elim (cases_lt n (length xs)) as (λ _. take n (take n xs ++ ys) ≡ take n (xs ++ ys)) [
  | inl l ↦ (let few : length (take n xs) ≡ n = length-take-le n xs (omega arith) in
      take-append-le n (take n xs) ys (omega arith) ∙ take_all n (take n xs) (omega arith) ∙ sym (take-append-le n xs ys (omega arith)))
  | inr m ↦ ap (λ (zs : List _). take n (zs ++ ys)) (take_all n xs m)
]

-- what an end that has not come tells of both limits
no-end : (limits : SearchLimits) (found opened : ℕ) (frontier : List (List Bool)) → end_after limits found opened frontier ≡ None → (found ≤ limits.solids) × (opened ≤ limits.nodes)
no-end limits found opened frontier e = at (nat_lt limits.solids found) (nat_lt limits.nodes opened) refl refl e
  where
    at : (t u : Bool) → nat_lt limits.solids found ≡ t → nat_lt limits.nodes opened ≡ u → (if t then Some CutSolids else (if u then Some CutNodes else end_at frontier)) ≡ None
        → (found ≤ limits.solids) × (opened ≤ limits.nodes)
    at true u f g cut = absurd (let other : ⊥ = cc in other)
    at false true f g cut = absurd (let other : ⊥ = cc in other)
    at false false f g open_ = (ltb-false limits.solids found f, ltb-false limits.nodes opened g)

module _ (p : ProblemParts) (limits : SearchLimits) (b after : LedgerParts) (opened : ℕ) (end : Option EndKind) (h : IsLedgerOf p limits b opened end) where
  abbrev state : Core
  state = desk_state p limits (history_of b)

  module _ (piece more : ℕ) (choices rest : List (List Bool)) (places : List ℕ) (e : HasPosted b after piece more choices places) (going : end ≡ None)
      (there : 0 < count_of b.counts piece) (inside : piece < length b.stored) (below : Each (λ k. k < length b.stored) places)
      (named : map (prefix_at b.stored) places ≡ rest) where
    -- the event
    abbrev event : Event
    event = record { piece = prefix_at b.stored piece; opened = more; found = choices; rest = rest }

    -- it stands behind the history
    pub history-entered : history_of after ≡ history_of b ++ event ∷ []
    history-entered =
        let note : Note = record { piece = piece; opened = more; found = length choices; rest = length places } in
        ap₂ (λ (stored : List (List Bool)) (put : List ℕ). told stored after.notes after.found (drop 1 put)) e.stored e.put
        ∙ ap₂ (λ (notes : List Note) (found : List (List Bool)). told b.stored notes found (drop 1 (b.put ++ places))) e.notes e.found
        ∙ ap (λ (rests : List ℕ). told b.stored (b.notes ++ note ∷ []) (b.found ++ choices) rests) (drop-append-le 1 b.put places h.ledger.begun)
        ∙ told-push b.stored note choices places refl refl b.notes b.found (drop 1 b.put) h.ledger.shared
        ∙ ap (λ (r : List (List Bool)). history_of b ++ record { piece = prefix_at b.stored piece; opened = more; found = choices; rest = r } ∷ []) named

    -- the ledger is in order
    ledger-entered : IsLedger after
    ledger-entered =
        let note : Note = record { piece = piece; opened = more; found = length choices; rest = length places } in
        record {
          distinct = subst AreDistinct (sym e.stored) h.ledger.distinct;
          root = ap₂ (λ (stored : List (List Bool)) (put : List ℕ). prefix_at stored (get_or put 0 0)) e.stored e.put
              ∙ ap (prefix_at b.stored) (get_or_append_left b.put places 0 0 h.ledger.begun) ∙ h.ledger.root;
          begun = subst (λ (put : List ℕ). 0 < length put) (sym e.put) (let l = h.ledger.begun in omega (arith, length-append b.put places));
          put = subst (λ (stored : List (List Bool)). Each (λ k. k < length stored) after.put) (sym e.stored)
              (subst (Each (λ k. k < length b.stored)) (sym e.put) (each-append (λ k. k < length b.stored) b.put places h.ledger.put below));
          pieces = subst (λ (stored : List (List Bool)). Each (λ (x : Note). x.piece < length stored) after.notes) (sym e.stored)
              (subst (Each (λ (x : Note). x.piece < length b.stored)) (sym e.notes) (each-push (λ (x : Note). x.piece < length b.stored) b.notes note h.ledger.pieces inside));
          shared = subst (λ (put : List ℕ). AreShared after.notes after.found (drop 1 put)) (sym e.put)
              (subst (λ (found : List (List Bool)). AreShared after.notes found (drop 1 (b.put ++ places))) (sym e.found)
              (subst (λ (notes : List Note). AreShared notes (b.found ++ choices) (drop 1 (b.put ++ places))) (sym e.notes)
              (subst (AreShared (b.notes ++ note ∷ []) (b.found ++ choices)) (sym (drop-append-le 1 b.put places h.ledger.begun))
              (shared-push b.stored note choices places refl refl b.notes b.found (drop 1 b.put) h.ledger.shared))));
        }

    -- the state after the event
    pub state-entered : desk_state p limits (history_of after) ≡ after_event limits state event
    state-entered = ap (desk_state p limits) history-entered ∙ after-push limits (core_start (is_live p)) (history_of b) event

    -- the frontier after the event is kept
    pub keeps-entered : Member state.frontier (prefix_at b.stored piece) → KeepsFrontier after.stored after.counts (after_event limits state event).frontier
    keeps-entered member =
        subst (λ (stored : List (List Bool)). KeepsFrontier stored after.counts (after_event limits state event).frontier) (sym e.stored)
        (subst (λ (r : List (List Bool)). KeepsFrontier b.stored after.counts (without (prefix_at b.stored piece) state.frontier ++ r)) named
        (frontier-posted b.stored h.ledger.distinct b.counts after.counts state.frontier piece places inside there below e.counts member h.frontier))

    -- so many were found, whether there is room for them or not
    found-entered : length state.found + length choices ≡ length after.found
    found-entered =
        let all : take limits.solids b.found ≡ b.found = take_all limits.solids b.found (h.few_found going) in
        let one = ap length (h.found ∙ all) in
        let two = ap length e.found in
        omega (arith, length-append b.found choices)

    -- The ledger after it is that of the desk. Its end is what the search comes to with its frontier.
    pub desk-entered : (kind : Option EndKind) → Member state.frontier (prefix_at b.stored piece) → IsAllowed (is_live p) p.blocks.count (prefix_at b.stored piece) more choices rest
        → (KeepsFrontier after.stored after.counts (after_event limits state event).frontier → kind ≡ end_after limits (length after.found) (opened + more) (after_event limits state event).frontier)
        → IsLedgerOf p limits after (opened + more) kind
    desk-entered kind member allowed ends =
        let keeps = keeps-entered member in
        let is : kind ≡ end_after limits (length after.found) (opened + more) (after_event limits state event).frontier = ends keeps in
        let limited = λ (f : kind ≡ None). no-end limits (length after.found) (opened + more) (after_event limits state event).frontier (sym is ∙ f) in
        record {
          ledger = ledger-entered;
          run = subst (IsCoreRun (is_live p) p.blocks.count limits (core_start (is_live p))) (sym history-entered)
              (run-push (is_live p) p.blocks.count limits (core_start (is_live p)) (history_of b) event h.run (record { going = sym h.end ∙ going; in_frontier = member; allowed = allowed }));
          frontier = subst (λ (c : Core). KeepsFrontier after.stored after.counts c.frontier) (sym state-entered) keeps;
          found = ap (λ (c : Core). c.found) state-entered ∙ ap (λ (found : List (List Bool)). take limits.solids (found ++ choices)) h.found
              ∙ take-first limits.solids b.found choices ∙ ap (take limits.solids) (sym e.found);
          opened = ap (λ (n : ℕ). n + more) h.opened ∙ ap (λ (c : Core). c.opened) (sym state-entered);
          end = is ∙ ap₂ (λ (found opened : ℕ). end_after limits found opened (after_event limits state event).frontier) (sym found-entered) (ap (λ (n : ℕ). n + more) h.opened)
              ∙ ap (λ (c : Core). c.end) (sym state-entered);
          few_found = λ f. (limited f).0;
          few_opened = λ f. (limited f).1;
        }

-- ---- the beginning

module _ (p : ProblemParts) (limits : SearchLimits) (b : LedgerParts) (live : Bool) (begun : IsBegun b live) (is : live ≡ is_live p []) where
  -- nothing has happened
  pub history-begun : history_of b ≡ []
  history-begun = ap (λ (notes : List Note). told b.stored notes b.found (drop 1 b.put)) begun.notes

  -- the ledger is in order
  ledger-begun : IsLedger b
  ledger-begun = record {
    distinct = begun.distinct;
    begun = subst (λ (put : List ℕ). 0 < length put) (sym begun.put) (omega arith);
    root = ap (λ (put : List ℕ). prefix_at b.stored (get_or put 0 0)) begun.put ∙ begun.stands.there;
    put = subst (Each (λ k. k < length b.stored)) (sym begun.put) (begun.stands.below, tt);
    pieces = subst (Each (λ (x : Note). x.piece < length b.stored)) (sym begun.notes) tt;
    shared = subst (λ (notes : List Note). AreShared notes b.found (drop 1 b.put)) (sym begun.notes)
        (begun.found, ap (drop 1) begun.put);
  }

  -- and those of the desk, where the search begins like this
  begins_so : (end : Option EndKind) (c : Core) → core_start (is_live p) ≡ c → KeepsFrontier b.stored b.counts c.frontier → c.found ≡ [] → c.opened ≡ 0 → end ≡ c.end
      → IsLedgerOf p limits b 0 end
  begins_so end c start keeps none zero_opened ended =
      let state : desk_state p limits (history_of b) ≡ c = ap (desk_state p limits) history-begun ∙ start in
      record {
        ledger = ledger-begun;
        run = subst (IsCoreRun (is_live p) p.blocks.count limits (core_start (is_live p))) (sym history-begun) tt;
        frontier = subst (λ (d : Core). KeepsFrontier b.stored b.counts d.frontier) (sym state) keeps;
        found = ap (λ (d : Core). d.found) state ∙ none ∙ sym (ap (take limits.solids) begun.found ∙ take_all limits.solids [] (omega arith));
        opened = sym (ap (λ (d : Core). d.opened) state ∙ zero_opened);
        end = ended ∙ sym (ap (λ (d : Core). d.end) state);
        few_found = λ e. let short = ap length begun.found in omega arith;
        few_opened = λ e. omega arith;
      }

  -- they are those of the desk that begins
  pub desk-begun : (end : Option EndKind) → end ≡ (if live then None else Some Whole) → IsLedgerOf p limits b 0 end
  desk-begun end e = at live refl
    where
      frontier_at : (t : Bool) → live ≡ t → KeepsFrontier b.stored b.counts (if t then [] ∷ [] else [])
      frontier_at t f = frontier-begun b.stored b.counts begun.root t begun.distinct begun.stands (λ k. begun.counts k ∙ ap (λ (u : Bool). if u then times_listed k (begun.root ∷ []) else 0) f)

      start_at : (t : Bool) → live ≡ t → core_start (is_live p) ≡ (if t then record { frontier = [] ∷ []; found = []; opened = 0; end = None } else record { frontier = []; found = []; opened = 0; end = Some Whole })
      start_at t f = ap (λ (u : Bool). if u then record { frontier = [] ∷ []; found = []; opened = 0; end = None } else record { frontier = []; found = []; opened = 0; end = Some Whole }) (sym is ∙ f)

      end_at_live : (t : Bool) → live ≡ t → end ≡ (if t then None else Some Whole)
      end_at_live t f = e ∙ ap (λ (u : Bool). if u then None else Some Whole) f

      at : (t : Bool) → live ≡ t → IsLedgerOf p limits b 0 end
      at true f = begins_so end (record { frontier = [] ∷ []; found = []; opened = 0; end = None }) (start_at true f) (frontier_at true f) refl refl (end_at_live true f)
      at false f = begins_so end (record { frontier = []; found = []; opened = 0; end = Some Whole }) (start_at false f) (frontier_at false f) refl refl (end_at_live false f)

-- ---- the desk

-- the desk that the ledger tells of stands as its history leaves it
pub desk-is : (p : ProblemParts) (limits : SearchLimits) (b : LedgerParts) (opened : ℕ) (end : Option EndKind) → IsLedgerOf p limits b opened end → IsDesk (desk_of p limits (history_of b))
desk-is p limits b opened end h = record {
  run = h.run;
  frontier = IsPermutation-refl (desk_state p limits (history_of b)).frontier;
  found = refl;
  opened = refl;
  end = refl;
}

-- a piece that has no place which is counted is not in the frontier
pub desk-gone : (p : ProblemParts) (limits : SearchLimits) (b : LedgerParts) (opened : ℕ) (end : Option EndKind) → IsLedgerOf p limits b opened end → (piece : List Bool)
    → ((k : ℕ) → StandsAt b.stored piece k → count_of b.counts k ≡ 0) → Member (desk_state p limits (history_of b)).frontier piece → ⊥
desk-gone p limits b opened end h piece none m =
    let w = member-counted b.stored b.counts (desk_state p limits (history_of b)).frontier h.frontier piece m in
    let e : count_of b.counts w.0 ≡ 0 = none w.0 w.1 in
    let l : 0 < count_of b.counts w.0 = w.2 in
    omega arith

-- a piece that has such a place is in the frontier
pub desk-counted : (p : ProblemParts) (limits : SearchLimits) (b : LedgerParts) (opened : ℕ) (end : Option EndKind) → IsLedgerOf p limits b opened end → (piece : List Bool) (k : ℕ)
    → StandsAt b.stored piece k → 0 < count_of b.counts k → Member (desk_state p limits (history_of b)).frontier piece
desk-counted p limits b opened end h piece k stands there =
    subst (Member (desk_state p limits (history_of b)).frontier) stands.there (counted-member b.stored b.counts (desk_state p limits (history_of b)).frontier h.frontier k there)

-- what is no value is none
pub none-from : {A : Type 0} (o : Option A) → is_some o ≡ false → o ≡ None
none-from None e = refl
none-from (Some x) e = absurd (let other : ⊥ = cc in other)

-- what becomes of a desk's ledger by a report
pub record AreReported (p : ProblemParts) (limits : SearchLimits) (b after : LedgerParts) (r : Report) (total : ℕ) (kind : Option EndKind) : Type 0 where
  pub ledger : IsLedgerOf p limits after total kind
  pub history : history_of after ≡ history_of b ++ event_of r ∷ []

-- The ledger is prepared for a report and it is posted, and the end is what the search comes to: then it is that of the desk.
pub desk-reported : (p : ProblemParts) (limits : SearchLimits) (b ready after : LedgerParts) (opened total more place : ℕ) (end kind : Option EndKind) (r : Report) (choices : List (List Bool)) (places : List ℕ)
    → IsLedgerOf p limits b opened end → r.problem ≡ p → end ≡ None → IsReport r → StandsAt b.stored r.piece place → 0 < count_of b.counts place
    → HasGrown b ready → choices ≡ r.found → map (prefix_at ready.stored) places ≡ r.rest → Each (λ k. k < length ready.stored) places
    → HasPosted ready after place more choices places → more ≡ r.opened → total ≡ opened + more
    → ((frontier : List (List Bool)) → KeepsFrontier after.stored after.counts frontier → kind ≡ end_after limits (length after.found) total frontier)
    → AreReported p limits b after r total kind
desk-reported p limits b ready after opened total more place end kind r choices places h same going allowed stands there grown found rest below entered count sum_is ends =
    let h1 = desk-grown p limits b ready opened end grown h in
    let s1 : StandsAt ready.stored r.piece place = subst (λ (stored : List (List Bool)). StandsAt stored r.piece place) (sym grown.grown.1) (stands-grown b.stored grown.grown.0 r.piece place stands) in
    let w1 : 0 < count_of ready.counts place = subst (λ (n : ℕ). 0 < n) (sym (grown.counts place)) there in
    let member : Member (desk_state p limits (history_of ready)).frontier (prefix_at ready.stored place) = counted-member ready.stored ready.counts (desk_state p limits (history_of ready)).frontier h1.frontier place w1 in
    let of_desk : IsAllowed (is_live p) p.blocks.count r.piece r.opened r.found r.rest = subst (λ (q : ProblemParts). IsAllowed (is_live q) q.blocks.count r.piece r.opened r.found r.rest) same allowed in
    let of_event : IsAllowed (is_live p) p.blocks.count (prefix_at ready.stored place) more choices r.rest =
    subst (λ (q : List Bool). IsAllowed (is_live p) p.blocks.count q more choices r.rest) (sym s1.there)
    (subst (λ (n : ℕ). IsAllowed (is_live p) p.blocks.count r.piece n choices r.rest) (sym count) (subst (λ (f : List (List Bool)). IsAllowed (is_live p) p.blocks.count r.piece r.opened f r.rest) (sym found) of_desk)) in
    let frontier : List (List Bool) = without (prefix_at ready.stored place) (desk_state p limits (history_of ready)).frontier ++ r.rest in
    record {
      ledger = subst (λ (n : ℕ). IsLedgerOf p limits after n kind) (sym sum_is)
          (desk-entered p limits ready after opened end h1 place more choices r.rest places entered going w1 s1.below below rest kind member of_event
          (λ keeps. subst (λ (n : ℕ). kind ≡ end_after limits (length after.found) n frontier) sum_is (ends frontier keeps)));
      history = history-entered p limits ready after opened end h1 place more choices r.rest places entered going w1 s1.below below rest
          ∙ ap₂ (λ (es : List Event) (e : Event). es ++ e ∷ []) (history-grown b ready grown h.ledger)
          (ap₂ (λ (q : List Bool) (n : ℕ). record { piece = q; opened = n; found = choices; rest = r.rest }) s1.there count
          ∙ ap (λ (f : List (List Bool)). record { piece = r.piece; opened = r.opened; found = f; rest = r.rest }) found);
    }

-- a report that is taken tells what was found and opened too
pub taken_on : (p : ProblemParts) (limits : SearchLimits) (before after : List Event) (r : Report) → after ≡ before ++ event_of r ∷ []
    → IsTaken (desk_of p limits before) r (desk_of p limits after)
taken_on p limits before after r history =
    let state = ap (desk_state p limits) history ∙ after-push limits (core_start (is_live p)) before (event_of r) in
    record {
      problem = refl;
      limits = refl;
      history = history;
      found = ap (λ (c : Core). c.found) state;
      opened = ap (λ (c : Core). c.opened) state;
    }

-- ---- the first piece

module _ (p : ProblemParts) (limits : SearchLimits) (b : LedgerParts) (opened : ℕ) (end : Option EndKind) (h : IsLedgerOf p limits b opened end) where
  -- the pieces that were put have the places that were put
  pieces-named : pieces_put (history_of b) ≡ map (prefix_at b.stored) b.put
  pieces-named =
      ap₂ ◌∷◌ (sym h.ledger.root) (rests-told b.stored b.notes b.found (drop 1 b.put) h.ledger.shared)
      ∙ sym (ap (map (prefix_at b.stored)) (drop_more b.put 0 0 h.ledger.begun))

  -- the place that was put first is that of the first piece
  pub first-piece : (place : ℕ) → IsFirstPut b.put b.counts place → IsFirstPiece (desk_of p limits (history_of b)) (prefix_at b.stored place)
  first-piece place first = record {
    stands = counted-member b.stored b.counts frontier h.frontier place first.counted;
    earlier = map (prefix_at b.stored) (take first.at b.put);
    later = map (prefix_at b.stored) (drop (first.at + 1) b.put);
    put = pieces-named ∙ sym (ap (map (prefix_at b.stored)) (take-append-drop first.at b.put)) ∙ map-append (prefix_at b.stored) (take first.at b.put) (drop first.at b.put)
        ∙ ap (λ (ps : List (List Bool)). map (prefix_at b.stored) (take first.at b.put) ++ ps) behind;
    left = λ q. subst (λ ps. times_among q frontier ≤ times_among q ps) behind
        (left-among b.stored b.counts frontier h.frontier h.ledger.distinct (drop first.at b.put) (each-drop (λ k. k < length b.stored) first.at b.put h.ledger.put) first.behind q);
  }
    where
      frontier : List (List Bool)
      frontier = (desk_state p limits (history_of b)).frontier

      behind : map (prefix_at b.stored) (drop first.at b.put) ≡ prefix_at b.stored place ∷ map (prefix_at b.stored) (drop (first.at + 1) b.put)
      behind = ap (map (prefix_at b.stored)) (drop_more b.put first.at 0 first.within) ∙ ap (λ k. prefix_at b.stored k ∷ map (prefix_at b.stored) (drop (first.at + 1) b.put)) (sym first.is)
