-- What every desk keeps: before its end it has a piece, each piece is live, and each report opens a prefix at least.
use Rattle.std.proofs.Common.{◌≡◌, Bool, true, false, ℕ, ◌<◌, ◌≤◌, ◌+◌, nat_lt, List, [], ◌∷◌, ◌++◌, length, None, Some, IsTrue, if◌then◌else◌, refl, sym, ◌∙◌, ap, subst, arith}
use Rattle.std.proofs.lemmas.List.{nil_from_length}
use Rattle.std.proofs.lemmas.List.Sorted.{length_permutation}
use Rattle.std.proofs.lemmas.Option.{none-some}
use Rattle.solid_model.specs.declared.ended.EndKind.TheVariants.{Whole, CutNodes, CutSolids}
use Rattle.solid_model.specs.Blocks.{ProblemParts}
use Rattle.solid_model.specs.Forcing.{is_live}
use Rattle.lemmas.specs.Lists.{Member, Each}
use Rattle.solid_model.specs.Reports.{Report}
use Rattle.solid_model.specs.Search.{SearchLimits}
use Rattle.solid_model.specs.Tree.{PrefixTest, live_count, IsClosed}
use Rattle.lemmas.proofs.Lists.{each-at, each-append}
use Rattle.search_core.specs.Conserves.{IsConserved}
use Rattle.search_core.specs.Core.{Core, Event, IsEvent, IsCoreRun, core_start, without, end_at, after_event, after_events}
use Rattle.search_core.specs.Desk.{DeskParts, IsDesk, IsTaken, desk_state, event_of}
use Rattle.search_core.proofs.CoreEvents.{conserved}
use Rattle.search_core.proofs.KeptFrontiers.{each-without}
use Rattle.lemmas.proofs.Permutations.{member-permutation}

-- where the search goes on after an event something is left to be expanded
some_left : (t u : Bool) (frontier : List (List Bool)) → (if t then Some CutSolids else (if u then Some CutNodes else end_at frontier)) ≡ None → frontier ≡ [] → ⊥
some_left true u frontier going none = none-some CutSolids (sym going)
some_left false true frontier going none = none-some CutNodes (sym going)
some_left false false [] going none = none-some Whole (sym going)
some_left false false (p ∷ ps) going none = omega (arith, ap length none)

module _ (live : PrefixTest) (n : ℕ) (limits : SearchLimits) where
  -- before the end something is left to be expanded, and all that is left is live
  record IsOpen (c : Core) : Type 0 where
    goes_on : c.end ≡ None → c.frontier ≡ [] → ⊥
    lives : Each (λ p. IsTrue (live p)) c.frontier

  open_at_start : (t : Bool) → live [] ≡ t → IsOpen (core_start live)
  open_at_start true e = rw e (record { goes_on = λ going none. omega (arith, ap length none); lives = (e, tt) })
  open_at_start false e = rw e (record { goes_on = λ going none. none-some Whole (sym going); lives = tt })

  open_after : (c : Core) (e : Event) → IsOpen c → IsEvent live n c e → IsOpen (after_event limits c e)
  open_after c e h event = record {
    goes_on = some_left (nat_lt limits.solids (length c.found + length e.found)) (nat_lt limits.nodes (c.opened + e.opened)) (without e.piece c.frontier ++ e.rest);
    lives = each-append (λ p. IsTrue (live p)) (without e.piece c.frontier) e.rest (each-without (λ p. IsTrue (live p)) e.piece c.frontier event.in_frontier h.lives) event.allowed.rest_live;
  }

  open_all : (es : List Event) (c : Core) → IsOpen c → IsCoreRun live n limits c es → IsOpen (after_events limits c es)
  open_all [] c h run = h
  open_all (e ∷ es) c h run = open_all es (after_event limits c e) (open_after c e h run.0) run.1

  -- the last event opens a prefix at least
  last_opens : (es : List Event) (c : Core) (e : Event) → IsCoreRun live n limits c (es ++ e ∷ []) → (after_events limits c es).opened < (after_events limits c (es ++ e ∷ [])).opened
  last_opens [] c e run = omega (arith, run.0.allowed.some)
  last_opens (x ∷ es) c e run = last_opens es (after_event limits c x) e run.1

module _ (d : DeskParts) (desk : IsDesk d) where
  abbrev state : Core
  state = desk_state d.problem d.limits d.history

  state_open : IsOpen (is_live d.problem) d.problem.blocks.count d.limits state
  state_open = open_all (is_live d.problem) d.problem.blocks.count d.limits d.history (core_start (is_live d.problem))
      (open_at_start (is_live d.problem) d.problem.blocks.count d.limits (is_live d.problem []) refl) desk.run

  -- before its end a desk has a piece
  pub piece_waits : d.end ≡ None → d.frontier ≡ [] → ⊥
  piece_waits going none =
      state_open.goes_on (sym desk.end ∙ going) (nil_from_length state.frontier (length_permutation _ _ desk.frontier ∙ ap length none))

  -- each piece is live
  pub piece_lives : (p : List Bool) → Member d.frontier p → IsTrue (is_live d.problem p)
  piece_lives p k = each-at (λ q. IsTrue (is_live d.problem q)) state.frontier p state_open.lives (member-permutation d.frontier state.frontier p desk.frontier k)

  module _ (closed : IsClosed (is_live d.problem)) where
    -- a desk keeps what every state of its search keeps
    pub desk_conserved : IsConserved (is_live d.problem) d.problem.blocks.count d.limits state
    desk_conserved = conserved (is_live d.problem) d.problem.blocks.count d.limits closed d.history desk.run

    -- no more prefixes are opened than are live
    pub few_opened : d.opened ≤ live_count (is_live d.problem) d.problem.blocks.count []
    few_opened = omega (arith, desk.opened, desk_conserved.opened)

-- what a desk for this problem and these limits with this history keeps
at_history : (p : ProblemParts) (limits : SearchLimits) (history : List Event) (d : DeskParts) → d.problem ≡ p → d.limits ≡ limits → d.history ≡ history → IsDesk d
    → IsCoreRun (is_live p) p.blocks.count limits (core_start (is_live p)) history × (d.opened ≡ (desk_state p limits history).opened)
at_history p limits history d same_problem same_limits same_history desk =
    subst (Keeps p limits) same_history (subst (λ l. Keeps p l d.history) same_limits (subst (λ q. Keeps q d.limits d.history) same_problem (desk.run, desk.opened)))
  where
    Keeps : ProblemParts → SearchLimits → List Event → Type 0
    Keeps q l h = IsCoreRun (is_live q) q.blocks.count l (core_start (is_live q)) h × (d.opened ≡ (desk_state q l h).opened)

-- a report that is taken opens a prefix at least
pub report_opens : (before after : DeskParts) (r : Report) → IsDesk before → IsDesk after → IsTaken before r after → before.opened < after.opened
report_opens before after r was is taken =
    let p = before.problem in
    let now = at_history p before.limits (before.history ++ event_of r ∷ []) after taken.problem taken.limits taken.history is in
    omega (arith, was.opened, now.1, last_opens (is_live p) p.blocks.count before.limits before.history (core_start (is_live p)) (event_of r) now.0)
