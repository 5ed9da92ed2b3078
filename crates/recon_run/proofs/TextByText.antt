-- How writings end, one after another.
use Rattle.std.proofs.Common.{inl, inr, ℕ, ◌≤◌, List, ◌++◌, length, Option, None, Some, Result, Ok, Err, ◌∙◌, arith}
use Rattle.std.proofs.Math.Seq.{take-length}
use Rattle.std.specs.Io.KnownBytes.{Appends, Keeps}
use Rattle.replies.specs.declared.status.Failure.{Failure}
use Rattle.replies.specs.declared.status.Failure.TheVariants.{ReadFault, WriteFault, Memory}
use Rattle.replies.specs.Writings.{EndsText, EndsWriting}
use Rattle.sink_pages.proofs.Gained.{prefix_after}
use Rattle.tv_base.proofs.Told.{appends_both}
use Rattle.tv_base.specs.Faults.{Rose}
use Rattle.tv_base.specs.Pieces.{AppendsPrefix}

-- ---- bytes

-- and a text is a prefix of itself, where nothing more is written
appends_kept : (held mid now : Option (List ℕ)) (first : List ℕ) → Appends held mid first → Keeps mid now → Appends held now first
appends_kept None mid now first appends keeps = tt
appends_kept (Some old) None now first appends keeps = absurd appends
appends_kept (Some old) (Some bytes) None first appends keeps = absurd keeps
appends_kept (Some old) (Some bytes) (Some new) first appends keeps = keeps ∙ appends

prefix_kept : (held mid now : Option (List ℕ)) (first : List ℕ) → Appends held mid first → Keeps mid now → AppendsPrefix held now first
prefix_kept held mid now first appends keeps =
    (length first, omega arith, rw (take-length first) (appends_kept held mid now first appends keeps))

-- ---- counts

-- what rose since, rose since before then
pub rose_since : (before mid now : ℕ) → before ≤ mid → Rose mid now → Rose before now
rose_since before mid now later (inl above) = inl (omega arith)
rose_since before mid now later (inr most) = inr most

-- ---- writings

-- a writing that was refused was so whatever it should have told
pub refused : (A B : Type 0) (tells begins : A → List ℕ → Type 0) (others starts : B → List ℕ → Type 0) (held now : Option (List ℕ)) (rose : Type 0)
    → ((a : A) (text : List ℕ) → begins a text → (b : B) × starts b text)
    → (failure : Failure) → EndsWriting tells begins held now rose (Err failure) → EndsWriting others starts held now rose (Err failure)
refused A B tells begins others starts held now rose weaker ReadFault ends = ends
refused A B tells begins others starts held now rose weaker WriteFault (rises, a, text, begun, prefix) =
    let (b, starts_it) = weaker a text begun in (rises, b, text, starts_it, prefix)
refused A B tells begins others starts held now rose weaker Memory (inl keeps) = inl keeps
refused A B tells begins others starts held now rose weaker Memory (inr (a, text, begun, prefix)) =
    let (b, starts_it) = weaker a text begun in inr (b, text, starts_it, prefix)

-- what is told by some texts is told by others too
pub writing_weaker : (A : Type 0) (tells begins others starts : A → List ℕ → Type 0) (held now : Option (List ℕ)) (rose : Type 0)
    → ((a : A) (text : List ℕ) → tells a text → others a text) → ((a : A) (text : List ℕ) → begins a text → starts a text)
    → (r : Result A Failure) → EndsWriting tells begins held now rose r → EndsWriting others starts held now rose r
writing_weaker A tells begins others starts held now rose weaken begun (Ok a) (text, told, appends) = (text, weaken a text told, appends)
writing_weaker A tells begins others starts held now rose weaken begun (Err failure) ends =
    refused A A tells begins others starts held now rose (λ a text told. (a, begun a text told)) failure ends

pub ends_weaker : (tells begins others starts : List ℕ → Type 0) (held now : Option (List ℕ)) (rose : Type 0)
    → ((text : List ℕ) → tells text → others text) → ((text : List ℕ) → begins text → starts text)
    → (r : Result (Unit {0}) Failure) → EndsText tells begins held now rose r → EndsText others starts held now rose r
ends_weaker tells begins others starts held now rose weaken begun =
    writing_weaker (Unit {0}) (λ _. tells) (λ _. begins) (λ _. others) (λ _. starts) held now rose (λ _. weaken) (λ _. begun)

module _ {A : Type 0} (tells others begins starts : A → List ℕ → Type 0) (first : List ℕ) (held mid now : Option (List ℕ)) (rose rises : Type 0)
    (appends : Appends held mid first) (since : rose → rises) (both : (a : A) (text : List ℕ) → begins a text → starts a (first ++ text))
    (given : A) (alone : starts given first) where
  -- after a text that was written whole, a writing is refused as one of both together
  pub given_refused_after : (failure : Failure) → EndsWriting tells begins mid now rose (Err failure) → EndsWriting others starts held now rises (Err failure)
  given_refused_after ReadFault ends = ends
  given_refused_after WriteFault (rising, a, text, begun, prefix) =
      (since rising, a, first ++ text, both a text begun, prefix_after held mid now first text appends prefix)
  given_refused_after Memory (inl keeps) = inr (given, first, alone, prefix_kept held mid now first appends keeps)
  given_refused_after Memory (inr (a, text, begun, prefix)) =
      inr (a, first ++ text, both a text begun, prefix_after held mid now first text appends prefix)

  -- and ends as one of both together
  pub given_after : ((a : A) (text : List ℕ) → tells a text → others a (first ++ text)) → (r : Result A Failure)
      → EndsWriting tells begins mid now rose r → EndsWriting others starts held now rises r
  given_after told (Ok a) (text, tells_it, more) = (first ++ text, told a text tells_it, appends_both held mid now first text appends more)
  given_after told (Err failure) ends = given_refused_after failure ends

module _ (tells others begins starts : List ℕ → Type 0) (first : List ℕ) (held mid now : Option (List ℕ)) (rose rises : Type 0)
    (appends : Appends held mid first) (since : rose → rises) (both : (text : List ℕ) → begins text → starts (first ++ text)) (alone : starts first) where
  -- the same where nothing is given back
  pub refused_after : (failure : Failure) → EndsText tells begins mid now rose (Err failure) → EndsText others starts held now rises (Err failure)
  refused_after = given_refused_after {A = Unit {0}} (λ _. tells) (λ _. others) (λ _. begins) (λ _. starts) first held mid now rose rises appends since
      (λ _. both) tt alone

  pub ends_after : ((text : List ℕ) → tells text → others (first ++ text)) → (r : Result (Unit {0}) Failure)
      → EndsText tells begins mid now rose r → EndsText others starts held now rises r
  ends_after told = given_after {A = Unit {0}} (λ _. tells) (λ _. others) (λ _. begins) (λ _. starts) first held mid now rose rises appends since
      (λ _. both) tt alone (λ _. told)
