-- How the writing of a text ends.
use Rattle.std.specs.Prelude.{◌≡◌, ◌⊎◌, ℕ, List, Option, Result, Ok, Err}
use Rattle.std.specs.Io.KnownBytes.{Appends, Keeps}
use Rattle.replies.specs.declared.status.Answer.{Answer}
use Rattle.replies.specs.declared.status.Failure.{Failure}
use Rattle.replies.specs.declared.status.Failure.TheVariants.{ReadFault, WriteFault, Memory}
use Rattle.tv_base.specs.Pieces.{AppendsPrefix}

-- these are this answer and this text
abbrev pub IsReply : Answer → List ℕ → Answer → List ℕ → Type 0
IsReply answer text told other = (told ≡ answer) × (other ≡ text)

-- How the writing of a text ends that goes with what is given back: such a text was written; the sink failed, its count rose,
-- and a prefix of a text that begins so was written; or memory ran out, and such a prefix was written, or nothing.
abbrev pub EndsWriting : {A : Type 0} → (A → List ℕ → Type 0) → (A → List ℕ → Type 0) → Option (List ℕ) → Option (List ℕ) → Type 0 → Result A Failure → Type 0
EndsWriting tells begins held now rose (Ok given) = (text : List ℕ) × tells given text × Appends held now text
EndsWriting tells begins held now rose (Err ReadFault) = ⊥
EndsWriting {A} tells begins held now rose (Err WriteFault) = rose × (given : A) × (text : List ℕ) × begins given text × AppendsPrefix held now text
EndsWriting {A} tells begins held now rose (Err Memory) =
    Keeps held now ⊎ ((given : A) × (text : List ℕ) × begins given text × AppendsPrefix held now text)

-- the same where nothing is given back, and these are the texts
abbrev pub EndsText : (List ℕ → Type 0) → (List ℕ → Type 0) → Option (List ℕ) → Option (List ℕ) → Type 0 → Result (Unit {0}) Failure → Type 0
EndsText tells begins = EndsWriting (λ _. tells) (λ _. begins)
