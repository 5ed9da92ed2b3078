-- The lines of a session, as they are spelled: the words of a line have one space between them, and numbers are decimals.
use Rattle.std.specs.Prelude.{◌&&◌, Bool, true, ℕ, nat_lt, nat_le, List, [], ◌∷◌, codes, decimal}
use Rattle.text_lines.specs.Words.{joined}
use Rattle.query_session.specs.declared.ask.Ask.{Ask}
use Rattle.query_session.specs.declared.ask.Ask.TheVariants as ask
use Rattle.query_session.specs.declared.ask.Asking.{Asking}

-- it is one of these numbers
abbrev pub is_in : ℕ → ℕ → ℕ → Bool
is_in least most n = nat_le least n && nat_le n most

-- what may be asked: a page of 1 to 256 places, from place 0 to 65,536 on; to wait for 1 to 65,536 solids; to stop
abbrev pub may_be_asked : Ask → Bool
may_be_asked (ask.Page from most) = is_in 0 65536 from && is_in 1 256 most
may_be_asked (ask.Wait count) = is_in 1 65536 count
may_be_asked ask.Stop = true

-- and of whom: of one of so many readers
abbrev pub may_stand : ℕ → Asking → Bool
may_stand readers a = nat_lt a.reader readers && may_be_asked a.ask

-- its words
abbrev pub ask_words : Ask → List (List ℕ)
ask_words (ask.Page from most) = codes "page" ∷ decimal from ∷ decimal most ∷ []
ask_words (ask.Wait count) = codes "wait" ∷ decimal count ∷ []
ask_words ask.Stop = codes "stop" ∷ []

-- the line of an asking
abbrev pub asking_line : Asking → List ℕ
asking_line a = joined (decimal a.reader ∷ ask_words a.ask)

-- the first line, for so many readers
abbrev pub readers_line : ℕ → List ℕ
readers_line readers = joined (codes "readers" ∷ decimal readers ∷ [])

-- of whom there are 1 to 16
abbrev pub may_read : ℕ → Bool
may_read readers = is_in 1 16 readers
