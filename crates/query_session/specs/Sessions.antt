-- What the lines of a session ask of each reader, or which of them is the first that is refused, and why.
use Rattle.std.specs.Prelude.{◌==◌, ℕ, ◌+◌, List, [], ◌∷◌, ◌++◌, map, filter, codes, Option, Some, None, Result, Ok, Err, if◌then◌else◌}
use Rattle.std.specs.List.{range_with_len}
use Rattle.std.specs.Str.{bytes_eq}
use Rattle.query_session.specs.declared.ask.Ask.{Ask}
use Rattle.query_session.specs.declared.ask.Asking.{Asking}
use Rattle.query_session.specs.declared.ask.AskFault.{AskFault}
use Rattle.query_session.specs.declared.ask.AskKind.{AskKind}
use Rattle.query_session.specs.declared.ask.AskKind.TheVariants.{BadLine, TooMany, NoGo}
use Rattle.query_session.specs.SessionLines.{asking_of_line, readers_of_line}

-- there may be so many askings
abbrev pub most_askings : ℕ
most_askings = 100

-- ---- line by line

-- a fault behind the first line and so many askings
abbrev pub fault_at : AskKind → ℕ → AskFault
fault_at kind count = record { kind = kind; line = count + 2 }

-- a line that is no asking is bad
abbrev pub asked_or_bad : ℕ → Option Asking → Result (Option Asking) AskFault
asked_or_bad count None = Err (fault_at BadLine count)
asked_or_bad count (Some a) = Ok (Some a)

-- what a line says behind so many askings: nothing more, where it is `go`; else an asking, if there may be one more
abbrev pub line_said : ℕ → ℕ → List ℕ → Result (Option Asking) AskFault
line_said readers count line = if bytes_eq line (codes "go") then Ok None
    else (if count == most_askings then Err (fault_at TooMany count) else asked_or_bad count (asking_of_line readers line))

-- these askings before those, or the fault that comes behind them
abbrev pub before : List Asking → Result (List Asking) AskFault → Result (List Asking) AskFault
before askings (Ok more) = Ok (askings ++ more)
before askings (Err fault) = Err fault

-- what a line says, before what those behind it say, which count only where it is an asking
abbrev pub go_on : Result (Option Asking) AskFault → Result (List Asking) AskFault → Result (List Asking) AskFault
go_on (Err fault) rest = Err fault
go_on (Ok None) rest = Ok []
go_on (Ok (Some a)) rest = before (a ∷ []) rest

-- the askings of so many readers in lines behind so many, up to `go`, or the first fault
abbrev pub read_askings : ℕ → ℕ → List (List ℕ) → Result (List Asking) AskFault
read_askings readers count [] = Err (fault_at NoGo count)
read_askings readers count (line ∷ lines) = go_on (line_said readers count line) (read_askings readers (count + 1) lines)

-- ---- scripts

-- what is asked of a reader, in order
abbrev pub script_of : List Asking → ℕ → List Ask
script_of askings reader = map (λ a. a.ask) (filter (λ a. a.reader == reader) askings)

-- what is asked of each of so many readers
abbrev pub scripts_of : ℕ → List Asking → List (List Ask)
scripts_of readers askings = map (script_of askings) (range_with_len 0 readers)

abbrev pub scripts_read : ℕ → Result (List Asking) AskFault → Result (List (List Ask)) AskFault
scripts_read readers (Ok askings) = Ok (scripts_of readers askings)
scripts_read readers (Err fault) = Err fault

-- where the first line tells how many there are
abbrev pub scripts_by : Option ℕ → List (List ℕ) → Result (List (List Ask)) AskFault
scripts_by None lines = Err (record { kind = BadLine; line = 1 })
scripts_by (Some readers) lines = scripts_read readers (read_askings readers 0 lines)

-- THE SESSION of some lines: what they ask of each reader, or the first line that is refused
abbrev pub read_session : List (List ℕ) → Result (List (List Ask)) AskFault
read_session [] = Err (record { kind = NoGo; line = 1 })
read_session (line ∷ lines) = scripts_by (readers_of_line line) lines
