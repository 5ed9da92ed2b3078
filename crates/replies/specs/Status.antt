-- The statuses, and their numbers.
use Rattle.std.specs.Prelude.{ℕ, Result, Ok, Err}
use Rattle.replies.specs.declared.status.Answer.{Answer}
use Rattle.replies.specs.declared.status.Answer.TheVariants.{Done, Faulty, Usage, CutNodes, CutSolids, NoSolid, Refused, Stopped, NotAsked}
use Rattle.replies.specs.declared.status.Failure.{Failure}
use Rattle.replies.specs.declared.status.Failure.TheVariants.{ReadFault, WriteFault, Memory}
use Rattle.solid_model.specs.declared.ended.EndKind.{EndKind}
use Rattle.solid_model.specs.declared.ended.EndKind.TheVariants as ends

-- how a run ends: with an answer, or by a failure
abbrev pub Status : Type 0
Status = Result Answer Failure

-- the answer to a search that ended so
abbrev pub end_answer : EndKind → Answer
end_answer ends.Whole = Done
end_answer ends.CutNodes = CutNodes
end_answer ends.CutSolids = CutSolids

-- the number of an answer
abbrev pub answer_code : Answer → ℕ
answer_code Done = 0
answer_code Faulty = 1
answer_code Usage = 2
answer_code CutNodes = 3
answer_code CutSolids = 4
answer_code NoSolid = 8
answer_code Refused = 9
answer_code Stopped = 10
answer_code NotAsked = 11

-- the number of a failure
abbrev pub failure_code : Failure → ℕ
failure_code ReadFault = 5
failure_code WriteFault = 6
failure_code Memory = 7

-- the number of a status
abbrev pub status_code : Status → ℕ
status_code (Ok answer) = answer_code answer
status_code (Err failure) = failure_code failure
