use Rattle.query_session.proofs.Spelled.{asking_read, asking_spelled, readers_read, readers_spelled}
use Rattle.query_session.proofs.laws.askings_are_read_as_spelled.Goals as goal

pub returns-clause-asking : goal.returns-clause-asking
returns-clause-asking c = asking_read

pub returns-clause-only : goal.returns-clause-only
returns-clause-only c = asking_spelled

pub returns-clause-readers : goal.returns-clause-readers
returns-clause-readers c = readers_read

pub returns-clause-only_readers : goal.returns-clause-only_readers
returns-clause-only_readers c = readers_spelled
