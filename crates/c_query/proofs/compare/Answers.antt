-- A refused call has written nothing.
use Rattle.c_query.proofs.Given.{compare-refused}
use Rattle.c_query.proofs.compare.Goals as goal

pub returns-in-Refused : goal.returns-in-Refused
returns-in-Refused c = compare-refused _ _ _ _ _ _ _ c.compare-answer.ensures _ _ _ _ c.in-Refused.is
