-- A refused call has written nothing.
use Rattle.c_figures.proofs.Given.{figures-refused}
use Rattle.c_figures.proofs.figures.Goals as goal

pub returns-in-Refused : goal.returns-in-Refused
returns-in-Refused c = figures-refused _ _ _ _ c.figures-answer.ensures _ _ _ _ _ c.in-Refused.is
