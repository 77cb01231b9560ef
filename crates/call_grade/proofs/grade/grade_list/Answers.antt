-- `call_grade::grade::grade_list`: an arm knows what was found.
use Rattle.std.proofs.Common.{◌∙◌, ap}
use Rattle.call_grade.proofs.Answers.{answered, found-answer}
use Rattle.call_grade.proofs.grade.grade_list.Goals as goal

pub returns-in-Some : goal.returns-in-Some
returns-in-Some c = ap answered c.in-Some.ensures ∙ found-answer _

pub returns-in-None : goal.returns-in-None
returns-in-None c = ap answered c.in-None.ensures ∙ found-answer _
