-- `c_grade::grade`: an arm knows the answer that it matched; a grade's number is found by cases.
use Rattle.std.proofs.Common.{rules}
use Rattle.c_grade.proofs.Given.{grade-refused, grade-given}
use Rattle.c_grade.proofs.grade.Goals as goal

pub returns-in-Refused : goal.returns-in-Refused
returns-in-Refused c = grade-refused _ _ _ c.grade-answer.ensures _ _ _ c.in-Refused.is

pub returns-in-Graded : goal.returns-in-Graded
returns-in-Graded c = grade-given _ _ _ c.grade-answer.ensures _ _ _ _ _ c.in-Graded.is (search rules)
