use borrow.Author.Rules.{rules}
use Rattle.c_convert.proofs.Given.{put}
use Rattle.c_convert.proofs.widen.Statement.{statement}
use Rattle.c_convert.proofs.widen.Tie as tie

pub widen_spec : {M : Type 1} → statement M
widen_spec = tie.close (tie.spec (λ c κs. search rules) (λ c κs. search rules) (λ c. search rules) (λ c. put c.widen.ensures c.put_length.ensures))
