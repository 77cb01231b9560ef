use borrow.Author.Rules.{rules}
use Rattle.c_convert.proofs.Given.{put}
use Rattle.c_convert.proofs.narrow.Statement.{statement}
use Rattle.c_convert.proofs.narrow.Tie as tie

pub narrow_spec : {M : Type 1} → statement M
narrow_spec = tie.close (tie.spec (λ c κs. search rules) (λ c κs. search rules) (λ c. search rules) (λ c. put c.narrow.ensures c.put_length.ensures))
