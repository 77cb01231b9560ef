-- `net_hopset::try_number`: a number that does not serve is passed over, and one that serves is noted.
use Rattle.base.proofs.Numbers.{denied, granted}
use Rattle.net_hopset.proofs.Searching.{tried-no, tried-yes, best-no, best-yes}
use Rattle.net_hopset.proofs.try_number.Goals as goal

pub returns-then-not-serves-clause-tried : goal.returns-then-not-serves-clause-tried
returns-then-not-serves-clause-tried c I k p l t b =
    let e = denied _ (c.serves.ensures I k p l t) c.if-not-serves.true in
    (tried-no I _ _ _ t e, best-no I _ _ _ b e)

pub returns-clause-tried : goal.returns-clause-tried
returns-clause-tried c I k p l t b =
    let e = granted _ (c.serves.ensures I k p l t) c.if-not-serves.false in
    rw c.smaller.ensures (tried-yes I _ _ _ _ c.mark.ensures.marked t e, best-yes I _ p.counted _ _ l b e)
