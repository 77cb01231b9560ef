use borrow.Author.Rules.{rules}
use Rattle.net_groups.proofs.Loops.{group-rows-are}
use Rattle.net_groups.proofs.group_rows.Statement.{statement}
use Rattle.net_groups.proofs.group_rows.Tie as tie

pub group_rows_spec : {M : Type 1} → statement M
group_rows_spec =
    tie.close
    (tie.spec
    (λ c κs. search rules)
    (λ c κs. search rules)
    (λ c κs. search rules)
    (λ c.
    group-rows-are _ _ _ _ c.reliance_rows.ensures c.close.ensures _ c.looping.ensures))
