use mathlib.Core.Path.{refl}
use borrow.Author.Rules.{rules}
use Rattle.net_everylist.proofs.Answering.{judged}
use Rattle.net_everylist.proofs.stable_with.Statement.{statement}
use Rattle.net_everylist.proofs.stable_with.Tie as tie

pub stable_with_spec : {M : Type 1} → statement M
stable_with_spec =
    tie.close
    (tie.spec
    (λ c κs.
    let p = c.requires in
    (record { count = p.count; neighbours = p.neighbours; pairs = p.pairs }, refl))
    (λ c. judged _ _ _ _ c.group_rows.ensures))
