use borrow.Author.Rules.{rules}
use Rattle.base.proofs.Numbers.{denied, not-both}
use Rattle.net_offers.proofs.own_client.Statement.{statement}
use Rattle.net_offers.proofs.own_client.Tie as tie

pub own_client_spec : {M : Type 1} → statement M
own_client_spec =
    tie.close
    (tie.spec
    (λ c κs. search rules)
    (λ c h. not-both _ h (denied _ c.has_bit.ensures c.if-not-has_bit.true))
    (λ c κs. search rules)
    (λ c h. c.best_client.ensures))
