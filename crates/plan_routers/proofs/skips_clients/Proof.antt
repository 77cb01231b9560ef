use Rattle.base.proofs.Numbers.{tests}
use Rattle.plan_routers.proofs.skips_clients.Statement.{statement}
use Rattle.plan_routers.proofs.skips_clients.Tie as tie

pub skips_clients_spec : {M : Type 1} → statement M
skips_clients_spec = tie.close (tie.spec (λ c. search tests) (λ c. search tests))
