-- A plan opened with its list k, as the code holds it.
use Rattle.std.specs.Prelude.{ℕ, ◌≡◌, List}
use Rattle.plan_contents.specs.Header.{router_count}
use Rattle.net_rules.specs.declared.Network.{Network}
use Rattle.net_rules.specs.Decoded.{decoded}
use Rattle.net_rules.specs.FromPlan.{instance_of}
use Rattle.net_rules.specs.WellFormed.{WellFormed}

pub record Opened (plan : List ℕ) (k : ℕ) (net : Network) (rows distances : List ℕ) : Type 0 where
  -- it is the plan's own network
  pub same : decoded net rows distances ≡ instance_of plan k
  -- .. as the workers rely on
  pub formed : WellFormed net rows distances
  -- .. with as many routers
  pub count : net.n ≡ router_count plan
