-- What the hop step brings (document 02, "Reflectors with the hop step").
use Rattle.std.specs.Prelude.{ℕ, ◌≤◌, ◌<◌, ◌≡◌, Bool, true, false}
use Rattle.std.proofs.Math.Option.{none, some}
use Rattle.route_rules.specs.Instance.{Instance, Route}
use Rattle.route_rules.specs.Preference.{has_step}
use Rattle.route_rules.specs.Activation.{advertises, hears, choose}
use Rattle.route_rules.specs.Reliance.{best_client, offer, relies, with_hop}
use Rattle.route_theorems.specs.Claims.{OneSteadyTable, SettlesInTime}
use Rattle.route_theorems.specs.Nobody.{RankRule}

-- a chain of one or more reliances; one from a router to itself is a cycle, "ring" in the papers
pub data Leads (I : Instance) : ℕ → ℕ → Type 0 where
  last : {w v : ℕ} → relies I w v ≡ true → Leads I w v
  more : {w v u : ℕ} → relies I w v ≡ true → Leads I v u → Leads I w u

-- "No ring may contain one". The theorem `step-breaks` says that this holds of every router with the step.
pub record StepBreaks (I : Instance) (w : ℕ) : Type 0 where
  pub no_cycle : Leads I w w → ⊥
  -- With a best client it relies on listed routers alone, which rely on no one: that client, and reflectors preferred to it.
  pub own_client : (c v : ℕ) → best_client I w ≡ some c → relies I w v ≡ true → I.listed v ≡ true
  -- Without one no reflector relies on it, unless it is listed: a chain back to it would have to come from an unlisted client.
  pub no_client : I.listed w ≡ false → best_client I w ≡ none → (u : ℕ) → I.reflector u ≡ true → relies I u w ≡ false

-- So whoever is in a cycle is as follows. The theorem `in-cycle` says so.
pub record InCycle (I : Instance) (w : ℕ) : Type 0 where
  pub unlisted : I.listed w ≡ false
  pub reflector : I.reflector w ≡ true
  pub without_step : has_step I w ≡ false
  pub has_client : best_client I w ≡ none → ⊥

-- the same network with another list
abbrev pub with_list : Instance → (ℕ → Bool) → Instance
with_list I listed =
    record {
      n = I.n;
      reflector = I.reflector;
      skips = I.skips;
      hop = I.hop;
      neighbour = I.neighbour;
      dist = I.dist;
      way = I.way;
      listed = listed;
    }

-- "a plan whose reflectors all have the step"
abbrev pub EveryReflectorSteps : Instance → Type 0
EveryReflectorSteps I = (w : ℕ) → w < I.n → I.reflector w ≡ true → I.hop w ≡ true

-- .. "is stable for every list". The theorem `all-have-step` says so.
pub record StableWhateverIsListed (I : Instance) : Type 0 where
  pub no_cycle : (listed : ℕ → Bool) (w : ℕ) → w < I.n → Leads (with_list I listed) w w → ⊥
  -- no rank is above 3, whatever ranks obey their rule
  pub ranks : (listed : ℕ → Bool) (rank : ℕ → ℕ) → RankRule (with_list I listed) rank → (w : ℕ) → w < I.n → rank w ≤ 3
  -- so there is one steady table, and five rounds lead to it from any
  pub steady : (listed : ℕ → Bool) → OneSteadyTable (with_list I listed) 3
  pub settles : (listed : ℕ → Bool) → SettlesInTime (with_list I listed) 3

-- Rank 3 is reached: in some such network some ranks obey the rule and are not all lower.
pub record ThreeIsReached : Type 0 where
  pub network : Instance
  pub all : EveryReflectorSteps network
  pub rank : ℕ → ℕ
  pub rule : RankRule network rank
  pub at : ℕ
  pub below : at < network.n
  pub is : rank at ≡ 3

-- The step of some reflectors is not enough: others may be in a cycle.
pub record SomeIsNotEnough : Type 0 where
  pub network : Instance
  pub has : ℕ
  pub step : has_step network has ≡ true
  pub at : ℕ
  pub below : at < network.n
  pub cycle : Leads network at at

-- "Roles 4 and 5 are roles 1 and 3 with that step", and nothing else. The theorem `only-the-step` says that this holds.
pub record OnlyTheStep (I : Instance) (hop : ℕ → Bool) : Type 0 where
  -- what a router advertises, what is heard, best clients and offers do not depend on who has the step
  pub advertised : (v : ℕ) (x : Route) (w : ℕ) → advertises (with_hop I hop) v x w ≡ advertises I v x w
  pub heard : (view : ℕ → Route) (w v e : ℕ) → hears (with_hop I hop) view w v e ≡ hears I view w v e
  pub client : (v : ℕ) → best_client (with_hop I hop) v ≡ best_client I v
  pub offered : (v : ℕ) → offer (with_hop I hop) v ≡ offer I v
  -- what a client relies on and chooses does not either: "on reflectors only"
  pub client_relies : (w v : ℕ) → I.reflector w ≡ false → relies (with_hop I hop) w v ≡ relies I w v
  pub client_chooses : (w : ℕ) (view : ℕ → Route) → I.reflector w ≡ false → choose (with_hop I hop) w view ≡ choose I w view
  -- no router's choice depends on the step of another
  pub own_choice : (w : ℕ) (view : ℕ → Route) → hop w ≡ I.hop w → choose (with_hop I hop) w view ≡ choose I w view
  -- Of what a reflector relies on no step counts but its own; and that does not count on a listed router, which tells its own route, nor
  -- where there is no own best client.
  pub own_step : (w v : ℕ) → hop w ≡ I.hop w → relies (with_hop I hop) w v ≡ relies I w v
  pub on_listed : (w v : ℕ) → I.listed v ≡ true → relies (with_hop I hop) w v ≡ relies I w v
  pub no_client : (w v : ℕ) → best_client I w ≡ none → relies (with_hop I hop) w v ≡ relies I w v
  -- So with the step a reflector relies on no more than without.
  pub fewer : (w v : ℕ) → hop w ≡ true → relies (with_hop I hop) w v ≡ true → relies I w v ≡ true
