-- The definition of an explanation as the tests come one after the other.
use Prim.Native.Nat.{ℕ}
use mathlib.Core.Path.{◌≡◌}
use mathlib.Core.Bool.{true, false}
use lib.Dec.{eqb}
use Rattle.route_rules.specs.Instance.{Instance, is_router}
use Rattle.route_rules.specs.Reliance.{best_client, offer}
use Rattle.route_explain_rules.specs.Explained.{by_offer, on_reflector, on_client, explained}
use Rattle.route_explain_rules.specs.declared.explanation.Explanation.TheVariants.{Yes, No}
use Rattle.route_explain_rules.specs.declared.explanation.Rule.TheVariants.{Parent, PeerClient, OwnBestClient}
use Rattle.route_explain_rules.specs.declared.explanation.Reason.TheVariants.{SameRouter, NotNeighbours, FirstListed, SecondUnlistedClient, NotTheBestClient}

module _ (I : Instance) (w v : ℕ) where
  pub on-reflector-parent : I.reflector w ≡ false → on_reflector I w v ≡ Yes Parent
  unfolding on_reflector
  on-reflector-parent h = cc

  pub on-reflector-offer : I.reflector w ≡ true → on_reflector I w v ≡ by_offer I w (I.listed v) (offer I v) (best_client I w)
  unfolding on_reflector
  on-reflector-offer h = cc

  pub on-client-unlisted : I.listed v ≡ false → on_client I w v ≡ No SecondUnlistedClient
  unfolding on_client
  on-client-unlisted h = cc

  module _ (listed : I.listed v ≡ true) where
    pub on-client-peer : I.reflector w ≡ false → on_client I w v ≡ Yes PeerClient
    unfolding on_client
    on-client-peer h = cc

    pub on-client-own : I.reflector w ≡ true → is_router v (best_client I w) ≡ true → on_client I w v ≡ Yes OwnBestClient
    unfolding on_client
    on-client-own h k = cc

    pub on-client-other : I.reflector w ≡ true → is_router v (best_client I w) ≡ false → on_client I w v ≡ No NotTheBestClient
    unfolding on_client
    on-client-other h k = cc

  pub explained-same : eqb w v ≡ true → explained I w v ≡ No SameRouter
  unfolding explained
  explained-same h = cc

  module _ (apart : eqb w v ≡ false) where
    pub explained-stranger : I.neighbour w v ≡ false → explained I w v ≡ No NotNeighbours
    unfolding explained
    explained-stranger h = cc

    module _ (near : I.neighbour w v ≡ true) where
      pub explained-listed : I.listed w ≡ true → explained I w v ≡ No FirstListed
      unfolding explained
      explained-listed h = cc

      pub explained-reflector : I.listed w ≡ false → I.reflector v ≡ true → explained I w v ≡ on_reflector I w v
      unfolding explained
      explained-reflector h k = cc

      pub explained-client : I.listed w ≡ false → I.reflector v ≡ false → explained I w v ≡ on_client I w v
      unfolding explained
      explained-client h k = cc
