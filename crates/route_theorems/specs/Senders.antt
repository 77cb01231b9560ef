-- Whichever neighbour is taken as the sender of an egress, no router's egress changes. Of one egress heard from several neighbours the
-- model takes the egress router itself, "else the lowest number"; real routers may take another of them (RFC 4456, section 9).
use Rattle.std.specs.Prelude.{ℕ, ◌+◌, ◌≤◌, ◌<◌, ◌≡◌, true, false, List, [], ◌∷◌, set}
use Rattle.std.proofs.Math.Option.{Option, none, some}
use Rattle.route_rules.specs.Instance.{Instance, Route, nothing, via}
use Rattle.route_rules.specs.Preference.{prefers_by}
use Rattle.route_rules.specs.Activation.{hears, heard_direct, held, run_acts}
use Rattle.route_rules.specs.Rounds.{rounds}
use Rattle.route_theorems.specs.Settled.{settled_table}
use Rattle.route_theorems.specs.Claims.{IsTable}

-- the best egress that w hears, from the egress router itself if that tells it, else from any neighbour that does
pub record BestHeard (I : Instance) (view : ℕ → Route) (w e s : ℕ) : Type 0 where
  pub egress : e < I.n
  pub sender : s < I.n
  pub told : hears I view w s e ≡ true
  pub unbeaten : (v f : ℕ) → v < I.n → f < I.n → hears I view w v f ≡ true → prefers_by I w (heard_direct I view w) f e ≡ false
  pub itself : hears I view w e e ≡ true → s ≡ e

-- what an activation of w may leave
pub data MayLeave (I : Instance) (view : ℕ → Route) (w : ℕ) : Route → Type 0 where
  own : I.listed w ≡ true → MayLeave I view w (via w w)
  silence : I.listed w ≡ false → ((v f : ℕ) → v < I.n → f < I.n → hears I view w v f ≡ false) → MayLeave I view w nothing
  heard : I.listed w ≡ false → {e s : ℕ} → BestHeard I view w e s → MayLeave I view w (via e s)

-- the tables that activations of these routers, one by one, may lead to; a sender may be taken anew in each
pub data MayReach (I : Instance) : List Route → List ℕ → List Route → Type 0 where
  done : {t : List Route} → MayReach I t [] t
  next : {t u : List Route} {x : Route} {w : ℕ} {acts : List ℕ} → MayLeave I (held t) w x → MayReach I (set t w x) acts u
      → MayReach I t (w ∷ acts) u

abbrev pub egress_of : Route → Option ℕ
egress_of nothing = none
egress_of (via e s) = some e

pub record AnySender (I : Instance) : Type 0 where
  -- every router's egress is the one that the model's own run leaves it
  pub same :
      (t u : List Route) (acts : List ℕ) → MayReach I t acts u → (v : ℕ) → egress_of (held u v) ≡ egress_of (held (run_acts I t acts) v)
  -- the model's own run is one of them
  pub possible : (t : List Route) (acts : List ℕ) → MayReach I t acts (run_acts I t acts)

-- so where the model settles, every router ends with the settled egress in the same count of rounds
abbrev pub SettlesByAnySender : Instance → ℕ → Type 0
SettlesByAnySender I R =
    (t u : List Route) (acts : List ℕ) → IsTable I t → R + 2 ≤ rounds I.n acts → MayReach I t acts u
    → (v : ℕ) → egress_of (held u v) ≡ egress_of (held (settled_table I R) v)
