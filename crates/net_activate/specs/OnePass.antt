-- The choice of an activation as a pass over the routers: each route that w hears has a key, and the best has the least. At a router with
-- the hop step a pass over the routes told by their own egress comes first.
use Rattle.std.specs.Prelude.{ℕ, zero, suc, ◌+◌, ◌-◌, ◌*◌, ◌/◌, ◌%◌, min, cond, ◌&&◌, List, leb, ltb, eqb}
use Rattle.std.proofs.Math.Option.{Option, none, some}
use Rattle.plan_rules.specs.Distances.{highest, number_at}
use Rattle.net_rules.specs.declared.Network.{Network}
use Rattle.route_rules.specs.Instance.{Instance, Route, nothing, via}
use Rattle.route_rules.specs.Preference.{has_step}
use Rattle.route_rules.specs.Activation.{advertises}
use Rattle.net_tables.specs.TableBytes.{read_route}

-- of several senders of e, "the egress router itself is the sender if it is one of them, else the lowest number"
unfoldable pub sender_mark : ℕ → ℕ → ℕ
sender_mark e s = cond (eqb e s) 0 (suc s)

-- The key of the route to e from s, where the number d stands for the distance. By the distance, then "e's number lower", then the sender:
-- the egress has one byte of it, the sender's mark another.
unfoldable pub route_key : ℕ → ℕ → ℕ → ℕ
route_key d e s = d * 65536 + e * 256 + sender_mark e s

-- What stands for w's distance to each egress, as the plan has it: these numbers order ways as distances do, and the highest is no way.
pub record Numbers : Type 0 where
  pub to : ℕ → ℕ
  pub most : ℕ

abbrev pub numbers_of : Network → List ℕ → ℕ → Numbers
numbers_of net distances w = record { to = λ e. number_at net.width distances (w * net.n + e); most = highest net.width }

-- "A route whose egress the hearer has no way to is not heard": such a route's key is this or higher, and with a way it is lower.
abbrev pub no_key : Numbers → ℕ
no_key N = N.most * 65536

-- the key of what v tells, by its egress
unfoldable pub told_key : Numbers → ℕ → Option ℕ → ℕ
told_key N v none = no_key N
told_key N v (some e) = route_key (N.to e) e v

-- .. of what router v, which holds the given route, advertises to w
unfoldable pub advertised_key : Numbers → Instance → ℕ → ℕ → Route → ℕ
advertised_key N I w v x = cond (I.neighbour w v) (told_key N v (advertises I v x w)) (no_key N)

-- the least of the routers below n, where `view v` is what w sees v hold
unfoldable pub least_key : Numbers → Instance → ℕ → (ℕ → Route) → ℕ → ℕ
least_key N I w view zero = no_key N
least_key N I w view (suc v) = min (least_key N I w view v) (advertised_key N I w v (view v))

-- a route that v holds, if it is one to v itself, else nothing
unfoldable pub own_route : ℕ → Route → Route
own_route v nothing = nothing
own_route v (via e s) = cond (eqb e v) (via e s) nothing

-- "a route told by its own egress router": w hears no other where it sees every router hold its own route or nothing. A listed router tells
-- its own whatever it is seen to hold.
abbrev pub own_routes : (ℕ → Route) → ℕ → Route
own_routes view v = own_route v (view v)

-- the key of what w chooses: with the hop step the least of these, if there is one, as it "beats one passed on"; else the least of all
unfoldable pub chosen_key : Numbers → Instance → ℕ → (ℕ → Route) → ℕ
chosen_key N I w view =
    cond (has_step I w && ltb (least_key N I w (own_routes view) I.n) (no_key N))
    (least_key N I w (own_routes view) I.n)
    (least_key N I w view I.n)

-- the route of a key
abbrev pub egress_in : ℕ → ℕ
egress_in k = k / 256 % 256

abbrev pub sender_in : ℕ → ℕ
sender_in k = cond (eqb (k % 256) 0) (egress_in k) (k % 256 - 1)

unfoldable pub key_route : Numbers → ℕ → Route
key_route N k = cond (leb (no_key N) k) nothing (read_route (egress_in k) (sender_in k))
