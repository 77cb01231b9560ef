-- Who relies on whom (document 01, "Reliance and verdict"; document 02, "Cut-off routers" and "Reflectors with the hop step").
use Rattle.std.specs.Prelude.{ℕ, Bool, true, false, not, cond, ◌&&◌, ◌||◌}
use Rattle.std.proofs.Math.Option.{Option, none, some}
use Rattle.base.specs.Best.{best}
use Rattle.base.specs.Seek.{flag}
use Rattle.route_rules.specs.Instance.{Instance, is_router}
use Rattle.route_rules.specs.Preference.{nearer, prefers}

-- a listed client that v neighbours, and has a way to: "a route whose egress the hearer has no way to .. is not a best client there"
unfoldable pub listed_client_of : Instance → ℕ → ℕ → Bool
listed_client_of I v e = I.neighbour v e && I.listed e && not (I.reflector e) && I.way v e

-- "The best client of a reflector is the best, at that reflector, of the listed clients it neighbours." Each of them tells its own route,
-- so that the hop step parts no two.
unfoldable pub best_client : Instance → ℕ → Option ℕ
best_client I v = best (nearer I v) (listed_client_of I v) I.n

-- "A listed reflector offers itself; an unlisted one offers its best client, if any."
unfoldable pub offer : Instance → ℕ → Option ℕ
offer I v = cond (I.listed v) (some v) (best_client I v)

-- an offer exists and is better at w than w's own best client; "with no best client, any offer counts as better". One that w has no way
-- to "does not make a reflector relied on". "Rule 3 uses this order at such a reflector, for its best client against an offer": d says
-- that the offer is told by its own egress router, as the best client always is.
unfoldable pub better_offer : Instance → ℕ → Bool → Option ℕ → Option ℕ → Bool
better_offer I w d none own = false
better_offer I w d (some e) none = I.way w e
better_offer I w d (some e) (some c) = I.way w e && prefers I w e d c true

-- "1. A listed router relies on no one."
-- "2. An unlisted client relies on each neighbouring reflector and on each neighbouring listed client."
-- "3. An unlisted reflector relies on its best client, and on each neighbouring reflector whose offer exists and is better, at the
-- relying one, than its own best client." A listed reflector offers its own route, any other passes one on.
-- "A router's own route is unaffected, and so is rule 2 of the reliances": neither asks for a way.
unfoldable pub relies : Instance → ℕ → ℕ → Bool
relies I w v =
    cond (I.listed w) false
    (cond (I.reflector w)
    (is_router v (best_client I w) || (I.neighbour w v && I.reflector v && better_offer I w (I.listed v) (offer I v) (best_client I w)))
    (I.neighbour w v && (I.reflector v || I.listed v)))

-- who relies on whom, as a relation of the graph part: 0 is no
abbrev pub reliance : Instance → ℕ → ℕ → ℕ
reliance I w v = flag (relies I w v)

-- the same network, with the given reflectors as those that skip their clients, and as those that have the hop step
abbrev pub with_roles : Instance → (skips hop : ℕ → Bool) → Instance
with_roles I skips hop =
    record {
      n = I.n;
      reflector = I.reflector;
      skips = skips;
      hop = hop;
      neighbour = I.neighbour;
      dist = I.dist;
      way = I.way;
      listed = I.listed;
    }

abbrev pub with_skips : Instance → (ℕ → Bool) → Instance
with_skips I skips = with_roles I skips I.hop

abbrev pub with_hop : Instance → (ℕ → Bool) → Instance
with_hop I hop = with_roles I I.skips hop
