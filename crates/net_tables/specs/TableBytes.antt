-- A routing table in bytes (document 01: "A held-route table has two bytes a router, egress and sender; 255 255 is nothing.").
use Rattle.std.specs.Prelude.{ℕ, ◌+◌, ◌*◌, ◌≤◌, ◌<◌, ◌≡◌, Bool, true, cond, ◌&&◌, eqb, length, get_or, set}
use mathlib.Core.List.{List, [], ◌∷◌, foldl}
use Rattle.base.specs.Tab.{tab}
use Rattle.net_tables.specs.declared.RouteBytes.{RouteBytes}
use Rattle.route_rules.specs.Instance.{Instance, Route, nothing, via}
use Rattle.route_rules.specs.Activation.{choose, table_ok}

-- the route that two bytes stand for, and the two bytes of a route
unfoldable pub read_route : ℕ → ℕ → Route
read_route e s = cond (eqb e 255 && eqb s 255) nothing (via e s)

abbrev pub route_of : RouteBytes → Route
route_of x = read_route x.egress x.sender

abbrev pub egress_byte : Route → ℕ
egress_byte nothing = 255
egress_byte (via e s) = e

abbrev pub sender_byte : Route → ℕ
sender_byte nothing = 255
sender_byte (via e s) = s

-- a route of routers below n
abbrev pub RouteBelow : ℕ → Route → Type 0
RouteBelow n nothing = Unit
RouteBelow n (via e s) = (e < n) × (s < n)

-- the entry of router v
abbrev pub route_at : List ℕ → ℕ → Route
route_at buffer v = read_route (get_or buffer (2 * v) 0) (get_or buffer (2 * v + 1) 0)

-- the buffer with the entry of router v written
abbrev pub put_route : List ℕ → ℕ → Route → List ℕ
put_route buffer v x = set (set buffer (2 * v) (egress_byte x)) (2 * v + 1) (sender_byte x)

-- the table in a buffer's first 2n bytes, and the bytes of a table
unfoldable pub table_of : List ℕ → ℕ → List Route
table_of buffer n = tab (route_at buffer) n

unfoldable pub table_bytes : List Route → List ℕ
table_bytes [] = []
table_bytes (x ∷ t) = egress_byte x ∷ sender_byte x ∷ table_bytes t

-- the rule of the table in a buffer's first 2n bytes
abbrev pub table_rule : Instance → List ℕ → Bool
table_rule I buffer = table_ok I (table_of buffer I.n)

-- a buffer that is long enough for a table and holds one that obeys its rule
pub record TableIn (I : Instance) (buffer : List ℕ) : Type 0 where
  pub long : 2 * I.n ≤ length buffer
  pub rule : table_rule I buffer ≡ true

-- .. or one whose entries name routers below n alone
pub record RoutesIn (n : ℕ) (buffer : List ℕ) : Type 0 where
  pub long : 2 * n ≤ length buffer
  pub below : (v : ℕ) → v < n → RouteBelow n (route_at buffer v)

-- an act and a run on a caller's buffer
unfoldable pub activate_bytes : Instance → ℕ → List ℕ → List ℕ
activate_bytes I w buffer = put_route buffer w (choose I w (route_at buffer))

unfoldable pub run_bytes : Instance → List ℕ → List ℕ → List ℕ
run_bytes I buffer acts = foldl (λ b w. activate_bytes I w b) buffer acts
