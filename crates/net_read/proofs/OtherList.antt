-- A plan opened with one of its lists, and then with another.
use Prim.Native.Nat.{ℕ}
use mathlib.Core.Path.{◌≡◌}
use mathlib.Core.List.{List}
use lib.Dec.{eqb}
use Rattle.base.specs.Bits.{bit_n}
use Rattle.plan_rules.specs.EgressLists.{list_numbers}
use Rattle.net_rules.specs.declared.Network.{Network}
use Rattle.net_rules.specs.FromPlan.{named}
use Rattle.net_rules.specs.Opened.{Opened}

-- the network with another word of listed routers
abbrev listing : Network → ℕ → Network
listing net word =
    record { n = net.n; width = net.width; reflectors = net.reflectors; skips = net.skips; hop = net.hop; listed = word }

-- every part but who is listed is the same for all lists
pub opened-list : (plan : List ℕ) (list : ℕ) (net : Network) (word : ℕ)
    → ((v : ℕ) → eqb (bit_n word v) 1 ≡ named (list_numbers plan list) v)
    → (k : ℕ) (rows distances : List ℕ) → Opened plan k net rows distances → Opened plan list (listing net word) rows distances
opened-list plan list net word listed k rows distances o =
    record {
      same = λ i. let I = o.same i in record {
        n = I.n;
        reflector = I.reflector;
        skips = I.skips;
        hop = I.hop;
        neighbour = I.neighbour;
        dist = I.dist;
        way = I.way;
        listed = λ v. listed v i;
      };
      formed = record { count = o.formed.count; neighbours = o.formed.neighbours; pairs = o.formed.pairs };
      count = o.count;
    }
