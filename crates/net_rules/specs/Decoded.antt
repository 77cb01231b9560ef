-- An instance as the code holds it: a word of bits for the reflectors, one for those that skip their clients, one for those with the hop
-- step, one for the listed routers, a row of bits for each router's neighbours, and the plan's distances as they stand.
use Rattle.std.specs.Prelude.{ℕ, List, eqb}
use Rattle.std.specs.Borrow.{Bor}
use Rattle.base.specs.Bits.{bit_n, bits}
use Rattle.plan_rules.specs.Distances.{distance_in, way_in}
use Rattle.net_rules.specs.declared.Network.{Network}
use Rattle.route_rules.specs.Instance.{Instance}

abbrev pub decoded : Network → List ℕ → List ℕ → Instance
decoded net rows distances =
    record {
      n = net.n;
      reflector = λ v. eqb (bit_n net.reflectors v) 1;
      skips = λ v. eqb (bit_n net.skips v) 1;
      hop = λ v. eqb (bit_n net.hop v) 1;
      neighbour = λ w v. eqb (bits rows w v) 1;
      dist = distance_in net.width distances net.n;
      way = way_in net.width distances net.n;
      listed = λ v. eqb (bit_n net.listed v) 1;
    }

-- the instance that the code is lent: its words by value, the rows and the distances behind references
abbrev pub instance : Network → Bor (List ℕ) → Bor (List ℕ) → Instance
instance net rows distances = decoded net rows.now distances.now
