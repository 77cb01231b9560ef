-- Who relies on whom, who reaches whom, and who is in a group of two or more, as rows of bits and a word (document 01, "Reliance and
-- verdict").
use Rattle.std.specs.Prelude.{ℕ, ◌≤◌, ◌<◌, ◌≡◌, List, get_or}
use Rattle.base.specs.Bits.{bit_n, bits}
use Rattle.base.specs.Elimination.{Agree}
use Rattle.graph_groups.specs.Closure.{closure}
use Rattle.graph_groups.specs.Groups.{grouped}
use Rattle.route_rules.specs.Instance.{Instance}
use Rattle.route_rules.specs.Reliance.{reliance}
use Rattle.net_reliance.specs.RelianceRows.{RelianceRow}

pub record GroupRows (I : Instance) (relied closed : List ℕ) (word : ℕ) : Type 0 where
  -- whom each router relies on
  pub related : (w : ℕ) → w < I.n → RelianceRow I w I.n (get_or relied w 0)
  -- "reaches .. by reliances"
  pub reached : Agree (bits closed) (closure (reliance I) I.n) I.n
  -- "in groups of two or more", and no other bit
  pub grouped : (w : ℕ) → w < I.n → bit_n word w ≡ grouped (closure (reliance I) I.n) I.n w
  pub past : (w : ℕ) → I.n ≤ w → bit_n word w ≡ 0
