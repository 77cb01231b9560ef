-- Where to load the hop step (document 02, "Where to load the hop step"): "For a list, name a smallest set of routers that makes the plan
-- stable once their roles 1 and 3 become 4 and 5." A set of routers is a test of their numbers.
use Rattle.std.specs.Prelude.{ℕ, suc, ◌^◌, ◌≤◌, ◌<◌, ◌≡◌, Bool, true, not, ◌&&◌, ◌||◌, ◌↔◌, ltb, eqb}
use Rattle.base.specs.Bits.{bit_n}
use Rattle.base.specs.Seek.{flag, seek, count}
use Rattle.graph_groups.specs.Closure.{Relation, closure}
use Rattle.graph_groups.specs.Groups.{stable}
use Rattle.route_rules.specs.Instance.{Instance}
use Rattle.route_rules.specs.Reliance.{relies, reliance, with_hop}
use Rattle.steady_rules.specs.Numbers.{bit_at}
use Rattle.steady_rules.specs.Steady.{grouped_in, grouped_routers, bit_of, GroupedRouter}

-- "once their roles 1 and 3 become 4 and 5": the network in which the reflectors of the set have the step too
abbrev pub with_step : Instance → (ℕ → Bool) → Instance
with_step I set = with_hop I (λ w. I.hop w || set w)

-- "makes the plan stable": every group has one router then
unfoldable pub serves : Instance → (ℕ → Bool) → Bool
serves I set = stable (closure (reliance (with_step I set)) I.n) I.n

-- who then relies on whom, where the set is drawn from groups of two or more: a router of the set on listed routers alone, which are its
-- best client and the listed reflectors preferred to it, and every other router on whom it relied before
unfoldable pub left : Instance → (ℕ → Bool) → Relation
left I set w v = flag (relies I w v && (not (set w) || I.listed v))

-- "The set is drawn from groups of two or more and given as a number in the bits of Slip 11": the routers of the set with number x
unfoldable pub set_of : Instance → ℕ → ℕ → Bool
set_of I x w = ltb 0 (grouped_in I w) && bit_at x (bit_of I w)

-- "sets of the least size": how many reflectors are in a set
unfoldable pub reflectors_in : Instance → (ℕ → Bool) → ℕ
reflectors_in I set = count (λ w. flag (I.reflector w && set w)) I.n

-- x is the number of a set of s reflectors that serves
unfoldable pub serves_by : Instance → ℕ → ℕ → Bool
serves_by I s x = eqb (reflectors_in I (set_of I x)) s && serves I (set_of I x)

-- "the lowest number" of a set of s reflectors that serves; 2 ^ grouped_routers I if there is none
unfoldable pub lowest_by : Instance → ℕ → ℕ
lowest_by I s = seek (λ x. flag (serves_by I s x)) (2 ^ grouped_routers I)

-- "the least size" of a set that serves
unfoldable pub least_size : Instance → ℕ
least_size I = seek (λ s. flag (ltb (lowest_by I s) (2 ^ grouped_routers I))) (suc (grouped_routers I))

-- "among sets of the least size, the lowest number"
unfoldable pub hop_set : Instance → ℕ
hop_set I = lowest_by I (least_size I)

-- The same in plain facts: x is the number of a smallest set that serves, and the lowest.
pub record Smallest (I : Instance) (x : ℕ) : Type 0 where
  -- "given as a number in the bits of Slip 11": it has no other bits
  pub below : x < 2 ^ grouped_routers I
  -- "makes the plan stable"
  pub serving : serves I (set_of I x) ≡ true
  -- "No smaller set of reflectors anywhere in the plan may do": whatever set serves, also one with routers outside the groups
  pub least : (set : ℕ → Bool) → serves I set ≡ true → reflectors_in I (set_of I x) ≤ reflectors_in I set
  -- "among sets of the least size, the lowest number"
  pub lowest :
      (y : ℕ) → y < 2 ^ grouped_routers I → serves I (set_of I y) ≡ true → reflectors_in I (set_of I y) ≡ reflectors_in I (set_of I x) → x ≤ y

-- The promise. The theorem `hop-set` says that it holds of every network.
pub record HopSet (I : Instance) : Type 0 where
  -- the number is as asked for, and no other number is
  pub smallest : Smallest I (hop_set I)
  pub one : (x : ℕ) → Smallest I x → x ≡ hop_set I
  -- "The set is drawn from groups of two or more": unlisted reflectors without the step, so of role 1 or 3
  pub drawn : (x w : ℕ) → w < I.n → set_of I x w ≡ true → (1 ≤ grouped_in I w) × GroupedRouter I w
  -- .. and every such set has a number
  pub numbered :
      (set : ℕ → Bool)
      → (x : ℕ) × (x < 2 ^ grouped_routers I) × ((w : ℕ) → w < I.n → set_of I x w ≡ (ltb 0 (grouped_in I w) && set w))
  -- its size is the number of bits that are set
  pub size : (x : ℕ) → reflectors_in I (set_of I x) ≡ count (bit_n x) (grouped_routers I)
  -- "Some set always serves, and that is to be shown": all routers in groups of two or more
  pub always : serves I (λ w. ltb 0 (grouped_in I w)) ≡ true
  -- "a stable list gives 0", and no other does
  pub stable_list : (hop_set I ≡ 0) ↔ (stable (closure (reliance I) I.n) I.n ≡ true)
  -- Why routers outside the groups never help: a set serves exactly if its routers in the groups do.
  pub within_groups : (set : ℕ → Bool) → serves I set ≡ serves I (λ w. ltb 0 (grouped_in I w) && set w)
  -- What the routers then rely on; and a set serves exactly if no cycle is left.
  pub then : (x w v : ℕ) → w < I.n → reliance (with_step I (set_of I x)) w v ≡ left I (set_of I x) w v
  pub no_cycle_left : (set : ℕ → Bool) → serves I set ≡ stable (closure (left I set) I.n) I.n
