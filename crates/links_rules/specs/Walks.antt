-- Document 02, "Distances from the link sheet": "the least sum of weights over all walks".
use Rattle.std.specs.Prelude.{ℕ, ◌+◌, ◌≤◌, ◌<◌, ◌≡◌, List, ◌⊎◌}
use Rattle.std.proofs.Math.Option.{Option, none, some}
use Rattle.links_rules.specs.Sheet.{link_count, link_from, link_to, link_weight}

-- a walk along links of the sheet s: it stays where it is, or goes along link k and on from there
pub data Walk (s : List ℕ) : ℕ → ℕ → Type 0 where
  stay : {i j : ℕ} → i ≡ j → Walk s i j
  along : {i j : ℕ} (k : ℕ) → k < link_count s → link_from s k ≡ i → Walk s (link_to s k) j → Walk s i j

-- the sum of its weights
unfoldable pub sum : {s : List ℕ} {i j : ℕ} → Walk s i j → ℕ
sum (stay e) = 0
sum {s} (along k l e rest) = link_weight s k + sum rest

-- d is the least sum: some walk has it, and none has less
pub record Least (s : List ℕ) (i j d : ℕ) : Type 0 where
  pub walk : Walk s i j
  pub has : sum walk ≡ d
  pub least : (other : Walk s i j) → d ≤ sum other

-- the least sum, or none where there is no walk
unfoldable pub LeastIs : List ℕ → ℕ → ℕ → Option ℕ → Type 0
LeastIs s i j none = Walk s i j → ⊥
LeastIs s i j (some d) = Least s i j d

-- it goes along a link from a router to itself
unfoldable pub Loops : {s : List ℕ} {i j : ℕ} → Walk s i j → Type 0
Loops (stay e) = ⊥
Loops {s} (along k l e rest) = (link_from s k ≡ link_to s k) ⊎ Loops rest
