-- What a link sheet that is not refused is, in plain facts, check by check: document 02, "Distances from the link sheet" and "Cut-off
-- routers".
-- `..-facts` and `..-holds` say that a check passes exactly if its facts hold.
use Rattle.std.specs.Prelude.{ℕ, ◌+◌, ◌*◌, ◌%◌, ◌≤◌, ◌<◌, ◌≡◌, true, List, ◌↔◌, length, take, drop}
use Rattle.plan_contents.specs.HeaderFacts.{RouterCount}
use Rattle.plan_rules.specs.Rising.{PairBefore}
use Rattle.plan_rules.specs.Distances.{number_at, distance_in, way_in, distances_ok}
use Rattle.links_rules.specs.Sheet.{links_most, link_count, link_from, link_to, link_weight}
use Rattle.links_rules.specs.Walks.{Walk, sum, Least}

-- 11: four bytes a link, at most 512 links, each from and to below n, each weight at least 1, strictly rising by from and then to.
-- That a weight is at most 65,535 follows from its two bytes: `weight-most`.
pub record Sheet (s : List ℕ) (n : ℕ) : Type 0 where
  pub whole : length s % 4 ≡ 0
  pub most : link_count s ≤ links_most
  pub froms : (k : ℕ) → k < link_count s → link_from s k < n
  pub tos : (k : ℕ) → k < link_count s → link_to s k < n
  pub weights : (k : ℕ) → k < link_count s → 1 ≤ link_weight s k
  pub rising : (i j : ℕ) → i < j → j < link_count s → PairBefore (link_from s) (link_to s) i j

-- 12: every pair that has a walk has a least sum of at most 65,534
pub record Near (s : List ℕ) (u e : ℕ) : Type 0 where
  pub distance : ℕ
  pub least : Least s u e distance
  pub most : distance ≤ 65534

abbrev pub AllNear : List ℕ → ℕ → Type 0
AllNear s n = (u e : ℕ) → u < n → e < n → Walk s u e → Near s u e

-- what fails then: some pair has a walk and "a least sum above 65,534"
pub record Above (s : List ℕ) (u e : ℕ) : Type 0 where
  pub distance : ℕ
  pub least : Least s u e distance
  pub above : 65534 < distance

pub record SomeFar (s : List ℕ) (n : ℕ) : Type 0 where
  pub from : ℕ
  pub to : ℕ
  pub from_below : from < n
  pub to_below : to < n
  pub far : Above s from to

-- "the first check in order that fails now decides, not the lowest number": each number is given exactly if its check fails and those
-- before it pass, in the order 2, 11, 12, 9
pub record FirstDecides (n : ℕ) (s : List ℕ) (room number : ℕ) : Type 0 where
  pub two : (number ≡ 2) ↔ (RouterCount n → ⊥)
  pub eleven : (number ≡ 11) ↔ (RouterCount n × (Sheet s n → ⊥))
  pub twelve : (number ≡ 12) ↔ (RouterCount n × Sheet s n × SomeFar s n)
  pub nine : (number ≡ 9) ↔ (RouterCount n × Sheet s n × AllNear s n × (room < 2 * (n * n)))
  pub none : (number ≡ 0) ↔ (RouterCount n × Sheet s n × AllNear s n × (2 * (n * n) ≤ room))

-- a kind 3 body of n routers in two bytes a distance: "each entry is the least sum of weights over all walks, 0 on the diagonal", and
-- "65,535 for a pair with no walk" and for no other. So there is a way exactly if there is a walk; and the body passes row 6.
pub record LeastBody (s : List ℕ) (n : ℕ) (body : List ℕ) : Type 0 where
  pub long : length body ≡ 2 * (n * n)
  pub least : (u e : ℕ) → u < n → e < n → Walk s u e → Least s u e (distance_in 2 body n u e)
  pub no_walk : (u e : ℕ) → u < n → e < n → (number_at 2 body (u * n + e) ≡ 65535) ↔ (Walk s u e → ⊥)
  pub ways : (u e : ℕ) → u < n → e < n → (way_in 2 body n u e ≡ true) ↔ Walk s u e
  pub diagonal : (u : ℕ) → u < n → distance_in 2 body n u u ≡ 0
  pub passes : distances_ok 2 body n ≡ true

-- a call that returns r and leaves `after` of the buffer `out`: the first check that fails decides; a refused call changes no byte; one
-- that is not refused has written such a body, and "later ones are untouched"
pub record CallMeans (n : ℕ) (s : List ℕ) (r : ℕ) (out after : List ℕ) : Type 0 where
  pub decided : FirstDecides n s (length out) r
  pub unchanged : (r ≡ 0 → ⊥) → after ≡ out
  pub body : r ≡ 0 → LeastBody s n (take (2 * (n * n)) after)
  pub rest : r ≡ 0 → drop (2 * (n * n)) after ≡ drop (2 * (n * n)) out

-- a walk of less sum between the same routers: a walk that loops has one, so that a loop never matters
pub record Shorter {s : List ℕ} {i j : ℕ} (longer : Walk s i j) : Type 0 where
  pub walk : Walk s i j
  pub less : sum walk < sum longer
