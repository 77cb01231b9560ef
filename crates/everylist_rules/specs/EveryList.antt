-- Stable for every list: source document 001's question of a plan, asked of no list in particular.
use Rattle.std.specs.Prelude.{ℕ, ◌≤◌, ◌<◌, ◌≡◌, Bool, true, false, not, cond, ◌&&◌, ◌||◌, List, [], ◌↔◌, length}
use Rattle.base.specs.Below.{any_below}
use Rattle.graph_groups.specs.Closure.{closure}
use Rattle.graph_groups.specs.Groups.{stable}
use Rattle.route_rules.specs.Instance.{Instance}
use Rattle.route_rules.specs.Preference.{nearer}
use Rattle.route_rules.specs.Reliance.{reliance}
use Rattle.route_theorems.specs.HopStep.{EveryReflectorSteps}
use Rattle.steady_rules.specs.Numbers.{numbers_where, has, Occurs, Rises}
use Rattle.everylist_rules.specs.Pairs.{is_pair, NoPairCycle, has_left, found}
-- the same network with another list
pub use Rattle.route_theorems.specs.HopStep.{with_list}

-- the verdict on that list
abbrev pub stable_for : Instance → (ℕ → Bool) → Bool
stable_for I listed = stable (closure (reliance (with_list I listed)) I.n) I.n

-- no pair is left
unfoldable pub none_left : Instance → Bool
none_left I = not (any_below (has_left I) I.n)

-- 1: yes, stable for every list; 0: no, suspect with the list that is found; 2: undecided
unfoldable pub every_list : Instance → ℕ
every_list I = cond (none_left I) 1 (cond (stable_for I (found I)) 2 0)

-- the list given with the answer, rising: that of a no, else nobody
unfoldable pub suspect_list : Instance → List ℕ
suspect_list I = cond (none_left I || stable_for I (found I)) [] (numbers_where (found I) I.n)

-- the listed routers of an instance play no part in the answer, see `listless`
abbrev pub Listless : Instance → Type 0
Listless I = (listed : ℕ → Bool) → (every_list (with_list I listed) ≡ every_list I) × (suspect_list (with_list I listed) ≡ suspect_list I)

-- w and v share a client
unfoldable pub sharing : Instance → ℕ → ℕ → Bool
sharing I w v = any_below (λ c. is_pair I w c && is_pair I v c) I.n

-- No client has two parents. Parents with the step, and such as have no way to it, do not count.
abbrev pub SingleParents : Instance → Type 0
SingleParents I = (w v : ℕ) → w < I.n → v < I.n → sharing I w v ≡ true → w ≡ v

-- a client of others: w is not its neighbour
abbrev pub OfOthers : Instance → ℕ → ℕ → Type 0
OfOthers I w e = (e < I.n) × (I.reflector e ≡ false) × (I.neighbour w e ≡ false)

-- Two reflectors that can stand in for one another. The order and the ways asked for are over the clients of others. That they order the
-- clients which they share alike is not needed, and it is not enough: `shared_order_alone` in Examples has that, and is undecided.
pub record Alike (I : Instance) (w v : ℕ) : Type 0 where
  -- they have the same clients
  pub clients : (e : ℕ) → e < I.n → is_pair I w e ≡ is_pair I v e
  -- they have a way to the same clients of others, and order these alike
  pub ways : (e : ℕ) → OfOthers I w e → I.way w e ≡ I.way v e
  pub order : (e f : ℕ) → OfOthers I w e → OfOthers I w f → I.way w e ≡ true → I.way w f ≡ true → nearer I w e f ≡ nearer I v e f
  -- they have sessions with the same reflectors outside: those that share no client with them
  pub sessions : (u : ℕ) → u < I.n → I.reflector u ≡ true → sharing I w u ≡ false → I.neighbour w u ≡ I.neighbour v u

-- reflectors that share a client are alike; so it is where no client has two parents
abbrev pub Clusters : Instance → Type 0
Clusters I = (w v : ℕ) → w < I.n → v < I.n → sharing I w v ≡ true → Alike I w v

-- The field's guideline: every reflector is nearer to each of its own clients than to any client of a neighbouring reflector that is not
-- also its own. It is asked of clients alone that the reflector has a way to, and of reflectors without the step.
abbrev pub OwnClientsNearer : Instance → Type 0
OwnClientsNearer I =
    (w c v e : ℕ) → w < I.n → c < I.n → v < I.n → e < I.n → is_pair I w c ≡ true → is_pair I v e ≡ true
    → I.neighbour w v ≡ true → I.way w e ≡ true → I.neighbour w e ≡ false → nearer I w c e ≡ true

-- every list of routers whatever, listed reflectors and the empty list among them, is stable
abbrev pub StableForEveryList : Instance → Type 0
StableForEveryList I = (listed : ℕ → Bool) → stable_for I listed ≡ true

-- The promise. The theorem `every-list-means` says that it holds of every network.
pub record EveryListMeans (I : Instance) : Type 0 where
  pub answers : every_list I ≤ 2
  -- yes exactly if there is no cycle of pairs; then every list is stable
  pub no_cycle : (every_list I ≡ 1) ↔ NoPairCycle I
  pub always : every_list I ≡ 1 → StableForEveryList I
  -- lists of clients are enough: of a list that is suspect the clients alone are
  pub clients_alone : (listed : ℕ → Bool) → stable_for I listed ≡ false → stable_for I (λ v. listed v && not (I.reflector v)) ≡ false
  -- no exactly if the list found is suspect; it is a list of clients
  pub suspect : (every_list I ≡ 0) ↔ (stable_for I (found I) ≡ false)
  pub clients : (e : ℕ) → found I e ≡ true → (e < I.n) × (I.reflector e ≡ false)
  -- the list given with a no is that list, and it is suspect; it is not empty
  pub given : every_list I ≡ 0 → (e : ℕ) → Occurs e (suspect_list I) ↔ (found I e ≡ true)
  pub given_suspect : every_list I ≡ 0 → stable_for I (has (suspect_list I)) ≡ false
  pub somebody : every_list I ≡ 0 → 1 ≤ length (suspect_list I)
  -- nobody is given with another answer; the list given rises, and has no more than n routers
  pub nobody : (every_list I ≡ 0 → ⊥) → suspect_list I ≡ []
  pub rises : Rises (suspect_list I)
  pub fits : length (suspect_list I) ≤ I.n
  -- undecided exactly if pairs are left and the list found is stable
  pub undecided : (every_list I ≡ 2) ↔ ((none_left I ≡ false) × (stable_for I (found I) ≡ true))
  -- never undecided where reflectors that share clients are alike: then yes exactly if every list is stable
  pub decided : Clusters I → every_list I ≡ 2 → ⊥
  pub exact : Clusters I → (every_list I ≡ 1) ↔ StableForEveryList I
  -- .. nor where no client has two parents
  pub single : SingleParents I → Clusters I
  -- where own clients are nearer, and where every reflector has the step: yes
  pub guideline : OwnClientsNearer I → every_list I ≡ 1
  pub step : EveryReflectorSteps I → every_list I ≡ 1
  -- "the plan's own lists play no part"
  pub listless : Listless I
