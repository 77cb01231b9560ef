-- What holds where no router is listed (document 02, "Prefix gone everywhere": "A list with count 0 is now legal: no outside route is left.").
use Rattle.std.specs.Prelude.{ℕ, suc, ◌+◌, ◌≤◌, ◌<◌, ◌≡◌, Bool, true, false, not, cond, ◌&&◌, List, ◌++◌, replicate}
use Rattle.std.proofs.Math.Option.{none}
use Rattle.base.specs.Below.{any_below}
use Rattle.base.specs.Seek.{flag, highest}
use Rattle.route_rules.specs.Instance.{Instance, Route, nothing}
use Rattle.route_rules.specs.Reliance.{best_client, offer, relies}
use Rattle.route_rules.specs.Activation.{run_acts}
use Rattle.route_rules.specs.Rounds.{rounds}
use Rattle.route_theorems.specs.Settled.{settled_table}
use Rattle.route_theorems.specs.Claims.{IsTable, Steady}

-- no router of the network is listed
abbrev pub NoneListed : Instance → Type 0
NoneListed I = (v : ℕ) → v < I.n → I.listed v ≡ false

-- "A router's rank is 0 if it relies on none, else one more than the highest rank it relies on."
abbrev pub RankRule : Instance → (ℕ → ℕ) → Type 0
RankRule I rank = (w : ℕ) → w < I.n → rank w ≡ highest (λ v. cond (relies I w v) (suc (rank v)) 0) I.n

-- "client with a parent": it neighbours a reflector
unfoldable pub has_parent : Instance → ℕ → Bool
has_parent I w = not (I.reflector w) && any_below (λ v. I.neighbour w v && I.reflector v) I.n

-- the table in which every router holds nothing
abbrev pub empty_table : Instance → List Route
empty_table I = replicate I.n nothing

-- Ranks and rounds; rank is any numbering that obeys the rule.
pub record EndsWithNothing (I : Instance) (rank : ℕ → ℕ) : Type 0 where
  -- "reflectors have rank 0,
  pub reflector_rank : (w : ℕ) → w < I.n → I.reflector w ≡ true → rank w ≡ 0
  -- an unlisted client with a parent has rank 1,"
  pub parent_rank : (w : ℕ) → w < I.n → has_parent I w ≡ true → rank w ≡ 1
  -- .. and any other router 0, so that the highest rank is 1 if there is such a client, else 0
  pub other_rank : (w : ℕ) → w < I.n → has_parent I w ≡ false → rank w ≡ 0
  pub highest_rank : highest rank I.n ≡ flag (any_below (has_parent I) I.n)
  -- "and all end with nothing."
  pub settled : settled_table I (highest rank I.n) ≡ empty_table I
  -- "old routes are flushed within the promised rounds from any left-over table": nothing is asked of what a router holds at the start
  pub flushed :
      (t : List Route) → IsTable I t → (acts : List ℕ) → highest rank I.n + 2 ≤ rounds I.n acts → run_acts I t acts ≡ empty_table I
  -- .. and no later act brings a route back
  pub stays_flushed : (t : List Route) → IsTable I t → (acts : List ℕ) → highest rank I.n + 2 ≤ rounds I.n acts
      → (more : List ℕ) → run_acts I t (acts ++ more) ≡ empty_table I

-- The theorem `nobody-listed` says that this holds wherever no router is listed.
pub record NobodyListed (I : Instance) : Type 0 where
  -- "Nobody offers anything,"
  pub no_best_client : (v : ℕ) → best_client I v ≡ none
  pub no_offer : (v : ℕ) → v < I.n → offer I v ≡ none
  -- so a reflector relies on no one, and a client on each neighbouring reflector alone
  pub reflector_relies : (w v : ℕ) → w < I.n → v < I.n → I.reflector w ≡ true → relies I w v ≡ false
  pub client_relies :
      (w v : ℕ) → w < I.n → v < I.n → I.reflector w ≡ false → relies I w v ≡ (I.neighbour w v && I.reflector v)
  -- The list is stable: who is relied on relies on no one, itself included, so no chain of reliances leads back to where it starts.
  pub no_chain : (w v u : ℕ) → w < I.n → v < I.n → u < I.n → relies I w v ≡ true → relies I v u ≡ false
  -- so there are ranks, and whatever obeys their rule is as said above
  pub ranks_exist : RankRule I (λ w. flag (has_parent I w))
  pub ranked : (rank : ℕ → ℕ) → RankRule I rank → EndsWithNothing I rank
  -- the one table that no act changes has nothing at every router
  pub steady : Steady I (empty_table I)
  pub only : (t : List Route) → IsTable I t → Steady I t → t ≡ empty_table I
