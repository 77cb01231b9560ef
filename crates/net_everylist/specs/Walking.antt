-- The walk's steps as the code holds them, a byte for each reflector's nearest foreign client and one for the next reflector.
use Rattle.std.specs.Prelude.{ℕ, ◌<◌, ◌≡◌, true, List, length, get_or}
use Rattle.std.proofs.Math.Option.{some}
use Rattle.route_rules.specs.Instance.{Instance}
use Rattle.everylist_rules.specs.Pairs.{has_left, nearest_foreign, next_reflector}

-- the step from w
pub record NextStep (I : Instance) (w client next : ℕ) : Type 0 where
  pub below : (client < I.n) × (next < I.n)
  pub along : nearest_foreign I w ≡ some client
  pub to : next_reflector I w ≡ next

-- every byte is below 64
abbrev pub Small : List ℕ → Type 0
Small bytes = (w : ℕ) → get_or bytes w 0 < 64

-- the steps from all reflectors with clients left
pub record Steps (I : Instance) (clients nexts : List ℕ) : Type 0 where
  pub small_clients : Small clients
  pub small_nexts : Small nexts
  pub steps : (w : ℕ) → w < I.n → has_left I w ≡ true → NextStep I w (get_or clients w 0) (get_or nexts w 0)
