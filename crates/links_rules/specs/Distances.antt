-- Document 02, "Distances from the link sheet" and "Cut-off routers": what the call returns and writes.
use Rattle.std.specs.Prelude.{ℕ, ◌*◌, ◌≡◌, Bool, true, List, ◌++◌, leb, length, drop}
use Rattle.std.proofs.Math.Option.{Option, none, some}
use Rattle.base.specs.Below.{all_below}
use Rattle.plan_contents.specs.Header.{router_count_ok}
use Rattle.plan_rules.specs.Distances.{body_of}
use Rattle.plan_rules.specs.Refusal.{refuse}
use Rattle.links_rules.specs.Sheet.{sheet_ok}
use Rattle.plan_rules.specs.Refused.{unless_refused}
use Rattle.links_rules.specs.Sums.{Sums, least_sums}

-- "Slip 1 writes 65,535 for a pair with no walk, so 12 is left for sums that are too large.": a least sum is too large "above 65,534"
abbrev pub fits : Option ℕ → Bool
fits none = true
fits (some d) = leb d 65534

-- 12 is given if some pair has a walk and a least sum that is too large
unfoldable pub sums_ok : Sums → ℕ → Bool
sums_ok D n = all_below (λ u. all_below (λ e. fits (D u e)) n) n

-- "An n outside 1 to 64 gives refusal 2. It refuses with 11 .., then with 12 .., and both come after 2 and before 9."
-- "The buffer needs 2n² bytes": `room` is its length.
unfoldable pub distances_refusal : ℕ → List ℕ → ℕ → ℕ
distances_refusal n s room =
    refuse (router_count_ok n) 2
    (refuse (sheet_ok s n) 11
    (refuse (sums_ok (least_sums s n) n) 12
    (refuse (leb (2 * (n * n)) room) 9 0)))

-- "each entry is the least sum of weights over all walks", "65,535 for a pair with no walk"
abbrev pub distance_of : Option ℕ → ℕ
distance_of none = 65535
distance_of (some d) = d

-- "It writes a kind 3 body": row by row, each distance in two bytes, low byte first
unfoldable pub sheet_body : List ℕ → ℕ → List ℕ
sheet_body s n = body_of 2 (λ u e. distance_of (least_sums s n u e)) n

-- what the call leaves of the buffer: "later ones are untouched"
unfoldable pub distances_after : ℕ → List ℕ → List ℕ → List ℕ
distances_after n s out =
    unless_refused (distances_refusal n s (length out)) out (sheet_body s n ++ drop (2 * (n * n)) out)

-- the call, which returns r, and `after`, which it leaves of the buffer
pub record DistancesCall (n : ℕ) (s : List ℕ) (r : ℕ) (out after : List ℕ) : Type 0 where
  pub number : r ≡ distances_refusal n s (length out)
  pub bytes : after ≡ distances_after n s out
