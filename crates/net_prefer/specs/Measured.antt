-- An instance with the distances and ways of a body of kind 3, each of `width` bytes, whatever its roles, sessions and list.
use Rattle.std.specs.Prelude.{ℕ, ◌<◌, List, ◌≡◌}
use Rattle.plan_rules.specs.Distances.{distance_in, is_way, way_in}
use Rattle.route_rules.specs.Instance.{Instance}

pub record Measured (I : Instance) (width : ℕ) (distances : List ℕ) (n : ℕ) : Type 0 where
  pub dist : I.dist ≡ distance_in width distances n
  pub way : I.way ≡ way_in width distances n

-- In it the distance from w to e is the one read, and w has a way to e unless that is the distance of no way.
pub record ReadAs (I : Instance) (w e distance : ℕ) : Type 0 where
  pub dist : I.dist w e ≡ distance
  pub way : I.way w e ≡ is_way distance

-- In it two numbers are in the order of the distances from w to e and f.
pub record Ordered (I : Instance) (w e f first second : ℕ) : Type 0 where
  pub nearer : first < second → I.dist w e < I.dist w f
  pub tie : first ≡ second → I.dist w e ≡ I.dist w f
  pub farther : second < first → I.dist w f < I.dist w e
