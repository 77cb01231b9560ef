-- How parents are counted while the sessions are read, router by router: of each router those whose first number it is.
-- `routers` is the body of kind 1, `s` that of kind 2.
use Rattle.std.specs.Prelude.{ℕ, ◌+◌, ◌<◌, ◌≡◌, Bool, true, false, not, ◌&&◌, ◌||◌, List, leb, eqb, length, get_or, set}
use Rattle.base.specs.Below.{any_below}
use Rattle.base.specs.Seek.{flag, count}
use Rattle.plan_rules.specs.Routers.{role, reflector_in}
use Rattle.plan_rules.specs.Sessions.{pairs}

-- With the sessions of the routers before v read, a neighbour p counts for u if p is a reflector. If u is one too, its count is kept only
-- until its own sessions are read, since row 13 asks for no count of a reflector.
abbrev pub counts_for : List ℕ → ℕ → ℕ → ℕ → ℕ → Bool
counts_for routers n v u p = reflector_in routers n p && (not (reflector_in routers n u) || leb v u)

-- how many count for u, in the first j sessions
unfoldable pub counted : List ℕ → List ℕ → ℕ → ℕ → ℕ → ℕ → ℕ
counted routers s n v j u = count (λ p. flag (counts_for routers n v u p && any_below (pairs s u p) j)) n

pub record Counted (routers s : List ℕ) (n v j : ℕ) (counts : List ℕ) : Type 0 where
  pub size : length counts ≡ 64
  pub is : (u : ℕ) → u < 64 → get_or counts u 0 ≡ counted routers s n v j u

-- the counts before v's own sessions, by whether it is a reflector
abbrev pub forgotten : Bool → ℕ → List ℕ → List ℕ
forgotten true v counts = set counts v 0
forgotten false v counts = counts

-- the counts with one more for u
abbrev pub raised : List ℕ → ℕ → List ℕ
raised counts u = set counts u (get_or counts u 0 + 1)

-- the counts after a session of v with w, by whether v is a reflector, and whether w is
abbrev pub noted : Bool → Bool → ℕ → ℕ → List ℕ → List ℕ
noted true second v w counts = raised counts w
noted false true v w counts = raised counts v
noted false false v w counts = counts

-- v has at most four by its count, or is a reflector
abbrev pub few_counted : List ℕ → List ℕ → ℕ → Bool
few_counted routers counts v = leb (get_or counts v 0) 4 || not (eqb (role routers v) 2)
