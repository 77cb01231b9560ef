-- One list more in the figures, as the code counts it.
use Rattle.std.specs.Prelude.{ℕ, ◌+◌, ◌≤◌, ◌<◌, min, ◌≡◌, not, cond, ◌&&◌, List, eqb, length, get_or, drop}
use Rattle.base.specs.Lent.{Lent}
use Rattle.base.specs.Seek.{flag}
use Rattle.route_rules.specs.Instance.{Instance}
use Rattle.steady_rules.specs.Steady.{grouped_in}
use Rattle.net_verdict.specs.Assessed.{is_stable, highest_of}
use Rattle.figures_rules.specs.declared.report.Figures.{Figures}
use Rattle.figures_rules.specs.Figures.{higher_of}

-- the figures with one list more, whose network is I
unfoldable pub one_more : Instance → Figures → Figures
one_more I known =
    record {
      stable = known.stable + flag (is_stable I);
      suspect = known.suspect + flag (not (is_stable I));
      highest = cond (is_stable I) (higher_of known.highest (highest_of I)) known.highest;
    }

-- each of the first n counts is raised by what f says, and the bytes after them are as they were
pub record Raised (f : ℕ → ℕ) (n : ℕ) (before after : List ℕ) : Type 0 where
  pub within : (i : ℕ) → i < n → get_or after i 0 ≡ get_or before i 0 + f i
  pub rest : drop n after ≡ drop n before

-- there is room for one list more, of at most 64
pub record Countable (n : ℕ) (known : Figures) (by_rank by_router : List ℕ) : Type 0 where
  pub some : 1 ≤ n
  pub stable : known.stable < 64
  pub suspect : known.suspect < 64
  pub ranks_long : n ≤ length by_rank
  pub routers_long : n ≤ length by_router
  pub ranks_low : (r : ℕ) → r < n → get_or by_rank r 0 < 64
  pub routers_low : (w : ℕ) → w < n → get_or by_router w 0 < 64

-- the list is counted: what is returned, and the counts by rank and by router
pub record ListCounted (I : Instance) (known r : Figures) (by_rank by_router : Lent (List ℕ)) : Type 0 where
  pub figures : r ≡ one_more I known
  pub ranks : Raised (λ rank. flag (is_stable I && eqb (highest_of I) rank)) I.n by_rank.before by_rank.after
  pub routers : Raised (λ w. min 1 (grouped_in I w)) I.n by_router.before by_router.after
