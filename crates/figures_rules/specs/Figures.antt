-- Document 02, "The plan's year in figures": "one report over all lists of a plan". `nets k` is the network with list k, and m lists are
-- counted, those below m.
use Rattle.std.specs.Prelude.{ℕ, zero, suc, max, not, cond, ◌&&◌, eqb, Option, Some, None}
use Rattle.base.specs.Seek.{flag, count}
use Rattle.route_rules.specs.Instance.{Instance}
use Rattle.steady_rules.specs.Steady.{grouped_in}
use Rattle.net_verdict.specs.Assessed.{is_stable, highest_of}
use Rattle.figures_rules.specs.declared.report.Figures.{Figures}

-- "stable lists"
unfoldable pub stable_lists : (nets : ℕ → Instance) → ℕ → ℕ
stable_lists nets m = count (λ k. flag (is_stable (nets k))) m

-- "suspect lists"
unfoldable pub suspect_lists : (nets : ℕ → Instance) → ℕ → ℕ
suspect_lists nets m = count (λ k. flag (not (is_stable (nets k)))) m

-- the higher of what the lists before gave, and of one more rank
abbrev pub higher_of : Option ℕ → ℕ → Option ℕ
higher_of None rank = Some rank
higher_of (Some highest) rank = Some (max highest rank)

-- "the highest rank among the stable ones"; "With no stable list the highest rank is reported as absent."
unfoldable pub highest_stable : (nets : ℕ → Instance) → ℕ → Option ℕ
highest_stable nets zero = None
highest_stable nets (suc m) = cond (is_stable (nets m)) (higher_of (highest_stable nets m) (highest_of (nets m))) (highest_stable nets m)

-- "how many stable lists had each rank .. as their highest"
unfoldable pub stable_with : (nets : ℕ → Instance) → ℕ → (rank : ℕ) → ℕ
stable_with nets m rank = count (λ k. flag (is_stable (nets k) && eqb (highest_of (nets k)) rank)) m

-- "for each router in how many lists it was in a group of two or more"
unfoldable pub grouped_lists : (nets : ℕ → Instance) → ℕ → (w : ℕ) → ℕ
grouped_lists nets m w = count (λ k. grouped_in (nets k) w) m

-- what the report returns beside the counts by rank and by router
unfoldable pub figures_of : (nets : ℕ → Instance) → ℕ → Figures
figures_of nets m = record { stable = stable_lists nets m; suspect = suspect_lists nets m; highest = highest_stable nets m }
