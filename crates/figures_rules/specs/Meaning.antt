-- What the figures mean, over any networks of the same routers.
use Rattle.std.specs.Prelude.{ℕ, ◌+◌, ◌≤◌, ◌<◌, ◌≡◌, true, false, ◌↔◌, get_or, Some, None}
use Rattle.route_rules.specs.Instance.{Instance}
use Rattle.steady_rules.specs.Steady.{grouped_in, LabelShared}
use Rattle.net_verdict.specs.Assessed.{is_stable, labels_of, highest_of}
use Rattle.figures_rules.specs.Sums.{total, group_sizes}
use Rattle.figures_rules.specs.Figures.{stable_lists, suspect_lists, highest_stable, stable_with, grouped_lists}

-- the label that the verdict of a network gives router w
abbrev pub label_of : Instance → ℕ → ℕ
label_of I w = get_or (labels_of I) w 0

-- "the highest rank among the stable ones" is r: some stable list has it as its highest, and none has a higher one
pub record IsHighest (nets : ℕ → Instance) (m r : ℕ) : Type 0 where
  pub list : ℕ
  pub below : list < m
  pub stable : is_stable (nets list) ≡ true
  pub is : highest_of (nets list) ≡ r
  pub most : (k : ℕ) → k < m → is_stable (nets k) ≡ true → highest_of (nets k) ≤ r

-- r is the greatest number with a count
pub record GreatestCounted (counts : ℕ → ℕ) (r : ℕ) : Type 0 where
  pub counted : 1 ≤ counts r
  pub most : (s : ℕ) → 1 ≤ counts s → s ≤ r

-- Each list has the same n routers. The theorem `figures-mean` says that this holds of any such networks, where n is at least 1.
pub record FiguresMean (nets : ℕ → Instance) (n m : ℕ) : Type 0 where
  -- "Stable and suspect lists make up m."
  pub make_up : stable_lists nets m + suspect_lists nets m ≡ m
  -- "each rank from 0 to n minus 1": no stable list has another as its highest, so that the counts by rank sum to the stable lists
  pub ranks_below : (k : ℕ) → k < m → is_stable (nets k) ≡ true → highest_of (nets k) < n
  pub rank_sum : total (stable_with nets m) n ≡ stable_lists nets m
  -- "The routers' counts sum to the sizes of all such groups over all lists, counted from the verdicts.": from their labels
  pub router_sum : total (grouped_lists nets m) n ≡ total (λ k. group_sizes (label_of (nets k)) n) m
  -- a router is in a group of two or more exactly if another has its label, and a list is stable exactly if no router is in one
  pub grouped : (k w : ℕ) → k < m → w < n → (1 ≤ grouped_in (nets k) w) ↔ LabelShared (label_of (nets k)) n w
  pub stable : (k : ℕ) → k < m → (is_stable (nets k) ≡ true) ↔ ((w : ℕ) → w < n → grouped_in (nets k) w ≡ 0)
  -- "the highest rank among the stable ones": it is the greatest rank with a count
  pub highest : (r : ℕ) → (highest_stable nets m ≡ Some r) ↔ IsHighest nets m r
  pub counted : (r : ℕ) → (highest_stable nets m ≡ Some r) ↔ GreatestCounted (stable_with nets m) r
  -- "With no stable list the highest rank is reported as absent.", and with one it is not
  pub absent : (highest_stable nets m ≡ None) ↔ ((k : ℕ) → k < m → is_stable (nets k) ≡ false)
  pub uncounted : (highest_stable nets m ≡ None) ↔ ((r : ℕ) → stable_with nets m r ≡ 0)
  -- no count is above m: with at most 64 lists each fits a byte
  pub ranks_fit : (r : ℕ) → stable_with nets m r ≤ m
  pub routers_fit : (w : ℕ) → grouped_lists nets m w ≤ m

abbrev pub EveryFiguresMean : Type 0
EveryFiguresMean =
    (nets : ℕ → Instance) (n m : ℕ) → 1 ≤ n → ((k : ℕ) → k < m → (nets k).n ≡ n) → FiguresMean nets n m
