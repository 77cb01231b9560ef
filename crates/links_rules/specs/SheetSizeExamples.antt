-- Examples of the most links that a sheet may have, too long to be written out. Beside each stands what a misreading gives.
use Rattle.std.specs.Prelude.{ℕ, ◌/◌, ◌%◌, ◌≡◌, true, false, List, [], ◌∷◌}
use Rattle.base.specs.Tab.{joined}
use Rattle.links_rules.specs.Sheet.{sheet_ok}

-- the first m links between 23 routers, each of weight 1, loops among them
abbrev pub first_links : (m : ℕ) → List ℕ
first_links m = joined (λ k. k / 23 ∷ k % 23 ∷ 1 ∷ 0 ∷ []) m

pub record SheetSizeExamples : Type 0 where
  -- "up to 512 links", "or there are more than 512 links"
  pub most_links : sheet_ok (first_links 512) 23 ≡ true  -- below 512: false
  pub one_link_more : sheet_ok (first_links 513) 23 ≡ false  -- any number: true
