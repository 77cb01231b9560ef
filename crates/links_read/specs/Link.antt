-- A link as the code reads it.
use Rattle.std.specs.Prelude.{ℕ, ◌≡◌, List}
use Rattle.links_rules.specs.Sheet.{link_from, link_to, link_weight}
use Rattle.links_read.specs.declared.Link.{Link}

-- link k of the sheet s
pub record LinkIs (s : List ℕ) (k : ℕ) (link : Link) : Type 0 where
  pub from : link.from ≡ link_from s k
  pub to : link.to ≡ link_to s k
  pub weight : link.weight ≡ link_weight s k
