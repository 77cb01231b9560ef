-- The examples, worked out from the rules.
use mathlib.Core.Path.{refl}
use Rattle.base.specs.Below.{all_below}
use Rattle.base.specs.Seek.{seek, highest}
use Rattle.base.specs.Tab.{tab}
use Rattle.graph_groups.specs.Closure.{closing}
use Rattle.graph_groups.specs.Groups.{together, label, stable, grouped}
use Rattle.graph_groups.specs.Examples.{looped, chained, GroupExamples}

pub group-examples : GroupExamples
unfolding looped chained closing together label stable grouped all_below seek highest tab
group-examples = record {
  reached = refl;
  shared = refl;
  labels = refl;
  not_every_group = refl;
  every_group = refl;
  in_groups = refl;
}
