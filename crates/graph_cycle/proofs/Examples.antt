-- The examples, worked out from the rules.
use mathlib.Core.Path.{refl}
use Rattle.base.specs.Seek.{seek, highest}
use Rattle.base.specs.Tab.{tab}
use Rattle.graph_groups.specs.Closure.{closing}
use Rattle.graph_groups.specs.Groups.{together, grouped}
use Rattle.graph_cycle.specs.Cycle.{start, next, walk, met_again_at, met_first_at, repeated_part, cycle_in, cycle}
use Rattle.graph_cycle.specs.Examples.{grouping, turning, CycleExamples}

pub cycle-examples : CycleExamples
unfolding grouping turning closing together grouped start next walk met_again_at met_first_at repeated_part cycle_in cycle seek highest tab
cycle-examples = record { starts_in_a_group = refl; walk = refl; from_the_first_met_twice = refl; whole_walk = refl }
