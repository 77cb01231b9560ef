-- `plan_read::lists::list_place`: the place so far is that of the next list.
use Rattle.std.proofs.Common.{◌≡◌, ◌≤◌}
use Rattle.plan_rules.specs.Lists.{list_place}
use Rattle.plan_read.proofs.lists.list_place.Given as goal

abbrev pub invariant-loop : goal.invariant-loop
invariant-loop l = (l.counter ≤ l.list) × (l.place ≡ list_place l.s l.counter)
