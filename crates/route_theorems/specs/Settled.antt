-- The settled table.
use Rattle.std.specs.Prelude.{ℕ, zero, suc, ◌+◌, List, replicate}
use Rattle.base.specs.Tab.{tab}
use Rattle.route_rules.specs.Instance.{Instance, Route, nothing}
use Rattle.route_rules.specs.Activation.{choose, held}

-- every router chooses at once, reading one table
unfoldable pub choose_all : Instance → List Route → List Route
choose_all I t = tab (λ w. choose I w (held t)) I.n

-- .. so many times over, from the table in which nobody holds anything
unfoldable pub chosen_after : Instance → ℕ → List Route
chosen_after I zero = replicate I.n nothing
chosen_after I (suc k) = choose_all I (chosen_after I k)

-- the settled table, where the highest rank is R
unfoldable pub settled_table : Instance → ℕ → List Route
settled_table I R = chosen_after I (R + 2)
