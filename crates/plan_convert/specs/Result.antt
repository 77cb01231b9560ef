-- The table of contents of a converted plan, from that of the plan.
use Rattle.std.specs.Prelude.{ℕ, ◌+◌, ◌*◌, List, [], ◌∷◌}
use Rattle.plan_contents.specs.declared.entries.Entry.{Entry}
use Rattle.plan_contents.specs.Contents.{routers_entry, sessions_entry, distances_entry, lists_entry}

-- n routers, distances of `to` bytes
abbrev pub result_contents : ℕ → ℕ → List Entry → List Entry
result_contents to n table =
    routers_entry table
    ∷ sessions_entry table
    ∷ record { kind = 3; offset = (distances_entry table).offset; size = to * (n * n) }
    ∷ record { kind = 4; offset = (distances_entry table).offset + to * (n * n); size = (lists_entry table).size }
    ∷ []
