-- Document 01, "Refusal table, in order of checking": the rows of a plan, 1 to 7, and 13 of document 02, "after 5 and before 6".
use Rattle.std.specs.Prelude.{ℕ, List, Bool, true, false, length}
use Rattle.plan_contents.specs.declared.entries.Entry.{Entry}
use Rattle.plan_contents.specs.Header.{header_ok, width, router_count, router_count_ok}
use Rattle.plan_contents.specs.Contents.{contents_of, contents_ok, body, routers_entry, sessions_entry, distances_entry, lists_entry}
use Rattle.plan_rules.specs.Routers.{routers_ok}
use Rattle.plan_rules.specs.Sessions.{sessions_ok}
use Rattle.plan_rules.specs.Parents.{parents_ok}
use Rattle.plan_rules.specs.Distances.{distances_ok}
use Rattle.plan_rules.specs.Lists.{lists_ok}

-- a check that fails decides; one that passes leaves the decision to the rest
unfoldable pub refuse : Bool → ℕ → ℕ → ℕ
refuse true number rest = rest
refuse false number rest = number

-- rows 4, 5, 13, 6 and 7: the four bodies, each read as its part of the plan
unfoldable pub body_checks : List ℕ → List Entry → ℕ → ℕ → ℕ → ℕ
body_checks plan table width n rest =
    refuse (routers_ok (body plan (routers_entry table)) n) 4
    (refuse (sessions_ok (body plan (sessions_entry table)) n) 5
    (refuse (parents_ok (body plan (routers_entry table)) (body plan (sessions_entry table)) n) 13
    (refuse (distances_ok width (body plan (distances_entry table)) n) 6
    (refuse (lists_ok (body plan (lists_entry table)) n) 7 rest))))

-- a plan's own checks in order, before those of a call, which are `rest`
unfoldable pub plan_checks : List ℕ → ℕ → ℕ
plan_checks plan rest =
    refuse (header_ok plan) 1
    (refuse (router_count_ok (router_count plan)) 2
    (refuse (contents_ok (contents_of plan) (width plan) (router_count plan) (length plan)) 3
    (body_checks plan (contents_of plan) (width plan) (router_count plan) rest)))

-- the number that a plan is refused with, 0 for none
unfoldable pub plan_refusal : List ℕ → ℕ
plan_refusal plan = plan_checks plan 0
