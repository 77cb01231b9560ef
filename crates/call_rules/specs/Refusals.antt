-- Document 01, "Refusal table, in order of checking", rows 8 to 10, and 15 of document 02: what each call is refused for beyond its plan.
use Rattle.std.specs.Prelude.{ℕ, ◌*◌, List, Bool, ◌&&◌, leb, ltb, length, get_or}
use Rattle.base.specs.Below.{all_below}
use Rattle.plan_contents.specs.Header.{router_count}
use Rattle.plan_rules.specs.EgressLists.{list_count}
use Rattle.plan_rules.specs.Refusal.{refuse, plan_checks}
use Rattle.route_rules.specs.Instance.{Instance}
use Rattle.net_rules.specs.FromPlan.{instance_of}
use Rattle.net_tables.specs.TableBytes.{table_rule}
use Rattle.steady_rules.specs.Steady.{grouped_routers, steady_count}

-- Row 8: "the list asked for is m or more, or a router asked for, or named in a sequence of acts, is n or more".
abbrev pub has_list : List ℕ → ℕ → Bool
has_list plan k = ltb k (list_count plan)

abbrev pub has_router : List ℕ → ℕ → Bool
has_router plan w = ltb w (router_count plan)

-- of the whole sequence, also past the limit
unfoldable pub sequence_ok : List ℕ → ℕ → Bool
sequence_ok acts n = all_below (λ i. ltb (get_or acts i 0) n) (length acts)

-- rows up to 8 of a call whose list and routers are `ok`, before its other checks, which are `rest`
abbrev pub asked_checks : List ℕ → Bool → ℕ → ℕ
asked_checks plan ok rest = plan_checks plan (refuse ok 8 rest)

-- a list's numbers handed back
unfoldable pub egress_list_refusal : List ℕ → ℕ → ℕ
egress_list_refusal plan k = asked_checks plan (has_list plan k) 0

-- "Each router number handed over in these is a router asked for."
unfoldable pub compare_refusal : List ℕ → ℕ → ℕ → ℕ → ℕ
compare_refusal plan w e f = asked_checks plan (has_router plan w && has_router plan e && has_router plan f) 0

unfoldable pub relies_refusal : List ℕ → ℕ → ℕ → ℕ → ℕ
relies_refusal plan k w v = asked_checks plan (has_list plan k && has_router plan w && has_router plan v) 0

-- rows up to 8 of an activation and of a run
abbrev pub router_refusal : List ℕ → ℕ → ℕ → ℕ
router_refusal plan k w = asked_checks plan (has_list plan k && has_router plan w) 0

abbrev pub sequence_refusal : List ℕ → ℕ → List ℕ → ℕ
sequence_refusal plan k acts = asked_checks plan (has_list plan k && sequence_ok acts (router_count plan)) 0

-- Row 9: "The verdict call needs n bytes for labels, n for ranks, 2n for the settled table, n for the ring." The ring is called cycle.
unfoldable pub buffers_ok : ℕ → List ℕ → List ℕ → List ℕ → List ℕ → Bool
buffers_ok n labels ranks table cycle =
    leb n (length labels) && leb n (length ranks) && leb (2 * n) (length table) && leb n (length cycle)

unfoldable pub verdict_refusal : List ℕ → ℕ → List ℕ → List ℕ → List ℕ → List ℕ → ℕ
verdict_refusal plan k labels ranks table cycle =
    asked_checks plan (has_list plan k) (refuse (buffers_ok (router_count plan) labels ranks table cycle) 9 0)

-- Row 15 (document 02): "It refuses with 15 if more than 12 routers lie in such groups, after 8 and before 9": groups of two or more.
abbrev pub few_grouped : Instance → Bool
few_grouped I = leb (grouped_routers I) 12

-- Row 9: "The call needs two bytes for each number listed".
abbrev pub numbers_long : Instance → List ℕ → Bool
numbers_long I out = leb (2 * steady_count I) (length out)

unfoldable pub steady_checks : Instance → List ℕ → ℕ
steady_checks I out = refuse (few_grouped I) 15 (refuse (numbers_long I out) 9 0)

unfoldable pub steady_refusal : List ℕ → ℕ → List ℕ → ℕ
steady_refusal plan k out = asked_checks plan (has_list plan k) (steady_checks (instance_of plan k) out)

-- Row 15 (document 02, "Where to load the hop step"): "Refusal 15 covers this call too, in the same place."
unfoldable pub hop_set_refusal : List ℕ → ℕ → ℕ
hop_set_refusal plan k = asked_checks plan (has_list plan k) (refuse (few_grouped (instance_of plan k)) 15 0)

-- .. and the call that grades a list
unfoldable pub grade_refusal : List ℕ → ℕ → ℕ
grade_refusal plan k = asked_checks plan (has_list plan k) (refuse (few_grouped (instance_of plan k)) 15 0)

-- Row 9: "An act or a run needs 2n bytes of table." Row 10: "a held-route table breaks its rule".
abbrev pub table_long : Instance → List ℕ → Bool
table_long I table = leb (2 * I.n) (length table)

unfoldable pub table_checks : Instance → List ℕ → ℕ
table_checks I table = refuse (table_long I table) 9 (refuse (table_rule I table) 10 0)

unfoldable pub activate_refusal : List ℕ → ℕ → ℕ → List ℕ → ℕ
activate_refusal plan k w table = asked_checks plan (has_list plan k && has_router plan w) (table_checks (instance_of plan k) table)

unfoldable pub run_refusal : List ℕ → ℕ → List ℕ → List ℕ → ℕ
run_refusal plan k acts table =
    asked_checks plan (has_list plan k && sequence_ok acts (router_count plan)) (table_checks (instance_of plan k) table)

-- Row 9 (document 02, "The plan's year in figures"): "The call needs n bytes for the counts by rank and n for those by router". It takes no
-- list and no router, so that row 8 does not stand for it.
unfoldable pub counts_ok : ℕ → List ℕ → List ℕ → Bool
counts_ok n ranks routers = leb n (length ranks) && leb n (length routers)

unfoldable pub figures_refusal : List ℕ → List ℕ → List ℕ → ℕ
figures_refusal plan ranks routers = plan_checks plan (refuse (counts_ok (router_count plan) ranks routers) 9 0)

-- Row 9: the call that asks whether every list is stable needs n bytes for the list that it may give. It takes no list and no router
-- either: the plan's rows and row 9 alone stand for it.
abbrev pub list_long : List ℕ → List ℕ → Bool
list_long plan list = leb (router_count plan) (length list)

unfoldable pub every_list_refusal : List ℕ → List ℕ → ℕ
every_list_refusal plan list = plan_checks plan (refuse (list_long plan list) 9 0)
