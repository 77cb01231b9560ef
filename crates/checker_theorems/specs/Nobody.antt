-- Document 02, "Prefix gone everywhere": what holds of a plan's list of nobody, over the plan's bytes, and what the calls answer and write
-- for it.
use Rattle.std.specs.Prelude.{ℕ, ◌+◌, ◌*◌, ◌≤◌, ◌<◌, ◌≡◌, true, false, not, cond, List, [], ◌++◌, ◌⊎◌, ◌↔◌, eqb, length, get_or, take, drop, replicate}
use Rattle.std.proofs.Math.Option.{none}
use Rattle.std.specs.Borrow.{Bor}
use Rattle.base.specs.Bytes.{bytes_on}
use Rattle.base.specs.Lent.{Lent}
use Rattle.base.specs.Tab.{tab}
use Rattle.plan_contents.specs.Header.{router_count}
use Rattle.plan_contents.specs.Contents.{routers_body, sessions_body}
use Rattle.plan_rules.specs.Routers.{role}
use Rattle.plan_rules.specs.Sessions.{in_session}
use Rattle.plan_rules.specs.EgressLists.{list_count, list_start, list_size, list_numbers}
use Rattle.plan_rules.specs.Refusal.{plan_refusal}
use Rattle.route_rules.specs.Reliance.{best_client, offer, relies}
use Rattle.route_rules.specs.Rounds.{rounds}
use Rattle.route_explain_rules.specs.Explained.{explained}
use Rattle.route_explain_rules.specs.declared.explanation.Explanation.{Explanation}
use Rattle.route_explain_rules.specs.declared.explanation.Explanation.TheVariants.{Yes, No}
use Rattle.route_explain_rules.specs.declared.explanation.Rule.TheVariants.{Parent}
use Rattle.route_explain_rules.specs.declared.explanation.Reason.TheVariants.{SameRouter, NotNeighbours, SecondUnlistedClient, NoOffer}
use Rattle.net_rules.specs.FromPlan.{named, instance_of}
use Rattle.net_tables.specs.TableBytes.{activate_bytes}
use Rattle.net_verdict.specs.Assessed.{is_stable, highest_of, settled_bytes}
use Rattle.call_rules.specs.Refusals.{egress_list_refusal, buffers_ok, table_checks}
use Rattle.call_query.specs.EgressList.{egress_list_size, ListPartOf}
use Rattle.call_explain.specs.Explain.{Explains}
use Rattle.call_verdict.specs.declared.verdict.VerdictAnswer.{VerdictAnswer}
use Rattle.call_verdict.specs.declared.verdict.VerdictAnswer.TheVariants.{Stable}
use Rattle.call_verdict.specs.Verdict.{verdict_number, verdict_is_stable, verdict_size, VerdictCall}
use Rattle.checker_theorems.specs.VerdictMeaning.{rank_in}
use Rattle.checker_theorems.specs.Series.{Call, series_buffer, series_acts, ForThis, Enough}

-- "A list with count 0 is now legal": a plan that is not refused, and one of its lists, which names no router
pub record ListsNobody (plan : List ℕ) (k : ℕ) : Type 0 where
  pub plan_ok : plan_refusal plan ≡ 0
  pub list_ok : k < list_count plan
  pub nobody : list_size plan k ≡ 0

-- Document 01, "Kind 4": "handed back as that stretch of the plan itself". The part is empty, at the list's own place.
pub record PartOfNobody (plan : Bor (List ℕ)) (k : ℕ) (part : Bor (List ℕ)) : Type 0 where
  pub empty : part.now ≡ []
  pub place : part.ref_ptr ≡ bytes_on plan.ref_ptr (list_start plan.now k)
  -- it is told from a refused one by what the second call gives, "0 for none", and by its address: a refused one is at the plan's start
  pub number : egress_list_refusal plan.now k ≡ 0
  pub after_the_start : 0 < list_start plan.now k

-- So a caller sees exactly which lists are of nobody: by the second call's number and the number of bytes, or the part, handed back.
pub record ToldByItsPart (plan : List ℕ) (k : ℕ) : Type 0 where
  pub size : ListsNobody plan k ↔ ((egress_list_refusal plan k ≡ 0) × (egress_list_size plan k ≡ 0))
  pub part : (slice part : Bor (List ℕ)) → slice.now ≡ plan → ListPartOf slice k part
      → ListsNobody plan k ↔ ((egress_list_refusal plan k ≡ 0) × (part.now ≡ []))

abbrev pub EveryListToldByItsPart : Type 0
EveryListToldByItsPart = (plan : List ℕ) (k : ℕ) → ToldByItsPart plan k

-- v is a parent of w, by the plan's bytes: w is a client, and v is a neighbour that is none
pub record ParentOf (plan : List ℕ) (w v : ℕ) : Type 0 where
  pub client : role (routers_body plan) w ≡ 2
  pub reflector : role (routers_body plan) v ≡ 2 → ⊥
  pub neighbour : in_session (sessions_body plan) w v ≡ true

-- "client with a parent"
pub record HasParent (plan : List ℕ) (w : ℕ) : Type 0 where
  pub parent : ℕ
  pub below : parent < router_count plan
  pub is : ParentOf plan w parent

-- some client of the plan has one
pub record SomeParent (plan : List ℕ) : Type 0 where
  pub client : ℕ
  pub below : client < router_count plan
  pub has : HasParent plan client

-- Document 02, "Every reliance with its rule", by the plan's bytes: of the reasons, "first that applies", 1, 2, 4 and 7 are left, and of the
-- rules 1.
abbrev pub explained_for_nobody : List ℕ → ℕ → ℕ → Explanation
explained_for_nobody plan w v =
    cond (eqb w v) (No SameRouter)
    (cond (not (in_session (sessions_body plan) w v)) (No NotNeighbours)
    (cond (eqb (role (routers_body plan) v) 2) (No SecondUnlistedClient)
    (cond (eqb (role (routers_body plan) w) 2) (Yes Parent) (No NoOffer))))

-- What the verdict call answers and writes.
pub record VerdictOfNobody (plan : List ℕ) (k : ℕ) (r : VerdictAnswer) (labels ranks table shown : Lent (List ℕ)) : Type 0 where
  -- it is not refused, and the list is stable; the highest rank is 1 exactly if some client has a parent, else 0
  pub answer : r ≡ Stable (highest_of (instance_of plan k))
  pub number : verdict_number r ≡ 0
  pub stable : verdict_is_stable r ≡ true
  pub one : (verdict_size r ≡ 1) ↔ SomeParent plan
  pub zero : (verdict_size r ≡ 0) ↔ (SomeParent plan → ⊥)
  -- each router is alone in its group; ranks are as below; every entry of the table is 255 255; there is no cycle
  pub labelled : labels.after ≡ tab (λ w. w) (router_count plan) ++ drop (router_count plan) labels.before
  pub ranked : ranks.after ≡ tab (rank_in plan k) (router_count plan) ++ drop (router_count plan) ranks.before
  pub settled : table.after ≡ replicate (2 * router_count plan) 255 ++ drop (2 * router_count plan) table.before
  pub cycled : shown.after ≡ shown.before

-- router v's entry in a buffer holds nothing
abbrev pub HoldsNothing : List ℕ → ℕ → Type 0
HoldsNothing buffer v = (get_or buffer (2 * v) 0 ≡ 255) × (get_or buffer (2 * v + 1) 0 ≡ 255)

-- .. or a left-over route: "an egress below n with a neighbour as sender"
abbrev pub HoldsLeftOver : List ℕ → List ℕ → ℕ → Type 0
HoldsLeftOver plan buffer v =
    (get_or buffer (2 * v) 0 < router_count plan) × (in_session (sessions_body plan) v (get_or buffer (2 * v + 1) 0) ≡ true)

-- "any left-over table" in the first 2n bytes: "255 255, or an egress below n with a neighbour as sender" at every router. No entry has to
-- name its own router, as none is listed.
pub record LeftOver (plan buffer : List ℕ) : Type 0 where
  pub long : 2 * router_count plan ≤ length buffer
  pub entries : (v : ℕ) → v < router_count plan → HoldsNothing buffer v ⊎ HoldsLeftOver plan buffer v

-- What is left in a buffer of the table `old` of any list j of the plan, once the routers that list j names have lost their own routes and
-- the others hold what they held.
pub record LeftOf (plan : List ℕ) (j : ℕ) (old buffer : List ℕ) : Type 0 where
  pub table : table_checks (instance_of plan j) old ≡ 0
  pub long : 2 * router_count plan ≤ length buffer
  pub lost : (v : ℕ) → v < router_count plan → named (list_numbers plan j) v ≡ true → HoldsNothing buffer v
  pub held : (v : ℕ) → v < router_count plan → named (list_numbers plan j) v ≡ false
      → (get_or buffer (2 * v) 0 ≡ get_or old (2 * v) 0) × (get_or buffer (2 * v + 1) 0 ≡ get_or old (2 * v + 1) 0)

-- The point of a series after these calls: every route is flushed, and none is brought back.
pub record Flushed (plan : List ℕ) (k : ℕ) (start : List ℕ) (calls : List Call) : Type 0 where
  -- "all end with nothing": each of the first 2n bytes is 255
  pub nothing_held : take (2 * router_count plan) (series_buffer calls start) ≡ replicate (2 * router_count plan) 255
  -- no later act alters a byte
  pub steady : (w : ℕ) → w < router_count plan
      → activate_bytes (instance_of plan k) w (series_buffer calls start) ≡ series_buffer calls start
  -- .. nor any later calls of the series
  pub kept : (more : List Call) → ForThis plan k more (series_buffer calls start)
      → series_buffer more (series_buffer calls start) ≡ series_buffer calls start

-- the rounds of a series up to there
abbrev pub rounds_in : List ℕ → List ℕ → List Call → ℕ
rounds_in plan start calls = rounds (router_count plan) (series_acts calls start)

pub record FlushedInTime (plan : List ℕ) (k : ℕ) (start : List ℕ) (calls : List Call) : Type 0 where
  -- "within the promised rounds": the highest rank plus two
  pub promised : Enough plan k calls start → Flushed plan k start calls
  -- .. three are always enough, and two if no client has a parent
  pub in_three : 3 ≤ rounds_in plan start calls → Flushed plan k start calls
  pub in_two : (SomeParent plan → ⊥) → 2 ≤ rounds_in plan start calls → Flushed plan k start calls
  -- however many the rounds, the bytes after the first 2n are those of the start
  pub rest : drop (2 * router_count plan) (series_buffer calls start) ≡ drop (2 * router_count plan) start

pub record PrefixGone (plan : List ℕ) (k : ℕ) : Type 0 where
  -- "no outside route is left": no router is listed
  pub unlisted : (v : ℕ) → named (list_numbers plan k) v ≡ false
  -- the part handed back is empty, at the list's own place
  pub handed_back : (slice part : Bor (List ℕ)) → slice.now ≡ plan → ListPartOf slice k part → PartOfNobody slice k part
  -- "Nobody offers anything,"
  pub no_best_client : (v : ℕ) → best_client (instance_of plan k) v ≡ none
  pub no_offer : (v : ℕ) → v < router_count plan → offer (instance_of plan k) v ≡ none
  -- so each router relies on its parents alone
  pub relied : (w v : ℕ) → w < router_count plan → v < router_count plan
      → (relies (instance_of plan k) w v ≡ true) ↔ ParentOf plan w v
  -- .. and by one rule, or does not for one of four reasons
  pub explained : (w v : ℕ) → w < router_count plan → v < router_count plan → explained (instance_of plan k) w v ≡ explained_for_nobody plan w v
  -- the explain call says so
  pub explains : (w v : ℕ) → w < router_count plan → v < router_count plan → (r : Explanation) → Explains plan k w v r
      → r ≡ explained_for_nobody plan w v
  -- "reflectors have rank 0,
  pub reflector_rank : (w : ℕ) → w < router_count plan → (role (routers_body plan) w ≡ 2 → ⊥) → rank_in plan k w ≡ 0
  -- an unlisted client with a parent has rank 1,"
  pub parent_rank : (w : ℕ) → w < router_count plan → (rank_in plan k w ≡ 1) ↔ HasParent plan w
  -- .. and any other router, a client without one too, has rank 0
  pub other_rank : (w : ℕ) → w < router_count plan → (rank_in plan k w ≡ 0) ↔ (HasParent plan w → ⊥)
  -- the list is stable; the highest rank is 1 exactly if some client has a parent, else 0
  pub stable : is_stable (instance_of plan k) ≡ true
  pub highest_one : (highest_of (instance_of plan k) ≡ 1) ↔ SomeParent plan
  pub highest_zero : (highest_of (instance_of plan k) ≡ 0) ↔ (SomeParent plan → ⊥)
  -- "and all end with nothing.": the settled table is 255 255 everywhere
  pub settled : settled_bytes (instance_of plan k) ≡ replicate (2 * router_count plan) 255
  -- the verdict call says and writes so
  pub verdict : (r : VerdictAnswer) (labels ranks table shown : Lent (List ℕ)) → VerdictCall plan k r labels ranks table shown
      → buffers_ok (router_count plan) labels.before ranks.before table.before shown.before ≡ true
      → VerdictOfNobody plan k r labels ranks table shown
  -- "any left-over table": exactly the buffers that an act or a run on the list is not refused for, and among them what is left of a
  -- table of any of the plan's lists
  pub left_over : (buffer : List ℕ) → (table_checks (instance_of plan k) buffer ≡ 0) ↔ LeftOver plan buffer
  pub left_of : (j : ℕ) (old buffer : List ℕ) → LeftOf plan j old buffer → LeftOver plan buffer
  -- "old routes are flushed within the promised rounds from any left-over table.": by any number of act and run calls, mixed in any order
  pub flushed : (start : List ℕ) → LeftOver plan start → (calls : List Call) → ForThis plan k calls start
      → FlushedInTime plan k start calls

abbrev pub EveryPrefixGone : Type 0
EveryPrefixGone = (plan : List ℕ) (k : ℕ) → ListsNobody plan k → PrefixGone plan k
