use Prim.Native.Nat.{◌+◌, ◌≤◌}
use native.Mathlib.Omega.{arith}
use mathlib.Core.Path.{◌≡◌, ◌∙◌, ap}
use borrow.Author.Rules.{rules}
use lib.ListN.{length, get_or}
use Rattle.plan_contents.specs.Contents.{lists_entry, lists_body}
use Rattle.plan_rules.specs.Lists.{list_place}
use Rattle.plan_rules.specs.EgressLists.{list_start, list_size}
use Rattle.plan_rules.proofs.Passed.{passed}
use Rattle.plan_rules.proofs.ListWithin.{places-within, span-within}
use Rattle.plan_read.proofs.lists.list_span.Statement.{statement}
use Rattle.plan_read.proofs.lists.list_span.Tie as tie

-- the place found is the list's, in the plan's own body
place_is : (c : tie.After-list_place-place) → let a = c.args in c.list_place-place.result ≡ list_place (lists_body a.plan.now) a.list
place_is c = c.list_place-place.ensures ∙ ap (λ s. list_place s c.args.list) c.part-s.ensures.bytes

start_is : (c : tie.After-list_place-place) → let a = c.args in (lists_entry a.checked.table).offset + c.list_place-place.result + 1 ≡ list_start a.plan.now a.list
start_is c = rw (c.requires.0.contents, place_is c)

within : (c : tie.After-list_place-place) → let a = c.args in list_start a.plan.now a.list + list_size a.plan.now a.list ≤ length a.plan.now
within c = let p = c.requires in span-within _ (passed _ p.0.ok) _ p.1

shared-slice-read-wide : tie.Need-bounds-s-place
shared-slice-read-wide c =
    let d = c.before.before.before.before in
    let p = d.requires in
    rw (place_is d, d.part-s.ensures.bytes) (places-within _ (passed _ p.0.ok) _ p.1 _ (omega arith))

returns : tie.Need-returns
returns c =
    let d = c.before.before.before.before.before in
    let a = d.args in
    let counts : c.wide.result ≡ list_size a.plan.now a.list =
    c.wide.ensures.0 ∙ ap (λ s. get_or s d.list_place-place.result 0) d.part-s.ensures.bytes ∙ ap (λ q. get_or (lists_body a.plan.now) q 0) (place_is d)
    in
    record { starts = start_is d; counts = counts; within = omega (arith, start_is d, within d) }

pub list_span_spec : {M : Type 1} → statement M
list_span_spec =
    tie.close
    (tie.spec
    (λ c κs. search rules)
    (λ c κs. let p = c.requires in rw c.part-s.ensures.bytes (places-within _ (passed _ p.0.ok) _ p.1))
    (λ c. search rules)
    (λ c. search rules)
    (λ c. let d = c.before.before.before in omega (arith, start_is d, within d))
    (λ c. let d = c.before.before.before in omega (arith, start_is d, within d))
    shared-slice-read-wide
    (λ c κs. search rules)
    returns)
