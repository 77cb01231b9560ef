use Prim.Native.Nat.{◌*◌}
use native.Mathlib.Omega.{arith}
use mathlib.Core.Path.{◌∙◌, sym, ap, ap₂}
use borrow.Author.Rules.{rules}
use lib.ListN.{length}
use Rattle.plan_rules.proofs.Passed.{passed}
use Rattle.plan_rules.specs.Routers.{reflector_in}
use Rattle.plan_rules.specs.Sessions.{in_session}
use Rattle.net_rules.specs.FromPlan.{skips_in, hop_in, named}
use Rattle.net_rules.proofs.FromPlan.{routers-length, session-below, number-below}
use Rattle.net_rules.proofs.Opened.{opened}
use Rattle.net_read.proofs.open_plan.Statement.{statement}
use Rattle.net_read.proofs.open_plan.Tie as tie

role-words-requires : tie.Need-role_words-roles-requires
role-words-requires c κs =
    let a = c.requires.0 in
    let p = passed _ a.ok in
    let routers = c.part.ensures.bytes in (
      omega (arith, a.routers, p.count.most),
      ap length routers ∙ routers-length _ p ∙ ap (◌*◌ 5) (sym a.routers),
      λ v l. rw routers (p.routers.role_most v (omega (arith, a.routers))),
    )

neighbour-rows-requires : tie.Need-neighbour_rows-requires
neighbour-rows-requires c κs =
    let given = c.requires in
    (given.2, rw c.part-2.ensures.bytes (session-below _ (passed _ given.0.ok)))

listed-word-requires : tie.Need-listed_word-listed-requires
listed-word-requires c κs =
    let given = c.requires in
    let p = passed _ given.0.ok in
    rw c.list_numbers.ensures.bytes (λ j l. omega (arith, number-below _ p _ (omega arith) j l, p.count.most))

returns : tie.Need-returns
returns c =
    let list = c in
    let sessions = list in
    let roles = sessions in
    let given = roles.requires in
    let routers = roles.part.ensures.bytes in
    let n = given.0.routers in
    opened _ _ given.0.ok given.1 _ _ n given.0.bytes
    (λ v. roles.role_words-roles.ensures.0 v ∙ ap₂ (λ s n. reflector_in s n v) routers n)
    (λ v. roles.role_words-roles.ensures.1 v ∙ ap₂ (λ s n. skips_in s n v) routers n)
    (λ v. roles.role_words-roles.ensures.2 v ∙ ap₂ (λ s n. hop_in s n v) routers n)
    (λ w v. sessions.neighbour_rows.ensures w v ∙ ap (λ s. in_session s w v) sessions.part-2.ensures.bytes)
    (λ v. list.listed_word-listed.ensures v ∙ ap (λ s. named s v) list.list_numbers.ensures.bytes)

pub open_plan_spec : {M : Type 1} → statement M
open_plan_spec =
    tie.close
    (tie.spec
    (λ c. search rules)
    (λ c κs. search rules)
    role-words-requires
    (λ c κs. search rules)
    neighbour-rows-requires
    (λ c κs. search rules)
    listed-word-requires
    (λ c. search rules)
    returns)
