-- Each check speaks of its body, a part of the plan within it by row 3.
use Prim.Native.Nat.{ℕ, ◌*◌, ◌≤◌}
use native.Mathlib.Omega.{arith}
use mathlib.Core.Path.{◌≡◌, refl, ◌∙◌, ap, ap₂}
use mathlib.Core.Bool.{Bool, true, false, not}
use mathlib.Core.List.{List}
use borrow.Author.Rules.{rules}
use borrow.Author.Tests.{not-false}
use lib.ListN.{length}
use Rattle.base.proofs.Numbers.{granted, denied, yes, no}
use Rattle.plan_contents.specs.declared.entries.Entry.{Entry}
use Rattle.plan_contents.specs.Contents.{body, routers_entry, sessions_entry, distances_entry}
use Rattle.plan_rules.specs.Routers.{routers_ok}
use Rattle.plan_rules.specs.Sessions.{sessions_ok}
use Rattle.plan_rules.specs.Parents.{parents_ok}
use Rattle.plan_rules.specs.Distances.{distances_ok}
use Rattle.plan_rules.specs.Lists.{lists_ok}
use Rattle.plan_contents.specs.HeaderFacts.{Contents}
use Rattle.plan_rules.specs.Refusal.{refuse, body_checks}
use Rattle.plan_contents.proofs.Facts.{contents-facts}
use Rattle.plan_contents.proofs.Places.{Within, bodies-within, body-length}
use Rattle.plan_read.proofs.refusal.bodies_refusal.Statement.{statement}
use Rattle.plan_read.proofs.refusal.bodies_refusal.Tie as tie

-- where the function's entry is, from after each check
abbrev entry₁ : tie.Else-not-routers_ok → tie.Start
entry₁ c = c.before.before.before.before.before

abbrev entry₂ : tie.Else-not-answers → tie.Start
entry₂ c = entry₁ c.before.before.before.before.before

abbrev entry₃ : tie.Else-not-answers-2 → tie.Start
entry₃ c = entry₂ c.before.before

abbrev entry₄ : tie.Else-not-distances_ok → tie.Start
entry₄ c = entry₃ c.before.before.before.before

-- row 3's facts, and that the bodies lie within the plan
row3 : (c : tie.Start) → Contents c.args.table c.args.width c.args.n (length c.args.plan.now)
row3 c = contents-facts _ _ _ _ c.requires.2

within : (c : tie.Start) → Within c.args.table (length c.args.plan.now)
within c = bodies-within _ _ _ _ (row3 c)

-- what a check of a part tells of the body that the part is
module _ (ok : List ℕ → ℕ → Bool) (n : ℕ) {r : Bool} {part given : List ℕ} (answer : r ≡ ok part n) (is : part ≡ given) where
  fails : r ≡ false → ok given n ≡ false
  fails h = denied r (answer ∙ ap (λ s. ok s n) is) h

  passes : r ≡ true → ok given n ≡ true
  passes h = granted r (answer ∙ ap (λ s. ok s n) is) h

abbrev part : (List Entry → Entry) → tie.Start → List ℕ
part which c = body c.args.plan.now (which c.args.table)

Passes : (List ℕ → ℕ → Bool) → (List Entry → Entry) → tie.Start → Type 0
Passes ok which c = ok (part which c) c.args.n ≡ true

routers-pass : (c : tie.Else-not-routers_ok) → Passes routers_ok routers_entry (entry₁ c)
unfolding Passes
routers-pass c =
    passes routers_ok (entry₁ c).args.n c.routers_ok.ensures c.body_of-routers.ensures.bytes c.if-not-routers_ok.false

sessions-pass : (c : tie.Else-not-answers) → Passes sessions_ok sessions_entry (entry₂ c)
unfolding Passes
sessions-pass c =
    let d = c in
    passes sessions_ok (entry₂ c).args.n d.answers-answers.ensures.row5 d.body_of-sessions.ensures.bytes (yes _ refl c.if-not-answers.false)

-- the second answer is row 13's, of two bodies
parents-answer : (c : tie.Else-not-answers) → let e = entry₂ c in
    c.answers-answers.result.few ≡ parents_ok (part routers_entry e) (part sessions_entry e) e.args.n
parents-answer c =
    let d = c in
    let routers = d.body_of-routers.ensures.bytes in
    d.answers-answers.ensures.row13 (not-false _ c.if-not-answers.false)
    ∙ ap₂ (λ r s. parents_ok r s (entry₂ c).args.n) routers d.body_of-sessions.ensures.bytes

parents-pass : (c : tie.Else-not-answers-2) → let e = entry₃ c in parents_ok (part routers_entry e) (part sessions_entry e) e.args.n ≡ true
parents-pass c = granted _ (parents-answer c.before.before) (yes _ refl c.if-not-answers-2.false)

distances-pass : (c : tie.Else-not-distances_ok) → Passes (distances_ok (entry₄ c).args.width) distances_entry (entry₄ c)
unfolding Passes
distances-pass c =
    passes (distances_ok (entry₄ c).args.width) (entry₄ c).args.n c.distances_ok.ensures c.body_of-distances.ensures.bytes c.if-not-distances_ok.false

routers-long : (c : tie.After-body_of-routers) → 5 * c.args.n ≤ length c.body_of-routers.result.now
routers-long c =
    let d = c.before.before.before in
    let size = body-length d.args.plan.now (routers_entry d.args.table) (within d).routers in
    omega (arith, row3 d, size, ap length c.body_of-routers.ensures.bytes)

distances-ok-requires : tie.Need-distances_ok-requires
distances-ok-requires c κs =
    let d = entry₃ c.before.before in
    let size = body-length d.args.plan.now (distances_entry d.args.table) (within d).distances in
    record { bytes = d.requires.1; pairs = omega (arith, row3 d, size, ap length c.body_of-distances.ensures.bytes) }

returns : tie.Need-returns-then-not-routers_ok
unfolding body_checks refuse
returns c =
    let n = c.args.n in
    rw (fails routers_ok n c.routers_ok.ensures c.body_of-routers.ensures.bytes c.if-not-routers_ok.true)

returns-2 : tie.Need-returns-then-not-answers
unfolding body_checks refuse Passes
returns-2 c =
    let d = c in
    let d₁ = d.before.before.before in
    rw (
      routers-pass d₁.before.before,
      fails sessions_ok (entry₁ d₁.before.before).args.n d.answers-answers.ensures.row5 d.body_of-sessions.ensures.bytes (no _ refl c.if-not-answers.true),
    )

returns-3 : tie.Need-returns-then-not-answers-2
unfolding body_checks refuse Passes
returns-3 c =
    let d₂ = c.before.before in
    rw (routers-pass d₂.before.before.before.before.before, sessions-pass d₂, denied _ (parents-answer d₂) (no _ refl c.if-not-answers-2.true))

returns-4 : tie.Need-returns-then-not-distances_ok
unfolding body_checks refuse Passes
returns-4 c =
    let d₃ = c.before.before.before.before in
    let d₂ = d₃.before.before in
    rw (
      routers-pass d₂.before.before.before.before.before,
      sessions-pass d₂,
      parents-pass d₃,
      fails (distances_ok (entry₃ d₃).args.width) (entry₃ d₃).args.n c.distances_ok.ensures c.body_of-distances.ensures.bytes c.if-not-distances_ok.true,
    )

returns-5 : tie.Need-returns-then-not-lists_ok
unfolding body_checks refuse Passes
returns-5 c =
    let d₄ = c.before.before.before.before in
    let d₃ = d₄.before.before.before.before in
    let d₂ = d₃.before.before in
    rw (
      routers-pass d₂.before.before.before.before.before,
      sessions-pass d₂,
      parents-pass d₃,
      distances-pass d₄,
      fails lists_ok (entry₄ d₄).args.n c.lists_ok.ensures c.body_of-lists.ensures.bytes c.if-not-lists_ok.true,
    )

returns-6 : tie.Need-returns
unfolding body_checks refuse Passes
returns-6 c =
    let d₄ = c.before.before.before.before in
    let d₃ = d₄.before.before.before.before in
    let d₂ = d₃.before.before in
    rw (
      routers-pass d₂.before.before.before.before.before,
      sessions-pass d₂,
      parents-pass d₃,
      distances-pass d₄,
      passes lists_ok (entry₄ d₄).args.n c.lists_ok.ensures c.body_of-lists.ensures.bytes c.if-not-lists_ok.false,
    )

pub bodies_refusal_spec : {M : Type 1} → statement M
bodies_refusal_spec =
    tie.close
    (tie.spec
    (λ c. search rules)
    (λ c κs. (within c.before.before).routers)
    (λ c κs. routers-long c)
    returns
    (λ c. search rules)
    (λ c κs. (within (entry₁ c.before)).sessions)
    (λ c κs. ((entry₁ c.before.before).requires.0, routers-long c.before.before.before.before))
    returns-2
    returns-3
    (λ c. search rules)
    (λ c κs. (within (entry₃ c.before)).distances)
    distances-ok-requires
    returns-4
    (λ c. search rules)
    (λ c κs. (within (entry₄ c.before)).lists)
    (λ c κs. search rules)
    returns-5
    returns-6)
