-- What a plan that is not refused is, in plain facts, row by row of the refusal table.
-- The theorems `passed` and `accepted` say that a plan is not refused exactly if these hold.
use Rattle.std.specs.Prelude.{ℕ, ◌<◌, List, [], ◌∷◌, ◌≡◌, length, get_or}
use Rattle.plan_contents.specs.Header.{width, router_count}
use Rattle.plan_contents.specs.Contents.{contents_of, routers_body, sessions_body, distances_body, lists_body}
use Rattle.plan_contents.specs.HeaderFacts.{Header, RouterCount, Contents}
use Rattle.plan_rules.specs.BodyFacts.{Routers, Sessions, Parents, Distances, Lists}
use Rattle.plan_rules.specs.Refusal.{plan_refusal}

pub record Passed (plan : List ℕ) : Type 0 where
  pub header : Header plan
  pub count : RouterCount (router_count plan)
  pub contents : Contents (contents_of plan) (width plan) (router_count plan) (length plan)
  pub routers : Routers (routers_body plan) (router_count plan)
  pub sessions : Sessions (sessions_body plan) (router_count plan)
  pub parents : Parents (routers_body plan) (sessions_body plan) (router_count plan)
  pub distances : Distances (width plan) (distances_body plan) (router_count plan)
  pub lists : Lists (lists_body plan) (router_count plan)

-- the numbers of the rows, in the table's order
abbrev pub table_numbers : List ℕ
table_numbers = 1 ∷ 2 ∷ 3 ∷ 4 ∷ 5 ∷ 13 ∷ 6 ∷ 7 ∷ []

-- the facts of each row, in the table's order
abbrev pub table_facts : List ℕ → List (Type 0)
table_facts plan =
    Header plan
    ∷ RouterCount (router_count plan)
    ∷ Contents (contents_of plan) (width plan) (router_count plan) (length plan)
    ∷ Routers (routers_body plan) (router_count plan)
    ∷ Sessions (sessions_body plan) (router_count plan)
    ∷ Parents (routers_body plan) (sessions_body plan) (router_count plan)
    ∷ Distances (width plan) (distances_body plan) (router_count plan)
    ∷ Lists (lists_body plan) (router_count plan)
    ∷ []

-- by its place in that order, from 0
abbrev pub row_number : ℕ → ℕ
row_number place = get_or table_numbers place 0

abbrev pub RowFacts : List ℕ → ℕ → Type 0
RowFacts plan place = get_or (table_facts plan) place (Unit {0})

-- "given exactly if", and by document 02, in place of "The lowest number that applies is returned", "the first check in order that fails
-- now decides": a row's number is given exactly if its facts fail and those of every row before it hold. The theorem `row-exactly`
-- says so of each of the eight rows, and `refusal-is-one` that no other number is given.
pub record RowExactly (plan : List ℕ) (place : ℕ) : Type 0 where
  pub before : plan_refusal plan ≡ row_number place → (earlier : ℕ) → earlier < place → RowFacts plan earlier
  pub fails : plan_refusal plan ≡ row_number place → RowFacts plan place → ⊥
  pub given : ((earlier : ℕ) → earlier < place → RowFacts plan earlier) → (RowFacts plan place → ⊥) → plan_refusal plan ≡ row_number place

pub record OneOfTheRows (plan : List ℕ) : Type 0 where
  pub place : ℕ
  pub below : place < 8
  pub number : plan_refusal plan ≡ row_number place
