-- A plan is not refused exactly if the plain facts of `Passed` hold.
use Prim.Native.Nat.{ℕ, zero, suc, ◌≤◌, ◌<◌}
use native.Mathlib.Omega.{arith}
use mathlib.Core.Path.{◌≡◌, refl, ◌∙◌, sym}
use mathlib.Core.Bool.{Bool, true}
use mathlib.Core.List.{List, [], ◌∷◌}
use mathlib.Core.Logic.{◌⊎◌, inl, inr, ⊎_elim}
use lib.Dec.{lit<, lit≤}
use lib.ListN.{length, get_or}
use Rattle.plan_contents.specs.Header.{mark, header_ok, width, router_count, router_count_ok}
use Rattle.plan_contents.specs.Contents.{contents_of, contents_ok, no_entry, end, body, routers_body, sessions_body, distances_body, lists_body}
use Rattle.plan_rules.specs.Routers.{routers_ok}
use Rattle.plan_rules.specs.Sessions.{sessions_ok}
use Rattle.plan_rules.specs.Parents.{parents_ok}
use Rattle.plan_rules.specs.Distances.{distances_ok, DistanceTable}
use Rattle.plan_rules.specs.Lists.{lists_ok}
use Rattle.plan_rules.specs.Refusal.{body_checks, plan_checks, plan_refusal}
use Rattle.plan_rules.specs.Passed.{Passed, table_numbers, table_facts, row_number, RowExactly, OneOfTheRows}
use Rattle.plan_contents.proofs.Facts.{header-facts, header-holds, count-facts, count-holds, contents-facts, contents-holds}
use Rattle.plan_contents.proofs.Places.{bodies-within, entry-within, body-length}
use Rattle.plan_rules.proofs.Facts.{routers-facts, routers-holds, sessions-facts, sessions-holds, distances-facts, distances-holds, lists-facts, lists-holds}
use Rattle.plan_rules.proofs.Widths.{width-of-mark}
use Rattle.plan_rules.proofs.Parents.{parents-facts, parents-holds}
use Rattle.plan_rules.proofs.Table.{first_failing, among, distinct, Decide, AllOf, Place, first-fails, all_held, none-given, given-at}

-- the table of the plan's checks, each deciding its row's facts
abbrev table_checks : List ℕ → List Bool
table_checks plan =
    let n = router_count plan in
    header_ok plan
    ∷ router_count_ok n
    ∷ contents_ok (contents_of plan) (width plan) n (length plan)
    ∷ routers_ok (routers_body plan) n
    ∷ sessions_ok (sessions_body plan) n
    ∷ parents_ok (routers_body plan) (sessions_body plan) n
    ∷ distances_ok (width plan) (distances_body plan) n
    ∷ lists_ok (lists_body plan) n
    ∷ []

numbers-distinct : distinct table_numbers ≡ true
unfolding distinct among
numbers-distinct = refl

refusal_is : (plan : List ℕ) → plan_refusal plan ≡ first_failing table_numbers (table_checks plan)
unfolding plan_refusal plan_checks body_checks first_failing
refusal_is plan = refl

decide : (plan : List ℕ) → Decide (table_checks plan) (table_facts plan)
unfolding Decide
decide plan = (
  (header-facts _, header-holds _),
  λ _. (
    (count-facts _, count-holds _),
    λ _. (
      (contents-facts _ _ _ _, contents-holds _ _ _ _),
      λ _. (
        (routers-facts _ _, routers-holds _ _),
        λ _. (
          (sessions-facts _ _, sessions-holds _ _),
          λ _. (
            (parents-facts _ _ _, parents-holds _ _ _),
            λ _. (
              (distances-facts _ _ _, distances-holds _ _ _),
              λ _. (
                (lists-facts _ _, lists-holds _ _),
                λ _. tt,
              ),
            ),
          ),
        ),
      ),
    ),
  ),
)

pub passed : (plan : List ℕ) → plan_refusal plan ≡ 0 → Passed plan
unfolding AllOf
passed plan h =
    let f = all_held _ _ _ numbers-distinct refl (decide plan) (sym (refusal_is plan) ∙ h) in
    record {
      header = f.0;
      count = f.1.0;
      contents = f.1.1.0;
      routers = f.1.1.1.0;
      sessions = f.1.1.1.1.0;
      parents = f.1.1.1.1.1.0;
      distances = f.1.1.1.1.1.1.0;
      lists = f.1.1.1.1.1.1.1.0;
    }

pub accepted : (plan : List ℕ) → Passed plan → plan_refusal plan ≡ 0
unfolding AllOf
accepted plan f =
    refusal_is plan
    ∙ none-given _ _ _ (decide plan)
    (f.header, (f.count, (f.contents, (f.routers, (f.sessions, (f.parents, (f.distances, (f.lists, tt))))))))

-- each number is given exactly if its row is the first that fails, and no other number is
pub row-exactly : (plan : List ℕ) (place : ℕ) → place < 8 → RowExactly plan place
row-exactly plan place l =
    let e = refusal_is plan in
    let f = first-fails _ _ _ numbers-distinct (decide plan) place l l in
    record {
      before = λ h. f.before (sym e ∙ h);
      fails = λ h. f.fails (sym e ∙ h);
      given = λ held fails. e ∙ f.given held fails;
    }

pub refusal-is-one : (plan : List ℕ) → (plan_refusal plan ≡ 0) ⊎ OneOfTheRows plan
refusal-is-one plan =
    ⊎_elim (λ (z : first_failing table_numbers (table_checks plan) ≡ 0). inl (refusal_is plan ∙ z))
    (λ (w : Place table_numbers (first_failing table_numbers (table_checks plan))).
    inr (record { place = w.at; below = w.below; number = refusal_is plan ∙ w.is }))
    (given-at table_numbers (table_checks plan))

-- the numbers of the rows after the first, and of a plan
pub later-row : (place : ℕ) → 1 ≤ place → place < 8 → ((2 ≤ row_number place) × (row_number place ≤ 7)) ⊎ (row_number place ≡ 13)
later-row zero a l = absurd (omega arith)
later-row (suc zero) a l = inl (lit≤ tt, lit≤ tt)
later-row (suc (suc zero)) a l = inl (lit≤ tt, lit≤ tt)
later-row (suc (suc (suc zero))) a l = inl (lit≤ tt, lit≤ tt)
later-row (suc (suc (suc (suc zero)))) a l = inl (lit≤ tt, lit≤ tt)
later-row (suc (suc (suc (suc (suc zero))))) a l = inr refl
later-row (suc (suc (suc (suc (suc (suc zero)))))) a l = inl (lit≤ tt, lit≤ tt)
later-row (suc (suc (suc (suc (suc (suc (suc zero))))))) a l = inl (lit≤ tt, lit≤ tt)
later-row (suc (suc (suc (suc (suc (suc (suc (suc place)))))))) a l = absurd (omega arith)

pub refusal-numbers : (plan : List ℕ) → (plan_refusal plan ≤ 7) ⊎ (plan_refusal plan ≡ 13)
refusal-numbers plan =
    ⊎_elim (λ (z : plan_refusal plan ≡ 0). inl (omega arith)) (λ (w : OneOfTheRows plan). go w.place w.below w.number)
    (refusal-is-one plan)
  where
    go : (place : ℕ) → place < 8 → plan_refusal plan ≡ row_number place → (plan_refusal plan ≤ 7) ⊎ (plan_refusal plan ≡ 13)
    go zero l e = inl (omega arith)
    go (suc place) l e =
        ⊎_elim (λ (h : (2 ≤ row_number (suc place)) × (row_number (suc place) ≤ 7)). inl (omega arith))
        (λ (h : row_number (suc place) ≡ 13). inr (e ∙ h))
        (later-row (suc place) (omega arith) l)

-- the bodies lie within the plan, by their place in the table of contents
pub part-within : (plan : List ℕ) → Passed plan → (which : ℕ) → which < 4 → end (get_or (contents_of plan) which no_entry) ≤ length plan
part-within plan p which h = entry-within _ _ (bodies-within _ _ _ _ p.contents) which h

pub part_length : (plan : List ℕ) → Passed plan → (which : ℕ) → which < 4 → length (body plan (get_or (contents_of plan) which no_entry)) ≡ (get_or (contents_of plan) which no_entry).size
part_length plan p which h = body-length plan (get_or (contents_of plan) which no_entry) (part-within plan p which h)

-- the body of kind 3 has a distance for every pair, as has what is equal to it
pub distance-table : (plan : List ℕ) → plan_refusal plan ≡ 0 → {bytes n : ℕ} {s : List ℕ}
    → bytes ≡ width plan → s ≡ distances_body plan → n ≡ router_count plan → DistanceTable bytes s n
distance-table plan h b d r =
    rw (b, d, r)
    (record {
      bytes = width-of-mark (mark plan);
      pairs = omega (arith, part_length plan (passed plan h) 2 (lit< tt), (passed plan h).contents.distances_size);
    })
