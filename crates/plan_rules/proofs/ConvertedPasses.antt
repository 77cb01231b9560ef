-- What a plan that is not refused is converted to is not refused.
use Prim.Native.Nat.{ℕ, ◌+◌, ◌*◌, ◌≤◌}
use native.Mathlib.Omega.{arith}
use mathlib.Core.Path.{◌≡◌, refl, ◌∙◌, ap}
use mathlib.Core.Bool.{true}
use mathlib.Core.List.{List, [], ◌∷◌}
use mathlib.Core.Logic.{◌⊎◌, inl, inr, ⊎_elim}
use lib.ListN.{length}
use Rattle.plan_contents.specs.Header.{mark, width, router_count}
use Rattle.plan_contents.specs.Contents.{contents_of, routers_entry, sessions_entry, sessions_body, distances_body, lists_body}
use Rattle.plan_contents.specs.HeaderFacts.{Header, RouterCount, Contents}
use Rattle.plan_rules.specs.BodyFacts.{Sessions, Distances, Lists}
use Rattle.plan_rules.specs.Distances.{TwoOrFour}
use Rattle.plan_rules.specs.Converted.{mark_of, entry_bytes, converted_distances_entry, converted_lists_entry, converted, distances_fit}
use Rattle.plan_rules.specs.Refusal.{plan_refusal}
use Rattle.plan_rules.specs.Passed.{Passed}
use Rattle.plan_rules.proofs.Passed.{accepted}
use Rattle.plan_rules.proofs.Longest.{length_most}
use Rattle.plan_rules.proofs.ConvertedParts.{mark-is, width-is, count-is, length-is, routers-entry, sessions-entry, distances-entry, lists-entry, routers-body, sessions-body, lists-body}
use Rattle.plan_rules.proofs.ConvertedDistances.{same-distance}

module _ (to : ℕ) (t : TwoOrFour to) (plan : List ℕ) (p : Passed plan) (fit : distances_fit to plan ≡ true) where
  count-holds : RouterCount (router_count (converted to plan))
  count-holds = rw (count-is to t plan) p.count

  table_is :
      contents_of (converted to plan)
      ≡ routers_entry (contents_of plan) ∷ sessions_entry (contents_of plan) ∷ converted_distances_entry to plan ∷ converted_lists_entry to plan ∷ []
  table_is = λ i. routers-entry to t plan p i ∷ sessions-entry to t plan p i ∷ distances-entry to t plan p i ∷ lists-entry to t plan p i ∷ []

  contents-hold : Contents (contents_of (converted to plan)) to (router_count (converted to plan)) (length (converted to plan))
  contents-hold = rw (table_is, count-is to t plan, length-is to t plan p) (omega arith)

  sessions-hold : Sessions (sessions_body (converted to plan)) (router_count (converted to plan))
  sessions-hold = rw (sessions-body to t plan p, count-is to t plan) p.sessions

  lists-hold : Lists (lists_body (converted to plan)) (router_count (converted to plan))
  lists-hold = rw (lists-body to t plan p, count-is to t plan) p.lists

  long : length (converted to plan) ≤ 8539 + 4096 * to
  long = length_most (converted to plan) to count-holds contents-hold sessions-hold lists-hold

  marked :
      ((mark (converted to plan) ≡ 49) × (length (converted to plan) ≤ 16731)) ⊎ ((mark (converted to plan) ≡ 50) × (length (converted to plan) ≤ 24923))
  marked =
      ⊎_elim (λ (e : to ≡ 2). inl (mark-is to t plan ∙ ap mark_of e, omega (arith, long)))
      (λ (e : to ≡ 4). inr (mark-is to t plan ∙ ap mark_of e, omega (arith, long)))
      t

  header-holds : Header (converted to plan)
  unfolding converted entry_bytes
  header-holds = record {
    least = omega arith;
    letter_r = refl;
    letter_r₂ = refl;
    letter_p = refl;
    marked = marked;
    four_entries = refl;
  }

  distances-hold : Distances (width (converted to plan)) (distances_body (converted to plan)) (router_count (converted to plan))
  distances-hold = record { diagonal = λ u l. same-distance to t plan p fit u u ∙ p.distances.diagonal u (rw (count-is to t plan) at l) }

  pub converted-passed : Passed (converted to plan)
  converted-passed =
      let c = count-is to t plan in
      record {
        header = header-holds;
        count = count-holds;
        contents = rw (width-is to t plan) contents-hold;
        routers = rw (routers-body to t plan p, c) p.routers;
        sessions = sessions-hold;
        parents = rw (routers-body to t plan p, sessions-body to t plan p, c) p.parents;
        distances = distances-hold;
        lists = lists-hold;
      }

  pub converted-passes : plan_refusal (converted to plan) ≡ 0
  converted-passes = accepted (converted to plan) converted-passed
