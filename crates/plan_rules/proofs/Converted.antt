-- What the converter makes of a plan that it does not refuse, and that it makes the plan of that again.
use Prim.Native.Nat.{ℕ, ◌+◌, ◌*◌, ◌<◌}
use native.Mathlib.Omega.{arith}
use mathlib.Core.Path.{◌≡◌, refl, ◌∙◌, sym, ap}
use mathlib.Core.Bool.{true}
use mathlib.Core.List.{List}
use mathlib.Core.Logic.{inl, inr, ⊎_elim}
use lib.Seq.{ext_get_or}
use Rattle.base.specs.Bytes.{Bytes}
use Rattle.plan_contents.specs.Header.{mark, width, width_of, router_count}
use Rattle.plan_rules.specs.Distances.{is_way, TwoOrFour}
use Rattle.plan_rules.specs.Lists.{list_place, member_count, member}
use Rattle.plan_rules.specs.EgressLists.{list_count, list_start, list_numbers}
use Rattle.plan_rules.specs.Refusal.{plan_refusal}
use Rattle.plan_rules.specs.Passed.{Passed}
use Rattle.plan_rules.specs.Converted.{converted, distances_fit, widen_refusal, narrow_refusal}
use Rattle.plan_rules.specs.ConvertedFacts.{ConvertedFacts, NarrowedBack, WidenedBack}
use Rattle.plan_rules.specs.ConverterRows.{NoneTooFar}
use Rattle.plan_rules.proofs.Widths.{width-of-mark}
use Rattle.plan_rules.proofs.Passed.{passed}
use Rattle.plan_rules.proofs.ListWithin.{numbers_of}
use Rattle.plan_rules.proofs.ConvertedParts.{mark-is, width-is, count-is, lists-entry, routers-body, sessions-body, lists-body, longer, widened-length, narrowed-length}
use Rattle.plan_rules.proofs.ConvertedDistances.{fit-more, same-placed, same-distance}
use Rattle.plan_rules.proofs.ConvertedPasses.{converted-passed, converted-passes}
use Rattle.plan_rules.proofs.ConvertedBack.{converted-back}
use Rattle.plan_rules.proofs.ConverterRows.{near-shown, near-holds, widen-exactly, narrow-exactly}

-- every distance of a plan of bytes fits into four
pub fit-four : (plan : List ℕ) → Bytes plan → distances_fit 4 plan ≡ true
fit-four plan bytes =
    fit-more 4 plan bytes
    (⊎_elim (λ (e : width plan ≡ 2). rw e (omega arith)) (λ (e : width plan ≡ 4). rw e (omega arith)) (width-of-mark (mark plan)))

module _ (to : ℕ) (t : TwoOrFour to) (plan : List ℕ) (p : Passed plan) (fit : distances_fit to plan ≡ true) where
  abbrev result : List ℕ
  result = converted to plan

  numbers-same : (k : ℕ) → k < list_count plan → list_numbers result k ≡ list_numbers plan k
  numbers-same k l =
      let lists = lists-body to t plan p in
      let after = numbers_of result (converted-passed to t plan p fit) k (rw lists l) in
      let before = numbers_of plan p k l in
      let sizes = ap (λ s. member_count s (list_place s k)) lists in
      ext_get_or 0 (list_numbers result k) (list_numbers plan k) (after.count ∙ sizes ∙ sym before.count)
      (λ j h.
      after.are j (omega (arith, after.count))
      ∙ ap (λ s. member s (list_place s k) j) lists
      ∙ sym (before.are j (omega (arith, after.count))))

  starts : (k : ℕ) →
      list_start result k + width plan * (router_count plan * router_count plan) ≡ list_start plan k + to * (router_count plan * router_count plan)
  starts k =
      omega (arith, ap (λ e. e.offset) (lists-entry to t plan p), ap (λ s. list_place s k) (lists-body to t plan p))

  facts : ConvertedFacts to plan result
  facts =
      let same = same-distance to t plan p fit in
      let lists = lists-body to t plan p in
      record {
        marked = mark-is to t plan;
        width_is = width-is to t plan;
        count = count-is to t plan;
        at_every_place = same-placed to t plan p fit;
        distances = same;
        ways = λ u e. ap is_way (same u e);
        routers = routers-body to t plan p;
        sessions = sessions-body to t plan p;
        lists = lists;
        list_sizes = λ k. ap (λ s. member_count s (list_place s k)) lists;
        list_starts = starts;
        numbers = numbers-same;
        long = longer to t plan p;
        passes = converted-passes to t plan p fit;
      }

  -- distances that are near stay so
  near_same : NoneTooFar plan → NoneTooFar result
  near_same near u e l m w =
      let same = same-distance to t plan p fit u e in
      let count = count-is to t plan in
      rw same (near u e (rw count at l) (rw count at m) (sym (ap is_way same) ∙ w))

pub converted-facts : (to : ℕ) → TwoOrFour to → (plan : List ℕ) → plan_refusal plan ≡ 0 → distances_fit to plan ≡ true
    → ConvertedFacts to plan (converted to plan)
converted-facts to t plan ok fit = facts to t plan (passed plan ok) fit

pub narrow-after-widen : (plan : List ℕ) → Bytes plan → (room : ℕ) → widen_refusal plan room ≡ 0 → NarrowedBack plan
narrow-after-widen plan bytes room ok =
    let h = (widen-exactly plan room).none.0 ok in
    let p = h.1 in
    let fit = fit-four plan bytes in
    let two : width plan ≡ 2 = ap width_of h.0 in
    let near = near-shown plan (fit-more 2 plan bytes (rw two (omega arith))) in
    let wide = converted 4 plan in
    record {
      bytes = ap (λ w. converted w wide) (sym two) ∙ converted-back 4 (inr refl) plan bytes p fit;
      accepted = λ next l.
          (narrow-exactly wide next).none.1 (
            mark-is 4 (inr refl) plan,
            converted-passed 4 (inr refl) plan p fit,
            near_same 4 (inr refl) plan p fit near,
            rw (count-is 4 (inr refl) plan) (omega (arith, widened-length plan p h.0)),
          );
    }

pub widen-after-narrow : (plan : List ℕ) → Bytes plan → (room : ℕ) → narrow_refusal plan room ≡ 0 → WidenedBack plan
widen-after-narrow plan bytes room ok =
    let h = (narrow-exactly plan room).none.0 ok in
    let p = h.1 in
    let fit = near-holds plan h.2 in
    let four : width plan ≡ 4 = ap width_of h.0 in
    let narrow = converted 2 plan in
    record {
      bytes = ap (λ w. converted w narrow) (sym four) ∙ converted-back 2 (inl refl) plan bytes p fit;
      accepted = λ next l.
          (widen-exactly narrow next).none.1 (
            mark-is 2 (inl refl) plan,
            converted-passed 2 (inl refl) plan p fit,
            rw (count-is 2 (inl refl) plan) (omega (arith, narrowed-length plan p h.0)),
          );
    }
