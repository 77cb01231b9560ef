-- The figures are those of the verdicts: each list's network is the one that its verdict is of.
use Prim.Native.Nat.{ℕ, ◌*◌, ◌≤◌, ◌<◌}
use native.Mathlib.Omega.{arith}
use mathlib.Core.Path.{◌≡◌, refl, ◌∙◌, sym, ap, ap₂}
use mathlib.Core.Bool.{Bool, true, false, not, ◌&&◌}
use mathlib.Core.List.{List, ◌++◌}
use mathlib.Core.Logic.Iff
use mathlib.Core.Logic.{◌↔◌}
use borrow.Author.Tests.{le-leb}
use lib.Dec.{leb, eqb}
use lib.ListN.{length, get_or, drop, replicate, get_or-append, length-replicate}
use Rattle.std.specs.Prelude.{Option, Some, None}
use Rattle.base.specs.Lent.{Lent}
use Rattle.base.specs.Seek.{flag, count}
use Rattle.base.specs.Tab.{tab}
use Rattle.base.proofs.Numbers.{both, not-both}
use Rattle.base.proofs.Seek.{count-cong}
use Rattle.base.proofs.Tab.{length-tab, drop-written, get_or-written}
use Rattle.plan_contents.specs.Header.{router_count}
use Rattle.plan_rules.specs.EgressLists.{list_count}
use Rattle.plan_rules.specs.Passed.{Passed}
use Rattle.plan_rules.specs.Refusal.{plan_refusal}
use Rattle.plan_rules.proofs.Passed.{passed}
use Rattle.plan_rules.proofs.Refused.{when-given}
use Rattle.route_rules.specs.Instance.{Instance}
use Rattle.net_rules.specs.FromPlan.{instance_of}
use Rattle.steady_rules.specs.Steady.{grouped_in}
use Rattle.net_verdict.specs.Assessed.{is_stable, labels_of, highest_of, found, labels_left, ranks_left, table_left, cycle_left}
use Rattle.figures_rules.specs.Sums.{group_size}
use Rattle.figures_rules.specs.Figures.{stable_lists, suspect_lists, highest_stable, stable_with, grouped_lists, figures_of}
use Rattle.figures_rules.specs.Meaning.{label_of, IsHighest, FiguresMean}
use Rattle.figures_rules.proofs.Sums.{total-cong, count-iff}
use Rattle.figures_rules.proofs.GroupSizes.{shares-two, size-cong, sizes-cong}
use Rattle.figures_rules.proofs.Meaning.{figures-mean}
use Rattle.call_rules.specs.Refusals.{buffers_ok, verdict_refusal, figures_refusal}
use Rattle.call_rules.proofs.Granted.{figures-asked}
use Rattle.call_verdict.specs.Verdict.{answer_of, labels_after, verdict_is_stable, verdict_size, size_of}
use Rattle.call_verdict.proofs.Judging.{verdict-given}
use Rattle.call_figures.specs.declared.figures.FiguresAnswer.{FiguresAnswer}
use Rattle.call_figures.specs.Figures.{rank_counts, router_counts, rank_counts_left, router_counts_left, rank_counts_after, router_counts_after}
use Rattle.call_figures.specs.Figures.{has_rank, rank_of, figures_number, figures_stable, figures_suspect, figures_has_highest, figures_highest, FiguresCall}
use Rattle.checker_theorems.specs.Figures.{Verdicts, written_label, HighestReturned, CountedFromVerdicts, EveryFigureFromVerdicts, EveryPlanHasVerdicts}
use Rattle.checker_theorems.proofs.StableVerdict.{no-refusal}

-- a rank that may be absent, by its flag and its value
rank_is : (h : Option ℕ) (x : ℕ) → ((has_rank h ≡ true) × (rank_of h ≡ x)) ↔ (h ≡ Some x)
rank_is None x = (λ e. not-both false e.0 refl, λ e. not-both false (ap has_rank e) refl)
rank_is (Some r) x = (λ e. ap Some e.1, λ e. (refl, ap rank_of e))

rank-absent : (h : Option ℕ) → (has_rank h ≡ false) ↔ (h ≡ None)
rank-absent None = (λ e. refl, λ e. refl)
rank-absent (Some r) = (λ e. not-both true refl e, λ e. not-both true refl (ap has_rank e))

absent-zero : (h : Option ℕ) → has_rank h ≡ false → rank_of h ≡ 0
absent-zero h e = ap rank_of ((rank-absent h).0 e)

-- the highest rank of a stable list, by what its verdict returns
same_rank : (b c : Bool) (size rank x : ℕ) → b ≡ c → (c ≡ true → size ≡ rank) → flag (c && eqb rank x) ≡ flag (b && eqb size x)
same_rank b true size rank x e h = ap₂ (λ d y. flag (d && eqb y x)) (sym e) (sym (h refl))
same_rank b false size rank x e h = ap (λ d. flag (d && eqb size x)) (sym e)

labels_length : (I : Instance) → length (labels_of I) ≡ I.n
unfolding labels_of
labels_length I = length-tab _ I.n

module _ (plan : List ℕ) (r : FiguresAnswer) (ranks routers : Lent (List ℕ)) (call : FiguresCall plan r ranks routers)
    (taken : figures_number r ≡ 0) (verdicts : Verdicts plan) where
  abbrev n : ℕ
  n = router_count plan

  abbrev m : ℕ
  m = list_count plan

  abbrev nets : ℕ → Instance
  nets = instance_of plan

  number : figures_refusal plan ranks.before routers.before ≡ 0
  number = sym call.numbered ∙ taken

  plan_ok : plan_refusal plan ≡ 0
  plan_ok = (figures-asked plan ranks.before routers.before number).plan_ok

  facts : Passed plan
  facts = passed plan plan_ok

  means : FiguresMean nets n m
  means = figures-mean nets n m facts.count.some (λ k l. refl)

  -- what the figures are by the plan's networks
  stable-is : figures_stable r ≡ stable_lists nets m
  unfolding figures_of
  stable-is = call.stable ∙ when-given _ _ _ number

  suspect-is : figures_suspect r ≡ suspect_lists nets m
  unfolding figures_of
  suspect-is = call.suspect ∙ when-given _ _ _ number

  has-is : figures_has_highest r ≡ has_rank (highest_stable nets m)
  unfolding figures_of
  has-is = call.has_highest ∙ when-given _ _ _ number

  highest-is : figures_highest r ≡ rank_of (highest_stable nets m)
  unfolding figures_of
  highest-is = call.highest ∙ when-given _ _ _ number

  ranks-are : ranks.after ≡ tab (stable_with nets m) n ++ drop n ranks.before
  unfolding rank_counts_after rank_counts_left rank_counts
  ranks-are = call.by_rank ∙ when-given _ _ _ number

  routers-are : routers.after ≡ tab (grouped_lists nets m) n ++ drop n routers.before
  unfolding router_counts_after router_counts_left router_counts
  routers-are = call.by_router ∙ when-given _ _ _ number

  rank-at : (x : ℕ) → x < n → get_or ranks.after x 0 ≡ stable_with nets m x
  rank-at x l = get_or-written (stable_with nets m) n 0 ranks.before ranks.after ranks-are x l

  router-at : (w : ℕ) → w < n → get_or routers.after w 0 ≡ grouped_lists nets m w
  router-at w l = get_or-written (grouped_lists nets m) n 0 routers.before routers.after routers-are w l

  -- the verdict of list k is of the plan's network with that list
  module _ (k : ℕ) (l : k < m) where
    given : verdict_refusal plan k (verdicts.labels k).before (verdicts.ranks k).before (verdicts.table k).before (verdicts.shown k).before ≡ 0
    given = no-refusal plan k plan_ok l _ _ _ _ (verdicts.room k l)

    stable-same : verdict_is_stable (verdicts.answer k) ≡ is_stable (nets k)
    stable-same = (verdicts.given k l).stable ∙ when-given _ _ _ given

    size_same : is_stable (nets k) ≡ true → verdict_size (verdicts.answer k) ≡ highest_of (nets k)
    unfolding size_of
    size_same s = (verdicts.given k l).size ∙ when-given _ _ _ given ∙ rw s

    label_same : (w : ℕ) → w < n → written_label verdicts k w ≡ label_of (nets k) w
    unfolding labels_after labels_left
    label_same w o =
        ap (λ b. get_or b w 0) ((verdicts.given k l).labelled ∙ when-given _ _ _ given)
        ∙ get_or-append (labels_of (nets k)) (drop n (verdicts.labels k).before) 0 w (omega (arith, labels_length (nets k)))

    -- "in a group of two or more": two or more have the label that is written
    grouped-same : (w : ℕ) → w < n
        → (1 ≤ grouped_in (nets k) w) ↔ (1 ≤ flag (leb 2 (group_size (written_label verdicts k) n (written_label verdicts k w))))
    grouped-same w o =
        rw (label_same w o, size-cong (written_label verdicts k) (label_of (nets k)) n label_same (label_of (nets k) w))
        (Iff.trans (means.grouped k w l o) (shares-two (label_of (nets k)) n w o))

  highest-returned : (x : ℕ) → IsHighest nets m x ↔ HighestReturned plan verdicts x
  highest-returned x = (there, back)
    where
      there : IsHighest nets m x → HighestReturned plan verdicts x
      there h =
          record {
            list = h.list;
            below = h.below;
            stable = stable-same h.list h.below ∙ h.stable;
            is = size_same h.list h.below h.stable ∙ h.is;
            most = λ k l s.
                let t = sym (stable-same k l) ∙ s in
                omega (arith, h.most k l t, size_same k l t);
          }

      back : HighestReturned plan verdicts x → IsHighest nets m x
      back h =
          let s = sym (stable-same h.list h.below) ∙ h.stable in
          record {
            list = h.list;
            below = h.below;
            stable = s;
            is = sym (size_same h.list h.below s) ∙ h.is;
            most = λ k l t. omega (arith, h.most k l (stable-same k l ∙ t), size_same k l t);
          }

  highest-among : (x : ℕ) → ((figures_has_highest r ≡ true) × (figures_highest r ≡ x)) ↔ HighestReturned plan verdicts x
  highest-among x =
      rw (has-is, highest-is) (Iff.trans (rank_is (highest_stable nets m) x) (Iff.trans (means.highest x) (highest-returned x)))

  absent-if-none : (figures_has_highest r ≡ false) ↔ ((k : ℕ) → k < m → verdict_is_stable (verdicts.answer k) ≡ false)
  absent-if-none =
      rw has-is
      (Iff.trans (rank-absent (highest_stable nets m))
      (Iff.trans means.absent
      (λ h k l. stable-same k l ∙ h k l, λ h k l. sym (stable-same k l) ∙ h k l)))

  counted-at : figures_has_highest r ≡ true → (figures_highest r < n) × (1 ≤ get_or ranks.after (figures_highest r) 0)
  counted-at e =
      let h : highest_stable nets m ≡ Some (figures_highest r) = (rank_is _ _).0 (sym has-is ∙ e, sym highest-is) in
      let top = (means.highest _).0 h in
      let below : figures_highest r < n = omega (arith, top.is, means.ranks_below top.list top.below top.stable) in
      (below, omega (arith, rank-at _ below, ((means.counted _).0 h).counted))

  none-above : (x : ℕ) → x < n → 1 ≤ get_or ranks.after x 0 → x ≤ figures_highest r
  none-above x l c = go (highest_stable nets m) refl
    where
      go : (h : Option ℕ) → highest_stable nets m ≡ h → x ≤ figures_highest r
      go None e = absurd (omega (arith, rank-at x l, means.uncounted.0 e x))
      go (Some y) e = omega (arith, highest-is ∙ ap rank_of e, ((means.counted y).0 e).most x (omega (arith, rank-at x l)))

  from-verdicts : CountedFromVerdicts plan verdicts r ranks routers
  unfolding stable_lists suspect_lists stable_with grouped_lists
  from-verdicts =
      record {
        stable = stable-is ∙ count-cong _ _ m (λ k l. ap flag (sym (stable-same k l)));
        suspect = suspect-is ∙ count-cong _ _ m (λ k l. ap (λ b. flag (not b)) (sym (stable-same k l)));
        make_up = omega (arith, stable-is, suspect-is, means.make_up);
        highest = highest-among;
        absent = absent-if-none;
        absent_is_zero = λ e. highest-is ∙ absent-zero (highest_stable nets m) (sym has-is ∙ e);
        by_rank = λ x l. rank-at x l ∙ count-cong _ _ m (λ k o. same_rank _ _ _ _ x (stable-same k o) (size_same k o));
        rank_sum = total-cong _ _ n rank-at ∙ means.rank_sum ∙ sym stable-is;
        counted = counted-at;
        none_above = none-above;
        by_router = λ w l. router-at w l ∙ count-iff _ _ m (λ k o. grouped-same k o w l);
        router_sum =
            total-cong _ _ n router-at ∙ means.router_sum
            ∙ total-cong _ _ m (λ k l. sym (sizes-cong (written_label verdicts k) (label_of (nets k)) n (label_same k l)));
        ranks_fit = λ x l. omega (arith, rank-at x l, means.ranks_fit x, facts.lists.most);
        routers_fit = λ w l. omega (arith, router-at w l, means.routers_fit w, facts.lists.most);
        ranks_rest = drop-written (stable_with nets m) n ranks.before ranks.after ranks-are;
        routers_rest = drop-written (grouped_lists nets m) n routers.before routers.after routers-are;
      }

pub figures-from-verdicts : EveryFigureFromVerdicts
figures-from-verdicts = from-verdicts

-- what the verdict call answers and leaves of buffers of zeros
module _ (plan : List ℕ) (plan_ok : plan_refusal plan ≡ 0) where
  abbrev zeros : List ℕ
  zeros = replicate (2 * router_count plan) 0

  abbrev leaves : (Instance → List ℕ → List ℕ) → ℕ → Lent (List ℕ)
  leaves f k = record { before = zeros; after = f (instance_of plan k) zeros }

  long-enough : buffers_ok (router_count plan) zeros zeros zeros zeros ≡ true
  unfolding buffers_ok
  long-enough =
      let size : length zeros ≡ 2 * router_count plan = length-replicate (2 * router_count plan) 0 in
      let one : leb (router_count plan) (length zeros) ≡ true = le-leb (router_count plan) (length zeros) (omega arith) in
      let two : leb (2 * router_count plan) (length zeros) ≡ true = le-leb (2 * router_count plan) (length zeros) (omega arith) in
      both _ _ (both _ _ (both _ _ one one) two) one

  verdicts-there : Verdicts plan
  verdicts-there =
      record {
        answer = λ k. answer_of (found (instance_of plan k));
        labels = leaves labels_left;
        ranks = leaves ranks_left;
        table = leaves table_left;
        shown = leaves cycle_left;
        given = λ k l.
            verdict-given plan k _ _ _ _ (found (instance_of plan k)) (no-refusal plan k plan_ok l zeros zeros zeros zeros long-enough)
            (record { verdict = refl; labelled = refl; ranked = refl; settled = refl; cycled = refl });
        room = λ k l. long-enough;
      }

pub plan-has-verdicts : EveryPlanHasVerdicts
plan-has-verdicts = verdicts-there
