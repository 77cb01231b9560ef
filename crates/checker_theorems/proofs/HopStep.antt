-- No cycle of a plan's reliances contains a reflector with the hop step; where all reflectors have it every list is stable.
use Prim.Native.Nat.{ℕ, zero, suc, ◌<◌, ◌≤◌}
use native.Mathlib.Omega.{arith}
use mathlib.Core.Path.{◌≡◌, refl, ◌∙◌, sym, ap}
use mathlib.Core.Bool.{Bool, true, false, ◌||◌}
use mathlib.Core.Option.{Option, none, some}
use mathlib.Core.List.{List, ◌++◌}
use mathlib.Core.Logic.{◌⊎◌, inl, inr, ⊎_elim}
use borrow.Author.Tests.{lt-ltb, leb-true}
use lib.Dec.{eqb, ltb}
use lib.ListN.{length, get_or, drop, get_or-append}
use Rattle.base.specs.Lent.{Lent}
use Rattle.base.specs.Tab.{tab}
use Rattle.base.proofs.Numbers.{both, eq-or-ne, not-both}
use Rattle.base.proofs.Seek.{flag-yes, highest-under}
use Rattle.base.proofs.Tab.{length-tab, get_or-tab}
use Rattle.plan_contents.specs.Header.{router_count}
use Rattle.plan_contents.specs.Contents.{routers_body}
use Rattle.plan_rules.specs.Routers.{role, reflector_in}
use Rattle.plan_rules.specs.EgressLists.{list_count}
use Rattle.plan_rules.proofs.Cascade.{refuse-passed}
use Rattle.plan_rules.proofs.Parents.{client-is}
use Rattle.plan_rules.proofs.Refused.{when-given}
use Rattle.graph_groups.specs.Closure.{closure, Chain, step, more}
use Rattle.graph_groups.proofs.Sharing.{stable-chains}
use Rattle.graph_ranks.specs.Rank.{rank}
use Rattle.graph_cycle.specs.Cycle.{IsCycle}
use Rattle.route_rules.specs.Instance.{Instance}
use Rattle.route_rules.specs.Preference.{has_step}
use Rattle.route_rules.specs.Reliance.{best_client, reliance}
use Rattle.route_theorems.specs.HopStep as network
use Rattle.route_theorems.proofs.HopStep.{in-cycle, all-have-step}
use Rattle.net_rules.specs.FromPlan.{instance_of, RoleOf}
use Rattle.net_rules.proofs.FromPlan.{trusted}
use Rattle.net_verdict.specs.Assessed.{is_stable, highest_of, labels_of, cycle_of, found, labels_left, cycle_left}
use Rattle.call_rules.specs.Refusals.{buffers_ok, verdict_refusal, table_checks}
use Rattle.call_verdict.specs.declared.verdict.VerdictAnswer.{VerdictAnswer}
use Rattle.call_verdict.specs.declared.verdict.VerdictAnswer.TheVariants.{Suspect}
use Rattle.call_verdict.specs.Verdict.{verdict_number, verdict_is_stable, verdict_answer, labels_after, cycle_after, VerdictCall}
use Rattle.checker_theorems.specs.Comparisons.{step_role}
use Rattle.checker_theorems.specs.VerdictMeaning.{Shares, label_in, rank_in}
use Rattle.checker_theorems.specs.Series.{Call, ForThis, SettledAfter}
use Rattle.checker_theorems.specs.HopStep.{HasList, MayCycle, VerdictShowsNoStep, EveryStepBreaksCycles, AllHaveStep, VerdictAtMostThree, StableList, AllHaveStepStable}
use Rattle.checker_theorems.proofs.VerdictMeaning.{relies-irreflexive, together-shares, verdict-means}
use Rattle.checker_theorems.proofs.Series.{every-series-settles}
use Rattle.checker_theorems.proofs.StableVerdict.{stable-ranks, no-refusal, StableVerdict, stable-verdict}

-- chains of reliances
module _ (I : Instance) where
  leads : {n w v : ℕ} → Chain (reliance I) n w v → network.Leads I w v
  leads (step r) = network.last (flag-yes _ r)
  leads (more m r c) = network.more (flag-yes _ r) (leads c)

  onward : {w v u : ℕ} → network.Leads I w v → network.Leads I v u → network.Leads I w u
  onward (network.last r) d = network.more r d
  onward (network.more r c) d = network.more r (onward c d)

-- the bytes of a buffer that starts with these
front-byte : (bytes rest : List ℕ) {buffer : List ℕ} → buffer ≡ bytes ++ rest → (j : ℕ) → j < length bytes
    → get_or buffer j 0 ≡ get_or bytes j 0
front-byte bytes rest e j l = ap (λ b. get_or b j 0) e ∙ get_or-append bytes rest 0 j l

-- a label that the verdict call writes
pub label-byte : (plan : List ℕ) (k : ℕ) (r : VerdictAnswer) (labels ranks table shown : Lent (List ℕ))
    → VerdictCall plan k r labels ranks table shown
    → verdict_refusal plan k labels.before ranks.before table.before shown.before ≡ 0
    → (w : ℕ) → w < router_count plan → get_or labels.after w 0 ≡ label_in plan k w
unfolding labels_after labels_left labels_of
label-byte plan k r labels ranks table shown call given w l =
    front-byte (tab (label_in plan k) (router_count plan)) (drop (router_count plan) labels.before) (call.labelled ∙ when-given _ _ _ given) w
    (omega (arith, length-tab (label_in plan k) (router_count plan)))
    ∙ get_or-tab (label_in plan k) (router_count plan) 0 w l

module _ (plan : List ℕ) (k : ℕ) (h : HasList plan k) where
  abbrev I : Instance
  I = instance_of plan k

  -- who is in a cycle, by its role
  may-cycle : (w : ℕ) → w < router_count plan → network.Leads I w w → MayCycle plan k w
  unfolding has_step
  may-cycle w l chain = go (best_client I w) refl
    where
      c : network.InCycle I w
      c = in-cycle I chain

      stepped : {A : Type 0} → I.hop w ≡ true → A
      stepped p = not-both (has_step I w) (both _ _ c.reflector p) c.without_step

      without : (role (routers_body plan) w ≡ 1) ⊎ (role (routers_body plan) w ≡ 3)
      without =
          ⊎_elim (λ (r : RoleOf plan I w 1 true false false). inl r.0)
          (⊎_elim (λ (r : RoleOf plan I w 2 false false false). not-both (I.reflector w) c.reflector r.1)
          (⊎_elim (λ (r : RoleOf plan I w 3 true true false). inr r.0)
          (⊎_elim (λ (r : RoleOf plan I w 4 true false true). stepped r.3) (λ (r : RoleOf plan I w 5 true true true). stepped r.3))))
          ((trusted plan k h.plan_ok h.list_ok).roles w l)

      go : (b : Option ℕ) → best_client I w ≡ b → MayCycle plan k w
      go none q = absurd (c.has_client q)
      go (some e) q = record { unlisted = c.unlisted; without_step = without; client = e; best = q }

  no_step : (w : ℕ) → MayCycle plan k w → step_role plan w ≡ false
  no_step w m =
      ⊎_elim (λ (e : role (routers_body plan) w ≡ 1). ap (λ r. eqb r 4 || eqb r 5) e)
      (λ (e : role (routers_body plan) w ≡ 3). ap (λ r. eqb r 4 || eqb r 5) e)
      m.without_step

  -- who shares a group with another is in a cycle
  shares-cycle : (w v : ℕ) → (w ≡ v → ⊥) → Shares plan k w v → network.Leads I w w
  shares-cycle w v d (inl e) = absurd (d e)
  shares-cycle w v d (inr c) = onward I (leads I c.0) (leads I c.1)

  who-shares : (w v : ℕ) → w < router_count plan → (w ≡ v → ⊥) → Shares plan k w v → MayCycle plan k w
  who-shares w v l d s = may-cycle w l (shares-cycle w v d s)

  alone : (w v : ℕ) → w < router_count plan → step_role plan w ≡ true → Shares plan k w v → w ≡ v
  alone w v l p s = ⊎_elim (λ e. e) (λ (d : w ≡ v → ⊥). not-both (step_role plan w) p (no_step w (who-shares w v l d s))) (eq-or-ne w v)

  -- whoever is shown shares the group of another that is shown
  who-is-shown : is_stable I ≡ false → (j : ℕ) → j < length (cycle_of I) → MayCycle plan k (get_or (cycle_of I) j 0)
  who-is-shown s j l = go j l
    where
      shown : List ℕ
      shown = cycle_of I

      is : IsCycle (reliance I) (closure (reliance I) (router_count plan)) (router_count plan) shown
      is = (verdict-means plan k).shows_cycle s

      beside : (i j : ℕ) → i < length shown → j < length shown → (get_or shown i 0 ≡ get_or shown j 0 → ⊥) → MayCycle plan k (get_or shown i 0)
      beside i j l m d =
          who-shares (get_or shown i 0) (get_or shown j 0) (is.below i l) d
          (together-shares plan k (get_or shown i 0) (get_or shown j 0) (is.below i l) (is.below j m) (is.group i j l m))

      go : (j : ℕ) → j < length shown → MayCycle plan k (get_or shown j 0)
      go zero l = beside 0 1 l ((verdict-means plan k).cycle_of_two s) (is.distinct 0 1 (omega arith) ((verdict-means plan k).cycle_of_two s))
      go (suc i) l = beside (suc i) 0 l (omega arith) (λ e. is.distinct 0 (suc i) (omega arith) l (sym e))

  -- two routers with one label
  pub same-label : (w v : ℕ) → w < router_count plan → v < router_count plan → (w ≡ v → ⊥) → label_in plan k w ≡ label_in plan k v
      → MayCycle plan k w
  same-label w v l m d e =
      ⊎_elim
      (λ (q : w ≡ label_in plan k w). may-cycle w l (turned (q ∙ e) ((verdict-means plan k).label_shares v m)))
      (λ (n : w ≡ label_in plan k w → ⊥). who-shares w (label_in plan k w) l n ((verdict-means plan k).label_shares w l))
      (eq-or-ne w (label_in plan k w))
    where
      -- w is the label of v
      turned : w ≡ label_in plan k v → Shares plan k v (label_in plan k v) → network.Leads I w w
      turned q (inl p) = absurd (d (q ∙ sym p))
      turned q (inr c) = rw q (onward I (leads I c.1) (leads I c.0))

  -- the verdict call
  module _ (r : VerdictAnswer) (labels ranks table shown : Lent (List ℕ)) (call : VerdictCall plan k r labels ranks table shown)
      (room : buffers_ok (router_count plan) labels.before ranks.before table.before shown.before ≡ true) where
    given : verdict_refusal plan k labels.before ranks.before table.before shown.before ≡ 0
    given = no-refusal plan k h.plan_ok h.list_ok labels.before ranks.before table.before shown.before room

    label : (w : ℕ) → w < router_count plan → get_or labels.after w 0 ≡ label_in plan k w
    label = label-byte plan k r labels ranks table shown call given

    suspect : (count : ℕ) → r ≡ Suspect count → is_stable I ≡ false
    suspect count e = go (is_stable I) refl
      where
        go : (b : Bool) → is_stable I ≡ b → is_stable I ≡ false
        go true s =
            let a = (stable-verdict plan k r labels ranks table shown call given s).answer in
            let z : ◌≡◌ {A = ℕ} 0 1 = cc in
            absurd (omega arith)
        go false s = s

    cycle-length : (count : ℕ) → r ≡ Suspect count → count ≡ length (cycle_of I)
    unfolding verdict_answer found
    cycle-length count e =
        let s = suspect count e in
        let a : r ≡ Suspect (length (cycle_of I)) = call.answer ∙ when-given _ _ _ given ∙ rw s in
        cc

    cycle-byte : is_stable I ≡ false → (j : ℕ) → j < length (cycle_of I) → get_or shown.after j 0 ≡ get_or (cycle_of I) j 0
    unfolding cycle_after cycle_left
    cycle-byte s j l =
        front-byte (cycle_of I) (drop (length (cycle_of I)) shown.before) (call.cycled ∙ when-given _ _ _ given ∙ rw s) j l

    in-shown : (count : ℕ) → r ≡ Suspect count → (j : ℕ) → j < count → MayCycle plan k (get_or shown.after j 0)
    in-shown count e j l =
        let s = suspect count e in
        let m : j < length (cycle_of I) = omega (arith, cycle-length count e) in
        rw (cycle-byte s j m) (who-is-shown s j m)

    verdict-without : VerdictShowsNoStep plan k r labels shown
    verdict-without =
        record {
          cycled = λ count e j l. no_step _ (in-shown count e j l);
          in_cycle = in-shown;
          labelled = λ w l p. label w l ∙ sym (alone w (label_in plan k w) l p ((verdict-means plan k).label_shares w l));
          same_label = λ w v l m d e. same-label w v l m d (sym (label w l) ∙ e ∙ label v m);
        }

pub step-breaks-cycles : EveryStepBreaksCycles
step-breaks-cycles plan k h =
    record {
      no_chain = λ w l p c. not-both (step_role plan w) p (no_step plan k h w (may-cycle plan k h w l (leads (instance_of plan k) c)));
      none_shown = λ s j l. no_step plan k h _ (who-is-shown plan k h s j l);
      alone = λ w v l m. alone plan k h w v l;
      who_cycles = λ w l c. may-cycle plan k h w l (leads (instance_of plan k) c);
      who_is_shown = who-is-shown plan k h;
      who_shares = λ w v l m. who-shares plan k h w v l;
      verdict = verdict-without plan k h;
    }

module _ (plan : List ℕ) (h : AllHaveStep plan) where
  pub all-hop : network.EveryReflectorSteps (instance_of plan 0)
  all-hop w l r =
      ⊎_elim
      (λ (e : role (routers_body plan) w ≡ 2).
      not-both (reflector_in (routers_body plan) (router_count plan) w) r (client-is (routers_body plan) (router_count plan) w e))
      (λ (p : step_role plan w ≡ true). both (ltb w (router_count plan)) _ (lt-ltb w _ l) p)
      (h.roles w l)

  -- whichever routers are listed
  module _ (listed : ℕ → Bool) where
    abbrev J : Instance
    J = network.with_list (instance_of plan 0) listed

    every-stable : is_stable J ≡ true
    unfolding is_stable
    every-stable =
        (stable-chains (reliance J) (router_count plan) (relies-irreflexive J)).1
        (λ w l c. (all-have-step (instance_of plan 0) all-hop).no_cycle listed w l (leads J c))

    every-rank : (w : ℕ) → w < router_count plan → rank (reliance J) (router_count plan) w ≤ 3
    every-rank = (all-have-step (instance_of plan 0) all-hop).ranks listed (rank (reliance J) (router_count plan)) (stable-ranks J every-stable)

    every-highest : highest_of J ≤ 3
    unfolding highest_of
    every-highest = highest-under _ (router_count plan) 3 every-rank

  module _ (k : ℕ) (list_ok : k < list_count plan) where
    listed-stable : is_stable (instance_of plan k) ≡ true
    listed-stable = every-stable (instance_of plan k).listed

    highest-three : highest_of (instance_of plan k) ≤ 3
    highest-three = every-highest (instance_of plan k).listed

    module _ (r : VerdictAnswer) (labels ranks table shown : Lent (List ℕ)) (call : VerdictCall plan k r labels ranks table shown)
        (room : buffers_ok (router_count plan) labels.before ranks.before table.before shown.before ≡ true) where
      written : StableVerdict plan k r labels ranks table shown
      written =
          stable-verdict plan k r labels ranks table shown call
          (no-refusal plan k h.plan_ok list_ok labels.before ranks.before table.before shown.before room) listed-stable

      rank-byte : (w : ℕ) → w < router_count plan → get_or ranks.after w 0 ≡ rank_in plan k w
      rank-byte w l =
          front-byte (tab (rank_in plan k) (router_count plan)) (drop (router_count plan) ranks.before) written.ranked w
          (omega (arith, length-tab (rank_in plan k) (router_count plan)))
          ∙ get_or-tab (rank_in plan k) (router_count plan) 0 w l

      at-most-three : VerdictAtMostThree plan k r labels ranks table shown
      at-most-three =
          record {
            answer = written.answer;
            number = ap verdict_number written.answer;
            stable = ap verdict_is_stable written.answer;
            size = rw written.answer highest-three;
            labelled = written.labelled;
            ranked = λ w l. omega (arith, rank-byte w l, every-rank (instance_of plan k).listed w l);
            settled = written.settled;
            cycled = written.cycled;
          }

    list-settles : (start : List ℕ) → table_checks (instance_of plan k) start ≡ 0 → (calls : List Call) → ForThis plan k calls start
        → SettledAfter plan k start calls
    unfolding table_checks
    list-settles start checked calls this =
        let long = refuse-passed _ 8 _ checked in
        every-series-settles plan k start
        (record {
          plan_ok = h.plan_ok;
          list_ok = list_ok;
          stable_list = listed-stable;
          long = leb-true _ _ long.0;
          table = (refuse-passed _ 9 0 long.1).0;
        })
        calls
        this

    list-stable : StableList plan k
    list-stable =
        record {
          stable = listed-stable;
          highest = highest-three;
          ranks = every-rank (instance_of plan k).listed;
          verdict = at-most-three;
          settles = list-settles;
          five_rounds = λ start calls five. omega (arith, highest-three);
        }

pub all-have-step-stable : AllHaveStepStable
all-have-step-stable plan h = record { lists = list-stable plan h; stable = every-stable plan h; highest = every-highest plan h }
