-- Stable for every list, over a plan's bytes.
use Prim.Native.Nat.{ℕ, ◌≤◌, ◌<◌}
use native.Mathlib.Omega.{arith}
use mathlib.Core.Path.{◌≡◌, refl, ◌∙◌, sym, ap, ap₂, fun_ext}
use mathlib.Core.Bool.{Bool, true, false, not, ◌&&◌}
use mathlib.Core.List.{List, ◌++◌}
use mathlib.Core.Logic.{◌⊎◌, inl, inr, ⊎_elim}
use borrow.Author.Tests.{lt-ltb, eqb-true, eq-eqb, not-false}
use lib.Dec.{eqb}
use lib.ListN.{length, get_or, take, drop}
use lib.Seq.{take_at}
use Rattle.base.proofs.Below.{Witness, any_at, any_found}
use Rattle.base.specs.Seek.{flag, count}
use Rattle.base.proofs.Numbers.{lt-or-le, eq-or-ne, not-both}
use Rattle.plan_contents.specs.Header.{router_count}
use Rattle.plan_contents.specs.Contents.{routers_body, sessions_body}
use Rattle.plan_rules.specs.Routers.{role}
use Rattle.plan_rules.specs.Parents.{parent_in, parent_count}
use Rattle.plan_rules.specs.Refusal.{plan_refusal}
use Rattle.plan_rules.specs.Passed.{Passed}
use Rattle.plan_rules.proofs.Neighbours.{session-swap}
use Rattle.plan_rules.proofs.Passed.{passed, accepted}
use Rattle.plan_rules.proofs.Refused.{when-given}
use Rattle.route_rules.specs.Instance.{Instance}
use Rattle.steady_rules.specs.Numbers.{has, Occurs}
use Rattle.steady_rules.proofs.Listing.{has-times, times-occurs, occurs-times}
use Rattle.steady_rules.proofs.Numbers.{count-lt}
use Rattle.steady_rules.proofs.Solutions.{same_test}
use Rattle.everylist_rules.specs.EveryList.{with_list, stable_for, every_list, suspect_list, Clusters, EveryListMeans}
use Rattle.everylist_rules.proofs.Meaning.{every-list-means}
use Rattle.everylist_rules.proofs.Pairs.{pair_parts}
use Rattle.everylist_rules.proofs.Suspects.{shared}
use Rattle.net_rules.specs.FromPlan.{named, instance_of}
use Rattle.net_verdict.specs.Assessed.{is_stable}
use Rattle.call_rules.specs.Refusals.{every_list_refusal}
use Rattle.call_rules.proofs.Granted.{every-list-asked}
use Rattle.call_everylist.specs.EveryList.{network_of, list_after, count_of}
use Rattle.checker_theorems.specs.HopStep.{HasList}
use Rattle.checker_theorems.specs.EveryList.{with_list_in, LegalList, OneParent, EachStable, EveryListedPlan, AnswerMeans, EveryListOfPlans, EveryListCallMeans}
use Rattle.checker_theorems.proofs.HopSets.{says}
use Rattle.checker_theorems.proofs.HopStep.{all-hop}
use Rattle.checker_theorems.proofs.ListedPlans.{long-is, kept, lists-is, listed-passed, one-is, numbers-is, listed-network}

-- where a test says yes at most once, two that it says yes to are one
one-yes : (g : ℕ → ℕ) (n u w : ℕ) → u < n → w < n → count g n ≤ 1 → 1 ≤ g u → 1 ≤ g w → u ≡ w
one-yes g n u w l m few p q = go (lt-or-le u w) (lt-or-le w u)
  where
    go : (u < w) ⊎ (w ≤ u) → (w < u) ⊎ (u ≤ w) → u ≡ w
    go (inl h) k = absurd (omega (arith, count-lt g u w h p, count-lt g w n m q))
    go (inr h) (inl k) = absurd (omega (arith, count-lt g w u k q, count-lt g u n l p))
    go (inr h) (inr k) = omega arith

-- two tests of who is in a list
named-has : (numbers : List ℕ) → named numbers ≡ has numbers
unfolding named
named-has numbers =
    fun_ext (λ v.
    let t = has-times numbers v in
    same_test (named numbers v) (has numbers v) (
      λ h.
          let w : Witness (λ j. eqb (get_or numbers j 0) v) (length numbers) = any_at _ _ h in
          t.1 (occurs-times v numbers (record { at = w.at; within = w.below; is = eqb-true _ _ w.holds })),
      λ h.
          let o : Occurs v numbers = times-occurs v numbers (t.0 h) in
          any_found (λ j. eqb (get_or numbers j 0) v) (length numbers) o.at o.within (eq-eqb _ _ o.is),
    ))

pub every-listed-plan : EveryListedPlan
unfolding is_stable
every-listed-plan plan numbers ok g =
    record {
      others = kept plan numbers p g;
      lists = lists-is plan numbers p g;
      long = long-is plan numbers p g;
      passes = accepted (with_list_in plan numbers) (listed-passed plan numbers p g);
      one = one-is plan numbers p g;
      is = numbers-is plan numbers p g;
      network = listed-network plan numbers p g;
      verdict = λ r labels ranks table shown call z.
          says (with_list_in plan numbers) 0 r labels ranks table shown call z ∙ ap is_stable (listed-network plan numbers p g 0);
    }
  where
    p : Passed plan
    p = passed plan ok

module _ (plan : List ℕ) (ok : plan_refusal plan ≡ 0) where
  abbrev I : Instance
  I = network_of plan

  m : EveryListMeans I
  m = every-list-means I

  has-list : (numbers : List ℕ) → LegalList (router_count plan) numbers → HasList (with_list_in plan numbers) 0
  has-list numbers g =
      let l = every-listed-plan plan numbers ok g in
      record { plan_ok = l.passes; list_ok = omega (arith, l.one) }

  -- whoever is given with a no is a client
  given-client : every_list I ≡ 0 → (j : ℕ) → j < length (suspect_list I)
      → (get_or (suspect_list I) j 0 < router_count plan) × (I.reflector (get_or (suspect_list I) j 0) ≡ false)
  given-client h j l =
      m.clients (get_or (suspect_list I) j 0) ((m.given h (get_or (suspect_list I) j 0)).0 (record { at = j; within = l; is = refl }))

  legal-given : LegalList (router_count plan) (suspect_list I)
  legal-given = record { below = λ j l. ⊎_elim (λ h. (given-client h j l).0) (none j l) (eq-or-ne (every_list I) 0); rises = m.rises }
    where
      none : (j : ℕ) → j < length (suspect_list I) → (every_list I ≡ 0 → ⊥) → get_or (suspect_list I) j 0 < router_count plan
      none j l d = absurd (omega (arith, ap length (m.nobody d)))

  client-role : (v : ℕ) → v < router_count plan → I.reflector v ≡ false → role (routers_body plan) v ≡ 2
  client-role v l h =
      eqb-true (role (routers_body plan) v) 2
      (not-false (eqb (role (routers_body plan) v) 2) (sym (ap (λ b. b && not (eqb (role (routers_body plan) v) 2)) (lt-ltb v (router_count plan) l)) ∙ h))

  few-parents : OneParent plan → (c : ℕ) → c < router_count plan → role (routers_body plan) c ≡ 2
      → count (λ u. flag (parent_in (routers_body plan) (sessions_body plan) (router_count plan) c u)) (router_count plan) ≤ 1
  unfolding parent_count
  few-parents few c l e = few c l e

  -- two neighbouring reflectors of a client are one
  one-parent : OneParent plan → Clusters I
  one-parent few =
      m.single (λ w v l k h.
      let s = shared I w v h in
      let p = pair_parts I w s.client s.first in
      let q = pair_parts I v s.client s.second in
      one-yes (λ u. flag (parent_in (routers_body plan) (sessions_body plan) (router_count plan) s.client u)) (router_count plan) w v l k
      (few-parents few s.client s.below (client-role s.client s.below p.client))
      (parent w s.client p.reflector p.neighbour) (parent v s.client q.reflector q.neighbour))
    where
      parent : (u c : ℕ) → I.reflector u ≡ true → I.neighbour u c ≡ true
          → 1 ≤ flag (parent_in (routers_body plan) (sessions_body plan) (router_count plan) c u)
      parent u c r e = rw (r, session-swap (sessions_body plan) c u ∙ e) (omega arith)

  -- the list that is given is not stable
  given-suspect : every_list I ≡ 0 → stable_for I (named (suspect_list I)) ≡ false
  given-suspect h = ap (stable_for I) (named-has (suspect_list I)) ∙ m.given_suspect h

  exactly : Clusters I → EachStable plan → every_list I ≡ 1
  exactly k each =
      ⊎_elim (λ (h : every_list I ≡ 0). not-both (stable_for I (named (suspect_list I))) (each (suspect_list I) legal-given) (given-suspect h))
      (λ (d : every_list I ≡ 0 → ⊥). ⊎_elim (λ (h : every_list I ≡ 2). absurd (m.decided k h)) (λ (e : every_list I ≡ 2 → ⊥). omega (arith, m.answers)) (eq-or-ne (every_list I) 2))
      (eq-or-ne (every_list I) 0)

  means : AnswerMeans plan (every_list I) (suspect_list I)
  means =
      record {
        answers = m.answers;
        no_cycle = m.no_cycle;
        yes = λ h numbers g. has-list numbers g;
        stable = λ h numbers g r labels ranks table shown call z.
            (every-listed-plan plan numbers ok g).verdict r labels ranks table shown call z ∙ m.always h (named numbers);
        legal = legal-given;
        clients = λ h j l. let c = given-client h j l in client-role (get_or (suspect_list I) j 0) c.0 c.1;
        somebody = m.somebody;
        no = λ h. has-list (suspect_list I) legal-given;
        suspect = λ h r labels ranks table shown call z.
            (every-listed-plan plan (suspect_list I) ok legal-given).verdict r labels ranks table shown call z ∙ given-suspect h;
        nobody = m.nobody;
        undecided = m.undecided;
        one_parent = one-parent;
        decided = m.decided;
        exact = λ k. (λ h numbers g. m.always h (named numbers), exactly k);
        guideline = m.guideline;
        step = λ h. m.step (all-hop plan h);
      }

-- a network's list plays no part
other-list : (I : Instance) (listed other : ℕ → Bool)
    → (every_list (with_list I listed) ≡ every_list (with_list I other)) × (suspect_list (with_list I listed) ≡ suspect_list (with_list I other))
other-list I listed other =
    let m = (every-list-means I).listless in ((m listed).0 ∙ sym (m other).0, (m listed).1 ∙ sym (m other).1)

pub every-list-of-plans : EveryListOfPlans
every-list-of-plans plan ok =
    let I = instance_of plan 0 in
    let none : ℕ → Bool = λ v. false in
    record {
      means = means plan ok;
      any_list = λ k. other-list I (instance_of plan k).listed none;
      other_lists = λ numbers g.
          rw (ap (λ J. with_list J none) (listed-network plan numbers (passed plan ok) g 0)) (other-list I none none);
    }

pub every-list-call-means : EveryListCallMeans
unfolding list_after
every-list-call-means plan r list call z =
    let I = network_of plan in
    let given : every_list_refusal plan list.before ≡ 0 = sym call.numbered ∙ z in
    let count : count_of r ≡ length (suspect_list I) = call.counted ∙ when-given _ _ _ given in
    let after : list.after ≡ suspect_list I ++ drop (length (suspect_list I)) list.before = call.written ∙ when-given _ _ _ given in
    let list-is : take (count_of r) list.after ≡ suspect_list I
    = ap₂ take count after ∙ take_at (suspect_list I) (drop (length (suspect_list I)) list.before) (length (suspect_list I)) refl in
    rw (call.answered ∙ when-given _ _ _ given, list-is) (every-list-of-plans plan (every-list-asked plan list.before given).plan_ok).means
