-- The verdict of a plan's list means what document 01 says.
use Prim.Native.Nat.{ℕ, ◌≤◌, ◌<◌}
use native.Mathlib.Omega.{arith}
use mathlib.Core.Path.{◌≡◌, ap}
use mathlib.Core.Bool.{true, false}
use mathlib.Core.List.{List}
use mathlib.Core.Logic.{inl, inr, ⊎_elim}
use lib.ListN.{length, get_or}
use Rattle.base.specs.Seek.{flag}
use Rattle.base.proofs.Numbers.{lt-or-le}
use Rattle.base.proofs.Seek.{flag-yes, highest-over}
use Rattle.plan_contents.specs.Header.{router_count}
use Rattle.graph_groups.specs.Closure.{closure, Irreflexive, Acyclic}
use Rattle.graph_groups.specs.Groups.{together}
use Rattle.graph_groups.proofs.Reaching.{closure-is}
use Rattle.graph_groups.proofs.Sharing.{together-cases, together-self, together-both, label-upto, label-shares, label-lowest, stable-groups, stable-chains, stable-acyclic}
use Rattle.graph_ranks.specs.Rank.{OneMore}
use Rattle.graph_ranks.proofs.RankRule.{rank_falls, rank-means}
use Rattle.graph_cycle.specs.Cycle.{IsCycle}
use Rattle.graph_cycle.proofs.Walking.{cycle-is}
use Rattle.route_rules.specs.Instance.{Instance}
use Rattle.route_rules.specs.Reliance.{relies, reliance}
use Rattle.route_rules.proofs.Reliance.{relies-other}
use Rattle.route_theorems.specs.Claims.{Ranked, OneSteadyTable}
use Rattle.route_theorems.proofs.Uniqueness.{one-steady-table}
use Rattle.route_theorems.proofs.Senders.{settles-by-any-sender}
use Rattle.net_rules.specs.FromPlan.{instance_of}
use Rattle.net_verdict.specs.Assessed.{is_stable, highest_of, cycle_of}
use Rattle.checker_theorems.specs.VerdictMeaning.{Shares, label_in, rank_in, HighestBelow, VerdictMeans}

module _ (I : Instance) where
  pub relies-irreflexive : Irreflexive (reliance I) I.n
  relies-irreflexive i l = ap flag (relies-other I i)

  pub acyclic : is_stable I ≡ true → Acyclic (reliance I) I.n
  unfolding is_stable
  acyclic stable_list = stable-acyclic (reliance I) I.n relies-irreflexive stable_list

  -- a reliance, as the number that chains and ranks are made of
  relied-on : (w v : ℕ) → relies I w v ≡ true → 1 ≤ reliance I w v
  relied-on w v h = rw h (omega arith)

module _ (plan : List ℕ) (k : ℕ) where
  module _ (w v : ℕ) (l : w < router_count plan) (m : v < router_count plan) where
    shares-together : Shares plan k w v → 1 ≤ together (closure (reliance (instance_of plan k)) (router_count plan)) w v
    shares-together (inl e) = together-self _ w v e
    shares-together (inr c) =
        together-both _ w v ((closure-is (reliance (instance_of plan k)) (router_count plan) w v l m).1 c.0)
        ((closure-is (reliance (instance_of plan k)) (router_count plan) v w m l).1 c.1)

    pub together-shares : 1 ≤ together (closure (reliance (instance_of plan k)) (router_count plan)) w v → Shares plan k w v
    together-shares h =
        ⊎_elim (λ (e : w ≡ v). inl e)
        (λ (c : (1 ≤ closure (reliance (instance_of plan k)) (router_count plan) w v) × (1 ≤ closure (reliance (instance_of plan k)) (router_count plan) v w)).
        inr (
          (closure-is (reliance (instance_of plan k)) (router_count plan) w v l m).0 c.0,
          (closure-is (reliance (instance_of plan k)) (router_count plan) v w m l).0 c.1,
        ))
        (together-cases (closure (reliance (instance_of plan k)) (router_count plan)) w v h)

  module _ (stable_list : is_stable (instance_of plan k) ≡ true) where
    falls : (w v : ℕ) → w < router_count plan → v < router_count plan → relies (instance_of plan k) w v ≡ true → rank_in plan k v < rank_in plan k w
    falls w v l m h =
        rank_falls (reliance (instance_of plan k)) (router_count plan) (acyclic (instance_of plan k) stable_list) w v l m
        (relied-on (instance_of plan k) w v h)

    pub ranked : Ranked (instance_of plan k) (rank_in plan k) (highest_of (instance_of plan k))
    unfolding highest_of
    ranked = record { falls = falls; highest = highest-over (rank_in plan k) (router_count plan) }

    pub settled-alone : OneSteadyTable (instance_of plan k) (highest_of (instance_of plan k))
    settled-alone = one-steady-table (instance_of plan k) (rank_in plan k) (highest_of (instance_of plan k)) ranked

    highest-below : (w v : ℕ) → w < router_count plan → v < router_count plan → relies (instance_of plan k) w v ≡ true → HighestBelow plan k w
    highest-below w v l m h =
        let b : OneMore (reliance (instance_of plan k)) (router_count plan) (rank_in plan k) w
        = (rank-means (reliance (instance_of plan k)) (router_count plan) (acyclic (instance_of plan k) stable_list)).on_some w v l m
        (relied-on (instance_of plan k) w v h) in
        record {
          at = b.at;
          below = b.below;
          relied = flag-yes (relies (instance_of plan k) w b.at) b.related;
          is = b.is;
          top = λ u o q. b.highest u o (relied-on (instance_of plan k) w u q);
        }

  -- no router relies on itself, so no cycle is of one
  two-or-more : is_stable (instance_of plan k) ≡ false → 2 ≤ length (cycle_of (instance_of plan k))
  unfolding is_stable cycle_of
  two-or-more s = ⊎_elim (λ (l : 1 < length shown). l) (λ (l : length shown ≤ 1). absurd (alone (omega (arith, is.some)))) (lt-or-le 1 (length shown))
    where
      shown : List ℕ
      shown = cycle_of (instance_of plan k)

      is : IsCycle (reliance (instance_of plan k)) (closure (reliance (instance_of plan k)) (router_count plan)) (router_count plan) shown
      is = cycle-is (reliance (instance_of plan k)) (router_count plan) s

      alone : length shown ≡ 1 → ⊥
      alone e =
          let itself : 1 ≤ reliance (instance_of plan k) (get_or shown 0 0) (get_or shown 0 0) = rw e at is.closes in
          omega (arith, relies-irreflexive (instance_of plan k) (get_or shown 0 0) (is.below 0 is.some))

  pub verdict-means : VerdictMeans plan k
  unfolding is_stable cycle_of
  verdict-means =
      record {
        label_shares =
            λ w l.
            together-shares w (label_in plan k w) l (omega (arith, label-upto (closure (reliance (instance_of plan k)) (router_count plan)) w))
            (label-shares (closure (reliance (instance_of plan k)) (router_count plan)) w);
        label_lowest = λ w v l m h. label-lowest (closure (reliance (instance_of plan k)) (router_count plan)) w v (shares-together w v l m h);
        stable_groups =
            let groups = stable-groups (closure (reliance (instance_of plan k)) (router_count plan)) (router_count plan) in (
              λ h w v l m s. groups.0 h w v l m (shares-together w v l m s),
              λ h. groups.1 (λ w v l m s. h w v l m (together-shares w v l m s)),
            );
        stable_chains = stable-chains (reliance (instance_of plan k)) (router_count plan) (relies-irreflexive (instance_of plan k));
        shows_cycle = cycle-is (reliance (instance_of plan k)) (router_count plan);
        cycle_of_two = two-or-more;
        rank_none = λ s w l h.
            (rank-means (reliance (instance_of plan k)) (router_count plan) (acyclic (instance_of plan k) s)).on_none w l (λ v m. ap flag (h v m));
        rank_some = highest-below;
        settled = settled-alone;
        any_sender = λ s. settles-by-any-sender (instance_of plan k) (rank_in plan k) (highest_of (instance_of plan k)) (ranked s);
      }
