-- The rows of reliances and their closure state the reliances of the network: groups, ranks and the cycle are the network's.
use Prim.Native.Nat.{ℕ, ◌*◌, ◌≤◌, ◌<◌}
use native.Mathlib.Omega.{arith}
use mathlib.Core.Path.{◌≡◌, ◌∙◌, sym, ap, ap₂}
use mathlib.Core.Bool.{true, false}
use mathlib.Core.List.{List, ◌++◌}
use mathlib.Core.Logic.{⊎_elim}
use lib.ListN.{length, drop}
use Rattle.base.specs.Bits.{bits}
use Rattle.base.specs.Lent.{Lent}
use Rattle.base.specs.Seek.{flag, highest}
use Rattle.base.specs.Tab.{tab}
use Rattle.base.proofs.Numbers.{lt-or-le}
use Rattle.base.proofs.Seek.{highest-cong, highest-over}
use Rattle.base.proofs.Tab.{get_or-written}
use Rattle.base.specs.Elimination.{Agree}
use Rattle.graph_groups.specs.Closure.{closure, Within, Irreflexive, Acyclic}
use Rattle.graph_groups.specs.Groups.{label, stable}
use Rattle.graph_ranks.specs.Rank.{entry, rank, highest_rank}
use Rattle.graph_cycle.specs.Cycle.{cycle, CycleAsked}
use Rattle.graph_groups.proofs.Reaching.{closure-cong, acyclic-cong}
use Rattle.graph_groups.proofs.Sharing.{labels-cong, stable-cong, stable-acyclic}
use Rattle.graph_ranks.proofs.RankRule.{rank-cong, highest-rank-cong, rank_falls}
use Rattle.graph_cycle.proofs.Walking.{cycle-cong}
use Rattle.route_rules.specs.Instance.{Instance}
use Rattle.route_rules.specs.Reliance.{reliance}
use Rattle.route_rules.proofs.Reliance.{relies-other}
use Rattle.route_theorems.specs.Settled.{settled_table}
use Rattle.route_theorems.specs.Claims.{Ranked}
use Rattle.net_tables.specs.TableBytes.{table_bytes}
use Rattle.net_reliance.specs.RelianceRows.{RelianceRows}
use Rattle.net_verdict.specs.Assessed.{is_stable, labels_of, ranks_of, highest_of, settled_bytes, cycle_of, found, labels_left, ranks_left, table_left, cycle_left, Assessed}
use Rattle.net_verdict.specs.declared.Assessment.TheVariants.{Stable, Suspect}
use Rattle.net_settle.specs.ByRank.{highest_in}

module _ (I : Instance) (before relied : List ℕ) (h : RelianceRows I before relied) where
  related : Agree (bits relied) (reliance I) I.n
  related w v l m = (h.routers w l).within v m

  pub rows-within : Within (bits relied) I.n
  rows-within w v l e =
      ⊎_elim (λ (m : v < I.n). m) (λ (m : I.n ≤ v). absurd (omega (arith, (h.routers w l).past v m))) (lt-or-le v I.n)

  irreflexive : Irreflexive (reliance I) I.n
  irreflexive w l = ap flag (relies-other I w)

  -- where the network is stable
  module _ (s : is_stable I ≡ true) where
    acyclic : Acyclic (reliance I) I.n
    unfolding is_stable
    acyclic = stable-acyclic (reliance I) I.n irreflexive s

    pub rows-acyclic : Acyclic (bits relied) I.n
    rows-acyclic = acyclic-cong (reliance I) (bits relied) I.n (λ i j l m. sym (related i j l m)) acyclic

    module _ (start ranks : List ℕ) (e : ranks ≡ tab (rank (bits relied) I.n) I.n ++ drop I.n start) where
      ranks-are : ranks ≡ tab (rank (reliance I) I.n) I.n ++ drop I.n start
      ranks-are = e ∙ ap (λ f. tab f I.n ++ drop I.n start) (rank-cong (bits relied) (reliance I) I.n related)

      rank-at : (v : ℕ) → v < I.n → entry ranks v ≡ rank (reliance I) I.n v
      rank-at v l = get_or-written (rank (reliance I) I.n) I.n 0 start ranks ranks-are v l

      pub highest-is : highest_in ranks I.n ≡ highest_of I
      unfolding highest_of
      highest-is = highest-cong (entry ranks) (rank (reliance I) I.n) I.n rank-at

      pub ranks-fall : Ranked I (entry ranks) (highest_in ranks I.n)
      ranks-fall =
          record {
            falls = λ w v l m q.
                let one : 1 ≤ reliance I w v = rw q (omega arith) in
                omega (arith, rank-at w l, rank-at v m, rank_falls (reliance I) I.n acyclic w v l m one);
            highest = λ w l. highest-over (entry ranks) I.n w l;
          }

  pub highest-same : highest_rank (bits relied) I.n ≡ highest_of I
  unfolding highest_of
  highest-same = highest-rank-cong (bits relied) (reliance I) I.n related

  module _ (closed : List ℕ) (c : Agree (bits closed) (closure (bits relied) I.n) I.n) where
    same-closure : closure (bits relied) I.n ≡ closure (reliance I) I.n
    same-closure = closure-cong (bits relied) (reliance I) I.n related

    reached : Agree (bits closed) (closure (reliance I) I.n) I.n
    reached i j l m = c i j l m ∙ ap (λ C. C i j) same-closure

    labels-are : tab (label (bits closed)) I.n ≡ tab (label (closure (reliance I) I.n)) I.n
    labels-are = labels-cong (bits closed) (closure (reliance I) I.n) I.n reached

    pub stable-is : stable (bits closed) I.n ≡ is_stable I
    unfolding is_stable
    stable-is = stable-cong (bits closed) (closure (reliance I) I.n) I.n reached

    -- where it is suspect
    module _ (s : is_stable I ≡ false) where
      suspect : stable (closure (bits relied) I.n) I.n ≡ false
      unfolding is_stable
      suspect = ap (λ C. stable C I.n) same-closure ∙ s

      pub cycle-asked : (shown : List ℕ) → I.n ≤ 64 → I.n ≤ length shown → CycleAsked (bits relied) (bits closed) I.n shown
      cycle-asked shown small long =
          record {
            small = small;
            long = long;
            within = rows-within;
            irreflexive = λ w l. related w w l l ∙ irreflexive w l;
            closed = c;
            suspect = suspect;
          }

      cycle-is : cycle (bits relied) I.n ≡ cycle_of I
      unfolding cycle_of
      cycle-is = cycle-cong (bits relied) (reliance I) I.n related suspect

    -- what the buffers hold then is what an assessment leaves
    module _ (labels ranks table shown : Lent (List ℕ)) (r : ℕ)
        (l : labels.after ≡ tab (label (bits closed)) I.n ++ drop I.n labels.before) where
      labelled : labels.after ≡ tab (label (closure (reliance I) I.n)) I.n ++ drop I.n labels.before
      labelled = l ∙ ap (λ t. t ++ drop I.n labels.before) labels-are

      pub stable-assessed : is_stable I ≡ true → r ≡ highest_rank (bits relied) I.n
          → ranks.after ≡ tab (rank (bits relied) I.n) I.n ++ drop I.n ranks.before
          → table.after ≡ table_bytes (settled_table I r) ++ drop (2 * I.n) table.before
          → shown.after ≡ shown.before
          → Assessed I (Stable r) labels ranks table shown
      unfolding found labels_left ranks_left table_left cycle_left labels_of ranks_of settled_bytes
      stable-assessed s e k t kept =
          record {
            verdict = rw s (ap Stable (e ∙ highest-same));
            labelled = labelled;
            ranked = rw s (ranks-are s ranks.before ranks.after k);
            settled = rw s (t ∙ ap (λ h. table_bytes (settled_table I h) ++ drop (2 * I.n) table.before) (e ∙ highest-same));
            cycled = rw s kept;
          }

      pub suspect-assessed : is_stable I ≡ false → r ≡ length (cycle (bits relied) I.n)
          → ranks.after ≡ ranks.before
          → table.after ≡ table.before
          → shown.after ≡ cycle (bits relied) I.n ++ drop r shown.before
          → Assessed I (Suspect r) labels ranks table shown
      unfolding found labels_left ranks_left table_left cycle_left labels_of
      suspect-assessed s e ranked settled k =
          let q : r ≡ length (cycle_of I) = e ∙ ap length (cycle-is s) in
          record {
            verdict = rw s (ap Suspect q);
            labelled = labelled;
            ranked = rw s ranked;
            settled = rw s settled;
            cycled = rw s (k ∙ ap₂ (λ m d. m ++ drop d shown.before) (cycle-is s) q);
          }
