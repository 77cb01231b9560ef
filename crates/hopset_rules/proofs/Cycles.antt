-- Cycles of a relation, by who reaches itself.
use Prim.Native.Nat.{ℕ, ◌≤◌, ◌<◌}
use native.Mathlib.Omega.{arith}
use mathlib.Core.Path.{◌≡◌}
use mathlib.Core.Bool.{true}
use Rattle.graph_groups.specs.Closure.{Relation, closure, Chain, step, more, Irreflexive}
use Rattle.graph_groups.specs.Groups.{stable}
use Rattle.graph_groups.proofs.Reaching.{closure-is, closure-related, closure-trans}
use Rattle.graph_groups.proofs.Sharing.{stable-chains, stable-acyclic}

-- i is in a cycle of R
abbrev pub InCycle : Relation → ℕ → ℕ → Type 0
InCycle R n i = 1 ≤ closure R n i i

-- stable exactly if no router is in a cycle
pub acyclic-stable : (R : Relation) (n : ℕ) → Irreflexive R n → ((i : ℕ) → i < n → InCycle R n i → ⊥) → stable (closure R n) n ≡ true
acyclic-stable R n q h = (stable-chains R n q).1 (λ i l c. h i l ((closure-is R n i i l l).1 c))

pub stable-no-cycle : (R : Relation) (n : ℕ) → Irreflexive R n → stable (closure R n) n ≡ true → (i : ℕ) → i < n → InCycle R n i → ⊥
stable-no-cycle R n q s i l c = omega (arith, stable-acyclic R n q s i l)

-- whoever is in a cycle is related to another in it
pub record Next (R : Relation) (n i : ℕ) : Type 0 where
  pub at : ℕ
  pub below : at < n
  pub related : 1 ≤ R i at
  pub onward : InCycle R n at

pub cycle-next : (R : Relation) (n i : ℕ) → i < n → InCycle R n i → Next R n i
cycle-next R n i l h = go ((closure-is R n i i l l).0 h)
  where
    go : Chain R n i i → Next R n i
    go (step r) = record { at = i; below = l; related = r; onward = h }
    go (more {k = k} m r c) =
        record {
          at = k;
          below = m;
          related = r;
          onward = closure-trans R n k i k m l m ((closure-is R n k i m l).1 c) (closure-related R n i k l m r);
        }

-- where S holds whatever R holds between routers in cycles, each cycle of R is one of S
module _ (R S : Relation) (n : ℕ)
    (keep : (w v : ℕ) → w < n → v < n → InCycle R n w → InCycle R n v → 1 ≤ R w v → 1 ≤ S w v) where
  along : {i j : ℕ} → i < n → j < n → Chain R n i j → 1 ≤ closure R n j i → 1 ≤ closure S n i j
  along {i} {j} l m (step r) back =
      let there : 1 ≤ closure R n i j = closure-related R n i j l m r in
      closure-related S n i j l m (keep i j l m (closure-trans R n i j i l m l there back) (closure-trans R n j i j m l m back there) r)
  along {i} {j} l m (more {k = k} o r c) back =
      let first : 1 ≤ closure R n i k = closure-related R n i k l o r in
      let again : 1 ≤ closure R n k i = closure-trans R n k j i o m l ((closure-is R n k j o m).1 c) back in
      closure-trans S n i k j l o m
      (closure-related S n i k l o (keep i k l o (closure-trans R n i k i l o l first again) (closure-trans R n k i k o l o again first) r))
      (along o m c (closure-trans R n j i k m l o back first))

  pub cycles-kept : (i : ℕ) → i < n → InCycle R n i → InCycle S n i
  cycles-kept i l h = along l l ((closure-is R n i i l l).0 h) h
