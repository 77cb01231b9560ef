-- The routers in groups of two or more are those that reach themselves.
use Prim.Native.Nat.{ℕ, ◌≤◌, ◌<◌, min}
use native.Mathlib.Omega.{arith}
use mathlib.Core.Path.{◌≡◌, refl, ◌∙◌, sym, ap}
use mathlib.Core.Bool.{Bool, true, false, not}
use mathlib.Core.List.{List}
use mathlib.Core.Logic.{◌↔◌, ⊎_elim}
use lib.Dec.{eqb}
use lib.ListN.{get_or}
use Rattle.base.specs.Bits.{bit_n, bits, marked}
use Rattle.base.specs.Elimination.{Agree}
use Rattle.base.specs.Seek.{flag}
use Rattle.base.proofs.Marked.{marked-below, marked-past}
use Rattle.base.proofs.Numbers.{lt-or-le}
use Rattle.base.proofs.Seek.{highest-under}
use Rattle.base.proofs.SetBits.{bit-flag}
use Rattle.graph_groups.specs.Closure.{Relation, closure}
use Rattle.graph_groups.specs.Groups.{together, grouped}
use Rattle.graph_groups.proofs.Reaching.{closure-cong}
use Rattle.graph_groups.proofs.Sharing.{closure-grouped}
use Rattle.route_rules.specs.Instance.{Instance}
use Rattle.route_rules.specs.Reliance.{reliance}
use Rattle.route_rules.proofs.Reliance.{relies-other}
use Rattle.net_reliance.specs.RelianceRows.{RelianceRows}
use Rattle.net_groups.specs.GroupRows.{GroupRows}

-- the test is 0 or 1
grouped-most : (C : Relation) (n w : ℕ) → grouped C n w ≤ 1
unfolding grouped
grouped-most C n w =
    highest-under (λ j. min (flag (not (eqb w j))) (together C w j)) n 1 (λ j l. least (not (eqb w j)) (together C w j))
  where
    least : (b : Bool) (x : ℕ) → min (flag b) x ≤ 1
    least true x = omega arith
    least false x = omega arith

module _ (I : Instance) (before relied closed : List ℕ) (h : RelianceRows I before relied)
    (c : Agree (bits closed) (closure (bits relied) I.n) I.n) where
  reached : Agree (bits closed) (closure (reliance I) I.n) I.n
  reached i j l m =
      c i j l m ∙ ap (λ C. C i j) (closure-cong (bits relied) (reliance I) I.n (λ w v p q. (h.routers w p).within v q))

  looping-grouped : (w : ℕ) → w < I.n → bits closed w w ≡ grouped (closure (reliance I) I.n) I.n w
  looping-grouped w l =
      let C = closure (reliance I) I.n in
      let k : (1 ≤ C w w) ↔ (1 ≤ grouped C I.n w)
      = closure-grouped (reliance I) C I.n (λ v m. ap flag (relies-other I v)) (λ i j a b. refl) w l in
      let e : bits closed w w ≡ C w w = reached w w l l in
      ⊎_elim (λ (g : 0 < bits closed w w). omega (arith, k.0 (omega arith), grouped-most C I.n w))
      (λ (g : bits closed w w ≤ 0).
      ⊎_elim (λ (y : 0 < grouped C I.n w). absurd (omega (arith, k.1 y)))
      (λ (y : grouped C I.n w ≤ 0). omega arith)
      (lt-or-le 0 (grouped C I.n w)))
      (lt-or-le 0 (bits closed w w))

  pub group-rows-are : (word : ℕ) → word ≡ marked (λ w. eqb (bits closed w w) 1) I.n → GroupRows I relied closed word
  group-rows-are word e =
      record {
        related = h.routers;
        reached = reached;
        grouped = λ w l.
            bit-flag word w
            ∙ ap flag (ap (λ x. eqb (bit_n x w) 1) e ∙ marked-below (λ w. eqb (bits closed w w) 1) I.n w l)
            ∙ sym (bit-flag (get_or closed w 0) w)
            ∙ looping-grouped w l;
        past = λ w l.
            bit-flag word w ∙ ap flag (ap (λ x. eqb (bit_n x w) 1) e ∙ marked-past (λ w. eqb (bits closed w w) 1) I.n w l);
      }
