-- The answers of a comparison, case by case.
use Prim.Native.Nat.{ℕ, ◌-◌, ◌<◌}
use native.Mathlib.Omega.{arith}
use mathlib.Core.Path.{◌≡◌, refl, ◌∙◌, sym, ap}
use mathlib.Core.Bool.{Bool, true, false, not, cond, ◌&&◌, ◌||◌}
use mathlib.Core.Option as maybe
use mathlib.Core.Option.{none, some, get_or}
use mathlib.Core.List.{List}
use mathlib.Core.Logic.{◌⊎◌, ⊎_elim}
use borrow.Author.Tests.{lt-ltb, ne_eqb}
use lib.Dec.{eqb}
use lib.IntN.{ℤ, pos, nat_abs, ◌-ℤ◌}
use Rattle.std.specs.Prelude.{Option, Some, None}
use Rattle.base.proofs.Numbers.{eq-or-ne}
use Rattle.plan_contents.specs.Header.{mark, width, router_count}
use Rattle.plan_contents.specs.Contents.{routers_body, distances_body}
use Rattle.plan_rules.specs.Routers.{role}
use Rattle.plan_rules.specs.Distances.{highest, Bounded}
use Rattle.plan_rules.proofs.Widths.{highest-some}
use Rattle.route_rules.specs.Instance.{Instance}
use Rattle.route_rules.specs.Preference.{has_step, better, margin_of}
use Rattle.route_rules.proofs.Margins.{margin-both, margin-absent, known, margins}
use Rattle.net_rules.specs.FromPlan.{instance_of}
use Rattle.net_prefer.specs.Measured.{Measured}
use Rattle.call_compare.specs.declared.compare.Preferred.{Preferred}
use Rattle.call_compare.specs.declared.compare.Preferred.TheVariants.{First, Second, Neither}
use Rattle.call_compare.specs.declared.compare.CompareAnswer.TheVariants.{Refused, Compared}
use Rattle.call_rules.specs.Refusals.{compare_refusal}
use Rattle.call_compare.specs.Compare.{compared, which_better, has_margin, margin_number, preferred_of, margin_case, preferred_number, margin_present, margin_value, Compares}
use Rattle.plan_rules.proofs.Refused.{when-refused, when-given}

-- a router of the plan's network has the step exactly if its role is 4 or 5
pub step_of : (plan : List ℕ) (w : ℕ) → w < router_count plan → {s : List ℕ} → s ≡ routers_body plan
    → has_step (instance_of plan 0) w ≡ (eqb (role s w) 4 || eqb (role s w) 5)
unfolding has_step
step_of plan w l q = rw (q, lt-ltb w (router_count plan) l) (go (role (routers_body plan) w))
  where
    go : (number : ℕ) → (not (eqb number 2) && (eqb number 4 || eqb number 5)) ≡ (eqb number 4 || eqb number 5)
    go number = ⊎_elim (λ (h : number ≡ 2). rw h) (λ (h : number ≡ 2 → ⊥). cc (ne_eqb number 2 h)) (eq-or-ne number 2)

-- the plan's network has the distances of its body of kind 3
pub measured-of : (plan : List ℕ) {bytes n : ℕ} {s : List ℕ} → bytes ≡ width plan → s ≡ distances_body plan → n ≡ router_count plan
    → Measured (instance_of plan 0) bytes s n
measured-of plan b d r = rw (b, d, r) (record { dist = refl; way = refl })

-- the case found by two comparisons, one after the other
module _ (I : Instance) (w e : ℕ) (d : Bool) (f : ℕ) (d' : Bool) {first : Bool} (there : first ≡ better I w e d f d') where
  pub prefers-first : first ≡ true → First ≡ preferred_of I w e d f d'
  unfolding preferred_of
  prefers-first h = cc

  module _ {second : Bool} (back : second ≡ better I w f d' e d) (not_first : first ≡ false) where
    pub prefers-second : second ≡ true → Second ≡ preferred_of I w e d f d'
    unfolding preferred_of
    prefers-second h = cc

    pub prefers-neither : second ≡ false → Neither ≡ preferred_of I w e d f d'
    unfolding preferred_of
    prefers-neither h = cc

module _ (I : Instance) (w e f : ℕ) where
  pub margin-none : (I.way w e ≡ false) ⊎ (I.way w f ≡ false) → margin_case (margin_of I w e f) ≡ None
  margin-none h = ap margin_case (margin-absent I w e f h)

  pub margin-some : I.way w e ≡ true → I.way w f ≡ true → margin_case (margin_of I w e f) ≡ Some (pos (I.dist w e) -ℤ pos (I.dist w f))
  margin-some p q = ap margin_case (margin-both I w e f p q)

module _ (plan : List ℕ) (w e : ℕ) (d : Bool) (f : ℕ) (d' : Bool) where
  pub compares-refused : (number : ℕ) → number ≡ compare_refusal plan w e f → (number ≡ 0 → ⊥) → Compares plan w e d f d' (Refused number)
  compares-refused number same h =
      rw same
      (let k : compare_refusal plan w e f ≡ 0 → ⊥ = λ z. h (same ∙ z) in
      record {
        answer = sym (when-refused _ _ _ k);
        number = refl;
        value = sym (when-refused _ _ _ k);
        present = sym (when-refused _ _ _ k);
        margin = sym (when-refused _ _ _ k);
        range = highest-some (mark plan);
      })

  -- the values of the cases found
  better-is : preferred_number (preferred_of (instance_of plan 0) w e d f d') ≡ which_better plan w e d f d'
  unfolding preferred_of which_better
  better-is = go (better (instance_of plan 0) w e d f d') (better (instance_of plan 0) w f d' e d)
    where
      go : (a b : Bool) → preferred_number (cond a First (cond b Second Neither)) ≡ cond a 1 (cond b 2 0)
      go true b = refl
      go false true = refl
      go false false = refl

  present-is : margin_present (margin_case (margin_of (instance_of plan 0) w e f)) ≡ has_margin plan w e f
  unfolding margin_of has_margin
  present-is = go ((instance_of plan 0).way w e && (instance_of plan 0).way w f) _
    where
      go : (a : Bool) (m : ℤ) → margin_present (margin_case (cond a (some m) none)) ≡ a
      go true m = refl
      go false m = refl

  margin-is : margin_value (margin_case (margin_of (instance_of plan 0) w e f)) ≡ margin_number plan w e f
  unfolding margin_number
  margin-is = go (margin_of (instance_of plan 0) w e f)
    where
      go : (m : maybe.Option ℤ) → margin_value (margin_case m) ≡ get_or m (pos 0)
      go none = refl
      go (some m) = refl

  -- what is learnt of the two distances read
  abbrev DistanceTo : ℕ → Type 0
  DistanceTo u = Bounded (width plan) ((instance_of plan 0).dist w u)

  margin-within : DistanceTo e → DistanceTo f → nat_abs (margin_value (margin_case (margin_of (instance_of plan 0) w e f))) < highest (width plan)
  margin-within p q = go (margin_of (instance_of plan 0) w e f) refl
    where
      go : (m : maybe.Option ℤ) → margin_of (instance_of plan 0) w e f ≡ m → nat_abs (margin_value (margin_case m)) < highest (width plan)
      go none h = highest-some (mark plan)
      go (some m) h =
          let k = known (instance_of plan 0) w e f m h in
          let most = (margins (instance_of plan 0) w e f d d').range (highest (width plan) - 1) in
          let first = p.way k.to_first in
          let second = q.way k.to_second in
          omega (arith, highest-some (mark plan), most (omega arith) (omega arith) m h)

  pub compares-given : (preferred : Preferred) (margin : Option ℤ) → compare_refusal plan w e f ≡ 0
      → preferred ≡ preferred_of (instance_of plan 0) w e d f d' → margin ≡ margin_case (margin_of (instance_of plan 0) w e f)
      → DistanceTo e → DistanceTo f
      → Compares plan w e d f d' (Compared preferred margin)
  unfolding compared
  compares-given preferred margin given p m p₁ p₂ =
      rw (p, m)
      (record {
        answer = sym (when-given _ _ _ given);
        number = sym given;
        value = better-is ∙ sym (when-given _ _ _ given);
        present = present-is ∙ sym (when-given _ _ _ given);
        margin = margin-is ∙ sym (when-given _ _ _ given);
        range = margin-within p₁ p₂;
      })
