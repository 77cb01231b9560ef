-- Two tables run side by side by the same acts: what each router holds after it has acted.
use Prim.Native.Nat.{ℕ, ◌<◌}
use native.Mathlib.Omega.{arith}
use mathlib.Core.Path.{◌≡◌, refl, ◌∙◌, sym, subst}
use mathlib.Core.Bool.{true, false}
use mathlib.Core.List.{List, [], ◌∷◌}
use mathlib.Core.Logic.{◌⊎◌, inl, inr, ⊎_elim}
use lib.ListN.{length}
use Rattle.base.proofs.Numbers.{eq-or-ne, not-both}
use Rattle.route_rules.specs.Instance.{Instance, Route}
use Rattle.route_rules.specs.Activation.{choose, held, table_ok, activate, run_acts}
use Rattle.route_rules.specs.Rounds.{ActsBelow, acted}
use Rattle.route_rules.proofs.Rounds.{acted-none, acted-before}
use Rattle.route_rules.proofs.Routes.{activate-own, activate-other, activate-ok}
use Rattle.route_theorems.specs.Claims.{IsTable}
use Rattle.grade_theorems.proofs.Sequences.{acted-first, below_rest}

-- what holds of two tables, and stays so
pub record Keeps (I : Instance) (Both : List Route → List Route → Type 0) : Type 0 where
  pub left : (t u : List Route) → Both t u → IsTable I t
  pub right : (t u : List Route) → Both t u → IsTable I u
  pub act : (t u : List Route) → Both t u → (a : ℕ) → a < I.n → Both (activate I a t) (activate I a u)

module _ (I : Instance) (Both : List Route → List Route → Type 0) (keeps : Keeps I Both) where
  pub kept_run : (acts : List ℕ) → ActsBelow I.n acts → (t u : List Route) → Both t u → Both (run_acts I t acts) (run_acts I u acts)
  unfolding run_acts
  kept_run [] b t u h = h
  kept_run (a ∷ acts) b t u h =
      kept_run acts (below_rest I.n a acts b) (activate I a t) (activate I a u) (keeps.act t u h a (b 0 (omega arith)))

  -- a claim on the two entries of a router that holds whenever it chooses
  module _ (Entries : ℕ → Route → Route → Type 0)
      (chosen : (t u : List Route) → Both t u → (w : ℕ) → w < I.n → Entries w (choose I w (held t)) (choose I w (held u))) where
    module _ (t u : List Route) (h : Both t u) (w : ℕ) (l : w < I.n) where
      own-act : Entries w (held (activate I w t) w) (held (activate I w u) w)
      own-act =
          let p : w < length t = omega (arith, keeps.left t u h) in
          let q : w < length u = omega (arith, keeps.right t u h) in
          rw (activate-own I w t p, activate-own I w u q) (chosen t u h w l)

      one-act : (a : ℕ) (acts : List ℕ) → (acted (a ∷ acts) w ≡ true) ⊎ Entries w (held t w) (held u w)
          → (acted acts w ≡ true) ⊎ Entries w (held (activate I a t) w) (held (activate I a u) w)
      one-act a acts e =
          ⊎_elim (λ (p : a ≡ w). inr (subst (λ z. Entries w (held (activate I z t) w) (held (activate I z u) w)) (sym p) own-act))
          (λ (d : a ≡ w → ⊥).
          ⊎_elim (λ (q : acted (a ∷ acts) w ≡ true). inl (sym (acted-before a acts w d) ∙ q))
          (λ q. inr (rw (activate-other I a t w (λ z. d (sym z)), activate-other I a u w (λ z. d (sym z))) q))
          e)
          (eq-or-ne a w)

    -- it holds of every router that has acted, and of one of which it held before
    pub entries-run : (acts : List ℕ) → ActsBelow I.n acts → (t u : List Route) → Both t u → (w : ℕ) → w < I.n
        → (acted acts w ≡ true) ⊎ Entries w (held t w) (held u w) → Entries w (held (run_acts I t acts) w) (held (run_acts I u acts) w)
    unfolding run_acts
    entries-run [] b t u h w l e = ⊎_elim (λ (p : acted [] w ≡ true). not-both (acted [] w) p (acted-none w)) (λ q. q) e
    entries-run (a ∷ acts) b t u h w l e =
        entries-run acts (below_rest I.n a acts b) (activate I a t) (activate I a u) (keeps.act t u h a (b 0 (omega arith))) w l
        (one-act t u h w l a acts e)

module _ (I : Instance) where
  -- who does not act holds what it held
  pub idle : (acts : List ℕ) (t : List Route) (w : ℕ) → acted acts w ≡ false → held (run_acts I t acts) w ≡ held t w
  unfolding run_acts acted
  idle [] t w h = refl
  idle (a ∷ acts) t w h =
      ⊎_elim (λ (e : a ≡ w). not-both (acted (a ∷ acts) w) (own e) h)
      (λ (d : a ≡ w → ⊥). idle acts (activate I a t) w (sym (acted-before a acts w d) ∙ h) ∙ activate-other I a t w (λ z. d (sym z)))
      (eq-or-ne a w)
    where
      own : a ≡ w → acted (a ∷ acts) w ≡ true
      own e = rw e (acted-first w acts)

  pub run_ok : (t : List Route) (acts : List ℕ) → table_ok I t ≡ true → table_ok I (run_acts I t acts) ≡ true
  unfolding run_acts
  run_ok t [] h = h
  run_ok t (w ∷ acts) h = run_ok (activate I w t) acts (activate-ok I w t h)
