-- Where the machine loops, some bits come back: the acts are those of a loop's movers, from the completed bits of its first state. All are at
-- one stage, below which all is at rest, and no bit outside the groups or at another stage changes.
use Prim.Native.Nat.{ℕ, suc, ◌≤◌, ◌<◌}
use native.Mathlib.Omega.{arith}
use mathlib.Core.Path.{◌≡◌, refl, ◌∙◌, sym, ap}
use mathlib.Core.Bool.{Bool, true, false}
use mathlib.Core.List.{List, [], ◌∷◌}
use mathlib.Core.Logic.{◌⊎◌, inl, inr, ⊎_elim}
use Rattle.base.specs.Seek.{count}
use Rattle.base.proofs.Numbers.{lt-or-le, eq-or-ne, not-both}
use Rattle.route_rules.specs.Rounds.{ActsBelow}
use Rattle.graph_groups.specs.Closure.{Irreflexive}
use Rattle.steady_rules.specs.Equations.{Equations, Along, grouped_of, completed, stage}
use Rattle.steady_rules.proofs.Solutions.{beq_same}
use Rattle.steady_rules.proofs.Stages.{stage-upto}
use Rattle.grade_rules.specs.Machine.{loops, Series, stay, move, Loop}
use Rattle.grade_rules.specs.Moving.{ruled, after_act, after_acts, toggled, machine, Antitone, BitsComeBack}
use Rattle.grade_rules.proofs.Leading.{acts-below, mover-next, mover-of}
use Rattle.grade_rules.proofs.Machines.{machine-means}
use Rattle.grade_rules.proofs.NeverResting.{completed-possible}
use Rattle.grade_rules.proofs.Stages.{Alike, RuledBelow}
use Rattle.grade_rules.proofs.Steps.{act-own, act-other, acts-first, acts-none, machine-closed, Mover, foremost-fails, foremost-below}
use Rattle.grade_rules.proofs.Steps.{move-alike, ruled-stays, state-ruled, state-test}

module _ (E : Equations) (along : Along E) (apart : Irreflexive E.relation E.n) where
  -- what is at rest below a stage stays so in the machine
  move-ruled : (x i q : ℕ) → Mover E x i → RuledBelow E (completed E x) q → RuledBelow E (completed E ((machine E).next i x)) q
  move-ruled x i q m r =
      state-ruled E along apart (after_act E m.router (completed E x)) q (ruled-stays E along apart (completed E x) q m.router r m.below)
      ((machine E).next i x)
      (λ v l g s. rw (mover-next E x i m) (all v l g (stage-upto E v)))
    where
      all : Alike E E.n (completed E (toggled x (count (grouped_of E) m.router))) (after_act E m.router (completed E x))
      all =
          move-alike E m.router m.below m.grouped (completed E x) E.n (stage-upto E m.router)
          (foremost-fails E (completed E x) m.router m.first)
          x
          (λ v l g s. refl)

  series-ruled : {k x y : ℕ} (q : ℕ) → Series (machine E) k x y → RuledBelow E (completed E x) q → RuledBelow E (completed E y) q
  series-ruled q stay r = r
  series-ruled {x = x} q (move i l h p) r = series-ruled q p (move-ruled x i q (mover-of E x i l h) r)

  -- a state with a router at stage p whose equation fails, to which the moves lead
  module _ (s p w : ℕ) (b : w < E.n) (here : stage E w ≡ p) (fails : ruled E (completed E s) w ≡ false) where
    -- along them the movers are at stage p
    mover-here : {k x : ℕ} (i : ℕ) → Series (machine E) k x s → RuledBelow E (completed E x) p → (m : Mover E x i) → stage E m.router ≡ p
    mover-here {x = x} i q r m =
        ⊎_elim
        (λ (h : stage E m.router < p).
        not-both _ (beq_same _ _ (r m.router m.below h)) (foremost-fails E (completed E x) m.router m.first))
        (λ (h : p ≤ stage E m.router).
        ⊎_elim
        (λ (o : p < stage E m.router).
        not-both _
        (beq_same _ _
        (series-ruled (stage E m.router) q (foremost-below E (completed E x) m.router m.first) w b (omega (arith, here))))
        fails)
        (λ (o : stage E m.router ≤ p). omega arith)
        (lt-or-le p (stage E m.router)))
        (lt-or-le (stage E m.router) p)

    -- acts of routers in groups at stage p that bring the bits of the groups to those of s
    record Followed (bit : ℕ → Bool) : Type 0 where
      acts : List ℕ
      below : ActsBelow E.n acts
      alike : Alike E p (completed E s) (after_acts E bit acts)
      kept : (v : ℕ) → ((1 ≤ grouped_of E v) → stage E v ≡ p → ⊥) → after_acts E bit acts v ≡ bit v

    followed-act : (bit : ℕ → Bool) (w : ℕ) → w < E.n → 1 ≤ grouped_of E w → stage E w ≡ p → Followed (after_act E w bit) → Followed bit
    followed-act bit w l g q f =
        record {
          acts = w ∷ f.acts;
          below = acts-below E.n w f.acts l f.below;
          alike = rw (acts-first E bit w f.acts) f.alike;
          kept = λ v h.
              ap (λ (b : ℕ → Bool). b v) (acts-first E bit w f.acts)
              ∙ f.kept v h
              ∙ act-other E w bit v (λ e. h (rw e g) (ap (stage E) e ∙ q));
        }

    followed : {k x : ℕ} (bit : ℕ → Bool) → Series (machine E) k x s → RuledBelow E (completed E x) p → RuledBelow E bit p
        → Alike E p (completed E x) bit → Followed bit
    followed bit stay r t a =
        record {
          acts = [];
          below = λ i l. absurd (omega arith);
          alike = rw (acts-none E bit) a;
          kept = λ v h. ap (λ (b : ℕ → Bool). b v) (acts-none E bit);
        }
    followed {x = x} bit (move i l h q) r t a =
        let m : Mover E x i = mover-of E x i l h in
        let o : stage E m.router ≡ p = mover-here i (move i l h q) r m in
        followed-act bit m.router m.below m.grouped o
        (followed (after_act E m.router bit) q (move-ruled x i p m r) (ruled-stays E along apart bit p m.router t m.below)
        (rw (mover-next E x i m)
        (move-alike E m.router m.below m.grouped bit p (omega (arith, o))
        (sym (state-test E along apart bit p t x a m.router m.below m.grouped (omega (arith, o)))
        ∙ foremost-fails E (completed E x) m.router m.first)
        x
        a)))

  -- the first mover's act changes its bit, and the acts of the others bring all back
  module _ (s i : ℕ) (m : Mover E s i) where
    abbrev w : ℕ
    w = m.router

    abbrev bit : ℕ → Bool
    bit = completed E s

    fails : ruled E bit w ≡ false
    fails = foremost-fails E bit w m.first

    rest : RuledBelow E bit (stage E w)
    rest = foremost-below E bit w m.first

    changes : after_acts E bit (w ∷ []) w ≡ bit w → ⊥
    changes e =
        let same : bit w ≡ E.rule bit w
        = sym e ∙ ap (λ (b : ℕ → Bool). b w) (acts-first E bit w [] ∙ acts-none E (after_act E w bit)) ∙ act-own E w bit w refl in
        not-both _ (beq_same (bit w) (E.rule bit w) same) fails

    comes-back : {k : ℕ} → Antitone E → Series (machine E) k ((machine E).next i s) s → BitsComeBack E
    comes-back antitone q =
        record {
          bit = bit;
          possible = completed-possible E along apart antitone s;
          acts = w ∷ f.acts;
          below = acts-below E.n w f.acts m.below f.below;
          back = λ v l. ap (λ (b : ℕ → Bool). b v) (acts-first E bit w f.acts) ∙ back v l (lt-or-le 0 (grouped_of E v)) (eq-or-ne (stage E v) (stage E w));
          first = 1;
          router = w;
          is_router = m.below;
          changed = changes;
          lower = λ v l h. rest v l (omega arith);
        }
      where
        f : Followed s (stage E w) w m.below refl fails (after_act E w bit)
        f =
            followed s (stage E w) w m.below refl fails (after_act E w bit) q (move-ruled s i (stage E w) m rest)
            (ruled-stays E along apart bit (stage E w) w rest m.below)
            (rw (mover-next E s i m)
            (move-alike E w m.below m.grouped bit (stage E w) (omega arith) fails s (λ v l g o. refl)))

        other : (v : ℕ) → (1 ≤ grouped_of E v → stage E v ≡ stage E w → ⊥) → after_acts E (after_act E w bit) f.acts v ≡ bit v
        other v h = f.kept v h ∙ act-other E w bit v (λ e. h (rw e m.grouped) (ap (stage E) e))

        back : (v : ℕ) → v < E.n → (0 < grouped_of E v) ⊎ (grouped_of E v ≤ 0) → (stage E v ≡ stage E w) ⊎ (stage E v ≡ stage E w → ⊥)
            → after_acts E (after_act E w bit) f.acts v ≡ bit v
        back v l (inl g) (inl e) = sym (f.alike v l g (omega (arith, e)))
        back v l (inl g) (inr d) = other v (λ h e. d e)
        back v l (inr g) e = other v (λ h o. omega arith)

  pub bits-loop : Antitone E → loops (machine E) ≡ true → BitsComeBack E
  bits-loop antitone h = go l.series
    where
      l : Loop (machine E)
      l = (machine-means (machine E) (machine-closed E)).is_loop.0 h

      go : {k s : ℕ} → Series (machine E) (suc k) s s → BitsComeBack E
      go {s = s} (move i o y q) = comes-back s i (mover-of E s i o y) antitone q
