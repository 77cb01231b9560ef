-- Where some bits come back the machine loops. The bit that changes is of a router in a group, as outside the groups one that has changed does
-- not come back; so some group at its stage moves, and each time that the bits come back there is a longer series of moves.
use Prim.Native.Nat.{ℕ, zero, suc, ◌≤◌, ◌<◌}
use native.Mathlib.Omega.{arith}
use mathlib.Core.Path.{◌≡◌, refl, ◌∙◌, sym, ap}
use mathlib.Core.Bool.{Bool, true, false}
use mathlib.Core.List.{List, [], ◌∷◌}
use mathlib.Core.Logic.{◌⊎◌, inl, inr, ⊎_elim}
use lib.ListN.{length, take}
use lib.Seq.{take-length}
use Rattle.base.proofs.Numbers.{lt-or-le, eq-or-ne, true-or-false}
use Rattle.route_rules.specs.Rounds.{ActsBelow}
use Rattle.graph_groups.specs.Closure.{Irreflexive}
use Rattle.steady_rules.specs.Equations.{Equations, Along, grouped_of, stage}
use Rattle.grade_rules.specs.Machine.{loops, longest}
use Rattle.grade_rules.specs.Moving.{after_act, after_acts, machine, Antitone, BitsComeBack}
use Rattle.grade_rules.proofs.Machines.{machine-means}
use Rattle.grade_rules.proofs.Rests.{NoneFrom, none_after, some-move}
use Rattle.grade_rules.proofs.Stages.{Alike, RuledBelow, rule-sees-lower}
use Rattle.grade_rules.proofs.Steps.{act-own, act-other, acts-first, acts-none, machine-closed}
use Rattle.grade_rules.proofs.Steps.{Moves, act-cases, lower-stays, ruled-stays}

-- all acts but the first
later-below : (n w : ℕ) (acts : List ℕ) → ActsBelow n (w ∷ acts) → ActsBelow n acts
later-below n w acts b i l = b (suc i) (omega arith)

module _ (E : Equations) (along : Along E) (antitone : Antitone E) (apart : Irreflexive E.relation E.n) where
  -- the bit of w is as before after each of the acts
  abbrev Kept : ℕ → (ℕ → Bool) → List ℕ → Type 0
  Kept w bit acts = (j : ℕ) → after_acts E bit (take j acts) w ≡ bit w

  kept-none : (w : ℕ) (bit : ℕ → Bool) → Kept w bit []
  kept-none w bit zero = ap (λ (c : ℕ → Bool). c w) (acts-none E bit)
  kept-none w bit (suc j) = ap (λ (c : ℕ → Bool). c w) (acts-none E bit)

  kept_on : (w : ℕ) (bit : ℕ → Bool) (a : ℕ) (acts : List ℕ) → after_act E a bit w ≡ bit w → Kept w (after_act E a bit) acts → Kept w bit (a ∷ acts)
  kept_on w bit a acts e k zero = kept-none w bit zero
  kept_on w bit a acts e k (suc j) = ap (λ (c : ℕ → Bool). c w) (acts-first E bit a (take j acts)) ∙ k j ∙ e

  kept-last : (w : ℕ) (bit : ℕ → Bool) (acts : List ℕ) → Kept w bit acts → after_acts E bit acts w ≡ bit w
  kept-last w bit acts k = ap (λ (c : List ℕ). after_acts E bit c w) (sym (take-length acts)) ∙ k (length acts)

  -- a router outside the groups, where all below its stage is at rest
  module _ (w : ℕ) (l : w < E.n) (u : grouped_of E w ≡ 0) where
    rule-stays : (bit : ℕ → Bool) (a : ℕ) → a < E.n → RuledBelow E bit (stage E w) → E.rule (after_act E a bit) w ≡ E.rule bit w
    rule-stays bit a m r =
        rule-sees-lower E along apart (after_act E a bit) bit w l u (lower-stays E along apart bit (stage E w) a r m)

    -- its bit is kept where it is what the rule says,
    ruled-kept : (acts : List ℕ) (bit : ℕ → Bool) → ActsBelow E.n acts → RuledBelow E bit (stage E w) → bit w ≡ E.rule bit w → Kept w bit acts
    ruled-kept [] bit b r h = kept-none w bit
    ruled-kept (a ∷ acts) bit b r h =
        kept_on w bit a acts same
        (ruled-kept acts (after_act E a bit) (later-below E.n a acts b) (ruled-stays E along apart bit (stage E w) a r m)
        (same ∙ h ∙ sym (rule-stays bit a m r)))
      where
        m : a < E.n
        m = b 0 (omega arith)

        same : after_act E a bit w ≡ bit w
        same = ⊎_elim (λ (e : w ≡ a). act-own E a bit w e ∙ ap (E.rule bit) (sym e) ∙ sym h) (act-other E a bit w) (eq-or-ne w a)

    -- .. or does not act; else it then is
    abbrev Turned : (ℕ → Bool) → List ℕ → Type 0
    Turned bit acts = (after_acts E bit acts w ≡ E.rule bit w) ⊎ Kept w bit acts

    turned_on : (bit : ℕ → Bool) (a : ℕ) (acts : List ℕ) → ActsBelow E.n (a ∷ acts) → RuledBelow E bit (stage E w)
        → Turned (after_act E a bit) acts → Turned bit (a ∷ acts)
    turned_on bit a acts b r t = ⊎_elim own other (eq-or-ne w a)
      where
        m : a < E.n
        m = b 0 (omega arith)

        first : after_acts E bit (a ∷ acts) w ≡ after_acts E (after_act E a bit) acts w
        first = ap (λ (c : ℕ → Bool). c w) (acts-first E bit a acts)

        own : w ≡ a → Turned bit (a ∷ acts)
        own e =
            let h : after_act E a bit w ≡ E.rule bit w = act-own E a bit w e ∙ ap (E.rule bit) (sym e) in
            let k : Kept w (after_act E a bit) acts
            = ruled-kept acts (after_act E a bit) (later-below E.n a acts b) (ruled-stays E along apart bit (stage E w) a r m)
            (h ∙ sym (rule-stays bit a m r)) in
            inl (first ∙ kept-last w (after_act E a bit) acts k ∙ h)

        other : (w ≡ a → ⊥) → Turned bit (a ∷ acts)
        other d =
            ⊎_elim (λ (e : after_acts E (after_act E a bit) acts w ≡ E.rule (after_act E a bit) w). inl (first ∙ e ∙ rule-stays bit a m r))
            (λ (k : Kept w (after_act E a bit) acts). inr (kept_on w bit a acts (act-other E a bit w d) k))
            t

    turned : (acts : List ℕ) (bit : ℕ → Bool) → ActsBelow E.n acts → RuledBelow E bit (stage E w) → Turned bit acts
    turned [] bit b r = inr (kept-none w bit)
    turned (a ∷ acts) bit b r =
        turned_on bit a acts b r
        (turned acts (after_act E a bit) (later-below E.n a acts b) (ruled-stays E along apart bit (stage E w) a r (b 0 (omega arith))))

    -- a bit that comes back
    back-kept : (acts : List ℕ) (bit : ℕ → Bool) → ActsBelow E.n acts → RuledBelow E bit (stage E w) → after_acts E bit acts w ≡ bit w → Kept w bit acts
    back-kept acts bit b r e =
        ⊎_elim (λ (h : after_acts E bit acts w ≡ E.rule bit w). ruled-kept acts bit b r (sym e ∙ h)) (λ (k : Kept w bit acts). k)
        (turned acts bit b r)

  -- acts where all below stage p is at rest
  module _ (p : ℕ) where
    -- no series of more than k moves begins at the bits
    abbrev AtMost : ℕ → (ℕ → Bool) → Type 0
    AtMost k bit = NoneFrom E along antitone apart (suc k) bit p

    act-fewer : (k : ℕ) (bit : ℕ → Bool) (a : ℕ) → RuledBelow E bit p → Moves E bit p a → AtMost k bit → (j : ℕ) × (k ≡ suc j) × AtMost j (after_act E a bit)
    act-fewer zero bit a r m h = absurd (some-move E along antitone apart bit p a r m h)
    act-fewer (suc k) bit a r m h = (k, refl, none_after E along antitone apart bit p a (suc k) r m h)

    alike-most : (k : ℕ) (a b : ℕ → Bool) → Alike E p a b → AtMost k b → AtMost k a
    alike-most k a b e h x l s = h x l (λ w m g o. s w m g o ∙ e w m g o)

    record Fewer (k : ℕ) (bit : ℕ → Bool) : Type 0 where
      many : ℕ
      less : many < k
      most : AtMost many bit

    -- the bits of the groups up to stage p are as before after each of the acts
    abbrev Still : (ℕ → Bool) → List ℕ → Type 0
    Still bit acts = (w : ℕ) → w < E.n → 1 ≤ grouped_of E w → stage E w ≤ p → Kept w bit acts

    -- so it is, or some group has moved
    abbrev Walked : ℕ → (ℕ → Bool) → List ℕ → Type 0
    Walked k bit acts = Fewer k (after_acts E bit acts) ⊎ Still bit acts

    walk-on : (k : ℕ) (bit : ℕ → Bool) (a : ℕ) (acts : List ℕ) → a < E.n → RuledBelow E bit p → AtMost k bit
        → ((j : ℕ) → AtMost j (after_act E a bit) → Walked j (after_act E a bit) acts) → Walked k bit (a ∷ acts)
    walk-on k bit a acts m r h on = ⊎_elim moved alike (act-cases E along apart bit p a r m)
      where
        fewer : (j : ℕ) → j < k → AtMost j (after_acts E (after_act E a bit) acts) → Walked k bit (a ∷ acts)
        fewer j o most = inl (record { many = j; less = o; most = rw (acts-first E bit a acts) most })

        moved : Moves E bit p a → Walked k bit (a ∷ acts)
        moved y =
            let t = act-fewer k bit a r y h in
            ⊎_elim (λ (f : Fewer t.0 (after_acts E (after_act E a bit) acts)). fewer f.many (omega (arith, f.less, t.1)) f.most)
            (λ (s : Still (after_act E a bit) acts).
            fewer t.0 (omega (arith, t.1))
            (alike-most t.0 (after_acts E (after_act E a bit) acts) (after_act E a bit) (λ w l g o. kept-last w (after_act E a bit) acts (s w l g o)) t.2))
            (on t.0 t.2)

        alike : Alike E p (after_act E a bit) bit → Walked k bit (a ∷ acts)
        alike y =
            ⊎_elim (λ (f : Fewer k (after_acts E (after_act E a bit) acts)). fewer f.many f.less f.most)
            (λ (s : Still (after_act E a bit) acts). inr (λ w l g o. kept_on w bit a acts (y w l g o) (s w l g o)))
            (on k (alike-most k (after_act E a bit) bit y h))

    walk : (acts : List ℕ) (k : ℕ) (bit : ℕ → Bool) → ActsBelow E.n acts → RuledBelow E bit p → AtMost k bit → Walked k bit acts
    walk [] k bit b r h = inr (λ w l g o. kept-none w bit)
    walk (a ∷ acts) k bit b r h =
        walk-on k bit a acts (b 0 (omega arith)) r h
        (λ j most. walk acts j (after_act E a bit) (later-below E.n a acts b) (ruled-stays E along apart bit p a r (b 0 (omega arith))) most)

  -- bits that come back
  module _ (c : BitsComeBack E) where
    abbrev p : ℕ
    p = stage E c.router

    in_group : 1 ≤ grouped_of E c.router
    in_group =
        ⊎_elim (λ (g : 0 < grouped_of E c.router). g)
        (λ (g : grouped_of E c.router ≤ 0).
        absurd (c.changed (back-kept c.router c.is_router (omega arith) c.acts c.bit c.below c.lower
        (c.back c.router c.is_router) c.first)))
        (lt-or-le 0 (grouped_of E c.router))

    none-most : (d k : ℕ) → k < d → AtMost p k c.bit → ⊥
    none-most zero k h most = omega arith
    none-most (suc d) k h most =
        ⊎_elim
        (λ (f : Fewer p k (after_acts E c.bit c.acts)).
        none-most d f.many (omega (arith, f.less))
        (alike-most p f.many c.bit (after_acts E c.bit c.acts) (λ w l g o. sym (c.back w l)) f.most))
        (λ (s : Still p c.bit c.acts). c.changed (s c.router c.is_router in_group (omega arith) c.first))
        (walk p c.acts k c.bit c.below c.lower most)

  pub back-loops : BitsComeBack E → loops (machine E) ≡ true
  back-loops c =
      ⊎_elim (λ (e : loops (machine E) ≡ true). e)
      (λ (e : loops (machine E) ≡ false).
      absurd (none-most c (suc (longest (machine E))) (longest (machine E)) (omega arith) (λ x l a s.
      omega (arith, (machine-means (machine E) (machine-closed E)).at_most e (suc (longest (machine E))) x l s))))
      (true-or-false (loops (machine E)))
