-- Where the machine is stuck, from some bits no acts lead to rest: those of a state without moves to rest, with as many stages at rest as
-- any such state has. An act at its first stage that is not at rest is a move, so that this stage never rests.
use Prim.Native.Nat.{ℕ, zero, suc, ◌+◌, ◌≤◌, ◌<◌}
use native.Mathlib.Omega.{arith}
use mathlib.Core.Path.{◌≡◌, refl, ◌∙◌, sym, ap}
use mathlib.Core.Bool.{Bool, true, false, not, ◌&&◌}
use mathlib.Core.List.{List, [], ◌∷◌}
use mathlib.Core.Logic.{◌⊎◌, inl, inr, ⊎_elim}
use Rattle.base.specs.Below.{any_below}
use Rattle.base.specs.Seek.{count}
use Rattle.base.proofs.Below.{Witness, any_at, any_found}
use Rattle.base.proofs.Numbers.{lt-or-le, true-or-false, both, both_left, both_right, not-both, no}
use Rattle.route_rules.specs.Rounds.{ActsBelow}
use Rattle.graph_groups.specs.Closure.{Irreflexive}
use Rattle.steady_rules.specs.Equations.{Equations, Along, Solves, grouped_of, at, completed}
use Rattle.steady_rules.proofs.Solutions.{beq_same, same-beq}
use Rattle.steady_rules.proofs.Stages.{stage-upto}
use Rattle.grade_rules.specs.Machine.{rest_within, stuck, stay, RestsFrom, StuckState}
use Rattle.grade_rules.specs.Moving.{foremost, after_act, after_acts, machine, Antitone, Possible, NeverRests}
use Rattle.grade_rules.proofs.Leading.{solves-rest}
use Rattle.grade_rules.proofs.Machines.{machine-means, moved-rests, rest-sound, rest_all}
use Rattle.grade_rules.proofs.Stages.{Alike, RuledBelow, completed-rule}
use Rattle.grade_rules.proofs.Steps.{acts-first, acts-none, movers-are, mover-below, moves-by, by-moves, machine-closed}
use Rattle.grade_rules.proofs.Steps.{rests_below, rests-below, below-rests, Moves, act-cases}
use Rattle.grade_rules.proofs.Steps.{move-alike, ruled-stays, state-foremost, state-test}

module _ (E : Equations) (along : Along E) (apart : Irreflexive E.relation E.n) where
  -- a state without moves to rest, at rest below stage p
  record Caught (p : ℕ) : Type 0 where
    state : ℕ
    below : state < (machine E).states
    never : RestsFrom (machine E) state → ⊥
    rest : RuledBelow E (completed E state) p

  -- no state without moves to rest is at rest up to stage p
  abbrev NoneLater : ℕ → Type 0
  NoneLater p = (x : ℕ) → x < (machine E).states → (RestsFrom (machine E) x → ⊥) → RuledBelow E (completed E x) (suc p) → ⊥

  caught-later : (p : ℕ) → Caught (suc p) ⊎ NoneLater p
  caught-later p = go (any_below test (machine E).states) refl
    where
      test : ℕ → Bool
      test x = not (at (rest_within (machine E) (machine E).states) x) && rests_below E (completed E x) (suc p)

      go : (b : Bool) → any_below test (machine E).states ≡ b → Caught (suc p) ⊎ NoneLater p
      go true e =
          let w : Witness test (machine E).states = any_at test (machine E).states e in
          inl (record {
            state = w.at;
            below = w.below;
            never = λ r. not-both _ (rest_all (machine E) (machine-closed E) w.at w.below r) (no _ refl (both_left _ _ w.holds));
            rest =
                rests-below E (completed E w.at) (suc p)
                (both_right (not (at (rest_within (machine E) (machine E).states) w.at)) _ w.holds);
          })
      go false e =
          inr (λ x l n r.
          not-both _ (any_found test (machine E).states x l (both _ _ (stays x l n) (below-rests E (completed E x) (suc p) r))) e)
        where
          stays : (x : ℕ) → x < (machine E).states → (RestsFrom (machine E) x → ⊥) → not (at (rest_within (machine E) (machine E).states) x) ≡ true
          stays x l n =
              ⊎_elim
              (λ (h : at (rest_within (machine E) (machine E).states) x ≡ true).
              absurd (n (rest-sound (machine E) (machine-closed E) (machine E).states x l h)))
              (λ (h : at (rest_within (machine E) (machine E).states) x ≡ false). ap not h)
              (true-or-false (at (rest_within (machine E) (machine E).states) x))

  -- the last stage up to which some such state is at rest
  record LastCaught : Type 0 where
    upto : ℕ
    caught : Caught upto
    last : NoneLater upto

  last-caught : (k p : ℕ) → E.n < p + k → Caught p → LastCaught
  last-caught zero p h c =
      absurd (c.never (record {
        long = 0;
        last = c.state;
        series = stay;
        rests = solves-rest E along apart c.state (λ w l. c.rest w l (omega (arith, stage-upto E w)));
      }))
  last-caught (suc k) p h c =
      ⊎_elim (λ (d : Caught (suc p)). last-caught k (suc p) (omega arith) d)
      (λ (n : NoneLater p). record { upto = p; caught = c; last = n })
      (caught-later p)

  -- a state at rest below stage p whose bits in the groups are those of a solution is at rest up to it
  solved-later : (x p : ℕ) (bit : ℕ → Bool) → RuledBelow E bit p → Alike E p (completed E x) bit → Solves E bit
      → RuledBelow E (completed E x) (suc p)
  solved-later x p bit r a s w l h =
      ⊎_elim
      (λ (g : 0 < grouped_of E w).
      same-beq _ _ (state-test E along apart bit p r x a w l g (omega arith) ∙ beq_same _ _ (s w l)))
      (λ (g : grouped_of E w ≤ 0). completed-rule E along apart x w l (omega arith))
      (lt-or-le 0 (grouped_of E w))

  -- a state without moves to rest, at rest below stage p as the bits are
  record Follows (p : ℕ) (bit : ℕ → Bool) : Type 0 where
    state : ℕ
    below : state < (machine E).states
    never : RestsFrom (machine E) state → ⊥
    alike : Alike E p (completed E state) bit

  follows-act : (p : ℕ) (bit : ℕ → Bool) (w : ℕ) → w < E.n → RuledBelow E bit p → Follows p bit → Follows p (after_act E w bit)
  follows-act p bit w l r f = ⊎_elim moved stayed (act-cases E along apart bit p w r l)
    where
      stayed : Alike E p (after_act E w bit) bit → Follows p (after_act E w bit)
      stayed e =
          record { state = f.state; below = f.below; never = f.never; alike = λ v m g q. f.alike v m g q ∙ sym (e v m g q) }

      moved : Moves E bit p w → Follows p (after_act E w bit)
      moved m =
          let x : ℕ = f.state in
          let i : ℕ = count (grouped_of E) w in
          let o : i < (machine E).movers = rw (movers-are E) (mover-below E w l m.grouped) in
          let first : foremost E (completed E x) w ≡ true
          = state-foremost E along apart bit p r x f.alike w l m.grouped m.here m.fails in
          record {
            state = (machine E).next i x;
            below = machine-closed E i x o f.below;
            never = λ h. f.never (moved-rests (machine E) x i o (by-moves E x w l m.grouped first) h);
            alike =
                rw (moves-by E x w l m.grouped first)
                (move-alike E w l m.grouped bit p (omega (arith, m.here)) m.fails x f.alike);
          }

  never-solved : (p : ℕ) → NoneLater p → (acts : List ℕ) (bit : ℕ → Bool) → RuledBelow E bit p → Follows p bit → ActsBelow E.n acts
      → Solves E (after_acts E bit acts) → ⊥
  never-solved p none [] bit r f b s =
      none f.state f.below f.never (solved-later f.state p bit r f.alike (rw (acts-none E bit) at s))
  never-solved p none (w ∷ acts) bit r f b s =
      let l : w < E.n = b 0 (omega arith) in
      never-solved p none acts (after_act E w bit) (ruled-stays E along apart bit p w r l) (follows-act p bit w l r f)
      (λ i h. b (suc i) (omega arith))
      (rw (acts-first E bit w acts) at s)

  pub completed-possible : Antitone E → (x : ℕ) → Possible E (completed E x)
  completed-possible antitone x w l u n = completed-rule E along apart x w l (omega (arith, u)) ∙ antitone (completed E x) w l n

  pub bits-stuck : Antitone E → stuck (machine E) ≡ true → NeverRests E
  bits-stuck antitone h = go ((machine-means (machine E) (machine-closed E)).is_stuck.0 h)
    where
      at_last : LastCaught → NeverRests E
      at_last t =
          let c : Caught t.upto = t.caught in
          record {
            bit = completed E c.state;
            possible = completed-possible antitone c.state;
            never = λ r.
                never-solved t.upto t.last r.acts (completed E c.state) c.rest
                (record { state = c.state; below = c.below; never = c.never; alike = λ w l g s. refl })
                r.below
                r.solved;
          }

      go : StuckState (machine E) → NeverRests E
      go w =
          at_last (last-caught (suc E.n) 0 (omega arith) (record {
            state = w.state;
            below = w.below;
            never = w.never;
            rest = λ v l s. absurd (omega arith);
          }))
