-- Sequences of acts: cut where so many rounds have ended, put one after the other, repeated.
use Prim.Native.Nat.{ℕ, zero, suc, ◌+◌, ◌-◌, ◌≤◌, ◌<◌}
use native.Mathlib.Omega.{arith}
use mathlib.Core.Path.{◌≡◌, refl, ◌∙◌, sym, ap}
use mathlib.Core.Bool.{Bool, true, false}
use mathlib.Core.List.{List, [], ◌∷◌, ◌++◌}
use mathlib.Core.Logic.{◌⊎◌, inl, inr, ⊎_elim}
use lib.ListN.{length, take, length-take}
use lib.Seq.{get_or-take}
use borrow.Author.Tests.{eq-eqb}
use Rattle.base.specs.Below.{all_below}
use Rattle.base.proofs.Below.{all-at, all-intro}
use Rattle.base.proofs.Numbers.{eq-or-ne, true-or-false, not-both}
use Rattle.route_rules.specs.Rounds.{ActsBelow, acted, rounds_from, rounds}
use Rattle.route_rules.proofs.Rounds.{acted-none, acted-before, rounds-end, rounds-on, rounds-done}

-- every router acts
abbrev pub Whole : ℕ → List ℕ → Type 0
Whole n acts = (v : ℕ) → v < n → acted acts v ≡ true

pub acted-first : (a : ℕ) (acts : List ℕ) → acted (a ∷ acts) a ≡ true
unfolding acted
acted-first a acts = rw (eq-eqb a a refl)

acted-cases : (a : ℕ) (acts : List ℕ) (v : ℕ) → acted (a ∷ acts) v ≡ true → (a ≡ v) ⊎ (acted acts v ≡ true)
acted-cases a acts v h = ⊎_elim inl (λ d. inr (sym (acted-before a acts v d) ∙ h)) (eq-or-ne a v)

acted-later : (a : ℕ) (acts : List ℕ) (v : ℕ) → acted acts v ≡ true → acted (a ∷ acts) v ≡ true
acted-later a acts v h =
    ⊎_elim (λ (e : a ≡ v). ap (acted (a ∷ acts)) (sym e) ∙ acted-first a acts) (λ d. acted-before a acts v d ∙ h) (eq-or-ne a v)

-- in a round every router acts
round-acts : (n : ℕ) (since acts : List ℕ) → 1 ≤ rounds_from n since acts → (v : ℕ) → v < n
    → (acted since v ≡ true) ⊎ (acted acts v ≡ true)
round-acts n since [] h v l = absurd (omega (arith, rounds-done n since))
round-acts n since (a ∷ acts) h v l = go (all_below (acted (a ∷ since)) n) refl (round-acts n (a ∷ since) acts)
  where
    first : acted (a ∷ since) v ≡ true → (acted since v ≡ true) ⊎ (acted (a ∷ acts) v ≡ true)
    first p =
        ⊎_elim (λ (e : a ≡ v). inr (ap (acted (a ∷ acts)) (sym e) ∙ acted-first a acts)) (λ q. inl q) (acted-cases a since v p)

    go : (b : Bool) → all_below (acted (a ∷ since)) n ≡ b
        → (1 ≤ rounds_from n (a ∷ since) acts → (u : ℕ) → u < n → (acted (a ∷ since) u ≡ true) ⊎ (acted acts u ≡ true))
        → (acted since v ≡ true) ⊎ (acted (a ∷ acts) v ≡ true)
    go true p rest = first (all-at (acted (a ∷ since)) n p v l)
    go false p rest =
        ⊎_elim first (λ q. inr (acted-later a acts v q)) (rest (omega (arith, rounds-on n a since acts p)) v l)

pub round_whole : (n : ℕ) (acts : List ℕ) → 1 ≤ rounds n acts → Whole n acts
unfolding rounds
round_whole n acts h v l =
    ⊎_elim (λ (p : acted [] v ≡ true). not-both (acted [] v) p (acted-none v)) (λ q. q) (round-acts n [] acts h v l)

-- a sequence cut in two: the first part makes a rounds, and the second b
pub record Cut (n a b : ℕ) (since acts : List ℕ) : Type 0 where
  pub front : List ℕ
  pub back : List ℕ
  pub whole : front ++ back ≡ acts
  pub first : a ≤ rounds_from n since front
  pub second : b ≤ rounds n back

module _ (n b x : ℕ) (acts : List ℕ) (rest : (since : List ℕ) (a : ℕ) → suc a + b ≤ rounds_from n since acts → Cut n (suc a) b since acts) where
  cut-end : (since : List ℕ) (a : ℕ) → suc a + b ≤ rounds_from n since (x ∷ acts) → all_below (acted (x ∷ since)) n ≡ true
      → Cut n (suc a) b since (x ∷ acts)
  unfolding rounds
  cut-end since zero h p =
      record {
        front = x ∷ [];
        back = acts;
        whole = refl;
        first = omega (arith, rounds-end n x since [] p);
        second = omega (arith, rounds-end n x since acts p);
      }
  cut-end since (suc a) h p =
      let c = rest [] a (omega (arith, rounds-end n x since acts p)) in
      record {
        front = x ∷ c.front;
        back = c.back;
        whole = ap (◌∷◌ x) c.whole;
        first = omega (arith, rounds-end n x since c.front p, c.first);
        second = c.second;
      }

  cut_on : (since : List ℕ) (a : ℕ) → suc a + b ≤ rounds_from n since (x ∷ acts) → all_below (acted (x ∷ since)) n ≡ false
      → Cut n (suc a) b since (x ∷ acts)
  cut_on since a h p =
      let c = rest (x ∷ since) a (omega (arith, rounds-on n x since acts p)) in
      record {
        front = x ∷ c.front;
        back = c.back;
        whole = ap (◌∷◌ x) c.whole;
        first = omega (arith, rounds-on n x since c.front p, c.first);
        second = c.second;
      }

cut-from : (n b : ℕ) (acts since : List ℕ) (a : ℕ) → suc a + b ≤ rounds_from n since acts → Cut n (suc a) b since acts
cut-from n b [] since a h = absurd (omega (arith, rounds-done n since))
cut-from n b (x ∷ acts) since a h =
    ⊎_elim (cut-end n b x acts (cut-from n b acts) since a h) (cut_on n b x acts (cut-from n b acts) since a h)
    (true-or-false (all_below (acted (x ∷ since)) n))

pub cut : (n a b : ℕ) (acts : List ℕ) → a + b ≤ rounds n acts → Cut n a b [] acts
unfolding rounds
cut n zero b acts h = record { front = []; back = acts; whole = refl; first = omega arith; second = omega arith }
cut n (suc a) b acts h = cut-from n b acts [] a h

-- whoever has seen more of a round counts no fewer, and one round at most is between any two
record Ahead (n : ℕ) (acts : List ℕ) : Type 0 where
  seen : (s r : List ℕ) → ((v : ℕ) → v < n → acted s v ≡ true → acted r v ≡ true) → rounds_from n s acts ≤ rounds_from n r acts
  one : (s r : List ℕ) → rounds_from n s acts ≤ suc (rounds_from n r acts)

module _ (n x : ℕ) (acts : List ℕ) (rest : Ahead n acts) (s r : List ℕ) where
  abbrev ends : List ℕ → Bool
  ends since = all_below (acted (x ∷ since)) n

  nothing_seen : (v : ℕ) → v < n → acted [] v ≡ true → acted (x ∷ r) v ≡ true
  nothing_seen v l h = not-both (acted [] v) h (acted-none v)

  seen-act : ((v : ℕ) → v < n → acted s v ≡ true → acted r v ≡ true) → rounds_from n s (x ∷ acts) ≤ rounds_from n r (x ∷ acts)
  seen-act more = go (ends s) refl (ends r) refl
    where
      still : (v : ℕ) → v < n → acted (x ∷ s) v ≡ true → acted (x ∷ r) v ≡ true
      still v l h =
          ⊎_elim (λ (e : x ≡ v). ap (acted (x ∷ r)) (sym e) ∙ acted-first x r) (λ q. acted-later x r v (more v l q))
          (acted-cases x s v h)

      go : (a : Bool) → ends s ≡ a → (b : Bool) → ends r ≡ b → rounds_from n s (x ∷ acts) ≤ rounds_from n r (x ∷ acts)
      go true p true q = omega (arith, rounds-end n x s acts p, rounds-end n x r acts q)
      go true p false q =
          not-both (ends r) (all-intro (acted (x ∷ r)) n (λ v l. still v l (all-at (acted (x ∷ s)) n p v l))) q
      go false p true q = omega (arith, rounds-on n x s acts p, rounds-end n x r acts q, rest.one (x ∷ s) [])
      go false p false q = omega (arith, rounds-on n x s acts p, rounds-on n x r acts q, rest.seen (x ∷ s) (x ∷ r) still)

  one-act : rounds_from n s (x ∷ acts) ≤ suc (rounds_from n r (x ∷ acts))
  one-act = go (ends s) refl (ends r) refl
    where
      go : (a : Bool) → ends s ≡ a → (b : Bool) → ends r ≡ b → rounds_from n s (x ∷ acts) ≤ suc (rounds_from n r (x ∷ acts))
      go true p true q = omega (arith, rounds-end n x s acts p, rounds-end n x r acts q)
      go true p false q = omega (arith, rounds-end n x s acts p, rounds-on n x r acts q, rest.seen [] (x ∷ r) nothing_seen)
      go false p true q = omega (arith, rounds-on n x s acts p, rounds-end n x r acts q, rest.one (x ∷ s) [])
      go false p false q = omega (arith, rounds-on n x s acts p, rounds-on n x r acts q, rest.one (x ∷ s) (x ∷ r))

ahead : (n : ℕ) (acts : List ℕ) → Ahead n acts
ahead n [] =
    record { seen = λ s r h. omega (arith, rounds-done n s, rounds-done n r); one = λ s r. omega (arith, rounds-done n s, rounds-done n r) }
ahead n (x ∷ acts) = record { seen = seen-act n x acts (ahead n acts); one = one-act n x acts (ahead n acts) }

-- two sequences one after the other make no fewer rounds than the two
append-from : (n : ℕ) (more acts since : List ℕ) → rounds_from n since acts + rounds n more ≤ rounds_from n since (acts ++ more)
unfolding rounds
append-from n more [] since =
    omega (arith, rounds-done n since, (ahead n more).seen [] since (λ v l h. not-both (acted [] v) h (acted-none v)))
append-from n more (x ∷ acts) since =
    ⊎_elim
    (λ (p : all_below (acted (x ∷ since)) n ≡ true).
    omega (arith, rounds-end n x since acts p, rounds-end n x since (acts ++ more) p, append-from n more acts []))
    (λ (p : all_below (acted (x ∷ since)) n ≡ false).
    omega (arith, rounds-on n x since acts p, rounds-on n x since (acts ++ more) p, append-from n more acts (x ∷ since)))
    (true-or-false (all_below (acted (x ∷ since)) n))

-- a sequence k times over
unfoldable pub repeated : List ℕ → ℕ → List ℕ
repeated acts zero = []
repeated acts (suc k) = acts ++ repeated acts k

pub repeated-rounds : (n : ℕ) (acts : List ℕ) → 1 ≤ rounds n acts → (k : ℕ) → k ≤ rounds n (repeated acts k)
unfolding repeated rounds
repeated-rounds n acts h zero = omega arith
repeated-rounds n acts h (suc k) = omega (arith, append-from n (repeated acts k) acts [], repeated-rounds n acts h k)

-- every router once
unfoldable pub lap : ℕ → List ℕ
lap zero = []
lap (suc k) = k ∷ lap k

pub lap-whole : (n : ℕ) → Whole n (lap n)
unfolding lap
lap-whole zero v l = absurd (omega arith)
lap-whole (suc k) v l =
    ⊎_elim (λ (e : k ≡ v). ap (acted (k ∷ lap k)) (sym e) ∙ acted-first k (lap k))
    (λ (d : k ≡ v → ⊥). acted-later k (lap k) v (lap-whole k v (omega arith)))
    (eq-or-ne k v)

-- acts of routers below n
module _ (n : ℕ) where
  pub below_none : ActsBelow n []
  below_none i h = absurd (omega arith)

  pub below_one : (a : ℕ) (acts : List ℕ) → a < n → ActsBelow n acts → ActsBelow n (a ∷ acts)
  below_one a acts l b zero h = l
  below_one a acts l b (suc i) h = b i (omega arith)

  pub below_rest : (a : ℕ) (acts : List ℕ) → ActsBelow n (a ∷ acts) → ActsBelow n acts
  below_rest a acts b i h = b (suc i) (omega arith)

  pub below-append : (acts more : List ℕ) → ActsBelow n acts → ActsBelow n more → ActsBelow n (acts ++ more)
  below-append [] more a b = b
  below-append (x ∷ acts) more a b = below_one x (acts ++ more) (a 0 (omega arith)) (below-append acts more (below_rest x acts a) b)

  pub below-front : (acts more : List ℕ) → ActsBelow n (acts ++ more) → ActsBelow n acts
  below-front [] more b = below_none
  below-front (x ∷ acts) more b = below_one x acts (b 0 (omega arith)) (below-front acts more (below_rest x (acts ++ more) b))

  pub below-back : (acts more : List ℕ) → ActsBelow n (acts ++ more) → ActsBelow n more
  below-back [] more b = b
  below-back (x ∷ acts) more b = below-back acts more (below_rest x (acts ++ more) b)

  pub below-take : (k : ℕ) (acts : List ℕ) → ActsBelow n acts → ActsBelow n (take k acts)
  below-take k acts b i h =
      let inside : (i < k) × (i < length acts) = omega (arith, length-take k acts) in
      omega (arith, get_or-take k acts i 0 inside.0, b i inside.1)

  pub below-repeated : (acts : List ℕ) → ActsBelow n acts → (k : ℕ) → ActsBelow n (repeated acts k)
  unfolding repeated
  below-repeated acts b zero = below_none
  below-repeated acts b (suc k) = below-append acts (repeated acts k) b (below-repeated acts b k)

pub lap-upto : (n k : ℕ) → k ≤ n → ActsBelow n (lap k)
unfolding lap
lap-upto n zero l = below_none n
lap-upto n (suc k) l = below_one n k (lap k) l (lap-upto n k (omega arith))
