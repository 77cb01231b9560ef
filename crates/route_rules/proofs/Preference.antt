-- `nearer` is a strict total order of the egress routers, at every router, and so is what a router prefers, whoever tells its own route.
use Prim.Native.Nat.{ℕ, ◌<◌, ◌≤◌}
use native.Mathlib.Omega.{arith}
use mathlib.Core.Path.{◌≡◌, refl, ◌∙◌, sym, ap, subst}
use mathlib.Core.Bool.{Bool, true, false, not, ◌&&◌, ◌||◌, and-false}
use mathlib.Core.Logic.{◌⊎◌, ◌↔◌, inl, inr, ⊎_elim}
use lib.Dec.{ltb, eqb}
use borrow.Author.Tests.{ltb-true, lt-ltb, le-ltb, eq-eqb, ne_eqb}
use Rattle.base.proofs.Numbers.{lt-or-le, eq-or-ne, not-both}
use Rattle.base.proofs.Best.{StrictOrder, ltb-order}
use Rattle.route_rules.specs.Instance.{Instance}
use Rattle.route_rules.specs.Preference.{nearer, has_step, hops, prefers, Preferring, prefers_by, better, Comparing}

-- how two numbers compare
data Compared (a b : ℕ) : Type 0 where
  less : a < b → Compared a b
  tie : a ≡ b → Compared a b
  more : b < a → Compared a b

compared : (a b : ℕ) → Compared a b
compared a b =
    ⊎_elim (λ l. less l) (λ (l : b ≤ a). ⊎_elim (λ q. tie q) (λ (q : a ≡ b → ⊥). more (omega arith)) (eq-or-ne a b)) (lt-or-le a b)

-- the order by a number, and among those of one number by another order
module _ (number : ℕ → ℕ) (before : ℕ → ℕ → Bool) where
  abbrev number_first : ℕ → ℕ → Bool
  number_first e f = ltb (number e) (number f) || (eqb (number e) (number f) && before e f)

  first-less : (e f : ℕ) → number e < number f → number_first e f ≡ true
  first-less e f l = cc (lt-ltb (number e) (number f) l)

  first_more : (e f : ℕ) → number f < number e → number_first e f ≡ false
  first_more e f l = cc (le-ltb (number e) (number f) (omega arith), ne_eqb (number e) (number f) (omega arith))

  first-tie : (e f : ℕ) → number e ≡ number f → number_first e f ≡ before e f
  first-tie e f q = cc (le-ltb (number e) (number f) (omega arith), eq-eqb (number e) (number f) q)

  module _ (o : StrictOrder before) where
    first-trans : (a b c : ℕ) → number_first a b ≡ true → number_first b c ≡ true → number_first a c ≡ true
    first-trans a b c p q = go (compared (number a) (number b)) (compared (number b) (number c))
      where
        go : Compared (number a) (number b) → Compared (number b) (number c) → number_first a c ≡ true
        go (more l) d = not-both (number_first a b) p (first_more a b l)
        go (less l) (more m) = not-both (number_first b c) q (first_more b c m)
        go (less l) (less m) = first-less a c (omega arith)
        go (less l) (tie m) = first-less a c (omega arith)
        go (tie l) (more m) = not-both (number_first b c) q (first_more b c m)
        go (tie l) (less m) = first-less a c (omega arith)
        go (tie l) (tie m) =
            first-tie a c (l ∙ m) ∙ o.transitive a b c (sym (first-tie a b l) ∙ p) (sym (first-tie b c m) ∙ q)

    first_one : (a b : ℕ) → (a ≡ b → ⊥) → number_first a b ≡ not (number_first b a)
    first_one a b d = go (compared (number a) (number b))
      where
        go : Compared (number a) (number b) → number_first a b ≡ not (number_first b a)
        go (less l) = first-less a b l ∙ sym (ap not (first_more b a l))
        go (more l) = first_more a b l ∙ sym (ap not (first-less b a l))
        go (tie l) = first-tie a b l ∙ o.exactly_one a b d ∙ sym (ap not (first-tie b a (sym l)))

    first-order : StrictOrder number_first
    first-order =
        record { irreflexive = λ a. first-tie a a refl ∙ o.irreflexive a; transitive = first-trans; exactly_one = first_one }

module _ (I : Instance) (w : ℕ) where
  -- distance, then number
  pub nearer-smaller : (e f : ℕ) → I.dist w e < I.dist w f → nearer I w e f ≡ true
  unfolding nearer
  nearer-smaller e f l = first-less (I.dist w) ltb e f l

  pub nearer-larger : (e f : ℕ) → I.dist w f < I.dist w e → nearer I w e f ≡ false
  unfolding nearer
  nearer-larger e f l = first_more (I.dist w) ltb e f l

  pub nearer-tie : (e f : ℕ) → I.dist w e ≡ I.dist w f → nearer I w e f ≡ ltb e f
  unfolding nearer
  nearer-tie e f q = first-tie (I.dist w) ltb e f q

  -- no route is nearer than itself, and of two different ones exactly one is
  pub nearer-order : StrictOrder (nearer I w)
  unfolding nearer
  nearer-order = first-order (I.dist w) ltb ltb-order

  -- nearer, or as near and with the lower number
  nearer-exactly : (e f : ℕ) → (nearer I w e f ≡ true) ↔ ((I.dist w e < I.dist w f) ⊎ ((I.dist w e ≡ I.dist w f) × (e < f)))
  nearer-exactly e f = (
    λ p. go p (compared (I.dist w e) (I.dist w f)),
    ⊎_elim (nearer-smaller e f) (λ (h : (I.dist w e ≡ I.dist w f) × (e < f)). nearer-tie e f h.0 ∙ lt-ltb e f h.1),
  )
    where
      go : nearer I w e f ≡ true → Compared (I.dist w e) (I.dist w f) → (I.dist w e < I.dist w f) ⊎ ((I.dist w e ≡ I.dist w f) × (e < f))
      go p (less l) = inl l
      go p (tie q) = inr (q, ltb-true e f (sym (nearer-tie e f q) ∙ p))
      go p (more l) = not-both (nearer I w e f) p (nearer-larger e f l)

  -- the hops that are counted
  pub hops-direct : hops I w true ≡ 0
  unfolding hops
  hops-direct = cc (and-false (has_step I w))

  pub hops-passed : has_step I w ≡ true → hops I w false ≡ 1
  unfolding hops
  hops-passed h = cc

  pub hops-without : has_step I w ≡ false → (d : Bool) → hops I w d ≡ 0
  unfolding hops
  hops-without h d = cc

  pub client-without : I.reflector w ≡ false → has_step I w ≡ false
  unfolding has_step
  client-without h = cc

  -- what is preferred, by the hops of each
  module _ (e : ℕ) (d : Bool) (f : ℕ) (d' : Bool) where
    pub prefers-same : e ≡ f → prefers I w e d f d' ≡ false
    unfolding prefers
    prefers-same q = cc (eq-eqb e f q)

    pub prefers-fewer : (e ≡ f → ⊥) → hops I w d < hops I w d' → prefers I w e d f d' ≡ true
    unfolding prefers
    prefers-fewer apart l = cc (ne_eqb e f apart, lt-ltb (hops I w d) (hops I w d') l)

    pub prefers-more : hops I w d' < hops I w d → prefers I w e d f d' ≡ false
    unfolding prefers
    prefers-more l =
        cc (le-ltb (hops I w d) (hops I w d') (omega arith), ne_eqb (hops I w d) (hops I w d') (omega arith), and-false (not (eqb e f)))

    -- as many of each: distance and number
    pub prefers-tie : hops I w d ≡ hops I w d' → prefers I w e d f d' ≡ nearer I w e f
    unfolding prefers
    prefers-tie q = go (eq-or-ne e f)
      where
        go : (e ≡ f) ⊎ (e ≡ f → ⊥) → prefers I w e d f d' ≡ nearer I w e f
        go (inl s) = prefers-same s ∙ sym (ap (nearer I w e) (sym s) ∙ nearer-order.irreflexive e)
        go (inr s) = cc (ne_eqb e f s, le-ltb (hops I w d) (hops I w d') (omega arith), eq-eqb (hops I w d) (hops I w d') q)

  -- of two different routes exactly one is preferred
  pub prefers-one : (e : ℕ) (d : Bool) (f : ℕ) (d' : Bool) → (e ≡ f → ⊥) → prefers I w e d f d' ≡ not (prefers I w f d' e d)
  prefers-one e d f d' apart = go (compared (hops I w d) (hops I w d'))
    where
      go : Compared (hops I w d) (hops I w d') → prefers I w e d f d' ≡ not (prefers I w f d' e d)
      go (less l) = prefers-fewer e d f d' apart l ∙ sym (ap not (prefers-more f d' e d l))
      go (more l) = prefers-more e d f d' l ∙ sym (ap not (prefers-fewer f d' e d (λ q. apart (sym q)) l))
      go (tie q) = prefers-tie e d f d' q ∙ nearer-order.exactly_one e f apart ∙ sym (ap not (prefers-tie f d' e d (sym q)))

  -- told alike, or at a router without the step
  pub prefers-alike : (e f : ℕ) (d : Bool) → prefers I w e d f d ≡ nearer I w e f
  prefers-alike e f d = prefers-tie e d f d refl

  pub prefers-without : has_step I w ≡ false → (e : ℕ) (d : Bool) (f : ℕ) (d' : Bool) → prefers I w e d f d' ≡ nearer I w e f
  prefers-without h e d f d' = prefers-tie e d f d' (hops-without h d ∙ sym (hops-without h d'))

  -- at a router with the step: told by its egress, or passed on
  pub prefers-direct : has_step I w ≡ true → (e f : ℕ) → (e ≡ f → ⊥) → prefers I w e true f false ≡ true
  prefers-direct h e f apart = prefers-fewer e true f false apart (omega (arith, hops-direct, hops-passed h))

  pub prefers-passed : has_step I w ≡ true → (e f : ℕ) → prefers I w e false f true ≡ false
  prefers-passed h e f = prefers-more e false f true (omega (arith, hops-direct, hops-passed h))

  -- against a route told by its egress the step makes none preferred
  pub prefers-nearer : (e : ℕ) (d : Bool) (f : ℕ) → prefers I w e d f true ≡ true → nearer I w e f ≡ true
  prefers-nearer e d f h = go d refl (has_step I w) refl
    where
      go : (a : Bool) → d ≡ a → (b : Bool) → has_step I w ≡ b → nearer I w e f ≡ true
      go true p b q = sym (prefers-alike e f true) ∙ rw p at h
      go false p true q = not-both (prefers I w e d f true) h (rw p (prefers-passed q e f))
      go false p false q = sym (prefers-without q e d f true) ∙ h

  pub preferring : (e f : ℕ) → Preferring I w e f
  preferring e f =
      record {
        same = λ d d'. prefers-same e d f d';
        direct = λ h. prefers-direct h e f;
        passed_on = λ h. prefers-passed h e f;
        alike = prefers-alike e f;
        without = λ h d d'. prefers-without h e d f d';
        client = λ h d d'. prefers-without (client-without h) e d f d';
      }

  -- whoever tells its own route, what is preferred is a strict total order
  module _ (direct : ℕ → Bool) where
    by-hops : (e f : ℕ) → number_first (λ x. hops I w (direct x)) (nearer I w) e f ≡ prefers_by I w direct e f
    unfolding prefers_by
    by-hops e f = go (eq-or-ne e f) (compared (hops I w (direct e)) (hops I w (direct f)))
      where
        number : ℕ → ℕ
        number x = hops I w (direct x)

        go : (e ≡ f) ⊎ (e ≡ f → ⊥) → Compared (number e) (number f) → number_first number (nearer I w) e f ≡ prefers I w e (direct e) f (direct f)
        go s (tie q) = first-tie number (nearer I w) e f q ∙ sym (prefers-tie e (direct e) f (direct f) q)
        go s (more l) = first_more number (nearer I w) e f l ∙ sym (prefers-more e (direct e) f (direct f) l)
        go (inr s) (less l) = first-less number (nearer I w) e f l ∙ sym (prefers-fewer e (direct e) f (direct f) s l)
        go (inl s) (less l) = absurd (omega (arith, ap number s))

    pub prefers_by-order : StrictOrder (prefers_by I w direct)
    prefers_by-order = subst StrictOrder (λ i e f. by-hops e f i) (first-order (λ x. hops I w (direct x)) (nearer I w) nearer-order)

  -- routes told alike are preferred alike
  pub prefers_by-alike : (direct other : ℕ → Bool) (e f : ℕ) → direct e ≡ other e → direct f ≡ other f
      → prefers_by I w direct e f ≡ prefers_by I w other e f
  unfolding prefers_by
  prefers_by-alike direct other e f p q = cc

  -- .. and at a router without the step by distance and number, whoever tells them
  pub prefers_by-without : has_step I w ≡ false → (direct : ℕ → Bool) (e f : ℕ) → prefers_by I w direct e f ≡ nearer I w e f
  unfolding prefers_by
  prefers_by-without h direct e f = prefers-without h e (direct e) f (direct f)

-- a comparison where there may be no way, case by case
module _ (I : Instance) (w e : ℕ) (d : Bool) (f : ℕ) (d' : Bool) where
  pub better-both-ways : I.way w e ≡ true → I.way w f ≡ true → better I w e d f d' ≡ prefers I w e d f d'
  unfolding better
  better-both-ways p q = cc

  pub better-one-way : I.way w e ≡ true → I.way w f ≡ false → better I w e d f d' ≡ true
  unfolding better
  better-one-way p q = cc

  pub better-without : I.way w e ≡ false → better I w e d f d' ≡ false
  unfolding better
  better-without p = cc

  -- with a way to both, and as many hops: the nearer, or as near and with the lower number
  pub better-exactly : I.way w e ≡ true → I.way w f ≡ true → hops I w d ≡ hops I w d'
      → (better I w e d f d' ≡ true) ↔ ((I.dist w e < I.dist w f) ⊎ ((I.dist w e ≡ I.dist w f) × (e < f)))
  better-exactly p q h = rw (better-both-ways p q ∙ prefers-tie I w e d f d' h) (nearer-exactly I w e f)

  -- .. and of two as near the lower number is better
  pub better-tie : I.way w e ≡ true → I.way w f ≡ true → hops I w d ≡ hops I w d' → I.dist w e ≡ I.dist w f
      → better I w e d f d' ≡ ltb e f
  better-tie p q h t = better-both-ways p q ∙ prefers-tie I w e d f d' h ∙ nearer-tie I w e f t

module _ (I : Instance) (w : ℕ) where
  -- of two different routes with a way exactly one is better, and a route is not better than itself
  pub better-other : (e : ℕ) (d : Bool) (f : ℕ) (d' : Bool) → I.way w e ≡ true → I.way w f ≡ true → (e ≡ f → ⊥)
      → better I w e d f d' ≡ not (better I w f d' e d)
  better-other e d f d' p q apart =
      better-both-ways I w e d f d' p q ∙ prefers-one I w e d f d' apart ∙ ap not (sym (better-both-ways I w f d' e d q p))

  better-itself : (e : ℕ) (d d' : Bool) → better I w e d e d' ≡ false
  better-itself e d d' = go (I.way w e) refl
    where
      go : (b : Bool) → I.way w e ≡ b → better I w e d e d' ≡ false
      go true p = better-both-ways I w e d e d' p p ∙ prefers-same I w e d e d' refl
      go false p = better-without I w e d e d' p

  pub better-one : (e : ℕ) (d : Bool) (f : ℕ) (d' : Bool) → I.way w e ≡ true → I.way w f ≡ true → better I w f d' e d ≡ true
      → better I w e d f d' ≡ false
  better-one e d f d' p q h =
      ⊎_elim (λ (s : e ≡ f). not-both (better I w f d' e d) h (rw s (better-itself f d' d)))
      (λ (s : e ≡ f → ⊥). better-other e d f d' p q s ∙ ap not h)
      (eq-or-ne e f)

  module _ (e : ℕ) (d : Bool) (f : ℕ) (d' : Bool) where
    -- where neither is better
    neither-better : better I w e d f d' ≡ false → better I w f d' e d ≡ false
        → (e ≡ f) ⊎ ((I.way w e ≡ false) × (I.way w f ≡ false))
    neither-better h k = go (I.way w e) refl (I.way w f) refl (eq-or-ne e f)
      where
        go : (a : Bool) → I.way w e ≡ a → (b : Bool) → I.way w f ≡ b → (e ≡ f) ⊎ (e ≡ f → ⊥)
            → (e ≡ f) ⊎ ((I.way w e ≡ false) × (I.way w f ≡ false))
        go a p b q (inl s) = inl s
        go true p true q (inr s) = not-both (better I w e d f d') (better-other e d f d' p q s ∙ ap not k) h
        go true p false q (inr s) = not-both (better I w e d f d') (better-one-way I w e d f d' p q) h
        go false p true q (inr s) = not-both (better I w f d' e d) (better-one-way I w f d' e d q p) k
        go false p false q (inr s) = inr (p, q)

    pub comparing : Comparing I w e d f d'
    comparing =
        record {
          both = better-both-ways I w e d f d';
          one = better-one-way I w e d f d';
          without = better-without I w e d f d';
          neither = (
            λ h. neither-better h.0 h.1,
            ⊎_elim (λ (q : e ≡ f). rw q (better-itself f d d', better-itself f d' d))
                (λ (h : (I.way w e ≡ false) × (I.way w f ≡ false)). (better-without I w e d f d' h.0, better-without I w f d' e d h.1)),
          );
        }
