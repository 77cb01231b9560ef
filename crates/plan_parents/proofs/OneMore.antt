-- One session more, in order after those before it: what it adds to the counts.
use Prim.Native.Nat.{ℕ, suc, ◌+◌, ◌≤◌, ◌<◌, min, max}
use native.Mathlib.Omega.{arith}
use mathlib.Core.Path.{◌≡◌, refl, ◌∙◌, sym, ap, ap₂}
use mathlib.Core.Bool.{Bool, true, false, not, ◌&&◌, ◌||◌, and-true, and-false, or-true, or-false}
use mathlib.Core.List.{List}
use mathlib.Core.Logic.{⊎_elim}
use borrow.Author.Tests.{le-leb, lt-leb, eq-eqb, ne_eqb}
use lib.Dec.{eqb}
use lib.ListN.{length, get_or, length-set}
use lib.Seq.{get_or-set_same, get_or-set_other}
use Rattle.base.specs.Below.{all_below, any_below}
use Rattle.base.specs.Seek.{flag, count}
use Rattle.base.proofs.Below.{all-at, any-suc, any-refuted}
use Rattle.base.proofs.Numbers.{eq-or-ne}
use Rattle.base.proofs.Seek.{count-le, count-cong, count-one-more}
use Rattle.plan_rules.specs.Routers.{reflector_in}
use Rattle.plan_rules.specs.Sessions.{session_first, session_second, session_ok, pairs}
use Rattle.plan_rules.proofs.Facts.{SessionAt, session-iff}
use Rattle.plan_rules.proofs.Neighbours.{pairs-are}
use Rattle.plan_rules.proofs.Rising.{pairs-rise}
use Rattle.plan_parents.specs.Counts.{counts_for, counted, Counted, raised, noted}

module _ (routers s : List ℕ) (n v : ℕ) where
  -- no more than there are routers
  pub counted-le : (j u : ℕ) → counted routers s n v j u ≤ n
  unfolding counted
  counted-le j u = count-le _ n

  -- session j, in order as all before it are
  module _ (j : ℕ) (held : all_below (session_ok s n) (suc j) ≡ true) where
    abbrev a : ℕ
    a = session_first s j

    abbrev b : ℕ
    b = session_second s j

    pub order : (i : ℕ) → i < suc j → SessionAt s n i
    order i l = (session-iff s n i).0 (all-at _ (suc j) held i l)

    -- the lower of the two that it is between is its first, and the higher its second
    between : (u p i : ℕ) → i < suc j → pairs s u p i ≡ true → (session_first s i ≡ min u p) × (session_second s i ≡ max u p)
    between u p i l h =
        let o = (order i l).0.1 in
        ⊎_elim (λ (e : (session_first s i ≡ u) × (session_second s i ≡ p)). (omega arith, omega arith))
        (λ (e : (session_second s i ≡ u) × (session_first s i ≡ p)). (omega arith, omega arith))
        (pairs-are s u p i h)

    -- no session before it is between the same two
    fresh : (u p : ℕ) → pairs s u p j ≡ true → any_below (pairs s u p) j ≡ false
    fresh u p h = any-refuted (pairs s u p) j (λ i l. go i l (pairs s u p i) refl)
      where
        again : (i : ℕ) → i < j → pairs s u p i ≡ true → ⊥
        again i l e =
            let x = between u p i (omega arith) e in
            let y = between u p j (omega arith) h in
            ⊎_elim (λ (r : session_first s i < session_first s j). omega arith)
            (λ (r : (session_first s i ≡ session_first s j) × (session_second s i < session_second s j)). omega arith)
            (pairs-rise (session_first s) (session_second s) (suc j) (λ i l. (order i l).1) i j l (omega arith))

        go : (i : ℕ) → i < j → (t : Bool) → pairs s u p i ≡ t → pairs s u p i ≡ false
        go i l true e = absurd (again i l e)
        go i l false e = e

    -- whether p is counted for u by the first k sessions
    abbrev test : ℕ → ℕ → ℕ → ℕ
    test k u p = flag (counts_for routers n v u p && any_below (pairs s u p) k)

    unchanged : (u p : ℕ) → pairs s u p j ≡ false → test (suc j) u p ≡ test j u p
    unchanged u p h = ap (λ t. flag (counts_for routers n v u p && t)) (any-suc (pairs s u p) j ∙ ap (◌||◌ (any_below (pairs s u p) j)) h ∙ or-false _)

    -- one of its routers, x, is counted for the other, u, or is not
    adds : (u x : ℕ) → x < n → pairs s u x j ≡ true → ((p : ℕ) → (x ≡ p → ⊥) → pairs s u p j ≡ false)
        → counted routers s n v (suc j) u ≡ counted routers s n v j u + flag (counts_for routers n v u x)
    unfolding counted
    adds u x l h others = go (counts_for routers n v u x) refl
      where
        go : (t : Bool) → counts_for routers n v u x ≡ t → count (test (suc j) u) n ≡ count (test j u) n + flag t
        go true e =
            count-one-more (test j u) (test (suc j) u) x n l
            (ap₂ (λ c t. flag (c && t)) e (fresh u x h))
            (rw (e, any-suc (pairs s u x) j, h, or-true (any_below (pairs s u x) j)) (omega arith))
            (λ p d. unchanged u p (others p d))
        go false e =
            count-cong (test (suc j) u) (test j u) n
            (λ p q.
            ⊎_elim
            (λ (o : x ≡ p). let c : counts_for routers n v u p ≡ false = ap (counts_for routers n v u) (sym o) ∙ e in rw c)
            (λ (d : x ≡ p → ⊥). unchanged u p (others p d))
            (eq-or-ne x p))
            ∙ omega arith

    -- .. and for no other router is anything
    adds_none : (u : ℕ) → ((p : ℕ) → pairs s u p j ≡ false) → counted routers s n v (suc j) u ≡ counted routers s n v j u
    unfolding counted
    adds_none u none = count-cong (test (suc j) u) (test j u) n (λ p l. unchanged u p (none p))

    -- whom it is between
    below : a < b
    below = (order j (omega arith)).0.1

    pairs_first : (p : ℕ) → pairs s a p j ≡ eqb b p
    unfolding pairs
    pairs_first p = rw (eq-eqb a a refl, ne_eqb b a (λ e. omega (arith, below))) (or-false (eqb b p))

    pairs-second : (p : ℕ) → pairs s b p j ≡ eqb a p
    unfolding pairs
    pairs-second p = rw (eq-eqb b b refl, ne_eqb a b (λ e. omega (arith, below)))

    pairs-other : (u : ℕ) → (a ≡ u → ⊥) → (b ≡ u → ⊥) → (p : ℕ) → pairs s u p j ≡ false
    unfolding pairs
    pairs-other u d e p = rw (ne_eqb a u d, ne_eqb b u e)

    -- where it is one of the router that is being read: the second is counted for the first if that is a client, and the first for the second
    module _ (own : v ≡ suc a) (counts : List ℕ) (few : n ≤ 64) (w : Counted routers s n v j counts) where
      first-adds : counted routers s n v (suc j) a ≡ counted routers s n v j a + flag (reflector_in routers n b && not (reflector_in routers n a))
      first-adds =
          adds a b (order j (omega arith)).0.0 (pairs_first b ∙ eq-eqb b b refl) (λ p d. pairs_first p ∙ ne_eqb b p d)
          ∙ ap (λ t. counted routers s n v j a + flag (reflector_in routers n b && t))
          (ap (◌||◌ (not (reflector_in routers n a))) (lt-leb v a (omega arith)) ∙ or-false (not (reflector_in routers n a)))

      second-adds : counted routers s n v (suc j) b ≡ counted routers s n v j b + flag (reflector_in routers n a)
      second-adds =
          adds b a (omega (arith, below, (order j (omega arith)).0.0)) (pairs-second a ∙ eq-eqb a a refl) (λ p d. pairs-second p ∙ ne_eqb a p d)
          ∙ ap (λ t. counted routers s n v j b + flag t)
          (ap (◌&&◌ (reflector_in routers n a))
          (ap (◌||◌ (not (reflector_in routers n b))) (le-leb v b (omega (arith, below))) ∙ or-true (not (reflector_in routers n b)))
          ∙ and-true (reflector_in routers n a))

      within : (a < 64) × (b < 64)
      within = omega (arith, below, (order j (omega arith)).0.0)

      same : (x : ℕ) → x < 64 → get_or (raised counts x) x 0 ≡ counted routers s n v j x + 1
      same x l = get_or-set_same counts x _ 0 (omega (arith, w.size)) ∙ ap (λ k. k + 1) (w.is x l)

      other : (x u : ℕ) → (x ≡ u → ⊥) → u < 64 → get_or (raised counts x) u 0 ≡ counted routers s n v j u
      other x u d l = get_or-set_other counts x u _ 0 (λ e. d (sym e)) ∙ w.is u l

      -- for the first router, for the second, and for any other
      abbrev Found : ℕ → Bool → Bool → Type 0
      Found u ra rb = get_or (noted ra rb a b counts) u 0 ≡ counted routers s n v (suc j) u

      at_first : (ra rb : Bool) → reflector_in routers n a ≡ ra → reflector_in routers n b ≡ rb → Found a ra rb
      at_first ra rb p q = go ra rb (first-adds ∙ ap₂ (λ x y. counted routers s n v j a + flag (y && not x)) p q)
        where
          go : (ra rb : Bool) → counted routers s n v (suc j) a ≡ counted routers s n v j a + flag (rb && not ra) → Found a ra rb
          go true rb e = omega (arith, e, ap flag (and-false rb), other b a (λ d. omega (arith, below)) within.0)
          go false true e = same a within.0 ∙ sym e
          go false false e = omega (arith, e, w.is a within.0)

      at_second : (ra rb : Bool) → reflector_in routers n a ≡ ra → Found b ra rb
      at_second ra rb p = go ra rb (second-adds ∙ ap (λ x. counted routers s n v j b + flag x) p)
        where
          go : (ra rb : Bool) → counted routers s n v (suc j) b ≡ counted routers s n v j b + flag ra → Found b ra rb
          go true rb e = same b within.1 ∙ sym e
          go false true e = omega (arith, e, other a b (λ d. omega (arith, below)) within.1)
          go false false e = omega (arith, e, w.is b within.1)

      at_other : (u : ℕ) → u < 64 → (a ≡ u → ⊥) → (b ≡ u → ⊥) → (ra rb : Bool) → Found u ra rb
      at_other u l d e true rb = other b u e l ∙ sym (adds_none u (pairs-other u d e))
      at_other u l d e false true = other a u d l ∙ sym (adds_none u (pairs-other u d e))
      at_other u l d e false false = w.is u l ∙ sym (adds_none u (pairs-other u d e))

      size : (ra rb : Bool) → length (noted ra rb a b counts) ≡ 64
      size true rb = length-set counts b _ ∙ w.size
      size false true = length-set counts a _ ∙ w.size
      size false false = w.size

      pub counted-more : (ra rb : Bool) → reflector_in routers n a ≡ ra → reflector_in routers n b ≡ rb
          → Counted routers s n v (suc j) (noted ra rb a b counts)
      counted-more ra rb p q =
          record {
            size = size ra rb;
            is = λ u l.
                ⊎_elim (λ (e : a ≡ u). rw (← e) (at_first ra rb p q))
                (λ (d : a ≡ u → ⊥). ⊎_elim (λ (e : b ≡ u). rw (← e) (at_second ra rb p)) (λ e. at_other u l d e ra rb) (eq-or-ne b u))
                (eq-or-ne a u);
          }
