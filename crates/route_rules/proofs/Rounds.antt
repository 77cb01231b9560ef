-- The tally counts the rounds as they are defined, over one sequence or over several.
use Prim.Native.Nat.{ℕ, zero, suc, ◌+◌, ◌%◌, ◌^◌, ◌≤◌, ◌<◌}
use native.Mathlib.Omega.{arith}
use native.Mathlib.Nat.{div-eq_of_lt}
use mathlib.Core.Path.{◌≡◌, refl, ◌∙◌, sym, ap}
use mathlib.Core.Bool.{Bool, true, false}
use mathlib.Core.Logic.{◌⊎◌, inl, inr, ⊎_elim}
use mathlib.Core.List.{List, [], ◌∷◌, ◌++◌, foldl, foldl-append}
use lib.Bits.{bit_or}
use lib.Dec.{eqb}
use lib.Pow.{pow_pos}
use borrow.Author.Tests.{eq-eqb, ne_eqb}
use Rattle.base.specs.Below.{all_below}
use Rattle.base.specs.Seek.{flag, count}
use Rattle.base.proofs.Below.{all-at, all-intro}
use Rattle.base.proofs.Seek.{count-cong, count-all, count-few, count-one-more}
use Rattle.base.proofs.Numbers.{eq-or-ne, true-or-false, not-both}
use Rattle.route_rules.specs.Rounds.{ActsBelow, acted, rounds_from, rounds, Tally, fresh_tally, tally_act, tally_acts}
use Rattle.base.specs.Bits.{bit_n}
use Rattle.base.proofs.BitLaws.{bit-or, bit-pow-same, bit-pow-other}

pub acted-none : (v : ℕ) → acted [] v ≡ false
unfolding acted
acted-none v = refl

acted-now : (a : ℕ) (since : List ℕ) → acted (a ∷ since) a ≡ true
unfolding acted
acted-now a since = cc (eq-eqb a a refl)

pub acted-before : (a : ℕ) (since : List ℕ) (v : ℕ) → (a ≡ v → ⊥) → acted (a ∷ since) v ≡ acted since v
unfolding acted
acted-before a since v d = cc (ne_eqb a v d)

acted-again : (a : ℕ) (since : List ℕ) → acted since a ≡ true → (v : ℕ) → acted (a ∷ since) v ≡ acted since v
acted-again a since h v =
    ⊎_elim (λ (e : a ≡ v). ap (acted (a ∷ since)) (sym e) ∙ acted-now a since ∙ sym h ∙ ap (acted since) e) (acted-before a since v) (eq-or-ne a v)

-- how many of the n routers have acted
abbrev acted_count : List ℕ → ℕ → ℕ
acted_count since n = count (λ v. flag (acted since v)) n

none-acted : (n : ℕ) → acted_count [] n ≡ 0
unfolding count acted
none-acted zero = refl
none-acted (suc n) = omega (arith, none-acted n)

-- all of them exactly if every router has acted
all-acted : (n : ℕ) (since : List ℕ) → all_below (acted since) n ≡ true → acted_count since n ≡ n
all-acted n since h = count-all _ n (λ v l. rw (all-at (acted since) n h v l) (omega arith))

acted-all : (n : ℕ) (since : List ℕ) → acted_count since n ≡ n → all_below (acted since) n ≡ true
acted-all n since h =
    all-intro (acted since) n (λ v l.
    ⊎_elim (λ (e : acted since v ≡ true). e)
    (λ (e : acted since v ≡ false). absurd (omega (arith, count-few (λ u. flag (acted since u)) n v l (ap flag e))))
    (true-or-false (acted since v)))

-- the two ways of an act: the round ends with it, or not
pub rounds-end : (n a : ℕ) (since acts : List ℕ) → all_below (acted (a ∷ since)) n ≡ true → rounds_from n since (a ∷ acts) ≡ suc (rounds_from n [] acts)
unfolding rounds_from
rounds-end n a since acts h = rw (h, rounds_from)

pub rounds-on : (n a : ℕ) (since acts : List ℕ) → all_below (acted (a ∷ since)) n ≡ false → rounds_from n since (a ∷ acts) ≡ rounds_from n (a ∷ since) acts
unfolding rounds_from
rounds-on n a since acts h = rw (h, rounds_from)

pub rounds-done : (n : ℕ) (since : List ℕ) → rounds_from n since [] ≡ 0
unfolding rounds_from
rounds-done n since = refl

-- the tally after k rounds and the acts `since`
record TallyOf (n : ℕ) (since : List ℕ) (k : ℕ) (t : Tally) : Type 0 where
  bits : (v : ℕ) → v < n → eqb (bit_n t.seen v) 1 ≡ acted since v
  missing : t.missing + acted_count since n ≡ n
  waiting : 0 < n → 0 < t.missing
  ended : t.ended ≡ k

-- where a round starts
round-starts : (n k : ℕ) (t : Tally) → t.seen ≡ 0 → t.missing ≡ n → t.ended ≡ k → TallyOf n [] k t
round-starts n k t s m e =
    record {
      bits = λ v l. ap (λ x. eqb (bit_n x v) 1) s ∙ ap (λ x. eqb (x % 2) 1) (div-eq_of_lt (pow_pos v)) ∙ sym (acted-none v);
      missing = omega (arith, none-acted n);
      waiting = omega arith;
      ended = e;
    }

module _ (n a : ℕ) (t : Tally) (since : List ℕ) (k : ℕ) (w : TallyOf n since k t) (l : a < n) where
  -- a router that has acted in this round acts again
  same-many : acted since a ≡ true → acted_count (a ∷ since) n ≡ acted_count since n
  same-many h = count-cong _ _ n (λ v m. ap flag (acted-again a since h v))

  again : acted since a ≡ true → TallyOf n (a ∷ since) k (tally_act n t a)
  unfolding tally_act
  again h =
      rw (w.bits a l ∙ h)
      (record {
        bits = λ v m. w.bits v m ∙ sym (acted-again a since h v);
        missing = omega (arith, w.missing, same-many h);
        waiting = w.waiting;
        ended = w.ended;
      })

  again-open : acted since a ≡ true → all_below (acted (a ∷ since)) n ≡ true → ⊥
  again-open h q =
      omega (
        arith,
        w.missing,
        w.waiting (omega arith),
        same-many h,
        all-acted n (a ∷ since) q,
      )

  module _ (h : acted since a ≡ false) where
    one-more : acted_count (a ∷ since) n ≡ acted_count since n + 1
    one-more =
        count-one-more _ _ a n l (ap flag h) (rw (acted-now a since) (omega arith)) (λ v e. ap flag (acted-before a since v e))

    -- the last one that was missing acts
    last : t.missing ≡ 1 → TallyOf n [] (k + 1) (tally_act n t a)
    unfolding tally_act
    last q = rw (w.bits a l ∙ h, eq-eqb t.missing 1 q) (round-starts n (k + 1) _ refl refl (ap (λ x. x + 1) w.ended))

    last-closed : t.missing ≡ 1 → all_below (acted (a ∷ since)) n ≡ true
    last-closed q = acted-all n (a ∷ since) (omega (arith, w.missing, one-more))

    seen-bits : (v : ℕ) → v < n → eqb (bit_n (bit_or t.seen (2 ^ a)) v) 1 ≡ acted (a ∷ since) v
    seen-bits v m = go (eq-or-ne a v)
      where
        go : (a ≡ v) ⊎ (a ≡ v → ⊥) → eqb (bit_n (bit_or t.seen (2 ^ a)) v) 1 ≡ acted (a ∷ since) v
        go (inl e) =
            let p : bit_n (2 ^ a) v ≡ 1 = sym (ap (bit_n (2 ^ a)) e) ∙ bit-pow-same a in
            eq-eqb (bit_n (bit_or t.seen (2 ^ a)) v) 1 (omega (arith, bit-or t.seen (2 ^ a) v))
            ∙ sym (acted-now a since)
            ∙ ap (acted (a ∷ since)) e
        go (inr e) =
            let p : bit_n (bit_or t.seen (2 ^ a)) v ≡ bit_n t.seen v = omega (arith, bit-or t.seen (2 ^ a) v, bit-pow-other a v e) in
            ap (λ x. eqb x 1) p ∙ w.bits v m ∙ sym (acted-before a since v e)

    -- another acts for the first time
    more : (t.missing ≡ 1 → ⊥) → TallyOf n (a ∷ since) k (tally_act n t a)
    unfolding tally_act
    more q =
        let p : 0 < t.missing = w.waiting (omega arith) in
        rw (w.bits a l ∙ h, ne_eqb t.missing 1 q)
        (record {
          bits = seen-bits;
          missing = omega (arith, w.missing, one-more);
          waiting = omega arith;
          ended = w.ended;
        })

    more-open : (t.missing ≡ 1 → ⊥) → all_below (acted (a ∷ since)) n ≡ true → ⊥
    more-open q p =
        omega (arith, w.missing, w.waiting (omega arith), one-more, all-acted n (a ∷ since) p)

tally-from : (n : ℕ) (t : Tally) (since : List ℕ) (k : ℕ) (acts : List ℕ) → TallyOf n since k t → ActsBelow n acts
    → (tally_acts n t acts).ended ≡ k + rounds_from n since acts
unfolding tally_acts
tally-from n t since k [] w b = omega (arith, w.ended, rounds-done n since)
tally-from n t since k (a ∷ acts) w b =
    go (acted since a) refl (eq-or-ne t.missing 1) (all_below (acted (a ∷ since)) n) refl
    (λ s j h. tally-from n (tally_act n t a) s j acts h (λ i l. b (suc i) (omega arith)))
  where
    l : a < n
    l = b 0 (omega arith)

    Rest : Type 0
    Rest = (s : List ℕ) (j : ℕ) → TallyOf n s j (tally_act n t a) → (foldl (tally_act n) (tally_act n t a) acts).ended ≡ j + rounds_from n s acts

    Goal : Type 0
    Goal = (foldl (tally_act n) (tally_act n t a) acts).ended ≡ k + rounds_from n since (a ∷ acts)

    go : (x : Bool) → acted since a ≡ x → (t.missing ≡ 1) ⊎ (t.missing ≡ 1 → ⊥) → (y : Bool) → all_below (acted (a ∷ since)) n ≡ y → Rest → Goal
    go true h m true q rest = absurd (again-open n a t since k w l h q)
    go true h m false q rest = rest (a ∷ since) k (again n a t since k w l h) ∙ ap (λ r. k + r) (sym (rounds-on n a since acts q))
    go false h (inl m) true q rest = omega (arith, rest [] (k + 1) (last n a t since k w l h m), rounds-end n a since acts q)
    go false h (inl m) false q rest = not-both (all_below (acted (a ∷ since)) n) (last-closed n a t since k w l h m) q
    go false h (inr m) true q rest = absurd (more-open n a t since k w l h m q)
    go false h (inr m) false q rest = rest (a ∷ since) k (more n a t since k w l h m) ∙ ap (λ r. k + r) (sym (rounds-on n a since acts q))

-- the tally counts the rounds
pub tally-counts : (n : ℕ) (acts : List ℕ) → ActsBelow n acts → (tally_acts n (fresh_tally n) acts).ended ≡ rounds n acts
unfolding rounds
tally-counts n acts b = omega (arith, tally-from n (fresh_tally n) [] 0 acts (round-starts n 0 (fresh_tally n) refl refl refl) b)

-- .. and goes on over a second sequence where it stood after the first
pub tally-append : (n : ℕ) (t : Tally) (acts more : List ℕ) → tally_acts n t (acts ++ more) ≡ tally_acts n (tally_acts n t acts) more
unfolding tally_acts
tally-append n t acts more = foldl-append (tally_act n) t acts more

-- a tally always waits for some router, and an act ends one round at most
module _ (n : ℕ) (t : Tally) (a : ℕ) where
  pub tally-waits : 0 < n → 0 < t.missing → 0 < (tally_act n t a).missing
  unfolding tally_act
  tally-waits l m = go (eqb (bit_n t.seen a) 1) refl (eq-or-ne t.missing 1)
    where
      go : (b : Bool) → eqb (bit_n t.seen a) 1 ≡ b → (t.missing ≡ 1) ⊎ (t.missing ≡ 1 → ⊥) → 0 < (tally_act n t a).missing
      go true p q = rw p m
      go false p (inl q) = rw (p, eq-eqb t.missing 1 q) l
      go false p (inr q) = rw (p, ne_eqb t.missing 1 q) (omega arith)

  pub tally-at-most : (tally_act n t a).ended ≤ t.ended + 1
  unfolding tally_act
  tally-at-most = go (eqb (bit_n t.seen a) 1) refl (eqb t.missing 1) refl
    where
      go : (b : Bool) → eqb (bit_n t.seen a) 1 ≡ b → (d : Bool) → eqb t.missing 1 ≡ d → (tally_act n t a).ended ≤ t.ended + 1
      go true p d q = rw p (omega arith)
      go false p true q = rw (p, q) (omega arith)
      go false p false q = rw (p, q) (omega arith)
