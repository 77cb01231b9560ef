-- The rows of all pairs, filled one by one; a pass over them, reflector by reflector, in place; and passes until one takes nothing away.
use Prim.Native.Nat.{ℕ, zero, suc, ◌+◌, ◌-◌, ◌^◌, ◌≤◌, ◌<◌, min}
use native.Mathlib.Nat.{pow-suc}
use native.Mathlib.Omega.{arith}
use mathlib.Core.Path.{◌≡◌, refl, ◌∙◌, sym, ap}
use mathlib.Core.Bool.{Bool, true, false, not, ◌&&◌}
use mathlib.Core.List.{List}
use mathlib.Core.Logic.{⊎_elim}
use borrow.Author.Tests.{eq-eqb, eqb-true}
use lib.Bits.{bit_or, or_add_and, or_zero_r, and_le_l, and_le_r}
use lib.Count.{count_trailing_zeros}
use lib.Dec.{eqb}
use lib.ListN.{length, get_or, set, replicate, length-set, length-replicate}
use lib.Seq.{get_or-set_same, get_or-set_other}
use Rattle.base.specs.Bits.{bit_n, bits}
use Rattle.base.proofs.BitWalk.{lowest-is}
use Rattle.base.proofs.BitLaws.{bit_in}
use Rattle.base.proofs.Numbers.{both, both_left, both_right, not-both, true-or-false, lt-or-le, eq-or-ne}
use Rattle.base.proofs.SetBits.{set-less, rows_none, bit-none}
use Rattle.route_rules.specs.Instance.{Instance}
use Rattle.everylist_rules.specs.Pairs.{is_pair, leads_to, in_table, left}
use Rattle.everylist_rules.proofs.Pairs.{pairs_in, pairs-mono, pairs-less, pair_parts, step-intro}
use Rattle.everylist_rules.proofs.Sustained.{Onward, Sustaining, at_end, end_below, end-pair, sustained, sustaining-left}
use Rattle.net_everylist.specs.Peeling.{pair_in, PairsIn, AllPairs, leads_among, LostFrom, OnePass, LeftRows}
use Rattle.net_everylist.proofs.Leading.{Led, led, leads}
use Rattle.net_everylist.proofs.Words.{is_in}

-- what stands in rows of which one was replaced
module _ (rows : List ℕ) (k x : ℕ) (room : k < length rows) where
  pub row_same : (c : ℕ) → pair_in (set rows k x) k c ≡ is_in x c
  row_same c = ap (λ r. is_in r c) (get_or-set_same rows k x 0 room)

  pub row_other : (w c : ℕ) → (w ≡ k → ⊥) → pair_in (set rows k x) w c ≡ pair_in rows w c
  row_other w c d = ap (λ r. is_in r c) (get_or-set_other rows k w x 0 d)

-- the rows of the routers below k have their pairs, the others none
pub record Filled (I : Instance) (k : ℕ) (rows : List ℕ) : Type 0 where
  pub upto : k ≤ I.n
  pub size : length rows ≡ 64
  pub own : (w c : ℕ) → w < k → pair_in rows w c ≡ is_pair I w c
  pub rest : (w c : ℕ) → k ≤ w → pair_in rows w c ≡ false

module _ (I : Instance) where
  pub filled-start : Filled I 0 (replicate 64 0)
  filled-start =
      record { upto = omega arith; size = length-replicate {A = ℕ} 64 0; own = λ w c l. absurd (omega arith); rest = λ w c l. rows_none 64 w c }

  pub filled_more : (k : ℕ) (rows : List ℕ) (x : ℕ) → I.n ≤ 64 → k < I.n → Filled I k rows → ((c : ℕ) → is_in x c ≡ is_pair I k c)
      → Filled I (k + 1) (set rows k x)
  filled_more k rows x few l h is =
      let room : k < length rows = omega (arith, h.size) in
      record {
        upto = omega arith;
        size = length-set rows k x ∙ h.size;
        own = λ w c m.
            ⊎_elim (λ (e : w ≡ k). rw e (row_same rows k x room c ∙ is c))
            (λ (e : w ≡ k → ⊥). row_other rows k x room w c e ∙ h.own w c (omega arith))
            (eq-or-ne w k);
        rest = λ w c m. row_other rows k x room w c (omega arith) ∙ h.rest w c (omega arith);
      }

  pub filled-done : (k : ℕ) (rows : List ℕ) → I.n ≤ k → ((w v : ℕ) → I.neighbour w v ≡ true → v < I.n) → Filled I k rows → AllPairs I rows
  filled-done k rows l near h =
      record {
        within =
            record {
              size = h.size;
              pairs = λ w c p.
                  ⊎_elim (λ (m : w < k).
                  let pair : is_pair I w c ≡ true = sym (h.own w c m) ∙ p in
                  (omega (arith, h.upto), near w c (pair_parts I w c pair).neighbour, pair))
                  (λ (m : k ≤ w). not-both (pair_in rows w c) p (h.rest w c m))
                  (lt-or-le w k);
            };
        every = λ w c m p. h.own w c (omega arith) ∙ p;
      }

-- a word that is not 0 has a bit
below_power : (x : ℕ) → x < 2 ^ x
below_power zero = omega arith
below_power (suc x) = omega (arith, below_power x, pow-suc 2 x)

pub some-bit : (x : ℕ) → 0 < x → (j : ℕ) × (is_in x j ≡ true)
some-bit x l = (count_trailing_zeros x x, eq-eqb _ 1 (lowest-is x x l (below_power x)).0.set)

-- the pass has come as far as k
pub record Passing (I : Instance) (before after : List ℕ) (taken k : ℕ) : Type 0 where
  pub upto : k ≤ I.n
  pub within : PairsIn I after
  pub fewer : (w c : ℕ) → pair_in after w c ≡ true → pair_in before w c ≡ true
  pub keeps : ((w c : ℕ) → at_end I w c ≡ true → pair_in before w c ≡ true) → (w c : ℕ) → at_end I w c ≡ true → pair_in after w c ≡ true
  -- nothing was taken, and each pair below k leads to one; or some pair was
  pub still : taken ≡ 0 → (w c : ℕ) → w < k → pair_in after w c ≡ true → leads_among I (pair_in after) w c ≡ true
  pub lost : 0 < taken → (w : ℕ) × (c : ℕ) × (pair_in before w c ≡ true) × (pair_in after w c ≡ false)

module _ (I : Instance) (few : I.n ≤ 64) where
  pub passing-start : (rows : List ℕ) → PairsIn I rows → Passing I rows rows 0 0
  passing-start rows p =
      record {
        upto = omega arith;
        within = p;
        fewer = λ w c h. h;
        keeps = λ h. h;
        still = λ z w c l. absurd (omega arith);
        lost = λ l. absurd (omega arith);
      }

  -- taking away what is lost from row k
  module _ (before after : List ℕ) (taken k gone row : ℕ) (s : Passing I before after taken k) (l : k < I.n) (lost : LostFrom I (pair_in after) k gone)
      (less : (j : ℕ) → bit_n row j ≡ min (bits after k j) (1 - bit_n gone j)) where
    abbrev next : List ℕ
    next = set after k row

    room : k < length after
    room = omega (arith, s.within.size)

    here : (c : ℕ) → pair_in next k c ≡ (pair_in after k c && not (is_in gone c))
    here c = row_same after k row room c ∙ set-less (get_or after k 0) gone c row (less c)

    other : (w c : ℕ) → (w ≡ k → ⊥) → pair_in next w c ≡ pair_in after w c
    other = row_other after k row room

    shrinks : (w c : ℕ) → pair_in next w c ≡ true → pair_in after w c ≡ true
    shrinks w c h =
        ⊎_elim (λ (e : w ≡ k). rw e (both_left (pair_in after k c) _ (sym (here c) ∙ rw e at h))) (λ (e : w ≡ k → ⊥). sym (other w c e) ∙ h) (eq-or-ne w k)

    -- none of row k is lost, where `gone` is 0
    same : gone ≡ 0 → (w c : ℕ) → pair_in next w c ≡ pair_in after w c
    same z w c = ⊎_elim (λ (e : w ≡ k). rw e (here c ∙ all (pair_in after k c))) (other w c) (eq-or-ne w k)
      where
        all : (b : Bool) → (b && not (is_in gone c)) ≡ b
        all true = ap not (ap (λ x. is_in x c) z ∙ bit-none c)
        all false = refl

    stays : (c : ℕ) → pair_in after k c ≡ true → leads_among I (pair_in after) k c ≡ true → pair_in next k c ≡ true
    stays c h y = let kept : is_in gone c ≡ false = cc (lost c, h, y) in here c ∙ both _ _ h (ap not kept)

    passing-keeps : ((w c : ℕ) → at_end I w c ≡ true → pair_in after w c ≡ true) → (w c : ℕ) → at_end I w c ≡ true → pair_in next w c ≡ true
    passing-keeps all w c h =
        ⊎_elim (λ (e : w ≡ k).
        let q : at_end I k c ≡ true = rw e at h in
        let o = sustained I k c q in
        rw e (stays c (all k c q) (leads I (pair_in after) k c o.router o.client o.below o.client_below (all _ _ o.holds) o.leads)))
        (λ (e : w ≡ k → ⊥). other w c e ∙ all w c h)
        (eq-or-ne w k)

    both-none : bit_or taken gone ≡ 0 → (taken ≡ 0) × (gone ≡ 0)
    both-none z = (omega (arith, or_add_and taken gone, and_le_r taken gone), omega (arith, or_add_and taken gone, and_le_l taken gone))

    leads-still : gone ≡ 0 → (w c : ℕ) → leads_among I (pair_in after) w c ≡ true → leads_among I (pair_in next) w c ≡ true
    leads-still z w c h =
        let o = led I (pair_in after) w c h in
        leads I (pair_in next) w c o.router o.client o.below o.client_below (same z o.router o.client ∙ o.holds) (step-intro I w c _ _ o.parts)

    none-lost : gone ≡ 0 → (c : ℕ) → pair_in after k c ≡ true → leads_among I (pair_in after) k c ≡ true
    none-lost z c h = go (leads_among I (pair_in after) k c) refl
      where
        go : (b : Bool) → leads_among I (pair_in after) k c ≡ b → leads_among I (pair_in after) k c ≡ true
        go true e = e
        go false e = let a : is_in gone c ≡ true = cc (lost c, h, e) in not-both (is_in gone c) a (ap (λ x. is_in x c) z ∙ bit-none c)

    still-next : bit_or taken gone ≡ 0 → (w c : ℕ) → w < k + 1 → pair_in next w c ≡ true → leads_among I (pair_in next) w c ≡ true
    still-next z w c m h =
        let b = both-none z in
        let p : pair_in after w c ≡ true = shrinks w c h in
        leads-still b.1 w c
        (⊎_elim (λ (e : w ≡ k). rw e (none-lost b.1 c (rw e at p))) (λ (e : w ≡ k → ⊥). s.still b.0 w c (omega arith) p) (eq-or-ne w k))

    lost-next : 0 < bit_or taken gone → (w : ℕ) × (c : ℕ) × (pair_in before w c ≡ true) × (pair_in next w c ≡ false)
    lost-next m =
        ⊎_elim (λ (z : gone ≡ 0).
        let o = s.lost (rw (z, or_zero_r taken) at m) in
        (o.0, o.1, o.2, same z o.0 o.1 ∙ o.3))
        (λ (z : gone ≡ 0 → ⊥).
        let b = some-bit gone (omega arith) in
        let y : (pair_in after k b.0 && not (leads_among I (pair_in after) k b.0)) ≡ true = sym (lost b.0) ∙ b.1 in
        let p : pair_in after k b.0 ≡ true = both_left _ (not (leads_among I (pair_in after) k b.0)) y in
        (k, b.0, s.fewer k b.0 p, here b.0 ∙ rw (p, b.1)))
        (eq-or-ne gone 0)

    pub passing-more : Passing I before next (bit_or taken gone) (k + 1)
    passing-more =
        record {
          upto = omega arith;
          within = record { size = length-set after k row ∙ s.within.size; pairs = λ w c h. s.within.pairs w c (shrinks w c h) };
          fewer = λ w c h. s.fewer w c (shrinks w c h);
          keeps = λ h. passing-keeps (s.keeps h);
          still = still-next;
          lost = lost-next;
        }

  module _ (before after : List ℕ) (taken k : ℕ) (s : Passing I before after taken k) where
    pub passing-done : PairsIn I before → I.n ≤ k → OnePass I before taken after
    passing-done all l =
        record {
          within = s.within;
          keeps = s.keeps;
          still = λ z w c h. s.still z w c (omega (arith, (s.within.pairs w c h).0)) h;
          fewer = λ m.
              let o = s.lost m in
              let b = all.pairs o.0 o.1 o.2 in
              pairs-less (pair_in after) (pair_in before) 64 s.fewer 64 o.0 o.1 (omega (arith, b.0)) (omega (arith, b.1)) o.3 o.2;
        }

-- rows that hold all that is left in the end
pub record Peeled (I : Instance) (rows : List ℕ) : Type 0 where
  pub within : PairsIn I rows
  pub holds : (w c : ℕ) → at_end I w c ≡ true → pair_in rows w c ≡ true

module _ (I : Instance) where
  pub peeled-start : (rows : List ℕ) → AllPairs I rows → Peeled I rows
  peeled-start rows p = record { within = p.within; holds = λ w c h. p.every w c (end_below I w c h).0 (end-pair I w c h) }

  pub peeled-more : (before after : List ℕ) (taken : ℕ) → Peeled I before → OnePass I before taken after → Peeled I after
  peeled-more before after taken p s = record { within = s.within; holds = s.keeps p.holds }

  -- what sustains itself is left
  pub peeled-done : (rows : List ℕ) → Peeled I rows → ((w c : ℕ) → pair_in rows w c ≡ true → leads_among I (pair_in rows) w c ≡ true) → LeftRows I rows
  peeled-done rows p still = record { size = p.within.size; is = λ w c. go w c (pair_in rows w c) refl }
    where
      sustaining : Sustaining I (λ w c. pair_in rows w c ≡ true)
      sustaining =
          record {
            pairs = λ w c h. p.within.pairs w c h;
            onward = λ w c h.
                let o = led I (pair_in rows) w c (still w c h) in (o.router, o.client, o.holds, step-intro I w c _ _ o.parts);
          }

      go : (w c : ℕ) (b : Bool) → pair_in rows w c ≡ b → pair_in rows w c ≡ in_table (left I) w c
      go w c true h = h ∙ sym (sustaining-left I (λ w c. pair_in rows w c ≡ true) sustaining w c h)
      go w c false h =
          ⊎_elim (λ (e : at_end I w c ≡ true). not-both (pair_in rows w c) (p.holds w c e) h) (λ (e : at_end I w c ≡ false). h ∙ sym e)
          (true-or-false (at_end I w c))
