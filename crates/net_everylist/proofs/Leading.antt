-- What a pass takes away: pairs that lead to none of the rows. What is left in the end is never among them.
use Prim.Native.Nat.{ℕ, suc, ◌+◌, ◌-◌, ◌≤◌, ◌<◌, min}
use native.Mathlib.Omega.{arith}
use mathlib.Core.Path.{◌≡◌, refl, ◌∙◌, sym, ap, ap₂}
use mathlib.Core.Bool.{Bool, true, false, not, ◌&&◌, and_assoc, and-true, and-false}
use mathlib.Core.List.{List}
use mathlib.Core.Logic.{◌⊎◌, inl, inr, ⊎_elim}
use borrow.Author.Tests.{eq-eqb, eqb-true, le-leb, lt-leb, leb-true, leb-false, not-true}
use lib.Bits.{bit_and, bit_or}
use lib.Dec.{eqb, leb}
use lib.ListN.{length, get_or, set, length-set}
use lib.Seq.{get_or-set_same, get_or-set_other}
use Rattle.base.specs.Below.{any_below}
use Rattle.base.specs.Bits.{bit_n, bits}
use Rattle.base.proofs.Below.{Witness, any_at, any_found, any-cong}
use Rattle.base.proofs.Numbers.{both, both_left, both_right, not-both, true-or-false, lt-or-le, eq-or-ne}
use Rattle.base.proofs.SetBits.{set-and, set-less}
use Rattle.plan_rules.specs.Distances.{TwoOrFour}
use Rattle.route_rules.specs.Instance.{Instance}
use Rattle.everylist_rules.specs.Pairs.{is_pair, leads_to, in_table, left}
use Rattle.everylist_rules.proofs.Pairs.{PairParts, pair_parts, StepParts, step-parts, step-intro, pairs_in, pairs-less}
use Rattle.everylist_rules.proofs.Sustained.{Onward, Sustaining, end_below, end-pair, sustained, sustaining-left}
use Rattle.net_prefer.specs.Measured.{Measured}
use Rattle.net_everylist.specs.Peeling.{key_at, no_key, LeastKey, pair_in, PairsIn, AllPairs, foreign_among, leads_among, LostFrom, OnePass, LeftRows}
use Rattle.net_everylist.proofs.Keys.{key-nearer, nearer-key, key-way, way-key}
use Rattle.net_everylist.proofs.Words.{is_in}

-- the same of a test that says the same
pub least-cong : (key : ℕ → ℕ) (p q : ℕ → Bool) (none n r : ℕ) → ((e : ℕ) → p e ≡ q e) → LeastKey key p none n r → LeastKey key q none n r
least-cong key p q none n r same h =
    record {
      most = h.most;
      least = λ e l y. h.least e l (same e ∙ y);
      is =
          ⊎_elim (λ (x : r ≡ none). inl x)
          (λ (x : (e : ℕ) × (e < n) × (p e ≡ true) × (r ≡ key e)). inr (x.0, x.1, sym (same x.0) ∙ x.2, x.3))
          h.is;
    }

-- a pair of those of which p holds to which (w, c) leads
pub record Led (I : Instance) (p : ℕ → ℕ → Bool) (w c : ℕ) : Type 0 where
  pub router : ℕ
  pub client : ℕ
  pub below : router < I.n
  pub client_below : client < I.n
  pub holds : p router client ≡ true
  pub parts : StepParts I w c router client

module _ (I : Instance) (p : ℕ → ℕ → Bool) (w c : ℕ) where
  pub led : leads_among I p w c ≡ true → Led I p w c
  unfolding leads_among
  led h =
      let a : Witness (λ v. any_below (λ e. p v e && leads_to I w c v e) I.n) I.n = any_at _ I.n h in
      let b : Witness (λ e. p a.at e && leads_to I w c a.at e) I.n = any_at _ I.n a.holds in
      record {
        router = a.at;
        client = b.at;
        below = a.below;
        client_below = b.below;
        holds = both_left (p a.at b.at) _ b.holds;
        parts = step-parts I w c a.at b.at (both_right (p a.at b.at) _ b.holds);
      }

  pub leads : (v e : ℕ) → v < I.n → e < I.n → p v e ≡ true → leads_to I w c v e ≡ true → leads_among I p w c ≡ true
  unfolding leads_among
  leads v e l m h k =
      any_found (λ v. any_below (λ e. p v e && leads_to I w c v e) I.n) I.n v l
      (any_found (λ e. p v e && leads_to I w c v e) I.n e m (both _ _ h k))

module _ (I : Instance) (p : ℕ → ℕ → Bool) (w e : ℕ) where
  pub foreign-at : foreign_among I p w e ≡ true → Witness (λ v. I.neighbour w v && p v e) I.n × (I.neighbour w e ≡ false)
  unfolding foreign_among
  foreign-at h = (any_at _ I.n (both_left _ (not (I.neighbour w e)) h), not-true (I.neighbour w e) (both_right (any_below (λ v. I.neighbour w v && p v e) I.n) _ h))

  pub foreign-by : (v : ℕ) → v < I.n → I.neighbour w v ≡ true → p v e ≡ true → I.neighbour w e ≡ false → foreign_among I p w e ≡ true
  unfolding foreign_among
  foreign-by v l a h s = both _ _ (any_found (λ v. I.neighbour w v && p v e) I.n v l (both _ _ a h)) (ap not s)

-- the least key of the foreign clients of w tells which of its clients lead to one
module _ (I : Instance) (rows : List ℕ) (pairs : PairsIn I rows) (few : I.n ≤ 64) (width : ℕ) (s : List ℕ) (q : Measured I width s I.n)
    (t : TwoOrFour width) (bytes : (i : ℕ) → get_or s i 0 < 256) (w least : ℕ)
    (h : LeastKey (key_at width s I.n w) (foreign_among I (pair_in rows) w) (no_key width) I.n least) where
  abbrev key : ℕ → ℕ
  key = key_at width s I.n w

  leads-above : (c : ℕ) → pair_in rows w c ≡ true → leads_among I (pair_in rows) w c ≡ true → least < key c
  leads-above c mine y =
      let o = led I (pair_in rows) w c y in
      let f : foreign_among I (pair_in rows) w o.client ≡ true
      = foreign-by I (pair_in rows) w o.client o.router o.below o.parts.neighbour o.holds o.parts.stranger in
      omega (
        arith,
        h.least o.client o.client_below f,
        key-nearer q t bytes w o.client c (omega (arith, o.client_below)) (omega (arith, (pairs.pairs w c mine).1)) o.parts.closer,
      )

  above-leads : (c : ℕ) → pair_in rows w c ≡ true → least < key c → leads_among I (pair_in rows) w c ≡ true
  above-leads c mine y = go h.is
    where
      below : c < I.n
      below = (pairs.pairs w c mine).1

      low : key c < no_key width
      low = key-way q t bytes w c (omega (arith, below)) (pair_parts I w c (pairs.pairs w c mine).2).way

      go : (least ≡ no_key width) ⊎ ((e : ℕ) × (e < I.n) × (foreign_among I (pair_in rows) w e ≡ true) × (least ≡ key e))
          → leads_among I (pair_in rows) w c ≡ true
      go (inl e) = absurd (omega (arith, low))
      go (inr (e, l, f, k)) =
          let a = foreign-at I (pair_in rows) w e f in
          let v : ℕ = a.0.at in
          leads I (pair_in rows) w c v e a.0.below l (both_right (I.neighbour w v) _ a.0.holds)
          (step-intro I w c v e (record {
            neighbour = both_left (I.neighbour w v) _ a.0.holds;
            way = way-key q t bytes w e (omega (arith, low));
            closer = nearer-key q t bytes w e c (omega arith) (omega (arith, below)) (omega arith);
            stranger = a.1;
          }))

  -- so the clients up to it are those that are lost
  pub row-lost : (c : ℕ) → (pair_in rows w c && leb (key c) least) ≡ (pair_in rows w c && not (leads_among I (pair_in rows) w c))
  row-lost c = go (pair_in rows w c) refl (leads_among I (pair_in rows) w c) refl
    where
      go : (a : Bool) → pair_in rows w c ≡ a → (b : Bool) → leads_among I (pair_in rows) w c ≡ b
          → (pair_in rows w c && leb (key c) least) ≡ (pair_in rows w c && not (leads_among I (pair_in rows) w c))
      go false h b e = rw h
      go true h true e = rw (h, e) (lt-leb (key c) least (leads-above c h e))
      go true h false e =
          ⊎_elim (λ (a : least < key c). not-both (leads_among I (pair_in rows) w c) (above-leads c h a) e)
          (λ (a : key c ≤ least). rw (h, e) (le-leb (key c) least a))
          (lt-or-le least (key c))
