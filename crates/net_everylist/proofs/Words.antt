-- Loops over the bits of a word: the least key, the clients up to a key, and the clients of several reflectors.
use Prim.Native.Nat.{ℕ, suc, ◌^◌, ◌≤◌, ◌<◌, min}
use native.Mathlib.Omega.{arith}
use mathlib.Core.Path.{◌≡◌, refl, ◌∙◌, sym, ap, ap₂}
use mathlib.Core.Bool.{Bool, true, false, cond, ◌&&◌, ◌||◌, or-false, and-false}
use mathlib.Core.List.{List}
use mathlib.Core.Logic.{◌⊎◌, inl, inr, ⊎_elim}
use borrow.Author.Tests.{eq-eqb, eqb-true, lt-ltb}
use lib.Bits.{bit_or}
use lib.Dec.{eqb, leb, ltb}
use lib.ListN.{get_or}
use Rattle.base.specs.Below.{any_below}
use Rattle.base.specs.Bits.{bit_n, marked}
use Rattle.base.specs.Seek.{flag}
use Rattle.base.specs.BitWalk.{from_bit, LowestBit, BitWalk}
use Rattle.base.proofs.Below.{any_none, any-suc}
use Rattle.base.proofs.BitWalk.{walk_start, walk-within, walk-visit, walk-set, walk_more, walk-done}
use Rattle.base.proofs.Marked.{marked-none, marked-suc, marked-is}
use Rattle.base.proofs.Numbers.{lt-or-le, eq-or-ne, not-both}
use Rattle.base.proofs.SetBits.{bit-none, set-or}
use Rattle.net_everylist.specs.Peeling.{WordBelow, LeastKey, pair_in}

-- bit v of the word is set, as a test
abbrev pub is_in : ℕ → ℕ → Bool
is_in word v = eqb (bit_n word v) 1

unset : (word v : ℕ) → bit_n word v ≡ 0 → is_in word v ≡ false
unset word v h = ap (λ b. eqb b 1) h

module _ (key : ℕ → ℕ) (word none n : ℕ) where
  -- the least key so far
  abbrev pub Leasing : ℕ → ℕ → Type 0
  Leasing least m = BitWalk (λ k. LeastKey key (is_in word) none k least) word n m

  pub leasing-start : Leasing none word
  leasing-start =
      walk_start (λ k. LeastKey key (is_in word) none k none) word n (record { most = omega arith; least = λ e l p. absurd (omega arith); is = inl refl })

  module _ (within : WordBelow word n) (least m : ℕ) (s : Leasing least m) where
    abbrev Leased : ℕ → Type 0
    Leased k = LeastKey key (is_in word) none k least

    lease-passed : (v : ℕ) → v < n → bit_n word v ≡ 0 → Leased v → Leased (suc v)
    lease-passed v l h q =
        record {
          most = q.most;
          least = λ e k p.
              ⊎_elim (λ (x : e ≡ v). not-both (is_in word e) p (ap (is_in word) x ∙ unset word v h))
              (λ (x : e ≡ v → ⊥). q.least e (omega arith) p)
              (eq-or-ne e v);
          is =
              ⊎_elim (λ (x : least ≡ none). inl x)
              (λ (x : (e : ℕ) × (e < v) × (is_in word e ≡ true) × (least ≡ key e)). inr (x.0, omega (arith, x.1), x.2, x.3))
              q.is;
        }

    module _ (v : ℕ) (low : LowestBit m v) where
      pub leasing-below : v < n
      leasing-below = walk-within Leased word n m v within s low

      pub leasing-more : (m' less : ℕ) → m' ≡ from_bit m (suc v) → less ≡ min least (key v) → Leasing less m'
      leasing-more m' less left e =
          walk_more Leased word n m v within s low (λ k. LeastKey key (is_in word) none k less) m' left
          (next (walk-visit Leased word n lease-passed m v within s low) (eq-eqb _ 1 (walk-set Leased word n m v within s low)))
        where
          next : Leased v → is_in word v ≡ true → LeastKey key (is_in word) none (suc v) less
          next q h =
              record {
                most = omega (arith, q.most);
                least = λ f k p.
                    ⊎_elim (λ (x : f ≡ v). rw x (omega arith)) (λ (x : f ≡ v → ⊥). omega (arith, q.least f (omega arith) p)) (eq-or-ne f v);
                is =
                    ⊎_elim (λ (a : key v < least). inr (v, omega arith, h, omega arith))
                    (λ (a : least ≤ key v).
                    ⊎_elim (λ (x : least ≡ none). inl (omega arith))
                    (λ (x : (f : ℕ) × (f < v) × (is_in word f ≡ true) × (least ≡ key f)).
                    inr (x.0, omega (arith, x.1), x.2, omega (arith, x.3)))
                    q.is)
                    (lt-or-le (key v) least);
              }

    pub leasing-done : m ≡ 0 → LeastKey key (is_in word) none n least
    leasing-done e = walk-done Leased word n lease-passed m s e

-- the clients found so far
module _ (key : ℕ → ℕ) (word bound n : ℕ) where
  abbrev up_to : ℕ → Bool
  up_to e = is_in word e && leb (key e) bound

  abbrev pub Picking : ℕ → ℕ → Type 0
  Picking found m = BitWalk (λ k. found ≡ marked up_to k) word n m

  pub picking-start : Picking 0 word
  picking-start = walk_start (λ k. 0 ≡ marked up_to k) word n (sym (marked-none up_to))

  module _ (within : WordBelow word n) (found m : ℕ) (s : Picking found m) where
    abbrev Picked : ℕ → Type 0
    Picked k = found ≡ marked up_to k

    pick-passed : (v : ℕ) → v < n → bit_n word v ≡ 0 → Picked v → Picked (suc v)
    pick-passed v l h q = marked-suc up_to v found false (sym (ap (λ b. b && leb (key v) bound) (unset word v h))) q

    module _ (v : ℕ) (low : LowestBit m v) where
      pub picking-below : v < n
      picking-below = walk-within Picked word n m v within s low

      pub picking-more : (m' : ℕ) → m' ≡ from_bit m (suc v) → (b : Bool) → b ≡ leb (key v) bound
          → Picking (cond b (bit_or found (2 ^ v)) found) m'
      picking-more m' left b e =
          walk_more Picked word n m v within s low _ m' left
          (marked-suc up_to v found b (e ∙ sym (ap (λ a. a && leb (key v) bound) (eq-eqb _ 1 (walk-set Picked word n m v within s low))))
          (walk-visit Picked word n pick-passed m v within s low))

    pub picking-done : m ≡ 0 → (e : ℕ) → is_in found e ≡ up_to e
    picking-done z e =
        ap (λ x. is_in x e) (walk-done Picked word n pick-passed m s z) ∙ marked-is up_to n e ∙ go (is_in word e) refl
      where
        go : (b : Bool) → is_in word e ≡ b → (ltb e n && up_to e) ≡ up_to e
        go true h = rw (lt-ltb e n (within e (eqb-true _ 1 h)))
        go false h = rw h (and-false (ltb e n))

-- the clients of the reflectors seen so far
module _ (rows : List ℕ) (word n : ℕ) where
  abbrev told : ℕ → ℕ → Bool
  told e v = is_in word v && pair_in rows v e

  abbrev pub Joining : ℕ → ℕ → Type 0
  Joining found m = BitWalk (λ k. (e : ℕ) → is_in found e ≡ any_below (told e) k) word n m

  pub joining-start : Joining 0 word
  joining-start = walk_start (λ k. (e : ℕ) → is_in 0 e ≡ any_below (told e) k) word n (λ e. bit-none e ∙ sym (any_none (told e)))

  module _ (within : WordBelow word n) (found m : ℕ) (s : Joining found m) where
    abbrev Heard : ℕ → Type 0
    Heard k = (e : ℕ) → is_in found e ≡ any_below (told e) k

    join-passed : (v : ℕ) → v < n → bit_n word v ≡ 0 → Heard v → Heard (suc v)
    join-passed v l h q e =
        q e ∙ sym (or-false _) ∙ ap (λ b. any_below (told e) v || (b && pair_in rows v e)) (sym (unset word v h)) ∙ sym (any-suc (told e) v)

    module _ (v : ℕ) (low : LowestBit m v) where
      pub joining-below : v < n
      joining-below = walk-within Heard word n m v within s low

      pub joining-more : (m' : ℕ) → m' ≡ from_bit m (suc v) → Joining (bit_or found (get_or rows v 0)) m'
      joining-more m' left =
          walk_more Heard word n m v within s low (λ k. (e : ℕ) → is_in (bit_or found (get_or rows v 0)) e ≡ any_below (told e) k) m' left
          (λ e.
          set-or found (get_or rows v 0) e
          ∙ ap₂ ◌||◌ (walk-visit Heard word n join-passed m v within s low e)
          (ap (λ b. b && pair_in rows v e) (sym (eq-eqb _ 1 (walk-set Heard word n m v within s low))))
          ∙ sym (any-suc (told e) v))

    pub joining-done : m ≡ 0 → (e : ℕ) → is_in found e ≡ any_below (told e) n
    joining-done z = walk-done Heard word n join-passed m s z

-- whether v is in the word, and its row has client e
module _ (rows : List ℕ) (word e v : ℕ) where
  pub with-off : bit_n word v ≡ 0 → flag (is_in word v && pair_in rows v e) ≡ 0
  with-off h = ap (λ b. flag (b && pair_in rows v e)) (unset word v h)

  pub with-hit : bit_n word v ≡ 1 → pair_in rows v e ≡ true → 1 ≤ flag (is_in word v && pair_in rows v e)
  with-hit h k = rw (eq-eqb (bit_n word v) 1 h, k) (omega arith)

  pub with-miss : pair_in rows v e ≡ false → flag (is_in word v && pair_in rows v e) ≡ 0
  with-miss k = rw k (ap flag (and-false (is_in word v)))
