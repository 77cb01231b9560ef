-- Pairs and their steps, part by part; tables of pairs, and how many pairs a table has.
use Prim.Native.Nat.{ℕ, zero, suc, ◌+◌, ◌*◌, ◌≤◌, ◌<◌}
use native.Mathlib.Nat.{suc-mul, zero-mul}
use native.Mathlib.Omega.{arith}
use mathlib.Core.Path.{◌≡◌, refl, ◌∙◌, sym, ap}
use mathlib.Core.Bool.{Bool, true, false}
use mathlib.Core.List.{[]}
use mathlib.Core.Logic.{⊎_elim}
use borrow.Author.Tests.{not-true}
use lib.ListN.{get_or, get_or-eq_default}
use Rattle.base.specs.Seek.{flag, count}
use Rattle.base.specs.Tab.{tab}
use Rattle.base.proofs.Numbers.{and-iff, eq-or-ne, lt-or-le, not-both}
use Rattle.base.proofs.Seek.{flag-yes, count-le, count-mono, count_less}
use Rattle.base.proofs.Tab.{length-tab, get_or-tab}
use Rattle.route_rules.specs.Instance.{Instance}
use Rattle.route_rules.specs.Preference.{nearer}
use Rattle.everylist_rules.specs.Pairs.{is_pair, leads_to, pair_table, in_table}

-- a pair, part by part
pub record PairParts (I : Instance) (w c : ℕ) : Type 0 where
  pub reflector : I.reflector w ≡ true
  pub without_step : I.hop w ≡ false
  pub client : I.reflector c ≡ false
  pub neighbour : I.neighbour w c ≡ true
  pub way : I.way w c ≡ true

pub pair_parts : (I : Instance) (w c : ℕ) → is_pair I w c ≡ true → PairParts I w c
unfolding is_pair
pair_parts I w c h =
    let p = simp and-iff at h in
    record {
      reflector = p.0.0.0.0;
      without_step = not-true (I.hop w) p.0.0.0.1;
      client = not-true (I.reflector c) p.0.0.1;
      neighbour = p.0.1;
      way = p.1;
    }

pub pair-intro : (I : Instance) (w c : ℕ) → PairParts I w c → is_pair I w c ≡ true
unfolding is_pair
pair-intro I w c p = cc (p.reflector, p.without_step, p.client, p.neighbour, p.way)

-- what it takes that one pair leads to another, part by part
pub record StepParts (I : Instance) (w c v e : ℕ) : Type 0 where
  pub neighbour : I.neighbour w v ≡ true
  pub way : I.way w e ≡ true
  pub closer : nearer I w e c ≡ true
  pub stranger : I.neighbour w e ≡ false

pub step-parts : (I : Instance) (w c v e : ℕ) → leads_to I w c v e ≡ true → StepParts I w c v e
unfolding leads_to
step-parts I w c v e h =
    let p = simp and-iff at h in
    record { neighbour = p.0.0.0; way = p.0.0.1; closer = p.0.1; stranger = not-true (I.neighbour w e) p.1 }

pub step-intro : (I : Instance) (w c v e : ℕ) → StepParts I w c v e → leads_to I w c v e ≡ true
unfolding leads_to
step-intro I w c v e p = cc (p.neighbour, p.way, p.closer, p.stranger)

-- what stands in a table of pairs, below n alone
module _ (n : ℕ) (p : ℕ → ℕ → Bool) where
  pub table_at : (w c : ℕ) → w < n → c < n → in_table (pair_table n p) w c ≡ p w c
  table_at w c l m =
      ap (λ row. get_or row c false) (get_or-tab (λ v. tab (p v) n) n [] w l) ∙ get_or-tab (p w) n false c m

  pub table_below : (w c : ℕ) → in_table (pair_table n p) w c ≡ true → (w < n) × (c < n)
  table_below w c h = ⊎_elim row none (lt-or-le w n)
    where
      none : n ≤ w → (w < n) × (c < n)
      none l =
          not-both (in_table (pair_table n p) w c) h
          (ap (λ r. get_or r c false)
          (get_or-eq_default (tab (λ v. tab (p v) n) n) [] {n = w} (omega (arith, length-tab (λ v. tab (p v) n) n))))

      past : w < n → n ≤ c → in_table (pair_table n p) w c ≡ false
      past l m =
          ap (λ row. get_or row c false) (get_or-tab (λ v. tab (p v) n) n [] w l)
          ∙ get_or-eq_default (tab (p w) n) false {n = c} (omega (arith, length-tab (p w) n))

      row : w < n → (w < n) × (c < n)
      row l = ⊎_elim (λ (m : c < n). (l, m)) (λ (m : n ≤ c). not-both (in_table (pair_table n p) w c) h (past l m)) (lt-or-le c n)

-- how many pairs below m, n there are of which p holds
unfoldable pub pairs_in : (ℕ → ℕ → Bool) → ℕ → ℕ → ℕ
pairs_in p n zero = 0
pairs_in p n (suc m) = pairs_in p n m + count (λ c. flag (p m c)) n

module _ (p : ℕ → ℕ → Bool) (n : ℕ) where
  pairs-none : pairs_in p n 0 ≡ 0
  unfolding pairs_in
  pairs-none = refl

  pairs-suc : (m : ℕ) → pairs_in p n (suc m) ≡ pairs_in p n m + count (λ c. flag (p m c)) n
  unfolding pairs_in
  pairs-suc m = refl

  pub pairs-upto : (m : ℕ) → pairs_in p n m ≤ m * n
  pairs-upto zero = omega (arith, pairs-none, zero-mul n)
  pairs-upto (suc m) = omega (arith, pairs-upto m, pairs-suc m, count-le (λ c. flag (p m c)) n, suc-mul m n)

-- fewer of which q holds, where q holds of none but those of p, and of one less
module _ (q p : ℕ → ℕ → Bool) (n : ℕ) (h : (w c : ℕ) → q w c ≡ true → p w c ≡ true) where
  row-implies : (w c : ℕ) → 1 ≤ flag (q w c) → 1 ≤ flag (p w c)
  row-implies w c l = rw (h w c (flag-yes (q w c) l)) (omega arith)

  pub pairs-mono : (m : ℕ) → pairs_in q n m ≤ pairs_in p n m
  pairs-mono zero = omega (arith, pairs-none q n, pairs-none p n)
  pairs-mono (suc m) =
      omega (
        arith,
        pairs-mono m,
        pairs-suc q n m,
        pairs-suc p n m,
        count-mono (λ c. flag (q m c)) (λ c. flag (p m c)) n (λ c l. row-implies m c),
      )

  pub pairs-less : (m w c : ℕ) → w < m → c < n → q w c ≡ false → p w c ≡ true → pairs_in q n m < pairs_in p n m
  pairs-less zero w c l k a b = absurd (omega arith)
  pairs-less (suc m) w c l k a b =
      ⊎_elim (λ (e : w ≡ m).
      let no : flag (q m c) ≡ 0 = ap flag (sym (ap (λ z. q z c) e) ∙ a) in
      let yes : flag (p m c) ≡ 1 = ap flag (sym (ap (λ z. p z c) e) ∙ b) in
      omega (
        arith,
        pairs-mono m,
        pairs-suc q n m,
        pairs-suc p n m,
        count_less (λ c. flag (q m c)) (λ c. flag (p m c)) n c k no (omega arith) (λ d o. row-implies m d),
      ))
      (λ (e : w ≡ m → ⊥).
      omega (
        arith,
        pairs-less m w c (omega arith) k a b,
        pairs-suc q n m,
        pairs-suc p n m,
        count-mono (λ c. flag (q m c)) (λ c. flag (p m c)) n (λ d o. row-implies m d),
      ))
      (eq-or-ne w m)
