-- Pairs of a reflector and a client as rows of bits, and how those that lead to none left are taken away.
use Rattle.std.specs.Prelude.{ℕ, ◌+◌, ◌*◌, ◌≤◌, ◌<◌, ◌≡◌, Bool, true, false, not, ◌&&◌, List, ◌⊎◌, eqb, ltb, length}
use Rattle.base.specs.Below.{any_below}
use Rattle.base.specs.Bits.{bit_n, bits}
use Rattle.plan_rules.specs.Distances.{highest, number_at}
use Rattle.route_rules.specs.Instance.{Instance}
use Rattle.everylist_rules.specs.Pairs.{is_pair, leads_to, in_table, left}
use Rattle.everylist_rules.proofs.Pairs.{pairs_in}

-- every bit of the word is below n
abbrev pub WordBelow : ℕ → ℕ → Type 0
WordBelow word n = (e : ℕ) → bit_n word e ≡ 1 → e < n

-- The key of e at w, by distance and then by number; the numbers of a plan's bytes stand for the distances. A client without a way has the
-- key of none or a higher one.
abbrev pub key_at : (width : ℕ) (distances : List ℕ) (n w e : ℕ) → ℕ
key_at width distances n w e = number_at width distances (w * n + e) * 64 + e

abbrev pub no_key : ℕ → ℕ
no_key width = highest width * 64

-- r is the least of `none` and the keys of those below n of which p holds
pub record LeastKey (key : ℕ → ℕ) (p : ℕ → Bool) (none n r : ℕ) : Type 0 where
  pub most : r ≤ none
  pub least : (e : ℕ) → e < n → p e ≡ true → r ≤ key e
  pub is : (r ≡ none) ⊎ ((e : ℕ) × (e < n) × (p e ≡ true) × (r ≡ key e))

-- what rows of bits state: bit c of row w
abbrev pub pair_in : List ℕ → ℕ → ℕ → Bool
pair_in rows w c = eqb (bits rows w c) 1

-- rows of pairs of the network
pub record PairsIn (I : Instance) (rows : List ℕ) : Type 0 where
  pub size : length rows ≡ 64
  pub pairs : (w c : ℕ) → pair_in rows w c ≡ true → (w < I.n) × (c < I.n) × (is_pair I w c ≡ true)

-- .. of all of them
pub record AllPairs (I : Instance) (rows : List ℕ) : Type 0 where
  pub within : PairsIn I rows
  pub every : (w c : ℕ) → w < I.n → is_pair I w c ≡ true → pair_in rows w c ≡ true

-- among the pairs of which p holds, e is a client of a reflector that w neighbours, and w does not neighbour e
unfoldable pub foreign_among : Instance → (ℕ → ℕ → Bool) → ℕ → ℕ → Bool
foreign_among I p w e = any_below (λ v. I.neighbour w v && p v e) I.n && not (I.neighbour w e)

-- (w, c) leads to one of the pairs of which p holds
unfoldable pub leads_among : Instance → (ℕ → ℕ → Bool) → ℕ → ℕ → Bool
leads_among I p w c = any_below (λ v. any_below (λ e. p v e && leads_to I w c v e) I.n) I.n

-- the clients of w that lead to none of them, a bit each
abbrev pub LostFrom : Instance → (ℕ → ℕ → Bool) → ℕ → ℕ → Type 0
LostFrom I p w word = (c : ℕ) → eqb (bit_n word c) 1 ≡ (p w c && not (leads_among I p w c))

-- One pass in place over rows of pairs: nothing is added, and nothing is taken that is left in the end. Where none is taken each pair leads
-- to one of the rows; else there are fewer.
pub record OnePass (I : Instance) (before : List ℕ) (taken : ℕ) (after : List ℕ) : Type 0 where
  pub within : PairsIn I after
  pub keeps : ((w c : ℕ) → in_table (left I) w c ≡ true → pair_in before w c ≡ true) → (w c : ℕ) → in_table (left I) w c ≡ true → pair_in after w c ≡ true
  pub still : taken ≡ 0 → (w c : ℕ) → pair_in after w c ≡ true → leads_among I (pair_in after) w c ≡ true
  pub fewer : 0 < taken → pairs_in (pair_in after) 64 64 < pairs_in (pair_in before) 64 64

-- the rows state the pairs that are left
pub record LeftRows (I : Instance) (rows : List ℕ) : Type 0 where
  pub size : length rows ≡ 64
  pub is : (w c : ℕ) → pair_in rows w c ≡ in_table (left I) w c
