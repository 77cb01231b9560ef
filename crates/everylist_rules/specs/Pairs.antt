-- Pairs of a reflector and a client, and which lead to which: a cycle of reliances, with whatever list, shows in them.
use Rattle.std.specs.Prelude.{ℕ, zero, suc, ◌+◌, ◌*◌, ◌<◌, ◌≡◌, Bool, true, false, not, ◌&&◌, List, [], get_or}
use Rattle.std.proofs.Math.Option.{Option, none, some}
use Rattle.base.specs.Below.{any_below}
use Rattle.base.specs.Best.{best}
use Rattle.base.specs.Seek.{flag, seek}
use Rattle.base.specs.Tab.{tab}
use Rattle.route_rules.specs.Instance.{Instance, is_router}
use Rattle.route_rules.specs.Preference.{nearer}

-- a reflector without the hop step, and a client that it neighbours and has a way to: it may be that reflector's best client
unfoldable pub is_pair : Instance → ℕ → ℕ → Bool
is_pair I w c = I.reflector w && not (I.hop w) && not (I.reflector c) && I.neighbour w c && I.way w c

-- where c is the best client of w and e that of v, w relies on v: they are neighbours, and w has a way to e, prefers it to c, and is not its
-- neighbour
unfoldable pub leads_to : Instance → (w c v e : ℕ) → Bool
leads_to I w c v e = I.neighbour w v && I.way w e && nearer I w e c && not (I.neighbour w e)

-- two pairs of routers, the first of which leads to the second
pub record PairStep (I : Instance) (w c v e : ℕ) : Type 0 where
  pub routers : (w < I.n) × (c < I.n) × (v < I.n) × (e < I.n)
  pub first : is_pair I w c ≡ true
  pub second : is_pair I v e ≡ true
  pub leads : leads_to I w c v e ≡ true

-- a chain of one or more such steps; one from a pair to itself is a cycle of pairs
pub data PairChain (I : Instance) : (w c v e : ℕ) → Type 0 where
  last : {w c v e : ℕ} → PairStep I w c v e → PairChain I w c v e
  more : {w c v e u f : ℕ} → PairStep I w c v e → PairChain I v e u f → PairChain I w c u f

abbrev pub NoPairCycle : Instance → Type 0
NoPairCycle I = (w c : ℕ) → PairChain I w c w c → ⊥

-- a table of pairs, and what stands in it
abbrev pub pair_table : ℕ → (ℕ → ℕ → Bool) → List (List Bool)
pair_table n p = tab (λ w. tab (p w) n) n

abbrev pub in_table : List (List Bool) → ℕ → ℕ → Bool
in_table rows w c = get_or (get_or rows w []) c false

-- (w, c) leads to a pair of the table
abbrev pub leads_into : Instance → List (List Bool) → ℕ → ℕ → Bool
leads_into I rows w c = any_below (λ v. any_below (λ e. in_table rows v e && leads_to I w c v e) I.n) I.n

-- the pairs that are left when those that lead to none left are taken away, k times
unfoldable pub left_after : Instance → ℕ → List (List Bool)
left_after I zero = pair_table I.n (is_pair I)
left_after I (suc k) = pair_table I.n (λ w c. in_table (left_after I k) w c && leads_into I (left_after I k) w c)

-- .. as many times as there can be pairs, which is enough
unfoldable pub left : Instance → List (List Bool)
left I = left_after I (I.n * I.n)

-- a pair of w is left
abbrev pub has_left : Instance → ℕ → Bool
has_left I w = any_below (in_table (left I) w) I.n

-- w hears e from a neighbouring reflector alone, with which it is left
unfoldable pub foreign : Instance → ℕ → ℕ → Bool
foreign I w e = any_below (λ v. I.neighbour w v && in_table (left I) v e) I.n && I.way w e && not (I.neighbour w e)

-- the nearest of these: every pair of w that is left leads to it
unfoldable pub nearest_foreign : Instance → ℕ → Option ℕ
nearest_foreign I w = best (nearer I w) (foreign I w) I.n

-- the lowest neighbouring reflector of w that is left with it; n if there is none
abbrev pub with_client : Instance → ℕ → Option ℕ → ℕ
with_client I w none = I.n
with_client I w (some e) = seek (λ v. flag (I.neighbour w v && in_table (left I) v e)) I.n

abbrev pub next_reflector : Instance → ℕ → ℕ
next_reflector I w = with_client I w (nearest_foreign I w)

-- the walk: from the lowest reflector with a pair left, to the next so many times
unfoldable pub walk : Instance → ℕ → ℕ
walk I zero = seek (λ w. flag (has_left I w)) I.n
walk I (suc k) = next_reflector I (walk I k)

-- the list that is found: after n steps the walk goes round, and in n more it names the nearest foreign clients of all whom it passes
unfoldable pub found : Instance → ℕ → Bool
found I e = any_below (λ k. is_router e (nearest_foreign I (walk I (I.n + k)))) I.n
