-- What is left of the pairs: it shrinks, and as many times as there can be pairs are enough, so that every pair left leads to one left. It
-- is the greatest set of pairs that do.
use Prim.Native.Nat.{ℕ, zero, suc, ◌+◌, ◌*◌, ◌≤◌, ◌<◌}
use native.Mathlib.Omega.{arith}
use mathlib.Core.Path.{◌≡◌, refl, ◌∙◌, sym, ap}
use mathlib.Core.Bool.{Bool, true, false, not, ◌&&◌}
use mathlib.Core.Logic.{◌⊎◌, inl, inr}
use borrow.Author.Tests.{not-true}
use Rattle.base.specs.Below.{any_below}
use Rattle.base.proofs.Below.{Witness, any_at, any_found}
use Rattle.base.proofs.Numbers.{both, both_left, both_right, not-both, true-or-false}
use Rattle.route_rules.specs.Instance.{Instance}
use Rattle.everylist_rules.specs.Pairs.{is_pair, leads_to, in_table, leads_into, left_after, left}
use Rattle.everylist_rules.proofs.Pairs.{table_at, table_below, pairs_in, pairs-upto, pairs-less}

-- the pair that a pair leads to, among those of a test
pub record Onward (I : Instance) (p : ℕ → ℕ → Bool) (w c : ℕ) : Type 0 where
  pub router : ℕ
  pub client : ℕ
  pub below : router < I.n
  pub client_below : client < I.n
  pub holds : p router client ≡ true
  pub leads : leads_to I w c router client ≡ true

-- a set of pairs of routers, each of which leads to one of the set
pub record Sustaining (I : Instance) (P : ℕ → ℕ → Type 0) : Type 0 where
  pub pairs : (w c : ℕ) → P w c → (w < I.n) × (c < I.n) × (is_pair I w c ≡ true)
  pub onward : (w c : ℕ) → P w c → (v : ℕ) × (e : ℕ) × P v e × (leads_to I w c v e ≡ true)

module _ (I : Instance) where
  -- the pair stands in the table after k times
  abbrev is_left : ℕ → ℕ → ℕ → Bool
  is_left k w c = in_table (left_after I k) w c

  leads-onward : (k w c : ℕ) → leads_into I (left_after I k) w c ≡ true → Onward I (is_left k) w c
  leads-onward k w c h =
      let a : Witness (λ v. any_below (λ e. is_left k v e && leads_to I w c v e) I.n) I.n = any_at _ I.n h in
      let b : Witness (λ e. is_left k a.at e && leads_to I w c a.at e) I.n = any_at _ I.n a.holds in
      record {
        router = a.at;
        client = b.at;
        below = a.below;
        client_below = b.below;
        holds = both_left (is_left k a.at b.at) (leads_to I w c a.at b.at) b.holds;
        leads = both_right (is_left k a.at b.at) (leads_to I w c a.at b.at) b.holds;
      }

  onward-leads : (k w c : ℕ) → Onward I (is_left k) w c → leads_into I (left_after I k) w c ≡ true
  onward-leads k w c o =
      any_found (λ v. any_below (λ e. is_left k v e && leads_to I w c v e) I.n) I.n o.router o.below
      (any_found (λ e. is_left k o.router e && leads_to I w c o.router e) I.n o.client o.client_below
      (both _ _ o.holds o.leads))

  -- whoever stands in a table is below n
  left_below : (k w c : ℕ) → is_left k w c ≡ true → (w < I.n) × (c < I.n)
  unfolding left_after
  left_below zero w c h = table_below I.n (is_pair I) w c h
  left_below (suc k) w c h = table_below I.n (λ w c. is_left k w c && leads_into I (left_after I k) w c) w c h

  left-start : (w c : ℕ) → w < I.n → c < I.n → is_pair I w c ≡ true → is_left 0 w c ≡ true
  unfolding left_after
  left-start w c l m h = table_at I.n (is_pair I) w c l m ∙ h

  left-more-is : (k w c : ℕ) → w < I.n → c < I.n → is_left (suc k) w c ≡ (is_left k w c && leads_into I (left_after I k) w c)
  unfolding left_after
  left-more-is k w c l m = table_at I.n (λ w c. is_left k w c && leads_into I (left_after I k) w c) w c l m

  left-more : (k w c : ℕ) → is_left k w c ≡ true → Onward I (is_left k) w c → is_left (suc k) w c ≡ true
  left-more k w c h o =
      let b = left_below k w c h in
      left-more-is k w c b.0 b.1 ∙ both _ _ h (onward-leads k w c o)

  left-before : (k w c : ℕ) → is_left (suc k) w c ≡ true → (is_left k w c ≡ true) × Onward I (is_left k) w c
  left-before k w c h =
      let b = left_below (suc k) w c h in
      let g : (is_left k w c && leads_into I (left_after I k) w c) ≡ true = sym (left-more-is k w c b.0 b.1) ∙ h in
      (both_left (is_left k w c) _ g, leads-onward k w c (both_right (is_left k w c) _ g))

  left-pair : (k w c : ℕ) → is_left k w c ≡ true → is_pair I w c ≡ true
  unfolding left_after
  left-pair zero w c h =
      let b = left_below 0 w c h in
      sym (table_at I.n (is_pair I) w c b.0 b.1) ∙ h
  left-pair (suc k) w c h = left-pair k w c (left-before k w c h).0

  -- nothing is taken away after k times
  abbrev Still : ℕ → Type 0
  Still k = (w c : ℕ) → is_left k w c ≡ true → is_left (suc k) w c ≡ true

  onward-by : (k m w c : ℕ) → ((v e : ℕ) → is_left k v e ≡ true → is_left m v e ≡ true) → Onward I (is_left k) w c → Onward I (is_left m) w c
  onward-by k m w c h o =
      record {
        router = o.router;
        client = o.client;
        below = o.below;
        client_below = o.client_below;
        holds = h o.router o.client o.holds;
        leads = o.leads;
      }

  still-more : (k : ℕ) → Still k → Still (suc k)
  still-more k s w c h = left-more (suc k) w c h (onward-by k (suc k) w c s (left-before k w c h).1)

  -- after k times nothing more is taken away, or k or more have been
  pairs_left : ℕ → ℕ
  pairs_left k = pairs_in (is_left k) I.n I.n

  taken : (k : ℕ) → Bool
  taken k = any_below (λ w. any_below (λ c. is_left k w c && not (is_left (suc k) w c)) I.n) I.n

  taken-fewer : (k : ℕ) → taken k ≡ true → pairs_left (suc k) < pairs_left k
  unfolding taken pairs_left
  taken-fewer k h =
      let a : Witness (λ w. any_below (λ c. is_left k w c && not (is_left (suc k) w c)) I.n) I.n = any_at _ I.n h in
      let b : Witness (λ c. is_left k a.at c && not (is_left (suc k) a.at c)) I.n = any_at _ I.n a.holds in
      pairs-less (is_left (suc k)) (is_left k) I.n (λ w c g. (left-before k w c g).0) I.n a.at b.at a.below b.below
      (not-true _ (both_right (is_left k a.at b.at) (not (is_left (suc k) a.at b.at)) b.holds))
      (both_left (is_left k a.at b.at) _ b.holds)

  none-taken : (k : ℕ) → taken k ≡ false → Still k
  unfolding taken
  none-taken k h w c g = go (is_left (suc k) w c) refl
    where
      go : (b : Bool) → is_left (suc k) w c ≡ b → is_left (suc k) w c ≡ true
      go true e = e
      go false e =
          let l = left_below k w c g in
          not-both (taken k)
          (any_found (λ w. any_below (λ c. is_left k w c && not (is_left (suc k) w c)) I.n) I.n w l.0
          (any_found (λ c. is_left k w c && not (is_left (suc k) w c)) I.n c l.1 (both _ _ g (ap not e))))
          h

  shrinks : (k : ℕ) → Still k ⊎ (pairs_left k + k ≤ I.n * I.n)
  unfolding pairs_left
  shrinks zero = inr (omega (arith, pairs-upto (is_left 0) I.n I.n))
  shrinks (suc k) = go (shrinks k) (true-or-false (taken k))
    where
      go : Still k ⊎ (pairs_left k + k ≤ I.n * I.n) → (taken k ≡ true) ⊎ (taken k ≡ false) → Still (suc k) ⊎ (pairs_left (suc k) + suc k ≤ I.n * I.n)
      go (inl s) t = inl (still-more k s)
      go (inr l) (inl t) = inr (omega (arith, taken-fewer k t))
      go (inr l) (inr t) = inl (still-more k (none-taken k t))

  still-left : Still (I.n * I.n)
  unfolding pairs_left
  still-left w c h = go (shrinks (I.n * I.n))
    where
      go : Still (I.n * I.n) ⊎ (pairs_left (I.n * I.n) + I.n * I.n ≤ I.n * I.n) → is_left (suc (I.n * I.n)) w c ≡ true
      go (inl s) = s w c h
      go (inr l) =
          let b = left_below (I.n * I.n) w c h in
          absurd (omega (
            arith,
            pairs-less (λ w c. false) (is_left (I.n * I.n)) I.n (λ w c g. not-both false g refl) I.n w c b.0 b.1 refl h,
          ))

  -- the pair is left in the end
  abbrev pub at_end : ℕ → ℕ → Bool
  at_end w c = in_table (left I) w c

  end_is : (w c : ℕ) → at_end w c ≡ is_left (I.n * I.n) w c
  unfolding left
  end_is w c = refl

  pub end_below : (w c : ℕ) → at_end w c ≡ true → (w < I.n) × (c < I.n)
  end_below w c h = left_below (I.n * I.n) w c (sym (end_is w c) ∙ h)

  pub end-pair : (w c : ℕ) → at_end w c ≡ true → is_pair I w c ≡ true
  end-pair w c h = left-pair (I.n * I.n) w c (sym (end_is w c) ∙ h)

  -- what is left sustains itself
  pub sustained : (w c : ℕ) → at_end w c ≡ true → Onward I at_end w c
  unfolding left
  sustained w c h = (left-before (I.n * I.n) w c (still-left w c h)).1

  -- .. and whatever sustains itself is left
  kept : (P : ℕ → ℕ → Type 0) → Sustaining I P → (k w c : ℕ) → P w c → is_left k w c ≡ true
  kept P s zero w c h = let p = s.pairs w c h in left-start w c p.0 p.1 p.2
  kept P s (suc k) w c h =
      let (v, e, g, leads) = s.onward w c h in
      let p = s.pairs v e g in
      left-more k w c (kept P s k w c h) (record {
        router = v;
        client = e;
        below = p.0;
        client_below = p.1;
        holds = kept P s k v e g;
        leads = leads;
      })

  pub sustaining-left : (P : ℕ → ℕ → Type 0) → Sustaining I P → (w c : ℕ) → P w c → at_end w c ≡ true
  sustaining-left P s w c h = end_is w c ∙ kept P s (I.n * I.n) w c h
