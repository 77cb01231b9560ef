-- The neighbours of w that may advertise a route to it: listed routers and reflectors.
use Prim.Native.Nat.{ℕ, suc, ◌<◌, min, max}
use native.Mathlib.Omega.{arith}
use mathlib.Core.Path.{◌≡◌, refl, ◌∙◌, sym, ap, ap₂}
use mathlib.Core.Bool.{Bool, true, false}
use mathlib.Core.List.{List}
use borrow.Author.Tests.{eqb-true, eq-eqb}
use lib.Bits.{bit_and, bit_or}
use lib.Dec.{eqb}
use lib.ListN.{get_or}
use Rattle.base.specs.Bits.{bit_n, bits}
use Rattle.base.specs.BitWalk.{from_bit, LowestBit, BitWalk}
use Rattle.base.proofs.BitWalk.{walk_start, walk-set, walk-within, walk-visit, walk_more, walk-done}
use Rattle.base.proofs.BitLaws.{bit-and, bit-or}
use Rattle.route_rules.specs.Instance.{Route}
use Rattle.route_rules.specs.Activation.{advertises}
use Rattle.route_rules.proofs.Routes.{advertises-client}
use Rattle.net_rules.specs.declared.Network.{Network}
use Rattle.net_rules.specs.Decoded.{decoded}
use Rattle.net_rules.specs.WellFormed.{WellFormed}
use Rattle.net_activate.specs.OnePass.{numbers_of, no_key, told_key, advertised_key, least_key}
use Rattle.net_activate.proofs.OnePass.{told-nothing, from-neighbour, from-stranger, least-none, least_more, least-none-le}

abbrev pub advertisers : Network → List ℕ → ℕ → ℕ
advertisers net rows w = bit_and (get_or rows w 0) (bit_or net.listed net.reflectors)

module _ (net : Network) (rows : List ℕ) (w v : ℕ) where
  advertisers-bit : bit_n (advertisers net rows w) v ≡ min (bits rows w v) (max (bit_n net.listed v) (bit_n net.reflectors v))
  advertisers-bit =
      bit-and (get_or rows w 0) (bit_or net.listed net.reflectors) v
      ∙ ap (min (bits rows w v)) (bit-or net.listed net.reflectors v)

  advertiser-near : bit_n (advertisers net rows w) v ≡ 1 → bits rows w v ≡ 1
  advertiser-near h = omega (arith, advertisers-bit)

  advertiser-kind : bit_n (advertisers net rows w) v ≡ 1 → max (bit_n net.listed v) (bit_n net.reflectors v) ≡ 1
  advertiser-kind h = omega (arith, advertisers-bit)

  silent : bit_n (advertisers net rows w) v ≡ 0 → (distances : List ℕ) (held : Route) → advertised_key (numbers_of net distances w) (decoded net rows distances) w v held ≡ no_key (numbers_of net distances w)
  silent h distances held = go (eqb (bits rows w v) 1) refl
    where
      go : (b : Bool) → eqb (bits rows w v) 1 ≡ b → advertised_key (numbers_of net distances w) (decoded net rows distances) w v held ≡ no_key (numbers_of net distances w)
      go true e =
          let near : bits rows w v ≡ 1 = eqb-true _ 1 e in
          let unlisted : bit_n net.listed v ≡ 0 = omega (arith, advertisers-bit) in
          let client : bit_n net.reflectors v ≡ 0 = omega (arith, advertisers-bit) in
          from-neighbour (numbers_of net distances w) (decoded net rows distances) w v held e
          ∙ ap (told_key (numbers_of net distances w) v)
          (advertises-client (decoded net rows distances) v held w (ap (λ b. eqb b 1) unlisted) (ap (λ b. eqb b 1) client))
          ∙ told-nothing (numbers_of net distances w) v
      go false e = from-stranger (numbers_of net distances w) (decoded net rows distances) w v held e

  -- the least key does not change at any other router
  least-silent : (distances : List ℕ) (view : ℕ → Route) → bit_n (advertisers net rows w) v ≡ 0
      → least_key (numbers_of net distances w) (decoded net rows distances) w view (suc v) ≡ least_key (numbers_of net distances w) (decoded net rows distances) w view v
  least-silent distances view h =
      let I = decoded net rows distances in
      let N = numbers_of net distances w in
      omega (arith, least_more N I w view v, least-none-le N I w view v, silent h distances (view v))

-- one pass over them, lowest first: x is the least key of those visited, and m holds the others
abbrev pub Hearing : Network → List ℕ → List ℕ → ℕ → (ℕ → Route) → ℕ → ℕ → Type 0
Hearing net rows distances w view x m = BitWalk (λ k. x ≡ least_key (numbers_of net distances w) (decoded net rows distances) w view k) (advertisers net rows w) net.n m

module _ (net : Network) (rows distances : List ℕ) (ok : WellFormed net rows distances) (w : ℕ) (view : ℕ → Route) where
  pub hearing-start : Hearing net rows distances w view (no_key (numbers_of net distances w)) (advertisers net rows w)
  hearing-start = walk_start _ _ _ (sym (least-none (numbers_of net distances w) (decoded net rows distances) w view))

  module _ (x : ℕ) (m : ℕ) (h : Hearing net rows distances w view x m) where
    abbrev Kept : ℕ → Type 0
    Kept k = x ≡ least_key (numbers_of net distances w) (decoded net rows distances) w view k

    pass : (u : ℕ) → u < net.n → bit_n (advertisers net rows w) u ≡ 0 → Kept u → Kept (suc u)
    pass u l unset k = k ∙ sym (least-silent net rows w u distances view unset)

    within : (u : ℕ) → bit_n (advertisers net rows w) u ≡ 1 → u < net.n
    within u set = ok.neighbours w u (advertiser-near net rows w u set)

    -- router v is the next
    module _ (v : ℕ) (low : LowestBit m v) where
      pub hearing-below : v < net.n
      hearing-below = walk-within Kept _ _ m v within h low

      pub hearing-kind : max (bit_n net.listed v) (bit_n net.reflectors v) ≡ 1
      hearing-kind = advertiser-kind net rows w v (walk-set Kept _ _ m v within h low)

      hearing-near : eqb (bits rows w v) 1 ≡ true
      hearing-near = eq-eqb _ 1 (advertiser-near net rows w v (walk-set Kept _ _ m v within h low))

      pub hearing-more : (y m' : ℕ) → m' ≡ from_bit m (suc v)
          → y ≡ min x (told_key (numbers_of net distances w) v (advertises (decoded net rows distances) v (view v) w))
          → Hearing net rows distances w view y m'
      hearing-more y m' e k =
          let I = decoded net rows distances in
          let N = numbers_of net distances w in
          walk_more Kept _ _ m v within h low _ m' e
          (k
          ∙ ap₂ min (walk-visit Kept _ _ pass m v within h low) (sym (from-neighbour N I w v (view v) hearing-near))
          ∙ sym (least_more N I w view v))

    pub hearing-done : m ≡ 0 → x ≡ least_key (numbers_of net distances w) (decoded net rows distances) w view net.n
    hearing-done e = walk-done Kept _ _ pass m h e
