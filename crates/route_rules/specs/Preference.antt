-- Which route a router prefers (document 01, "Choosing and announcing"; there the word is "better"; document 02, "Reflectors with the hop
-- step"), how two routes compare where there may be no way (document 02, "Cut-off routers"), and by how much (document 02, "The margin
-- with its sign").
use Rattle.std.specs.Prelude.{ℕ, ◌≤◌, ◌<◌, ◌≡◌, Bool, true, false, not, cond, ◌&&◌, ◌||◌, ◌⊎◌, ◌↔◌, ltb, eqb, ℤ, pos, nat_abs, ◌+ℤ◌, ◌-ℤ◌, ◌<ℤ◌}
use Rattle.std.proofs.Math.Option.{Option, none, some}
use Rattle.route_rules.specs.Instance.{Instance}

-- "At router w, route e is better than f if w's distance to e is smaller, or equal and e's number lower."
unfoldable pub nearer : Instance → ℕ → ℕ → ℕ → Bool
nearer I w e f = ltb (I.dist w e) (I.dist w f) || (eqb (I.dist w e) (I.dist w f) && ltb e f)

-- "Source document 000 puts fewest i_bgp hops before IGP distance, on reflectors only. Roles 4 and 5 are roles 1 and 3 with that step":
-- whether w has it
unfoldable pub has_step : Instance → ℕ → Bool
has_step I w = I.reflector w && I.hop w

-- how many hops w counts: 0 for a route "told by its own egress router", 1 for "one passed on"; without the step always 0
unfoldable pub hops : Instance → ℕ → Bool → ℕ
hops I w direct = cond (has_step I w && not direct) 1 0

-- "a route told by its own egress router beats one passed on, and only then distance and number count"; "two routes of one egress are
-- still the same". d says that e itself told its route, and d' that f did.
-- Whatever compares two routes goes by this one comparison. The rules ask it of routes alone that w has a way to.
unfoldable pub prefers : Instance → ℕ → ℕ → Bool → ℕ → Bool → Bool
prefers I w e d f d' =
    not (eqb e f) && (ltb (hops I w d) (hops I w d') || (eqb (hops I w d) (hops I w d') && nearer I w e f))

-- The same in plain facts. The theorem `preferring` says that they hold.
pub record Preferring (I : Instance) (w e f : ℕ) : Type 0 where
  -- "two routes of one egress are still the same"
  pub same : (d d' : Bool) → e ≡ f → prefers I w e d f d' ≡ false
  -- of a router with the step: "a route told by its own egress router beats one passed on",
  pub direct : has_step I w ≡ true → (e ≡ f → ⊥) → prefers I w e true f false ≡ true
  pub passed_on : has_step I w ≡ true → prefers I w e false f true ≡ false
  -- "and only then distance and number count": of two told alike
  pub alike : (d : Bool) → prefers I w e d f d ≡ nearer I w e f
  -- a router without the step goes by distance and number alone,
  pub without : has_step I w ≡ false → (d d' : Bool) → prefers I w e d f d' ≡ nearer I w e f
  -- and so does every client: "on reflectors only"
  pub client : I.reflector w ≡ false → (d d' : Bool) → prefers I w e d f d' ≡ nearer I w e f

-- what w prefers where `direct e` says of each route that its egress e itself told it
unfoldable pub prefers_by : Instance → ℕ → (ℕ → Bool) → ℕ → ℕ → Bool
prefers_by I w direct e f = prefers I w e (direct e) f (direct f)

-- "In a comparison a way beats none, and of two without a way neither is better."
-- "The comparison is now told of each route whether its own egress told it. A way still beats none".
unfoldable pub better : Instance → ℕ → ℕ → Bool → ℕ → Bool → Bool
better I w e d f d' = I.way w e && (not (I.way w f) || prefers I w e d f d')

-- The same in plain facts. The theorem `comparing` says that they hold.
pub record Comparing (I : Instance) (w e : ℕ) (d : Bool) (f : ℕ) (d' : Bool) : Type 0 where
  pub both : I.way w e ≡ true → I.way w f ≡ true → better I w e d f d' ≡ prefers I w e d f d'
  -- "a way beats none", whoever told it
  pub one : I.way w e ≡ true → I.way w f ≡ false → better I w e d f d' ≡ true
  pub without : I.way w e ≡ false → better I w e d f d' ≡ false
  -- "neither if they are the same", whoever told each; "of two without a way neither is better"
  pub neither :
      ((better I w e d f d' ≡ false) × (better I w f d' e d ≡ false)) ↔ ((e ≡ f) ⊎ ((I.way w e ≡ false) × (I.way w f ≡ false)))

-- "The comparison of two routes at a router now gives the first distance minus the second". "A margin exists only if both have a way."
-- "the margin is worked out as before": who told a route plays no part.
unfoldable pub margin_of : Instance → ℕ → ℕ → ℕ → Option ℤ
margin_of I w e f = cond (I.way w e && I.way w f) (some (pos (I.dist w e) -ℤ pos (I.dist w f))) none

-- "Zero means that the numbers decide or the two are the same route", "and at such a reflector a zero may also mean that the step decided."
pub data ZeroMeans (I : Instance) (w e : ℕ) (d : Bool) (f : ℕ) (d' : Bool) : Type 0 where
  one_route : e ≡ f → ZeroMeans I w e d f d'
  numbers : hops I w d ≡ hops I w d' → better I w e d f d' ≡ ltb e f → better I w f d' e d ≡ ltb f e → ZeroMeans I w e d f d'
  step : has_step I w ≡ true → d ≡ not d' → better I w e d f d' ≡ d → better I w f d' e d ≡ d' → ZeroMeans I w e d f d'

-- The same in plain facts; m is the margin. The theorem `margins` says that they hold.
pub record Margins (I : Instance) (w e : ℕ) (d : Bool) (f : ℕ) (d' : Bool) : Type 0 where
  -- "the first distance minus the second": with the second it makes the first
  pub exact : (m : ℤ) → margin_of I w e f ≡ some m → m +ℤ pos (I.dist w f) ≡ pos (I.dist w e)
  -- "and which of the two is better", where the step does not decide: the first exactly if the margin is negative, or zero and the first
  -- has the lower number
  pub first :
      (m : ℤ) → margin_of I w e f ≡ some m → hops I w d ≡ hops I w d'
      → (better I w e d f d' ≡ true) ↔ ((m <ℤ pos 0) ⊎ ((m ≡ pos 0) × (e < f)))
  -- .. the second exactly if it is positive, or zero and the second has the lower number
  pub second :
      (m : ℤ) → margin_of I w e f ≡ some m → hops I w d ≡ hops I w d'
      → (better I w f d' e d ≡ true) ↔ ((pos 0 <ℤ m) ⊎ ((m ≡ pos 0) × (f < e)))
  -- where it does: the one that its egress told, whatever the margin is
  pub step_first : (m : ℤ) → margin_of I w e f ≡ some m → (e ≡ f → ⊥) → hops I w d < hops I w d' → better I w e d f d' ≡ true
  pub step_second : (m : ℤ) → margin_of I w e f ≡ some m → (e ≡ f → ⊥) → hops I w d' < hops I w d → better I w f d' e d ≡ true
  -- neither exactly if "the two are the same route"; then it is zero
  pub neither : (m : ℤ) → margin_of I w e f ≡ some m → ((better I w e d f d' ≡ false) × (better I w f d' e d ≡ false)) ↔ (e ≡ f)
  -- zero exactly if the distances are equal; what it then means
  pub zero :
      (margin_of I w e f ≡ some (pos 0)) ↔ ((I.way w e ≡ true) × (I.way w f ≡ true) × (I.dist w e ≡ I.dist w f))
  pub means : margin_of I w e f ≡ some (pos 0) → ZeroMeans I w e d f d'
  -- "A margin exists only if both have a way": there is none exactly if one has no way
  pub absent : (margin_of I w e f ≡ none) ↔ ((I.way w e ≡ false) ⊎ (I.way w f ≡ false))
  -- it is no larger, of either sign, than the larger distance
  pub range :
      (most : ℕ) → I.dist w e ≤ most → I.dist w f ≤ most → (m : ℤ) → margin_of I w e f ≡ some m → nat_abs m ≤ most
