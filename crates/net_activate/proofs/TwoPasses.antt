-- The key that an activation goes by is that of its choice: the least of the routes told by their own egress, where the router has the hop
-- step and there is one, else the least of all.
use Prim.Native.Nat.{ℕ, ◌≤◌, ◌<◌}
use native.Mathlib.Omega.{arith}
use mathlib.Core.Path.{◌≡◌, refl, ◌∙◌, sym, ap}
use mathlib.Core.Bool.{Bool, true, false, not, cond, ◌&&◌, and-false}
use mathlib.Core.Option.{Option, none, some}
use mathlib.Core.Logic.{◌⊎◌, inl, inr}
use lib.Dec.{eqb}
use borrow.Author.Tests.{lt-ltb, le-ltb, eq-eqb, ne_eqb}
use Rattle.base.proofs.Numbers.{not-both, eq-or-ne, lt-or-le}
use Rattle.route_rules.specs.Instance.{Instance, Route, nothing, via, is_router}
use Rattle.route_rules.specs.Preference.{nearer, has_step, prefers_by}
use Rattle.route_rules.specs.Activation.{reflects, advertises, hears, heard_direct, choice, choose}
use Rattle.route_rules.proofs.Routes.{advertises-listed, advertises-client, advertises-reflector}
use Rattle.route_rules.proofs.StepChoice.{directly, directly-itself, directly-own, without-step, all-passed-on, direct-first}
use Rattle.net_tables.specs.TableBytes.{RouteBelow, read_route}
use Rattle.net_activate.specs.OnePass.{Numbers, no_key, least_key, own_route, own_routes, chosen_key, key_route}
use Rattle.net_activate.proofs.OnePass.{NumbersFrom, Least, Heard, least_at, low-heard, none-chosen, least-nearest}

-- what v tells, if that is its own route
abbrev own_told : ℕ → Option ℕ → Option ℕ
own_told v none = none
own_told v (some e) = cond (eqb e v) (some e) none

told-directly : (v e : ℕ) (o : Option ℕ) → is_router e (own_told v o) ≡ (eqb v e && is_router e o)
told-directly v e none = sym (and-false (eqb v e))
told-directly v e (some f) = go (eq-or-ne f v) (eq-or-ne v e)
  where
    go : (f ≡ v) ⊎ (f ≡ v → ⊥) → (v ≡ e) ⊎ (v ≡ e → ⊥) → is_router e (cond (eqb f v) (some f) none) ≡ (eqb v e && eqb f e)
    go (inl p) (inl q) = cc (eq-eqb f v p, eq-eqb v e q)
    go (inl p) (inr q) = cc (eq-eqb f v p, ne_eqb v e q, ne_eqb f e (λ r. q (sym p ∙ r)))
    go (inr p) (inl q) = cc (ne_eqb f v p, eq-eqb v e q, ne_eqb f e (λ r. p (r ∙ sym q)))
    go (inr p) (inr q) = cc (ne_eqb f v p, ne_eqb v e q)

module _ (I : Instance) (w v : ℕ) where
  own-reflected : (x : Route) → reflects I v (own_route v x) w ≡ own_told v (reflects I v x w)
  unfolding reflects own_route
  own-reflected nothing = refl
  own-reflected (via e s) = go (eqb e v) refl passed refl
    where
      passed : Bool
      passed = cond (I.reflector s) (not (I.reflector w)) (cond (I.skips v) (I.reflector w) (not (eqb s w)))

      go : (a : Bool) → eqb e v ≡ a → (b : Bool) → passed ≡ b → reflects I v (own_route v (via e s)) w ≡ own_told v (cond passed (some e) none)
      go true p true q = cc
      go true p false q = cc
      go false p true q = cc
      go false p false q = cc

  own-advertised : (x : Route) → advertises I v (own_route v x) w ≡ own_told v (advertises I v x w)
  own-advertised x = go (I.listed v) refl (I.reflector v) refl
    where
      go : (a : Bool) → I.listed v ≡ a → (b : Bool) → I.reflector v ≡ b → advertises I v (own_route v x) w ≡ own_told v (advertises I v x w)
      go true p b q = advertises-listed I v (own_route v x) w p ∙ sym (ap (own_told v) (advertises-listed I v x w p) ∙ cc (eq-eqb v v refl))
      go false p true q =
          advertises-reflector I v (own_route v x) w p q ∙ own-reflected x ∙ sym (ap (own_told v) (advertises-reflector I v x w p q))
      go false p false q = advertises-client I v (own_route v x) w p q ∙ sym (ap (own_told v) (advertises-client I v x w p q))

-- what w hears where every router holds its own route or nothing is what it hears from a route's own egress
pub own-heard : (I : Instance) (view : ℕ → Route) (w v e : ℕ) → hears I (own_routes view) w v e ≡ directly (hears I view w) v e
unfolding hears
own-heard I view w v e =
    ap (λ t. I.neighbour w v && t && I.way w e) (ap (is_router e) (own-advertised I w v (view v)) ∙ told-directly v e (advertises I v (view v) w))
    ∙ go (I.neighbour w v) (eqb v e)
  where
    t : Bool
    t = is_router e (advertises I v (view v) w)

    go : (a b : Bool) → (a && (b && t) && I.way w e) ≡ (b && (a && t && I.way w e))
    go true true = refl
    go true false = refl
    go false true = refl
    go false false = refl

-- an own route is of routers below n if what is held is
pub own_route-below : (n v : ℕ) (x : Route) → RouteBelow n x → RouteBelow n (own_route v x)
unfolding own_route
own_route-below n v nothing b = tt
own_route-below n v (via e s) b = go (eqb e v)
  where
    go : (a : Bool) → RouteBelow n (cond a (via e s) nothing)
    go true = b
    go false = tt

-- of a route in two bytes, the first says whether it is one to v
module _ (e s v : ℕ) where
  pub own_same : e ≡ v → own_route v (read_route e s) ≡ read_route e s
  unfolding own_route read_route
  own_same h = go (eqb e 255) refl (eqb s 255) refl
    where
      go : (a : Bool) → eqb e 255 ≡ a → (b : Bool) → eqb s 255 ≡ b → own_route v (read_route e s) ≡ read_route e s
      go true p true q = cc
      go true p false q = cc (eq-eqb e v h)
      go false p b q = cc (eq-eqb e v h)

  pub own-other : (e ≡ v → ⊥) → own_route v (read_route e s) ≡ nothing
  unfolding own_route read_route
  own-other h = go (eqb e 255) refl (eqb s 255) refl
    where
      go : (a : Bool) → eqb e 255 ≡ a → (b : Bool) → eqb s 255 ≡ b → own_route v (read_route e s) ≡ nothing
      go true p true q = cc
      go true p false q = cc (ne_eqb e v h)
      go false p b q = cc (ne_eqb e v h)

-- the key that is gone by, case by case
module _ (N : Numbers) (I : Instance) (w : ℕ) (view : ℕ → Route) where
  abbrev direct : ℕ
  direct = least_key N I w (own_routes view) I.n

  pub chosen-direct : has_step I w ≡ true → direct < no_key N → chosen_key N I w view ≡ direct
  unfolding chosen_key
  chosen-direct h l = cc (lt-ltb direct (no_key N) l)

  pub chosen-passed : has_step I w ≡ true → no_key N ≤ direct → chosen_key N I w view ≡ least_key N I w view I.n
  unfolding chosen_key
  chosen-passed h l = cc (le-ltb direct (no_key N) l)

  pub chosen-without : has_step I w ≡ false → chosen_key N I w view ≡ least_key N I w view I.n
  unfolding chosen_key
  chosen-without h = cc

  -- the numbers are w's, and every route names routers
  module _ (small : I.n ≤ 64) (numbers : NumbersFrom N I w)
      (below : (v : ℕ) → v < I.n → RouteBelow I.n (view v)) where
    own_below : (v : ℕ) → v < I.n → RouteBelow I.n (own_routes view v)
    own_below v l = own_route-below I.n v (view v) (below v l)

    nearest : key_route N (least_key N I w view I.n) ≡ choice (nearer I w) (hears I view w) I.n
    nearest = least-nearest N I w view small numbers below

    nearest-direct : key_route N direct ≡ choice (nearer I w) (directly (hears I view w)) I.n
    nearest-direct =
        least-nearest N I w (own_routes view) small numbers own_below
        ∙ ap (λ tells. choice (nearer I w) tells I.n) (λ i v e. own-heard I view w v e i)

    -- where a route is told by its own egress, and where none is
    some-direct : direct < no_key N → has_step I w ≡ true
        → choice (prefers_by I w (heard_direct I view w)) (hears I view w) I.n ≡ choice (nearer I w) (directly (hears I view w)) I.n
    some-direct l h =
        let f : Least N I w (own_routes view) I.n = least_at N I w (own_routes view) I.n l in
        let x : Heard N I w (own_routes view) small numbers own_below f.at =
        low-heard N I w (own_routes view) small numbers own_below f.at f.below (omega (arith, f.same)) in
        direct-first I w (hears I view w) I.n h x.egress x.router
        (directly-own (hears I view w) x.egress f.at (sym (own-heard I view w f.at x.egress) ∙ x.hears-it))

    none-direct : no_key N ≤ direct → (e : ℕ) → e < I.n → heard_direct I view w e ≡ false
    none-direct l e m = go (heard_direct I view w e) refl
      where
        go : (b : Bool) → heard_direct I view w e ≡ b → heard_direct I view w e ≡ false
        go false h = h
        go true h =
            not-both (hears I (own_routes view) w e e) (own-heard I view w e e ∙ directly-itself (hears I view w) e h)
            (none-chosen N I w (own_routes view) small numbers own_below l e e m m)

    pub chosen-choice : I.listed w ≡ false → key_route N (chosen_key N I w view) ≡ choose I w view
    unfolding choose
    chosen-choice unlisted = go (has_step I w) refl (lt-or-le direct (no_key N)) ∙ cc
      where
        go : (b : Bool) → has_step I w ≡ b → (direct < no_key N) ⊎ (no_key N ≤ direct)
            → key_route N (chosen_key N I w view) ≡ choice (prefers_by I w (heard_direct I view w)) (hears I view w) I.n
        go false h l = ap (key_route N) (chosen-without h) ∙ nearest ∙ sym (without-step I w (hears I view w) I.n h)
        go true h (inl l) = ap (key_route N) (chosen-direct h l) ∙ nearest-direct ∙ sym (some-direct l h)
        go true h (inr l) =
            ap (key_route N) (chosen-passed h l) ∙ nearest ∙ sym (all-passed-on I w (hears I view w) I.n (none-direct l))
