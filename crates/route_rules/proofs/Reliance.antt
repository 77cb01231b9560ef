-- What the best client is; the rules of reliance, pair by pair; no router relies on itself.
use Prim.Native.Nat.{ℕ, ◌≤◌, ◌<◌}
use native.Mathlib.Omega.{arith}
use mathlib.Core.Path.{◌≡◌, refl, ◌∙◌, sym, ap, ap₂}
use mathlib.Core.Bool.{Bool, true, false, not, cond, ◌&&◌, ◌||◌, and-false, and-true, or-false}
use mathlib.Core.Option.{Option, none, some}
use borrow.Author.Tests.{ne_eqb, not-true}
use Rattle.base.proofs.Numbers.{both_left, both_right, not-both}
use Rattle.base.specs.Best.{best}
use Rattle.base.proofs.Best.{BestIs, best-is}
use Rattle.route_rules.specs.Instance.{Instance, is_router, RouterBelow}
use Rattle.route_rules.specs.Preference.{nearer, has_step, hops, prefers}
use Rattle.route_rules.specs.Reliance.{listed_client_of, best_client, offer, better_offer, relies, with_roles, with_skips}
use Rattle.route_rules.proofs.Preference.{nearer-order, prefers-same, prefers-alike}

module _ (I : Instance) where
  -- a listed client neighbour of v to which none is preferred at v; none exactly if v has no listed client neighbour
  pub best_client-is : (v : ℕ) → BestIs (nearer I v) (listed_client_of I v) I.n (best_client I v)
  unfolding best_client
  best_client-is v = best-is (nearer I v) (nearer-order I v) (listed_client_of I v) I.n

  -- a listed client neighbour, part by part
  pub client-no-reflector : (v e : ℕ) → listed_client_of I v e ≡ true → I.reflector e ≡ false
  unfolding listed_client_of
  client-no-reflector v e h =
      not-true (I.reflector e) (both_right (I.neighbour v e && I.listed e) (not (I.reflector e)) (both_left _ (I.way v e) h))

  pub client-neighbour : (v e : ℕ) → listed_client_of I v e ≡ true → I.neighbour v e ≡ true
  unfolding listed_client_of
  client-neighbour v e h =
      both_left (I.neighbour v e) (I.listed e) (both_left (I.neighbour v e && I.listed e) _ (both_left _ (I.way v e) h))

  pub client-listed : (v e : ℕ) → listed_client_of I v e ≡ true → I.listed e ≡ true
  unfolding listed_client_of
  client-listed v e h =
      both_right (I.neighbour v e) (I.listed e) (both_left (I.neighbour v e && I.listed e) _ (both_left _ (I.way v e) h))

  pub client-way : (v e : ℕ) → listed_client_of I v e ≡ true → I.way v e ≡ true
  unfolding listed_client_of
  client-way v e h = both_right (I.neighbour v e && I.listed e && not (I.reflector e)) (I.way v e) h

  pub client-intro : (v e : ℕ) → I.neighbour v e ≡ true → I.listed e ≡ true → I.reflector e ≡ false → I.way v e ≡ true
      → listed_client_of I v e ≡ true
  unfolding listed_client_of
  client-intro v e p q r m = cc

  -- a listed router offers itself, another its best client
  pub offer-listed : (v : ℕ) → I.listed v ≡ true → offer I v ≡ some v
  unfolding offer
  offer-listed v h = cc

  pub offer-unlisted : (v : ℕ) → I.listed v ≡ false → offer I v ≡ best_client I v
  unfolding offer
  offer-unlisted v h = cc

  -- who is no listed client of w is not its best client, and so no reflector is
  pub not-best-client : (w v : ℕ) → listed_client_of I w v ≡ false → is_router v (best_client I w) ≡ false
  not-best-client w v stranger = go (best_client I w) (best_client-is w)
    where
      go : (b : Option ℕ) → BestIs (nearer I w) (listed_client_of I w) I.n b → is_router v b ≡ false
      go none h = refl
      go (some c) h = ne_eqb c v (λ e. not-both (listed_client_of I w v) (ap (listed_client_of I w) (sym e) ∙ h.among) stranger)

  reflector-no-client : (w v : ℕ) → I.reflector v ≡ true → listed_client_of I w v ≡ false
  unfolding listed_client_of
  reflector-no-client w v r = cc (and-false (I.neighbour w v && I.listed v))

  -- rule 1
  pub relies-listed : (w v : ℕ) → I.listed w ≡ true → relies I w v ≡ false
  unfolding relies
  relies-listed w v a = cc

  -- rule 2
  pub relies-client : (w v : ℕ) → I.listed w ≡ false → I.reflector w ≡ false → relies I w v ≡ (I.neighbour w v && (I.reflector v || I.listed v))
  unfolding relies
  relies-client w v a b = cc

  -- rule 3, of a client and of a reflector
  pub relies-own : (w v : ℕ) → I.listed w ≡ false → I.reflector w ≡ true → I.reflector v ≡ false → relies I w v ≡ is_router v (best_client I w)
  unfolding relies
  relies-own w v a b c = cc (and-false (I.neighbour w v), or-false (is_router v (best_client I w)))

  pub relies-offer : (w v : ℕ) → I.listed w ≡ false → I.reflector w ≡ true → I.reflector v ≡ true
      → relies I w v ≡ (I.neighbour w v && better_offer I w (I.listed v) (offer I v) (best_client I w))
  unfolding relies
  relies-offer w v a b c = cc (not-best-client w v (reflector-no-client w v c), and-true (I.neighbour w v))

  own-no-better : (w : ℕ) (d : Bool) (b : Option ℕ) → better_offer I w d b b ≡ false
  unfolding better_offer
  own-no-better w d none = refl
  own-no-better w d (some c) = cc (prefers-same I w c d c true refl, and-false (I.way w c))

  -- no router relies on itself
  pub relies-other : (w : ℕ) → relies I w w ≡ false
  relies-other w = go (I.listed w) refl (I.reflector w) refl
    where
      go : (a : Bool) → I.listed w ≡ a → (b : Bool) → I.reflector w ≡ b → relies I w w ≡ false
      go true p b q = relies-listed w w p
      go false p true q = relies-offer w w p q q ∙ cc (offer-unlisted w p, own-no-better w (I.listed w) (best_client I w), and-false (I.neighbour w w))
      go false p false q = relies-client w w p q ∙ cc (and-false (I.neighbour w w))

  pub better-no-offer : (w : ℕ) (d : Bool) (b : Option ℕ) → better_offer I w d none b ≡ false
  unfolding better_offer
  better-no-offer w d b = refl

  pub better-no-way : (w : ℕ) (d : Bool) (e : ℕ) (b : Option ℕ) → I.way w e ≡ false → better_offer I w d (some e) b ≡ false
  unfolding better_offer
  better-no-way w d e none h = h
  better-no-way w d e (some c) h = cc

  pub better-any : (w : ℕ) (d : Bool) (e : ℕ) → I.way w e ≡ true → better_offer I w d (some e) none ≡ true
  unfolding better_offer
  better-any w d e h = h

  pub better-both : (w : ℕ) (d : Bool) (e c : ℕ) → I.way w e ≡ true → better_offer I w d (some e) (some c) ≡ prefers I w e d c true
  unfolding better_offer
  better-both w d e c h = cc

  -- the best client and the offer of a router are routers
  pub clients-below : (v k : ℕ) → k ≤ I.n → RouterBelow I.n (best (nearer I v) (listed_client_of I v) k)
  clients-below v k l = go (best (nearer I v) (listed_client_of I v) k) (best-is (nearer I v) (nearer-order I v) (listed_client_of I v) k)
    where
      go : (b : Option ℕ) → BestIs (nearer I v) (listed_client_of I v) k b → RouterBelow I.n b
      go none h = tt
      go (some c) h = omega (arith, h.below)

  pub best_client-below : (v : ℕ) → RouterBelow I.n (best_client I v)
  unfolding best_client
  best_client-below v = clients-below v I.n (omega arith)

  pub offer-below : (v : ℕ) → v < I.n → RouterBelow I.n (offer I v)
  offer-below v l = go (I.listed v) refl
    where
      go : (b : Bool) → I.listed v ≡ b → RouterBelow I.n (offer I v)
      go true p = rw (offer-listed v p) l
      go false p = rw (offer-unlisted v p) (best_client-below v)

  -- the rules as the tests come one after the other: of an unlisted reflector on a reflector
  module _ (w v : ℕ) (unlisted : I.listed w ≡ false) where
    module _ (role : I.reflector w ≡ true) (other : I.reflector v ≡ true) where
      pub offer-stranger : I.neighbour w v ≡ false → relies I w v ≡ false
      offer-stranger p = relies-offer w v unlisted role other ∙ cc

      pub offer-neighbour : I.neighbour w v ≡ true → relies I w v ≡ better_offer I w (I.listed v) (offer I v) (best_client I w)
      offer-neighbour p = relies-offer w v unlisted role other ∙ cc

    -- of an unlisted client
    module _ (role : I.reflector w ≡ false) where
      pub client-on-stranger : I.neighbour w v ≡ false → relies I w v ≡ false
      client-on-stranger p = relies-client w v unlisted role ∙ cc

      pub client-on-reflector : I.neighbour w v ≡ true → I.reflector v ≡ true → relies I w v ≡ true
      client-on-reflector p q = relies-client w v unlisted role ∙ cc

      pub client-on-client : I.neighbour w v ≡ true → I.reflector v ≡ false → relies I w v ≡ I.listed v
      client-on-client p q = relies-client w v unlisted role ∙ cc

-- no best client and no offer depends on who skips its clients or has the hop step
module _ (I : Instance) (skips hop : ℕ → Bool) where
  abbrev other : Instance
  other = with_roles I skips hop

  pub roles-best-client : (v : ℕ) → best_client other v ≡ best_client I v
  unfolding best_client listed_client_of nearer
  roles-best-client v = refl

  pub roles-offer : (v : ℕ) → offer other v ≡ offer I v
  unfolding offer
  roles-offer v = ap (cond (I.listed v) (some v)) (roles-best-client v)

  -- .. and a reliance only by whether an offer is better than the own best client
  pub roles-relies : (w v : ℕ)
      → better_offer other w (I.listed v) (offer I v) (best_client I w) ≡ better_offer I w (I.listed v) (offer I v) (best_client I w)
      → relies other w v ≡ relies I w v
  unfolding relies
  roles-relies w v same =
      ap₂
      (λ own b.
      cond (I.listed w) false
      (cond (I.reflector w) (is_router v own || (I.neighbour w v && I.reflector v && b)) (I.neighbour w v && (I.reflector v || I.listed v))))
      (roles-best-client w)
      (ap₂ (better_offer other w (I.listed v)) (roles-offer v) (roles-best-client w) ∙ same)

  -- .. which depends on no step but that of w,
  pub roles-own : (w : ℕ) → hop w ≡ I.hop w → (d : Bool) (o c : Option ℕ) → better_offer other w d o c ≡ better_offer I w d o c
  unfolding better_offer prefers hops has_step nearer
  roles-own w own d none c = refl
  roles-own w own d (some e) none = refl
  roles-own w own d (some e) (some c) = rw own

  -- on none where the offer is told by its own egress router,
  pub roles-direct : (w : ℕ) (o c : Option ℕ) → better_offer other w true o c ≡ better_offer I w true o c
  unfolding better_offer nearer
  roles-direct w none c = refl
  roles-direct w (some e) none = refl
  roles-direct w (some e) (some c) = ap (◌&&◌ (I.way w e)) (prefers-alike other w e c true ∙ sym (prefers-alike I w e c true))

  -- and on none where there is no own best client
  pub roles-any : (w : ℕ) (d : Bool) (o : Option ℕ) → better_offer other w d o none ≡ better_offer I w d o none
  unfolding better_offer
  roles-any w d none = refl
  roles-any w d (some e) = refl

-- no rule of reliance asks who skips its clients
module _ (I : Instance) (skips : ℕ → Bool) where
  pub skips-best-client : (v : ℕ) → best_client (with_skips I skips) v ≡ best_client I v
  skips-best-client v = roles-best-client I skips I.hop v

  pub skips-offer : (v : ℕ) → offer (with_skips I skips) v ≡ offer I v
  skips-offer v = roles-offer I skips I.hop v

  pub skips-relies : (w v : ℕ) → relies (with_skips I skips) w v ≡ relies I w v
  skips-relies w v = roles-relies I skips I.hop w v (roles-own I skips I.hop w refl (I.listed v) (offer I v) (best_client I w))
