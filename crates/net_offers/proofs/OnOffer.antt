-- Rule 3 on an offer as the tests come one after the other.
use Prim.Native.Nat.{ℕ}
use mathlib.Core.Path.{◌≡◌, refl, ◌∙◌}
use mathlib.Core.Bool.{Bool, true, false, not, ◌&&◌}
use mathlib.Core.Option.{Option, none, some, get_or}
use lib.IntN.{pos, ◌-ℤ◌}
use Rattle.route_rules.specs.Instance.{Instance}
use Rattle.base.proofs.Numbers.{not-both}
use Rattle.route_rules.specs.Preference.{nearer, has_step, prefers, margin_of}
use Rattle.route_rules.proofs.Preference.{prefers-alike, prefers-without, prefers-passed}
use Rattle.route_explain_rules.specs.Explained.{against_own, by_offer}
use Rattle.route_explain_rules.specs.declared.explanation.Explanation.TheVariants.{Yes, No}
use Rattle.route_explain_rules.specs.declared.explanation.Rule.TheVariants.{AnyOffer, BetterOffer}
use Rattle.route_explain_rules.specs.declared.explanation.Reason.TheVariants.{NoOffer, NoWayToTheOffer, OfferNotBetter}

-- the offer is told by its own egress router if d says so
module _ (I : Instance) (w : ℕ) (d : Bool) where
  pub against-none : (e : ℕ) → against_own I w d e none ≡ Yes (AnyOffer e)
  unfolding against_own
  against-none e = refl

  pub against-preferred : (e c : ℕ) → prefers I w e d c true ≡ true
      → against_own I w d e (some c) ≡ Yes (BetterOffer e c (get_or (margin_of I w e c) (pos 0)))
  unfolding against_own
  against-preferred e c h = cc

  pub against-other : (e c : ℕ) → prefers I w e d c true ≡ false → against_own I w d e (some c) ≡ No OfferNotBetter
  unfolding against_own
  against-other e c h = cc

  -- what the hop step puts behind an own best client is not preferred to it; elsewhere the nearer is
  pub not-preferred : (e c : ℕ) → (has_step I w && not d) ≡ true → prefers I w e d c true ≡ false
  not-preferred e c h = go (has_step I w) refl d h
    where
      go : (s : Bool) → has_step I w ≡ s → (d : Bool) → (s && not d) ≡ true → prefers I w e d c true ≡ false
      go true p false h = prefers-passed I w p e c
      go true p true h = not-both false h refl
      go false p d h = not-both false h refl

  pub preferred-nearer : (e c : ℕ) → (has_step I w && not d) ≡ false → prefers I w e d c true ≡ nearer I w e c
  preferred-nearer e c h = go (has_step I w) refl d h
    where
      go : (s : Bool) → has_step I w ≡ s → (d : Bool) → (s && not d) ≡ false → prefers I w e d c true ≡ nearer I w e c
      go true p true h = prefers-alike I w e c true
      go true p false h = not-both true refl h
      go false p d h = prefers-without I w p e d c true

  -- .. and what is not nearer is not preferred in either case
  pub farther-not-preferred : (e c : ℕ) → nearer I w e c ≡ false → prefers I w e d c true ≡ false
  farther-not-preferred e c h = go (has_step I w && not d) refl
    where
      go : (b : Bool) → (has_step I w && not d) ≡ b → prefers I w e d c true ≡ false
      go true p = not-preferred e c p
      go false p = preferred-nearer e c p ∙ h

  pub offer-none : (own : Option ℕ) → by_offer I w d none own ≡ No NoOffer
  unfolding by_offer
  offer-none own = refl

  pub offer-no-way : (e : ℕ) (own : Option ℕ) → I.way w e ≡ false → by_offer I w d (some e) own ≡ No NoWayToTheOffer
  unfolding by_offer
  offer-no-way e own h = cc

  pub offer-way : (e : ℕ) (own : Option ℕ) → I.way w e ≡ true → by_offer I w d (some e) own ≡ against_own I w d e own
  unfolding by_offer
  offer-way e own h = cc

-- the margin that a better offer carries
pub margin-held : (I : Instance) (w e c : ℕ) → I.way w e ≡ true → I.way w c ≡ true
    → get_or (margin_of I w e c) (pos 0) ≡ pos (I.dist w e) -ℤ pos (I.dist w c)
unfolding margin_of
margin-held I w e c h k = cc
