-- The best client, an offer, a choice and a reliance go by the one comparison.
use Prim.Native.Nat.{ℕ, ◌<◌}
use mathlib.Core.Path.{◌≡◌, refl, ◌∙◌, sym, ap}
use mathlib.Core.Bool.{Bool, true, false, not}
use mathlib.Core.Option.{some}
use Rattle.base.proofs.Best.{IsBest}
use Rattle.route_rules.specs.Instance.{Instance, Route, via}
use Rattle.route_rules.specs.Preference.{nearer, prefers, prefers_by, better}
use Rattle.route_rules.specs.Activation.{hears, heard_direct, choose}
use Rattle.route_rules.specs.Reliance.{listed_client_of, best_client, better_offer}
use Rattle.route_rules.specs.OneComparison.{OneComparison}
use Rattle.route_rules.proofs.Preference.{prefers-one, prefers-alike, better-both-ways, better-without}
use Rattle.route_rules.proofs.Reliance.{best_client-is, client-way, better-no-way, better-both, offer-neighbour}
use Rattle.route_rules.proofs.Routes.{IsChoice, choose-is, hears-way}

module _ (I : Instance) (w : ℕ) where
  -- of two different routes with a way, one to which the other is not preferred is better
  unbeaten-better : (e : ℕ) (d : Bool) (f : ℕ) (d' : Bool) → I.way w e ≡ true → I.way w f ≡ true → prefers I w f d' e d ≡ false
      → (f ≡ e → ⊥) → better I w e d f d' ≡ true
  unbeaten-better e d f d' p q h apart =
      better-both-ways I w e d f d' p q ∙ prefers-one I w e d f d' (λ s. apart (sym s)) ∙ ap not h

  best-client : (c : ℕ) → best_client I w ≡ some c → IsBest (nearer I w) (listed_client_of I w) I.n c
  best-client c h = rw h at (best_client-is I w)

  best-client-better : (c : ℕ) → best_client I w ≡ some c →
      (e : ℕ) → e < I.n → listed_client_of I w e ≡ true → (e ≡ c → ⊥) → better I w c true e true ≡ true
  best-client-better c h e l m apart =
      let b = best-client c h in
      unbeaten-better c true e true (client-way I w c b.among) (client-way I w e m)
      (prefers-alike I w e c true ∙ b.unbeaten e l m) apart

  offer-better : (c : ℕ) → best_client I w ≡ some c → (o : ℕ) (d : Bool)
      → better_offer I w d (some o) (best_client I w) ≡ better I w o d c true
  offer-better c h o d = ap (better_offer I w d (some o)) h ∙ go (I.way w o) refl
    where
      go : (b : Bool) → I.way w o ≡ b → better_offer I w d (some o) (some c) ≡ better I w o d c true
      go true p =
          better-both I w d o c p ∙ sym (better-both-ways I w o d c true p (client-way I w c (best-client c h).among))
      go false p = better-no-way I w d o (some c) p ∙ sym (better-without I w o d c true p)

  chosen-better : I.listed w ≡ false → (view : ℕ → Route) (e s : ℕ) → choose I w view ≡ via e s
      → (v f : ℕ) → v < I.n → f < I.n → hears I view w v f ≡ true → (f ≡ e → ⊥)
      → better I w e (heard_direct I view w e) f (heard_direct I view w f) ≡ true
  unfolding prefers_by
  chosen-better unlisted view e s h v f l m told apart =
      let c : IsChoice (prefers_by I w (heard_direct I view w)) (hears I view w) I.n e s = rw h at (choose-is I w view unlisted) in
      unbeaten-better e (heard_direct I view w e) f (heard_direct I view w f)
      (hears-way I view w s e c.told) (hears-way I view w v f told) (c.unbeaten v f l m told) apart

  -- "Whatever else compares routes agrees with this answer."
  pub one-comparison : (e : ℕ) (d : Bool) (f : ℕ) (d' : Bool) → f < I.n → OneComparison I w e d f d' (better I w e d f d')
  one-comparison e d f d' l =
      record {
        client = λ p q h m apart. rw (p, q) (best-client-better e h f l m apart);
        offered = λ q h. rw q (offer-better f h e d);
        chosen = λ unlisted view p q s h v b told apart. rw (p, q) (chosen-better unlisted view e s h v f b l told apart);
        relied = λ unlisted role q h v near reflector offers p.
            offer-neighbour I w v unlisted role reflector near ∙ ap (λ x. better_offer I w (I.listed v) x (best_client I w)) offers
            ∙ offer-better f h e (I.listed v) ∙ cc;
      }
