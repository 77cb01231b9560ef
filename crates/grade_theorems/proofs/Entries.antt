-- What a router chose, whatever it saw: it tells every reflector what its bit says, and the bit is one that may be set.
use Prim.Native.Nat.{ℕ, ◌<◌}
use mathlib.Core.Path.{◌≡◌, refl, ◌∙◌, sym}
use mathlib.Core.Bool.{Bool, true, false, cond, ◌&&◌, ◌||◌, or-false}
use mathlib.Core.Option.{some}
use mathlib.Core.Logic.{⊎_elim}
use borrow.Author.Tests.{lt-ltb, eq-eqb}
use Rattle.base.proofs.Below.{any_at}
use Rattle.base.proofs.Numbers.{both_left, both_right, true-or-false, not-both}
use Rattle.route_rules.specs.Instance.{Instance, Route, nothing, via}
use Rattle.route_rules.specs.Preference.{prefers, prefers_by}
use Rattle.route_rules.specs.Activation.{advertises, hears, heard_direct, choose, entry_ok}
use Rattle.route_rules.specs.Reliance.{best_client, better_offer, relies}
use Rattle.route_rules.proofs.Reliance.{client-neighbour, offer-listed, relies-offer, better-no-way, better-both}
use Rattle.route_rules.proofs.Routes.{advertises-listed, advertises-client, advertises-reflector, reflects-nothing, hears-intro, IsChoice, choose-is}
use Rattle.route_theorems.proofs.Clean.{hears-client}
use Rattle.steady_rules.specs.OwnRoutes.{own_bit, overruled, keeps_own, told, OwnHeld}
use Rattle.steady_rules.specs.Steady.{bit_equations}
use Rattle.steady_rules.proofs.Told.{own-best, own_held, own-none, own-told, told-listed, told-set, told-unset, chosen-told}
use Rattle.steady_rules.proofs.Kept.{own_route}
use Rattle.grade_rules.specs.Moving.{may_set}

-- an entry that tells every reflector what its bit says, a bit that may be set
pub record SpeakingEntry (I : Instance) (w : ℕ) (x : Route) : Type 0 where
  pub tells : (bit : ℕ → Bool) → own_bit I w x ≡ bit w → (u : ℕ) → I.reflector u ≡ true → advertises I w x u ≡ told I bit w
  pub may : may_set (bit_equations I) w ≡ false → own_bit I w x ≡ false

module _ (I : Instance) (w : ℕ) (view : ℕ → Route) (h : OwnHeld I w (choose I w view)) where
  -- a listed reflector that w relies on is heard, and its route is preferred
  listed-wins : (v : ℕ) → v < I.n → relies I w v ≡ true → I.reflector v ≡ true → I.listed v ≡ true → ⊥
  unfolding prefers_by
  listed-wins v l relied role p = ⊎_elim heard lost (true-or-false (I.way w v))
    where
      c : ℕ
      c = h.client

      k : IsChoice (prefers_by I w (heard_direct I view w)) (hears I view w) I.n c c
      k = rw h.holds at (choose-is I w view h.unlisted)

      both : (I.neighbour w v && better_offer I w true (some v) (some c)) ≡ true
      both = cc (relies-offer I w v h.unlisted h.reflector role, offer-listed I v p, h.best)

      lost : I.way w v ≡ false → ⊥
      lost q = not-both _ (both_right (I.neighbour w v) _ both) (better-no-way I w true v (some c) q)

      heard : I.way w v ≡ true → ⊥
      heard q =
          let direct : hears I view w v v ≡ true
          = hears-intro I view w v v (both_left (I.neighbour w v) _ both) (advertises-listed I v (view v) w p) q in
          let own : hears I view w c c ≡ true = hears-client I view w c (own-best I w c h.best).among in
          let ahead : prefers I w v true c true ≡ true = sym (better-both I w true v c q) ∙ both_right (I.neighbour w v) _ both in
          not-both (prefers I w v true c true) ahead (rw (direct, own) at (k.unbeaten v v l l direct))

  own-overruled : keeps_own I (λ v. false) w ≡ false → overruled I (λ v. false) w ≡ true
  unfolding keeps_own
  own-overruled m = go (overruled I (λ v. false) w) refl
    where
      go : (b : Bool) → overruled I (λ v. false) w ≡ b → overruled I (λ v. false) w ≡ true
      go true p = p
      go false p = not-both (keeps_own I (λ v. false) w) (cc (h.unlisted, h.reflector, h.best)) m

  never-own : keeps_own I (λ v. false) w ≡ false → ⊥
  unfolding overruled
  never-own m =
      let v = any_at (λ v. relies I w v && I.reflector v && (I.listed v || false)) I.n (own-overruled m) in
      let front : (relies I w v.at && I.reflector v.at) ≡ true = both_left _ (I.listed v.at || false) v.holds in
      listed-wins v.at v.below (both_left (relies I w v.at) _ front) (both_right (relies I w v.at) _ front)
      (sym (or-false (I.listed v.at)) ∙ both_right (relies I w v.at && I.reflector v.at) _ v.holds)

module _ (I : Instance) (w : ℕ) where
  pub chosen-speaks : (view : ℕ → Route) → SpeakingEntry I w (choose I w view)
  chosen-speaks view =
      record {
        tells = λ bit e u r. chosen-told I view bit w u e r;
        may = λ m. own-none I w (choose I w view) (λ h. never-own I w view h m);
      }

  -- the entry of a router of which no more is known than its bit
  abbrev pub bare_entry : (ℕ → Bool) → Route
  bare_entry bit = cond (I.listed w) (via w w) (cond (bit w) (own_route (best_client I w)) nothing)

  -- .. where whose bit is set may hold its best client's own route
  module _ (bit : ℕ → Bool) (set_own : bit w ≡ true → OwnHeld I w (own_route (best_client I w))) where
    listed-unset : I.listed w ≡ true → bit w ≡ false
    listed-unset p =
        ⊎_elim (λ (b : bit w ≡ true). not-both (I.listed w) p (set_own b).unlisted) (λ b. b) (true-or-false (bit w))

    pub bare-bit : own_bit I w (bare_entry bit) ≡ bit w
    unfolding own_bit
    bare-bit = go (I.listed w) refl (bit w) refl
      where
        go : (a : Bool) → I.listed w ≡ a → (b : Bool) → bit w ≡ b → own_bit I w (bare_entry bit) ≡ bit w
        go true p b q = rw p (own-none I w (via w w) (λ h. not-both (I.listed w) p h.unlisted) ∙ sym (listed-unset p))
        go false p true q = rw (p, q) (own_held I w (own_route (best_client I w)) (set_own q))
        go false p false q = rw (p, q)

    pub bare-tells : (u : ℕ) → I.reflector u ≡ true → advertises I w (bare_entry bit) u ≡ told I bit w
    bare-tells u r = go (I.listed w) refl (bit w) refl (I.reflector w) refl
      where
        go : (a : Bool) → I.listed w ≡ a → (b : Bool) → bit w ≡ b → (c : Bool) → I.reflector w ≡ c
            → advertises I w (bare_entry bit) u ≡ told I bit w
        go true p b q c k = advertises-listed I w (bare_entry bit) u p ∙ sym (told-listed I bit w p)
        go false p true q c k =
            rw (p, q) (own-told I w (own_route (best_client I w)) u r (set_own q)) ∙ sym (told-set I bit w p q)
        go false p false q true k =
            rw (p, q) (advertises-reflector I w nothing u p k ∙ reflects-nothing I w u) ∙ sym (told-unset I bit w p q)
        go false p false q false k = advertises-client I w (bare_entry bit) u p k ∙ sym (told-unset I bit w p q)

    pub bare-ok : entry_ok I w (bare_entry bit) ≡ true
    unfolding entry_ok
    bare-ok = go (I.listed w) refl (bit w) refl
      where
        go : (a : Bool) → I.listed w ≡ a → (b : Bool) → bit w ≡ b → entry_ok I w (bare_entry bit) ≡ true
        go true p b q = rw p (cc (eq-eqb w w refl))
        go false p true q =
            let h = set_own q in
            let best = own-best I w h.client h.best in
            rw (p, q, h.holds) (cc (lt-ltb h.client I.n best.below, client-neighbour I w h.client best.among))
        go false p false q = rw (p, q) (cc)
