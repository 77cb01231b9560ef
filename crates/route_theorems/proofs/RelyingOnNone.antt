-- Who relies on no one holds its own route in the settled table if it is listed, and else nothing.
use Prim.Native.Nat.{ℕ, ◌<◌}
use native.Mathlib.Omega.{arith}
use mathlib.Core.Path.{◌≡◌, refl, ◌∙◌, sym, ap}
use mathlib.Core.Bool.{Bool, true, false, cond}
use mathlib.Core.Option.{Option, none, some}
use Rattle.base.proofs.Numbers.{not-both}
use Rattle.base.proofs.Best.{BestIs}
use Rattle.route_rules.specs.Instance.{Instance, Route, nothing, via, is_router}
use Rattle.route_rules.specs.Preference.{nearer, prefers_by}
use Rattle.route_rules.specs.Reliance.{listed_client_of, best_client, relies}
use Rattle.route_rules.specs.Activation.{reflects, advertises, hears, heard_direct, choose, held}
use Rattle.route_rules.proofs.Reliance.{best_client-is, client-no-reflector, client-intro, offer-listed, better-any}
use Rattle.route_rules.proofs.Reliance.{relies-own, offer-neighbour, client-on-reflector, client-on-client}
use Rattle.route_rules.proofs.Routes.{is_router-some, advertises-listed, advertises-client, advertises-reflector}
use Rattle.route_rules.proofs.Routes.{hears-neighbour, hears-told, hears-way, ChoiceIs, choose-listed, choose-is}
use Rattle.route_theorems.specs.Settled.{settled_table}
use Rattle.route_theorems.specs.Claims.{Ranked}
use Rattle.route_theorems.proofs.Existence.{chooses-settled}

-- where nobody holds a route, only listed routers tell one
told-listed : (I : Instance) (v w e : ℕ) → advertises I v nothing w ≡ some e → (I.listed v ≡ true) × (v ≡ e)
unfolding reflects
told-listed I v w e h = go (I.listed v) refl (I.reflector v) refl
  where
    silent : advertises I v nothing w ≡ none → (I.listed v ≡ true) × (v ≡ e)
    silent p = let q : ◌≡◌ {A = Option ℕ} none (some e) = sym p ∙ h in let z : ◌≡◌ {A = ℕ} 0 1 = cc in absurd (omega arith)

    go : (a : Bool) → I.listed v ≡ a → (b : Bool) → I.reflector v ≡ b → (I.listed v ≡ true) × (v ≡ e)
    go true p b r = let q : ◌≡◌ {A = Option ℕ} (some v) (some e) = sym (advertises-listed I v nothing w p) ∙ h in (p, cc)
    go false p true r = silent (advertises-reflector I v nothing w p r)
    go false p false r = silent (advertises-client I v nothing w p r)

module _ (I : Instance) (w : ℕ) (alone : (v : ℕ) → v < I.n → relies I w v ≡ false) where
  -- a listed neighbour that there is a way to is relied on, or at a reflector its best client is
  relied : I.listed w ≡ false → (s : ℕ) → s < I.n → I.neighbour w s ≡ true → I.listed s ≡ true → I.way w s ≡ true → ⊥
  relied unlisted s l near listed way = go (I.reflector w) refl
    where
      at-reflector : I.reflector w ≡ true → (b : Option ℕ) → best_client I w ≡ b → BestIs (nearer I w) (listed_client_of I w) I.n b
          → (p : Bool) → I.reflector s ≡ p → ⊥
      at-reflector r (some c) q b p h =
          not-both (relies I w c)
          (relies-own I w c unlisted r (client-no-reflector I w c b.among) ∙ ap (is_router c) q ∙ is_router-some c)
          (alone c b.below)
      at-reflector r none q b true h =
          not-both (relies I w s)
          (offer-neighbour I w s unlisted r h near ∙ cc (offer-listed I s listed, better-any I w (I.listed s) s way))
          (alone s l)
      at-reflector r none q b false h = not-both (listed_client_of I w s) (client-intro I w s near listed h way) (b s l)

      at-client : I.reflector w ≡ false → (p : Bool) → I.reflector s ≡ p → ⊥
      at-client r true h = not-both (relies I w s) (client-on-reflector I w s unlisted r near h) (alone s l)
      at-client r false h = not-both (relies I w s) (client-on-client I w s unlisted r near h ∙ listed) (alone s l)

      go : (b : Bool) → I.reflector w ≡ b → ⊥
      go true r = at-reflector r (best_client I w) refl (best_client-is I w) (I.reflector s) refl
      go false r = at-client r (I.reflector s) refl

  alone-chooses : choose I w (λ _. nothing) ≡ cond (I.listed w) (via w w) nothing
  alone-chooses = go (I.listed w) refl
    where
      view : ℕ → Route
      view = λ _. nothing

      unheard : I.listed w ≡ false → (x : Route) → ChoiceIs (prefers_by I w (heard_direct I view w)) (hears I view w) I.n x → x ≡ nothing
      unheard p nothing g = refl
      unheard p (via e s) g =
          let t = told-listed I s w e (hears-told I view w s e g.told) in
          absurd (relied p s g.sender (hears-neighbour I view w s e g.told) t.0 (rw t.1 (hears-way I view w s e g.told)))

      go : (b : Bool) → I.listed w ≡ b → choose I w view ≡ cond (I.listed w) (via w w) nothing
      go true p = choose-listed I w view p ∙ cc
      go false p = unheard p (choose I w view) (choose-is I w view p) ∙ cc

module _ (I : Instance) (rank : ℕ → ℕ) (R : ℕ) (r : Ranked I rank R) where
  pub rank-0-settled : (w : ℕ) → w < I.n → rank w ≡ 0 → held (settled_table I R) w ≡ cond (I.listed w) (via w w) nothing
  rank-0-settled w l zero =
      sym (chooses-settled I rank R r w (λ _. nothing) l (λ v m e s q. absurd (empty e s q)) (λ v m p. absurd (omega (arith, r.falls w v l m p))))
      ∙ alone-chooses I w (λ v m. go v m (relies I w v) refl)
    where
      empty : (e s : ℕ) → ◌≡◌ {A = Route} nothing (via e s) → ⊥
      empty e s q = let z : ◌≡◌ {A = ℕ} 0 1 = cc in omega arith

      go : (v : ℕ) → v < I.n → (b : Bool) → relies I w v ≡ b → relies I w v ≡ false
      go v m true p = absurd (omega (arith, r.falls w v l m p))
      go v m false p = p
