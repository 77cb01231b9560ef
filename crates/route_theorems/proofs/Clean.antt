-- What an activation leaves a reflector from a client is its best client's route, whatever the reflector saw.
use Prim.Native.Nat.{ℕ, ◌<◌}
use native.Mathlib.Omega.{arith}
use mathlib.Core.Path.{◌≡◌, refl, ◌∙◌, sym, ap}
use mathlib.Core.Bool.{Bool, true, false}
use mathlib.Core.Option.{Option, none, some}
use Rattle.base.proofs.Best.{IsBest, best-unique}
use Rattle.route_rules.specs.Instance.{Instance, Route, via}
use Rattle.route_rules.specs.Preference.{nearer, hops, prefers_by}
use Rattle.route_rules.specs.Reliance.{listed_client_of, best_client}
use Rattle.route_rules.specs.Activation.{advertises, hears, heard_direct, choose}
use Rattle.route_rules.proofs.Preference.{nearer-order, prefers-tie}
use Rattle.route_rules.proofs.Reliance.{best_client-is, client-neighbour, client-listed, client-way, client-intro}
use Rattle.route_rules.proofs.Routes.{advertises-listed, advertises-client, hears-neighbour, hears-told, hears-way, hears-intro, IsChoice, choose-is}

-- where v is an unlisted reflector that holds e from a client, e is its best client
abbrev pub CleanEntry : Instance → ℕ → Route → Type 0
CleanEntry I v x =
    (e s : ℕ) → x ≡ via e s → I.listed v ≡ false → I.reflector v ≡ true → I.reflector s ≡ false → best_client I v ≡ some e

module _ (I : Instance) where
  -- a listed client neighbour is heard where there is a way to it, whatever the view
  pub hears-client : (view : ℕ → Route) (w v : ℕ) → listed_client_of I w v ≡ true → hears I view w v v ≡ true
  hears-client view w v h =
      hears-intro I view w v v (client-neighbour I w v h) (advertises-listed I v (view v) w (client-listed I w v h)) (client-way I w v h)

  -- a client tells nothing but its own route
  own-route : (view : ℕ → Route) (w s e : ℕ) → I.reflector s ≡ false → advertises I s (view s) w ≡ some e → (I.listed s ≡ true) × (s ≡ e)
  own-route view w s e c h = go (I.listed s) refl
    where
      go : (b : Bool) → I.listed s ≡ b → (I.listed s ≡ true) × (s ≡ e)
      go true p = let q : ◌≡◌ {A = Option ℕ} (some s) (some e) = sym (advertises-listed I s (view s) w p) ∙ h in (p, cc)
      go false p =
          let q : ◌≡◌ {A = Option ℕ} none (some e) = sym (advertises-client I s (view s) w p c) ∙ h in
          let z : ◌≡◌ {A = ℕ} 0 1 = cc in
          absurd (omega arith)

  pub choose-clean : (v : ℕ) (view : ℕ → Route) → CleanEntry I v (choose I v view)
  unfolding prefers_by
  choose-clean v view e s q unlisted reflector client =
      best-unique (nearer I v) (nearer-order I v) (listed_client_of I v) I.n (best_client I v) (some e) (best_client-is I v) here
    where
      c : IsChoice (prefers_by I v (heard_direct I view v)) (hears I view v) I.n e s
      c = rw q at (choose-is I v view unlisted)

      own : (I.listed s ≡ true) × (s ≡ e)
      own = own-route view v s e client (hears-told I view v s e c.told)

      way : I.way v s ≡ true
      way = rw own.1 (hears-way I view v s e c.told)

      -- every client that tells its own route, e too, tells it itself
      unbeaten : (i : ℕ) → i < I.n → listed_client_of I v i ≡ true → nearer I v i e ≡ false
      unbeaten i l h =
          let direct : hears I view v e e ≡ true = ap (λ z. hears I view v z e) (sym own.1) ∙ c.told in
          sym (prefers-tie I v i (hears I view v i i) e (hears I view v e e) (ap (hops I v) (hears-client view v i h ∙ sym direct)))
          ∙ c.unbeaten i i l l (hears-client view v i h)

      here : IsBest (nearer I v) (listed_client_of I v) I.n e
      here =
          record {
            below = c.egress;
            among = rw (← own.1) (client-intro I v s (hears-neighbour I view v s e c.told) own.0 client way);
            unbeaten = unbeaten;
          }
