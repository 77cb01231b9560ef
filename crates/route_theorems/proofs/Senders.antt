-- Whichever neighbour is taken as sender: two routes to one egress, each told by a reflector, are advertised alike.
use Prim.Native.Nat.{ℕ, ◌≤◌, ◌<◌}
use native.Mathlib.Omega.{arith}
use mathlib.Core.Path.{◌≡◌, refl, ◌∙◌, sym, ap}
use mathlib.Core.Bool.{Bool, true, false, ◌&&◌}
use mathlib.Core.Option.{Option, none, some}
use mathlib.Core.List.{List, [], ◌∷◌}
use mathlib.Core.Logic.{◌⊎◌, inl, inr}
use lib.ListN.{length, set, length-set}
use lib.Seq.{get_or-set_same, get_or-set_other, set_out}
use Rattle.base.proofs.Numbers.{eq-or-ne, lt-or-le, not-both}
use Rattle.base.proofs.Best.{order_same}
use Rattle.route_rules.specs.Instance.{Instance, Route, nothing, via, is_router}
use Rattle.route_rules.specs.Preference.{prefers_by}
use Rattle.route_rules.specs.Activation.{reflects, advertises, hears, heard_direct, choose, held, activate, run_acts}
use Rattle.route_rules.proofs.Preference.{prefers_by-order, prefers_by-alike}
use Rattle.route_rules.proofs.Routes.{hears-told, advertises-listed, advertises-client, IsChoice, ChoiceIs, choose-listed, choose-is}
use Rattle.route_theorems.specs.Claims.{Ranked}
use Rattle.route_theorems.specs.Senders.{BestHeard, MayLeave, own, silence, heard, MayReach, done, next, egress_of, AnySender, SettlesByAnySender}
use Rattle.route_theorems.proofs.Settling.{settles}

module _ (I : Instance) where
  -- the same route, or one egress from two reflectors
  data Alike : Route → Route → Type 0 where
    same : {x : Route} → Alike x x
    reflected : {e s r : ℕ} → I.reflector s ≡ true → I.reflector r ≡ true → Alike (via e s) (via e r)

  same-as : {x y z : Route} → y ≡ z → Alike x y → Alike x z
  same-as e h = rw e at h

  alike-egress : {x y : Route} → Alike x y → egress_of x ≡ egress_of y
  alike-egress same = refl
  alike-egress (reflected p q) = refl

  advertises-alike : (v w : ℕ) {x y : Route} → Alike x y → advertises I v x w ≡ advertises I v y w
  unfolding advertises reflects
  advertises-alike v w same = refl
  advertises-alike v w (reflected p q) = cc

  -- a neighbour that tells another's route is a reflector
  teller-reflects : (view : ℕ → Route) (w v e : ℕ) → (v ≡ e → ⊥) → hears I view w v e ≡ true → I.reflector v ≡ true
  teller-reflects view w v e d h = go (I.listed v) refl (I.reflector v) refl
    where
      told : advertises I v (view v) w ≡ some e
      told = hears-told I view w v e h

      go : (l : Bool) → I.listed v ≡ l → (r : Bool) → I.reflector v ≡ r → I.reflector v ≡ true
      go true p r q = let z : ◌≡◌ {A = Option ℕ} (some v) (some e) = sym (advertises-listed I v (view v) w p) ∙ told in absurd (d cc)
      go false p true q = q
      go false p false q = let z : ◌≡◌ {A = Option ℕ} none (some e) = sym (advertises-client I v (view v) w p q) ∙ told in
          let y : ◌≡◌ {A = ℕ} 0 1 = cc in absurd (omega arith)

  -- two views whose entries are alike
  module _ (f g : ℕ → Route) (alike : (v : ℕ) → Alike (f v) (g v)) (w : ℕ) where
    hears-alike : (v e : ℕ) → hears I f w v e ≡ hears I g w v e
    unfolding hears
    hears-alike v e = ap (λ o. I.neighbour w v && is_router e o && I.way w e) (advertises-alike v w (alike v))

    chosen-alike : (e s r : ℕ) → BestHeard I f w e s → IsChoice (prefers_by I w (heard_direct I g w)) (hears I g w) I.n e r → Alike (via e s) (via e r)
    chosen-alike e s r b c = go (hears I f w e e) refl
      where
        go : (b : Bool) → hears I f w e e ≡ b → Alike (via e s) (via e r)
        go true p = same-as (ap (via e) (b.itself p ∙ sym (c.itself (sym (hears-alike e e) ∙ p)))) same
        go false p =
            reflected
            (teller-reflects f w s e (λ q. not-both (hears I f w e e) (rw q at b.told) p) b.told)
            (teller-reflects g w r e (λ q. not-both (hears I f w e e) (hears-alike e e ∙ rw q at c.told) p) c.told)

    -- what w may be left by one is alike to what it chooses by the other
    left-alike : (x : Route) → MayLeave I f w x → Alike x (choose I w g)
    left-alike x (own l) = same-as (sym (choose-listed I w g l)) same
    left-alike x (silence l h) = go (choose I w g) refl (choose-is I w g l)
      where
        go : (y : Route) → choose I w g ≡ y → ChoiceIs (prefers_by I w (heard_direct I g w)) (hears I g w) I.n y → Alike nothing (choose I w g)
        go nothing e c = same-as (sym e) same
        go (via e s) _ c = not-both (hears I f w s e) (hears-alike s e ∙ c.told) (h s e c.sender c.egress)
    left-alike x (heard l {e} {s} b) = go (choose I w g) refl (choose-is I w g l)
      where
        go : (y : Route) → choose I w g ≡ y → ChoiceIs (prefers_by I w (heard_direct I g w)) (hears I g w) I.n y → Alike (via e s) (choose I w g)
        go nothing _ c = not-both (hears I f w s e) b.told (hears-alike s e ∙ c s e b.sender b.egress)
        go (via k r) q c =
            let p : e ≡ k
            = order_same (prefers_by I w (heard_direct I g w)) (prefers_by-order I w (heard_direct I g w)) e k
            (c.unbeaten s e b.sender b.egress (sym (hears-alike s e) ∙ b.told))
            (prefers_by-alike I w (heard_direct I g w) (heard_direct I f w) k e (sym (hears-alike k k)) (sym (hears-alike e e))
            ∙ b.unbeaten r k c.sender c.egress (hears-alike r k ∙ c.told)) in
            same-as (ap (λ z. via z r) p ∙ sym q) (chosen-alike e s r b (rw (sym p) at c))

  -- two tables whose entries are alike
  AlikeTables : List Route → List Route → Type 0
  AlikeTables t u = (length t ≡ length u) × ((v : ℕ) → Alike (held t v) (held u v))

  set-alike : (t u : List Route) (w : ℕ) (x y : Route) → AlikeTables t u → Alike x y → AlikeTables (set t w x) (set u w y)
  unfolding AlikeTables
  set-alike t u w x y (long, each) h = (length-set t w x ∙ long ∙ sym (length-set u w y), λ v. go v (eq-or-ne v w) (lt-or-le w (length t)))
    where
      go : (v : ℕ) → (v ≡ w) ⊎ (v ≡ w → ⊥) → (w < length t) ⊎ (length t ≤ w) → Alike (held (set t w x) v) (held (set u w y) v)
      go v (inr d) m = rw (get_or-set_other t w v x nothing d, get_or-set_other u w v y nothing d) (each v)
      go v (inl e) (inl m) = rw (e, get_or-set_same t w x nothing m, get_or-set_same u w y nothing (omega (arith, long))) h
      go v (inl e) (inr m) = rw (set_out t w x m, set_out u w y (omega (arith, long))) (each v)

  reach-alike : (t u g : List Route) (acts : List ℕ) → MayReach I t acts u → AlikeTables t g → AlikeTables u (run_acts I g acts)
  unfolding run_acts activate AlikeTables
  reach-alike t u g acts done h = h
  reach-alike t u g acts (next {x = x} {w = w} {acts = later} leaves reach) h =
      reach-alike (set t w x) u (activate I w g) later reach
      (set-alike t g w x (choose I w (held g)) h (left-alike (held t) (held g) h.1 w x leaves))

  -- the model's choice is one of those
  choose-may : (view : ℕ → Route) (w : ℕ) → MayLeave I view w (choose I w view)
  choose-may view w = go (I.listed w) refl
    where
      chosen : I.listed w ≡ false → (x : Route) → ChoiceIs (prefers_by I w (heard_direct I view w)) (hears I view w) I.n x → MayLeave I view w x
      chosen l nothing c = silence l c
      chosen l (via e s) c =
          heard l (record { egress = c.egress; sender = c.sender; told = c.told; unbeaten = c.unbeaten; itself = c.itself })

      go : (b : Bool) → I.listed w ≡ b → MayLeave I view w (choose I w view)
      go true l = rw (choose-listed I w view l) (own l)
      go false l = chosen l (choose I w view) (choose-is I w view l)

  run-may : (t : List Route) (acts : List ℕ) → MayReach I t acts (run_acts I t acts)
  unfolding run_acts activate
  run-may t [] = done
  run-may t (w ∷ acts) = next (choose-may (held t) w) (run-may (activate I w t) acts)

  pub any-sender : AnySender I
  unfolding AlikeTables
  any-sender =
      record {
        same = λ t u acts reach v. alike-egress ((reach-alike t u t acts reach (refl, λ v. same)).1 v);
        possible = run-may;
      }

pub settles-by-any-sender : (I : Instance) (rank : ℕ → ℕ) (R : ℕ) → Ranked I rank R → SettlesByAnySender I R
settles-by-any-sender I rank R r t u acts long enough reach v =
    (any-sender I).same t u acts reach v ∙ ap (λ s. egress_of (held s v)) (settles I rank R r t long acts enough).reached
