-- The settled table: no act changes it.
use Prim.Native.Nat.{ℕ, zero, suc, ◌+◌, ◌<◌, ◌≤◌}
use native.Mathlib.Omega.{arith}
use mathlib.Core.Path.{◌≡◌, refl, ◌∙◌, sym, ap}
use mathlib.Core.Bool.{true}
use mathlib.Core.List.{List, [], ◌∷◌}
use mathlib.Core.Logic.{◌⊎◌, inl, inr}
use lib.ListN.{length, set, length-replicate}
use lib.Seq.{set-get_or}
use Rattle.base.proofs.Below.{all-intro}
use Rattle.base.proofs.Numbers.{lt-or-le}
use Rattle.base.proofs.Tab.{length-tab, get_or-tab}
use Rattle.route_rules.specs.Instance.{Instance, Route, nothing}
use Rattle.route_rules.specs.Reliance.{relies}
use Rattle.route_rules.specs.Activation.{choose, held, entry_ok, table_ok, activate, run_acts}
use Rattle.route_rules.proofs.Routes.{choose-ok, activate-own, activate-none}
use Rattle.route_theorems.specs.Settled.{choose_all, chosen_after, settled_table}
use Rattle.route_theorems.specs.Claims.{Ranked, IsTable, Steady}
use Rattle.route_theorems.proofs.Clean.{CleanEntry, choose-clean}
use Rattle.route_theorems.proofs.Determinacy.{CleanAround, determined}

module _ (I : Instance) where
  -- a table is steady exactly if every router holds what it would choose
  pub steady-holds : (t : List Route) → IsTable I t → Steady I t → (w : ℕ) → w < I.n → choose I w (held t) ≡ held t w
  steady-holds t e s w l = sym (activate-own I w t (omega arith)) ∙ ap (λ u. held u w) (s w l)

  pub holds-steady : (t : List Route) → ((w : ℕ) → w < I.n → choose I w (held t) ≡ held t w) → Steady I t
  unfolding activate
  holds-steady t h w l = ap (set t w) (h w l) ∙ set-get_or t w nothing

  -- what is steady stays, whatever acts follow
  pub steady-stays : (t : List Route) → IsTable I t → Steady I t → (acts : List ℕ) → run_acts I t acts ≡ t
  unfolding run_acts
  steady-stays t e s [] = refl
  steady-stays t e s (a ∷ acts) = ap (λ u. run_acts I u acts) (go (lt-or-le a I.n)) ∙ steady-stays t e s acts
    where
      go : (a < I.n) ⊎ (I.n ≤ a) → activate I a t ≡ t
      go (inl l) = s a l
      go (inr l) = activate-none I a t (omega arith)

  -- what each router holds the next time is what it chooses now
  chosen_at : (k w : ℕ) → w < I.n → held (chosen_after I (suc k)) w ≡ choose I w (held (chosen_after I k))
  unfolding chosen_after choose_all
  chosen_at k w l = get_or-tab _ I.n nothing w l

  chosen-length : (k : ℕ) → length (chosen_after I k) ≡ I.n
  unfolding chosen_after choose_all
  chosen-length zero = length-replicate I.n nothing
  chosen-length (suc k) = length-tab _ I.n

  chosen-clean : (k v : ℕ) → 1 ≤ k → v < I.n → CleanEntry I v (held (chosen_after I k) v)
  chosen-clean zero v p l = absurd (omega arith)
  chosen-clean (suc k) v p l = λ e s q. choose-clean I v (held (chosen_after I k)) e s (sym (chosen_at k v l) ∙ q)

module _ (I : Instance) (rank : ℕ → ℕ) (R : ℕ) (r : Ranked I rank R) where
  -- a router of rank k holds the same from the (k + 2)-th time on
  chosen-agree : (k w : ℕ) → w < I.n → rank w + 2 ≤ k → held (chosen_after I k) w ≡ held (chosen_after I (suc k)) w
  chosen-agree zero w l h = absurd (omega arith)
  chosen-agree (suc k) w l h =
      chosen_at I k w l
      ∙ determined I w (held (chosen_after I k)) (held (chosen_after I (suc k)))
      (λ v m _. chosen-clean I k v (omega arith) m)
      (λ v m _. chosen-clean I (suc k) v (omega arith) m)
      (λ v m _ p. chosen-agree k v m (omega (arith, r.falls w v l m p)))
      ∙ sym (chosen_at I (suc k) w l)

  pub settled-length : IsTable I (settled_table I R)
  unfolding settled_table
  settled-length = chosen-length I (R + 2)

  settled-clean : (v : ℕ) → v < I.n → CleanEntry I v (held (settled_table I R) v)
  unfolding settled_table
  settled-clean v l = chosen-clean I (R + 2) v (omega arith) l

  settled-holds : (w : ℕ) → w < I.n → choose I w (held (settled_table I R)) ≡ held (settled_table I R) w
  unfolding settled_table
  settled-holds w l = sym (chosen_at I (R + 2) w l) ∙ sym (chosen-agree (R + 2) w l (omega (arith, r.highest w l)))

  -- who sees clean entries at its neighbours, and the settled ones at those that it relies on, chooses its settled entry
  pub neighbours-settle : (w : ℕ) (view : ℕ → Route) → w < I.n → CleanAround I w view
      → ((v : ℕ) → v < I.n → I.neighbour w v ≡ true → relies I w v ≡ true → view v ≡ held (settled_table I R) v)
      → choose I w view ≡ held (settled_table I R) w
  neighbours-settle w view l clean agree =
      determined I w view (held (settled_table I R)) clean (λ v m _. settled-clean v m) agree ∙ settled-holds w l

  -- .. as who sees this of all routers
  pub chooses-settled : (w : ℕ) (view : ℕ → Route) → w < I.n → ((v : ℕ) → v < I.n → CleanEntry I v (view v))
      → ((v : ℕ) → v < I.n → relies I w v ≡ true → view v ≡ held (settled_table I R) v) → choose I w view ≡ held (settled_table I R) w
  chooses-settled w view l clean agree = neighbours-settle w view l (λ v m _. clean v m) (λ v m _. agree v m)

  pub settled-legal : table_ok I (settled_table I R) ≡ true
  unfolding table_ok
  settled-legal =
      all-intro (λ v. entry_ok I v (held (settled_table I R) v)) I.n
      (λ v l. ap (entry_ok I v) (sym (settled-holds v l)) ∙ choose-ok I v (held (settled_table I R)))

  pub settled-steady : Steady I (settled_table I R)
  settled-steady = holds-steady I (settled_table I R) settled-holds
