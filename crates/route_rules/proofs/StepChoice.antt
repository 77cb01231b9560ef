-- Where the hop step decides: a router with it chooses among the routes told by their own egress, if there is one. Where there is none,
-- and at any other router, distance and number alone choose.
use Prim.Native.Nat.{ℕ, ◌<◌}
use mathlib.Core.Path.{◌≡◌, refl, ◌∙◌, sym, ap, ap₂}
use mathlib.Core.Bool.{Bool, true, false, ◌&&◌}
use lib.Dec.{eqb}
use borrow.Author.Tests.{eqb-true, eq-eqb}
use Rattle.base.proofs.Numbers.{both, both_left, both_right, not-both}
use Rattle.base.proofs.Best.{StrictOrder}
use Rattle.route_rules.specs.Instance.{Instance, Route, nothing, via}
use Rattle.route_rules.specs.Preference.{nearer, has_step, prefers, prefers_by}
use Rattle.route_rules.specs.Activation.{choice}
use Rattle.route_rules.proofs.Preference.{nearer-order, prefers-alike, prefers-without, prefers-passed, prefers_by-order}
use Rattle.route_rules.proofs.Routes.{IsChoice, ChoiceIs, choice-is, choice-unique}

-- `tells v e`, of a route's own egress alone
abbrev pub directly : (ℕ → ℕ → Bool) → ℕ → ℕ → Bool
directly tells v e = eqb v e && tells v e

module _ (tells : ℕ → ℕ → Bool) (e : ℕ) where
  pub directly-itself : tells e e ≡ true → directly tells e e ≡ true
  directly-itself h = both (eqb e e) (tells e e) (eq-eqb e e refl) h

  pub directly-own : (v : ℕ) → directly tells v e ≡ true → tells e e ≡ true
  directly-own v h =
      ap (λ u. tells u e) (sym (eqb-true v e (both_left (eqb v e) (tells v e) h))) ∙ both_right (eqb v e) (tells v e) h

-- what w chooses of what is told; n is the number of routers
module _ (I : Instance) (w : ℕ) (tells : ℕ → ℕ → Bool) (n : ℕ) where
  abbrev own : ℕ → Bool
  own e = tells e e

  abbrev chosen : Route
  chosen = choice (prefers_by I w own) tells n

  is-chosen : (x : Route) → ChoiceIs (prefers_by I w own) tells n x → chosen ≡ x
  is-chosen x h = choice-unique (prefers_by I w own) tells n order chosen x (choice-is (prefers_by I w own) tells n order) h
    where
      order : StrictOrder (prefers_by I w own)
      order = prefers_by-order I w own

  -- by distance and number, where these alone part any two
  by-distance : ((e f : ℕ) → e < n → f < n → prefers_by I w own f e ≡ nearer I w f e) → chosen ≡ choice (nearer I w) tells n
  by-distance same = is-chosen (choice (nearer I w) tells n) (go (choice (nearer I w) tells n) (choice-is (nearer I w) tells n (nearer-order I w)))
    where
      go : (x : Route) → ChoiceIs (nearer I w) tells n x → ChoiceIs (prefers_by I w own) tells n x
      go nothing h = h
      go (via e s) h =
          record {
            egress = h.egress;
            sender = h.sender;
            told = h.told;
            unbeaten = λ v f l m q. same e f h.egress m ∙ h.unbeaten v f l m q;
            itself = h.itself;
            lowest = h.lowest;
          }

  pub without-step : has_step I w ≡ false → chosen ≡ choice (nearer I w) tells n
  unfolding prefers_by
  without-step h = by-distance (λ e f l m. prefers-without I w h f (own f) e (own e))

  pub all-passed-on : ((e : ℕ) → e < n → own e ≡ false) → chosen ≡ choice (nearer I w) tells n
  unfolding prefers_by
  all-passed-on h = by-distance (λ e f l m. ap₂ (λ d d'. prefers I w f d e d') (h f m) (h e l) ∙ prefers-alike I w f e false)

  -- .. among those told by their own egress, where there is one
  module _ (step : has_step I w ≡ true) where
    unbeaten-direct : (e f : ℕ) → own e ≡ true → (own f ≡ true → nearer I w f e ≡ false) → prefers_by I w own f e ≡ false
    unfolding prefers_by
    unbeaten-direct e f p q = go (own f) refl
      where
        go : (d : Bool) → own f ≡ d → prefers I w f (own f) e (own e) ≡ false
        go true r = ap₂ (λ d d'. prefers I w f d e d') r p ∙ prefers-alike I w f e true ∙ q r
        go false r = ap₂ (λ d d'. prefers I w f d e d') r p ∙ prefers-passed I w step f e

    direct_chosen : (e s : ℕ) → IsChoice (nearer I w) (directly tells) n e s → IsChoice (prefers_by I w own) tells n e s
    direct_chosen e s h =
        let p : own e ≡ true = directly-own tells e s h.told in
        record {
          egress = h.egress;
          sender = h.sender;
          told = both_right (eqb s e) (tells s e) h.told;
          unbeaten = λ v f l m q. unbeaten-direct e f p (λ r. h.unbeaten f f m m (directly-itself tells f r));
          itself = λ q. h.itself (directly-itself tells e q);
          lowest = λ q. not-both (own e) p q;
        }

    pub direct-first : (e : ℕ) → e < n → own e ≡ true → chosen ≡ choice (nearer I w) (directly tells) n
    direct-first e l p =
        is-chosen (choice (nearer I w) (directly tells) n)
        (go (choice (nearer I w) (directly tells) n) (choice-is (nearer I w) (directly tells) n (nearer-order I w)))
      where
        go : (x : Route) → ChoiceIs (nearer I w) (directly tells) n x → ChoiceIs (prefers_by I w own) tells n x
        go nothing h = not-both (directly tells e e) (directly-itself tells e p) (h e e l l)
        go (via f s) h = direct_chosen f s h
