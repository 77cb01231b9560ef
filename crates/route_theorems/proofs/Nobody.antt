-- Where no router is listed, none offers anything, and every table ends empty.
use Prim.Native.Nat.{ℕ, suc, ◌≤◌, ◌<◌}
use native.Mathlib.Omega.{arith}
use mathlib.Core.Path.{◌≡◌, refl, ◌∙◌, sym, ap}
use mathlib.Core.Bool.{Bool, true, false, cond, ◌&&◌, and-false, or-false}
use mathlib.Core.Option.{none}
use lib.ListN.{length-replicate, get_or-replicate}
use Rattle.base.specs.Below.{any_below}
use Rattle.base.specs.Seek.{flag, highest}
use Rattle.base.proofs.Below.{any-refuted, any-cong}
use Rattle.base.proofs.Best.{best-unique}
use Rattle.base.proofs.Numbers.{both_right, not-both}
use Rattle.base.proofs.Seek.{highest-over, highest-under, highest-cong, highest-flag}
use Rattle.route_rules.specs.Instance.{Instance, nothing}
use Rattle.route_rules.specs.Preference.{nearer, prefers_by}
use Rattle.route_rules.specs.Reliance.{listed_client_of, best_client, offer, better_offer, relies}
use Rattle.route_rules.specs.Activation.{advertises, hears, heard_direct, choose, held}
use Rattle.route_rules.proofs.Preference.{nearer-order, prefers_by-order}
use Rattle.route_rules.proofs.Reliance.{best_client-is, offer-unlisted, relies-client}
use Rattle.route_rules.proofs.Routes.{advertising, choice-unique, choose-is}
use Rattle.route_theorems.specs.Settled.{settled_table}
use Rattle.route_theorems.specs.Claims.{Ranked, Steady, OneSteadyTable, SettlesInTime}
use Rattle.route_theorems.specs.Nobody.{NoneListed, RankRule, has_parent, empty_table, EndsWithNothing, NobodyListed}
use Rattle.route_theorems.proofs.Existence.{holds-steady}
use Rattle.route_theorems.proofs.Settling.{settles}
use Rattle.route_theorems.proofs.Uniqueness.{one-steady-table}

-- ranks that obey the rule fall along every reliance
rule-ranked : (I : Instance) (rank : ℕ → ℕ) → RankRule I rank → Ranked I rank (highest rank I.n)
rule-ranked I rank r =
    record {
      falls = λ w v l m p.
          let g : cond (relies I w v) (suc (rank v)) 0 ≡ suc (rank v) = cc in
          omega (arith, r w l, highest-over (λ u. cond (relies I w u) (suc (rank u)) 0) I.n v m);
      highest = λ w l. highest-over rank I.n w l;
    }

module _ (I : Instance) (h : NoneListed I) where
  no-client : (v e : ℕ) → e < I.n → listed_client_of I v e ≡ false
  unfolding listed_client_of
  no-client v e l = cc (h e l, and-false (I.neighbour v e))

  no-best-client : (v : ℕ) → best_client I v ≡ none
  no-best-client v =
      best-unique (nearer I v) (nearer-order I v) (listed_client_of I v) I.n (best_client I v) none (best_client-is I v) (no-client v)

  no-offer : (v : ℕ) → v < I.n → offer I v ≡ none
  no-offer v l = offer-unlisted I v (h v l) ∙ no-best-client v

  module _ (w v : ℕ) (l : w < I.n) (m : v < I.n) where
    reflector-relies : I.reflector w ≡ true → relies I w v ≡ false
    unfolding relies better_offer
    reflector-relies r = cc (h w l, no-best-client w, no-offer v m, and-false (I.neighbour w v && I.reflector v))

    client-relies : I.reflector w ≡ false → relies I w v ≡ (I.neighbour w v && I.reflector v)
    client-relies r = relies-client I w v (h w l) r ∙ cc (h v m, or-false (I.reflector v))

    relied-reflects : relies I w v ≡ true → I.reflector v ≡ true
    relied-reflects p = go (I.reflector w) refl
      where
        go : (b : Bool) → I.reflector w ≡ b → I.reflector v ≡ true
        go true r = not-both (relies I w v) p (reflector-relies r)
        go false r = both_right (I.neighbour w v) (I.reflector v) (sym (client-relies r) ∙ p)

  -- who has a parent is who relies on some router
  pub parent-relied : (w : ℕ) → w < I.n → has_parent I w ≡ any_below (relies I w) I.n
  unfolding has_parent
  parent-relied w l = go (I.reflector w) refl
    where
      go : (b : Bool) → I.reflector w ≡ b → has_parent I w ≡ any_below (relies I w) I.n
      go true r = cc (any-refuted (relies I w) I.n (λ v m. reflector-relies w v l m r))
      go false r = cc (any-cong (relies I w) (λ v. I.neighbour w v && I.reflector v) I.n (λ v m. client-relies w v l m r))

  -- one more than the highest rank relied on, in any numbers that are 0 at reflectors
  above-is : (rk : ℕ → ℕ) → ((v : ℕ) → v < I.n → I.reflector v ≡ true → rk v ≡ 0) → (w : ℕ) → w < I.n
      → highest (λ v. cond (relies I w v) (suc (rk v)) 0) I.n ≡ flag (has_parent I w)
  above-is rk zeros w l =
      highest-cong _ (λ v. flag (relies I w v)) I.n (λ v m. go v m (relies I w v) refl)
      ∙ highest-flag (relies I w) I.n
      ∙ ap flag (sym (parent-relied w l))
    where
      go : (v : ℕ) → v < I.n → (b : Bool) → relies I w v ≡ b → cond b (suc (rk v)) 0 ≡ flag b
      go v m true p = ap suc (zeros v m (relied-reflects w v l m p))
      go v m false p = refl

  ranks-exist : RankRule I (λ w. flag (has_parent I w))
  unfolding has_parent
  ranks-exist w l = sym (above-is _ (λ v m r. cc) w l)

  -- an unlisted neighbour that holds nothing tells nothing
  hears-empty : (w v f : ℕ) → v < I.n → hears I (held (empty_table I)) w v f ≡ false
  unfolding hears
  hears-empty w v f m = cc (told (I.reflector v) refl, get_or-replicate I.n v nothing nothing m, and-false (I.neighbour w v))
    where
      told : (b : Bool) → I.reflector v ≡ b → advertises I v nothing w ≡ none
      told true r = (advertising I v).holds-nothing (h v m) r w
      told false r = (advertising I v).client (h v m) r nothing w

  choose-empty : (w : ℕ) → w < I.n → choose I w (held (empty_table I)) ≡ nothing
  choose-empty w l =
      choice-unique (prefers_by I w (heard_direct I (held (empty_table I)) w)) (hears I (held (empty_table I)) w) I.n
      (prefers_by-order I w (heard_direct I (held (empty_table I)) w)) (choose I w (held (empty_table I))) nothing
      (choose-is I w (held (empty_table I)) (h w l))
      (λ v f m k. hears-empty w v f m)

  empty-steady : Steady I (empty_table I)
  empty-steady = holds-steady I (empty_table I) (λ w l. choose-empty w l ∙ sym (get_or-replicate I.n w nothing nothing l))

  module _ (rank : ℕ → ℕ) (r : RankRule I rank) where
    reflector-rank : (w : ℕ) → w < I.n → I.reflector w ≡ true → rank w ≡ 0
    reflector-rank w l p =
        let g : highest (λ v. cond (relies I w v) (suc (rank v)) 0) I.n ≤ 0
        = highest-under _ I.n 0 (λ v m. rw (reflector-relies w v l m p) (omega arith)) in
        omega (arith, r w l)

    rank_is : (w : ℕ) → w < I.n → rank w ≡ flag (has_parent I w)
    rank_is w l = r w l ∙ above-is rank reflector-rank w l

    one : OneSteadyTable I (highest rank I.n)
    one = one-steady-table I rank (highest rank I.n) (rule-ranked I rank r)

    settled-empty : settled_table I (highest rank I.n) ≡ empty_table I
    settled-empty = sym (one.only (empty_table I) (length-replicate I.n nothing) empty-steady)

    in-time : SettlesInTime I (highest rank I.n)
    in-time = settles I rank (highest rank I.n) (rule-ranked I rank r)

    ends-with-nothing : EndsWithNothing I rank
    ends-with-nothing =
        record {
          reflector_rank = reflector-rank;
          parent_rank = λ w l p. rank_is w l ∙ ap flag p;
          other_rank = λ w l p. rank_is w l ∙ ap flag p;
          highest_rank = highest-cong rank _ I.n rank_is ∙ highest-flag (has_parent I) I.n;
          settled = settled-empty;
          flushed = λ t e acts enough. (in-time t e acts enough).reached ∙ settled-empty;
          stays_flushed = λ t e acts enough more. (in-time t e acts enough).kept more ∙ settled-empty;
        }

  pub nobody-listed : NobodyListed I
  nobody-listed =
      record {
        no_best_client = no-best-client;
        no_offer = no-offer;
        reflector_relies = reflector-relies;
        client_relies = client-relies;
        no_chain = λ w v u l m k p. reflector-relies v u m k (relied-reflects w v l m p);
        ranks_exist = ranks-exist;
        ranked = ends-with-nothing;
        steady = empty-steady;
        only = λ t e s. (one _ ranks-exist).only t e s ∙ settled-empty _ ranks-exist;
      }
