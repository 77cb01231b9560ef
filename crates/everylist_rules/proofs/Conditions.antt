-- The conditions on networks as tests, so that a network given by literal lists is seen to meet them.
use Prim.Native.Nat.{ℕ, ◌<◌}
use mathlib.Core.Path.{◌≡◌, refl, sym}
use mathlib.Core.Bool.{Bool, true, false, not, ◌&&◌, ◌||◌}
use borrow.Author.Tests.{eqb-true}
use lib.Dec.{eqb}
use Rattle.base.specs.Below.{all_below}
use Rattle.base.proofs.Below.{all-at}
use Rattle.base.proofs.Numbers.{both_left, both_right, not-both}
use Rattle.route_rules.specs.Instance.{Instance}
use Rattle.route_rules.specs.Preference.{nearer}
use Rattle.route_theorems.specs.HopStep.{EveryReflectorSteps}
use Rattle.everylist_rules.specs.Pairs.{is_pair}
use Rattle.everylist_rules.specs.EveryList.{sharing, SingleParents, OfOthers, Alike, Clusters, OwnClientsNearer}

-- a test that is to pass wherever another does
abbrev pub implies : Bool → Bool → Bool
implies a b = not a || b

implied : (a b : Bool) → implies a b ≡ true → a ≡ true → b ≡ true
implied true b h p = h
implied false b h p = not-both false p refl

-- two tests that give the same
abbrev pub agree : Bool → Bool → Bool
agree true b = b
agree false b = not b

agreed : (a b : Bool) → agree a b ≡ true → a ≡ b
agreed true b h = sym h
agreed false true h = h
agreed false false h = refl

-- of every two numbers below n
abbrev pub all_pairs : (ℕ → ℕ → Bool) → ℕ → Bool
all_pairs p n = all_below (λ w. all_below (p w) n) n

pairs-at : (p : ℕ → ℕ → Bool) (n : ℕ) → all_pairs p n ≡ true → (w v : ℕ) → w < n → v < n → p w v ≡ true
pairs-at p n h w v l m = all-at (p w) n (all-at (λ w. all_below (p w) n) n h w l) v m

module _ (I : Instance) where
  abbrev pub single_test : Bool
  single_test = all_pairs (λ w v. implies (sharing I w v) (eqb w v)) I.n

  pub single-by : single_test ≡ true → SingleParents I
  single-by h w v l m s =
      eqb-true w v (implied (sharing I w v) (eqb w v) (pairs-at (λ w v. implies (sharing I w v) (eqb w v)) I.n h w v l m) s)

  abbrev pub of_others : ℕ → ℕ → Bool
  of_others w e = not (I.reflector e) && not (I.neighbour w e)

  others-test : (w e : ℕ) → OfOthers I w e → of_others w e ≡ true
  others-test w e o = let p = o.1 in let q = o.2 in cc

  abbrev pub clients_test : ℕ → ℕ → ℕ → Bool
  clients_test w v e = agree (is_pair I w e) (is_pair I v e) && implies (of_others w e) (agree (I.way w e) (I.way v e))

  abbrev pub order_test : ℕ → ℕ → ℕ → ℕ → Bool
  order_test w v e f = implies (of_others w e && of_others w f) (agree (nearer I w e f) (nearer I v e f))

  abbrev pub sessions_test : ℕ → ℕ → ℕ → Bool
  sessions_test w v u = implies (I.reflector u && not (sharing I w u)) (agree (I.neighbour w u) (I.neighbour v u))

  abbrev pub alike_test : ℕ → ℕ → Bool
  alike_test w v =
      all_below (clients_test w v) I.n && all_pairs (order_test w v) I.n && all_below (sessions_test w v) I.n

  alike-by : (w v : ℕ) → alike_test w v ≡ true → Alike I w v
  alike-by w v h =
      record {
        clients = λ e l. agreed (is_pair I w e) (is_pair I v e) (both_left (agree (is_pair I w e) (is_pair I v e)) _ (client e l));
        ways = λ e o.
            agreed (I.way w e) (I.way v e)
            (implied (of_others w e) _ (both_right (agree (is_pair I w e) (is_pair I v e)) _ (client e o.0)) (others-test w e o));
        order = λ e f o p a b.
            let x = others-test w e o in
            let y = others-test w f p in
            agreed (nearer I w e f) (nearer I v e f)
            (implied (of_others w e && of_others w f) _ (pairs-at (order_test w v) I.n (both_right (all_below (clients_test w v) I.n) _ (both_left _ _ h)) e f o.0 p.0) (cc));
        sessions = λ u l r s.
            agreed (I.neighbour w u) (I.neighbour v u)
            (implied (I.reflector u && not (sharing I w u)) _ (all-at (sessions_test w v) I.n (both_right (all_below (clients_test w v) I.n && all_pairs (order_test w v) I.n) _ h) u l) (cc));
      }
    where
      client : (e : ℕ) → e < I.n → clients_test w v e ≡ true
      client e l = all-at (clients_test w v) I.n (both_left _ (all_pairs (order_test w v) I.n) (both_left _ (all_below (sessions_test w v) I.n) h)) e l

  abbrev pub clusters_test : Bool
  clusters_test = all_pairs (λ w v. implies (sharing I w v) (alike_test w v)) I.n

  pub clusters-by : clusters_test ≡ true → Clusters I
  clusters-by h w v l m s =
      alike-by w v (implied (sharing I w v) (alike_test w v) (pairs-at (λ w v. implies (sharing I w v) (alike_test w v)) I.n h w v l m) s)

  abbrev pub nearer_test : ℕ → ℕ → Bool
  nearer_test w c =
      implies (is_pair I w c)
      (all_pairs (λ v e. implies (is_pair I v e && I.neighbour w v && I.way w e && not (I.neighbour w e)) (nearer I w c e)) I.n)

  pub nearer-by : all_pairs nearer_test I.n ≡ true → OwnClientsNearer I
  nearer-by h w c v e l m o k p q a b d =
      implied (is_pair I v e && I.neighbour w v && I.way w e && not (I.neighbour w e)) (nearer I w c e)
      (pairs-at (λ v e. implies (is_pair I v e && I.neighbour w v && I.way w e && not (I.neighbour w e)) (nearer I w c e)) I.n
      (implied (is_pair I w c) _ (pairs-at nearer_test I.n h w c l m) p) v e o k) (cc)

  pub steps-by : all_below (λ w. implies (I.reflector w) (I.hop w)) I.n ≡ true → EveryReflectorSteps I
  steps-by h w l r = implied (I.reflector w) (I.hop w) (all-at (λ w. implies (I.reflector w) (I.hop w)) I.n h w l) r
