-- Cycles of reliances, with whatever list, and cycles of pairs stay among the pairs left; and where a pair is left there is a cycle of
-- pairs.
use Prim.Native.Nat.{ℕ, zero, suc, ◌+◌, ◌-◌, ◌≤◌, ◌<◌}
use native.Mathlib.Omega.{arith}
use mathlib.Core.Path.{◌≡◌, refl, ◌∙◌, sym, ap, subst₂, fun_ext}
use mathlib.Core.Bool.{Bool, true, false, not, ◌&&◌, and-true, and-false}
use mathlib.Core.Option.{some}
use Rattle.base.specs.Below.{any_below}
use Rattle.base.specs.Best.{best}
use Rattle.base.specs.Seek.{flag}
use Rattle.base.proofs.Best.{IsBest}
use Rattle.base.proofs.Numbers.{both_left, both_right, not-both}
use Rattle.base.proofs.Seek.{flag-yes}
use Rattle.graph_groups.specs.Closure.{closure}
use Rattle.route_rules.specs.Instance.{Instance}
use Rattle.route_rules.specs.Preference.{nearer, has_step}
use Rattle.route_rules.specs.Reliance.{listed_client_of, best_client, better_offer, relies, reliance}
use Rattle.route_rules.proofs.Preference.{prefers-without}
use Rattle.route_rules.proofs.Reliance.{best_client-is, client-no-reflector, client-neighbour, client-listed, client-way, client-intro, offer-unlisted, relies-offer}
use Rattle.steady_rules.specs.Steady.{GroupedRouter}
use Rattle.steady_rules.proofs.Members.{reliance-apart, loops-grouped, grouped-router}
use Rattle.hopset_rules.proofs.Cycles.{InCycle, Next, cycle-next, cycles-kept, acyclic-stable, stable-no-cycle}
use Rattle.everylist_rules.specs.Pairs.{is_pair, leads_to, PairStep, PairChain, last, more, has_left, walk}
use Rattle.everylist_rules.specs.EveryList.{with_list, stable_for}
use Rattle.everylist_rules.proofs.Pairs.{pair-intro, step-intro}
use Rattle.everylist_rules.proofs.Sustained.{Sustaining, sustaining-left, at_end, end_below, end-pair}
use Rattle.everylist_rules.proofs.Walks.{some_same, named, named-left, named-leads, named-same, round, round-some, goes-round}

module _ (I : Instance) (listed : ℕ → Bool) where
  abbrev J : Instance
  J = with_list I listed

  -- of two unlisted reflectors with best clients, the first without the step
  pub relies-between : (w v c e : ℕ) → listed w ≡ false → listed v ≡ false → I.reflector w ≡ true → I.reflector v ≡ true → I.hop w ≡ false
      → best_client J w ≡ some c → best_client J v ≡ some e → relies J w v ≡ (I.neighbour w v && (I.way w e && nearer I w e c))
  unfolding has_step better_offer nearer
  relies-between w v c e p q a b hop own other =
      relies-offer J w v p a b
      ∙ ap (λ o. I.neighbour w v && better_offer J w (listed v) o (best_client J w)) (offer-unlisted J v q ∙ other)
      ∙ ap (λ o. I.neighbour w v && better_offer J w (listed v) (some e) o) own
      ∙ ap (λ b. I.neighbour w v && (I.way w e && b)) (prefers-without J w (cc (and-false (I.reflector w))) e (listed v) c true)

  -- whoever is in a cycle is an unlisted reflector with a best client and without the step
  member : (w : ℕ) → w < I.n → InCycle (reliance J) I.n w → GroupedRouter J w
  member w l c = grouped-router J w l ((loops-grouped J (closure (reliance J) I.n) (λ i j a b. refl) w l).0 c)

  best_of : (w c : ℕ) → best_client J w ≡ some c → IsBest (nearer I w) (listed_client_of J w) I.n c
  unfolding nearer
  best_of w c e = rw e at (best_client-is J w)

  no-hop : (w : ℕ) → GroupedRouter J w → I.hop w ≡ false
  unfolding has_step
  no-hop w g = let h = g.without_step in rw g.reflector at h

  -- .. and is with it a pair
  member-pair : (w : ℕ) → (g : GroupedRouter J w) → is_pair I w g.client ≡ true
  member-pair w g =
      let b = best_of w g.client g.best in
      pair-intro I w g.client (record {
        reflector = g.reflector;
        without_step = no-hop w g;
        client = client-no-reflector J w g.client b.among;
        neighbour = client-neighbour J w g.client b.among;
        way = client-way J w g.client b.among;
      })

  -- what one of them relies on another for
  member-relies : (w v : ℕ) (g : GroupedRouter J w) (h : GroupedRouter J v)
      → relies J w v ≡ (I.neighbour w v && (I.way w h.client && nearer I w h.client g.client))
  member-relies w v g h =
      relies-between w v g.client h.client g.unlisted h.unlisted g.reflector h.reflector (no-hop w g) g.best h.best

  -- their pairs lead from one to the other: a neighbour would be a listed client of w, and so its best client would be no farther
  members-lead : (w v : ℕ) (g : GroupedRouter J w) (h : GroupedRouter J v) → relies J w v ≡ true
      → leads_to I w g.client v h.client ≡ true
  members-lead w v g h r =
      step-intro I w g.client v h.client (record {
        neighbour = both_left (I.neighbour w v) _ parts;
        way = way;
        closer = closer;
        stranger = stranger (I.neighbour w h.client) refl;
      })
    where
      parts : (I.neighbour w v && (I.way w h.client && nearer I w h.client g.client)) ≡ true
      parts = sym (member-relies w v g h) ∙ r

      way : I.way w h.client ≡ true
      way = both_left (I.way w h.client) _ (both_right (I.neighbour w v) _ parts)

      closer : nearer I w h.client g.client ≡ true
      closer = both_right (I.way w h.client) _ (both_right (I.neighbour w v) _ parts)

      b : IsBest (nearer I v) (listed_client_of J v) I.n h.client
      b = best_of v h.client h.best

      stranger : (x : Bool) → I.neighbour w h.client ≡ x → I.neighbour w h.client ≡ false
      stranger false e = e
      stranger true e =
          not-both (nearer I w h.client g.client) closer
          ((best_of w g.client g.best).unbeaten h.client b.below
          (client-intro J w h.client e (client-listed J v h.client b.among) (client-no-reflector J v h.client b.among) way))

  -- so the routers in cycles with their best clients sustain themselves
  abbrev Member : ℕ → ℕ → Type 0
  Member w c = (w < I.n) × InCycle (reliance J) I.n w × (best_client J w ≡ some c)

  as_member : (w c : ℕ) → Member w c → (g : GroupedRouter J w) × (g.client ≡ c)
  as_member w c (l, h, e) = let g = member w l h in (g, some_same g.client c (sym g.best ∙ e))

  members-sustain : Sustaining I Member
  members-sustain =
      record {
        pairs = λ w c m.
            let (g, e) = as_member w c m in
            (m.0, (best_of w c m.2).below, ap (is_pair I w) (sym e) ∙ member-pair w g);
        onward = λ w c m.
            let (g, e) = as_member w c m in
            let s : Next (reliance J) I.n w = cycle-next (reliance J) I.n w m.0 m.1 in
            let h : GroupedRouter J s.at = member s.at s.below s.onward in (
              s.at,
              h.client,
              (s.below, s.onward, h.best),
              ap (λ x. leads_to I w x s.at h.client) (sym e) ∙ members-lead w s.at g h (flag-yes _ s.related),
            );
      }

  -- and a pair of a router in a cycle is left
  pub cycle-pair : (w : ℕ) → w < I.n → InCycle (reliance J) I.n w → (c : ℕ) × (at_end I w c ≡ true)
  cycle-pair w l h = let g = member w l h in (g.client, sustaining-left I Member members-sustain w g.client (l, h, g.best))

-- The clients of a list alone: the best clients are as with the list, and whoever is in a cycle of reliances relies on whom it did.
module _ (I : Instance) (listed : ℕ → Bool) where
  abbrev clients_of : ℕ → Bool
  clients_of v = listed v && not (I.reflector v)

  same-candidate : (v e : ℕ) → listed_client_of (with_list I clients_of) v e ≡ listed_client_of (with_list I listed) v e
  unfolding listed_client_of
  same-candidate v e = go (listed e) (I.reflector e)
    where
      go : (a b : Bool) → (I.neighbour v e && (a && not b) && not b && I.way v e) ≡ (I.neighbour v e && a && not b && I.way v e)
      go true true = rw (and-false (I.neighbour v e), and-true (I.neighbour v e), and-false (I.neighbour v e))
      go true false = refl
      go false true = refl
      go false false = refl

  same-client : (v : ℕ) → best_client (with_list I clients_of) v ≡ best_client (with_list I listed) v
  unfolding best_client nearer
  same-client v = ap (λ p. best (nearer I v) p I.n) (fun_ext (same-candidate v))

  relies-still : (w v : ℕ) → GroupedRouter (with_list I listed) w → GroupedRouter (with_list I listed) v
      → relies (with_list I listed) w v ≡ relies (with_list I clients_of) w v
  relies-still w v g h =
      member-relies I listed w v g h
      ∙ sym (relies-between I clients_of w v g.client h.client (ap (λ b. b && not (I.reflector w)) g.unlisted)
      (ap (λ b. b && not (I.reflector v)) h.unlisted) g.reflector h.reflector (no-hop I listed w g)
      (same-client w ∙ g.best) (same-client v ∙ h.best))

  cycle-still : (w : ℕ) → w < I.n → InCycle (reliance (with_list I listed)) I.n w → InCycle (reliance (with_list I clients_of)) I.n w
  cycle-still =
      cycles-kept (reliance (with_list I listed)) (reliance (with_list I clients_of)) I.n
      (λ w v l m c d r. omega (arith, ap flag (relies-still w v (member I listed w l c) (member I listed v m d))))

  pub clients-alone : stable_for I listed ≡ false → stable_for I clients_of ≡ false
  clients-alone s = go (stable_for I clients_of) refl
    where
      go : (b : Bool) → stable_for I clients_of ≡ b → stable_for I clients_of ≡ false
      go false e = e
      go true e =
          not-both (stable_for I listed)
          (acyclic-stable (reliance (with_list I listed)) I.n (reliance-apart (with_list I listed))
          (λ w l c.
          stable-no-cycle (reliance (with_list I clients_of)) I.n (reliance-apart (with_list I clients_of)) e w l (cycle-still w l c)))
          s

module _ (I : Instance) where
  -- the first step of a cycle of pairs leads to a pair in a cycle
  record NextPair (w c : ℕ) : Type 0 where
    router : ℕ
    client : ℕ
    step : PairStep I w c router client
    onward : PairChain I router client router client

  chain-then : {w c v e u f : ℕ} → PairChain I w c v e → PairStep I v e u f → PairChain I w c u f
  chain-then (last s) t = more s (last t)
  chain-then (more s c) t = more s (chain-then c t)

  next-pair : (w c : ℕ) → PairChain I w c w c → NextPair w c
  next-pair w c h = go h
    where
      go : PairChain I w c w c → NextPair w c
      go (last s) = record { router = w; client = c; step = s; onward = h }
      go (more {v = v} {e = e} s rest) = record { router = v; client = e; step = s; onward = chain-then rest s }

  -- a pair in a cycle of pairs is left
  pub pairs-left : (w c : ℕ) → PairChain I w c w c → at_end I w c ≡ true
  pairs-left =
      sustaining-left I (λ w c. PairChain I w c w c) (record {
        pairs = λ w c h. let s = (next-pair w c h).step in (s.routers.0, s.routers.1, s.first);
        onward = λ w c h. let n : NextPair w c = next-pair w c h in (n.router, n.client, n.onward, n.step.leads);
      })

  -- the walk's pairs are a chain, and in the end a cycle
  module _ (some_left : any_below (has_left I) I.n ≡ true) where
    walk_step : (k : ℕ) → PairStep I (walk I (suc k)) (named I some_left k) (walk I (suc (suc k))) (named I some_left (suc k))
    walk_step k =
        let a = named-left I some_left k in
        let b = named-left I some_left (suc k) in
        let l = end_below I (walk I (suc k)) (named I some_left k) a in
        let m = end_below I (walk I (suc (suc k))) (named I some_left (suc k)) b in
        record {
          routers = (l.0, l.1, m.0, m.1);
          first = end-pair I (walk I (suc k)) (named I some_left k) a;
          second = end-pair I (walk I (suc (suc k))) (named I some_left (suc k)) b;
          leads = named-leads I some_left k;
        }

    walk-chain : (k t : ℕ) → PairChain I (walk I (suc k)) (named I some_left k) (walk I (suc (suc t + k))) (named I some_left (suc t + k))
    walk-chain k zero = let e : 1 + k ≡ suc k = omega arith in rw e (last (walk_step k))
    walk-chain k (suc t) =
        let e : suc (suc t) + k ≡ suc (suc t + k) = omega arith in
        rw e (chain-then (walk-chain k t) (walk_step (suc t + k)))

    pub walk-cycle : (w : ℕ) × (c : ℕ) × PairChain I w c w c
    walk-cycle = (walk I (suc I.n), named I some_left I.n, chain)
      where
        chain : PairChain I (walk I (suc I.n)) (named I some_left I.n) (walk I (suc I.n)) (named I some_left I.n)
        chain =
            let p : 1 ≤ round I some_left = round-some I some_left in
            let t : ℕ = round I some_left - 1 in
            let a : suc (suc t + I.n) ≡ suc I.n + round I some_left = omega arith in
            let b : suc t + I.n ≡ I.n + round I some_left = omega arith in
            subst₂ (λ v e. PairChain I (walk I (suc I.n)) (named I some_left I.n) v e)
            (ap (walk I) a ∙ goes-round I some_left (suc I.n) (omega arith))
            (named-same I some_left _ _ (ap (walk I) b ∙ goes-round I some_left I.n (omega arith)))
            (walk-chain I.n t)
