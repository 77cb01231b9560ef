-- Where reflectors that share clients are alike, the list that the walk finds is suspect: they have the same next step, so the walk passes
-- one of them alone, and whoever it passes has one listed client.
use Prim.Native.Nat.{ℕ, zero, suc, ◌+◌, ◌-◌, ◌≤◌, ◌<◌}
use native.Mathlib.Omega.{arith}
use mathlib.Core.Path.{◌≡◌, refl, ◌∙◌, sym, ap}
use mathlib.Core.Bool.{Bool, true, false, ◌&&◌, and-false, and_comm}
use mathlib.Core.Option.{Option, none, some}
use mathlib.Core.Logic.{⊎_elim}
use Rattle.base.specs.Below.{any_below}
use Rattle.base.specs.Seek.{flag}
use Rattle.base.proofs.Below.{Witness, any_at, any_found, any-cong}
use Rattle.base.proofs.Best.{BestIs, best-unique}
use Rattle.base.proofs.Numbers.{both, both_left, both_right, not-both, true-or-false}
use Rattle.base.proofs.Seek.{seek-cong}
use Rattle.graph_groups.specs.Closure.{Chain, step, more}
use Rattle.graph_groups.proofs.Sharing.{stable-chains}
use Rattle.route_rules.specs.Instance.{Instance}
use Rattle.route_rules.specs.Preference.{nearer}
use Rattle.route_rules.specs.Reliance.{listed_client_of, best_client, relies, reliance}
use Rattle.route_rules.proofs.Preference.{nearer-order}
use Rattle.route_rules.proofs.Reliance.{best_client-is, client-no-reflector, client-neighbour, client-listed, client-way, client-intro}
use Rattle.steady_rules.proofs.Members.{reliance-apart}
use Rattle.everylist_rules.specs.Pairs.{is_pair, in_table, left, has_left, foreign, nearest_foreign, with_client, next_reflector, walk, found}
use Rattle.everylist_rules.specs.EveryList.{with_list, stable_for, sharing, OfOthers, Clusters}
use Rattle.everylist_rules.proofs.Pairs.{PairParts, pair_parts, pair-intro, step-parts}
use Rattle.everylist_rules.proofs.Reaching.{relies-between}
use Rattle.everylist_rules.proofs.Sustained.{at_end, end_below, end-pair}
use Rattle.everylist_rules.proofs.Walks.{ForeignParts, foreign-parts, foreign-intro, nearest-is, walk-suc, walk-below, named, named-left, named-leads, named-same}
use Rattle.everylist_rules.proofs.Walks.{round, round-some, goes-round, apart, found-named, found_at, found-client}

-- a client that two reflectors share
pub record Shared (I : Instance) (w v : ℕ) : Type 0 where
  pub client : ℕ
  pub below : client < I.n
  pub first : is_pair I w client ≡ true
  pub second : is_pair I v client ≡ true

module _ (I : Instance) where
  pub shared : (w v : ℕ) → sharing I w v ≡ true → Shared I w v
  unfolding sharing
  shared w v h =
      let a : Witness (λ c. is_pair I w c && is_pair I v c) I.n = any_at _ I.n h in
      record {
        client = a.at;
        below = a.below;
        first = both_left (is_pair I w a.at) _ a.holds;
        second = both_right (is_pair I w a.at) _ a.holds;
      }

  pub share : (w v c : ℕ) → c < I.n → is_pair I w c ≡ true → is_pair I v c ≡ true → sharing I w v ≡ true
  unfolding sharing
  share w v c l p q = any_found (λ c. is_pair I w c && is_pair I v c) I.n c l (both _ _ p q)

  share-swap : (w v : ℕ) → sharing I w v ≡ sharing I v w
  unfolding sharing
  share-swap w v = any-cong _ _ I.n (λ c l. and_comm (is_pair I w c) (is_pair I v c))

  -- a reflector without the step that is a neighbour of a client and has a way to it is a pair with it
  pair-again : (w c e : ℕ) → is_pair I w c ≡ true → I.reflector e ≡ false → I.neighbour w e ≡ true → I.way w e ≡ true → is_pair I w e ≡ true
  pair-again w c e h client near way =
      let p = pair_parts I w c h in
      pair-intro I w e (record { reflector = p.reflector; without_step = p.without_step; client = client; neighbour = near; way = way })

  module _ (alike : Clusters I) where
    -- whoever brings w a client of others shares none with it
    outside : (w u e : ℕ) → w < I.n → u < I.n → e < I.n → is_pair I u e ≡ true → I.neighbour w e ≡ false → sharing I w u ≡ false
    outside w u e l m k p q = go (sharing I w u) refl
      where
        go : (b : Bool) → sharing I w u ≡ b → sharing I w u ≡ false
        go false h = h
        go true h = not-both (I.neighbour w e) (pair_parts I w e ((alike w u l m h).clients e k ∙ p)).neighbour q

    -- of two that share a client
    module _ (w v : ℕ) (l : w < I.n) (m : v < I.n) (h : sharing I w v ≡ true) where
      same-session : (u e : ℕ) → at_end I u e ≡ true → I.neighbour w e ≡ false → I.neighbour w u ≡ I.neighbour v u
      same-session u e p q =
          let b = end_below I u e p in
          let pair = end-pair I u e p in
          (alike w v l m h).sessions u b.0 (pair_parts I u e pair).reflector (outside w u e l b.0 b.1 pair q)

      others : (e : ℕ) → foreign I w e ≡ true → OfOthers I w e
      others e f =
          let p = foreign-parts I w e f in
          ((end_below I p.from e p.left).1, (pair_parts I p.from e (end-pair I p.from e p.left)).client, p.stranger)

      -- what is foreign to one is to the other
      foreign-too : (e : ℕ) → foreign I w e ≡ true → foreign I v e ≡ true
      foreign-too e f =
          foreign-intro I v e (record {
            from = p.from;
            below = p.below;
            neighbour = sym (same-session p.from e p.left p.stranger) ∙ p.neighbour;
            left = p.left;
            way = way;
            stranger = stranger (I.neighbour v e) refl;
          })
        where
          p : ForeignParts I w e
          p = foreign-parts I w e f

          o : OfOthers I w e
          o = others e f

          s : Shared I w v
          s = shared w v h

          way : I.way v e ≡ true
          way = sym ((alike w v l m h).ways e o) ∙ p.way

          stranger : (b : Bool) → I.neighbour v e ≡ b → I.neighbour v e ≡ false
          stranger false q = q
          stranger true q =
              not-both (I.neighbour w e)
              (pair_parts I w e ((alike w v l m h).clients e o.0 ∙ pair-again v s.client e s.second o.1 q way)).neighbour
              p.stranger

      nearer-alike : (e f : ℕ) → foreign I w e ≡ true → foreign I w f ≡ true → nearer I w e f ≡ nearer I v e f
      nearer-alike e f p q =
          (alike w v l m h).order e f (others e p) (others f q) (foreign-parts I w e p).way (foreign-parts I w f q).way

    module _ (w v : ℕ) (l : w < I.n) (m : v < I.n) (h : sharing I w v ≡ true) where
      back : (e : ℕ) → foreign I v e ≡ true → foreign I w e ≡ true
      back = foreign-too v w m l (share-swap v w ∙ h)

      -- so they have the same nearest foreign client, and the same next reflector
      nearest-alike : nearest_foreign I w ≡ nearest_foreign I v
      nearest-alike =
          best-unique (nearer I v) (nearer-order I v) (foreign I v) I.n (nearest_foreign I w) (nearest_foreign I v)
          (go (nearest_foreign I w) (nearest-is I w))
          (nearest-is I v)
        where
          go : (b : Option ℕ) → BestIs (nearer I w) (foreign I w) I.n b → BestIs (nearer I v) (foreign I v) I.n b
          go none q = λ e k. ⊎_elim (λ (f : foreign I v e ≡ true). not-both (foreign I w e) (back e f) (q e k)) (λ (f : foreign I v e ≡ false). f) (true-or-false (foreign I v e))
          go (some b) q =
              record {
                below = q.below;
                among = foreign-too w v l m h b q.among;
                unbeaten = λ e k f. sym (nearer-alike w v l m h e b (back e f) q.among) ∙ q.unbeaten e k (back e f);
              }

      pub next-alike : next_reflector I w ≡ next_reflector I v
      next-alike = go (nearest_foreign I w) (nearest-is I w) ∙ ap (with_client I v) nearest-alike
        where
          same : (e u : ℕ) → I.neighbour w e ≡ false → (b : Bool) → at_end I u e ≡ b
              → flag (I.neighbour w u && in_table (left I) u e) ≡ flag (I.neighbour v u && in_table (left I) u e)
          same e u q true p = ap (λ b. flag (b && in_table (left I) u e)) (same-session w v l m h u e p q)
          same e u q false p = rw p (ap flag (and-false (I.neighbour w u) ∙ sym (and-false (I.neighbour v u))))

          go : (b : Option ℕ) → BestIs (nearer I w) (foreign I w) I.n b → with_client I w b ≡ with_client I v b
          go none q = refl
          go (some e) q = seek-cong _ _ I.n (λ u k. same e u (foreign-parts I w e q.among).stranger (at_end I u e) refl)

    -- the walk with the list that it finds
    module _ (some_left : any_below (has_left I) I.n ≡ true) where
      abbrev J : Instance
      J = with_list I (found I)

      at_pair : (k : ℕ) → is_pair I (walk I (suc k)) (named I some_left k) ≡ true
      at_pair k = end-pair I (walk I (suc k)) (named I some_left k) (named-left I some_left k)

      at-parts : (k : ℕ) → PairParts I (walk I (suc k)) (named I some_left k)
      at-parts k = pair_parts I (walk I (suc k)) (named I some_left k) (at_pair k)

      named-below : (k : ℕ) → named I some_left k < I.n
      named-below k = (end_below I (walk I (suc k)) (named I some_left k) (named-left I some_left k)).1

      -- two that it passes from step n on, and that share a client, are one
      one-passed : (j k : ℕ) → I.n ≤ j → I.n ≤ k → sharing I (walk I (suc j)) (walk I (suc k)) ≡ true → walk I (suc j) ≡ walk I (suc k)
      one-passed j k l m h =
          apart I some_left (suc j) (suc k) (omega arith) (omega arith)
          (walk-suc I some_left (suc j)
          ∙ next-alike (walk I (suc j)) (walk I (suc k)) (walk-below I some_left (suc j)) (walk-below I some_left (suc k)) h
          ∙ sym (walk-suc I some_left (suc k)))

      -- its only listed client is the one that the walk came with
      only-client : (k e : ℕ) → I.n ≤ k → listed_client_of J (walk I (suc k)) e ≡ true → e ≡ named I some_left k
      only-client k e l h =
          let (j, m, is) = found_at I some_left e (client-listed J (walk I (suc k)) e h) in
          let pair : is_pair I (walk I (suc k)) e ≡ true
          = pair-again (walk I (suc k)) (named I some_left k) e (at_pair k) (client-no-reflector J (walk I (suc k)) e h)
          (client-neighbour J (walk I (suc k)) e h) (client-way J (walk I (suc k)) e h) in
          let other : is_pair I (walk I (suc j)) e ≡ true = ap (is_pair I (walk I (suc j))) (sym is) ∙ at_pair j in
          let below : e < I.n = omega (arith, named-below j) in
          sym is
          ∙ named-same I some_left j k
          (apart I some_left j k m l (one-passed j k m l (share (walk I (suc j)) (walk I (suc k)) e below other pair)))

      unlisted : (k : ℕ) → found I (walk I (suc k)) ≡ false
      unlisted k = go (found I (walk I (suc k))) refl
        where
          go : (b : Bool) → found I (walk I (suc k)) ≡ b → found I (walk I (suc k)) ≡ false
          go false h = h
          go true h = not-both (I.reflector (walk I (suc k))) (at-parts k).reflector (found-client I (walk I (suc k)) h).1

      client-best : (k : ℕ) → I.n ≤ k → best_client J (walk I (suc k)) ≡ some (named I some_left k)
      client-best k l =
          best-unique (nearer J w) (nearer-order J w) (listed_client_of J w) I.n (best_client J w) (some c) (best_client-is J w)
          (record {
            below = named-below k;
            among = client-intro J w c p.neighbour (found-named I some_left k l) p.client p.way;
            unbeaten = λ e m h. ap (λ x. nearer J w x c) (only-client k e l h) ∙ (nearer-order J w).irreflexive c;
          })
        where
          w : ℕ
          w = walk I (suc k)

          c : ℕ
          c = named I some_left k

          p : PairParts I w c
          p = at-parts k

      -- so each relies on the next
      passes : (k : ℕ) → I.n ≤ k → relies J (walk I (suc k)) (walk I (suc (suc k))) ≡ true
      passes k l =
          let p = at-parts k in
          let s = step-parts I (walk I (suc k)) (named I some_left k) (walk I (suc (suc k))) (named I some_left (suc k)) (named-leads I some_left k) in
          relies-between I (found I) (walk I (suc k)) (walk I (suc (suc k))) (named I some_left k) (named I some_left (suc k)) (unlisted k)
          (unlisted (suc k)) p.reflector (at-parts (suc k)).reflector p.without_step (client-best k l)
          (client-best (suc k) (omega arith))
          ∙ both _ _ s.neighbour (both _ _ s.way s.closer)

      related : (k : ℕ) → I.n ≤ k → 1 ≤ reliance J (walk I (suc k)) (walk I (suc (suc k)))
      related k l = rw (passes k l) (omega arith)

      round-chain : (t k : ℕ) → I.n ≤ k → Chain (reliance J) I.n (walk I (suc k)) (walk I (suc (suc t + k)))
      round-chain zero k l =
          let e : 1 + k ≡ suc k = omega arith in
          rw e (step (related k l))
      round-chain (suc t) k l =
          let e : suc (suc t) + k ≡ suc t + suc k = omega arith in
          rw e (more (walk-below I some_left (suc (suc k))) (related k l) (round-chain t (suc k) (omega arith)))

      pub found-suspect : stable_for I (found I) ≡ false
      found-suspect = ⊎_elim (λ (s : stable_for I (found I) ≡ true). absurd (none s)) (λ (s : stable_for I (found I) ≡ false). s) (true-or-false (stable_for I (found I)))
        where
          cycle : Chain (reliance J) I.n (walk I (suc I.n)) (walk I (suc I.n))
          cycle =
              let p : 1 ≤ round I some_left = round-some I some_left in
              let t : ℕ = round I some_left - 1 in
              let a : suc (suc t + I.n) ≡ suc I.n + round I some_left = omega arith in
              rw (ap (walk I) a ∙ goes-round I some_left (suc I.n) (omega arith)) at (round-chain t I.n (omega arith))

          none : stable_for I (found I) ≡ true → ⊥
          none s =
              (stable-chains (reliance J) I.n (reliance-apart J)).0 s (walk I (suc I.n)) (walk-below I some_left (suc I.n)) cycle
