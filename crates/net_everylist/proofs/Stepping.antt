-- A reflector's step: the client of the least foreign key is the nearest, and the lowest reflector left with it is the next.
use Prim.Native.Nat.{ℕ, zero, suc, ◌+◌, ◌%◌, ◌^◌, ◌≤◌, ◌<◌}
use native.Mathlib.Omega.{arith}
use mathlib.Core.Path.{◌≡◌, refl, ◌∙◌, sym, ap, ap₂}
use mathlib.Core.Bool.{Bool, true, false, ◌&&◌, ◌||◌}
use mathlib.Core.List.{List, []}
use mathlib.Core.Option.{some}
use mathlib.Core.Logic.{◌⊎◌, inl, inr, ⊎_elim}
use borrow.Author.Tests.{not-true}
use lib.Bits.{bit_and, bit_or}
use lib.Dec.{eqb}
use lib.ListN.{length, get_or, set, replicate, length-set, length-replicate, get_or-replicate, get_or-eq_default}
use lib.Seq.{get_or-set_same, get_or-set_other}
use Rattle.base.specs.Below.{any_below}
use Rattle.base.specs.Seek.{flag, seek}
use Rattle.base.proofs.Below.{Witness, any_at, any_found, any_none, any_next, any-refuted}
use Rattle.base.proofs.Best.{BestIs, order_same}
use Rattle.base.proofs.Numbers.{both_left, both_right, not-both, true-or-false, lt-or-le, eq-or-ne}
use Rattle.base.proofs.Seek.{flag-yes, seek_found, seek-below, seek-cong}
use Rattle.base.proofs.SetBits.{bit-none, bit-with}
use Rattle.net_rules.specs.declared.Network.{Network}
use Rattle.net_rules.specs.Decoded.{decoded}
use Rattle.net_rules.specs.WellFormed.{WellFormed}
use Rattle.route_rules.specs.Instance.{Instance, is_router}
use Rattle.route_rules.specs.Preference.{nearer}
use Rattle.route_rules.proofs.Preference.{nearer-order}
use Rattle.everylist_rules.specs.Pairs.{in_table, left, has_left, foreign, nearest_foreign, with_client, next_reflector, walk, found}
use Rattle.everylist_rules.proofs.Pairs.{pair_parts}
use Rattle.everylist_rules.proofs.Sustained.{at_end, end_below, end-pair}
use Rattle.everylist_rules.proofs.Walks.{ForeignParts, foreign-parts, foreign-intro, nearest-is, Next, next_of, some_same, walk-suc, walk-below, named, named-left}
use Rattle.net_everylist.specs.Peeling.{key_at, no_key, LeastKey, pair_in, PairsIn, foreign_among, LeftRows}
use Rattle.net_everylist.specs.Walking.{NextStep, Small, Steps}
use Rattle.net_everylist.proofs.Keys.{key-nearer, key-way, way-key}
use Rattle.net_everylist.proofs.Leading.{foreign-at, foreign-by}
use Rattle.net_everylist.proofs.Passes.{some-bit}
use Rattle.net_everylist.proofs.Rows.{measured, reflector-too}
use Rattle.net_everylist.proofs.Words.{is_in}

-- what is left are pairs
pub left-pairs : (I : Instance) (rows : List ℕ) → LeftRows I rows → PairsIn I rows
left-pairs I rows is =
    record {
      size = is.size;
      pairs = λ w c h.
          let e : at_end I w c ≡ true = sym (is.is w c) ∙ h in
          let b = end_below I w c e in
          (b.0, b.1, end-pair I w c e);
    }

-- a row that is not 0 is that of a reflector with clients left
module _ (I : Instance) (rows : List ℕ) (is : LeftRows I rows) (w : ℕ) where
  row-left : 0 < get_or rows w 0 → (c : ℕ) × (at_end I w c ≡ true)
  row-left l = let b = some-bit (get_or rows w 0) l in (b.0, sym (is.is w b.0) ∙ b.1)

  pub row_has : 0 < get_or rows w 0 → has_left I w ≡ true
  row_has l = let b = row-left l in any_found (in_table (left I) w) I.n b.0 (end_below I w b.0 b.1).1 b.1

  pub row-none : get_or rows w 0 ≡ 0 → has_left I w ≡ false
  row-none z = any-refuted (in_table (left I) w) I.n (λ c l. sym (is.is w c) ∙ ap (λ x. is_in x c) z ∙ bit-none c)

module _ (net : Network) (rows distances : List ℕ) (formed : WellFormed net rows distances) (bytes : (i : ℕ) → get_or distances i 0 < 256)
    (lefts : List ℕ) (is : LeftRows (decoded net rows distances) lefts) (w : ℕ) (some-row : 0 < get_or lefts w 0) where
  abbrev I : Instance
  I = decoded net rows distances

  abbrev key : ℕ → ℕ
  key = key_at net.width distances net.n w

  -- the next reflector with a client
  pub next-with-client : (e : ℕ) → seek (λ v. flag (is_in (bit_and (get_or rows w 0) net.reflectors) v && pair_in lefts v e)) net.n ≡ with_client I w (some e)
  next-with-client e =
      seek-cong _ _ net.n (λ v l.
      ap flag (reflector-too net rows distances formed w lefts (left-pairs I lefts is) v e ∙ ap (λ b. I.neighbour w v && b) (is.is v e)))

  among : (e : ℕ) → foreign I w e ≡ true → (e < net.n) × (foreign_among I (pair_in lefts) w e ≡ true) × (I.way w e ≡ true)
  among e h =
      let p = foreign-parts I w e h in
      ((end_below I p.from e p.left).1, foreign-by I (pair_in lefts) w e p.from p.below p.neighbour (is.is p.from e ∙ p.left) p.stranger, p.way)

  among-back : (e : ℕ) → foreign_among I (pair_in lefts) w e ≡ true → I.way w e ≡ true → foreign I w e ≡ true
  among-back e h way =
      let a = foreign-at I (pair_in lefts) w e h in
      foreign-intro I w e (record {
        from = a.0.at;
        below = a.0.below;
        neighbour = both_left (I.neighbour w a.0.at) _ a.0.holds;
        left = sym (is.is a.0.at e) ∙ both_right (I.neighbour w a.0.at) _ a.0.holds;
        way = way;
        stranger = a.1;
      })

  nearer-not : (e f : ℕ) → e < 64 → f < 64 → key f ≤ key e → nearer I w e f ≡ false
  nearer-not e f l m h = go (nearer I w e f) refl
    where
      go : (b : Bool) → nearer I w e f ≡ b → nearer I w e f ≡ false
      go false q = q
      go true q = absurd (omega (arith, key-nearer (measured net rows distances) formed.pairs.bytes bytes w e f l m q))

  module _ (least : ℕ) (h : LeastKey key (foreign_among I (pair_in lefts) w) (no_key net.width) net.n least) where
    abbrev Goal : ℕ → Type 0
    Goal client =
        NextStep I w client (seek (λ v. flag (is_in (bit_and (get_or rows w 0) net.reflectors) v && pair_in lefts v client)) net.n)

    pub step_is : Goal (least % 64)
    step_is = at (row-left I lefts is w some-row)
      where
        go : (c m : ℕ) → nearest_foreign I w ≡ some m → at_end I (next_reflector I w) m ≡ true → BestIs (nearer I w) (foreign I w) I.n (some m)
            → (least ≡ no_key net.width) ⊎ ((e : ℕ) × (e < net.n) × (foreign_among I (pair_in lefts) w e ≡ true) × (least ≡ key e))
            → Goal (least % 64)
        go c m q r b x =
            let a = among m b.among in
            let low : key m < no_key net.width
            = key-way (measured net rows distances) formed.pairs.bytes bytes w m (omega (arith, a.0, formed.count)) a.2 in
            let down : least ≤ key m = h.least m a.0 a.1 in
            ⊎_elim (λ (z : least ≡ no_key net.width). absurd (omega arith))
            (λ (z : (e : ℕ) × (e < net.n) × (foreign_among I (pair_in lefts) w e ≡ true) × (least ≡ key e)).
            let e : ℕ = z.0 in
            let way : I.way w e ≡ true = way-key (measured net rows distances) formed.pairs.bytes bytes w e (omega (arith, z.3)) in
            let same : m ≡ e
            = order_same (nearer I w) (nearer-order I w) m e
            (nearer-not m e (omega (arith, a.0, formed.count)) (omega (arith, z.1, formed.count)) (omega (arith, z.3)))
            (b.unbeaten e z.1 (among-back e z.2 way)) in
            let last : least % 64 ≡ m = omega (arith, z.3, z.1, formed.count) in
            let to : next_reflector I w ≡ seek (λ v. flag (is_in (bit_and (get_or rows w 0) net.reflectors) v && pair_in lefts v m)) net.n
            = ap (with_client I w) q ∙ sym (next-with-client m) in
            rw last (record { below = (a.0, omega (arith, (end_below I (next_reflector I w) m r).0, to)); along = q; to = to }))
            x

        at : (c : ℕ) × (at_end I w c ≡ true) → Goal (least % 64)
        at (c, l) =
            let on = next_of I w c l in
            go c on.client on.is on.left (rw on.is at (nearest-is I w)) h.is

-- bytes that are all below 64
small-zeros : Small (replicate 64 0)
small-zeros w =
    ⊎_elim (λ (l : w < 64). rw (get_or-replicate {A = ℕ} 64 w 0 0 l) (omega arith))
    (λ (l : 64 ≤ w). rw (get_or-eq_default {A = ℕ} (replicate 64 0) 0 {n = w} (omega (arith, length-replicate {A = ℕ} 64 0))) (omega arith))
    (lt-or-le w 64)

small-set : (bytes : List ℕ) (k x : ℕ) → k < length bytes → x < 64 → Small bytes → Small (set bytes k x)
small-set bytes k x room l s w =
    ⊎_elim (λ (e : w ≡ k). rw (e, get_or-set_same bytes k x 0 room) l) (λ (e : w ≡ k → ⊥). rw (get_or-set_other bytes k w x 0 e) (s w)) (eq-or-ne w k)

-- the steps from the reflectors below k
pub record Stepped (I : Instance) (k : ℕ) (clients nexts : List ℕ) : Type 0 where
  pub upto : k ≤ I.n
  pub sizes : (length clients ≡ 64) × (length nexts ≡ 64)
  pub small_clients : Small clients
  pub small_nexts : Small nexts
  pub steps : (w : ℕ) → w < k → has_left I w ≡ true → NextStep I w (get_or clients w 0) (get_or nexts w 0)

module _ (I : Instance) where
  pub stepped_start : Stepped I 0 (replicate 64 0) (replicate 64 0)
  stepped_start =
      record {
        upto = omega arith;
        sizes = (length-replicate {A = ℕ} 64 0, length-replicate {A = ℕ} 64 0);
        small_clients = small-zeros;
        small_nexts = small-zeros;
        steps = λ w l. absurd (omega arith);
      }

  module _ (few : I.n ≤ 64) (k : ℕ) (clients nexts : List ℕ) (l : k < I.n) (s : Stepped I k clients nexts) where
    pub stepped-none : has_left I k ≡ false → Stepped I (k + 1) clients nexts
    stepped-none h =
        record {
          upto = omega arith;
          sizes = s.sizes;
          small_clients = s.small_clients;
          small_nexts = s.small_nexts;
          steps = λ w m q.
              ⊎_elim (λ (e : w ≡ k). not-both (has_left I w) q (ap (has_left I) e ∙ h)) (λ (e : w ≡ k → ⊥). s.steps w (omega arith) q) (eq-or-ne w k);
        }

    pub stepped-more : (client next : ℕ) → NextStep I k client next → Stepped I (k + 1) (set clients k client) (set nexts k next)
    stepped-more client next t =
        let a : k < length clients = omega (arith, s.sizes.0) in
        let b : k < length nexts = omega (arith, s.sizes.1) in
        record {
          upto = omega arith;
          sizes = (length-set clients k client ∙ s.sizes.0, length-set nexts k next ∙ s.sizes.1);
          small_clients = small-set clients k client a (omega (arith, t.below.0)) s.small_clients;
          small_nexts = small-set nexts k next b (omega (arith, t.below.1)) s.small_nexts;
          steps = λ w m q.
              ⊎_elim (λ (e : w ≡ k). rw (e, get_or-set_same clients k client 0 a, get_or-set_same nexts k next 0 b) t)
              (λ (e : w ≡ k → ⊥). rw (get_or-set_other clients k w client 0 e, get_or-set_other nexts k w next 0 e) (s.steps w (omega arith) q))
              (eq-or-ne w k);
        }

  pub stepped-done : (k : ℕ) (clients nexts : List ℕ) → I.n ≤ k → Stepped I k clients nexts → Steps I clients nexts
  stepped-done k clients nexts l s =
      record { small_clients = s.small_clients; small_nexts = s.small_nexts; steps = λ w m. s.steps w (omega arith) }

-- pairs are left where the walk starts at a router
pub walk-some : (I : Instance) → walk I 0 < I.n → any_below (has_left I) I.n ≡ true
unfolding walk
walk-some I l =
    let f : ℕ → ℕ = λ w. flag (has_left I w) in
    any_found (has_left I) I.n (seek f I.n) l (flag-yes _ ((seek_found f I.n).hit l))

-- the walk by these steps
module _ (I : Instance) (clients nexts : List ℕ) (s : Steps I clients nexts) (some_left : any_below (has_left I) I.n ≡ true) where
  walk-left : (k : ℕ) → has_left I (walk I k) ≡ true
  unfolding walk
  walk-left zero =
      let f : ℕ → ℕ = λ w. flag (has_left I w) in
      flag-yes _ ((seek_found f I.n).hit (walk-below I some_left 0))
  walk-left (suc k) =
      let h = named-left I some_left k in
      any_found (in_table (left I) (walk I (suc k))) I.n (named I some_left k) (end_below I _ _ h).1 h

  step-at : (k : ℕ) → NextStep I (walk I k) (get_or clients (walk I k) 0) (get_or nexts (walk I k) 0)
  step-at k = s.steps (walk I k) (walk-below I some_left k) (walk-left k)

  pub walk-next : (w k i : ℕ) → w ≡ walk I (k + i) → get_or nexts w 0 ≡ walk I (k + (i + 1))
  walk-next w k i e =
      let a : suc (k + i) ≡ k + (i + 1) = omega arith in
      ap (λ v. get_or nexts v 0) e ∙ sym (step-at (k + i)).to ∙ sym (walk-suc I some_left (k + i)) ∙ ap (walk I) a

  -- the clients named so far
  pub named_more : (word w k i : ℕ) → w ≡ walk I (k + i)
      → ((e : ℕ) → is_in word e ≡ any_below (λ j. is_router e (nearest_foreign I (walk I (k + j)))) i)
      → (e : ℕ) → is_in (bit_or word (2 ^ get_or clients w 0)) e ≡ any_below (λ j. is_router e (nearest_foreign I (walk I (k + j)))) (i + 1)
  named_more word w k i at h e =
      bit-with word (get_or clients w 0) e
      ∙ ap₂ ◌||◌ (h e) (ap (λ v. eqb (get_or clients v 0) e) at ∙ sym (ap (is_router e) (step-at (k + i)).along))
      ∙ sym (any_next (λ j. is_router e (nearest_foreign I (walk I (k + j)))) i)
