-- The walk from reflector to reflector along the nearest foreign clients: it goes on for ever, comes back, and from then on goes round.
use Prim.Native.Nat.{ℕ, zero, suc, ◌+◌, ◌-◌, ◌≤◌, ◌<◌}
use native.Mathlib.Omega.{arith}
use mathlib.Core.Path.{◌≡◌, refl, ◌∙◌, sym, ap}
use mathlib.Core.Bool.{Bool, true, false, not, ◌&&◌}
use mathlib.Core.Option.{Option, none, some}
use mathlib.Core.Logic.{◌⊎◌, inl, inr, ⊎_elim}
use borrow.Author.Tests.{eqb-true, eq-eqb, not-true}
use lib.Dec.{eqb}
use Rattle.base.specs.Below.{any_below}
use Rattle.base.specs.Seek.{flag, seek, count}
use Rattle.base.proofs.Below.{Witness, any_at, any_found}
use Rattle.base.proofs.Best.{BestIs, best-is}
use Rattle.base.proofs.Numbers.{both, both_left, both_right, eq-or-ne, lt-or-le, not-both, true-or-false}
use Rattle.base.proofs.Seek.{flag-yes, seek_found, seek-below, count-le, count_less}
use Rattle.route_rules.specs.Instance.{Instance, is_router}
use Rattle.route_rules.specs.Preference.{nearer}
use Rattle.route_rules.proofs.Preference.{nearer-order}
use Rattle.route_rules.proofs.Routes.{is_router-same}
use Rattle.everylist_rules.specs.Pairs.{leads_to, in_table, left, has_left, foreign, nearest_foreign, next_reflector, walk, found}
use Rattle.everylist_rules.proofs.Pairs.{pair_parts, StepParts, step-parts, step-intro}
use Rattle.everylist_rules.proofs.Sustained.{Onward, at_end, end_below, end-pair, sustained}

pub some_same : (a b : ℕ) → ◌≡◌ {A = Option ℕ} (some a) (some b) → a ≡ b
some_same a b e = cc

-- of n + 1 numbers below n two are the same
pub record Repeat (f : ℕ → ℕ) (n : ℕ) : Type 0 where
  pub first : ℕ
  pub second : ℕ
  pub order : first < second
  pub upto : second ≤ n
  pub same : f first ≡ f second

module _ (f : ℕ → ℕ) (n : ℕ) (below : (k : ℕ) → f k < n) where
  -- v is one of the first k
  met : ℕ → ℕ → Bool
  met k v = any_below (λ i. eqb (f i) v) k

  met-again : (k : ℕ) → k ≤ n → met k (f k) ≡ true → Repeat f n
  unfolding met
  met-again k l h =
      let a : Witness (λ i. eqb (f i) (f k)) k = any_at _ k h in
      record { first = a.at; second = k; order = a.below; upto = l; same = eqb-true _ _ a.holds }

  met-more : (k v : ℕ) → 1 ≤ flag (met k v) → 1 ≤ flag (met (suc k) v)
  unfolding met
  met-more k v h =
      let a : Witness (λ i. eqb (f i) v) k = any_at _ k (flag-yes _ h) in
      rw (any_found (λ i. eqb (f i) v) (suc k) a.at (omega (arith, a.below)) a.holds) (omega arith)

  met-itself : (k : ℕ) → 1 ≤ flag (met (suc k) (f k))
  unfolding met
  met-itself k = rw (any_found (λ i. eqb (f i) (f k)) (suc k) k (omega arith) (eq-eqb (f k) (f k) refl)) (omega arith)

  spread : (k : ℕ) → k ≤ suc n → Repeat f n ⊎ (k ≤ count (λ v. flag (met k v)) n)
  spread zero l = inr (omega arith)
  spread (suc k) l = go (spread k (omega arith)) (true-or-false (met k (f k)))
    where
      go : Repeat f n ⊎ (k ≤ count (λ v. flag (met k v)) n) → (met k (f k) ≡ true) ⊎ (met k (f k) ≡ false)
          → Repeat f n ⊎ (suc k ≤ count (λ v. flag (met (suc k) v)) n)
      go (inl r) t = inl r
      go (inr h) (inl t) = inl (met-again k (omega arith) t)
      go (inr h) (inr t) =
          inr (omega (
            arith,
            count_less (λ v. flag (met k v)) (λ v. flag (met (suc k) v)) n (f k) (below k) (ap flag t) (met-itself k) (λ v m. met-more k v),
          ))

  pub repeats : Repeat f n
  repeats =
      ⊎_elim (λ (r : Repeat f n). r)
      (λ (h : suc n ≤ count (λ v. flag (met (suc n) v)) n). absurd (omega (arith, count-le (λ v. flag (met (suc n) v)) n)))
      (spread (suc n) (omega arith))

-- a foreign client, part by part
pub record ForeignParts (I : Instance) (w e : ℕ) : Type 0 where
  pub from : ℕ
  pub below : from < I.n
  pub neighbour : I.neighbour w from ≡ true
  pub left : in_table (left I) from e ≡ true
  pub way : I.way w e ≡ true
  pub stranger : I.neighbour w e ≡ false

pub foreign-parts : (I : Instance) (w e : ℕ) → foreign I w e ≡ true → ForeignParts I w e
unfolding foreign
foreign-parts I w e h =
    let near : (any_below (λ v. I.neighbour w v && in_table (left I) v e) I.n && I.way w e) ≡ true = both_left _ (not (I.neighbour w e)) h in
    let a : Witness (λ v. I.neighbour w v && in_table (left I) v e) I.n = any_at _ I.n (both_left _ (I.way w e) near) in
    record {
      from = a.at;
      below = a.below;
      neighbour = both_left (I.neighbour w a.at) _ a.holds;
      left = both_right (I.neighbour w a.at) _ a.holds;
      way = both_right (any_below (λ v. I.neighbour w v && in_table (left I) v e) I.n) (I.way w e) near;
      stranger =
          not-true (I.neighbour w e)
          (both_right (any_below (λ v. I.neighbour w v && in_table (left I) v e) I.n && I.way w e) (not (I.neighbour w e)) h);
    }

pub foreign-intro : (I : Instance) (w e : ℕ) → ForeignParts I w e → foreign I w e ≡ true
unfolding foreign
foreign-intro I w e p =
    cc (
      any_found (λ v. I.neighbour w v && in_table (left I) v e) I.n p.from p.below (both _ _ p.neighbour p.left),
      p.way,
      p.stranger,
    )

pub nearest-is : (I : Instance) (w : ℕ) → BestIs (nearer I w) (foreign I w) I.n (nearest_foreign I w)
unfolding nearest_foreign
nearest-is I w = best-is (nearer I w) (nearer-order I w) (foreign I w) I.n

-- every pair of w that is left leads to the next reflector with the nearest foreign client
pub record Next (I : Instance) (w c : ℕ) : Type 0 where
  pub client : ℕ
  pub is : nearest_foreign I w ≡ some client
  pub left : at_end I (next_reflector I w) client ≡ true
  pub leads : leads_to I w c (next_reflector I w) client ≡ true

module _ (I : Instance) where
  -- no farther than a nearer one
  no-farther : (w m e c : ℕ) → nearer I w e m ≡ false → nearer I w e c ≡ true → nearer I w m c ≡ true
  no-farther w m e c h k = go (eq-or-ne m e)
    where
      go : (m ≡ e) ⊎ (m ≡ e → ⊥) → nearer I w m c ≡ true
      go (inl q) = rw q k
      go (inr q) = (nearer-order I w).transitive m e c ((nearer-order I w).exactly_one m e q ∙ ap not h) k

  -- who is the next where e is the nearest
  next-with : (w e : ℕ) → nearest_foreign I w ≡ some e → foreign I w e ≡ true
      → (I.neighbour w (next_reflector I w) ≡ true) × (at_end I (next_reflector I w) e ≡ true)
  next-with w e is h =
      let p = foreign-parts I w e h in
      let f : ℕ → ℕ = λ v. flag (I.neighbour w v && in_table (left I) v e) in
      let b : seek f I.n < I.n
      = seek-below f I.n p.from p.below
      (rw (both (I.neighbour w p.from) (in_table (left I) p.from e) p.neighbour p.left) (omega arith)) in
      let y : (I.neighbour w (seek f I.n) && in_table (left I) (seek f I.n) e) ≡ true = flag-yes _ ((seek_found f I.n).hit b) in
      rw is (both_left (I.neighbour w (seek f I.n)) _ y, both_right (I.neighbour w (seek f I.n)) _ y)

  pub next_of : (w c : ℕ) → at_end I w c ≡ true → Next I w c
  next_of w c h = go (nearest_foreign I w) refl (nearest-is I w)
    where
      o : Onward I (at_end I) w c
      o = sustained I w c h

      s : StepParts I w c o.router o.client
      s = step-parts I w c o.router o.client o.leads

      heard : foreign I w o.client ≡ true
      heard =
          foreign-intro I w o.client (record {
            from = o.router;
            below = o.below;
            neighbour = s.neighbour;
            left = o.holds;
            way = s.way;
            stranger = s.stranger;
          })

      go : (b : Option ℕ) → nearest_foreign I w ≡ b → BestIs (nearer I w) (foreign I w) I.n b → Next I w c
      go none e b = not-both (foreign I w o.client) heard (b o.client o.client_below)
      go (some m) e b =
          let p = foreign-parts I w m b.among in
          let n = next-with w m e b.among in
          record {
            client = m;
            is = e;
            left = n.1;
            leads =
                step-intro I w c (next_reflector I w) m (record {
                  neighbour = n.0;
                  way = p.way;
                  closer = no-farther w m o.client c (b.unbeaten o.client o.client_below heard) s.closer;
                  stranger = p.stranger;
                });
          }

  -- the walk where some pair is left: at each step a pair of its reflector is left
  module _ (some_left : any_below (has_left I) I.n ≡ true) where
    record Stop (k : ℕ) : Type 0 where
      client : ℕ
      left : at_end I (walk I k) client ≡ true

    pub walk-suc : (k : ℕ) → walk I (suc k) ≡ next_reflector I (walk I k)
    unfolding walk
    walk-suc k = refl

    start : Stop 0
    unfolding walk
    start =
        let f : ℕ → ℕ = λ w. flag (has_left I w) in
        let a : Witness (has_left I) I.n = any_at _ I.n some_left in
        let b : seek f I.n < I.n = seek-below f I.n a.at a.below (rw a.holds (omega arith)) in
        let c : Witness (in_table (left I) (seek f I.n)) I.n = any_at _ I.n (flag-yes _ ((seek_found f I.n).hit b)) in
        record { client = c.at; left = c.holds }

    stop : (k : ℕ) → Stop k
    stop zero = start
    stop (suc k) =
        let s : Stop k = stop k in
        let n : Next I (walk I k) s.client = next_of (walk I k) s.client s.left in
        record { client = n.client; left = rw (walk-suc k) n.left }

    next-at : (k : ℕ) → Next I (walk I k) (stop k).client
    next-at k = next_of (walk I k) (stop k).client (stop k).left

    pub walk-below : (k : ℕ) → walk I k < I.n
    walk-below k = (end_below I (walk I k) (stop k).client (stop k).left).0

    -- the client that is named there
    pub named : ℕ → ℕ
    named k = (next-at k).client

    pub named-is : (k : ℕ) → nearest_foreign I (walk I k) ≡ some (named k)
    unfolding named
    named-is k = (next-at k).is

    pub named-left : (k : ℕ) → at_end I (walk I (suc k)) (named k) ≡ true
    unfolding named
    named-left k = rw (walk-suc k) (next-at k).left

    pub named-same : (j k : ℕ) → walk I j ≡ walk I k → named j ≡ named k
    named-same j k e = some_same (named j) (named k) (sym (named-is j) ∙ ap (nearest_foreign I) e ∙ named-is k)

    -- each pair of the walk leads to the next one
    pub named-leads : (k : ℕ) → leads_to I (walk I (suc k)) (named k) (walk I (suc (suc k))) (named (suc k)) ≡ true
    named-leads k =
        let n : Next I (walk I (suc k)) (named k) = next_of (walk I (suc k)) (named k) (named-left k) in
        rw (walk-suc (suc k), some_same (named (suc k)) n.client (sym (named-is (suc k)) ∙ n.is)) n.leads

    -- the walk goes on alike from the same reflector
    walk-alike : (j k t : ℕ) → walk I j ≡ walk I k → walk I (j + t) ≡ walk I (k + t)
    walk-alike j k zero e =
        let a : j + 0 ≡ j = omega arith in
        let b : k + 0 ≡ k = omega arith in
        ap (walk I) a ∙ e ∙ sym (ap (walk I) b)
    walk-alike j k (suc t) e =
        let a : j + suc t ≡ suc (j + t) = omega arith in
        let b : k + suc t ≡ suc (k + t) = omega arith in
        ap (walk I) a ∙ walk-suc (j + t) ∙ ap (next_reflector I) (walk-alike j k t e) ∙ sym (walk-suc (k + t)) ∙ sym (ap (walk I) b)

    again : Repeat (walk I) I.n
    again = repeats (walk I) I.n walk-below

    -- after how many steps it is where it was
    pub round : ℕ
    round = again.second - again.first

    pub round-some : 1 ≤ round
    unfolding round
    round-some = omega (arith, again.order)

    round-upto : round ≤ I.n
    unfolding round
    round-upto = omega (arith, again.upto)

    -- from step n on
    pub goes-round : (k : ℕ) → I.n ≤ k → walk I (k + round) ≡ walk I k
    unfolding round
    goes-round k l =
        let a : k + (again.second - again.first) ≡ again.second + (k - again.first) = omega (arith, again.order, again.upto) in
        let b : again.first + (k - again.first) ≡ k = omega (arith, again.order, again.upto) in
        ap (walk I) a ∙ sym (walk-alike again.first again.second (k - again.first) again.same) ∙ ap (walk I) b

    -- .. from different reflectors to different ones
    pub apart : (j k : ℕ) → I.n ≤ j → I.n ≤ k → walk I (suc j) ≡ walk I (suc k) → walk I j ≡ walk I k
    apart j k l m e =
        let a : j + round ≡ suc j + (round - 1) = omega (arith, round-some) in
        let b : suc k + (round - 1) ≡ k + round = omega (arith, round-some) in
        sym (goes-round j l) ∙ ap (walk I) a ∙ walk-alike (suc j) (suc k) (round - 1) e ∙ ap (walk I) b ∙ goes-round k m

    -- n steps see all of it
    record Within (k : ℕ) : Type 0 where
      at : ℕ
      below : at < I.n
      same : walk I (I.n + at) ≡ walk I k

    within : (fuel k : ℕ) → k < fuel → Within (I.n + k)
    within zero k l = absurd (omega arith)
    within (suc fuel) k l = ⊎_elim early (λ (h : I.n ≤ k). late h (within fuel (k - round) (omega (arith, round-some, round-upto)))) (lt-or-le k I.n)
      where
        early : k < I.n → Within (I.n + k)
        early h = record { at = k; below = h; same = refl }

        late : I.n ≤ k → Within (I.n + (k - round)) → Within (I.n + k)
        late h w =
            let a : I.n + (k - round) + round ≡ I.n + k = omega (arith, round-upto) in
            record {
              at = w.at;
              below = w.below;
              same = w.same ∙ sym (goes-round (I.n + (k - round)) (omega arith)) ∙ ap (walk I) a;
            }

    -- the list that is found: the clients that the walk names from step n on
    pub found-named : (k : ℕ) → I.n ≤ k → found I (named k) ≡ true
    unfolding found
    found-named k l =
        let w : Within (I.n + (k - I.n)) = within (suc (k - I.n)) (k - I.n) (omega arith) in
        let a : I.n + (k - I.n) ≡ k = omega arith in
        any_found (λ j. is_router (named k) (nearest_foreign I (walk I (I.n + j)))) I.n w.at w.below
        (ap (is_router (named k)) (ap (nearest_foreign I) (w.same ∙ ap (walk I) a) ∙ named-is k) ∙ eq-eqb (named k) (named k) refl)

    pub found_at : (e : ℕ) → found I e ≡ true → (k : ℕ) × (I.n ≤ k) × (named k ≡ e)
    unfolding found
    found_at e h =
        let a : Witness (λ j. is_router e (nearest_foreign I (walk I (I.n + j)))) I.n = any_at _ I.n h in (
          I.n + a.at,
          omega arith,
          some_same (named (I.n + a.at)) e (sym (named-is (I.n + a.at)) ∙ is_router-same e _ a.holds),
        )

-- who is found is a client below n
pub found-client : (I : Instance) (e : ℕ) → found I e ≡ true → (e < I.n) × (I.reflector e ≡ false)
unfolding found
found-client I e h = go (nearest_foreign I w) (nearest-is I w) (is_router-same e (nearest_foreign I w) a.holds)
  where
    a : Witness (λ k. is_router e (nearest_foreign I (walk I (I.n + k)))) I.n
    a = any_at _ I.n h

    w : ℕ
    w = walk I (I.n + a.at)

    go : (b : Option ℕ) → BestIs (nearer I w) (foreign I w) I.n b → b ≡ some e → (e < I.n) × (I.reflector e ≡ false)
    go none best q = let z : ◌≡◌ {A = ℕ} 0 1 = cc in absurd (omega arith)
    go (some m) best q =
        let same : m ≡ e = cc in
        let p = foreign-parts I w m best.among in
        let client : I.reflector m ≡ false = (pair_parts I p.from m (end-pair I p.from m p.left)).client in
        (omega (arith, best.below), ap I.reflector (sym same) ∙ client)
