-- The least key that the routers advertise is that of the nearest route heard.
use Prim.Native.Nat.{ℕ, zero, suc, ◌+◌, ◌-◌, ◌*◌, ◌%◌, ◌≤◌, ◌<◌, min}
use native.Mathlib.Omega.{arith}
use mathlib.Core.Path.{◌≡◌, refl, ◌∙◌, sym, ap, ap₂}
use mathlib.Core.Bool.{Bool, true, false, not, cond, ◌&&◌, and-false}
use mathlib.Core.Option.{Option, none, some}
use mathlib.Core.Logic.{◌⊎◌, inl, inr, ⊎_elim}
use lib.Dec.{eqb}
use borrow.Author.Tests.{eqb-false, eq-eqb, ne_eqb, le-leb, lt-leb, le-ltb, not-true}
use Rattle.base.proofs.Numbers.{not-both, eq-or-ne, lt-or-le}
use Rattle.route_rules.specs.Instance.{Instance, Route, nothing, via, RouterBelow}
use Rattle.route_rules.specs.Preference.{nearer}
use Rattle.route_rules.specs.Activation.{reflects, advertises, hears, choice}
use Rattle.net_tables.specs.TableBytes.{RouteBelow, read_route}
use Rattle.net_activate.specs.OnePass.{sender_mark, route_key, Numbers, no_key, told_key, advertised_key, least_key, egress_in, sender_in, key_route}
use Rattle.net_tables.proofs.TableBytes.{read-via}
use Rattle.route_rules.proofs.Preference.{nearer-order, nearer-larger, nearer-tie}
use Rattle.route_rules.proofs.Routes.{hears-neighbour, hears-told, hears-way, hears-intro, ChoiceIs, choice-is, choice-unique, advertises-listed, advertises-client, advertises-reflector}

-- a sender's mark
pub mark-itself : (e s : ℕ) → e ≡ s → sender_mark e s ≡ 0
unfolding sender_mark
mark-itself e s h = cc (eq-eqb e s h)

pub mark-other : (e s : ℕ) → (e ≡ s → ⊥) → sender_mark e s ≡ suc s
unfolding sender_mark
mark-other e s h = cc (ne_eqb e s h)

pub mark-below : (e s : ℕ) → s < 64 → sender_mark e s ≤ 64
mark-below e s l = go (eq-or-ne e s)
  where
    go : (e ≡ s) ⊎ (e ≡ s → ⊥) → sender_mark e s ≤ 64
    go (inl h) = omega (arith, mark-itself e s h)
    go (inr h) = omega (arith, mark-other e s h)

-- a key's parts
module _ (d e s : ℕ) where
  pub key-is : route_key d e s ≡ d * 65536 + e * 256 + sender_mark e s
  unfolding route_key
  key-is = refl

  module _ (egress : e < 64) (sender : s < 64) where
    -- a route with a way has a lower key than none
    key-way : (N : Numbers) → d < N.most → route_key d e s < no_key N
    key-way N l = omega (arith, key-is, mark-below e s sender)

    key-egress : egress_in (route_key d e s) ≡ e
    key-egress = omega (arith, key-is, mark-below e s sender)

    key-mark : route_key d e s % 256 ≡ sender_mark e s
    key-mark = omega (arith, key-is, mark-below e s sender)

    key-sender : sender_in (route_key d e s) ≡ s
    key-sender = go (eq-or-ne e s)
      where
        go : (e ≡ s) ⊎ (e ≡ s → ⊥) → sender_in (route_key d e s) ≡ s
        go (inl h) = cc (eq-eqb (route_key d e s % 256) 0 (key-mark ∙ mark-itself e s h), key-egress)
        go (inr h) =
            let m : route_key d e s % 256 ≡ suc s = key-mark ∙ mark-other e s h in
            let p : route_key d e s % 256 - 1 ≡ s = omega arith in
            cc (ne_eqb (route_key d e s % 256) 0 (omega arith))

    -- the route of a key is the one it was made of
    key_back : (N : Numbers) → d < N.most → key_route N (route_key d e s) ≡ via e s
    unfolding key_route
    key_back N l =
        cc (lt-leb (no_key N) (route_key d e s) (key-way N l), ap₂ read_route key-egress key-sender, read-via e s (omega arith))

-- the route of any number
module _ (N : Numbers) (k : ℕ) where
  pub key-none : no_key N ≤ k → key_route N k ≡ nothing
  unfolding key_route
  key-none l = cc (le-leb (no_key N) k l)

  pub key-itself : k < no_key N → k % 256 ≡ 0 → key_route N k ≡ read_route (egress_in k) (egress_in k)
  unfolding key_route
  key-itself l h = cc (lt-leb (no_key N) k l, eq-eqb (k % 256) 0 h)

  pub key-other : k < no_key N → (k % 256 ≡ 0 → ⊥) → key_route N k ≡ read_route (egress_in k) (k % 256 - 1)
  unfolding key_route
  key-other l h = cc (lt-leb (no_key N) k l, ne_eqb (k % 256) 0 h)

module _ (I : Instance) where
  -- what a reflector v passes on, by whom it has it from
  module _ (v e s w : ℕ) where
    pub reflects-reflectors : (r : Bool) → I.reflector s ≡ true → r ≡ I.reflector w → reflects I v (via e s) w ≡ cond (not r) (some e) none
    unfolding reflects
    reflects-reflectors r p q = cc

    pub reflects-upwards : (r : Bool) → I.reflector s ≡ false → I.skips v ≡ true → r ≡ I.reflector w
        → reflects I v (via e s) w ≡ cond r (some e) none
    unfolding reflects
    reflects-upwards r p k q = cc

    pub reflects-clients : I.reflector s ≡ false → I.skips v ≡ false → reflects I v (via e s) w ≡ cond (not (eqb s w)) (some e) none
    unfolding reflects
    reflects-clients p k = cc

  -- what is told names routers below n if what is held does
  reflects-below : (v : ℕ) (x : Route) (w : ℕ) → RouteBelow I.n x → RouterBelow I.n (reflects I v x w)
  unfolding reflects
  reflects-below v nothing w b = tt
  reflects-below v (via e s) w b =
      go (cond (I.reflector s) (not (I.reflector w)) (cond (I.skips v) (I.reflector w) (not (eqb s w))))
    where
      go : (p : Bool) → RouterBelow I.n (cond p (some e) none)
      go true = b.0
      go false = tt

  advertises-below : (v : ℕ) (x : Route) (w : ℕ) → v < I.n → RouteBelow I.n x → RouterBelow I.n (advertises I v x w)
  advertises-below v x w l b = go (I.listed v) refl (I.reflector v) refl
    where
      go : (p : Bool) → I.listed v ≡ p → (q : Bool) → I.reflector v ≡ q → RouterBelow I.n (advertises I v x w)
      go true p q r = rw (advertises-listed I v x w p) l
      go false p true r = rw (advertises-reflector I v x w p r) (reflects-below v x w b)
      go false p false r = rw (advertises-client I v x w p r) tt

module _ (N : Numbers) where
  pub told-nothing : (v : ℕ) → told_key N v none ≡ no_key N
  unfolding told_key
  told-nothing v = refl

  pub told-egress : (v e : ℕ) → told_key N v (some e) ≡ route_key (N.to e) e v
  unfolding told_key
  told-egress v e = refl

  module _ (I : Instance) (w v : ℕ) (x : Route) where
    pub from-neighbour : I.neighbour w v ≡ true → advertised_key N I w v x ≡ told_key N v (advertises I v x w)
    unfolding advertised_key
    from-neighbour h = cc

    pub from-stranger : I.neighbour w v ≡ false → advertised_key N I w v x ≡ no_key N
    unfolding advertised_key
    from-stranger h = cc

-- what the numbers are of w's distances
pub record NumbersFrom (N : Numbers) (I : Instance) (w : ℕ) : Type 0 where
  pub bounded : (e : ℕ) → N.to e ≤ N.most
  pub ways : (e : ℕ) → I.way w e ≡ not (eqb (N.to e) N.most)
  pub distances : (e : ℕ) → I.way w e ≡ true → I.dist w e ≡ N.to e

module _ (N : Numbers) (I : Instance) (w : ℕ) (view : ℕ → Route) where
  abbrev key : ℕ → ℕ
  key v = advertised_key N I w v (view v)

  pub least-none : least_key N I w view 0 ≡ no_key N
  unfolding least_key
  least-none = refl

  pub least_more : (v : ℕ) → least_key N I w view (suc v) ≡ min (least_key N I w view v) (key v)
  unfolding least_key
  least_more v = refl

  -- it is no higher than any key, and that of some router if it is a key at all
  pub least-none-le : (k : ℕ) → least_key N I w view k ≤ no_key N
  least-none-le zero = omega (arith, least-none)
  least-none-le (suc k) = omega (arith, least_more k, least-none-le k)

  least-le : (k v : ℕ) → v < k → least_key N I w view k ≤ key v
  least-le zero v l = absurd (omega arith)
  least-le (suc k) v l =
      ⊎_elim (λ (e : v ≡ k). rw e (omega (arith, least_more k)))
      (λ (d : v ≡ k → ⊥). omega (arith, least_more k, least-le k v (omega arith)))
      (eq-or-ne v k)

  pub record Least (k : ℕ) : Type 0 where
    pub at : ℕ
    pub below : at < k
    pub same : least_key N I w view k ≡ key at

  pub least_at : (k : ℕ) → least_key N I w view k < no_key N → Least k
  least_at zero l = absurd (omega (arith, least-none))
  least_at (suc k) l =
      ⊎_elim (λ (h : key k < least_key N I w view k). record { at = k; below = omega arith; same = omega (arith, least_more k) })
      (λ (h : least_key N I w view k ≤ key k).
      let f : Least k = least_at k (omega (arith, least_more k)) in
      record { at = f.at; below = omega (arith, f.below); same = omega (arith, least_more k, f.same) })
      (lt-or-le (key k) (least_key N I w view k))

  -- w hears e from v
  module _ (v e : ℕ) (h : hears I view w v e ≡ true) where
    heard-key : key v ≡ route_key (N.to e) e v
    heard-key =
        from-neighbour N I w v (view v) (hears-neighbour I view w v e h)
        ∙ ap (told_key N v) (hears-told I view w v e h)
        ∙ told-egress N v e

  -- the numbers are w's, and every route names routers
  module _ (small : I.n ≤ 64) (numbers : NumbersFrom N I w)
      (below : (v : ℕ) → v < I.n → RouteBelow I.n (view v)) where
    way-near : (e : ℕ) → I.way w e ≡ true → N.to e < N.most
    way-near e h = omega (arith, numbers.bounded e, eqb-false (N.to e) N.most (not-true _ (sym (numbers.ways e) ∙ h)))

    near-way : (e : ℕ) → N.to e < N.most → I.way w e ≡ true
    near-way e l = numbers.ways e ∙ ap not (ne_eqb (N.to e) N.most (omega arith))

    -- of two routers to which w has a way, the numbers are the distances
    far : (e : ℕ) → I.way w e ≡ true → I.dist w e ≡ N.to e
    far e h = numbers.distances e h

    -- what is heard has a key below none's, and only that
    heard-low : (v e : ℕ) → v < I.n → e < I.n → hears I view w v e ≡ true → key v < no_key N
    heard-low v e l m h =
        omega (arith, heard-key v e h, key-way (N.to e) e v (omega arith) (omega arith) N (way-near e (hears-way I view w v e h)))

    pub record Heard (v : ℕ) : Type 0 where
      pub egress : ℕ
      pub router : egress < I.n
      pub hears-it : hears I view w v egress ≡ true

    pub low-heard : (v : ℕ) → v < I.n → key v < no_key N → Heard v
    low-heard v l h = go (I.neighbour w v) refl (advertises I v (view v) w) refl (advertises-below I v (view v) w l (below v l))
      where
        go : (a : Bool) → I.neighbour w v ≡ a → (o : Option ℕ) → advertises I v (view v) w ≡ o → RouterBelow I.n o → Heard v
        go false p o q b = absurd (omega (arith, from-stranger N I w v (view v) p))
        go true p none q b =
            absurd (omega (arith, from-neighbour N I w v (view v) p ∙ ap (told_key N v) q ∙ told-nothing N v))
        go true p (some e) q b =
            let k : key v ≡ route_key (N.to e) e v = from-neighbour N I w v (view v) p ∙ ap (told_key N v) q ∙ told-egress N v e in
            record {
              egress = e;
              router = b;
              hears-it = hears-intro I view w v e p q (near-way e (omega (arith, key-is (N.to e) e v)));
            }

    -- the route of the least key is the nearest
    abbrev least : ℕ
    least = least_key N I w view I.n

    pub none-chosen : no_key N ≤ least → ChoiceIs (nearer I w) (hears I view w) I.n nothing
    none-chosen l v f m b = go (hears I view w v f) refl
      where
        go : (a : Bool) → hears I view w v f ≡ a → hears I view w v f ≡ false
        go true h = absurd (omega (arith, heard-low v f m b h, least-le I.n v m))
        go false h = h

    module _ (s : ℕ) (l : s < I.n) (same : least ≡ key s) (x : Heard s) where
      abbrev e : ℕ
      e = x.egress

      -- no key that is heard is lower
      unbeaten : (v f : ℕ) → v < I.n → hears I view w v f ≡ true → route_key (N.to e) e s ≤ route_key (N.to f) f v
      unbeaten v f m h = omega (arith, least-le I.n v m, heard-key s e x.hears-it, heard-key v f h)

      way-e : I.way w e ≡ true
      way-e = hears-way I view w s e x.hears-it

      preferred : (v f : ℕ) → v < I.n → f < I.n → hears I view w v f ≡ true → nearer I w f e ≡ false
      preferred v f m b h =
          let near : N.to e * 65536 + e * 256 ≤ N.to f * 65536 + f * 256 + 64 =
          omega (arith, unbeaten v f m h, key-is (N.to e) e s, key-is (N.to f) f v, mark-below f v (omega arith)) in
          go near (lt-or-le (N.to e) (N.to f))
        where
          to-e : I.dist w e ≡ N.to e
          to-e = far e way-e

          to-f : I.dist w f ≡ N.to f
          to-f = far f (hears-way I view w v f h)

          go : N.to e * 65536 + e * 256 ≤ N.to f * 65536 + f * 256 + 64 → (N.to e < N.to f) ⊎ (N.to f ≤ N.to e) → nearer I w f e ≡ false
          go near (inl d) = nearer-larger I w f e (omega (arith, to-e, to-f))
          go near (inr d) =
              let same-far : I.dist w f ≡ I.dist w e = omega (arith, to-e, to-f) in
              nearer-tie I w f e same-far ∙ le-ltb f e (omega arith)

      -- of the same egress, the sender's mark is the least
      marked : (v : ℕ) → v < I.n → hears I view w v e ≡ true → sender_mark e s ≤ sender_mark e v
      marked v m h = omega (arith, unbeaten v e m h, key-is (N.to e) e s, key-is (N.to e) e v)

      itself : hears I view w e e ≡ true → (e ≡ s) ⊎ (e ≡ s → ⊥) → s ≡ e
      itself h (inl q) = sym q
      itself h (inr d) = absurd (omega (arith, marked e x.router h, mark-itself e e refl, mark-other e s d))

      -- where the egress itself does not tell it, no sender is the egress
      other : hears I view w e e ≡ false → (v : ℕ) → hears I view w v e ≡ true → e ≡ v → ⊥
      other q v h d = not-both (hears I view w e e) (ap (λ u. hears I view w u e) d ∙ h) q

      lowest : hears I view w e e ≡ false → (v : ℕ) → v < I.n → hears I view w v e ≡ true → s ≤ v
      lowest q v m h = omega (arith, marked v m h, mark-other e s (other q s x.hears-it), mark-other e v (other q v h))

      chosen : ChoiceIs (nearer I w) (hears I view w) I.n (via e s)
      chosen =
          record {
            egress = x.router;
            sender = l;
            told = x.hears-it;
            unbeaten = preferred;
            itself = λ h. itself h (eq-or-ne e s);
            lowest = lowest;
          }

      key-chosen : key_route N least ≡ via e s
      key-chosen =
          ap (key_route N) (same ∙ heard-key s e x.hears-it)
          ∙ key_back (N.to e) e s (omega (arith, x.router)) (omega arith) N (way-near e way-e)

    pub least-nearest : key_route N least ≡ choice (nearer I w) (hears I view w) I.n
    least-nearest = go (lt-or-le least (no_key N))
      where
        nearest : Route
        nearest = choice (nearer I w) (hears I view w) I.n

        is-nearest : (x : Route) → ChoiceIs (nearer I w) (hears I view w) I.n x → x ≡ nearest
        is-nearest x h =
            choice-unique (nearer I w) (hears I view w) I.n (nearer-order I w) x nearest h
            (choice-is (nearer I w) (hears I view w) I.n (nearer-order I w))

        go : (least < no_key N) ⊎ (no_key N ≤ least) → key_route N least ≡ nearest
        go (inl l) =
            let f : Least I.n = least_at I.n l in
            let x : Heard f.at = low-heard f.at f.below (omega (arith, f.same)) in
            key-chosen f.at f.below f.same x ∙ is-nearest (via x.egress f.at) (chosen f.at f.below f.same x)
        go (inr l) = key-none N least l ∙ is-nearest nothing (none-chosen l)

-- a route in two bytes that names routers below n
module _ (n e s : ℕ) (small : n ≤ 64) (b : RouteBelow n (read_route e s)) where
  pub route-none : e ≡ 255 → read_route e s ≡ nothing
  unfolding read_route
  route-none h = go (eqb s 255) refl b
    where
      go : (p : Bool) → eqb s 255 ≡ p → RouteBelow n (cond (eqb e 255 && eqb s 255) nothing (via e s)) → read_route e s ≡ nothing
      go true p c = cc (eq-eqb e 255 h)
      go false p c = let l : RouteBelow n (via e s) = rw (p, and-false (eqb e 255)) at c in absurd (omega (arith, l.0))

  pub route-some : (e ≡ 255 → ⊥) → (e < n) × (s < n)
  route-some d = rw (read-via e s d) at b
