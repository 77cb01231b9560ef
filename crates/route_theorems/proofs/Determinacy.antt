-- What a router chooses is determined by what the neighbours that it relies on hold, if the entries of all its neighbours are clean.
use Prim.Native.Nat.{ℕ, ◌<◌}
use native.Mathlib.Omega.{arith}
use mathlib.Core.Path.{◌≡◌, refl, ◌∙◌, sym, ap}
use mathlib.Core.Bool.{Bool, true, false, not, ◌&&◌, and-false}
use mathlib.Core.Option.{Option, none, some}
use mathlib.Core.Logic.{◌⊎◌, inl, inr, ⊎_elim}
use Rattle.base.proofs.Numbers.{both_left, both_right, eq-or-ne, not-both, true-or-false}
use Rattle.base.proofs.Best.{StrictOrder, IsBest, order-not-trans}
use Rattle.route_rules.specs.Instance.{Instance, Route, nothing, via}
use Rattle.route_rules.specs.Preference.{nearer, has_step, hops, prefers, prefers_by}
use Rattle.route_rules.specs.Reliance.{listed_client_of, best_client, offer, better_offer, relies}
use Rattle.route_rules.specs.Activation.{advertises, hears, heard_direct, choose}
use Rattle.route_rules.proofs.Preference.{client-without, prefers-tie, prefers_by-order, prefers_by-alike, prefers_by-without}
use Rattle.route_rules.proofs.Reliance.{best_client-is, client-no-reflector, client-neighbour, client-listed, client-way, client-intro}
use Rattle.route_rules.proofs.Reliance.{offer-unlisted, relies-client, relies-offer, better-any, better-both}
use Rattle.route_rules.proofs.Routes.{is_router-some, advertises-listed, advertises-client, advertises-reflector, FromClient, reflects-client}
use Rattle.route_rules.proofs.Routes.{hears-neighbour, hears-told, hears-way, hears-intro, IsChoice, ChoiceIs, choice-unique, choose-listed, choose-is}
use Rattle.route_theorems.proofs.Clean.{CleanEntry, hears-client}

-- an anchor exists, and f is not preferred to it
record Beaten (prefer : ℕ → ℕ → Bool) (anchor : Option ℕ) (f : ℕ) : Type 0 where
  by : ℕ
  is : anchor ≡ some by
  beaten : prefer f by ≡ false

-- the anchor is told by its own egress
record Anchored (tells : ℕ → ℕ → Bool) (n c : ℕ) : Type 0 where
  below : c < n
  told : tells c c ≡ true

-- whatever A tells, B tells too, or it is beaten by the anchor
abbrev Covers : (ℕ → ℕ → Bool) → Option ℕ → ℕ → (ℕ → ℕ → Bool) → (ℕ → ℕ → Bool) → Type 0
Covers prefer anchor n A B = (v f : ℕ) → v < n → f < n → A v f ≡ true → (B v f ≡ true) ⊎ Beaten prefer anchor f

-- Two tellings that differ only in what an anchor beats, which its own egress tells in both, lead to one choice.
module _ (prefer : ℕ → ℕ → Bool) (o : StrictOrder prefer) (anchor : Option ℕ) (n : ℕ) (A B : ℕ → ℕ → Bool)
    (A-anchored : (c : ℕ) → anchor ≡ some c → Anchored A n c) (B-anchored : (c : ℕ) → anchor ≡ some c → Anchored B n c)
    (A-B : Covers prefer anchor n A B) (B-A : Covers prefer anchor n B A) where
  -- what B tells is not preferred to what is best in A
  still-unbeaten : (e s : ℕ) → IsChoice prefer A n e s → (v f : ℕ) → v < n → f < n → B v f ≡ true → prefer f e ≡ false
  still-unbeaten e s g v f l m h = go (B-A v f l m h)
    where
      go : (A v f ≡ true) ⊎ Beaten prefer anchor f → prefer f e ≡ false
      go (inl p) = g.unbeaten v f l m p
      go (inr b) =
          let a : Anchored A n b.by = A-anchored b.by b.is in
          order-not-trans prefer o f b.by e b.beaten (g.unbeaten b.by b.by a.below a.below a.told)

  -- the anchor itself is best
  by-anchor : (e s : ℕ) → anchor ≡ some e → IsChoice prefer A n e s → IsChoice prefer B n e s
  by-anchor e s q g =
      let p : s ≡ e = g.itself (A-anchored e q).told in
      let b : B e e ≡ true = (B-anchored e q).told in
      record {
        egress = g.egress;
        sender = g.sender;
        told = ap (λ z. B z e) p ∙ b;
        unbeaten = still-unbeaten e s g;
        itself = λ _. p;
        lowest = λ h. not-both (B e e) b h;
      }

  -- what the anchor does not beat is told alike
  module _ (e s : ℕ) (free : Beaten prefer anchor e → ⊥) (g : IsChoice prefer A n e s) where
    A→B : (v : ℕ) → v < n → A v e ≡ true → B v e ≡ true
    A→B v l h = ⊎_elim (λ p. p) (λ b. absurd (free b)) (A-B v e l g.egress h)

    B→A : (v : ℕ) → v < n → B v e ≡ true → A v e ≡ true
    B→A v l h = ⊎_elim (λ p. p) (λ b. absurd (free b)) (B-A v e l g.egress h)

    not-A : B e e ≡ false → A e e ≡ false
    not-A h = ⊎_elim (λ p. not-both (B e e) (A→B e g.egress p) h) (λ p. p) (true-or-false (A e e))

    alike : IsChoice prefer B n e s
    alike =
        record {
          egress = g.egress;
          sender = g.sender;
          told = A→B s g.sender g.told;
          unbeaten = still-unbeaten e s g;
          itself = λ h. g.itself (B→A e g.egress h);
          lowest = λ h v l p. g.lowest (not-A h) v l (B→A v l p);
        }

  same-choice : (x : Route) → ChoiceIs prefer A n x → ChoiceIs prefer B n x
  same-choice nothing g = λ v f l m. ⊎_elim (λ p. silent v f l m (B-A v f l m p)) (λ p. p) (true-or-false (B v f))
    where
      silent : (v f : ℕ) → v < n → f < n → (A v f ≡ true) ⊎ Beaten prefer anchor f → B v f ≡ false
      silent v f l m (inl p) = not-both (A v f) p (g v f l m)
      silent v f l m (inr b) =
          let a : Anchored A n b.by = A-anchored b.by b.is in
          not-both (A b.by b.by) a.told (g b.by b.by a.below a.below)
  same-choice (via e s) g = go anchor refl
    where
      apart : (c : ℕ) → anchor ≡ some c → (e ≡ c → ⊥) → Beaten prefer anchor e → ⊥
      apart c q d b =
          let p : c ≡ b.by = cc b.is in
          let a : Anchored A n c = A-anchored c q in
          let r : prefer c e ≡ false = g.unbeaten c c a.below a.below a.told in
          let u : prefer e c ≡ true = o.exactly_one e c d ∙ ap not r in
          not-both (prefer e c) u (ap (prefer e) p ∙ b.beaten)

      free : anchor ≡ none → Beaten prefer anchor e → ⊥
      free q b = let z : ◌≡◌ {A = ℕ} 0 1 = cc b.is in omega arith

      go : (k : Option ℕ) → anchor ≡ k → IsChoice prefer B n e s
      go none q = alike e s (free q) g
      go (some c) q =
          ⊎_elim (λ (p : e ≡ c). by-anchor e s (q ∙ ap some (sym p)) g) (λ (p : e ≡ c → ⊥). alike e s (apart c q p) g) (eq-or-ne e c)

-- a choice by an order is one by any that agrees with it below n
choice-by : (prefer other : ℕ → ℕ → Bool) (tells : ℕ → ℕ → Bool) (n : ℕ) → ((e f : ℕ) → e < n → f < n → prefer e f ≡ other e f)
    → (x : Route) → ChoiceIs prefer tells n x → ChoiceIs other tells n x
choice-by prefer other tells n agree nothing g = g
choice-by prefer other tells n agree (via e s) g =
    record {
      egress = g.egress;
      sender = g.sender;
      told = g.told;
      unbeaten = λ v f l m h. sym (agree f e m g.egress) ∙ g.unbeaten v f l m h;
      itself = g.itself;
      lowest = g.lowest;
    }

-- e is listed, and w neighbours it and has a way to it
unfoldable listed_neighbour : Instance → ℕ → ℕ → Bool
listed_neighbour I w e = I.neighbour w e && I.listed e && I.way w e

-- of w's neighbours every entry that w sees is clean
abbrev pub CleanAround : Instance → ℕ → (ℕ → Route) → Type 0
CleanAround I w view = (v : ℕ) → v < I.n → I.neighbour w v ≡ true → CleanEntry I v (view v)

module _ (I : Instance) (w : ℕ) where
  -- the order of its choice where all entries that w sees are clean
  abbrev settled_order : ℕ → ℕ → Bool
  settled_order = prefers_by I w (listed_neighbour I w)

  -- A reflector that sees clean entries is told by its own egress exactly what its listed neighbours tell: no other reflector passes on to
  -- it a route to itself.
  module _ (view : ℕ → Route) (role : I.reflector w ≡ true) (e : ℕ) (clean : I.neighbour w e ≡ true → CleanEntry I e (view e)) where
    not_itself : I.listed e ≡ false → hears I view w e e ≡ true → ⊥
    not_itself p h = go (I.reflector e) refl
      where
        told : advertises I e (view e) w ≡ some e
        told = hears-told I view w e e h

        go : (b : Bool) → I.reflector e ≡ b → ⊥
        go false r =
            let q : ◌≡◌ {A = Option ℕ} none (some e) = sym (advertises-client I e (view e) w p r) ∙ told in
            let z : ◌≡◌ {A = ℕ} 0 1 = cc in
            omega arith
        go true r =
            let f : FromClient I (view e) e = reflects-client I e (view e) w e role (sym (advertises-reflector I e (view e) w p r) ∙ told) in
            let b : IsBest (nearer I e) (listed_client_of I e) I.n e
            = rw (clean (hears-neighbour I view w e e h) e f.sender f.holds p r f.client) at (best_client-is I e) in
            not-both (I.reflector e) r (client-no-reflector I e e b.among)

    clean-direct : heard_direct I view w e ≡ listed_neighbour I w e
    unfolding listed_neighbour hears
    clean-direct = go (I.listed e) refl (hears I view w e e) refl
      where
        go : (a : Bool) → I.listed e ≡ a → (b : Bool) → hears I view w e e ≡ b → heard_direct I view w e ≡ listed_neighbour I w e
        go true p b q = cc (advertises-listed I e (view e) w p, is_router-some e)
        go false p true q = absurd (not_itself p q)
        go false p false q = cc (and-false (I.neighbour w e))

  -- .. and at a client who tells a route plays no part
  order_is : (view : ℕ → Route) → CleanAround I w view → (e f : ℕ) → e < I.n → f < I.n
      → prefers_by I w (heard_direct I view w) e f ≡ settled_order e f
  order_is view clean e f l m = go (I.reflector w) refl
    where
      go : (b : Bool) → I.reflector w ≡ b → prefers_by I w (heard_direct I view w) e f ≡ settled_order e f
      go true r =
          prefers_by-alike I w (heard_direct I view w) (listed_neighbour I w) e f (clean-direct view r e (clean e l)) (clean-direct view r f (clean f m))
      go false r =
          let h : has_step I w ≡ false = client-without I w r in
          prefers_by-without I w h (heard_direct I view w) e f ∙ sym (prefers_by-without I w h (listed_neighbour I w) e f)

module _ (I : Instance) (w : ℕ) (unlisted : I.listed w ≡ false) where
  -- the best client is listed, and tells its own route whatever the view
  own-best : (c : ℕ) → best_client I w ≡ some c → IsBest (nearer I w) (listed_client_of I w) I.n c
  own-best c q = rw q at (best_client-is I w)

  anchored : (t : ℕ → Route) (c : ℕ) → best_client I w ≡ some c → Anchored (hears I t w) I.n c
  anchored t c q = let b = own-best c q in record { below = b.below; told = hears-client I t w c b.among }

  -- what a reflector passes on and w, with the best client c, does not rely on
  passed-on-beaten : (v e c : ℕ) → best_client I v ≡ some e → best_client I w ≡ some c → prefers I w e false c true ≡ false
      → settled_order I w e c ≡ false
  unfolding prefers_by listed_neighbour
  passed-on-beaten v e c offered own h = go (listed_neighbour I w e) refl
    where
      theirs : IsBest (nearer I v) (listed_client_of I v) I.n e
      theirs = rw offered at (best_client-is I v)

      b : IsBest (nearer I w) (listed_client_of I w) I.n c
      b = own-best c own

      direct : listed_neighbour I w c ≡ true
      direct = cc (client-neighbour I w c b.among, client-listed I w c b.among, client-way I w c b.among)

      -- e is a client of w too
      shared : listed_neighbour I w e ≡ true → listed_client_of I w e ≡ true
      shared p =
          client-intro I w e (both_left (I.neighbour w e) (I.listed e) (both_left _ (I.way w e) p))
          (both_right (I.neighbour w e) (I.listed e) (both_left _ (I.way w e) p)) (client-no-reflector I v e theirs.among)
          (both_right (I.neighbour w e && I.listed e) (I.way w e) p)

      go : (a : Bool) → listed_neighbour I w e ≡ a → prefers I w e (listed_neighbour I w e) c (listed_neighbour I w c) ≡ false
      go true p = prefers-tie I w e _ c _ (ap (hops I w) (p ∙ sym direct)) ∙ b.unbeaten e theirs.below (shared p)
      go false p = rw (p, direct) h

  -- what w sees in one view and not in another, from a router that it does not rely on, its best client beats
  module _ (t u : ℕ → Route) (v e : ℕ) (clean : CleanEntry I v (t v)) (agree : relies I w v ≡ true → t v ≡ u v) (h : hears I t w v e ≡ true) where
    -- v tells the same whatever it holds
    told-anyway : advertises I v (t v) w ≡ advertises I v (u v) w → hears I u w v e ≡ true
    told-anyway q = hears-intro I u w v e (hears-neighbour I t w v e h) (sym q ∙ hears-told I t w v e h) (hears-way I t w v e h)

    -- a reflector's offer that w does not rely on
    offered : I.listed v ≡ false → I.reflector v ≡ true → I.reflector w ≡ true → relies I w v ≡ false
        → Beaten (settled_order I w) (best_client I w) e
    offered p r k q = go (best_client I w) refl (sym same ∙ q)
      where
        f : FromClient I (t v) e
        f = reflects-client I v (t v) w e k (sym (advertises-reflector I v (t v) w p r) ∙ hears-told I t w v e h)

        theirs : best_client I v ≡ some e
        theirs = clean e f.sender f.holds p r f.client

        offers : offer I v ≡ some e
        offers = offer-unlisted I v p ∙ theirs

        same : relies I w v ≡ better_offer I w false (some e) (best_client I w)
        same = relies-offer I w v unlisted k r ∙ cc (offers, hears-neighbour I t w v e h)

        go : (b : Option ℕ) → best_client I w ≡ b → better_offer I w false (some e) (best_client I w) ≡ false
            → Beaten (settled_order I w) (best_client I w) e
        go none b z =
            not-both (better_offer I w false (some e) (best_client I w))
            (ap (better_offer I w false (some e)) b ∙ better-any I w false e (hears-way I t w v e h)) z
        go (some c) b z =
            record {
              by = c;
              is = b;
              beaten =
                  passed-on-beaten v e c theirs b
                  (sym (ap (better_offer I w false (some e)) b ∙ better-both I w false e c (hears-way I t w v e h)) ∙ z);
            }

    covered : (hears I u w v e ≡ true) ⊎ Beaten (settled_order I w) (best_client I w) e
    covered = go (relies I w v) refl (I.listed v) refl (I.reflector v) refl (I.reflector w) refl
      where
        Covered : Type 0
        Covered = (hears I u w v e ≡ true) ⊎ Beaten (settled_order I w) (best_client I w) e

        go : (a : Bool) → relies I w v ≡ a → (b : Bool) → I.listed v ≡ b → (c : Bool) → I.reflector v ≡ c → (d : Bool) → I.reflector w ≡ d → Covered
        go true p b q c r d s = inl (told-anyway (ap (λ x. advertises I v x w) (agree p)))
        go false p true q c r d s = inl (told-anyway (advertises-listed I v (t v) w q ∙ sym (advertises-listed I v (u v) w q)))
        go false p false q false r d s = inl (told-anyway (advertises-client I v (t v) w q r ∙ sym (advertises-client I v (u v) w q r)))
        go false p false q true r true s = inr (offered q r s p)
        go false p false q true r false s =
            not-both (relies I w v) (relies-client I w v unlisted s ∙ cc (hears-neighbour I t w v e h)) p

module _ (I : Instance) (w : ℕ) (t u : ℕ → Route) where
  -- determinacy, over any two views
  pub determined : CleanAround I w t → CleanAround I w u
      → ((v : ℕ) → v < I.n → I.neighbour w v ≡ true → relies I w v ≡ true → t v ≡ u v) → choose I w t ≡ choose I w u
  determined clean-t clean-u agree = go (I.listed w) refl
    where
      -- what w chooses by a clean view, in the one order of all of them
      chosen : I.listed w ≡ false → (view : ℕ → Route) → CleanAround I w view
          → ChoiceIs (settled_order I w) (hears I view w) I.n (choose I w view)
      chosen p view clean =
          choice-by _ (settled_order I w) (hears I view w) I.n (order_is I w view clean) (choose I w view) (choose-is I w view p)

      ordered : StrictOrder (settled_order I w)
      ordered = prefers_by-order I w (listed_neighbour I w)

      go : (b : Bool) → I.listed w ≡ b → choose I w t ≡ choose I w u
      go true p = choose-listed I w t p ∙ sym (choose-listed I w u p)
      go false p =
          choice-unique (settled_order I w) (hears I u w) I.n ordered (choose I w t) (choose I w u)
          (same-choice (settled_order I w) ordered (best_client I w) I.n (hears I t w) (hears I u w) (anchored I w p t) (anchored I w p u)
          (λ v f l m h. let a = hears-neighbour I t w v f h in covered I w p t u v f (clean-t v l a) (agree v l a) h)
          (λ v f l m h. let a = hears-neighbour I u w v f h in covered I w p u t v f (clean-u v l a) (λ r. sym (agree v l a r)) h)
          (choose I w t)
          (chosen p t clean-t))
          (chosen p u clean-u)

-- A router chooses by what it sees its neighbours hold, and by nothing else.
module _ (I : Instance) (w : ℕ) (t u : ℕ → Route) (same : (v : ℕ) → v < I.n → I.neighbour w v ≡ true → t v ≡ u v) where
  hears-same : (v e : ℕ) → v < I.n → hears I t w v e ≡ hears I u w v e
  unfolding hears
  hears-same v e l = go (I.neighbour w v) refl
    where
      go : (b : Bool) → I.neighbour w v ≡ b → hears I t w v e ≡ hears I u w v e
      go true p = cc (same v l p)
      go false p = cc

  pub neighbours-alone : choose I w t ≡ choose I w u
  neighbours-alone = go (I.listed w) refl
    where
      ordered : StrictOrder (prefers_by I w (heard_direct I u w))
      ordered = prefers_by-order I w (heard_direct I u w)

      go : (b : Bool) → I.listed w ≡ b → choose I w t ≡ choose I w u
      go true p = choose-listed I w t p ∙ sym (choose-listed I w u p)
      go false p =
          choice-unique (prefers_by I w (heard_direct I u w)) (hears I u w) I.n ordered (choose I w t) (choose I w u)
          (same-choice (prefers_by I w (heard_direct I u w)) ordered (best_client I w) I.n (hears I t w) (hears I u w) (anchored I w p t)
          (anchored I w p u) (λ v f l m h. inl (sym (hears-same v f l) ∙ h)) (λ v f l m h. inl (hears-same v f l ∙ h))
          (choose I w t)
          (choice-by _ _ (hears I t w) I.n
          (λ e f l m. prefers_by-alike I w (heard_direct I t w) (heard_direct I u w) e f (hears-same e e l) (hears-same f f m))
          (choose I w t)
          (choose-is I w t p)))
          (choose-is I w u p)
