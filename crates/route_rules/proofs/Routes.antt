-- The choice that an activation leaves: the best route advertised, and from whom.
use Prim.Native.Nat.{ℕ, ◌<◌, ◌≤◌}
use native.Mathlib.Omega.{arith}
use mathlib.Core.Path.{◌≡◌, refl, ◌∙◌, sym, ap}
use mathlib.Core.Bool.{Bool, true, false, cond, ◌&&◌}
use mathlib.Core.Option.{Option, none, some}
use mathlib.Core.List.{List, [], ◌∷◌, ◌++◌, foldl-append}
use mathlib.Core.Logic.{◌⊎◌, inl, inr}
use lib.Dec.{ltb, eqb}
use lib.ListN.{length, length-set}
use lib.Seq.{get_or-set_same, get_or-set_other, set_out}
use borrow.Author.Tests.{ltb-false, lt-ltb, eqb-true, eq-eqb, ne_eqb}
use Rattle.base.proofs.Numbers.{both_left, both_right, not-both, eq-or-ne, lt-or-le}
use Rattle.base.specs.Below.{any_below}
use Rattle.base.proofs.Below.{Witness, any_at, any_found, all-at, all-intro}
use Rattle.base.specs.Best.{best}
use Rattle.base.proofs.Best.{StrictOrder, BestIs, IsBest, best-is, order_same, ltb-order}
use Rattle.route_rules.specs.Instance.{Instance, Route, nothing, via, is_router}
use Rattle.route_rules.specs.Preference.{prefers_by}
use Rattle.route_rules.specs.Activation.{reflects, advertises, Advertising, hears, Hearing, heard_direct, sender_of, route_from, route_to, choice, choose, EntryTells, held, entry_ok, table_ok, activate, run_acts}
use Rattle.route_rules.proofs.Preference.{prefers_by-order, prefers_by-alike}

pub is_router-same : (v : ℕ) (o : Option ℕ) → is_router v o ≡ true → o ≡ some v
is_router-same v none h = not-both false h refl
is_router-same v (some e) h = ap some (eqb-true e v h)

pub is_router-some : (v : ℕ) → is_router v (some v) ≡ true
is_router-some v = eq-eqb v v refl

module _ (I : Instance) where
  -- what each kind of router advertises
  pub advertises-listed : (v : ℕ) (x : Route) (w : ℕ) → I.listed v ≡ true → advertises I v x w ≡ some v
  unfolding advertises
  advertises-listed v x w h = cc

  pub advertises-client : (v : ℕ) (x : Route) (w : ℕ) → I.listed v ≡ false → I.reflector v ≡ false → advertises I v x w ≡ none
  unfolding advertises
  advertises-client v x w h r = cc

  pub advertises-reflector :
      (v : ℕ) (x : Route) (w : ℕ) → I.listed v ≡ false → I.reflector v ≡ true → advertises I v x w ≡ reflects I v x w
  unfolding advertises
  advertises-reflector v x w h r = cc

  -- what a reflector passes on, case by case
  pub reflects-nothing : (v w : ℕ) → reflects I v nothing w ≡ none
  unfolding reflects
  reflects-nothing v w = refl

  module _ (v e s w : ℕ) where
    pub reflects-apart : I.reflector s ≡ true → I.reflector w ≡ true → reflects I v (via e s) w ≡ none
    unfolding reflects
    reflects-apart p q = cc

    pub reflects-down : I.reflector s ≡ true → I.reflector w ≡ false → reflects I v (via e s) w ≡ some e
    unfolding reflects
    reflects-down p q = cc

    pub reflects-up : I.reflector s ≡ false → I.skips v ≡ true → I.reflector w ≡ true → reflects I v (via e s) w ≡ some e
    unfolding reflects
    reflects-up p k q = cc

    pub reflects-skips : I.reflector s ≡ false → I.skips v ≡ true → I.reflector w ≡ false → reflects I v (via e s) w ≡ none
    unfolding reflects
    reflects-skips p k q = cc

    pub reflects-back : I.reflector s ≡ false → I.skips v ≡ false → s ≡ w → reflects I v (via e s) w ≡ none
    unfolding reflects
    reflects-back p k q = cc (eq-eqb s w q)

    pub reflects-on : I.reflector s ≡ false → I.skips v ≡ false → (s ≡ w → ⊥) → reflects I v (via e s) w ≡ some e
    unfolding reflects
    reflects-on p k q = cc (ne_eqb s w q)

  -- no reflector passes a client's route back to it, whether it skips its clients or not
  reflects-not-back : (v e s : ℕ) → I.reflector s ≡ false → reflects I v (via e s) s ≡ none
  reflects-not-back v e s p = go (I.skips v) refl
    where
      go : (b : Bool) → I.skips v ≡ b → reflects I v (via e s) s ≡ none
      go true k = reflects-skips v e s s p k p
      go false k = reflects-back v e s s p k refl

  -- what each router advertises, in plain facts
  pub advertising : (v : ℕ) → Advertising I v
  advertising v =
      record {
        listed = λ h x w. advertises-listed v x w h;
        client = λ h r x w. advertises-client v x w h r;
        holds-nothing = λ h r w. advertises-reflector v nothing w h r ∙ reflects-nothing v w;
        from-client = λ h r k e s w p d. advertises-reflector v (via e s) w h r ∙ reflects-on v e s w p k d;
        not_back = λ h r e s p. advertises-reflector v (via e s) s h r ∙ reflects-not-back v e s p;
        to-client = λ h r e s w p q. advertises-reflector v (via e s) w h r ∙ reflects-down v e s w p q;
        to-no-reflector = λ h r e s w p q. advertises-reflector v (via e s) w h r ∙ reflects-apart v e s w p q;
        skips-to-reflector = λ h r k e s w p q. advertises-reflector v (via e s) w h r ∙ reflects-up v e s w p k q;
        skips-its-clients = λ h r k e s w p q. advertises-reflector v (via e s) w h r ∙ reflects-skips v e s w p k q;
      }

  -- a route that comes from a client
  pub record FromClient (x : Route) (e : ℕ) : Type 0 where
    pub sender : ℕ
    pub holds : x ≡ via e sender
    pub client : I.reflector sender ≡ false

  -- what reaches a reflector through another comes from a client
  pub reflects-client : (v : ℕ) (x : Route) (w e : ℕ) → I.reflector w ≡ true → reflects I v x w ≡ some e → FromClient x e
  unfolding reflects
  reflects-client v nothing w e r h = let z : ◌≡◌ {A = ℕ} 0 1 = cc in absurd (omega arith)
  reflects-client v (via f s) w e r h = go (I.reflector s) refl (I.skips v) refl (eqb s w) refl
    where
      go : (a : Bool) → I.reflector s ≡ a → (k : Bool) → I.skips v ≡ k → (b : Bool) → eqb s w ≡ b → FromClient (via f s) e
      go true p k l b q = let z : ◌≡◌ {A = ℕ} 0 1 = cc in absurd (omega arith)
      go false p true l b q = record { sender = s; holds = cc; client = p }
      go false p false l true q = let z : ◌≡◌ {A = ℕ} 0 1 = cc in absurd (omega arith)
      go false p false l false q = record { sender = s; holds = cc; client = p }

  module _ (view : ℕ → Route) (w v e : ℕ) where
    pub hears-neighbour : hears I view w v e ≡ true → I.neighbour w v ≡ true
    unfolding hears
    hears-neighbour h = both_left (I.neighbour w v) _ (both_left _ (I.way w e) h)

    pub hears-told : hears I view w v e ≡ true → advertises I v (view v) w ≡ some e
    unfolding hears
    hears-told h = is_router-same e (advertises I v (view v) w) (both_right (I.neighbour w v) _ (both_left _ (I.way w e) h))

    pub hears-way : hears I view w v e ≡ true → I.way w e ≡ true
    unfolding hears
    hears-way h = both_right (I.neighbour w v && is_router e (advertises I v (view v) w)) (I.way w e) h

    pub hears-intro : I.neighbour w v ≡ true → advertises I v (view v) w ≡ some e → I.way w e ≡ true → hears I view w v e ≡ true
    unfolding hears
    hears-intro h q m = cc (is_router-some e)

    pub hearing : Hearing I view w v e
    hearing = record { heard = hears-intro; near = hears-neighbour; advertised = hears-told; way = hears-way }

-- `tells v e`: the router v tells e. All routers are below n.
module _ (prefer : ℕ → ℕ → Bool) (tells : ℕ → ℕ → Bool) (n : ℕ) where
  -- e is the best egress told, s the router to hear it from
  pub record IsChoice (e s : ℕ) : Type 0 where
    pub egress : e < n
    pub sender : s < n
    pub told : tells s e ≡ true
    pub unbeaten : (v f : ℕ) → v < n → f < n → tells v f ≡ true → prefer f e ≡ false
    -- the egress itself is the sender if it tells
    pub itself : tells e e ≡ true → s ≡ e
    -- else the lowest teller
    pub lowest : tells e e ≡ false → (v : ℕ) → v < n → tells v e ≡ true → s ≤ v

  -- .. and nothing exactly if nothing is told
  abbrev pub ChoiceIs : Route → Type 0
  ChoiceIs nothing = (v f : ℕ) → v < n → f < n → tells v f ≡ false
  ChoiceIs (via e s) = IsChoice e s

  told_none : (f : ℕ) → any_below (λ v. tells v f) n ≡ false → (v : ℕ) → v < n → tells v f ≡ false
  told_none f h v l = go (tells v f) refl
    where
      go : (b : Bool) → tells v f ≡ b → tells v f ≡ false
      go false e = e
      go true e = not-both (any_below (λ v. tells v f) n) (any_found (λ v. tells v f) n v l e) h

  module _ (e : ℕ) (h : IsBest prefer (λ e. any_below (λ v. tells v e) n) n e) where
    unbeaten-told : (v f : ℕ) → v < n → f < n → tells v f ≡ true → prefer f e ≡ false
    unbeaten-told v f l m p = h.unbeaten f m (any_found (λ v. tells v f) n v l p)

    from_itself : tells e e ≡ true → IsChoice e e
    from_itself p =
        record {
          egress = h.below;
          sender = h.below;
          told = p;
          unbeaten = unbeaten-told;
          itself = λ _. refl;
          lowest = λ q. not-both (tells e e) p q;
        }

    from_lowest : tells e e ≡ false → (b : Option ℕ) → BestIs ltb (λ v. tells v e) n b → ChoiceIs (route_from e b)
    from_lowest p none g =
        let w : Witness (λ v. tells v e) n = any_at (λ v. tells v e) n h.among in
        not-both (tells w.at e) w.holds (g w.at w.below)
    from_lowest p (some s) g =
        record {
          egress = h.below;
          sender = g.below;
          told = g.among;
          unbeaten = unbeaten-told;
          itself = λ q. not-both (tells e e) q p;
          lowest = λ _ v l q. ltb-false v s (g.unbeaten v l q);
        }

    from-sender : (b : Bool) → tells e e ≡ b → ChoiceIs (route_from e (cond b (some e) (best ltb (λ v. tells v e) n)))
    from-sender true p = from_itself p
    from-sender false p = from_lowest p (best ltb (λ v. tells v e) n) (best-is ltb ltb-order (λ v. tells v e) n)

  choice-of : (b : Option ℕ) → BestIs prefer (λ e. any_below (λ v. tells v e) n) n b → ChoiceIs (route_to tells n b)
  unfolding route_to sender_of
  choice-of none h = λ v f l m. told_none f (h f m) v l
  choice-of (some e) h = from-sender e h (tells e e) refl

  module _ (o : StrictOrder prefer) where
    pub choice-is : ChoiceIs (choice prefer tells n)
    unfolding choice
    choice-is = choice-of (best prefer (λ e. any_below (λ v. tells v e) n) n) (best-is prefer o (λ e. any_below (λ v. tells v e) n) n)

    same-sender : (e s r : ℕ) → IsChoice e s → IsChoice e r → s ≡ r
    same-sender e s r g h = go (tells e e) refl
      where
        go : (b : Bool) → tells e e ≡ b → s ≡ r
        go true p = g.itself p ∙ sym (h.itself p)
        go false p = omega (arith, g.lowest p r h.sender h.told, h.lowest p s g.sender g.told)

    pub choice-unique : (x y : Route) → ChoiceIs x → ChoiceIs y → x ≡ y
    choice-unique nothing nothing g h = refl
    choice-unique nothing (via e s) g h = not-both (tells s e) h.told (g s e h.sender h.egress)
    choice-unique (via e s) nothing g h = not-both (tells s e) g.told (h s e g.sender g.egress)
    choice-unique (via e s) (via f r) g h =
        let q : e ≡ f = order_same prefer o e f (h.unbeaten s e g.sender g.egress g.told) (g.unbeaten r f h.sender h.egress h.told) in
        let k : IsChoice e r = rw q h in
        let p : s ≡ r = same-sender e s r g k in
        cc

module _ (I : Instance) (w : ℕ) (view : ℕ → Route) where
  -- a listed router is left its own route
  pub choose-listed : I.listed w ≡ true → choose I w view ≡ via w w
  unfolding choose
  choose-listed h = cc

  -- any other the best egress that it hears, from the egress itself if that tells and else from the lowest teller, and nothing if it hears nothing
  pub choose-is : I.listed w ≡ false → ChoiceIs (prefers_by I w (heard_direct I view w)) (hears I view w) I.n (choose I w view)
  unfolding choose
  choose-is h =
      rw h (choice-is (prefers_by I w (heard_direct I view w)) (hears I view w) I.n (prefers_by-order I w (heard_direct I view w)))

-- an entry that a router leaves itself says whether the egress told it
pub entry-tells : (I : Instance) → EntryTells I
entry-tells I w view unlisted e s h = go (heard_direct I view w e) refl
  where
    c : IsChoice (prefers_by I w (heard_direct I view w)) (hears I view w) I.n e s
    c = rw h at (choose-is I w view unlisted)

    go : (b : Bool) → heard_direct I view w e ≡ b → heard_direct I view w e ≡ eqb s e
    go true p = p ∙ sym (eq-eqb s e (c.itself p))
    go false p =
        p ∙ sym (ne_eqb s e (λ q. not-both (hears I view w e e) (ap (λ v. hears I view w v e) (sym q) ∙ c.told) p))

-- What w chooses depends on what it is told alone: equal advertisements, equal choice.
module _ (I : Instance) (w : ℕ) (f g : ℕ → Route) (same : (v : ℕ) → v < I.n → advertises I v (f v) w ≡ advertises I v (g v) w) where
  hears-same : (v e : ℕ) → v < I.n → hears I f w v e ≡ hears I g w v e
  unfolding hears
  hears-same v e l = ap (λ o. I.neighbour w v && is_router e o && I.way w e) (same v l)

  choice-same : (x : Route) → ChoiceIs (prefers_by I w (heard_direct I f w)) (hears I f w) I.n x
      → ChoiceIs (prefers_by I w (heard_direct I g w)) (hears I g w) I.n x
  choice-same nothing c = λ v e l m. sym (hears-same v e l) ∙ c v e l m
  choice-same (via e s) c =
      record {
        egress = c.egress;
        sender = c.sender;
        told = sym (hears-same s e c.sender) ∙ c.told;
        unbeaten = λ v k l m h.
            sym (prefers_by-alike I w (heard_direct I f w) (heard_direct I g w) k e (hears-same k k m) (hears-same e e c.egress))
            ∙ c.unbeaten v k l m (hears-same v k l ∙ h);
        itself = λ h. c.itself (hears-same e e c.egress ∙ h);
        lowest = λ h v l p. c.lowest (hears-same e e c.egress ∙ h) v l (hears-same v e l ∙ p);
      }

  pub choose-told : choose I w f ≡ choose I w g
  choose-told = go (I.listed w) refl
    where
      go : (b : Bool) → I.listed w ≡ b → choose I w f ≡ choose I w g
      go true p = choose-listed I w f p ∙ sym (choose-listed I w g p)
      go false p =
          choice-unique (prefers_by I w (heard_direct I g w)) (hears I g w) I.n (prefers_by-order I w (heard_direct I g w))
          (choose I w f) (choose I w g) (choice-same (choose I w f) (choose-is I w f p)) (choose-is I w g p)

module _ (I : Instance) where
  -- an activation changes no entry but the router's own
  pub activate-other : (w : ℕ) (t : List Route) (v : ℕ) → (v ≡ w → ⊥) → held (activate I w t) v ≡ held t v
  unfolding activate
  activate-other w t v d = get_or-set_other t w v _ nothing d

  -- .. and leaves there what the router chooses
  pub activate-own : (w : ℕ) (t : List Route) → w < length t → held (activate I w t) w ≡ choose I w (held t)
  unfolding activate
  activate-own w t l = get_or-set_same t w _ nothing l

  pub activate-length : (w : ℕ) (t : List Route) → length (activate I w t) ≡ length t
  unfolding activate
  activate-length w t = length-set t w _

  pub activate-none : (w : ℕ) (t : List Route) → length t ≤ w → activate I w t ≡ t
  unfolding activate
  activate-none w t l = set_out t w _ l

  -- .. which the rule of a routing table allows
  pub choose-ok : (w : ℕ) (view : ℕ → Route) → entry_ok I w (choose I w view) ≡ true
  unfolding entry_ok
  choose-ok w view = go (I.listed w) refl
    where
      other : I.listed w ≡ false → (x : Route) → ChoiceIs (prefers_by I w (heard_direct I view w)) (hears I view w) I.n x → entry_ok I w x ≡ true
      other p nothing g = cc
      other p (via e s) g = cc (lt-ltb e I.n g.egress, hears-neighbour I view w s e g.told)

      go : (b : Bool) → I.listed w ≡ b → entry_ok I w (choose I w view) ≡ true
      go true p = ap (entry_ok I w) (choose-listed I w view p) ∙ cc (eq-eqb w w refl)
      go false p = other p (choose I w view) (choose-is I w view p)

  -- an activation leaves a routing table a routing table
  pub activate-ok : (w : ℕ) (t : List Route) → table_ok I t ≡ true → table_ok I (activate I w t) ≡ true
  unfolding table_ok
  activate-ok w t h = all-intro (λ v. entry_ok I v (held (activate I w t) v)) I.n (λ v l. go v l (eq-or-ne v w) (lt-or-le w (length t)))
    where
      before : (v : ℕ) → v < I.n → entry_ok I v (held t v) ≡ true
      before v l = all-at (λ v. entry_ok I v (held t v)) I.n h v l

      go : (v : ℕ) → v < I.n → (v ≡ w) ⊎ (v ≡ w → ⊥) → (w < length t) ⊎ (length t ≤ w) → entry_ok I v (held (activate I w t) v) ≡ true
      go v l (inr d) m = ap (entry_ok I v) (activate-other w t v d) ∙ before v l
      go v l (inl e) (inr m) = ap (λ u. entry_ok I v (held u v)) (activate-none w t m) ∙ before v l
      go v l (inl e) (inl m) = rw e (ap (entry_ok I w) (activate-own w t m) ∙ choose-ok w (held t))

  pub run_length : (t : List Route) (acts : List ℕ) → length (run_acts I t acts) ≡ length t
  unfolding run_acts
  run_length t [] = refl
  run_length t (w ∷ acts) = run_length (activate I w t) acts ∙ activate-length w t

  -- two sequences run one after the other
  pub run-append : (t : List Route) (acts more : List ℕ) → run_acts I t (acts ++ more) ≡ run_acts I (run_acts I t acts) more
  unfolding run_acts
  run-append t acts more = foldl-append (λ u w. activate I w u) t acts more
