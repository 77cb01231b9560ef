-- No chain of reliances leads from a reflector with the hop step back to it.
use Prim.Native.Nat.{ℕ, zero, suc, ◌≤◌, ◌<◌}
use native.Mathlib.Omega.{arith}
use mathlib.Core.Path.{◌≡◌, refl, ◌∙◌, sym, ap, ap₂}
use mathlib.Core.Bool.{Bool, true, false, cond, ◌&&◌, ◌||◌, and-false}
use mathlib.Core.Option.{Option, none, some}
use mathlib.Core.Logic.{◌⊎◌, inl, inr}
use Rattle.base.specs.Seek.{highest}
use Rattle.base.proofs.Best.{IsBest}
use Rattle.base.proofs.Numbers.{both_left, both_right, not-both}
use Rattle.base.proofs.Seek.{highest-under}
use Rattle.route_rules.specs.Instance.{Instance, Route, nothing, via, is_router}
use Rattle.route_rules.specs.Preference.{nearer, has_step, hops, prefers, prefers_by}
use Rattle.route_rules.specs.Activation.{reflects, advertises, hears, heard_direct, choice, choose}
use Rattle.route_rules.specs.Reliance.{listed_client_of, best_client, offer, better_offer, relies, with_hop}
use Rattle.route_rules.proofs.Preference.{client-without, prefers-passed, prefers_by-without}
use Rattle.route_rules.proofs.Reliance.{best_client-is, client-listed, offer-unlisted, relies-listed, relies-client, relies-own, relies-offer, better-no-offer, better-no-way, better-both}
use Rattle.route_rules.proofs.Reliance.{roles-best-client, roles-offer, roles-relies, roles-own, roles-direct, roles-any}
use Rattle.route_rules.proofs.Routes.{is_router-same}
use Rattle.route_theorems.specs.Claims.{Ranked}
use Rattle.route_theorems.specs.Nobody.{RankRule}
use Rattle.route_theorems.specs.HopStep.{Leads, last, more, StepBreaks, InCycle, with_list, EveryReflectorSteps, StableWhateverIsListed, OnlyTheStep}
use Rattle.route_theorems.proofs.Settling.{settles}
use Rattle.route_theorems.proofs.Uniqueness.{one-steady-table}

module _ (I : Instance) where
  -- who relies on another is unlisted
  relying-unlisted : (w v : ℕ) → relies I w v ≡ true → I.listed w ≡ false
  relying-unlisted w v h = go (I.listed w) refl
    where
      go : (b : Bool) → I.listed w ≡ b → I.listed w ≡ false
      go true p = not-both (relies I w v) h (relies-listed I w v p)
      go false p = p

  -- who is relied on, and not listed, is a reflector
  relied-reflects : (w v : ℕ) → relies I w v ≡ true → I.listed v ≡ false → I.reflector v ≡ true
  relied-reflects w v h q = go (I.reflector v) refl (I.reflector w) refl
    where
      unlisted : I.listed w ≡ false
      unlisted = relying-unlisted w v h

      go : (a : Bool) → I.reflector v ≡ a → (b : Bool) → I.reflector w ≡ b → I.reflector v ≡ true
      go true p b r = p
      go false p true r =
          let own : best_client I w ≡ some v = is_router-same v (best_client I w) (sym (relies-own I w v unlisted r p) ∙ h) in
          let b : IsBest (nearer I w) (listed_client_of I w) I.n v = rw own at (best_client-is I w) in
          not-both (I.listed v) (client-listed I w v b.among) q
      go false p false r =
          let near : (I.reflector v || I.listed v) ≡ true
          = both_right (I.neighbour w v) (I.reflector v || I.listed v) (sym (relies-client I w v unlisted r) ∙ h) in
          not-both (I.reflector v || I.listed v) near (cc)

  -- a reflector without a best client offers nothing, and no reflector relies on it
  no-offer-relied : (u w : ℕ) → I.listed w ≡ false → best_client I w ≡ none → I.reflector u ≡ true → relies I u w ≡ false
  no-offer-relied u w p own r = go (relies I u w) refl
    where
      go : (b : Bool) → relies I u w ≡ b → relies I u w ≡ false
      go false h = h
      go true h =
          relies-offer I u w (relying-unlisted u w h) r (relied-reflects u w h p)
          ∙ cc (offer-unlisted I w p, better-no-offer I u (I.listed w) (best_client I u), and-false (I.neighbour u w))

  -- with the step a passed on offer does not count against an own best client
  passed-on : (w : ℕ) (o : Option ℕ) (c : ℕ) → has_step I w ≡ true → better_offer I w false o (some c) ≡ false
  passed-on w none c h = better-no-offer I w false (some c)
  passed-on w (some e) c h = go (I.way w e) refl
    where
      go : (b : Bool) → I.way w e ≡ b → better_offer I w false (some e) (some c) ≡ false
      go true p = better-both I w false e c p ∙ prefers-passed I w h e c
      go false p = better-no-way I w false e (some c) p

  has-role : (w : ℕ) → has_step I w ≡ true → I.reflector w ≡ true
  unfolding has_step
  has-role w h = both_left (I.reflector w) (I.hop w) h

  -- a reflector with the step and a best client relies on listed routers alone
  on-listed : (w c v : ℕ) → has_step I w ≡ true → best_client I w ≡ some c → relies I w v ≡ true → I.listed v ≡ true
  on-listed w c v h own r = go (I.listed v) refl
    where
      go : (b : Bool) → I.listed v ≡ b → I.listed v ≡ true
      go true p = p
      go false p =
          not-both (relies I w v) r
          (relies-offer I w v (relying-unlisted w v r) (has-role w h) (relied-reflects w v r p)
          ∙ cc (passed-on w (offer I v) c h, and-false (I.neighbour w v)))

  -- the last reliance of a chain: its router starts the chain or is relied on too
  record Arrives (w u : ℕ) : Type 0 where
    from : ℕ
    step : relies I from u ≡ true
    start : (from ≡ w) ⊎ ((z : ℕ) × (relies I z from ≡ true))

  arrives : {w u : ℕ} → Leads I w u → Arrives w u
  arrives {w} (last h) = record { from = w; step = h; start = inl refl }
  arrives (more {w} {v} {u} h chain) = go (arrives chain)
    where
      go : Arrives v u → Arrives w u
      go a = record { from = a.from; step = a.step; start = inr (relied a.start) }
        where
          relied : (a.from ≡ v) ⊎ ((z : ℕ) × (relies I z a.from ≡ true)) → (z : ℕ) × (relies I z a.from ≡ true)
          relied (inl e) = (w, ap (relies I w) e ∙ h)
          relied (inr z) = z

  -- the first reliance of a chain back to its start: on a router that relies too, and so is unlisted
  record Departs (w : ℕ) : Type 0 where
    to : ℕ
    step : relies I w to ≡ true
    unlisted : I.listed to ≡ false

  departs : {w : ℕ} → Leads I w w → Departs w
  departs {w} chain = go chain
    where
      onward : {v u : ℕ} → Leads I v u → I.listed v ≡ false
      onward {v} {u} (last h) = relying-unlisted v u h
      onward {v} (more {v = x} h rest) = relying-unlisted v x h

      go : Leads I w w → Departs w
      go (last h) = record { to = w; step = h; unlisted = relying-unlisted w w h }
      go (more {v = v} h rest) = record { to = v; step = h; unlisted = onward rest }

  pub in-cycle : {w : ℕ} → Leads I w w → InCycle I w
  in-cycle {w} chain =
      record { unlisted = unlisted; reflector = relied-reflects back w a.step unlisted; without_step = without (has_step I w) refl; has_client = offers }
    where
      a : Arrives w w
      a = arrives chain

      d : Departs w
      d = departs chain

      back : ℕ
      back = a.from

      unlisted : I.listed w ≡ false
      unlisted = relying-unlisted w d.to d.step

      -- who relies on w in the chain is relied on itself
      relied : (back ≡ w) ⊎ ((z : ℕ) × (relies I z back ≡ true)) → (z : ℕ) × (relies I z back ≡ true)
      relied (inl e) = (back, ap (relies I back) e ∙ a.step)
      relied (inr z) = z

      role : I.reflector back ≡ true
      role = let z = relied a.start in relied-reflects z.0 back z.1 (relying-unlisted back w a.step)

      offers : best_client I w ≡ none → ⊥
      offers q = not-both (relies I back w) a.step (no-offer-relied back w unlisted q role)

      without : (b : Bool) → has_step I w ≡ b → has_step I w ≡ false
      without false h = h
      without true h = go (best_client I w) refl
        where
          go : (own : Option ℕ) → best_client I w ≡ own → has_step I w ≡ false
          go none q = absurd (offers q)
          go (some c) q = not-both (I.listed d.to) (on-listed w c d.to h q d.step) d.unlisted

  pub step-breaks : (w : ℕ) → has_step I w ≡ true → StepBreaks I w
  step-breaks w h =
      record {
        no_cycle = λ chain. not-both (has_step I w) h (in-cycle chain).without_step;
        own_client = λ c v own r. on-listed w c v h own r;
        no_client = λ p own u r. no-offer-relied u w p own r;
      }

-- ranks by the rule are no higher than any numbers that fall along every reliance
rule-lowest : (I : Instance) (rank level : ℕ → ℕ) (R : ℕ) → RankRule I rank → Ranked I level R
    → (k w : ℕ) → w < I.n → level w < k → rank w ≤ level w
rule-lowest I rank level R rule fall zero w l h = absurd (omega arith)
rule-lowest I rank level R rule fall (suc k) w l h =
    let top : highest (λ v. cond (relies I w v) (suc (rank v)) 0) I.n ≤ level w
    = highest-under _ I.n (level w) (λ v m. go v m (relies I w v) refl (rule-lowest I rank level R rule fall k v m)) in
    omega (arith, rule w l)
  where
    go : (v : ℕ) → v < I.n → (b : Bool) → relies I w v ≡ b → (level v < k → rank v ≤ level v) → cond b (suc (rank v)) 0 ≤ level w
    go v m true p before = omega (arith, fall.falls w v l m p, before (omega (arith, fall.falls w v l m p)))
    go v m false p before = omega arith

-- where all reflectors have the step: listed routers, reflectors with a best client, those without, clients
module _ (I : Instance) (all : EveryReflectorSteps I) where
  level : ℕ → ℕ
  level w = cond (I.listed w) 0 (cond (I.reflector w) (elim (best_client I w) [ none ↦ 2 | some c ↦ 1 ]) 3)

  level-listed : (w : ℕ) → I.listed w ≡ true → level w ≡ 0
  unfolding level
  level-listed w p = cc

  level-client : (w : ℕ) → I.listed w ≡ false → I.reflector w ≡ false → level w ≡ 3
  unfolding level
  level-client w p r = cc

  level-own : (w c : ℕ) → I.listed w ≡ false → I.reflector w ≡ true → best_client I w ≡ some c → level w ≡ 1
  unfolding level
  level-own w c p r own = rw (p, r, own)

  level-none : (w : ℕ) → I.listed w ≡ false → I.reflector w ≡ true → best_client I w ≡ none → level w ≡ 2
  unfolding level
  level-none w p r own = rw (p, r, own)

  level-reflector : (w : ℕ) → I.listed w ≡ false → I.reflector w ≡ true → level w ≤ 2
  level-reflector w p r = go (best_client I w) refl
    where
      go : (b : Option ℕ) → best_client I w ≡ b → level w ≤ 2
      go none own = omega (arith, level-none w p r own)
      go (some c) own = omega (arith, level-own w c p r own)

  level-highest : (w : ℕ) → level w ≤ 3
  level-highest w = go (I.listed w) refl (I.reflector w) refl
    where
      go : (a : Bool) → I.listed w ≡ a → (b : Bool) → I.reflector w ≡ b → level w ≤ 3
      go true p b r = omega (arith, level-listed w p)
      go false p true r = omega (arith, level-reflector w p r)
      go false p false r = omega (arith, level-client w p r)

  all-step : (w : ℕ) → w < I.n → I.reflector w ≡ true → has_step I w ≡ true
  unfolding has_step
  all-step w l r = cc (all w l r)

  level-falls : (w v : ℕ) → w < I.n → v < I.n → relies I w v ≡ true → level v < level w
  level-falls w v l m h = go (I.listed v) refl (I.reflector w) refl (best_client I w) refl
    where
      unlisted : I.listed w ≡ false
      unlisted = relying-unlisted I w v h

      -- v passes on its best client's route
      passes : I.listed v ≡ false → I.reflector w ≡ true → (b : Option ℕ) → best_client I v ≡ b → level v ≡ 1
      passes p r none own = not-both (relies I w v) h (no-offer-relied I w v p own r)
      passes p r (some e) own = level-own v e p (relied-reflects I w v h p) own

      go : (a : Bool) → I.listed v ≡ a → (b : Bool) → I.reflector w ≡ b → (c : Option ℕ) → best_client I w ≡ c → level v < level w
      go true p true r none own = omega (arith, level-listed v p, level-none w unlisted r own)
      go true p true r (some c) own = omega (arith, level-listed v p, level-own w c unlisted r own)
      go true p false r c own = omega (arith, level-listed v p, level-client w unlisted r)
      go false p true r none own = omega (arith, passes p r (best_client I v) refl, level-none w unlisted r own)
      go false p true r (some c) own = not-both (I.listed v) (on-listed I w c v (all-step w l r) own h) p
      go false p false r c own = omega (arith, level-reflector v p (relied-reflects I w v h p), level-client w unlisted r)

  falling : Ranked I level 3
  falling = record { falls = level-falls; highest = λ w l. level-highest w }

pub all-have-step : (I : Instance) → EveryReflectorSteps I → StableWhateverIsListed I
all-have-step I all =
    record {
      no_cycle = λ listed w l chain.
          let c = in-cycle (with_list I listed) chain in
          not-both (has_step (with_list I listed) w) (all-step (with_list I listed) all w l c.reflector) c.without_step;
      ranks = λ listed rank rule w l.
          let J : Instance = with_list I listed in
          omega (arith, level-highest J all w, rule-lowest J rank (level J all) 3 rule (falling J all) (suc (level J all w)) w l (omega arith));
      steady = λ listed. one-steady-table (with_list I listed) (level (with_list I listed) all) 3 (falling (with_list I listed) all);
      settles = λ listed. settles (with_list I listed) (level (with_list I listed) all) 3 (falling (with_list I listed) all);
    }

-- nothing but preference asks who has the step
module _ (I : Instance) (hop : ℕ → Bool) where
  abbrev other : Instance
  other = with_hop I hop

  same-advertised : (v : ℕ) (x : Route) (w : ℕ) → advertises other v x w ≡ advertises I v x w
  unfolding advertises reflects
  same-advertised v nothing w = refl
  same-advertised v (via e s) w = refl

  same-heard : (view : ℕ → Route) (w v e : ℕ) → hears other view w v e ≡ hears I view w v e
  unfolding hears
  same-heard view w v e = ap (λ o. I.neighbour w v && is_router e o && I.way w e) (same-advertised v (view v) w)

  -- so a choice depends on it by the order alone
  module _ (w : ℕ) (view : ℕ → Route) where
    same-choice : ((e f : ℕ) → prefers_by other w (heard_direct other view w) e f ≡ prefers_by I w (heard_direct I view w) e f)
        → choose other w view ≡ choose I w view
    unfolding choose
    same-choice same =
        ap₂ (λ order tells. cond (I.listed w) (via w w) (choice order tells I.n)) (λ i e f. same e f i) (λ i v e. same-heard view w v e i)

    own-order : hop w ≡ I.hop w → (e : ℕ) (d : Bool) (f : ℕ) (d' : Bool) → prefers other w e d f d' ≡ prefers I w e d f d'
    unfolding prefers hops has_step nearer
    own-order own e d f d' = rw own

    own-choice : hop w ≡ I.hop w → choose other w view ≡ choose I w view
    unfolding prefers_by
    own-choice own =
        same-choice
        (λ e f.
        ap₂ (λ d d'. prefers other w e d f d') (same-heard view w e e) (same-heard view w f f)
        ∙ own-order own e (heard_direct I view w e) f (heard_direct I view w f))

  module _ (w : ℕ) (client : I.reflector w ≡ false) where
    client-relies : (v : ℕ) → relies other w v ≡ relies I w v
    unfolding relies
    client-relies v = rw client

    -- a client goes by distance and number
    client-chooses : (view : ℕ → Route) → choose other w view ≡ choose I w view
    unfolding nearer
    client-chooses view =
        same-choice w view
        (λ e f.
        prefers_by-without other w (client-without other w client) (heard_direct other view w) e f
        ∙ sym (prefers_by-without I w (client-without I w client) (heard_direct I view w) e f))

  module _ (w v : ℕ) where
    own-step : hop w ≡ I.hop w → relies other w v ≡ relies I w v
    own-step p = roles-relies I I.skips hop w v (roles-own I I.skips hop w p (I.listed v) (offer I v) (best_client I w))

    listed-alike : I.listed v ≡ true → relies other w v ≡ relies I w v
    listed-alike p = roles-relies I I.skips hop w v (rw p (roles-direct I I.skips hop w (offer I v) (best_client I w)))

    any-alike : best_client I w ≡ none → relies other w v ≡ relies I w v
    any-alike own = roles-relies I I.skips hop w v (rw own (roles-any I I.skips hop w (I.listed v) (offer I v)))

    fewer : hop w ≡ true → relies other w v ≡ true → relies I w v ≡ true
    unfolding has_step
    fewer h r = go (I.reflector w) refl (best_client I w) refl
      where
        go : (a : Bool) → I.reflector w ≡ a → (b : Option ℕ) → best_client I w ≡ b → relies I w v ≡ true
        go false p b own = sym (client-relies w p v) ∙ r
        go true p none own = sym (any-alike own) ∙ r
        go true p (some c) own =
            sym (listed-alike (on-listed other w c v (cc) (roles-best-client I I.skips hop w ∙ own) r)) ∙ r

  pub only-the-step : OnlyTheStep I hop
  only-the-step =
      record {
        advertised = same-advertised;
        heard = same-heard;
        client = roles-best-client I I.skips hop;
        offered = roles-offer I I.skips hop;
        client_relies = λ w v p. client-relies w p v;
        client_chooses = λ w view p. client-chooses w p view;
        own_choice = own-choice;
        own_step = own-step;
        on_listed = listed-alike;
        no_client = any-alike;
        fewer = fewer;
      }
