-- From any table, every run of enough rounds leaves the settled table, be it of the present or of what stood some rounds before.
use Prim.Native.Nat.{ℕ, zero, suc, ◌+◌, ◌*◌, ◌<◌, ◌≤◌}
use native.Mathlib.Omega.{arith}
use native.Mathlib.Nat.{mul-le-mul_right}
use mathlib.Core.Path.{◌≡◌, refl, ◌∙◌, sym, ap}
use mathlib.Core.Bool.{Bool, true, false}
use mathlib.Core.List.{List, [], ◌∷◌}
use mathlib.Core.Logic.{⊎_elim}
use lib.ListN.{length, take, length-set}
use lib.Seq.{get_or-set_same, get_or-set_other, take-suc, take-length, ext_get_or}
use Rattle.base.proofs.Below.{all-at}
use Rattle.base.proofs.Numbers.{eq-or-ne, not-both}
use Rattle.route_rules.specs.Instance.{Instance, Route, nothing}
use Rattle.route_rules.specs.Activation.{choose, held, activate, run_acts}
use Rattle.route_rules.specs.Rounds.{acted, rounds}
use Rattle.route_rules.proofs.Routes.{run-append}
use Rattle.route_rules.proofs.Rounds.{acted-none, acted-before}
use Rattle.route_theorems.specs.Settled.{settled_table}
use Rattle.route_theorems.specs.Claims.{Ranked, IsTable, SettlesInTime}
use Rattle.route_theorems.specs.Delayed.{ended_by, Moments, router_of, read_by, DelayedRun, present}
use Rattle.route_theorems.proofs.Moments.{closes, since_at, ended-step, since-step, ended-none, ended-all}
use Rattle.route_theorems.proofs.Clean.{CleanEntry, choose-clean}
use Rattle.route_theorems.proofs.Existence.{settled-length, neighbours-settle, settled-steady, steady-stays}

-- how many rounds settle the routers of rank k, where acts read what stood at most `back` rounds before their own
unfoldable pub due : ℕ → ℕ → ℕ
due back k = suc k * suc back + 1

module _ (back : ℕ) where
  due-least : (k : ℕ) → back + 2 ≤ due back k
  unfolding due
  due-least k = let h : 1 ≤ suc k = omega arith in omega (arith, mul-le-mul_right (suc back) h)

  -- a higher rank takes longer by the rounds that may pass until a lower one is read
  due-later : (j k : ℕ) → j < k → due back j + suc back ≤ due back k
  unfolding due
  due-later j k h = omega (arith, mul-le-mul_right (suc back) h)

  due-most : (j k : ℕ) → j ≤ k → due back j ≤ due back k
  unfolding due
  due-most j k h = omega (arith, mul-le-mul_right (suc back) h)

module _ (I : Instance) (acts : List ℕ) (moment : Moments) (at : ℕ → List Route) (run : DelayedRun I acts moment at) where
  pub table_at : (m : ℕ) → m ≤ length acts → IsTable I (at m)
  table_at zero l = run.start
  table_at (suc m) l = ap length (run.act m l) ∙ length-set (at m) _ _ ∙ table_at m (omega arith)

  abbrev ended : ℕ → ℕ
  ended = ended_by I.n acts

  -- an act leaves its router what that chooses, and every other what it holds
  module _ (m : ℕ) (l : m < length acts) where
    pub acting : router_of acts m < I.n → held (at (suc m)) (router_of acts m) ≡ choose I (router_of acts m) (read_by at moment m)
    acting h =
        ap (λ t. held t (router_of acts m)) (run.act m l)
        ∙ get_or-set_same (at m) (router_of acts m) _ nothing (omega (arith, table_at m (omega arith)))

    pub untouched : (v : ℕ) → (router_of acts m ≡ v → ⊥) → held (at (suc m)) v ≡ held (at m) v
    untouched v d = ap (λ t. held t v) (run.act m l) ∙ get_or-set_other (at m) (router_of acts m) v _ nothing (λ e. d (sym e))

  -- x is what v chose by an act of the k-th round or a later one
  record Chosen (k v : ℕ) (x : Route) : Type 0 where
    by : ℕ
    applied : by < length acts
    router : router_of acts by ≡ v
    late : k ≤ suc (ended by)
    left : x ≡ choose I v (read_by at moment by)

  -- every router has acted in the last round that has ended or later, and who has acted since, later
  record Progress (m : ℕ) : Type 0 where
    all : (v : ℕ) → v < I.n → 1 ≤ ended m → Chosen (ended m) v (held (at m) v)
    fresh : (v : ℕ) → v < I.n → acted (since_at I.n acts m) v ≡ true → Chosen (suc (ended m)) v (held (at m) v)

  progress_start : Progress 0
  unfolding since_at
  progress_start =
      record { all = λ v l h. absurd (omega (arith, ended-none I.n acts)); fresh = λ v l h. not-both (acted _ v) h (acted-none v) }

  module _ (m : ℕ) (l : m < length acts) (p : Progress m) where
    own : (k v : ℕ) → v < I.n → k ≤ suc (ended m) → router_of acts m ≡ v → Chosen k v (held (at (suc m)) v)
    own k v b h e = record { by = m; applied = l; router = e; late = h; left = rw (← e) (acting m l (omega arith)) }

    other : (k v : ℕ) → (router_of acts m ≡ v → ⊥) → Chosen k v (held (at m) v) → Chosen k v (held (at (suc m)) v)
    other k v d c = rw (untouched m l v d) c

    still : (v : ℕ) → v < I.n → 1 ≤ ended m → Chosen (ended m) v (held (at (suc m)) v)
    still v b h = ⊎_elim (own (ended m) v b (omega arith)) (λ d. other (ended m) v d (p.all v b h)) (eq-or-ne (router_of acts m) v)

    since : (v : ℕ) → v < I.n → acted (router_of acts m ∷ since_at I.n acts m) v ≡ true → Chosen (suc (ended m)) v (held (at (suc m)) v)
    since v b h =
        ⊎_elim (own (suc (ended m)) v b (omega arith))
        (λ d. other (suc (ended m)) v d (p.fresh v b (sym (acted-before _ (since_at I.n acts m) v d) ∙ h)))
        (eq-or-ne (router_of acts m) v)

    progress-act : Progress (suc m)
    progress-act = go (closes I.n (since_at I.n acts m) (router_of acts m)) refl
      where
        go : (b : Bool) → closes I.n (since_at I.n acts m) (router_of acts m) ≡ b → Progress (suc m)
        go true h =
            let e : ended (suc m) ≡ suc (ended m) = omega (arith, ended-step I.n acts m l true h) in
            record {
              all = λ v b _. rw e (since v b (all-at (acted _) I.n h v b));
              fresh = λ v b q. not-both (acted _ v) (rw (since-step I.n acts m l true h) at q) (acted-none v);
            }
        go false h =
            let e : ended (suc m) ≡ ended m = omega (arith, ended-step I.n acts m l false h) in
            record {
              all = λ v b q. rw e (still v b (rw e at q));
              fresh = λ v b q. rw e (since v b (rw (since-step I.n acts m l false h) at q));
            }

  progress : (m : ℕ) → m ≤ length acts → Progress m
  progress zero l = progress_start
  progress (suc m) l = progress-act m l (progress m (omega arith))

  -- how far back the acts read, in rounds
  abbrev pub NoEarlier : ℕ → Type 0
  NoEarlier back =
      (i v : ℕ) → i < length acts → v < I.n → I.neighbour (router_of acts i) v ≡ true
      → (ended i ≤ ended (moment i v) + back) × (moment i v ≤ length acts)

  module _ (rank : ℕ → ℕ) (R : ℕ) (r : Ranked I rank R) (back : ℕ) (reads : NoEarlier back) where
    clean_at : (m v : ℕ) → m ≤ length acts → v < I.n → 1 ≤ ended m → CleanEntry I v (held (at m) v)
    clean_at m v l b h = let c = (progress m l).all v b h in rw c.left (choose-clean I v (read_by at moment c.by))

    -- rank by rank: the act that left v its entry read clean entries, and settled ones at the routers that v relies on
    settled_at : (k m v : ℕ) → rank v < k → m ≤ length acts → v < I.n → due back (rank v) ≤ ended m → held (at m) v ≡ held (settled_table I R) v
    settled_at zero m v h l b e = absurd (omega arith)
    settled_at (suc k) m v h l b e = c.left ∙ neighbours-settle I rank R r v (read_by at moment c.by) b
        (λ u d near. clean_at (moment c.by u) u (read u d near).1 d (omega (arith, read u d near, due-least back (rank v), c.late)))
        (λ u d near p.
        settled_at k (moment c.by u) u (omega (arith, r.falls v u b d p)) (read u d near).1 d
        (omega (arith, read u d near, due-later back (rank u) (rank v) (r.falls v u b d p), c.late)))
      where
        c : Chosen (ended m) v (held (at m) v)
        c = (progress m l).all v b (omega (arith, due-least back (rank v)))

        read : (u : ℕ) → u < I.n → I.neighbour v u ≡ true
            → (ended c.by ≤ ended (moment c.by u) + back) × (moment c.by u ≤ length acts)
        read u d near = reads c.by u c.applied d (ap (λ w. I.neighbour w u) c.router ∙ near)

    pub settled-by : (m : ℕ) → m ≤ length acts → due back R ≤ ended m → at m ≡ settled_table I R
    settled-by m l h =
        ext_get_or nothing (at m) (settled_table I R) (table_at m l ∙ sym (settled-length I rank R r))
        (λ v k.
        let b : v < I.n = omega (arith, table_at m l) in
        settled_at (suc (rank v)) m v (omega arith) l b (omega (arith, due-most back (rank v) R (r.highest v b))))

module _ (I : Instance) (t : List Route) (e : IsTable I t) (acts : List ℕ) where
  -- what reads the present is a run, and reads no earlier round than its own
  pub present-run : DelayedRun I acts present (λ m. run_acts I t (take m acts))
  unfolding run_acts activate
  present-run =
      record { start = e; act = λ i l. ap (run_acts I t) (take-suc acts i 0 l) ∙ run-append I t (take i acts) (router_of acts i ∷ []) }

module _ (I : Instance) (rank : ℕ → ℕ) (R : ℕ) (r : Ranked I rank R) where
  settled-reached : (t : List Route) → IsTable I t → (acts : List ℕ) → R + 2 ≤ rounds I.n acts → run_acts I t acts ≡ settled_table I R
  unfolding due
  settled-reached t e acts h =
      ap (run_acts I t) (sym (take-length acts))
      ∙ settled-by I acts present _ (present-run I t e acts) rank R r 0 (λ i v l b near. omega arith) (length acts) (omega arith)
      (omega (arith, ended-all I.n acts))

  pub settles : SettlesInTime I R
  settles t e acts h =
      record {
        reached = settled-reached t e acts h;
        kept =
            λ more.
            run-append I t acts more
            ∙ ap (λ u. run_acts I u more) (settled-reached t e acts h)
            ∙ steady-stays I (settled_table I R) (settled-length I rank R r) (settled-steady I rank R r) more;
      }
