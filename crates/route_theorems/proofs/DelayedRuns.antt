-- Delayed reading: every such run settles, every choice of moments makes one, and reading the present is one of them.
use Prim.Native.Nat.{ℕ, zero, suc, ◌<◌, ◌≤◌}
use native.Mathlib.Omega.{arith}
use mathlib.Core.Path.{◌≡◌, refl, ◌∙◌, sym, ap, ap₂}
use mathlib.Core.Bool.{true}
use mathlib.Core.List.{List, [], ◌∷◌, ◌++◌}
use mathlib.Core.Logic.{⊎_elim}
use lib.ListN.{length, get_or, set, length-append, get_or-append}
use lib.Seq.{get_or_at}
use Rattle.base.specs.Tab.{tab}
use Rattle.base.proofs.Below.{all-at, all-intro}
use Rattle.base.proofs.Numbers.{lt-or-le, eq-or-ne}
use Rattle.base.proofs.Tab.{length-tab, get_or-tab}
use Rattle.route_rules.specs.Instance.{Instance, Route, nothing}
use Rattle.route_rules.specs.Activation.{choose, held, entry_ok, table_ok}
use Rattle.route_rules.proofs.Routes.{activate-own, choose-ok}
use Rattle.route_theorems.specs.Settled.{settled_table}
use Rattle.route_theorems.specs.Claims.{Ranked, IsTable}
use Rattle.route_theorems.specs.Delayed.{ended_by, Moments, router_of, Allowed, read_by, DelayedRun, SettlesDelayed, OneRun}
use Rattle.route_theorems.specs.Delayed.{EveryChoiceRuns, ReadingThePresent, SameActRule}
use Rattle.route_theorems.proofs.Determinacy.{neighbours-alone}
use Rattle.route_theorems.proofs.Moments.{by-moment, ended-later}
use Rattle.route_theorems.proofs.Settling.{acting, untouched, due, settled-by, present-run}

-- no act reads a neighbour as it will stand after it
abbrev pub UpToTheAct : Instance → List ℕ → Moments → Type 0
UpToTheAct I acts moment = (i v : ℕ) → i < length acts → v < I.n → I.neighbour (router_of acts i) v ≡ true → moment i v ≤ i

-- what may be read stood at most one round before, and by the act
module _ (I : Instance) (acts : List ℕ) (moment : Moments) (allowed : Allowed I acts moment) where
  timely : (i v : ℕ) → i < length acts → v < I.n → I.neighbour (router_of acts i) v ≡ true
      → (ended_by I.n acts i ≤ suc (ended_by I.n acts (moment i v))) × (moment i v ≤ i)
  timely i v l b near = ((by-moment I.n acts).exactly i (moment i v) l).0 (allowed i v l b near)

  pub up-to-the-act : UpToTheAct I acts moment
  up-to-the-act i v l b near = (timely i v l b near).1

pub settles-delayed : (I : Instance) (rank : ℕ → ℕ) (R : ℕ) → Ranked I rank R → SettlesDelayed I R
unfolding due
settles-delayed I rank R r acts moment allowed at run =
    record {
      reached = λ m l h. settled m l (omega arith);
      kept = λ m later l k h. settled later k (omega (arith, ended-later I.n acts m later l k));
    }
  where
    settled : (m : ℕ) → m ≤ length acts → due 1 R ≤ ended_by I.n acts m → at m ≡ settled_table I R
    settled = settled-by I acts moment at run rank R r 1 (λ i v k b near. omega (arith, timely I acts moment allowed i v k b near))

-- two runs by the same moments that start alike go alike
module _ (I : Instance) (acts : List ℕ) (moment : Moments) (past : UpToTheAct I acts moment) (at other : ℕ → List Route)
    (run : DelayedRun I acts moment at) (run' : DelayedRun I acts moment other) (e : at 0 ≡ other 0) where
  alike-upto : (k : ℕ) → k ≤ length acts → (m : ℕ) → m ≤ k → at m ≡ other m
  alike-upto zero l m h = let z : m ≡ 0 = omega arith in rw z e
  alike-upto (suc k) l m h =
      ⊎_elim (λ (g : m < suc k). alike-upto k (omega arith) m (omega arith))
      (λ (g : suc k ≤ m). let z : m ≡ suc k = omega arith in
      rw z
      (run.act k l
      ∙ ap₂ (λ t x. set t (router_of acts k) x) (alike-upto k (omega arith) k (omega arith))
      (neighbours-alone I (router_of acts k) (read_by at moment k) (read_by other moment k)
      (λ v b near. ap (λ t. held t v) (alike-upto k (omega arith) (moment k v) (past k v l b near))))
      ∙ sym (run'.act k l)))
      (lt-or-le m (suc k))

-- one table more, after those of the moments so far, of which there are m besides the first
unfoldable pub one_more : Instance → ℕ → (ℕ → ℕ) → ℕ → List (List Route) → List (List Route)
one_more I w moment m past = past ++ (set (get_or past m []) w (choose I w (λ v. held (get_or past (moment v) []) v)) ∷ [])

-- the tables from moment 0 to moment m
unfoldable pub tables_to : Instance → List ℕ → Moments → List Route → ℕ → List (List Route)
tables_to I acts moment t zero = t ∷ []
tables_to I acts moment t (suc m) = one_more I (router_of acts m) (moment m) m (tables_to I acts moment t m)

module _ (I : Instance) (acts : List ℕ) (moment : Moments) (t : List Route) where
  -- the table at moment m
  abbrev pub table_at : ℕ → List Route
  table_at m = get_or (tables_to I acts moment t m) m []

  tables-length : (m : ℕ) → length (tables_to I acts moment t m) ≡ suc m
  unfolding tables_to one_more
  tables-length zero = refl
  tables-length (suc m) = length-append (tables_to I acts moment t m) _ ∙ omega (arith, tables-length m)

  -- the tables so far remain
  tables-keep : (m j : ℕ) → j ≤ m → get_or (tables_to I acts moment t m) j [] ≡ table_at j
  unfolding tables_to one_more
  tables-keep zero j l = let z : j ≡ 0 = omega arith in rw z
  tables-keep (suc m) j l =
      ⊎_elim (λ (g : j < suc m).
      get_or-append (tables_to I acts moment t m) _ [] j (omega (arith, tables-length m)) ∙ tables-keep m j (omega arith))
      (λ (g : suc m ≤ j). let z : j ≡ suc m = omega arith in rw z)
      (lt-or-le j (suc m))

  module _ (past : UpToTheAct I acts moment) (e : IsTable I t) where
    pub tables-run : DelayedRun I acts moment table_at
    unfolding tables_to one_more
    tables-run =
        record {
          start = e;
          act = λ i l.
              get_or_at (tables_to I acts moment t i) _ [] [] (suc i) (tables-length i)
              ∙ ap (set (table_at i) (router_of acts i))
              (neighbours-alone I (router_of acts i) _ (read_by table_at moment i)
              (λ v b near. ap (λ u. held u v) (tables-keep i (moment i v) (past i v l b near))));
        }

    one-run : OneRun I acts moment t
    unfolding tables_to
    one-run =
        record {
          at = table_at;
          start = refl;
          run = tables-run;
          only = λ other s run m l. alike-upto I acts moment past other table_at run tables-run s (length acts) (omega arith) m l;
        }

pub every-choice-runs : (I : Instance) → EveryChoiceRuns I
every-choice-runs I acts moment allowed t e = one-run I acts moment t (up-to-the-act I acts moment allowed) e

pub reading-the-present : (I : Instance) (acts : List ℕ) (t : List Route) → IsTable I t → ReadingThePresent I acts t
reading-the-present I acts t e =
    record { allowed = λ i v l b near. ((by-moment I.n acts).exactly i i l).1 (omega arith); run = present-run I t e acts }

module _ (I : Instance) (acts : List ℕ) (moment : Moments) (at : ℕ → List Route) (run : DelayedRun I acts moment at) where
  legal-at : table_ok I (at 0) ≡ true → (m : ℕ) → m ≤ length acts → table_ok I (at m) ≡ true
  unfolding table_ok
  legal-at h zero l = h
  legal-at h (suc m) l = go (legal-at h m (omega arith))
    where
      go : table_ok I (at m) ≡ true → table_ok I (at (suc m)) ≡ true
      go before = all-intro (λ v. entry_ok I v (held (at (suc m)) v)) I.n (λ v b.
          ⊎_elim (λ (e : router_of acts m ≡ v).
          rw (← e) (ap (entry_ok I (router_of acts m)) (acting I acts moment at run m l (omega arith)) ∙ choose-ok I (router_of acts m) _))
          (λ (d : router_of acts m ≡ v → ⊥).
          ap (entry_ok I v) (untouched I acts moment at run m l v d) ∙ all-at (λ v. entry_ok I v (held (at m) v)) I.n before v b)
          (eq-or-ne (router_of acts m) v))

  pub same-act-rule : SameActRule I acts moment at
  same-act-rule =
      record {
        same = λ i l b.
            acting I acts moment at run i l b
            ∙ neighbours-alone I (router_of acts i) _ _ (λ v k near. sym (get_or-tab (read_by at moment i) I.n nothing v k))
            ∙ sym (activate-own I (router_of acts i) (tab (read_by at moment i) I.n) (omega (arith, length-tab (read_by at moment i) I.n)));
        legal = legal-at;
      }
