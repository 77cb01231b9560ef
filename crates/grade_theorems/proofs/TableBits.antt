-- The movement of a table is the movement of its bits.
use Prim.Native.Nat.{ℕ, ◌+◌, ◌≤◌, ◌<◌}
use native.Mathlib.Omega.{arith}
use mathlib.Core.Path.{◌≡◌, refl, ◌∙◌, sym, ap}
use mathlib.Core.Bool.{Bool, true, false}
use mathlib.Core.List.{List, [], ◌∷◌, ◌++◌}
use mathlib.Core.Logic.{◌⊎◌, inl, inr, ⊎_elim}
use lib.Seq.{ext_get_or}
use borrow.Author.Tests.{eq-eqb, ne_eqb}
use Rattle.base.specs.Tab.{tab}
use Rattle.base.proofs.Below.{all-intro}
use Rattle.base.proofs.Numbers.{lt-or-le, eq-or-ne, true-or-false, not-both}
use Rattle.base.proofs.Tab.{length-tab, get_or-tab}
use Rattle.route_rules.specs.Instance.{Instance, Route, nothing}
use Rattle.route_rules.specs.Activation.{advertises, choose, held, entry_ok, table_ok, activate, run_acts}
use Rattle.route_rules.specs.Rounds.{ActsBelow, acted, rounds}
use Rattle.route_rules.proofs.Routes.{advertises-listed, advertises-client, choose-told, activate-own, activate-other, activate-length}
use Rattle.route_rules.proofs.Routes.{run_length, run-append}
use Rattle.route_theorems.specs.Claims.{IsTable, Steady}
use Rattle.route_theorems.proofs.Existence.{steady-stays}
use Rattle.steady_rules.specs.Equations.{Solves}
use Rattle.route_rules.specs.Reliance.{best_client}
use Rattle.steady_rules.specs.OwnRoutes.{own_bit, keeps_own, Speaks, OwnHeld}
use Rattle.steady_rules.specs.Steady.{bit_equations, grouped_in}
use Rattle.steady_rules.proofs.Told.{told-cong}
use Rattle.steady_rules.proofs.Kept.{own_route, keeps-along, keeps-set, chosen-bit}
use Rattle.steady_rules.proofs.Members.{grouped-router}
use Rattle.steady_rules.proofs.Tables.{steady-speaks, table_for, for-table, for-steady, for-bits}
use Rattle.grade_rules.specs.Moving.{after_act, after_acts, Possible}
use Rattle.grade_theorems.specs.TableBits.{table_bits, BitTable, TableWith, TablesFollowBits}
use Rattle.grade_theorems.proofs.Sequences.{Whole, round_whole, cut, below_rest, below-front, below-back}
use Rattle.grade_theorems.proofs.Entries.{SpeakingEntry, chosen-speaks, bare_entry, bare-bit, bare-tells, bare-ok}
use Rattle.grade_theorems.proofs.Runs.{Keeps, kept_run, entries-run}

-- two tables with the same bits, which every router tells
pub record SameBits (I : Instance) (t u : List Route) : Type 0 where
  pub left : BitTable I t
  pub right : BitTable I u
  pub same : (w : ℕ) → w < I.n → table_bits I t w ≡ table_bits I u w

-- .. whose reflectors hold the same
pub record SameReflectors (I : Instance) (t u : List Route) : Type 0 where
  pub bits : SameBits I t u
  pub same : (w : ℕ) → w < I.n → I.reflector w ≡ true → held t w ≡ held u w

module _ (I : Instance) where
  -- an act of w on a table whose routers tell their bits
  module _ (t : List Route) (b : BitTable I t) (w : ℕ) (l : w < I.n) where
    own-entry : held (activate I w t) w ≡ choose I w (held t)
    own-entry = activate-own I w t (omega (arith, b.is_table))

    pub act-bits : (v : ℕ) → v < I.n → table_bits I (activate I w t) v ≡ after_act (bit_equations I) w (table_bits I t) v
    unfolding after_act
    act-bits v m =
        ⊎_elim
        (λ (e : v ≡ w). rw (e, eq-eqb w w refl) (ap (own_bit I w) own-entry ∙ chosen-bit I (table_bits I t) (held t) b.speaks w))
        (λ (d : v ≡ w → ⊥). rw (ne_eqb v w d) (ap (own_bit I v) (activate-other I w t v d)))
        (eq-or-ne v w)

    act-speaks : Speaks I (table_bits I (activate I w t)) (held (activate I w t))
    act-speaks v u m r =
        ⊎_elim
        (λ (e : v ≡ w).
        rw e (ap (λ x. advertises I w x u) own-entry
        ∙ (chosen-speaks I w (held t)).tells (table_bits I (activate I w t)) (ap (own_bit I w) (sym own-entry)) u r))
        (λ (d : v ≡ w → ⊥).
        ap (λ x. advertises I v x u) (activate-other I w t v d)
        ∙ b.speaks v u m r
        ∙ told-cong I (table_bits I t) (table_bits I (activate I w t)) v (ap (own_bit I v) (sym (activate-other I w t v d))))
        (eq-or-ne v w)

    pub act-table : BitTable I (activate I w t)
    act-table = record { is_table = activate-length I w t ∙ b.is_table; speaks = act-speaks }

  -- bits that agree go on agreeing
  pub agree-act : (a b : ℕ → Bool) → ((v : ℕ) → v < I.n → a v ≡ b v) → (w v : ℕ) → v < I.n
      → after_act (bit_equations I) w a v ≡ after_act (bit_equations I) w b v
  unfolding after_act
  agree-act a b e w v l =
      ⊎_elim (λ (p : v ≡ w). rw (eq-eqb v w p) (keeps-along I a b w (λ u m r. e u m))) (λ (d : v ≡ w → ⊥). rw (ne_eqb v w d) (e v l))
      (eq-or-ne v w)

  -- the bits of a run are those of the acts
  pub run-bits : (acts : List ℕ) → ActsBelow I.n acts → (t : List Route) → BitTable I t → (bit : ℕ → Bool)
      → ((v : ℕ) → v < I.n → table_bits I t v ≡ bit v)
      → (v : ℕ) → v < I.n → table_bits I (run_acts I t acts) v ≡ after_acts (bit_equations I) bit acts v
  unfolding run_acts after_acts
  run-bits [] below t b bit e = e
  run-bits (a ∷ acts) below t b bit e =
      let l : a < I.n = below 0 (omega arith) in
      run-bits acts (below_rest I.n a acts below) (activate I a t) (act-table t b a l) (after_act (bit_equations I) a bit)
      (λ v m. act-bits t b a l v m ∙ agree-act (table_bits I t) bit e a v m)

  -- two tables with the same bits, side by side
  module _ (t u : List Route) (s : SameBits I t u) where
    same-act : (a : ℕ) → a < I.n → SameBits I (activate I a t) (activate I a u)
    same-act a l =
        record {
          left = act-table t s.left a l;
          right = act-table u s.right a l;
          same = λ v m.
              act-bits t s.left a l v m ∙ agree-act (table_bits I t) (table_bits I u) s.same a v m ∙ sym (act-bits u s.right a l v m);
        }

    -- a reflector is told the same, and so chooses the same
    same-choice : (w : ℕ) → I.reflector w ≡ true → choose I w (held t) ≡ choose I w (held u)
    same-choice w r =
        choose-told I w (held t) (held u) (λ v l.
        s.left.speaks v w l r ∙ told-cong I (table_bits I t) (table_bits I u) v (s.same v l) ∙ sym (s.right.speaks v w l r))

  bits-kept : Keeps I (SameBits I)
  bits-kept = record { left = λ t u s. s.left.is_table; right = λ t u s. s.right.is_table; act = same-act }

  pub same-run : (acts : List ℕ) → ActsBelow I.n acts → (t u : List Route) → SameBits I t u
      → SameBits I (run_acts I t acts) (run_acts I u acts)
  same-run = kept_run I (SameBits I) bits-kept

  pub run-table : (acts : List ℕ) → ActsBelow I.n acts → (t : List Route) → BitTable I t → BitTable I (run_acts I t acts)
  run-table acts below t b = (same-run acts below t t (record { left = b; right = b; same = λ w l. refl })).left

  abbrev reflectors_alike : ℕ → Route → Route → Type 0
  reflectors_alike w x y = I.reflector w ≡ true → x ≡ y

  module _ (t u : List Route) (s : SameReflectors I t u) where
    up-act : (a : ℕ) → a < I.n → SameReflectors I (activate I a t) (activate I a u)
    up-act a l =
        record {
          bits = same-act t u s.bits a l;
          same = λ w m r.
              ⊎_elim
              (λ (e : w ≡ a).
              rw e (own-entry t s.bits.left a l ∙ same-choice t u s.bits a (rw e at r) ∙ sym (own-entry u s.bits.right a l)))
              (λ (d : w ≡ a → ⊥). activate-other I a t w d ∙ s.same w m r ∙ sym (activate-other I a u w d))
              (eq-or-ne w a);
        }

    -- now a client is told the same too
    any-choice : (w : ℕ) → choose I w (held t) ≡ choose I w (held u)
    any-choice w = choose-told I w (held t) (held u) (λ v l. go v l (I.listed v) refl (I.reflector v) refl)
      where
        go : (v : ℕ) → v < I.n → (a : Bool) → I.listed v ≡ a → (r : Bool) → I.reflector v ≡ r
            → advertises I v (held t v) w ≡ advertises I v (held u v) w
        go v l true p r q = advertises-listed I v (held t v) w p ∙ sym (advertises-listed I v (held u v) w p)
        go v l false p true q = ap (λ x. advertises I v x w) (s.same v l q)
        go v l false p false q = advertises-client I v (held t v) w p q ∙ sym (advertises-client I v (held u v) w p q)

  up_kept : Keeps I (SameReflectors I)
  up_kept = record { left = λ t u s. s.bits.left.is_table; right = λ t u s. s.bits.right.is_table; act = up-act }

  -- after acts of every router but those that hold the same already: first the reflectors hold the same, ..
  pub reflectors-after : (t u : List Route) → SameBits I t u → (acts : List ℕ) → ActsBelow I.n acts
      → ((w : ℕ) → w < I.n → (acted acts w ≡ true) ⊎ (held t w ≡ held u w)) → SameReflectors I (run_acts I t acts) (run_acts I u acts)
  reflectors-after t u s acts below h =
      record {
        bits = same-run acts below t u s;
        same = λ w l.
            entries-run I (SameBits I) bits-kept reflectors_alike (λ t u s w l. same-choice t u s w) acts below t u s w l
            (⊎_elim (λ (p : acted acts w ≡ true). inl p) (λ (e : held t w ≡ held u w). inr (λ r. e)) (h w l));
      }

  -- .. and then all routers
  pub all_after : (t u : List Route) → SameReflectors I t u → (acts : List ℕ) → ActsBelow I.n acts
      → ((w : ℕ) → w < I.n → (acted acts w ≡ true) ⊎ (held t w ≡ held u w)) → run_acts I t acts ≡ run_acts I u acts
  all_after t u s acts below h =
      let long : IsTable I (run_acts I t acts) = run_length I t acts ∙ s.bits.left.is_table in
      ext_get_or nothing (run_acts I t acts) (run_acts I u acts) (long ∙ sym (run_length I u acts ∙ s.bits.right.is_table))
      (λ w l.
      let m : w < I.n = omega arith in
      entries-run I (SameReflectors I) up_kept (λ w x y. x ≡ y) (λ t u s w l. any-choice t u s w) acts below t u s w m (h w m))

  -- from any table, once every router has acted
  module _ (t : List Route) (long : IsTable I t) (acts : List ℕ) (below : ActsBelow I.n acts) (whole : Whole I.n acts) where
    any-kept : Keeps I (λ t u. IsTable I t × IsTable I u)
    any-kept =
        record {
          left = λ t u s. s.0;
          right = λ t u s. s.1;
          act = λ t u s a l. (activate-length I a t ∙ s.0, activate-length I a u ∙ s.1);
        }

    all-chosen : (w : ℕ) → w < I.n → SpeakingEntry I w (held (run_acts I t acts) w)
    all-chosen w l =
        entries-run I (λ t u. IsTable I t × IsTable I u) any-kept (λ w x y. SpeakingEntry I w x) (λ t u s w l. chosen-speaks I w (held t))
        acts below t t (long, long) w l (inl (whole w l))

    pub chosen-table : BitTable I (run_acts I t acts)
    chosen-table =
        record {
          is_table = run_length I t acts ∙ long;
          speaks = λ v w l r. (all-chosen v l).tells (table_bits I (run_acts I t acts)) refl w r;
        }

    pub chosen-possible : Possible (bit_equations I) (table_bits I (run_acts I t acts))
    chosen-possible w l _ = (all-chosen w l).may

  -- where the bits rest, the table is the steady one with these bits after two rounds
  module _ (t : List Route) (b : BitTable I t) (solved : Solves (bit_equations I) (table_bits I t)) where
    abbrev end : List Route
    end = table_for I (table_bits I t) solved

    end_same : SameBits I t end
    end_same =
        record {
          left = b;
          right = record {
            is_table = for-table I (table_bits I t) solved;
            speaks = steady-speaks I end (for-table I (table_bits I t) solved) (for-steady I (table_bits I t) solved);
          };
          same = λ w l. sym (for-bits I (table_bits I t) solved w l);
        }

    pub rest-steady : (first second : List ℕ) → ActsBelow I.n first → ActsBelow I.n second → Whole I.n first → Whole I.n second
        → Steady I (run_acts I (run_acts I t first) second)
    rest-steady first second below below' whole whole' =
        let up = reflectors-after t end end_same first below (λ w l. inl (whole w l)) in
        let stays = steady-stays I end (for-table I (table_bits I t) solved) (for-steady I (table_bits I t) solved) in
        let e : run_acts I (run_acts I t first) second ≡ end
        = all_after (run_acts I t first) (run_acts I end first) up second below' (λ w l. inl (whole' w l))
        ∙ ap (λ x. run_acts I x second) (stays first)
        ∙ stays second in
        rw e (for-steady I (table_bits I t) solved)

  -- a table of the rule for any bits that may be set
  module _ (bit : ℕ → Bool) (possible : Possible (bit_equations I) bit) where
    set_own : (w : ℕ) → w < I.n → bit w ≡ true → OwnHeld I w (own_route (best_client I w))
    set_own w l b =
        ⊎_elim (λ (g : 0 < grouped_in I w).
        let k = grouped-router I w l g in
        record { unlisted = k.unlisted; reflector = k.reflector; client = k.client; best = k.best; holds = ap own_route k.best })
        (λ (g : grouped_in I w ≤ 0).
        ⊎_elim (keeps-set I (λ v. false) w)
        (λ (m : keeps_own I (λ v. false) w ≡ false). not-both (bit w) b (possible w l (omega arith) m))
        (true-or-false (keeps_own I (λ v. false) w)))
        (lt-or-le 0 (grouped_in I w))

    bare_table : List Route
    bare_table = tab (λ w. bare_entry I w bit) I.n

    bare-held : (w : ℕ) → w < I.n → held bare_table w ≡ bare_entry I w bit
    unfolding bare_table
    bare-held w l = get_or-tab _ I.n nothing w l

    bare-same : (w : ℕ) → w < I.n → table_bits I bare_table w ≡ bit w
    bare-same w l = ap (own_bit I w) (bare-held w l) ∙ bare-bit I w bit (set_own w l)

    pub table-with : TableWith I bit
    unfolding bare_table table_ok
    table-with =
        record {
          table = bare_table;
          bits = record {
            is_table = length-tab _ I.n;
            speaks = λ v w l r.
                ap (λ x. advertises I v x w) (bare-held v l)
                ∙ bare-tells I v bit (set_own v l) w r
                ∙ sym (told-cong I (table_bits I bare_table) bit v (bare-same v l));
          };
          legal = all-intro (λ v. entry_ok I v (held bare_table v)) I.n (λ v l. ap (entry_ok I v) (bare-held v l) ∙ bare-ok I v bit (set_own v l));
          same = bare-same;
        }

  after-rest : (t : List Route) → BitTable I t → Solves (bit_equations I) (table_bits I t) → (acts : List ℕ) → ActsBelow I.n acts
      → 2 ≤ rounds I.n acts → Steady I (run_acts I t acts)
  unfolding rounds
  after-rest t b solved acts below h =
      let c = cut I.n 1 1 acts h in
      let parts : ActsBelow I.n (c.front ++ c.back) = rw c.whole below in
      rw (← c.whole, run-append I t c.front c.back)
      (rest-steady t b solved c.front c.back (below-front I.n c.front c.back parts)
      (below-back I.n c.front c.back parts) (round_whole I.n c.front c.first) (round_whole I.n c.back c.second))

pub tables-follow-bits : (I : Instance) → TablesFollowBits I
tables-follow-bits I =
    record {
      after_round = λ t long acts below h.
          let whole = round_whole I.n acts h in
          (chosen-table I t long acts below whole, chosen-possible I t long acts below whole);
      act = λ t b w l. (act-table I t b w l, act-bits I t b w l);
      after_rest = after-rest I;
      every = table-with I;
    }
