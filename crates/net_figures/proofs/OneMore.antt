-- One list more: what the rows of its network say of it, and the figures with it.
use Prim.Native.Nat.{ℕ, zero, suc, ◌+◌, ◌%◌, ◌^◌, ◌≤◌, ◌<◌, min}
use native.Mathlib.Omega.{arith}
use native.Mathlib.Nat.{zero-div, pow-suc}
use mathlib.Core.Path.{◌≡◌, refl, ◌∙◌, sym, ap}
use mathlib.Core.Bool.{Bool, true, false, not, cond, ◌&&◌}
use mathlib.Core.List.{List}
use mathlib.Core.Logic.{⊎_elim}
use borrow.Author.Tests.{eq-eqb}
use lib.Count.{count_trailing_zeros}
use lib.Dec.{eqb}
use lib.ListN.{length, get_or, set}
use lib.Seq.{get_or-set_same, get_or-set_other, drop-set-lt}
use Rattle.std.specs.Prelude.{Option, None}
use Rattle.base.specs.Bits.{bit_n, bits}
use Rattle.base.specs.Lent.{Lent}
use Rattle.base.specs.Seek.{flag, count}
use Rattle.base.proofs.BitWalk.{lowest-is}
use Rattle.base.proofs.Numbers.{lt-or-le, eq-or-ne}
use Rattle.base.proofs.Seek.{flag-none}
use Rattle.graph_groups.specs.Closure.{Within, Acyclic}
use Rattle.graph_ranks.specs.Rank.{highest_rank}
use Rattle.route_rules.specs.Instance.{Instance}
use Rattle.net_reliance.specs.RelianceRows.{RelianceRows}
use Rattle.net_groups.specs.GroupRows.{GroupRows}
use Rattle.steady_rules.specs.Steady.{grouped_in}
use Rattle.net_verdict.specs.Assessed.{is_stable, highest_of}
use Rattle.net_verdict.proofs.Relations.{rows-within, rows-acyclic, highest-same}
use Rattle.figures_rules.specs.declared.report.Figures.{Figures}
use Rattle.figures_rules.specs.Figures.{stable_lists, suspect_lists, higher_of, highest_stable, stable_with, grouped_lists, figures_of}
use Rattle.figures_rules.proofs.Sums.{flag-once}
use Rattle.figures_rules.proofs.Meaning.{highest-below, stable-grouped}
use Rattle.net_figures.specs.Counted.{one_more, Raised, ListCounted}

-- a number without a set bit is 0
under_pow : (x : ℕ) → x < 2 ^ x
under_pow zero = omega arith
under_pow (suc x) = omega (arith, under_pow x, pow-suc 2 x)

no_bits : (x : ℕ) → ((v : ℕ) → bit_n x v ≡ 0) → x ≡ 0
no_bits x h =
    ⊎_elim (λ (l : 0 < x). absurd (omega (arith, (lowest-is x x l (under_pow x)).0.set, h (count_trailing_zeros x x))))
    (λ (l : x ≤ 0). omega arith)
    (lt-or-le 0 x)

module _ (I : Instance) (relied closed : List ℕ) (word : ℕ) (g : GroupRows I relied closed word) where
  rows : RelianceRows I relied relied
  rows = record { size = refl; routers = g.related; rest = λ w l. refl }

  pub grouped-below : (w : ℕ) → bit_n word w ≡ 1 → w < I.n
  grouped-below w set =
      ⊎_elim (λ (l : w < I.n). l) (λ (l : I.n ≤ w). absurd (omega (arith, set, g.past w l))) (lt-or-le w I.n)

  -- the word is 0 exactly if the list is stable
  pub word-stable : word ≡ 0 → is_stable I ≡ true
  word-stable e =
      (stable-grouped I).1 (λ w l. sym (g.grouped w l) ∙ ap (λ x. bit_n x w) e ∙ ap (λ x. x % 2) (zero-div (2 ^ w)))

  pub word-suspect : (word ≡ 0 → ⊥) → is_stable I ≡ false
  word-suspect some = go (is_stable I) refl
    where
      none : is_stable I ≡ true → (v : ℕ) → bit_n word v ≡ 0
      none s v = ⊎_elim (λ (l : v < I.n). g.grouped v l ∙ (stable-grouped I).0 s v l) (λ (l : I.n ≤ v). g.past v l) (lt-or-le v I.n)

      go : (b : Bool) → is_stable I ≡ b → is_stable I ≡ false
      go false e = e
      go true e = absurd (some (no_bits word (none e)))

  -- what a search for the ranks asks, and its highest
  module _ (e : word ≡ 0) where
    pub word-acyclic : Acyclic (bits relied) I.n
    word-acyclic = rows-acyclic I relied relied rows (word-stable e)

    pub word-within : Within (bits relied) I.n
    word-within = rows-within I relied relied rows

    pub word-highest : (r : ℕ) → r ≡ highest_rank (bits relied) I.n → r ≡ highest_of I
    word-highest r q = q ∙ highest-same I relied relied rows

    pub word_below : (r : ℕ) → 1 ≤ I.n → r ≡ highest_rank (bits relied) I.n → r < I.n
    word_below r one q = omega (arith, word-highest r q, highest-below I one (word-stable e))

  module _ (known : Figures) where
    one-more : (b : Bool) → is_stable I ≡ b
        → one_more I known
        ≡ record {
          stable = known.stable + flag b;
          suspect = known.suspect + flag (not b);
          highest = cond b (higher_of known.highest (highest_of I)) known.highest;
        }
    unfolding one_more
    one-more b e = rw e

    -- a suspect list: the routers whose bits are set are counted
    pub suspect-counted : (ranks : List ℕ) (routers : Lent (List ℕ)) → (word ≡ 0 → ⊥)
        → Raised (bit_n word) I.n routers.before routers.after
        → ListCounted I known (record { stable = known.stable; suspect = known.suspect + 1; highest = known.highest })
        (record { before = ranks; after = ranks }) routers
    suspect-counted ranks routers some raised =
        let s : is_stable I ≡ false = word-suspect some in
        let same : known.stable ≡ known.stable + 0 = omega arith in
        record {
          figures =
              (λ i. record { stable = same i; suspect = known.suspect + 1; highest = known.highest })
              ∙ sym (one-more false s);
          ranks = record { within = λ i l. rw s (omega arith); rest = refl };
          routers = record { within = λ w l. omega (arith, raised.within w l, g.grouped w l); rest = raised.rest };
        }

    -- a stable list: its highest rank is counted
    pub stable-counted : (routers ranks : List ℕ) (r x : ℕ) (highest : Option ℕ) → word ≡ 0 → 1 ≤ I.n → I.n ≤ length ranks
        → r ≡ highest_rank (bits relied) I.n → x ≡ get_or ranks r 0 + 1 → highest ≡ higher_of known.highest r
        → ListCounted I known (record { stable = known.stable + 1; suspect = known.suspect; highest = highest })
        (record { before = ranks; after = set ranks r x }) (record { before = routers; after = routers })
    stable-counted routers ranks r x highest none one long q e h =
        let s : is_stable I ≡ true = word-stable none in
        let is : r ≡ highest_of I = word-highest none r q in
        let below : r < I.n = word_below none r one q in
        let same : known.suspect ≡ known.suspect + 0 = omega arith in
        let higher : highest ≡ higher_of known.highest (highest_of I) = h ∙ ap (higher_of known.highest) is in
        record {
          figures =
              (λ i. record { stable = known.stable + 1; suspect = same i; highest = higher i })
              ∙ sym (one-more true s);
          ranks =
              record {
                within = λ i l.
                    ⊎_elim (λ (d : i ≡ r).
                    rw (s, eq-eqb (highest_of I) i (sym (d ∙ is)))
                    (ap (λ j. get_or (set ranks r x) j 0) d ∙ get_or-set_same ranks r x 0 (omega arith) ∙ e ∙ ap (λ j. get_or ranks j 0 + 1) (sym d)))
                    (λ (d : i ≡ r → ⊥).
                    rw s
                    (omega (arith, get_or-set_other ranks r i x 0 d, flag-none (highest_of I) i (λ p. d (sym (is ∙ p))))))
                    (eq-or-ne i r);
                rest = drop-set-lt I.n ranks r x below;
              };
          routers = record { within = λ w l. omega (arith, (stable-grouped I).0 s w l); rest = refl };
        }

-- the figures of all lists below a number, and of one list more
pub figures-none : (nets : ℕ → Instance) → figures_of nets 0 ≡ record { stable = 0; suspect = 0; highest = None }
unfolding figures_of stable_lists suspect_lists highest_stable count
figures-none nets = refl

module _ (nets : ℕ → Instance) (m : ℕ) where
  pub figures-more : figures_of nets (suc m) ≡ one_more (nets m) (figures_of nets m)
  unfolding figures_of stable_lists suspect_lists highest_stable one_more count
  figures-more =
      λ i. record {
        stable = stable_lists nets m + flag-once (is_stable (nets m)) i;
        suspect = suspect_lists nets m + flag-once (not (is_stable (nets m))) i;
        highest = cond (is_stable (nets m)) (higher_of (highest_stable nets m) (highest_of (nets m))) (highest_stable nets m);
      }

  pub ranks-more : (r : ℕ) → stable_with nets (suc m) r ≡ stable_with nets m r + flag (is_stable (nets m) && eqb (highest_of (nets m)) r)
  unfolding stable_with count
  ranks-more r = ap (λ x. stable_with nets m r + x) (flag-once (is_stable (nets m) && eqb (highest_of (nets m)) r))

  pub routers-more : (w : ℕ) → grouped_lists nets (suc m) w ≡ grouped_lists nets m w + min 1 (grouped_in (nets m) w)
  unfolding grouped_lists count
  routers-more w = refl
