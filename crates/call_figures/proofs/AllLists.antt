-- A pass over the lists of a plan: the lists below k are counted.
use Prim.Native.Nat.{ℕ, ◌+◌, ◌≤◌, ◌<◌}
use native.Mathlib.Numerals.{add-one}
use native.Mathlib.Omega.{arith}
use mathlib.Core.Path.{◌≡◌, refl, ◌∙◌, sym, ap}
use mathlib.Core.List.{List, ◌++◌}
use lib.ListN.{length, get_or, drop}
use Rattle.std.specs.Prelude.{None}
use Rattle.base.specs.Tab.{tab}
use Rattle.base.proofs.Seek.{count_none}
use Rattle.base.proofs.Tab.{tab-front}
use Rattle.plan_contents.specs.Header.{router_count}
use Rattle.plan_rules.specs.EgressLists.{list_count}
use Rattle.plan_rules.specs.Passed.{Passed}
use Rattle.net_rules.specs.FromPlan.{instance_of}
use Rattle.figures_rules.specs.declared.report.Figures.{Figures}
use Rattle.figures_rules.specs.Figures.{stable_with, grouped_lists, figures_of}
use Rattle.figures_rules.specs.Meaning.{FiguresMean}
use Rattle.figures_rules.proofs.Meaning.{figures-mean}
use Rattle.net_figures.specs.Counted.{one_more, Raised, Countable, ListCounted}
use Rattle.net_figures.proofs.OneMore.{figures-none, figures-more, ranks-more, routers-more}
use Rattle.call_figures.specs.Figures.{rank_counts, router_counts, rank_counts_left, router_counts_left}
use Rattle.call_figures.specs.AllLists.{Cleared, ListsCounted}

-- the first n of a buffer that was d are what f says
pub record Holds (f : ℕ → ℕ) (n : ℕ) (d l : List ℕ) : Type 0 where
  pub size : length l ≡ length d
  pub within : (i : ℕ) → i < n → get_or l i 0 ≡ f i
  pub rest : drop n l ≡ drop n d

holds_more : (f g h : ℕ → ℕ) (n : ℕ) (d l m : List ℕ) → ((i : ℕ) → h i ≡ f i + g i) → Holds f n d l → length m ≡ length l → Raised g n l m
    → Holds h n d m
holds_more f g h n d l m e w size raised =
    record {
      size = size ∙ w.size;
      within = λ i o. omega (arith, raised.within i o, w.within i o, e i);
      rest = raised.rest ∙ w.rest;
    }

holds-done : (f : ℕ → ℕ) (n : ℕ) (d l : List ℕ) → n ≤ length d → Holds f n d l → l ≡ tab f n ++ drop n d
holds-done f n d l long w = tab-front f n 0 l (omega (arith, w.size)) w.within ∙ ap (λ t. tab f n ++ t) w.rest

-- the figures so far, and the counts
pub record Reached (plan : List ℕ) (k : ℕ) (known : Figures) (ranks₀ ranks routers₀ routers : List ℕ) : Type 0 where
  pub figures : known ≡ figures_of (instance_of plan) k
  pub by_rank : Holds (stable_with (instance_of plan) k) (router_count plan) ranks₀ ranks
  pub by_router : Holds (grouped_lists (instance_of plan) k) (router_count plan) routers₀ routers

module _ (plan ranks₀ routers₀ : List ℕ) (cleared : Cleared plan ranks₀) (cleared' : Cleared plan routers₀) where
  pub reached-start : Reached plan 0 (record { stable = 0; suspect = 0; highest = None }) ranks₀ ranks₀ routers₀ routers₀
  unfolding stable_with grouped_lists
  reached-start =
      record {
        figures = sym (figures-none (instance_of plan));
        by_rank = record { size = refl; within = λ i l. cleared.zeros i l ∙ sym (count_none _); rest = refl };
        by_router = record { size = refl; within = λ i l. cleared'.zeros i l ∙ sym (count_none _); rest = refl };
      }

  module _ (k : ℕ) (known : Figures) (ranks routers : List ℕ) (w : Reached plan k known ranks₀ ranks routers₀ routers) where
    -- there is room for one list more
    pub reached-room : Passed plan → k < list_count plan → Countable (router_count plan) known ranks routers
    unfolding figures_of
    reached-room p l =
        let few : k < 64 = omega (arith, p.lists.most) in
        let means : FiguresMean (instance_of plan) (router_count plan) k
        = figures-mean (instance_of plan) (router_count plan) k p.count.some (λ j o. refl) in
        record {
          some = p.count.some;
          stable = omega (arith, ap (λ x. x.stable) w.figures, means.make_up);
          suspect = omega (arith, ap (λ x. x.suspect) w.figures, means.make_up);
          ranks_long = omega (arith, w.by_rank.size, cleared.long);
          routers_long = omega (arith, w.by_router.size, cleared'.long);
          ranks_low = λ r o. omega (arith, w.by_rank.within r o, means.ranks_fit r);
          routers_low = λ r o. omega (arith, w.by_router.within r o, means.routers_fit r);
        }

    pub reached-more : (next : Figures) (ranks' routers' : List ℕ) → length ranks' ≡ length ranks → length routers' ≡ length routers
        → ListCounted (instance_of plan k) known next (record { before = ranks; after = ranks' }) (record { before = routers; after = routers' })
        → Reached plan (k + 1) next ranks₀ ranks' routers₀ routers'
    reached-more next ranks' routers' e e' c =
        rw (add-one k)
        (record {
          figures = c.figures ∙ ap (one_more (instance_of plan k)) w.figures ∙ sym (figures-more (instance_of plan) k);
          by_rank = holds_more _ _ _ _ _ _ _ (ranks-more (instance_of plan) k) w.by_rank e c.ranks;
          by_router = holds_more _ _ _ _ _ _ _ (routers-more (instance_of plan) k) w.by_router e' c.routers;
        })

    pub reached-done : k ≤ list_count plan → list_count plan ≤ k
        → ListsCounted plan known (record { before = ranks₀; after = ranks }) (record { before = routers₀; after = routers })
    unfolding rank_counts_left router_counts_left rank_counts router_counts
    reached-done a b =
        let e : k ≡ list_count plan = omega arith in
        record {
          figures = w.figures ∙ ap (figures_of (instance_of plan)) e;
          by_rank =
              holds-done _ _ _ _ cleared.long w.by_rank
              ∙ ap (λ x. tab (stable_with (instance_of plan) x) (router_count plan) ++ drop (router_count plan) ranks₀) e;
          by_router =
              holds-done _ _ _ _ cleared'.long w.by_router
              ∙ ap (λ x. tab (grouped_lists (instance_of plan) x) (router_count plan) ++ drop (router_count plan) routers₀) e;
        }
