-- What the buffers and the variables hold if the call is refused.
use Prim.Native.Nat.{ℕ}
use mathlib.Core.Path.{◌≡◌, refl, ◌∙◌, sym, ap}
use mathlib.Core.List.{List}
use Rattle.base.specs.Lent.{Lent}
use Rattle.plan_rules.proofs.Refused.{when-refused}
use Rattle.call_rules.specs.Refusals.{figures_refusal}
use Rattle.call_verdict.proofs.Judging.{kept}
use Rattle.call_figures.specs.declared.figures.FiguresAnswer.{FiguresAnswer}
use Rattle.call_figures.specs.declared.figures.FiguresAnswer.TheVariants.{Refused, Counted}
use Rattle.call_figures.specs.Figures.{figures_answer, figures_number, FiguresCall}
use Rattle.c_rules.specs.Exports.{FiguresExport}
use Rattle.c_rules.proofs.Written.{refused-by}

abbrev refuses : FiguresAnswer → ℕ
refuses (Refused number) = 1
refuses (Counted figures) = 0

module _ (plan : List ℕ) (r : FiguresAnswer) (ranks routers : Lent (List ℕ)) (call : FiguresCall plan r ranks routers)
    (stable suspect has_highest highest : ℕ) where
  abbrev number₀ : ℕ
  number₀ = figures_refusal plan ranks.before routers.before

  pub figures-refused : (number : ℕ) → r ≡ Refused number
      → FiguresExport plan number ranks routers (kept stable) (kept suspect) (kept has_highest) (kept highest)
  unfolding figures_answer
  figures-refused number is =
      let n : number₀ ≡ 0 → ⊥ = refused-by refuses _ r _ _ call.answer (ap refuses is) refl in
      record {
        numbered = sym (ap figures_number is) ∙ call.numbered;
        by_rank = call.by_rank;
        by_router = call.by_router;
        stable-are = sym (when-refused _ _ _ n);
        suspect-are = sym (when-refused _ _ _ n);
        flagged = sym (when-refused _ _ _ n);
        ranked = sym (when-refused _ _ _ n);
      }
