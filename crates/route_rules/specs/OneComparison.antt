-- Document 02, "The margin with its sign": "Whatever else compares routes agrees with this answer."
use Rattle.std.specs.Prelude.{ℕ, ◌<◌, ◌≡◌, Bool, true, false}
use Rattle.std.proofs.Math.Option.{some}
use Rattle.route_rules.specs.Instance.{Instance, Route, via}
use Rattle.route_rules.specs.Activation.{hears, heard_direct, choose}
use Rattle.route_rules.specs.Reliance.{listed_client_of, best_client, offer, better_offer, relies}

-- What else compares the routes to e and f at w agrees with a comparison of them: `first_better` says that the first, e, is better, where d
-- says that e itself told its route, and d' that f did. The theorem `one-comparison` says that it is so with `better`, and
-- `every-comparison-agrees` that it is so with the call's answer.
pub record OneComparison (I : Instance) (w e : ℕ) (d : Bool) (f : ℕ) (d' : Bool) (first_better : Bool) : Type 0 where
  -- the best client is better than every other listed client that w neighbours and has a way to; each of them tells its own route
  pub client :
      d ≡ true → d' ≡ true → best_client I w ≡ some e → listed_client_of I w f ≡ true → (f ≡ e → ⊥) → first_better ≡ true
  -- an offer, told by its egress itself or passed on, counts against the best client exactly if it is better
  pub offered : d' ≡ true → best_client I w ≡ some f → better_offer I w d (some e) (best_client I w) ≡ first_better
  -- what an activation of an unlisted router leaves is better than every other egress that it hears from a neighbour
  pub chosen :
      I.listed w ≡ false → (view : ℕ → Route) → d ≡ heard_direct I view w e → d' ≡ heard_direct I view w f
      → (s : ℕ) → choose I w view ≡ via e s → (v : ℕ) → v < I.n → hears I view w v f ≡ true → (f ≡ e → ⊥) → first_better ≡ true
  -- an unlisted reflector with a best client relies on a neighbouring reflector exactly if that one's offer is better: a listed one tells
  -- it itself, any other passes it on
  pub relied :
      I.listed w ≡ false → I.reflector w ≡ true → d' ≡ true → best_client I w ≡ some f
      → (v : ℕ) → I.neighbour w v ≡ true → I.reflector v ≡ true → offer I v ≡ some e → d ≡ I.listed v → relies I w v ≡ first_better
