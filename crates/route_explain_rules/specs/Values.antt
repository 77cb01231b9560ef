-- The number and the values of each rule and each reason (document 01: "When an answer is an enum, a definition gives this paper's number
-- and values for each enum case"; document 02, "Every reliance with its rule").
use Rattle.std.specs.Prelude.{ℕ, Bool, true, false, pos}
use Rattle.route_explain_rules.specs.Reasons.{place}
use Rattle.route_explain_rules.specs.declared.explanation.Explanation.{Explanation}
use Rattle.route_explain_rules.specs.declared.explanation.Explanation.TheVariants.{Refused, Yes, No}
use Rattle.route_explain_rules.specs.declared.explanation.Values.{Values}
use Rattle.route_explain_rules.specs.declared.explanation.Rule.{Rule}
use Rattle.route_explain_rules.specs.declared.explanation.Rule.TheVariants.{Parent, PeerClient, OwnBestClient, AnyOffer, BetterOffer}

-- the values of an answer that carries no route; what it does not have is zero or no
abbrev pub bare : Bool → ℕ → Values
bare relies code = record { relies = relies; code = code; offer = 0; compared = false; own = 0; margin = pos 0 }

-- "parent, peer client, own best client, or better offer": 1 to 4
abbrev pub values_of_rule : Rule → Values
values_of_rule Parent = bare true 1
values_of_rule PeerClient = bare true 2
values_of_rule OwnBestClient = bare true 3
values_of_rule (AnyOffer e) = record { relies = true; code = 4; offer = e; compared = false; own = 0; margin = pos 0 }
values_of_rule (BetterOffer e c m) = record { relies = true; code = 4; offer = e; compared = true; own = c; margin = m }

abbrev pub values_of : Explanation → Values
values_of (Refused number) = bare false 0
values_of (Yes rule) = values_of_rule rule
values_of (No reason) = bare false (place reason)
