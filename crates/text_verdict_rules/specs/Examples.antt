-- Examples that tell the text of a plan from a misreading of it: plans, and all that the verdict program prints, in literal bytes.
use Rattle.std.specs.Prelude.{ℕ, ◌≡◌, List, [], ◌∷◌, ◌++◌, map}
use Rattle.plan_examples.specs.Plans.{small_plan, m3_with_nobody, m3_with_roles}
use Rattle.text_verdict_rules.specs.Listing.{plan_text}

-- "M3's distances with lists 2,3 and 3"
unfoldable pub example_plan : List ℕ
example_plan = small_plan 6 6 (2 ∷ 2 ∷ 2 ∷ 3 ∷ 1 ∷ 3 ∷ [])  -- m; count and numbers of each list

-- "it prints all of this, each line ended by byte 10"
unfoldable pub example_text : List ℕ
example_text =
    114 ∷ 111 ∷ 117 ∷ 116 ∷ 101 ∷ 114 ∷ 115 ∷ 32 ∷ 52 ∷ 32 ∷ 108 ∷ 105 ∷ 115 ∷ 116 ∷ 115 ∷ 32 ∷ 50 ∷ 10  -- "routers 4 lists 2"
    ∷ 48 ∷ 32 ∷ 115 ∷ 117 ∷ 115 ∷ 112 ∷ 101 ∷ 99 ∷ 116 ∷ 32 ∷ 50 ∷ 32 ∷ 48 ∷ 32 ∷ 49 ∷ 10  -- "0 suspect 2 0 1"
    ∷ 49 ∷ 32 ∷ 115 ∷ 116 ∷ 97 ∷ 98 ∷ 108 ∷ 101 ∷ 32 ∷ 51 ∷ 10  -- "1 stable 3"
    ∷ []

-- M3's distances with lists 2,3 and nobody and 0
unfoldable pub nobody_text : List ℕ
nobody_text =
    114 ∷ 111 ∷ 117 ∷ 116 ∷ 101 ∷ 114 ∷ 115 ∷ 32 ∷ 52 ∷ 32 ∷ 108 ∷ 105 ∷ 115 ∷ 116 ∷ 115 ∷ 32 ∷ 51 ∷ 10  -- "routers 4 lists 3"
    ∷ 48 ∷ 32 ∷ 115 ∷ 117 ∷ 115 ∷ 112 ∷ 101 ∷ 99 ∷ 116 ∷ 32 ∷ 50 ∷ 32 ∷ 48 ∷ 32 ∷ 49 ∷ 10  -- "0 suspect 2 0 1"
    ∷ 49 ∷ 32 ∷ 115 ∷ 116 ∷ 97 ∷ 98 ∷ 108 ∷ 101 ∷ 32 ∷ 49 ∷ 10  -- "1 stable 1"
    ∷ 50 ∷ 32 ∷ 115 ∷ 116 ∷ 97 ∷ 98 ∷ 108 ∷ 101 ∷ 32 ∷ 50 ∷ 10  -- "2 stable 2"
    ∷ []

-- M3's plan with roles 4 and 1
unfoldable pub mixed_text : List ℕ
mixed_text =
    114 ∷ 111 ∷ 117 ∷ 116 ∷ 101 ∷ 114 ∷ 115 ∷ 32 ∷ 52 ∷ 32 ∷ 108 ∷ 105 ∷ 115 ∷ 116 ∷ 115 ∷ 32 ∷ 51 ∷ 10  -- "routers 4 lists 3"
    ∷ 48 ∷ 32 ∷ 115 ∷ 116 ∷ 97 ∷ 98 ∷ 108 ∷ 101 ∷ 32 ∷ 50 ∷ 10  -- "0 stable 2"
    ∷ 49 ∷ 32 ∷ 115 ∷ 116 ∷ 97 ∷ 98 ∷ 108 ∷ 101 ∷ 32 ∷ 51 ∷ 10  -- "1 stable 3"
    ∷ 50 ∷ 32 ∷ 115 ∷ 116 ∷ 97 ∷ 98 ∷ 108 ∷ 101 ∷ 32 ∷ 50 ∷ 10  -- "2 stable 2"
    ∷ []

-- "A refused plan gives the single line `refused`, a space and its number": here 1, and 3
unfoldable pub refused1 : List ℕ
refused1 = 114 ∷ 101 ∷ 102 ∷ 117 ∷ 115 ∷ 101 ∷ 100 ∷ 32 ∷ 49 ∷ 10 ∷ []

unfoldable pub refused3 : List ℕ
refused3 = 114 ∷ 101 ∷ 102 ∷ 117 ∷ 115 ∷ 101 ∷ 100 ∷ 32 ∷ 51 ∷ 10 ∷ []

pub record Example : Type 0 where
  pub plan : List ℕ
  pub text : List ℕ

-- the plan of document 01; one with a list of nobody (a text without a line for it would end with "1 stable 2", one that refused it would
-- be "refused 7"); one of a reflector with the hop step and one without it (without the step in rule 3 the text would have the line
-- "0 suspect 2 0 1", with roles 1 to 3 alone admitted it would be "refused 4"); no bytes at all; the first plan with a byte after its last
-- body (a text that went on after the refusal would have the lines of its two lists)
unfoldable pub examples : List Example
examples =
    record { plan = example_plan; text = example_text }
    ∷ record { plan = m3_with_nobody; text = nobody_text }
    ∷ record { plan = m3_with_roles 4 1; text = mixed_text }
    ∷ record { plan = []; text = refused1 }
    ∷ record { plan = example_plan ++ (0 ∷ []); text = refused3 }
    ∷ []

-- The definition gives each example's text. The theorem is `text-examples`.
abbrev pub TextExamplesHold : Type 0
TextExamplesHold = map (λ e. plan_text e.plan) examples ≡ map (λ e. e.text) examples
