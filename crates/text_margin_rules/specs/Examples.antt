-- Examples that tell the margin program's text from a misreading of it: inputs, and all that the program prints, in literal bytes. Beside
-- each stands what a misreading prints.
use Rattle.std.specs.Prelude.{ℕ, ◌≡◌, List, [], ◌∷◌, ◌++◌}
use Rattle.plan_examples.specs.Plans.{four_routers, small_from0, small_from2, nobody_between, wide_ends}
use Rattle.text_margin_rules.specs.Margin.{margin_text}

-- M3's plan, but for the distances from 1 to 0 and from 3, which has no way to 0 and 2
unfoldable pub cut_off : List ℕ
cut_off =
    four_routers (small_from0 6)
    (254 ∷ 255 ∷ 0 ∷ 0 ∷ 6 ∷ 0 ∷ 10 ∷ 0 ∷ [])
    small_from2
    (255 ∷ 255 ∷ 30 ∷ 0 ∷ 255 ∷ 255 ∷ 0 ∷ 0 ∷ [])
    (1 ∷ 2 ∷ 2 ∷ 3 ∷ [])  -- m; list 0: count, numbers

-- "none", and "refused" with a number of one digit, letter by letter
abbrev pub none_text : List ℕ
none_text = 110 ∷ 111 ∷ 110 ∷ 101 ∷ 10 ∷ []

abbrev pub refused_text : ℕ → List ℕ
refused_text digit = 114 ∷ 101 ∷ 102 ∷ 117 ∷ 115 ∷ 101 ∷ 100 ∷ 32 ∷ digit ∷ 10 ∷ []

pub record MarginTextExamples : Type 0 where
  -- "the margin, minus four as -4": from 0 it is 6 to 3 and 10 to 2
  pub minus_four : margin_text (0 ∷ 3 ∷ 2 ∷ cut_off) ≡ 45 ∷ 52 ∷ 10 ∷ []  -- without its sign: "4"
  pub four : margin_text (0 ∷ 2 ∷ 3 ∷ cut_off) ≡ 52 ∷ 10 ∷ []  -- the second minus the first: "-4"
  pub same_router : margin_text (0 ∷ 2 ∷ 2 ∷ cut_off) ≡ 48 ∷ 10 ∷ []  -- as no margin: "none"
  pub equal_distances : margin_text (2 ∷ 0 ∷ 1 ∷ cut_off) ≡ 48 ∷ 10 ∷ []
  -- the ends, -65534 and 65534
  pub least : margin_text (1 ∷ 1 ∷ 0 ∷ cut_off) ≡ 45 ∷ 54 ∷ 53 ∷ 53 ∷ 51 ∷ 52 ∷ 10 ∷ []
  pub greatest : margin_text (1 ∷ 0 ∷ 1 ∷ cut_off) ≡ 54 ∷ 53 ∷ 53 ∷ 51 ∷ 52 ∷ 10 ∷ []
  -- "Margins grow to match": the ends of an RRP2 plan, -4294967294 and 4294967294
  pub wide_least : margin_text (0 ∷ 0 ∷ 1 ∷ wide_ends) ≡ 45 ∷ 52 ∷ 50 ∷ 57 ∷ 52 ∷ 57 ∷ 54 ∷ 55 ∷ 50 ∷ 57 ∷ 52 ∷ 10 ∷ []  -- in 32 bits: "2"
  pub wide_greatest : margin_text (0 ∷ 1 ∷ 0 ∷ wide_ends) ≡ 52 ∷ 50 ∷ 57 ∷ 52 ∷ 57 ∷ 54 ∷ 55 ∷ 50 ∷ 57 ∷ 52 ∷ 10 ∷ []
  pub wide_no_way : margin_text (1 ∷ 0 ∷ 2 ∷ wide_ends) ≡ none_text  -- no way as a distance: "4294967288"
  -- "A list with count 0 is now legal": -253, the distances 5 and 258 from 0
  pub nobody_listed : margin_text (0 ∷ 1 ∷ 2 ∷ nobody_between) ≡ 45 ∷ 50 ∷ 53 ∷ 51 ∷ 10 ∷ []  -- count 0 refused: "refused 7"
  -- "or `none`"
  pub no_way_to_the_first : margin_text (3 ∷ 0 ∷ 1 ∷ cut_off) ≡ none_text  -- no way as a distance: "65505"
  pub no_way_to_the_second : margin_text (3 ∷ 1 ∷ 0 ∷ cut_off) ≡ none_text
  pub no_way_to_either : margin_text (3 ∷ 0 ∷ 2 ∷ cut_off) ≡ none_text  -- as equal distances: "0"
  -- "or the verdict program's refusal line"
  pub router_at_n : margin_text (4 ∷ 0 ∷ 1 ∷ cut_off) ≡ refused_text 56  -- "refused 8"
  pub first_at_n : margin_text (0 ∷ 4 ∷ 1 ∷ cut_off) ≡ refused_text 56
  pub second_at_n : margin_text (0 ∷ 1 ∷ 4 ∷ cut_off) ≡ refused_text 56
  pub broken_plan : margin_text (4 ∷ 0 ∷ 1 ∷ cut_off ++ (0 ∷ [])) ≡ refused_text 51  -- "refused 3"; the routers first: 8
  -- "which fewer than three bytes get with 1"; three bytes are followed by no plan
  pub nothing : margin_text [] ≡ refused_text 49  -- "refused 1"; with no line: ""
  pub one_byte : margin_text (0 ∷ []) ≡ refused_text 49
  pub two_bytes : margin_text (0 ∷ 3 ∷ []) ≡ refused_text 49
  pub three_bytes : margin_text (0 ∷ 3 ∷ 2 ∷ []) ≡ refused_text 49
