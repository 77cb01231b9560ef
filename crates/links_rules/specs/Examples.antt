-- Examples that tell the rules of a link sheet from a misreading of them, in literal bytes: n, the links' bytes, the buffer lent,
-- the number returned, and every byte that the buffer then has. Beside each stands what a misreading gives.
use Rattle.std.specs.Prelude.{ℕ, ◌≡◌, List, [], ◌∷◌, length, replicate}
use Rattle.links_rules.specs.Distances.{distances_refusal, distances_after}

abbrev pub Gives : ℕ → List ℕ → List ℕ → ℕ → List ℕ → Type 0
Gives n s out number after = (distances_refusal n s (length out) ≡ number) × (distances_after n s out ≡ after)

-- links both ways between two routers; buffers with the bytes that they had
unfoldable pub both_ways : List ℕ
both_ways = 0 ∷ 1 ∷ 7 ∷ 0 ∷ 1 ∷ 0 ∷ 9 ∷ 0 ∷ []

unfoldable pub eight : List ℕ
eight = 91 ∷ 92 ∷ 93 ∷ 94 ∷ 95 ∷ 96 ∷ 97 ∷ 98 ∷ []

unfoldable pub seven : List ℕ
seven = 91 ∷ 92 ∷ 93 ∷ 94 ∷ 95 ∷ 96 ∷ 97 ∷ []

unfoldable pub eighteen : List ℕ
eighteen = 1 ∷ 2 ∷ 3 ∷ 4 ∷ 5 ∷ 6 ∷ 7 ∷ 8 ∷ 9 ∷ 10 ∷ 11 ∷ 12 ∷ 13 ∷ 14 ∷ 15 ∷ 16 ∷ 17 ∷ 18 ∷ []

pub record LinksExamples : Type 0 where
  -- "each entry is the least sum of weights over all walks, 0 on the diagonal"
  pub one_router : Gives 1 [] (91 ∷ 92 ∷ []) 0 (0 ∷ 0 ∷ [])  -- no walk of no link: 255 255
  pub directed : Gives 2 both_ways eight 0 (0 ∷ 0 ∷ 7 ∷ 0 ∷ 9 ∷ 0 ∷ 0 ∷ 0 ∷ [])  -- column, then row: 0 0 9 0 7 0 0 0
  pub high_byte : Gives 2 (0 ∷ 1 ∷ 0 ∷ 1 ∷ 1 ∷ 0 ∷ 9 ∷ 2 ∷ []) eight 0 (0 ∷ 0 ∷ 0 ∷ 1 ∷ 9 ∷ 2 ∷ 0 ∷ 0 ∷ [])  -- by the low byte: 11
  -- 0 to 1 by 1, 0 to 2 by 9, 1 to 2 by 2, 2 to 0 by 1
  pub two_links :
      Gives 3 (0 ∷ 1 ∷ 1 ∷ 0 ∷ 0 ∷ 2 ∷ 9 ∷ 0 ∷ 1 ∷ 2 ∷ 2 ∷ 0 ∷ 2 ∷ 0 ∷ 1 ∷ 0 ∷ []) eighteen 0
      (0 ∷ 0 ∷ 1 ∷ 0 ∷ 3 ∷ 0 ∷ 3 ∷ 0 ∷ 0 ∷ 0 ∷ 2 ∷ 0 ∷ 1 ∷ 0 ∷ 2 ∷ 0 ∷ 0 ∷ 0 ∷ [])  -- the direct link: 9 for 3
  -- 0 to 1 by 9, 0 to 2 by 1, 1 to 0 by 1, 2 to 1 by 2
  pub through_the_last :
      Gives 3 (0 ∷ 1 ∷ 9 ∷ 0 ∷ 0 ∷ 2 ∷ 1 ∷ 0 ∷ 1 ∷ 0 ∷ 1 ∷ 0 ∷ 2 ∷ 1 ∷ 2 ∷ 0 ∷ []) eighteen 0
      (0 ∷ 0 ∷ 3 ∷ 0 ∷ 1 ∷ 0 ∷ 1 ∷ 0 ∷ 0 ∷ 0 ∷ 2 ∷ 0 ∷ 3 ∷ 0 ∷ 2 ∷ 0 ∷ 0 ∷ 0 ∷ [])  -- through routers below n - 1: 9 for 3
  -- 0 to 1 by 1, 0 to 3 by 9, 1 to 2 by 2, 2 to 3 by 3, 3 to 0 by 1
  pub three_links :
      Gives 4 (0 ∷ 1 ∷ 1 ∷ 0 ∷ 0 ∷ 3 ∷ 9 ∷ 0 ∷ 1 ∷ 2 ∷ 2 ∷ 0 ∷ 2 ∷ 3 ∷ 3 ∷ 0 ∷ 3 ∷ 0 ∷ 1 ∷ 0 ∷ []) (replicate 32 91) 0
      (0 ∷ 0 ∷ 1 ∷ 0 ∷ 3 ∷ 0 ∷ 6 ∷ 0 ∷ 6 ∷ 0 ∷ 0 ∷ 0 ∷ 2 ∷ 0 ∷ 5 ∷ 0
      ∷ 4 ∷ 0 ∷ 5 ∷ 0 ∷ 0 ∷ 0 ∷ 3 ∷ 0 ∷ 1 ∷ 0 ∷ 2 ∷ 0 ∷ 4 ∷ 0 ∷ 0 ∷ 0 ∷ [])  -- over two links at most: 9 for 6
  pub loop : Gives 1 (0 ∷ 0 ∷ 5 ∷ 0 ∷ []) (91 ∷ 92 ∷ []) 0 (0 ∷ 0 ∷ [])  -- the loop's weight: 5 0
  -- a loop forbidden: 11
  pub loop_besides : Gives 2 (0 ∷ 0 ∷ 5 ∷ 0 ∷ 0 ∷ 1 ∷ 7 ∷ 0 ∷ 1 ∷ 0 ∷ 9 ∷ 0 ∷ []) eight 0 (0 ∷ 0 ∷ 7 ∷ 0 ∷ 9 ∷ 0 ∷ 0 ∷ 0 ∷ [])
  -- "each from, to (a byte each, below n) and weight (two bytes, 1 to 65,535), rising strictly by from and then to"
  pub from_at_n : Gives 1 (1 ∷ 0 ∷ 7 ∷ 0 ∷ []) eight 11 eight  -- at most n: 0
  pub to_at_n : Gives 1 (0 ∷ 1 ∷ 7 ∷ 0 ∷ []) eight 11 eight  -- at most n: 0
  pub no_weight : Gives 1 (0 ∷ 0 ∷ 0 ∷ 0 ∷ []) eight 11 eight  -- from 0: 0
  pub equal_links : Gives 2 (0 ∷ 1 ∷ 7 ∷ 0 ∷ 0 ∷ 1 ∷ 8 ∷ 0 ∷ 1 ∷ 0 ∷ 9 ∷ 0 ∷ []) eight 11 eight  -- not strictly: 0
  pub to_falls : Gives 2 (0 ∷ 1 ∷ 7 ∷ 0 ∷ 0 ∷ 0 ∷ 7 ∷ 0 ∷ 1 ∷ 0 ∷ 9 ∷ 0 ∷ []) eight 11 eight  -- by from alone: 0
  pub from_falls : Gives 2 (1 ∷ 0 ∷ 7 ∷ 0 ∷ 0 ∷ 1 ∷ 9 ∷ 0 ∷ []) eight 11 eight  -- by to alone: 0
  -- "the links' bytes are no multiple of four"
  pub three_bytes : Gives 1 (0 ∷ 0 ∷ 7 ∷ []) eight 11 eight  -- whole links alone: 0
  pub six_bytes : Gives 1 (0 ∷ 0 ∷ 7 ∷ 0 ∷ 0 ∷ 0 ∷ []) eight 11 eight  -- a multiple of two: 0
  -- "Slip 1 writes 65,535 for a pair with no walk": misread as refused, 12
  pub one_way : Gives 2 (0 ∷ 1 ∷ 7 ∷ 0 ∷ []) eight 0 (0 ∷ 0 ∷ 7 ∷ 0 ∷ 255 ∷ 255 ∷ 0 ∷ 0 ∷ [])  -- links both ways: 7 0 for 255 255
  pub no_links : Gives 2 [] eight 0 (0 ∷ 0 ∷ 255 ∷ 255 ∷ 255 ∷ 255 ∷ 0 ∷ 0 ∷ [])  -- no walk as 0: 0 0 for 255 255
  pub cut_off :
      Gives 3 both_ways eighteen 0
      (0 ∷ 0 ∷ 7 ∷ 0 ∷ 255 ∷ 255 ∷ 9 ∷ 0 ∷ 0 ∷ 0 ∷ 255 ∷ 255 ∷ 255 ∷ 255 ∷ 255 ∷ 255 ∷ 0 ∷ 0 ∷ [])  -- 65,534: 254 255 for 255 255
  -- "so 12 is left for sums that are too large": "a least sum above 65,534"
  pub greatest : Gives 2 (0 ∷ 1 ∷ 254 ∷ 255 ∷ 1 ∷ 0 ∷ 9 ∷ 0 ∷ []) eight 0 (0 ∷ 0 ∷ 254 ∷ 255 ∷ 9 ∷ 0 ∷ 0 ∷ 0 ∷ [])  -- below 65,534: 12
  pub one_more : Gives 2 (0 ∷ 1 ∷ 255 ∷ 255 ∷ 1 ∷ 0 ∷ 9 ∷ 0 ∷ []) eight 12 eight  -- any two bytes, or as no walk: 0
  pub one_more_back : Gives 2 (0 ∷ 1 ∷ 9 ∷ 0 ∷ 1 ∷ 0 ∷ 255 ∷ 255 ∷ []) eight 12 eight  -- asked from the lower router alone: 0
  -- 0 to 1 by 65,535, 0 to 2 by 1, 2 to 1 by 2
  pub shorter_walk :
      Gives 3 (0 ∷ 1 ∷ 255 ∷ 255 ∷ 0 ∷ 2 ∷ 1 ∷ 0 ∷ 2 ∷ 1 ∷ 2 ∷ 0 ∷ []) eighteen 0
      (0 ∷ 0 ∷ 3 ∷ 0 ∷ 1 ∷ 0 ∷ 255 ∷ 255 ∷ 0 ∷ 0 ∷ 255 ∷ 255 ∷ 255 ∷ 255 ∷ 2 ∷ 0 ∷ 0 ∷ 0 ∷ [])  -- asked of each link's weight: 12
  -- 32,768 and 32,768
  pub sum_above : Gives 3 (0 ∷ 1 ∷ 0 ∷ 128 ∷ 1 ∷ 2 ∷ 0 ∷ 128 ∷ 2 ∷ 0 ∷ 1 ∷ 0 ∷ []) eighteen 12 eighteen  -- in two bytes, as 0: 0
  -- beside pairs with no walk: a walk of 65,534, one of 65,535, and 32,768 and 32,768
  pub greatest_besides : Gives 2 (0 ∷ 1 ∷ 254 ∷ 255 ∷ []) eight 0 (0 ∷ 0 ∷ 254 ∷ 255 ∷ 255 ∷ 255 ∷ 0 ∷ 0 ∷ [])  -- no walk too large: 12
  pub one_more_besides : Gives 2 (0 ∷ 1 ∷ 255 ∷ 255 ∷ []) eight 12 eight  -- 12 only where all pairs have a walk: 0
  pub sum_above_besides : Gives 3 (0 ∷ 1 ∷ 0 ∷ 128 ∷ 1 ∷ 2 ∷ 0 ∷ 128 ∷ []) eighteen 12 eighteen  -- the links' weights alone: 0
  -- "both come after 2 and before 9": the first check in order that fails decides
  -- 0 to 1 by 65,535, 1 to 0 by 0
  pub eleven_first : Gives 2 (0 ∷ 1 ∷ 255 ∷ 255 ∷ 1 ∷ 0 ∷ 0 ∷ 0 ∷ []) seven 11 seven  -- the last: 9, the highest: 12, the lowest: 9
  pub twelve_first : Gives 2 (0 ∷ 1 ∷ 255 ∷ 255 ∷ []) seven 12 seven  -- the last and the lowest: 9
  -- "The buffer needs 2n² bytes, and later ones are untouched."
  pub short : Gives 2 both_ways seven 9 seven  -- n² bytes: 0
  pub longer : Gives 1 [] (91 ∷ 92 ∷ 93 ∷ 94 ∷ []) 0 (0 ∷ 0 ∷ 93 ∷ 94 ∷ [])  -- all cleared: 0 0 0 0

pub record RouterCountExamples : Type 0 where
  -- "An n outside 1 to 64 gives refusal 2."
  pub no_router : Gives 0 [] eight 2 eight  -- from 0: 0
  pub sixty_four : Gives 64 (0 ∷ 1 ∷ 7 ∷ []) eight 11 eight  -- below 64: 2
  pub sixty_five : Gives 65 (0 ∷ 1 ∷ 7 ∷ []) eight 2 eight  -- to 65, or 2 after 11: 11
