-- Examples that tell each rule of the header and the contents from a misreading of it, in literal bytes. Beside each stands what a
-- misreading gives.
use Rattle.std.specs.Prelude.{ℕ, ◌+◌, ◌≡◌, true, false, List, [], ◌∷◌, replicate}
use Rattle.plan_examples.specs.Plans.{first_of_twelve}
use Rattle.plan_contents.specs.declared.entries.Entry.{Entry}
use Rattle.plan_contents.specs.Header.{header_ok, width, router_count, router_count_ok}
use Rattle.plan_contents.specs.Contents.{contents_of, contents_ok, body}

-- the first 26 bytes of a plan of twelve routers, `first_of_twelve`, with another byte 5
unfoldable pub other_count : List ℕ
other_count = 82 ∷ 82 ∷ 80 ∷ 49 ∷ 12 ∷ 5 ∷ replicate 20 0

-- .. with another mark, 3
unfoldable pub other_mark : List ℕ
other_mark = 82 ∷ 82 ∷ 80 ∷ 51 ∷ 12 ∷ 4 ∷ replicate 20 0

-- .. and of an RRP2 plan
unfoldable pub first_of_wide : List ℕ
first_of_wide = 82 ∷ 82 ∷ 80 ∷ 50 ∷ 12 ∷ 4 ∷ replicate 20 0

-- .. and its first 25 bytes
unfoldable pub one_byte_short : List ℕ
one_byte_short = 82 ∷ 82 ∷ 80 ∷ 49 ∷ 12 ∷ 4 ∷ replicate 19 0

-- contents of kinds and sizes as given, each body after the one before; the lists have 3 bytes
unfoldable pub entries_of : (first second routers_size sessions_size distances_size : ℕ) → List Entry
entries_of first second routers_size sessions_size distances_size =
    record { kind = first; offset = 26; size = routers_size }
    ∷ record { kind = second; offset = 26 + routers_size; size = sessions_size }
    ∷ record { kind = 3; offset = 26 + routers_size + sessions_size; size = distances_size }
    ∷ record { kind = 4; offset = 26 + routers_size + sessions_size + distances_size; size = 3 }
    ∷ []

-- its contents
unfoldable pub four_entries : (distances_size lists_offset : ℕ) → List Entry
four_entries distances_size lists_offset =
    record { kind = 1; offset = 26; size = 60 }
    ∷ record { kind = 2; offset = 86; size = 0 }
    ∷ record { kind = 3; offset = 86; size = distances_size }
    ∷ record { kind = 4; offset = lists_offset; size = 3 }
    ∷ []

-- a plan of 6 + k bytes with the given mark, whose first six are right
unfoldable pub marked : ℕ → ℕ → List ℕ
marked letter k = 82 ∷ 82 ∷ 80 ∷ letter ∷ 64 ∷ 4 ∷ replicate k 0

-- "more than 16,731 bytes"; "such a plan may have 24,923 bytes, while an RRP1 plan keeps its 16,731"
pub record LengthExamples : Type 0 where
  pub longest : header_ok (marked 49 16725) ≡ true  -- below 16,731: false
  pub one_byte_longer : header_ok (marked 49 16726) ≡ false  -- to 16,732, or RRP2's limit: true
  pub longest_wide : header_ok (marked 50 24917) ≡ true  -- below 24,923, or RRP1's limit: false
  pub one_byte_longer_wide : header_ok (marked 50 24918) ≡ false  -- to 24,924: true

pub record ContentsExamples : Type 0 where
  -- "bytes 0 to 3: the letters RRP1", "byte 5: 4", "fewer than 26"
  pub header : header_ok first_of_twelve ≡ true
  pub other_first_letter : header_ok (81 ∷ 82 ∷ 80 ∷ 49 ∷ 12 ∷ 4 ∷ replicate 20 0) ≡ false  -- any first letter: true
  pub other_second_letter : header_ok (82 ∷ 81 ∷ 80 ∷ 49 ∷ 12 ∷ 4 ∷ replicate 20 0) ≡ false
  pub other_third_letter : header_ok (82 ∷ 82 ∷ 81 ∷ 49 ∷ 12 ∷ 4 ∷ replicate 20 0) ≡ false
  pub another_count : header_ok other_count ≡ false  -- without byte 5: true
  pub another_mark : header_ok other_mark ≡ false  -- any mark: true
  -- "Plans that start RRP2 have 4-byte distances"
  pub wide : header_ok first_of_wide ≡ true  -- RRP1 alone: false
  pub narrow_width : width first_of_twelve ≡ 2
  pub wide_width : width first_of_wide ≡ 4  -- whatever the mark: 2
  pub too_short : header_ok one_byte_short ≡ false  -- from 25 bytes: true
  -- "byte 4: n, the number of routers, 1 to 64"
  pub count : router_count first_of_twelve ≡ 12  -- byte 5: 4
  pub sixty_four : router_count_ok 64 ≡ true  -- below 64: false
  pub sixty_five : router_count_ok 65 ≡ false  -- at most 65: true
  pub no_router : router_count_ok 0 ≡ false  -- from 0: true
  -- "bytes 6 to 25: four entries of kind (1 byte), offset (2), length (2)", "the low byte first": 118 + 256 and 32 + 256
  pub high_bytes : contents_of first_of_twelve ≡ four_entries 288 374  -- by the low bytes: 32, 118
  -- "The first offset is 26, each next offset is the end of the body before, and the last body ends with the plan."
  pub accepted : contents_ok (four_entries 288 374) 2 12 377 ≡ true
  pub by_low_bytes : contents_ok (four_entries 32 118) 2 12 377 ≡ false
  pub gap : contents_ok (four_entries 288 375) 2 12 378 ≡ false  -- with a gap: true
  pub other_end : contents_ok (four_entries 288 374) 2 12 378 ≡ false  -- with bytes after the lists: true
  -- "The kinds are 1, 2, 3, 4 in that order.", "kind 1 or 3 has another length, or kind 2 an odd one": of two routers
  pub in_order : contents_ok (entries_of 1 2 10 2 8) 2 2 49 ≡ true
  pub kinds_exchanged : contents_ok (entries_of 2 1 10 2 8) 2 2 49 ≡ false  -- in any order: true
  pub odd_sessions : contents_ok (entries_of 1 2 10 3 8) 2 2 50 ≡ false  -- of any length: true
  pub routers_short : contents_ok (entries_of 1 2 9 2 8) 2 2 48 ≡ false  -- of any length: true
  pub distances_long : contents_ok (entries_of 1 2 10 2 9) 2 2 50 ≡ false  -- of any length: true
  -- "kind 3 has 4n² bytes"
  pub wide_size : contents_ok (entries_of 1 2 10 2 16) 4 2 57 ≡ true  -- of 2n² bytes: false
  pub narrow_size_in_a_wide_plan : contents_ok (entries_of 1 2 10 2 8) 4 2 49 ≡ false  -- of 2n² bytes: true
  pub wide_size_in_a_narrow_plan : contents_ok (entries_of 1 2 10 2 16) 2 2 57 ≡ false  -- of 4n² bytes: true
  -- "Each body is read as a part of the plan that starts at its offset."
  pub part : body (9 ∷ 8 ∷ 7 ∷ 6 ∷ 5 ∷ []) (record { kind = 4; offset = 2; size = 2 }) ≡ 7 ∷ 6 ∷ []  -- from 0: 9 8
