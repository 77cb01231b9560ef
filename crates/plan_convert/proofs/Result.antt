-- What is written of a plan, one part after the other, is what the plan is converted to.
use Prim.Native.Nat.{ℕ, ◌+◌, ◌*◌, ◌-◌, ◌≤◌, ◌<◌}
use native.Mathlib.Omega.{arith}
use mathlib.Core.Path.{◌≡◌, refl, ◌∙◌, sym, ap}
use mathlib.Core.List.{List, [], ◌∷◌, ◌++◌, append_assoc}
use lib.ListN.{length, get_or, take, drop, length-append}
use lib.Seq.{take-add, drop-drop}
use Rattle.base.specs.Buffer.{written}
use Rattle.base.specs.Tab.{joined}
use Rattle.base.proofs.Buffer.{Laid, laid_then, laid-front}
use Rattle.plan_contents.specs.declared.entries.Entry.{Entry}
use Rattle.plan_contents.specs.Header.{width, router_count}
use Rattle.plan_contents.specs.Contents.{contents_of, no_entry, routers_entry, sessions_entry, distances_entry, lists_entry, routers_body, sessions_body, lists_body}
use Rattle.plan_rules.specs.Distances.{body_of, TwoOrFour}
use Rattle.plan_rules.specs.Converted.{mark_of, entry_bytes, converted_number, converted}
use Rattle.plan_rules.specs.Passed.{Passed}
use Rattle.plan_rules.proofs.ConvertedParts.{length-is, longer, most, distances-most, routers-long, sessions-long, distances-long, lists-long}
use Rattle.plan_convert.specs.Result.{result_contents}

-- how the parts lie in a buffer of `room` bytes; `table` is the result's contents
pub record PartsLie (to : ℕ) (plan : List ℕ) (table : List Entry) (room : ℕ) : Type 0 where
  pub front : 26 ≤ room
  pub least : 26 ≤ (distances_entry table).offset
  pub most : (distances_entry table).offset ≤ length plan
  pub copied : 26 + length (take ((distances_entry table).offset - 26) (drop 26 plan)) ≤ room
  pub body : (distances_entry table).offset + to * (router_count plan * router_count plan) ≤ room
  pub lists : (lists_entry table).offset + length (lists_body plan) ≤ room

module _ (to : ℕ) (plan : List ℕ) where
  abbrev n : ℕ
  n = router_count plan

  abbrev start : ℕ
  start = (distances_entry (contents_of plan)).offset

  -- the parts as they are written
  abbrev front : List ℕ
  front =
      (82 ∷ 82 ∷ 80 ∷ mark_of to ∷ n ∷ 4 ∷ []) ++ joined (λ k. entry_bytes (get_or (result_contents to n (contents_of plan)) k no_entry)) 4

  abbrev copied : List ℕ
  copied = take (start - 26) (drop 26 plan)

  abbrev distances : List ℕ
  distances = body_of to (converted_number to plan) n

  length_front : length front ≡ 26
  unfolding joined entry_bytes
  length_front = refl

  parts : converted to plan ≡ front ++ routers_body plan ++ sessions_body plan ++ distances ++ lists_body plan
  unfolding converted joined entry_bytes
  parts = refl

  module _ (t : TwoOrFour to) (p : Passed plan) where
    copied_is : routers_body plan ++ sessions_body plan ≡ copied
    copied_is =
        let r = routers_entry (contents_of plan) in
        let s = sessions_entry (contents_of plan) in
        let c = p.contents in
        let sizes : r.size + s.size ≡ start - 26 = omega arith in
        rw (c.routers_start, c.sessions_start, c.routers_start, ← drop-drop r.size 26 plan, ← take-add r.size s.size (drop 26 plan), sizes)

    whole : front ++ copied ++ distances ++ lists_body plan ≡ converted to plan
    whole =
        ap (λ c. front ++ c ++ distances ++ lists_body plan) (sym copied_is)
        ∙ ap (λ c. c ++ distances ++ lists_body plan) (sym (append_assoc front (routers_body plan) (sessions_body plan)))
        ∙ sym parts

    length-copied : length copied ≡ start - 26
    length-copied =
        ap length (sym copied_is)
        ∙ length-append (routers_body plan) (sessions_body plan)
        ∙ omega (arith, routers-long to t plan p, sessions-long to t plan p, p.contents)

    -- writes of all parts, one after the other
    parts-written :
        (d : List ℕ) {l₁ l₂ l₃ l₄ : List ℕ} → length (converted to plan) ≤ length d → l₁ ≡ written d 0 front → l₂ ≡ written l₁ 26 copied →
        l₃ ≡ written l₂ start distances → l₄ ≡ written l₃ (start + to * (n * n)) (lists_body plan) →
        l₄ ≡ converted to plan ++ drop (length (converted to plan)) d
    parts-written d {l₁} {l₂} {l₃} {l₄} room e₁ e₂ e₃ e₄ =
        let c = p.contents in
        let total = length-is to t plan p in
        let long = distances-long to t plan p in
        let with-copied : length (front ++ copied) ≡ start = length-append front copied ∙ omega (arith, length_front, length-copied, c) in
        let with-distances : length (front ++ copied ++ distances) ≡ start + to * (n * n) =
        length-append (front ++ copied) distances ∙ omega (arith, with-copied, long) in
        let one : Laid d 0 front l₁ = record { within = omega (arith, total, length_front); is = e₁ } in
        let two : Laid d 0 (front ++ copied) l₂ =
        laid_then one 26 copied (omega (arith, length_front)) (omega (arith, total, length-copied)) e₂ in
        let three : Laid d 0 (front ++ copied ++ distances) l₃ =
        laid_then two start distances (omega (arith, with-copied)) (omega (arith, total, long)) e₃ in
        let four : Laid d 0 (front ++ copied ++ distances ++ lists_body plan) l₄ =
        laid_then three (start + to * (n * n)) (lists_body plan) (omega (arith, with-distances)) (omega (arith, total, lists-long to t plan p)) e₄ in
        laid-front (rw whole at four)

    -- the same by a width and a count that are the plan's
    module _ {bytes count : ℕ} (b : bytes ≡ width plan) (r : count ≡ n) where
      pub size-most : to * (count * count) ≤ 16384
      size-most = rw r (distances-most to t plan p)

      pub longer-by : length (converted to plan) + bytes * (count * count) ≡ length plan + to * (count * count)
      longer-by = rw (b, r) (longer to t plan p)

    -- .. and by a table that is the plan's
    pub next-most : {table : List Entry} {count : ℕ} → table ≡ contents_of plan → count ≡ n → (distances_entry table).offset + to * (count * count) < 65536
    next-most e r = rw (e, r) (omega (arith, p.contents, most to t plan p, distances-most to t plan p))

    -- .. and by one that is the result's
    module _ {table : List Entry} (e : table ≡ result_contents to n (contents_of plan)) where
      pub parts-lie : {room : ℕ} → length (converted to plan) ≤ room → PartsLie to plan table room
      parts-lie {room} h =
          let c = p.contents in
          let total = length-is to t plan p in
          rw e
          (record {
            front = omega (arith, total);
            least = omega arith;
            most = omega arith;
            copied = omega (arith, total, length-copied);
            body = omega (arith, total);
            lists = omega (arith, total, lists-long to t plan p);
          })

      pub all-written :
          {count : ℕ} → count ≡ n → (d : List ℕ) {l₁ l₂ l₃ l₄ s : List ℕ} → length (converted to plan) ≤ length d →
          l₁ ≡ written d 0 ((82 ∷ 82 ∷ 80 ∷ mark_of to ∷ count ∷ 4 ∷ []) ++ joined (λ k. entry_bytes (get_or table k no_entry)) 4) →
          l₂ ≡ written l₁ 26 (take ((distances_entry table).offset - 26) (drop 26 plan)) →
          l₃ ≡ written l₂ (distances_entry table).offset distances →
          s ≡ lists_body plan → l₄ ≡ written l₃ (lists_entry table).offset s →
          l₄ ≡ converted to plan ++ drop (length (converted to plan)) d
      all-written r d room e₁ e₂ e₃ q e₄ = parts-written d room (rw (e, r) at e₁) (rw e at e₂) (rw e at e₃) (rw (e, q) at e₄)
