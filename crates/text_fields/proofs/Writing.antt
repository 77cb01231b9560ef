-- Laws of writing a text: one write, two one after the other, a loop of writes, the whole text.
use Prim.Native.Nat.{ℕ, suc, ◌+◌, ◌*◌, ◌≤◌, ◌<◌}
use native.Mathlib.Numerals.{add-one}
use native.Mathlib.Nat.{zero-add, add-zero, mul-suc}
use native.Mathlib.Omega.{arith}
use mathlib.Core.Path.{◌≡◌, refl, ◌∙◌, sym, ap, ap₂}
use mathlib.Core.List.{List, [], ◌∷◌, ◌++◌, append-nil}
use lib.ListN.{length, take, drop, set, length-append, length-set, take-append-drop}
use lib.Seq.{set_split, append_snoc}
use Rattle.base.specs.Buffer.{written}
use Rattle.base.proofs.Buffer.{written_then}
use Rattle.text_fields.specs.declared.Text.{Text}
use Rattle.text_fields.specs.Buffer.{Put, AtFront}

module _ {t : Text} where
  pub put-none : t.end ≤ length t.out.now → Put 0 t [] t
  unfolding written
  put-none h = record {
    same = refl;
    long = refl;
    within = h;
    short = omega arith;
    place = sym (add-zero t.end);
    is = rw (add-zero, append-nil) (sym (take-append-drop t.end t.out.now));
  }

  pub put_one :
      {u : Text} (b : ℕ) →
      t.end < length t.out.now →
      u.out.ghost_name ≡ t.out.ghost_name →
      u.out.now ≡ set t.out.now t.end b →
      u.end ≡ t.end + 1 →
      Put 1 t (b ∷ []) u
  unfolding written
  put_one b h same now end = record {
    same = same;
    long = ap length now ∙ length-set t.out.now t.end b;
    within = omega arith;
    short = omega arith;
    place = end;
    is = now ∙ set_split t.out.now t.end b h ∙ sym (append_snoc (take t.end t.out.now) b (drop (suc t.end) t.out.now)) ∙ rw add-one;
  }

  -- two writes, one after the other
  pub put_then : {r s : List ℕ} {u v : Text} {a b : ℕ} → Put a t r u → Put b u s v → Put (a + b) t (r ++ s) v
  put_then {r} {s} p q = record {
    same = q.same ∙ p.same;
    long = q.long ∙ p.long;
    within = omega (arith, q.within, p.long);
    short = omega (arith, p.short, q.short);
    place = omega (arith, p.place, q.place, length-append r s);
    is =
        q.is
        ∙ ap₂ (λ x y. written x y s) p.is p.place
        ∙ written_then t.out.now t.end r (omega (arith, p.within, p.place)) s;
  }

  -- .. where the second starts from a text that holds the same
  pub put_next :
      {r s : List ℕ} {u w v : Text} {a b : ℕ} →
      Put a t r u →
      Put b w s v →
      w.out.ghost_name ≡ u.out.ghost_name →
      w.out.now ≡ u.out.now →
      w.end ≡ u.end →
      Put (a + b) t (r ++ s) v
  put_next {r} {s} p q name now end =
      put_then p
      (record {
        same = q.same ∙ name;
        long = q.long ∙ ap length now;
        within = omega (arith, q.within, ap length now);
        short = omega (arith, q.short, end);
        place = omega (arith, q.place, end);
        is = q.is ∙ ap₂ (λ x y. written x y s) now end;
      })

  -- the same write, said of other bytes that are equal and of more room
  pub put_as : {r s : List ℕ} {u : Text} {a b : ℕ} → Put a t r u → r ≡ s → a ≤ b → Put b t s u
  put_as p e h = record {
    same = p.same;
    long = p.long;
    within = p.within;
    short = omega (arith, p.short);
    place = p.place ∙ ap (λ x. t.end + length x) e;
    is = p.is ∙ ap (written t.out.now t.end) e;
  }

-- a loop that writes n pieces, each of at most `each` bytes, and has written i of them: pieces i
pub record Putting (pieces : ℕ → List ℕ) (each n : ℕ) (before after : Text) (i : ℕ) : Type 0 where
  pub upto : i ≤ n
  pub put : Put (each * i) before (pieces i) after

module _ {pieces : ℕ → List ℕ} {each n : ℕ} {t : Text} where
  pub putting-start : pieces 0 ≡ [] → t.end ≤ length t.out.now → Putting pieces each n t t 0
  putting-start e h = record { upto = omega arith; put = put_as (put-none h) (sym e) (omega arith) }

  pub putting-more :
      {u v : Text} {s : List ℕ} {i : ℕ} →
      Putting pieces each n t u i →
      i < n →
      pieces (i + 1) ≡ pieces i ++ s →
      Put each u s v →
      Putting pieces each n t v (i + 1)
  putting-more w h e p = record {
    upto = omega arith;
    put = put_as (put_then w.put p) (sym e) (rw (add-one, mul-suc) (omega arith));
  }

  pub putting-done : {u : Text} {i : ℕ} → Putting pieces each n t u i → n ≤ i → Put (each * n) t (pieces n) u
  putting-done {i = i} w h = let e : i ≡ n = omega (arith, w.upto) in rw e at w.put

-- an empty text in the whole of a buffer that was d, where bytes r were written: `after` is what the buffer then holds
pub at_front :
    {t u : Text} {d r s after : List ℕ} {a : ℕ} →
    t.out.now ≡ d →
    t.end ≡ 0 →
    Put a t r u →
    after ≡ u.out.now →
    r ≡ s →
    AtFront d s after u.end
unfolding written
at_front {t} {u} {d} {r} {s} lent empty p whole e =
    let is : u.out.now ≡ written d 0 r = p.is ∙ ap₂ (λ x y. written x y r) lent empty in
    let long : u.end ≡ length r = p.place ∙ ap (λ y. y + length r) empty ∙ zero-add (length r) in
    record {
      within = rw (← lent) p.within;
      long = long ∙ ap length e;
      is = whole ∙ is ∙ ap₂ (λ x n. x ++ drop n d) e (zero-add (length r) ∙ sym long);
    }
