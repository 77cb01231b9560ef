-- `net_read::role_words`: a router is marked by its role, and at the end a word has the bits of its test.
use Rattle.std.proofs.Common.{ℕ, ◌≡◌, Bool, ◌&&◌, refl, ◌∙◌, sym, ap, arith, eqb, ltb}
use Rattle.base.specs.Bits.{bit_n, marked}
use Rattle.base.proofs.Marked.{marked-none, marked_more, marked-is}
use Rattle.net_read.proofs.role_words.Goals as goal

-- at the end a word has the bits of its test
ended : (test : ℕ → Bool) (word k n : ℕ) → k ≡ n → word ≡ marked test k → (v : ℕ) → eqb (bit_n word v) 1 ≡ (ltb v n && test v)
ended test word k n e h v = ap (λ x. eqb (bit_n x v) 1) (h ∙ ap (marked test) e) ∙ marked-is test n v

pub loop-v-init : goal.loop-v-init
loop-v-init c = record { reflectors = sym (marked-none _); skips = sym (marked-none _); hop = sym (marked-none _) }

pub loop-v-preserved : goal.loop-v-preserved
loop-v-preserved c =
    let so_far = c.loop-v.invariant in
    let r = c.with_role-words.ensures in
    record {
      reflectors = r.0 ∙ marked_more _ c.loop-v.v _ _ refl so_far.reflectors;
      skips = r.1 ∙ marked_more _ c.loop-v.v _ _ refl so_far.skips;
      hop = r.2 ∙ marked_more _ c.loop-v.v _ _ refl so_far.hop;
    }

pub returns : goal.returns
returns c =
    let w = c.loop-v.words in
    let so_far = c.loop-v.invariant in
    let e : c.loop-v.v ≡ c.args.n = omega arith in (
      ended _ w.reflectors _ _ e so_far.reflectors,
      ended _ w.skips _ _ e so_far.skips,
      ended _ w.hop _ _ e so_far.hop,
    )
