use Rattle.std.proofs.Common.{ℕ, List, ◌≡◌, arith}
use Rattle.links_words.specs.Lowered.{RowsLowered}
use Rattle.links_sums.proofs.Words.{sums-start, sums-more}
use Rattle.links_sums.proofs.least_sums.Goals as goal

-- the same, through a router said otherwise
through : {n k v : ℕ} {s t : List ℕ} → v ≡ k → RowsLowered n v s n t → RowsLowered n k s n t
through e r = rw e at r

pub loop-via-init : goal.loop-via-init
loop-via-init c = sums-start _ _ _ c.add_links.ensures

pub loop-via-preserved : goal.loop-via-preserved
loop-via-preserved c = sums-more _ _ _ _ c.loop-via.via c.loop-via-test.true c.loop-via.invariant (through (omega arith) c.pass_through.ensures)
