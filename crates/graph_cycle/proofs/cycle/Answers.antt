-- `graph_cycle::cycle`: what is copied is the part of the walk that `follow` found.
use Rattle.std.proofs.Common.{◌∙◌, ◌+◌, ◌-◌, ap, refl, get_or, drop, arith}
use Rattle.std.proofs.lemmas.List.{get_or-take, get_or-drop, length-take, length-drop, length-take-le}
use Rattle.base.proofs.Library.{front-tab}
use Rattle.graph_cycle.proofs.Following.{follow-asked, followed-part, followed-written}
use Rattle.graph_cycle.proofs.cycle.Goals as goal

pub follow-found-requires : goal.follow-found-requires
follow-found-requires c = follow-asked _ _ _ _ c.requires _ refl

pub overflow_sub-count : goal.overflow_sub-count
overflow_sub-count c = omega (arith, followed-part _ _ _ _ c.requires _ _ _ c.follow-found.ensures)

pub slice_bounds-part-count : goal.slice_bounds-part-count
slice_bounds-part-count c = omega (arith, followed-part _ _ _ _ c.requires _ _ _ c.follow-found.ensures, c.requires.small, c.requires.long)

pub slice_bounds-part-start : goal.slice_bounds-part-start
slice_bounds-part-start c = omega (arith, followed-part _ _ _ _ c.requires _ _ _ c.follow-found.ensures, c.requires.small, c.requires.long)

pub slice_bounds-part-end : goal.slice_bounds-part-end
slice_bounds-part-end c = omega (arith, followed-part _ _ _ _ c.requires _ _ _ c.follow-found.ensures, c.requires.small, c.requires.long)

pub slice_bounds-copy_from_slice-end : goal.slice_bounds-copy_from_slice-end
slice_bounds-copy_from_slice-end c = omega (arith, followed-part _ _ _ _ c.requires _ _ _ c.follow-found.ensures, c.requires.small, c.requires.long)

pub slice_bounds-copy_from_slice-end-2 : goal.slice_bounds-copy_from_slice-end-2
slice_bounds-copy_from_slice-end-2 c =
    simp length-take (omega (arith, followed-part _ _ _ _ c.requires _ _ _ c.follow-found.ensures, c.requires.small, c.requires.long))

pub copy_from_slice-requires : goal.copy_from_slice-requires
copy_from_slice-requires c =
    let part = followed-part _ _ _ _ c.requires _ _ _ c.follow-found.ensures in
    simp (length-take, length-drop) (omega (arith, part, c.requires.small, c.requires.long))

pub returns : goal.returns
returns c =
    let found = c.follow-found.result in
    let inside = followed-part _ _ _ _ c.requires _ _ _ c.follow-found.ensures in
    let long = length-take-le (found.upto - found.from) c.args.out.now (omega (arith, inside, c.requires.long)) in
    let w =
    followed-written _ _ _ _ c.requires _ _ _ _ c.follow-found.ensures
    (front-tab (λ d. get_or c.follow-found.new.path (found.from + d) 0) (found.upto - found.from) c.copy_from_slice.new.self _
    (c.copy_from_slice.ensures.len ∙ long)
    (λ d l. ap (λ t. get_or t d 0) c.copy_from_slice.ensures.after
    ∙ get_or-take (found.upto - found.from) (drop found.from c.follow-found.new.path) d 0 l
    ∙ get_or-drop found.from c.follow-found.new.path d 0)) in
    record { count = w.0; written = w.1 }
