use Rattle.std.proofs.Common.{◌≡◌, ◌<◌, ◌∙◌, ℕ, List, [], ◌∷◌, length, get_or, ap, ap₂, sym, arith}
use Rattle.std.specs.List.{slice_range}
use Rattle.std.proofs.lemmas.Grind.{get_or_default_zero}
use Rattle.mark_core.specs.TargetLists.{lists_of}
use Rattle.mark_core.proofs.ListEnds.{length-lists, list_at, ends_behind, ends_inside}
use Rattle.mark_core.proofs.target_lists.TargetLists.list.Goals as goal

-- there is one list an end
counted : (numbers ends : List ℕ) (lists : List (List ℕ)) → lists_of numbers 0 ends ≡ lists
    → length ends ≡ length lists
counted numbers ends lists is = sym (length-lists numbers 0 ends) ∙ ap length is

-- the index names an end
pub index-requires : goal.index-requires
index-requires c =
    let long = counted c.self.inside.targets.items c.self.inside.ends.items c.args.self.now
    c.self.view_is in
    let inside = c.requires in
    let len = c.self.inside.ends.ok.0 in
    omega arith

pub start_of-start-requires : goal.start_of-start-requires
start_of-start-requires c =
    let long = counted c.self.inside.targets.items c.self.inside.ends.items c.args.self.now
    c.self.view_is in
    let here = ap length c.deref.ensures.value in
    let inside = c.requires in
    omega arith

-- where the list begins and ends, of the ends themselves
begun : (start : ℕ) (ends read : List ℕ) (i : ℕ) → start ≡ get_or (0 ∷ read) i 0 → read ≡ ends
    → start ≡ get_or (0 ∷ ends) i 0
begun start ends read i is same = is ∙ ap (λ es. get_or (0 ∷ es) i 0) same

-- what an index reads
read_at : (ends : List ℕ) (i end : ℕ) → i < length ends → end ≡ get_or ends i end
    → end ≡ get_or ends i 0
read_at ends i end inside is = is ∙ get_or_default_zero ends i end inside

pub part-requires-clause-order : goal.part-requires-clause-order
part-requires-clause-order c =
    let ends = c.self.inside.ends.items in
    let long = counted c.self.inside.targets.items ends c.args.self.now c.self.view_is in
    let inside = c.requires in
    let start = begun c.start_of-start.result ends c.deref.result.now c.args.index
    c.start_of-start.ensures c.deref.ensures.value in
    let end = read_at ends c.args.index c.index.result.now (omega arith) c.index.ensures in
    let up = ends_behind 0 ends (length c.self.inside.targets.items) c.args.index c.self.invariant.0
    (omega arith) in
    omega arith

pub part-requires-clause-within : goal.part-requires-clause-within
part-requires-clause-within c =
    let ends = c.self.inside.ends.items in
    let long = counted c.self.inside.targets.items ends c.args.self.now c.self.view_is in
    let inside = c.requires in
    let here = ap length c.deref-2.ensures.value in
    let up = ends_inside 0 ends (length c.self.inside.targets.items) c.args.index c.self.invariant.0
    (omega arith) in
    let end = read_at ends c.args.index c.index.result.now (omega arith) c.index.ensures in
    omega arith

pub returns : goal.returns
returns c =
    let ends = c.self.inside.ends.items in
    let numbers = c.self.inside.targets.items in
    let long = counted numbers ends c.args.self.now c.self.view_is in
    let inside = c.requires in
    let start = begun c.start_of-start.result ends c.deref.result.now c.args.index
    c.start_of-start.ensures c.deref.ensures.value in
    c.part.ensures
    ∙ ap (λ ns. slice_range ns c.start_of-start.result c.index.result.now) c.deref-2.ensures.value
    ∙ ap₂ (slice_range numbers) start
    (read_at ends c.args.index c.index.result.now (omega arith) c.index.ensures)
    ∙ sym (list_at numbers 0 ends c.args.index (omega arith))
    ∙ ap (λ ls. get_or ls c.args.index []) c.self.view_is
