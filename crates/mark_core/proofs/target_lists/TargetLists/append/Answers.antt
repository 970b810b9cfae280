use Rattle.std.proofs.Common.{◌≡◌, ◌<◌, ◌∙◌, ◌+◌, ◌++◌, ℕ, List, length, map, get_or, ap, ap₂, sym, subst, arith}
use Rattle.std.specs.Prelude.{slice_index_or}
use Rattle.std.proofs.lemmas.List.{length-append}
use Rattle.std.proofs.lemmas.Grind.{get_or_default_zero}
use Rattle.mark_core.specs.TargetLists.{lists_of, AreEnds}
use Rattle.mark_core.proofs.ListEnds.{ends_inside}
use Rattle.mark_core.proofs.ListsJoined.{lists_joined, ends_joined, lists_shifted, ends_shifted}
use Rattle.mark_core.proofs.target_lists.TargetLists.append.Goals as goal

-- no shifted end is too large
small : (start count : ℕ) (ends : List ℕ) (k d : ℕ) → start + count < 4294967296
    → AreEnds 0 ends count → k < length ends → start + get_or ends k d < 4294967296
small start count ends k d few are inside =
    let same = get_or_default_zero ends k d inside in
    let up = ends_inside 0 ends count k are inside in
    omega arith

-- both numbers, and the ends of both
joined : (numbers more new ends others new_ends : List ℕ) (start : ℕ) → new ≡ numbers ++ more
    → new_ends ≡ ends ++ map (λ end. start + end) others → start ≡ length numbers
    → AreEnds 0 ends (length numbers)
    → lists_of new 0 new_ends ≡ lists_of numbers 0 ends ++ lists_of more 0 others
joined numbers more new ends others new_ends start is pushed begins old =
    let shifted = map (λ end. length numbers + end) others in
    let none : length numbers ≡ length numbers + 0 = omega arith in
    ap₂ (λ ns es. lists_of ns 0 es) is (pushed ∙ ap (λ s. ends ++ map (λ end. s + end) others)
    begins)
    ∙ lists_joined numbers more 0 ends shifted old
    ∙ ap (λ s. lists_of numbers 0 ends ++ lists_of (numbers ++ more) s shifted) none
    ∙ ap (λ ls. lists_of numbers 0 ends ++ ls) (lists_shifted numbers more 0 others)

ended : (numbers more new ends others new_ends : List ℕ) (start : ℕ) → new ≡ numbers ++ more
    → new_ends ≡ ends ++ map (λ end. start + end) others → start ≡ length numbers
    → start + length more < 4294967296 → AreEnds 0 ends (length numbers)
    → AreEnds 0 others (length more) → AreEnds 0 new_ends (length new) × length new < 4294967296
ended numbers more new ends others new_ends start is pushed begins few old behind =
    let shifted = map (λ end. length numbers + end) others in
    let none : length numbers + 0 ≡ length numbers = omega arith in
    let long = ap length is ∙ length-append numbers more in (
      subst (AreEnds 0 new_ends) (sym long)
          (subst (λ es. AreEnds 0 es (length numbers + length more))
          (sym (pushed ∙ ap (λ s. ends ++ map (λ end. s + end) others) begins))
          (ends_joined 0 ends shifted (length numbers) (length numbers + length more) old
          (subst (λ s. AreEnds s shifted (length numbers + length more)) none
          (ends_shifted (length numbers) 0 others (length more) behind)))),
      omega arith,
    )

pub push_shifted-requires-clause-fit : goal.push_shifted-requires-clause-fit
push_shifted-requires-clause-fit c = λ k d inside.
    let same = c.deref-2.ensures.value in
    let count = c.len.ensures ∙ c.others.inside.targets.ok.0 in
    let few : c.len-start.result + length c.others.inside.targets.items < 4294967296 =
    omega (arith, c.in_ok-_end.ensures.end, c.in_ok-_end.ensures.fit, count) in
    subst (λ ends. c.len-start.result + slice_index_or ends k d < 4294967296) (sym same)
    (small c.len-start.result (length c.others.inside.targets.items) c.others.inside.ends.items k d
    few c.others.invariant.0 (subst (λ ends. k < length ends) same inside))

pub invariant_of-self-2 : goal.invariant_of-self-2
invariant_of-self-2 c =
    let was = c.self.inside in
    let more = c.others.inside in
    let count = c.len.ensures ∙ more.targets.ok.0 in
    let few : c.len-start.result + length more.targets.items < 4294967296 =
    omega (arith, c.in_ok-_end.ensures.end, c.in_ok-_end.ensures.fit, count) in
    ended was.targets.items more.targets.items c.extend_from_slice.new.self.items was.ends.items
    more.ends.items c.push_shifted.new.ends.items c.len-start.result
    (c.in_ok-extend_from_slice.ensures.items ∙ ap (λ ns. was.targets.items ++ ns)
    c.deref.ensures.value)
    (c.push_shifted.ensures
    ∙ ap₂ (λ es ns. es ++ map (λ end. c.len-start.result + end) ns) c.in_ok-reserve.ensures.items
    c.deref-2.ensures.value)
    (c.len-start.ensures ∙ was.targets.ok.0)
    few c.self.invariant.0 c.others.invariant.0

pub returns : goal.returns
returns c =
    let was = c.self.inside in
    let more = c.others.inside in
    joined was.targets.items more.targets.items c.extend_from_slice.new.self.items was.ends.items
    more.ends.items c.push_shifted.new.ends.items c.len-start.result
    (c.in_ok-extend_from_slice.ensures.items ∙ ap (λ ns. was.targets.items ++ ns)
    c.deref.ensures.value)
    (c.push_shifted.ensures
    ∙ ap₂ (λ es ns. es ++ map (λ end. c.len-start.result + end) ns) c.in_ok-reserve.ensures.items
    c.deref-2.ensures.value)
    (c.len-start.ensures ∙ was.targets.ok.0)
    c.self.invariant.0
    ∙ ap₂ (λ a b. a ++ b) c.self.view_is c.others.view_is
