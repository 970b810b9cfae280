use Rattle.std.proofs.Common.{◌≡◌, ◌<◌, ◌∙◌, ℕ, List, [], ◌∷◌, ◌++◌, ◌+◌, length, ap, ap₂, sym, arith, subst}
use Rattle.std.proofs.lemmas.List.{length-append}
use Rattle.mark_core.specs.TargetLists.{lists_of, AreEnds}
use Rattle.mark_core.proofs.ListEnds.{lists_pushed, ends_pushed}
use Rattle.mark_core.proofs.target_lists.TargetLists.push.Goals as goal

-- the new end is that of the numbers
longer : (numbers more new : List ℕ) → new ≡ numbers ++ more
    → length new ≡ length numbers + length more
longer numbers more new is = ap length is ∙ length-append numbers more

-- the ends with one more, and few enough numbers
ended : (numbers more new ends new_ends : List ℕ) (end : ℕ) → new ≡ numbers ++ more
    → end ≡ length numbers + length more → new_ends ≡ ends ++ end ∷ [] → end < 4294967296
    → AreEnds 0 ends (length numbers) → AreEnds 0 new_ends (length new) × length new < 4294967296
ended numbers more new ends new_ends end is up pushed few old =
    let long = longer numbers more new is in (
      subst (AreEnds 0 new_ends) (sym long)
          (subst (λ es. AreEnds 0 es (length numbers + length more))
          (sym (pushed ∙ ap (λ n. ends ++ n ∷ []) up))
          (ends_pushed 0 ends (length numbers) (length more) old)),
      omega arith,
    )

-- and the lists that they cut
listed : (numbers more new ends new_ends : List ℕ) (end : ℕ) → new ≡ numbers ++ more
    → end ≡ length numbers + length more → new_ends ≡ ends ++ end ∷ []
    → AreEnds 0 ends (length numbers)
    → lists_of new 0 new_ends ≡ lists_of numbers 0 ends ++ more ∷ []
listed numbers more new ends new_ends end is up pushed old =
    ap₂ (λ ns es. lists_of ns 0 es) is (pushed ∙ ap (λ n. ends ++ n ∷ []) up)
    ∙ lists_pushed numbers more 0 ends old

pub invariant_of-self-2 : goal.invariant_of-self-2
invariant_of-self-2 c =
    let was = c.self.inside in
    let more = c.args.list.now in
    ended was.targets.items more c.push_each.new.numbers.items was.ends.items
    c.push_reserved.new.self.items c.in_ok-end.end
    (c.push_each.ensures ∙ ap (λ ns. ns ++ more) c.in_ok-reserve-2.ensures.items)
    (c.in_ok-end.ensures.end ∙ ap (λ n. n + length more) (c.len.ensures ∙ was.targets.ok.0))
    (c.push_reserved.ensures.items ∙ ap (λ es. es ++ c.in_ok-end.end ∷ [])
    c.in_ok-reserve.ensures.items)
    c.in_ok-end.ensures.fit
    c.self.invariant.0

pub returns-clause-ok : goal.returns-clause-ok
returns-clause-ok c =
    let was = c.self.inside in
    let more = c.args.list.now in
    listed was.targets.items more c.push_each.new.numbers.items was.ends.items
    c.push_reserved.new.self.items c.in_ok-end.end
    (c.push_each.ensures ∙ ap (λ ns. ns ++ more) c.in_ok-reserve-2.ensures.items)
    (c.in_ok-end.ensures.end ∙ ap (λ n. n + length more) (c.len.ensures ∙ was.targets.ok.0))
    (c.push_reserved.ensures.items ∙ ap (λ es. es ++ c.in_ok-end.end ∷ [])
    c.in_ok-reserve.ensures.items)
    c.self.invariant.0
    ∙ ap (λ ls. ls ++ more ∷ []) c.self.view_is
