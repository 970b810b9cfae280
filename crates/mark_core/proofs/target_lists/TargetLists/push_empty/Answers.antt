use Rattle.std.proofs.Common.{◌≡◌, ◌∙◌, ◌+◌, ◌-◌, ◌++◌, ℕ, List, [], length, take, replicate, ap, ap₂, sym, subst, arith, vec_len}
use Rattle.std.proofs.lemmas.List.{append-nil, take_all}
use Rattle.mark_core.specs.TargetLists.{lists_of, AreEnds}
use Rattle.mark_core.proofs.ListsJoined.{lists_joined, ends_joined, lists_empty, ends_empty}
use Rattle.mark_core.proofs.target_lists.TargetLists.push_empty.Goals as goal

-- the old ends, and the last once for each list more
filled : (ends new : List ℕ) (long len count end : ℕ)
    → new ≡ take len ends ++ replicate (len - long) end → len ≡ long + count
    → long ≡ length ends → new ≡ ends ++ replicate count end
filled ends new long len count end is up counted =
    let whole : take len ends ≡ ends = take_all len ends (omega arith) in
    let more : len - long ≡ count = omega arith in
    is ∙ ap₂ (λ a b. a ++ replicate b end) whole more

-- the lists that they cut
listed : (numbers ends new : List ℕ) (end count : ℕ) → new ≡ ends ++ replicate count end
    → end ≡ length numbers → AreEnds 0 ends (length numbers)
    → lists_of numbers 0 new ≡ lists_of numbers 0 ends ++ replicate count []
listed numbers ends new end count is last old =
    let same = append-nil numbers in
    ap (lists_of numbers 0) (is ∙ ap (λ e. ends ++ replicate count e) last)
    ∙ ap (λ ns. lists_of ns 0 (ends ++ replicate count (length numbers))) (sym same)
    ∙ lists_joined numbers [] 0 ends (replicate count (length numbers)) old
    ∙ ap (λ ns. lists_of numbers 0 ends ++ lists_of ns (length numbers)
    (replicate count (length numbers))) same
    ∙ ap (λ ls. lists_of numbers 0 ends ++ ls) (lists_empty numbers (length numbers) count)

ended : (ends new : List ℕ) (end long count : ℕ) → new ≡ ends ++ replicate count end → end ≡ long
    → AreEnds 0 ends long → AreEnds 0 new long
ended ends new end long count is last old =
    subst (λ es. AreEnds 0 es long) (sym (is ∙ ap (λ e. ends ++ replicate count e) last))
    (ends_joined 0 ends (replicate count long) long long old (ends_empty long count))

pub invariant_of-self-2 : goal.invariant_of-self-2
invariant_of-self-2 c =
    let was = c.self.inside in
    let new = c.resize.new.self.items in
    let end = c.len-end.result in (
      ended was.ends.items new end (length was.targets.items) c.args.count
          (filled was.ends.items new (vec_len was.ends) c.in-Some.len c.args.count end
          c.in_ok-resize.ensures.items (c.in-Some.ensures.1 ∙ ap (λ n. n + c.args.count)
          c.len.ensures)
          was.ends.ok.0)
          (c.len-end.ensures ∙ was.targets.ok.0) c.self.invariant.0,
      c.self.invariant.1,
    )

pub returns-clause-ok : goal.returns-clause-ok
returns-clause-ok c =
    let was = c.self.inside in
    let new = c.resize.new.self.items in
    let end = c.len-end.result in
    listed was.targets.items was.ends.items new end c.args.count
    (filled was.ends.items new (vec_len was.ends) c.in-Some.len c.args.count end
    c.in_ok-resize.ensures.items (c.in-Some.ensures.1 ∙ ap (λ n. n + c.args.count) c.len.ensures)
    was.ends.ok.0)
    (c.len-end.ensures ∙ was.targets.ok.0) c.self.invariant.0
    ∙ ap (λ ls. ls ++ replicate c.args.count []) c.self.view_is
