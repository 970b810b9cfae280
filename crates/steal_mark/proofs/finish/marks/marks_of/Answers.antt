use Rattle.std.proofs.Common.{◌≡◌, ◌<◌, ℕ, get_or, ap, ◌∙◌, subst}
use Rattle.std.proofs.lemmas.List.Elements.{Contains-get_or}
use Rattle.mark_core.specs.Bits.{times}
use Rattle.mark_core.proofs.Counts.{counted}
use Rattle.steal_mark.specs.Listing.{listed}
use Rattle.steal_mark.specs.Closing.{listing}
use Rattle.steal_mark.proofs.Concluded.{listed_one}
use Rattle.steal_mark.proofs.finish.marks.marks_of.Goals as goal
use Rattle.steal_mark.specs.Parts.{NodeList}

-- each listed node has a bit
pub mark_list-requires : goal.mark_list-requires
mark_list-requires c = λ k d h.
    let n : ℕ = get_or c.as_slice.result.now k d in
    let t : 0 < times n c.as_slice.result.now = counted n c.as_slice.result.now (Contains-get_or c.as_slice.result.now k d h) in
    let is : c.as_slice.result.now ≡ (get_or c.args.lists.now c.loop-list.list-index c.list-item.result).items = c.as_slice.ensures.value ∙ ap (λ (l : NodeList). l.items) c.list-item.is in
    let one : 0 < listed n (listing c.args.lists.now) = listed_one n c.args.lists.now c.loop-list.list-index c.list-item.result c.loop-list-test.true (subst (λ l. 0 < times n l) is t) in
    c.loop-list.invariant.0 n (c.requires n one)
