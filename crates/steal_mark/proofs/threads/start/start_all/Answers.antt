use Rattle.std.proofs.Common.{◌≡◌, ◌++◌, [], sym, ap, ◌∙◌, refl, arith}
use Rattle.std.proofs.lemmas.List.{append-nil}
use Rattle.steal_mark.proofs.AfterThreads.{empty_is}
use Rattle.steal_mark.proofs.threads.start.start_all.Goals as goal

-- each worker has its thread
pub returns : goal.returns
returns g c =
    let i = c.loop-marker.invariant in
    let left = c.loop-marker.marker-iterator.rest in
    let none : left.items ≡ [] =
    empty_is left.items (let a = c.in-None.ensures.steps.0 in let b = left.ok in omega arith) in
    let all : c.loop-marker.yielded ≡ c.args.markers.items =
    sym (append-nil c.loop-marker.yielded) ∙ ap (λ x. c.loop-marker.yielded ++ x) (sym none) ∙ i.2
    ∙ c.into_iter-marker-iterator.ensures.into_iter_gives.0 in
    record { seat = i.3; fault = refl; began = i.5 ∙ all }
