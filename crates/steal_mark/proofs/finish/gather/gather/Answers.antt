use Rattle.std.proofs.Common.{◌≡◌, List, length, sym, subst, arith}
use Rattle.std.specs.Prelude.{All}
use Rattle.steal_mark.specs.Closing.{Balanced}
use Rattle.steal_mark.specs.Team.{IsWilling}
use Rattle.steal_mark.proofs.Teams.{balanced_apart}
use Rattle.steal_mark.proofs.finish.gather.gather.Goals as goal
use Rattle.steal_mark.specs.Parts.{NodeList, PassRow}

-- no deque is closed yet, and none was refused
pub close_all-requires-clause-balanced : goal.close_all-requires-clause-balanced
close_all-requires-clause-balanced c =
    let many : length c.args.markers.items ≡ c.args.rest.workers = omega arith in
    let willing : All IsWilling c.args.markers.items = subst (All IsWilling) c.as_slice.ensures.value (c.are_willing.ensures.0 c.if-not-are_willing.false) in
    subst (λ (x : List NodeList). Balanced c.args.graph.now c.in_ok-deques.deques.items c.as_mut_slice.result.now x c.take_apart.new.seat.me.0) (sym c.as_mut_slice-2.ensures.value)
    (subst (λ (x : List PassRow). Balanced c.args.graph.now c.in_ok-deques.deques.items x c.in_ok-deques.lists.items c.take_apart.new.seat.me.0) (sym c.as_mut_slice.ensures.value)
    (balanced_apart c.args.graph.now c.args.rest c.args.markers.items _ _ _ _ c.requires.rest c.requires.team willing many c.in_ok-deques.ensures.apart))
