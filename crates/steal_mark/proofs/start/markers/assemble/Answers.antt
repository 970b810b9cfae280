use Rattle.std.proofs.Common.{◌-◌, ◌++◌, ◌∷◌, [], List, false, refl, sym, ap, ◌∙◌, subst, arith}
use Rattle.std.specs.Arc.{arc_value}
use Rattle.crossbeam_deque.specs.Handles.{worker_deque}
use Rattle.steal_mark.specs.declared.turn.marker.Marker.{Marker}
use Rattle.steal_mark.specs.Closing.{ids_of}
use Rattle.std.proofs.lemmas.List.{length-map}
use Rattle.steal_mark.specs.Claiming.{claims}
use Rattle.steal_mark.specs.Starting.{Starts, pushed_to}
use Rattle.steal_mark.proofs.Starts.{starts_more}
use Rattle.steal_mark.proofs.start.markers.assemble.Goals as goal
use Rattle.steal_mark.specs.Parts.{Deque, PassRow}

-- the last deque and the last row make one marker more
pub loop-deque-preserved : goal.loop-deque-preserved
loop-deque-preserved c =
    let i = c.loop-deque.invariant in
    let g = c.args.graph.now in
    let m : Marker = record { number = c.len.result; claim_table = c.in_ok-try_clone.field-0; seat = c.give-theirs.result; deque = c.in-Some.deque; others = c.in-Some-pop.others; ahead = c.new.result; scanned = c.new-in-Some.result; refused = false } in
    let s : Starts g (arc_value c.args.claim_table.now) (ids_of c.args.deques.items) c.args.seat.now.me.0 c.loop-deque.seat.me.0 (c.pop.new.self.items ++ m.deque ∷ []) (c.pop-in-Some.new.self.items ++ m.others ∷ []) c.loop-deque.markers.items =
    subst (λ (x : List Deque). Starts g (arc_value c.args.claim_table.now) (ids_of c.args.deques.items) c.args.seat.now.me.0 c.loop-deque.seat.me.0 x (c.pop-in-Some.new.self.items ++ m.others ∷ []) c.loop-deque.markers.items) c.in-Some.ensures.items
    (subst (λ (x : List PassRow). Starts g (arc_value c.args.claim_table.now) (ids_of c.args.deques.items) c.args.seat.now.me.0 c.loop-deque.seat.me.0 c.loop-deque.deques.items x c.loop-deque.markers.items) c.in-Some-pop.ensures.items i.2) in (
      c.give-theirs.ensures.same.0 ∙ i.0,
      ap (λ x. x.1) c.give-theirs.ensures.left ∙ i.1,
      subst (λ (x : List Marker). Starts g (arc_value c.args.claim_table.now) (ids_of c.args.deques.items) c.args.seat.now.me.0 c.give-theirs.new.seat.me.0 c.pop.new.self.items c.pop-in-Some.new.self.items x) (sym c.in_ok-insert.ensures.items)
          (starts_more g (arc_value c.args.claim_table.now) (ids_of c.args.deques.items) c.args.seat.now.me.0 c.loop-deque.seat.me.0 c.give-theirs.new.seat.me.0 c.pop.new.self.items c.pop-in-Some.new.self.items c.loop-deque.markers.items m s
          c.requires.graph c.requires.seat.1 c.requires.parts.0 (let l = length-map c.args.deques.items (λ (d : Deque). worker_deque d) in let f = c.requires.parts.1 in omega arith) (omega arith) c.in_ok-try_clone.ensures
          (c.give-theirs.ensures.same.1 ∙ (i.0 ∙ c.requires.seat.0)) c.give-theirs.ensures.right c.new-in-Some.ensures.items refl
          (ap (λ x. x.0) c.give-theirs.ensures.left ∙ ap (λ (l : List Deque). claims (c.loop-deque.seat.me.0.parts - 1) (pushed_to l) c.loop-deque.seat.me.0.seen) c.as_slice.ensures.value)),
    )
