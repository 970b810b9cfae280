use Rattle.std.proofs.Common.{◌≡◌, [], ◌∷◌, ◌++◌, append_assoc, sym, ap, ◌∙◌, arith}
use Rattle.steal_mark.specs.Team.{IsLoose}
use Rattle.steal_mark.proofs.Claimed.{joins}
use Rattle.steal_mark.proofs.TakenApart.{apart_more, one_of}
use Rattle.steal_mark.proofs.finish.take_apart.take_apart.Goals as goal

-- both seats are of this table, and joining keeps the rule
pub join_seat-requires : goal.join_seat-requires
join_seat-requires c =
    let i = c.loop-marker.invariant in
    let is : c.loop-marker.yielded ++ c.in-Some.marker ∷ c.next.new.self.rest.items ≡ c.args.markers.items = ap (λ x. c.loop-marker.yielded ++ x) (sym c.in-Some.ensures.steps.0) ∙ i.2 in
    let here = one_of (IsLoose c.args.claim_table.now.shared.table_id) c.loop-marker.yielded c.in-Some.marker c.next.new.self.rest.items c.args.markers.items is c.requires.markers in
    (i.0 ∙ c.requires.seat.0, here.0, here.1, c.requires.wide, joins _ _ _ _ _ (let a = i.3.joined.parts in let b = c.requires.seat.1 in omega arith))

-- one marker more is taken apart
pub loop-marker-preserved : goal.loop-marker-preserved
loop-marker-preserved c =
    let i = c.loop-marker.invariant in (
      c.join_seat.ensures.0 ∙ i.0,
      ap (λ x. x.1) c.join_seat.ensures.2 ∙ i.1,
      append_assoc c.loop-marker.yielded (c.in-Some.marker ∷ []) c.next.new.self.rest.items ∙ ap (λ x. c.loop-marker.yielded ++ x) (sym c.in-Some.ensures.steps.0) ∙ i.2,
      apart_more _ _ _ _ _ _ _ _ _ _ _ i.3 c.in_ok-push.ensures.items c.in_ok-push-2.ensures.items c.in_ok-push-3.ensures.items (ap (λ x. x.0) c.join_seat.ensures.2),
    )
