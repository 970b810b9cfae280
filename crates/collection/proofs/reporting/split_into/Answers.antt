use Rattle.std.proofs.Common.{sym, arith, append-nil, vec_capacity}
use Rattle.backend_sweep.specs.ObjectOutcomes.{was_removed, has_failed}
use Rattle.backend_sweep.specs.declared.outcomes.Outcome.TheVariants as F
use Rattle.collection.proofs.Splitting.{split_more, room_left}
use Rattle.collection.proofs.reporting.split_into.Goals as goal

pub push_reserved-requires : goal.push_reserved-requires
push_reserved-requires g c =
    let i = c.loop-name.invariant.2 in
    let list = c.loop-name.removed in
    let r = room_left i.split_objects c.in-Some.ensures.steps.0 was_removed list.items
    (vec_capacity list) i.split_objects.gone_are i.gone_room in
    omega (arith, r, list.ok.0)

pub push_reserved-requires-in-Failed : goal.push_reserved-requires-in-Failed
push_reserved-requires-in-Failed g c =
    let i = c.loop-name.invariant.2 in
    let list = c.loop-name.failed in
    let r = room_left i.split_objects c.in-Some.ensures.steps.0 has_failed list.items
    (vec_capacity list) i.split_objects.lost_are i.lost_room in
    omega (arith, r, list.ok.0)

pub loop-name-preserved-in-Removed : goal.loop-name-preserved-in-Removed
loop-name-preserved-in-Removed g c =
    let i = c.loop-name.invariant.2 in
    let e = c.push_reserved.ensures.capacity in
    let k = i.gone_room in (
      tt,
      tt,
      record {
        split_objects = split_more i.split_objects c.in-Some.ensures.steps.0 _ F.Removed
            c.in-Removed.is c.requires.outcomes
            _ _ c.push_reserved.ensures.items (sym (append-nil _));
        gone_room = omega (arith, e, k);
        lost_room = i.lost_room;
      },
    )

pub loop-name-preserved-in-Failed : goal.loop-name-preserved-in-Failed
loop-name-preserved-in-Failed g c =
    let i = c.loop-name.invariant.2 in
    let e = c.push_reserved-in-Failed.ensures.capacity in
    let k = i.lost_room in (
      tt,
      tt,
      record {
        split_objects = split_more i.split_objects c.in-Some.ensures.steps.0 _ F.Failed
            c.in-Failed.is c.requires.outcomes
            _ _ (sym (append-nil _)) c.push_reserved-in-Failed.ensures.items;
        gone_room = i.gone_room;
        lost_room = omega (arith, e, k);
      },
    )

pub loop-name-preserved : goal.loop-name-preserved
loop-name-preserved g c =
    let i = c.loop-name.invariant.2 in (
      tt,
      tt,
      record {
        split_objects = split_more i.split_objects c.in-Some.ensures.steps.0 _ F.Kept c.in-Kept.is
            c.requires.outcomes
            _ _ (sym (append-nil _)) (sym (append-nil _));
        gone_room = i.gone_room;
        lost_room = i.lost_room;
      },
    )
