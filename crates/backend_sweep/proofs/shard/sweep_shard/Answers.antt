use Rattle.std.proofs.Common.{◌≡◌, ◌+◌, ◌<◌, ℕ, length, List, take, drop, get_or, sym, ◌∙◌, ap, ◌++◌, ◌∷◌, [], Bool, subst, refl, arith, ◌-◌, ◌≤◌}
use Rattle.std.specs.Prelude.{Option}
use Rattle.std.proofs.lemmas.List.{take_more}
use Rattle.back_model.specs.Snaps.{Snaps, parent_of}
use Rattle.backend_sweep.specs.declared.outcomes.Outcome.{Outcome}
use Rattle.backend_sweep.specs.declared.outcomes.Outcome.TheVariants as R
use Rattle.backend_sweep.specs.Shards.{has}
use Rattle.backend_sweep.specs.Sweep.{Childfirst, Sweeps, Swept, Tries, put_of}
use Rattle.backend_sweep.proofs.Blocking.{Blocks}
use Rattle.backend_sweep.proofs.Sweeping.{is_held, no_child_left, one_more, blocks_more}
use Rattle.backend_sweep.proofs.Leaving.{leaves}
use Rattle.backend_sweep.proofs.NextNumber.{at, whole}
use Rattle.backend_sweep.proofs.shard.sweep_shard.Goals as goal

pub try_remove-became-requires-clause-held : goal.try_remove-became-requires-clause-held
try_remove-became-requires-clause-held g c κs within =
    let i = c.loop-number.number-index in
    let list = c.args.list.now in
    is_held list (take i list) (drop (i + 1) list) (get_or list i 0) _ _ _ _ c.loop-number.swept (at list i _ _ _ _ c.loop-number.swept c.loop-number-test.true c.requires.list c.loop-number.invariant.swept)

pub try_remove-became-requires-clause-children : goal.try_remove-became-requires-clause-children
try_remove-became-requires-clause-children g c κs within none child h =
    let i = c.loop-number.number-index in
    let list = c.args.list.now in
    no_child_left list (take i list) (drop (i + 1) list) (get_or list i 0) _ _ _ _ c.loop-number.swept (at list i _ _ _ _ c.loop-number.swept c.loop-number-test.true c.requires.list c.loop-number.invariant.swept) c.loop-number.invariant.blocks
    (sym c.is_parent-is_above.ensures ∙ none) child h

room_of : (r : Swept) (n : ℕ) (parent : Option ℕ) (what : Outcome) → (put_of r n parent what).room
    ≡ r.room - 1
room_of r n parent R.Removed = refl
room_of r n parent R.Failed = refl
room_of r n parent R.Kept = refl

module _ (list : List ℕ) (i : ℕ) (m0 m now : Snaps) (f0 f after : ℕ) (r r' : Swept)
    (parent : Option ℕ) (above : Bool) (what : Outcome) (here : i < length list)
    (first : Childfirst list m0) (so_far : Sweeps (take i list) m0 m f0 f r)
    (blocks : Blocks m0 r) (is_above : above ≡ has r.parents (get_or list i 0)) (t : Tries what above (get_or list i 0) m now f after) (is : r' ≡ put_of r (get_or list i 0) parent what) where
  next_swept : Sweeps (take (i + 1) list) m0 now f0 after r'
  next_swept =
      let step = one_more list (take i list) (drop (i + 1) list) (get_or list i 0) m0 m f0 f r (at list i m0 m f0 f r here first so_far) blocks parent above what now after is_above t in
      subst (λ (l : List ℕ). Sweeps l m0 now f0 after r') (sym (take_more list i 0 here)) (subst (λ (x : Swept). Sweeps (take i list ++ get_or list i 0 ∷ []) m0 now f0 after x) (sym is) step)

  next_blocks : parent ≡ parent_of m (get_or list i 0) → Blocks m0 r'
  next_blocks p = subst (Blocks m0) (sym is) (blocks_more list (take i list) (drop (i + 1) list) (get_or list i 0) m0 m f0 f r (at list i m0 m f0 f r here first so_far) blocks parent what p)

  next_room : length list ≤ r.room + i → length list ≤ r'.room + (i + 1)
  next_room room = (let left : r'.room ≡ r.room - 1 = ap (λ (x : Swept). x.room) is ∙ room_of r (get_or list i 0) parent what in omega (arith, left, room, here))

pub loop-number-preserved : goal.loop-number-preserved
loop-number-preserved g c =
    let v = c.loop-number.invariant in
    let list = c.args.list.now in
    let i = c.loop-number.number-index in
    record {
      swept = next_swept list i _ _ _ _ _ _ c.loop-number.swept c.put.new.self c.parent-parent.result c.is_parent-is_above.result c.try_remove-became.result c.loop-number-test.true c.requires.list v.swept v.blocks c.is_parent-is_above.ensures c.try_remove-became.ensures c.put.ensures;
      blocks = next_blocks list i _ _ _ _ _ _ c.loop-number.swept c.put.new.self c.parent-parent.result c.is_parent-is_above.result c.try_remove-became.result c.loop-number-test.true c.requires.list v.swept v.blocks c.is_parent-is_above.ensures c.try_remove-became.ensures c.put.ensures c.parent-parent.ensures;
      room = next_room list i _ _ _ _ _ _ c.loop-number.swept c.put.new.self c.parent-parent.result c.is_parent-is_above.result c.try_remove-became.result c.loop-number-test.true c.requires.list v.swept v.blocks c.is_parent-is_above.ensures c.try_remove-became.ensures c.put.ensures v.room;
    }

pub returns-clause-leaves : goal.returns-clause-leaves
returns-clause-leaves g c =
    leaves c.args.list.now _ _ _ _ c.loop-number.swept c.requires.list (whole c.args.list.now c.loop-number.number-index _ _ _ _ c.loop-number.swept c.loop-number-test.false c.loop-number.invariant.swept)
