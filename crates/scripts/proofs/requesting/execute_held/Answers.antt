use Rattle.std.proofs.Common.{refl, inl}
use Rattle.meta_types.specs.Shown.{request_done}
use Rattle.scripts.proofs.WithWords.{executed, turned_down, held_keeps}
use Rattle.scripts.proofs.requesting.execute_held.Goals as goal

-- no memory would be left
pub returns-in_default-clause-err : goal.returns-in_default-clause-err
returns-in_default-clause-err g c = (inl refl, refl)

-- the request is done, or its lease holds the object
pub returns-clause-ok : goal.returns-clause-ok
returns-clause-ok g c =
    executed c.args.locked.now.store c.apply_or_hold-applied.new.self.store
    (request_done c.args.locked.now.store.state c.args.request.now c.args.there.now)
    c.apply_or_hold-applied.result c.apply_or_hold-applied.ensures.step

-- or it is refused
pub returns-clause-err : goal.returns-clause-err
returns-clause-err g c =
    turned_down c.args.locked.now.store c.apply_or_hold-applied.new.self.store
    (request_done c.args.locked.now.store.state c.args.request.now c.args.there.now)
    c.apply_or_hold-applied.result c.never_failed.ensures c.never_failed-2.ensures
    c.apply_or_hold-applied.ensures.step

-- a request that isn't done changed nothing
pub returns-clause-still : goal.returns-clause-still
returns-clause-still g c =
    held_keeps c.apply_or_hold-applied.result c.args.locked.now.store.state
    c.apply_or_hold-applied.new.self.store.state c.apply_or_hold-applied.ensures.quiet
