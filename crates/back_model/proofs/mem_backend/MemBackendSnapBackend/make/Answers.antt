use Rattle.std.proofs.Common.{rules, ◌≡◌, ◌∙◌, refl, true, false}
use Rattle.back_model.specs.Snaps.{is_held, is_parent_held}
use Rattle.back_model.proofs.Counts.{Puts, snap_put}
use Rattle.back_model.proofs.Recounts.{parent_there, after_put}
use Rattle.back_model.proofs.mem_backend.MemBackendSnapBackend.make.Goals as goal

pub add_child-requires-clause-held : goal.add_child-requires-clause-held
add_child-requires-clause-held c =
    let p : Puts c.self.inside.nodes c.insert.new.self c.args.number (record { parent = c.args.parent; children = 0 }) =
    record { at = search rules; entries = search rules; was_ordered = c.insert.ensures.was_ordered; ordered = c.insert.ensures.ordered } in
    let there : is_parent_held c.args.self.now c.args.parent ≡ true = search rules in
    parent_there c.args.self.now c.self.view_is p c.args.parent there

pub add_child-requires-clause-counted : goal.add_child-requires-clause-counted
add_child-requires-clause-counted c =
    let p : Puts c.self.inside.nodes c.insert.new.self c.args.number (record { parent = c.args.parent; children = 0 }) =
    record { at = search rules; entries = search rules; was_ordered = c.insert.ensures.was_ordered; ordered = c.insert.ensures.ordered } in
    let absent : is_held c.args.self.now c.args.number ≡ false = search rules in
    after_put c.args.self.now c.self.view_is p absent c.self.invariant refl

-- the snapshot is put in
pub returns-clause-ok : goal.returns-clause-ok
returns-clause-ok c =
    let p : Puts c.self.inside.nodes c.insert.new.self c.args.number (record { parent = c.args.parent; children = 0 }) =
    record { at = search rules; entries = search rules; was_ordered = c.insert.ensures.was_ordered; ordered = c.insert.ensures.ordered } in
    c.add_child.ensures.same ∙ snap_put c.args.self.now c.self.view_is p
