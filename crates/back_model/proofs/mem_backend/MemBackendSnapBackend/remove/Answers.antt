use Rattle.std.proofs.Common.{rules, ◌≡◌, ◌∙◌, false, sym, arith}
use Rattle.std.proofs.lemmas.Bool.{le-ltb}
use Rattle.std.specs.Prelude.{Some}
use Rattle.std.specs.Ordering.{nat_cmp}
use Rattle.std.specs.BTreeMap.{get}
use Rattle.back_model.specs.Snaps.{has_child}
use Rattle.back_model.proofs.Counts.{Takes, snap_taken, after_taken, none_counted}
use Rattle.back_model.proofs.mem_backend.MemBackendSnapBackend.remove.Goals as goal

-- the parent has one child less, which is counted still
pub drop_child-requires : goal.drop_child-requires
drop_child-requires c =
    let t : Takes c.self.inside.nodes c.remove.new.self c.args.number = record { at = c.remove.ensures.updates.0; entries = c.remove.ensures.entries; ordered = c.remove.ensures.ordered } in
    let found : get nat_cmp c.self.inside.nodes c.args.number ≡ Some c.in-Some-remove.gone = search rules in
    let none : has_child c.args.self.now c.args.number ≡ false = sym c.in-Some.ensures.child ∙ le-ltb 0 c.in-Some.node.children (omega arith) in
    record {
      order = c.remove.ensures.ordered;
      counted = after_taken c.in-Some-remove.gone found (none_counted c.args.number c.self.inside.nodes c.args.self.now c.self.view_is c.self.invariant none) c.self.invariant.each t;
    }

-- the snapshot is taken out
pub returns-in-Some-remove-clause-ok : goal.returns-in-Some-remove-clause-ok
returns-in-Some-remove-clause-ok c =
    let t : Takes c.self.inside.nodes c.remove.new.self c.args.number = record { at = c.remove.ensures.updates.0; entries = c.remove.ensures.entries; ordered = c.remove.ensures.ordered } in
    c.drop_child.ensures.same ∙ snap_taken c.args.self.now c.self.view_is t

pub returns-in_default-remove-clause-ok : goal.returns-in_default-remove-clause-ok
returns-in_default-remove-clause-ok c =
    let t : Takes c.self.inside.nodes c.remove.new.self c.args.number = record { at = c.remove.ensures.updates.0; entries = c.remove.ensures.entries; ordered = c.remove.ensures.ordered } in
    snap_taken c.args.self.now c.self.view_is t
