use Rattle.std.proofs.Common.{◌≡◌, take, map}
use Rattle.object_tables.specs.Children.{child_named}
use Rattle.object_tables.proofs.children.keys_of.Given as goal

-- the keys of the names so far
abbrev pub invariant-loop-name : goal.invariant-loop-name
invariant-loop-name l = l.keys.items ≡ map (child_named l.parent.ns l.parent.snapshotter) (map (λ name. name.now) (take l.name-index l.names))
