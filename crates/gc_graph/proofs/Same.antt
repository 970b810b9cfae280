-- The equality that the set of nodes tests.
use Rattle.std.proofs.Common.{◌≡◌, true, refl, ap}
use Rattle.std.specs.Prelude.{◌&&◌, bytes_eq}
use Rattle.std.proofs.lemmas.Bool.{and_parts, and_from}
use Rattle.std.proofs.lemmas.Slice.Eq.{bytes_eq-Decides}
use Rattle.std.proofs.lemmas.Cmp.{nat_list_eq_equiv}
use Rattle.meta_types.specs.Paths.{is_same_mode}
use Rattle.meta_types.specs.declared.resource.Mode.{Mode}
use Rattle.meta_types.specs.declared.resource.Mode.TheVariants.{Full, Flat}
use Rattle.meta_types.specs.declared.resource.Resource.{Resource}
use Rattle.meta_types.specs.declared.resource.Resource.TheVariants.{Content, Snapshot, Ingest}
use Rattle.gc_graph.specs.declared.node.Node.{Node}
use Rattle.gc_graph.specs.Nodes.{is_node, is_same_resource}
use Rattle.gc_graph.specs.Targets.{node}

-- ---- nodes that are equal by the test are equal

modes_known : (a b : Mode) → is_same_mode a b ≡ true → a ≡ b
modes_known Full Full e = refl
modes_known Full Flat e = absurd cc
modes_known Flat Full e = absurd cc
modes_known Flat Flat e = refl

resources_known : (a b : Resource) → is_same_resource a b ≡ true → a ≡ b
resources_known (Content a) (Content b) e = ap Content ((bytes_eq-Decides a b).0 e)
resources_known (Content a) (Snapshot t b) e = absurd cc
resources_known (Content a) (Ingest b) e = absurd cc
resources_known (Snapshot s a) (Content b) e = absurd cc
resources_known (Snapshot s a) (Snapshot t b) e =
    let both = and_parts (bytes_eq s t) (bytes_eq a b) e in
    λ i. Snapshot ((bytes_eq-Decides s t).0 both.0 i) ((bytes_eq-Decides a b).0 both.1 i)
resources_known (Snapshot s a) (Ingest b) e = absurd cc
resources_known (Ingest a) (Content b) e = absurd cc
resources_known (Ingest a) (Snapshot t b) e = absurd cc
resources_known (Ingest a) (Ingest b) e = ap Ingest ((bytes_eq-Decides a b).0 e)

pub node_known : (a b : Node) → is_node a b ≡ true → a ≡ b
node_known a b e =
    let outer = and_parts (is_same_mode a.mode b.mode && is_same_resource a.resource b.resource) (bytes_eq a.ns b.ns) e in
    let inner = and_parts (is_same_mode a.mode b.mode) (is_same_resource a.resource b.resource) outer.0 in
    λ i. node ((bytes_eq-Decides a.ns b.ns).0 outer.1 i) (resources_known a.resource b.resource inner.1 i) (modes_known a.mode b.mode inner.0 i)

mode_self : (a : Mode) → is_same_mode a a ≡ true
mode_self Full = refl
mode_self Flat = refl

resource_self : (a : Resource) → is_same_resource a a ≡ true
resource_self (Content a) = nat_list_eq_equiv.refl a
resource_self (Snapshot s a) = and_from (bytes_eq s s) (bytes_eq a a) (nat_list_eq_equiv.refl s) (nat_list_eq_equiv.refl a)
resource_self (Ingest a) = nat_list_eq_equiv.refl a

pub node_self : (a : Node) → is_node a a ≡ true
node_self a = and_from (is_same_mode a.mode a.mode && is_same_resource a.resource a.resource) (bytes_eq a.ns a.ns)
    (and_from (is_same_mode a.mode a.mode) (is_same_resource a.resource a.resource) (mode_self a.mode) (resource_self a.resource)) (nat_list_eq_equiv.refl a.ns)
