-- The names of a plan stand by snapshotter.
use Rattle.std.proofs.Common.{◌≡◌, ℕ, zero, suc, ◌+◌, Bool, true, false, List, [], ◌∷◌, map, refl, sym, ap, subst, arith}
use Rattle.std.specs.Prelude.{filter, slice_index_or, not, ◌||◌}
use Rattle.std.specs.Ordering.{is_lt}
use Rattle.meta_types.specs.Text.{Text, text_cmp}
use Rattle.meta_types.specs.Rows.{BackLists, BackSnap}
use Rattle.meta_types.specs.Keys.{in_order}
use Rattle.meta_types.specs.Backends.{BackNames, no_objects, object_name, goes_before, snapshot_object_stays}
use Rattle.meta_types.proofs.GoingOrder.{one_way, chain}
use Rattle.backend_sweep.specs.Backed.{MaySweep}
use Rattle.backend_sweep.specs.Parts.{StandBySnapshotter}
use Rattle.backend_sweep.proofs.Pairing.{Pairs}
use Rattle.backend_sweep.proofs.Naming.{order_pairs}

neither : (a b : Bool) → (a || b) ≡ false → a ≡ false
neither true b h = absurd cc
neither false b h = refl

abbrev name_at : List BackSnap → ℕ → Text × ℕ → Text
name_at xs k d = (slice_index_or (map object_name xs) k d).0

stand : (all xs : List BackSnap) → Pairs (λ (a b : BackSnap). goes_before all b a ≡ false) xs
    → StandBySnapshotter (map object_name xs)
stand all [] h k d low lt = absurd (omega (arith, lt))
stand all (x ∷ []) h k d low lt = absurd (omega (arith, lt))
stand all (x ∷ y ∷ ys) h zero d low lt =
    neither (is_lt (text_cmp y.snapshotter x.snapshotter)) _ h.0.0
stand all (x ∷ y ∷ ys) h (suc k) d low lt =
    let onward : suc k + 1 ≡ suc (k + 1) = omega arith in
    subst (λ (n : ℕ). is_lt (text_cmp (name_at (x ∷ y ∷ ys) n d) (name_at (y ∷ ys) k d)) ≡ false)
    (sym onward) (stand all (y ∷ ys) h.1 k d (omega arith) (omega (arith, lt)))

pub names_stand : (back : BackLists) (names : BackNames) → MaySweep back names
    → StandBySnapshotter names.snapshots
names_stand back names may =
    let all = back.snapshots in
    let gone = filter (λ snap. not (snapshot_object_stays may.tables all no_objects snap)) all in
    subst StandBySnapshotter (sym (ap (λ (n : BackNames). n.snapshots) may.are))
    (stand all (in_order (goes_before all) gone)
    (order_pairs (goes_before all) (one_way all) (chain all) gone))
