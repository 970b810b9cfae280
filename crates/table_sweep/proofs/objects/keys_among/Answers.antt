use Rattle.std.proofs.Common.{◌∙◌, ℕ, List, ap, sym, map, length, subst}
use Rattle.table_sweep.specs.Depths.{key_of}
use Rattle.table_sweep.specs.SnapshotPlaces.{AreDepths}
use Rattle.table_sweep.proofs.Permuted.{none_kept}
use Rattle.table_sweep.proofs.objects.keys_among.Goals as goal

-- where none goes there is no key
pub returns-then-not-has_any-clause-ok : goal.returns-then-not-has_any-clause-ok
returns-then-not-has_any-clause-ok c =
    c.new.ensures.items
    ∙ sym (ap (map (key_of c.args.snapshots.now)) (none_kept c.args.goes.now c.args.snapshots.now
    (sym c.has_any.ensures ∙ c.if-not-has_any.true)))

pub keys_in-requires-clause-count : goal.keys_in-requires-clause-count
keys_in-requires-clause-count c = ap length c.deref.ensures.value ∙ c.in_ok-depths.ensures.count

pub keys_in-requires-clause-depths : goal.keys_in-requires-clause-depths
keys_in-requires-clause-depths c =
    subst (λ (depths : List ℕ). AreDepths c.args.snapshots.now c.args.goes.now depths)
    (sym c.deref.ensures.value) c.in_ok-depths.ensures.ok
