use Rattle.std.proofs.Common.{map, ◌≡◌, ◌∷◌, [], ◌++◌, None, false, bytes_eq, not, take, ap, sym, ◌∙◌}
use Rattle.std.specs.Option.{option_map_or}
use Rattle.std.specs.List.{last_or}
use Rattle.object_tables.proofs.Snapshotters.{is_next, lent_listed, lent_passed, last_push}
use Rattle.object_tables.proofs.snap_lists.snapshotters_of.Goals as goal
use Rattle.object_tables.proofs.snap_lists.snapshotters_of.Goals.{then-is_next+in_ok-push_short_name, else-is_next}

-- a snapshotter is listed at its first row
pub loop-row-preserved : goal.loop-row-preserved
loop-row-preserved c =
    let rows = c.args.rows.now in
    let row = c.row-item.result in
    let before = c.loop-row.invariant in
    let next : c.is_next.result ≡ is_next (map (λ r. r.now) (take c.loop-row.row-index rows)) row.now = c.is_next.ensures
    ∙ ap (λ o. not (option_map_or (bytes_eq row.now.key.snapshotter) o false)) (before.last ∙ ap (last_or None) before.names) in
    elim c.if-is_next.branch [
      | then-is_next+in_ok-push_short_name w ↦ rw (w.names-is, w.last-is) (record {
        names = w.in_ok-push_short_name.ensures.ok ∙ ap (λ l. l ++ row.now.key.snapshotter ∷ []) before.names
            ∙ sym (lent_listed rows c.loop-row.row-index row c.loop-row-test.true c.row-item.is (sym next ∙ w.if-is_next.true));
        last = last_push None c.loop-row.names row.now.key.snapshotter ∙ ap (last_or None) (sym w.in_ok-push_short_name.ensures.ok);
      })
      | else-is_next w ↦ rw (w.names-is, w.last-is) (record {
        names = before.names ∙ sym (lent_passed rows c.loop-row.row-index row c.loop-row-test.true c.row-item.is (sym next ∙ w.if-is_next.false));
        last = before.last;
      })
    ]
