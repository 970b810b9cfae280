-- Rows of tables in which no key stands twice.
use Rattle.std.proofs.Common.{◌≡◌, ◌≢◌, false, List, [], ◌∷◌, sym, ap, ◌∙◌, subst, arith}
use Rattle.std.specs.Prelude.{All, AllPairs}
use Rattle.std.specs.List.{IsDistinct, AllByRecursion}
use Rattle.std.proofs.lemmas.List.Elements.{All-nil}
use Rattle.std.proofs.lemmas.List.Kept.{AllPairs-cons}
use Rattle.meta_types.specs.Keys.{Key, is_key}
use Rattle.meta_types.specs.Rows.{Records, content_key, ingest_key, snap_key}
use Rattle.meta_types.specs.declared.rows.ContentRow.{ContentRow}
use Rattle.meta_types.specs.declared.rows.IngestRow.{IngestRow}
use Rattle.meta_types.specs.declared.rows.SnapRow.{SnapRow}
use Rattle.row_tables.specs.Arrived.{same_key, keys_equiv}
use Rattle.row_tables.proofs.JoinedLists.{all_cons}
use Rattle.gc_graph.specs.Built.{AreApart}

other_keys : {Row : Type 0} (key_of : Row → Key) (row : Row) (rows : List Row) → AllByRecursion (λ other. same_key key_of row other ≡ false) rows → All (λ other. key_of row ≢ key_of other) rows
other_keys key_of row [] apart = All-nil (λ other. key_of row ≢ key_of other)
other_keys key_of row (next ∷ rows) apart =
    all_cons (λ other. key_of row ≢ key_of other) next rows
    (λ e. absurd (cc (sym (keys_equiv.refl (key_of row)) ∙ ap (is_key (key_of row)) e ∙ apart.0)))
    (other_keys key_of row rows apart.1)

-- of distinct rows no two have one key
keys_apart : {Row : Type 0} (key_of : Row → Key) (rows : List Row) → IsDistinct (same_key key_of) rows → AllPairs (λ a b. key_of a ≢ key_of b) rows
unfolding IsDistinct
keys_apart key_of [] d = λ i j e lt within. absurd (omega (arith, within))
keys_apart key_of (row ∷ rows) d = AllPairs-cons (λ a b. key_of a ≢ key_of b) row rows (other_keys key_of row rows d.0) (keys_apart key_of rows d.1)

-- records whose rows are those of tables have keys of their own
pub apart_from : (records : Records) (ingests : List IngestRow) (content : List ContentRow) (snapshots : List SnapRow) → ingests ≡ records.tables.ingests → content ≡ records.tables.content → snapshots ≡ records.tables.snapshots
    → IsDistinct (same_key ingest_key) ingests → IsDistinct (same_key content_key) content → IsDistinct (same_key snap_key) snapshots → AreApart records
apart_from records ingests content snapshots g c s ingest_keys content_keys snap_keys = record {
  content = subst (λ (rows : List ContentRow). AllPairs (λ (x y : ContentRow). content_key x ≢ content_key y) rows) c (keys_apart content_key content content_keys);
  ingests = subst (λ (rows : List IngestRow). AllPairs (λ (x y : IngestRow). ingest_key x ≢ ingest_key y) rows) g (keys_apart ingest_key ingests ingest_keys);
  snapshots = subst (λ (rows : List SnapRow). AllPairs (λ (x y : SnapRow). snap_key x ≢ snap_key y) rows) s (keys_apart snap_key snapshots snap_keys);
}
