-- Rows after a change: still in order, each in a namespace that is there.
use Rattle.std.proofs.Common.{◌≡◌, Bool, true, false, List, sym, subst}
use Rattle.std.specs.Prelude.{Result, Ok, Err, OnOk, OnErr, bytes_eq}
use Rattle.std.specs.List.{list_any}
use Rattle.meta_types.specs.Text.{Text}
use Rattle.meta_types.specs.Keys.{Key, has_row, add_row, remove_row, change_row}
use Rattle.meta_types.specs.Faults.{Refuses, least_of}
use Rattle.meta_types.specs.Sound.{AreRows}
use Rattle.meta_types.specs.declared.fault.Fault.{Fault}
use Rattle.meta_types.proofs.KeepsSound.{rows_added, rows_removed, rows_changed}
use Rattle.row_tables.proofs.Entries.{was_free}
use Rattle.object_tables.specs.Calls.{kept}
use Rattle.object_tables.proofs.OtherTables.{rows_kept}

module _ {Row : Type 0} (key_of : Row → Key) (ns_of : Row → Text) (namespaces : List Text)
    (old new : List Row) (s : AreRows key_of ns_of namespaces old) where
  -- a row more, or as before
  pub grown : (row : Row) (r : Result (Unit {0}) Fault)
      → list_any (bytes_eq (ns_of row)) namespaces ≡ true → has_row key_of (key_of row) old ≡ false
      → OnOk r (new ≡ add_row key_of row old) → OnErr r (new ≡ old)
      → AreRows key_of ns_of namespaces new
  grown row (Ok u) there free ok err =
      subst (AreRows key_of ns_of namespaces) (sym ok)
      (rows_added key_of ns_of namespaces row old there free s)
  grown row (Err e) there free ok err = subst (AreRows key_of ns_of namespaces) (sym err) s

  -- a row more, where none has its key, or as before
  pub grown_new : (row : Row) (r : Result (Unit {0}) Fault)
      → list_any (bytes_eq (ns_of row)) namespaces ≡ true
      → Refuses r (least_of false false (has_row key_of (key_of row) old) false)
      → OnOk r (new ≡ add_row key_of row old) → OnErr r (new ≡ old)
      → AreRows key_of ns_of namespaces new
  grown_new row (Ok u) there fault ok err =
      grown row (Ok u) there (was_free (Ok u) (has_row key_of (key_of row) old) fault) ok err
  grown_new row (Err e) there fault ok err = subst (AreRows key_of ns_of namespaces) (sym err) s

  pub removed : (key : Key) → new ≡ remove_row key_of key old → AreRows key_of ns_of namespaces new
  removed key e = subst (AreRows key_of ns_of namespaces) (sym e)
      (rows_removed key_of ns_of namespaces key old s)

  module _ (key : Key) (change : Row → Row) (same : (row : Row) → key_of (change row) ≡ key_of row)
      (same_ns : (row : Row) → ns_of (change row) ≡ ns_of row) where
    pub changed : new ≡ change_row key_of key change old → AreRows key_of ns_of namespaces new
    changed e = subst (AreRows key_of ns_of namespaces) (sym e)
        (rows_changed key_of ns_of namespaces key change same same_ns old s)

    -- a row changed, or as before
    pub labelled : (r : Result (Unit {0}) Fault) → OnOk r (new ≡ change_row key_of key change old)
        → OnErr r (new ≡ old) → AreRows key_of ns_of namespaces new
    labelled (Ok u) ok err = changed ok
    labelled (Err e) ok err = subst (AreRows key_of ns_of namespaces) (sym err) s

  -- the rows whose mark is set
  pub left : (marks : List Bool) → new ≡ kept marks old → AreRows key_of ns_of namespaces new
  left marks e = subst (AreRows key_of ns_of namespaces) (sym e)
      (rows_kept key_of ns_of namespaces marks old s)
