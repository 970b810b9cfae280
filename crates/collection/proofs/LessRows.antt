-- Rows that are listed without one: in order they are the records without it.
use Rattle.std.proofs.Common.{◌≡◌, ◌∙◌, false, [], ◌∷◌, ap, refl, length}
use Rattle.std.specs.Prelude.{IsTrue}
use Rattle.meta_types.specs.Keys.{remove_row, are_in_order}
use Rattle.meta_types.specs.Limits.{is_too_large}
use Rattle.meta_types.specs.Rows.{Records, image_key, container_key, lease_key}
use Rattle.row_tables.specs.Arrived.{sorted}
use Rattle.table_sweep.specs.InKeyOrder.{records_in_key_order}
use Rattle.collection.specs.Impacts.{has_number, less_row, listed_less}
use Rattle.collection.specs.declared.row_name.RowName.{RowName}
use Rattle.collection.specs.declared.row_name.RowName.TheVariants as N
use Rattle.collection.proofs.Bridges.{Agree}
use Rattle.collection.proofs.LeftOut.{ordered_others}

module _ (lent records : Records) (agree : Agree (records_in_key_order lent) records)
    (images : IsTrue (are_in_order image_key (sorted image_key lent.tables.images)))
    (containers : IsTrue (are_in_order container_key (sorted container_key lent.tables.containers)))
    (leases : IsTrue (are_in_order lease_key (sorted lease_key lent.leases))) where
  pub agree_less : (row : RowName) → has_number row ≡ false
      → Agree (records_in_key_order (listed_less row lent)) (less_row records row)
  agree_less (N.Image ns name) free = record {
    images = ordered_others image_key (ns ∷ name ∷ []) lent.tables.images images
        ∙ ap (remove_row image_key (ns ∷ name ∷ [])) agree.images;
    containers = agree.containers;
    content = agree.content;
    ingests = agree.ingests;
    snapshots = agree.snapshots;
    leases = agree.leases;
    profile = agree.profile;
  }
  agree_less (N.Container ns name) free = record {
    images = agree.images;
    containers = ordered_others container_key (ns ∷ name ∷ []) lent.tables.containers containers
        ∙ ap (remove_row container_key (ns ∷ name ∷ [])) agree.containers;
    content = agree.content;
    ingests = agree.ingests;
    snapshots = agree.snapshots;
    leases = agree.leases;
    profile = agree.profile;
  }
  agree_less (N.Lease ns id) free = record {
    images = agree.images;
    containers = agree.containers;
    content = agree.content;
    ingests = agree.ingests;
    snapshots = agree.snapshots;
    leases = ordered_others lease_key (ns ∷ id ∷ []) lent.leases leases
        ∙ ap (remove_row lease_key (ns ∷ id ∷ [])) agree.leases;
    profile = agree.profile;
  }
  agree_less (N.Content ns digest) free = absurd cc
  agree_less (N.Ingest ns name) free = absurd cc
  agree_less (N.Snapshot key) free = absurd cc

-- the row isn't counted
few_less : (row : RowName) (lent : Records) → is_too_large lent ≡ false
    → is_too_large (listed_less row lent) ≡ false
few_less (N.Image ns name) lent few = few
few_less (N.Container ns name) lent few = few
few_less (N.Lease ns id) lent few = few
few_less (N.Content ns digest) lent few = few
few_less (N.Ingest ns name) lent few = few
few_less (N.Snapshot key) lent few = few

pub few_listed : (rows lent : Records) (row : RowName) → rows ≡ listed_less row lent
    → is_too_large lent ≡ false → is_too_large rows ≡ false
few_listed rows lent row is few = ap is_too_large is ∙ few_less row lent few

-- nor does a namespace go
pub same_names : (row : RowName) (records : Records)
    → length records.tables.namespaces ≡ length (less_row records row).tables.namespaces
same_names (N.Image ns name) records = refl
same_names (N.Container ns name) records = refl
same_names (N.Lease ns id) records = refl
same_names (N.Content ns digest) records = refl
same_names (N.Ingest ns name) records = refl
same_names (N.Snapshot key) records = refl
