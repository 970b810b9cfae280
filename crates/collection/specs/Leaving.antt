-- Records without the row that is removed with a collection, and which rows are listed then. Ours.
use Rattle.std.specs.Prelude.{◌≡◌, ℤ, List, [], ◌∷◌, length, filter, Option, Some, None, ⊤}
use Rattle.meta_types.specs.Collected.{collected_records}
use Rattle.meta_types.specs.Rows.{Records, Tables, BackLists, LeaseRow, image_key, lease_key}
use Rattle.meta_types.specs.declared.rows.ImageRow.{ImageRow}
use Rattle.row_tables.specs.Arrived.{kept, sorted}
use Rattle.object_tables.specs.InKeyOrder.{in_key_order}
use Rattle.gc_graph.specs.Others.{is_other}
use Rattle.table_sweep.specs.InKeyOrder.{records_in_key_order}
use Rattle.table_sweep.specs.Plans.{IsPlanOfRows}
use Rattle.table_sweep.specs.Stays.{AreMasks, Collection}
use Rattle.collection.specs.Removing.{without}
use Rattle.collection.specs.declared.removal.RemovedRow.{RemovedRow}
use Rattle.collection.specs.declared.removal.RemovedRow.TheVariants as N
use Rattle.collection.specs.declared.leaving.Others.{Others}
use Rattle.collection.specs.declared.leaving.Others.TheVariants as O
use Rattle.collection.specs.declared.leaving.Planned.{Planned}

-- the records without what is named, if anything is
abbrev pub less : Records → Option RemovedRow → Records
less records None = records
less records (Some named) = without records named

-- ---- rows as they arrived

-- the images but the one that is named
abbrev pub less_images : Option RemovedRow → List ImageRow → List ImageRow
less_images None rows = rows
less_images (Some (N.Image ns name)) rows = filter (is_other image_key (ns ∷ name ∷ [])) rows
less_images (Some (N.Lease ns id)) rows = rows

-- the leases but the one that is named
abbrev pub less_leases : Option RemovedRow → List LeaseRow → List LeaseRow
less_leases None rows = rows
less_leases (Some (N.Image ns name)) rows = rows
less_leases (Some (N.Lease ns id)) rows = filter (is_other lease_key (ns ∷ id ∷ [])) rows

-- ---- rows by their marks

abbrev pub images_by : Others → List ImageRow → List ImageRow
images_by O.All rows = rows
images_by (O.Images marks) rows = kept marks.items rows
images_by (O.Leases marks) rows = rows

abbrev pub leases_by : Others → List LeaseRow → List LeaseRow
leases_by O.All rows = rows
leases_by (O.Images marks) rows = rows
leases_by (O.Leases marks) rows = kept marks.items rows

abbrev pub tables_by : Others → Tables → Tables
tables_by others tables = record tables { images = images_by others tables.images }

-- there is a mark for each row of the kind
abbrev pub FitOthers : Others → List ImageRow → List LeaseRow → Type 0
FitOthers O.All images leases = ⊤
FitOthers (O.Images marks) images leases = length marks.items ≡ length images
FitOthers (O.Leases marks) images leases = length marks.items ≡ length leases

-- the rows whose mark is set
abbrev pub listed_by : Others → Records → Records
listed_by others records = record records {
  tables = tables_by others records.tables;
  leases = leases_by others records.leases;
}

-- the marks leave out what is named, and nothing else
pub record AreOthers (named : Option RemovedRow) (images : List ImageRow) (leases : List LeaseRow)
    (others : Others) : Type 0 where
  pub fit : FitOthers others images leases
  pub images_are : images_by others images ≡ less_images named images
  pub leases_are : leases_by others leases ≡ less_leases named leases

-- the plan is that of a collection of the rows but the one that is named
pub record IsPlanLess (arrived : Records) (named : Option RemovedRow) (back : BackLists) (at : ℤ)
    (planned : Planned) : Type 0 where
  pub others : AreOthers named arrived.tables.images arrived.leases planned.others
  pub plan_is : IsPlanOfRows (listed_by planned.others arrived) (length arrived.tables.namespaces)
      back at planned.plan

-- the tables are those that a collection leaves by the masks of this plan
abbrev pub SweepsTables : Planned → Tables → Tables → Type 0
SweepsTables planned old new = (of : Collection) → tables_by planned.others old ≡ of.records.tables
    → AreMasks of.records of.at of.reached planned.plan.masks
    → in_key_order new
    ≡ (collected_records of.at of.reached (records_in_key_order of.records)).tables

-- the leases are those that a collection leaves by the masks of this plan
abbrev pub SweepsLeases : Planned → List LeaseRow → List LeaseRow → Type 0
SweepsLeases planned old new = (of : Collection) → leases_by planned.others old ≡ of.records.leases
    → AreMasks of.records of.at of.reached planned.plan.masks
    → sorted lease_key new
    ≡ (collected_records of.at of.reached (records_in_key_order of.records)).leases
