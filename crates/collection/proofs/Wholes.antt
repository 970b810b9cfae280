-- A plan of a store, and the sweep of its records.
use Rattle.std.proofs.Common.{◌≡◌, ℕ, List, refl, subst, ℤ}
use Rattle.meta_types.specs.Rows.{Records, BackLists, Tables, LeaseRow, lease_key}
use Rattle.meta_types.specs.Collected.{collected_records}
use Rattle.meta_types.specs.Sound.{AreTables}
use Rattle.row_tables.specs.Arrived.{sorted}
use Rattle.object_tables.specs.InKeyOrder.{in_key_order}
use Rattle.table_sweep.specs.InKeyOrder.{records_in_key_order}
use Rattle.table_sweep.specs.Plans.{IsPlanOfRows}
use Rattle.table_sweep.specs.declared.planning.Plan.{Plan}
use Rattle.table_sweep.specs.Stays.{AreMasks, Collection, FitRows, StayNumbered}
use Rattle.table_sweep.proofs.Planned.{fit}
use Rattle.table_sweep.proofs.NumbersLeft.{stay_numbered}
use Rattle.collection.specs.Whole.{SweepsRecords}

module _ (arrived : Records) (n : ℕ) (back : BackLists) (at : ℤ) (plan : Plan) (p : IsPlanOfRows arrived n back at plan) where
  pub fits : FitRows arrived.tables arrived.leases plan.masks
  fits = fit arrived at p.reached plan.masks p.masks

  pub stays : AreTables (in_key_order arrived.tables) → StayNumbered arrived.tables plan.masks
  stays s = stay_numbered arrived at p.reached p.tells plan.masks p.masks s.numbered

-- a plan by lists that are what the backends hold is a plan of the store
pub plan_by : (arrived : Records) (n : ℕ) (lists held : BackLists) (at : ℤ) (plan : Plan)
    → lists ≡ held → IsPlanOfRows arrived n lists at plan → IsPlanOfRows arrived n held at plan
plan_by arrived n lists held at plan e p = subst (λ (b : BackLists). IsPlanOfRows arrived n b at plan) e p

-- tables and leases that are swept as they arrived are in order the records that are swept
pub rows_swept : (arrived : Records) (plan : Plan) (tables : Tables) (leases : List LeaseRow)
    → ((of : Collection) → arrived.tables ≡ of.records.tables
    → AreMasks of.records of.at of.reached plan.masks
    → in_key_order tables ≡ (collected_records of.at of.reached (records_in_key_order of.records)).tables)
    → ((of : Collection) → arrived.leases ≡ of.records.leases
    → AreMasks of.records of.at of.reached plan.masks
    → sorted lease_key leases ≡ (collected_records of.at of.reached (records_in_key_order of.records)).leases)
    → SweepsRecords plan arrived (record { tables = in_key_order tables; leases = sorted lease_key leases; next = arrived.next; profile = arrived.profile })
rows_swept arrived plan tables leases t l at reached masks =
    let of : Collection = record { records = arrived; at = at; reached = reached } in
    λ i. record { tables = t of refl masks i; leases = l of refl masks i; next = arrived.next; profile = arrived.profile }
