-- A plan of the rows without what is named: what the sweep by it requires, and what it leaves.
use Rattle.std.proofs.Common.{◌≡◌, ◌∙◌, ℤ, List, length, refl, sym, ap, subst}
use Rattle.std.specs.Prelude.{Option}
use Rattle.meta_types.specs.Rows.{Records, BackLists, State, Tables, LeaseRow, lease_key}
use Rattle.meta_types.specs.Collected.{collected_records}
use Rattle.meta_types.specs.Reports.{Collects}
use Rattle.meta_types.specs.Sound.{IsSound, AreTables}
use Rattle.row_tables.specs.Arrived.{sorted}
use Rattle.object_tables.specs.InKeyOrder.{in_key_order}
use Rattle.request_core.specs.declared.state.Records.{Records as Kept}
use Rattle.table_sweep.specs.InKeyOrder.{records_in_key_order}
use Rattle.table_sweep.specs.Plans.{IsPlanOf}
use Rattle.table_sweep.specs.Stays.{AreMasks, Collection, FitRows, StayNumbered}
use Rattle.backend_sweep.specs.Planned.{IsPlanned}
use Rattle.backend_sweep.specs.ObjectOutcomes.{AllOutcomes, failed_of}
use Rattle.backend_sweep.specs.Swept.{SweepsNames}
use Rattle.collection.specs.Leaving.{less, tables_by, leases_by, listed_by, IsPlanLess}
use Rattle.collection.specs.Stores.{records_in}
use Rattle.collection.specs.Whole.{reported}
use Rattle.collection.specs.declared.leaving.Planned.{Planned}
use Rattle.collection.specs.declared.removal.RemovedRow.{RemovedRow}
use Rattle.collection.proofs.Bridges.{in_some_order}
use Rattle.collection.proofs.LeftOut.{listed_in_order, sound_less}
use Rattle.collection.proofs.SweptPlans.{a_swept_plan_is_a_collection}
use Rattle.collection.proofs.Wholes.{fits, stays, rows_swept}

module _ (arrived : Records) (named : Option RemovedRow) (back : BackLists) (at : ℤ)
    (planned : Planned) where
  -- the rows that are listed
  abbrev rows : Records
  rows = listed_by planned.others arrived

  pub rows_fit : IsPlanLess arrived named back at planned
      → FitRows (tables_by planned.others arrived.tables) (leases_by planned.others arrived.leases)
      planned.plan.masks
  rows_fit p = fits rows (length arrived.tables.namespaces) back at planned.plan p.plan_is

module _ (kept : Kept) (arrived : Records) (named : Option RemovedRow) (back : BackLists) (at : ℤ)
    (planned : Planned) (is : records_in_key_order arrived ≡ records_in kept)
    (sound : IsSound (record { records = records_in kept; backends = back }))
    (p : IsPlanLess arrived named back at planned) where
  abbrev listed : Records
  listed = listed_by planned.others arrived

  abbrev state : State
  state = record { records = records_in kept; backends = back }

  abbrev left : State
  left = record { records = less (records_in kept) named; backends = back }

  arrived_sound : IsSound (record { records = records_in_key_order arrived; backends = back })
  arrived_sound =
      subst (λ (r : Records). IsSound (record { records = r; backends = back })) (sym is) sound

  -- in order they are the records without what is named
  listed_is : records_in_key_order listed ≡ less (records_in kept) named
  listed_is =
      listed_in_order arrived named planned.others p.others arrived_sound.tables.images.in_order
      arrived_sound.leases.in_order ∙ ap (λ (r : Records). less r named) is

  left_sound : IsSound left
  left_sound = sound_less state named sound

  pub planned_less : IsPlanned back planned.plan
  planned_less = record {
    state = left;
    sound = left_sound;
    held = refl;
    at = at;
    plan_is = subst (λ n. IsPlanOf left.records n back at planned.plan)
        (ap (λ (r : Records). length r.tables.namespaces) listed_is)
        (in_some_order listed left.records (length arrived.tables.namespaces) back at planned.plan
        listed_is p.plan_is);
  }

  pub rows_numbered : StayNumbered (tables_by planned.others arrived.tables) planned.plan.masks
  rows_numbered =
      stays listed (length arrived.tables.namespaces) back at planned.plan p.plan_is
      (subst AreTables (ap (λ (r : Records). r.tables) (sym listed_is)) left_sound.tables)

  -- the records with these rows, in order
  abbrev left_by : Tables → List LeaseRow → Records
  left_by tables leases = record {
    tables = in_key_order tables;
    leases = sorted lease_key leases;
    next = arrived.next;
    profile = arrived.profile;
  }

  pub swept_less : (outcomes : AllOutcomes) (tables : Tables) (leases : List LeaseRow)
      (new : BackLists)
      → ((of : Collection) → tables_by planned.others arrived.tables ≡ of.records.tables
      → AreMasks of.records of.at of.reached planned.plan.masks
      → in_key_order tables
      ≡ (collected_records of.at of.reached (records_in_key_order of.records)).tables)
      → ((of : Collection) → leases_by planned.others arrived.leases ≡ of.records.leases
      → AreMasks of.records of.at of.reached planned.plan.masks
      → sorted lease_key leases
      ≡ (collected_records of.at of.reached (records_in_key_order of.records)).leases)
      → SweepsNames planned.plan.report.backend back new outcomes
      → Collects left at (failed_of planned.plan.report.backend outcomes)
      (reported planned.plan.report outcomes)
      (record {
        records = left_by tables leases;
        backends = new;
      })
  swept_less outcomes tables leases new t l s =
      subst (λ (r : Records). Collects (record { records = r; backends = back }) at
      (failed_of planned.plan.report.backend outcomes) (reported planned.plan.report outcomes)
      (record {
        records = left_by tables leases;
        backends = new;
      })) listed_is
      (a_swept_plan_is_a_collection listed back at planned.plan outcomes _ new p.plan_is
      (rows_swept listed planned.plan tables leases t l) s)
