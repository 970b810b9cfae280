-- A store whose next number is raised is sound.
use Rattle.std.proofs.Common.{◌≡◌, ◌<◌, ◌≤◌, ℕ, max, List, arith}
use Rattle.std.specs.Prelude.{All}
use Rattle.std.proofs.lemmas.List.Elements.{All-weaker}
use Rattle.meta_types.specs.Rows.{State, BackSnap}
use Rattle.meta_types.specs.Sound.{IsSound}
use Rattle.meta_types.specs.declared.rows.SnapRow.{SnapRow}
use Rattle.meta_types.specs.declared.rows.IngestRow.{IngestRow}
use Rattle.store_front.specs.NextNumber.{raised}

-- what is below a number is below a greater one
below_more : (number next at : ℕ) → at < next → at < max next number
below_more number next at below = omega (arith, below)

pub raised_sound : (number : ℕ) (state : State) → IsSound state → IsSound (raised number state)
raised_sound number state sound =
    let next = state.records.next in
    let more = max next number in
    record {
      tables = sound.tables;
      leases = sound.leases;
      stored = sound.stored;
      backed = record {
        snapshots_below = All-weaker (λ (row : SnapRow). row.number < next)
            (λ (row : SnapRow). row.number < more)
            (λ row. below_more number next row.number) _ sound.backed.snapshots_below;
        ingests_below = All-weaker (λ (row : IngestRow). row.number < next)
            (λ (row : IngestRow). row.number < more)
            (λ row. below_more number next row.number) _ sound.backed.ingests_below;
        objects_below = All-weaker (λ (snap : BackSnap). snap.number < next)
            (λ (snap : BackSnap). snap.number < more)
            (λ snap. below_more number next snap.number) _ sound.backed.objects_below;
        begun_below = All-weaker (λ (begun : ℕ). begun < next) (λ (begun : ℕ). begun < more)
            (λ begun. below_more number next begun) _ sound.backed.begun_below;
        ingests_begun = sound.backed.ingests_begun;
        objects = sound.backed.objects;
        back_parents = sound.backed.back_parents;
        objects_in_order = sound.backed.objects_in_order;
        begun_in_order = sound.backed.begun_in_order;
      };
    }
