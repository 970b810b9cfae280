-- The store in which nothing stands. Ours.
use Rattle.std.proofs.Common.{refl, arith}
use Rattle.meta_types.specs.Rows.{empty_store}
use Rattle.meta_types.specs.Sound.{IsSound}

-- the empty store is sound
pub empty_is_sound : IsSound empty_store
empty_is_sound = record {
  tables = record {
    namespaces = refl;
    images = record { in_order = refl; named = λ i d lt. absurd (omega (arith, lt)) };
    containers = record { in_order = refl; named = λ i d lt. absurd (omega (arith, lt)) };
    content = record { in_order = refl; named = λ i d lt. absurd (omega (arith, lt)) };
    ingests = record { in_order = refl; named = λ i d lt. absurd (omega (arith, lt)) };
    snapshots = record { in_order = refl; named = λ i d lt. absurd (omega (arith, lt)) };
    numbered = record {
      parents = λ i d lt. absurd (omega (arith, lt));
      snapshots_apart = λ i j d before lt. absurd (omega (arith, lt));
      ingests_apart = λ i j d before lt. absurd (omega (arith, lt));
      apart = λ i d lt. absurd (omega (arith, lt));
    };
  };
  leases = record { in_order = refl; named = λ i d lt. absurd (omega (arith, lt)) };
  stored = record { held = λ i d lt. absurd (omega (arith, lt)); in_order = refl };
  backed = record {
    snapshots_below = λ i d lt. absurd (omega (arith, lt));
    ingests_below = λ i d lt. absurd (omega (arith, lt));
    objects_below = λ i d lt. absurd (omega (arith, lt));
    begun_below = λ i d lt. absurd (omega (arith, lt));
    ingests_begun = λ i d lt. absurd (omega (arith, lt));
    objects = λ i d lt. absurd (omega (arith, lt));
    back_parents = λ i d lt. absurd (omega (arith, lt));
    objects_in_order = λ i j d before lt. absurd (omega (arith, lt));
    begun_in_order = λ i j d before lt. absurd (omega (arith, lt));
  };
}
