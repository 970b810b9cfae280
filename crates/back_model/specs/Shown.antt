-- The backends of a store, shard by shard, and as the lists that the store's definitions have.
-- Ours, unless a source stands beside.
use Rattle.std.specs.Prelude.{◌≡◌, ◌<◌, ◌≤◌, ◌+◌, ℕ, Option, Result, Ok, Err, List, [], ◌∷◌, map, length, get_or, find, flat_map, refl}
use Rattle.std.specs.Coded.{Coded, code_by, coded×, coded_ℕ, coded_list, coded_option}
use Rattle.std.specs.List.Sorted.{IsStrictlySortedBy}
use Rattle.std.specs.Option.{option_map_or}
use Rattle.std.specs.Ordering.{is_eq, match_ordering}
use Rattle.std.specs.declared.cmp.Ordering.TheVariants.{Less, Equal, Greater}
use Rattle.std.specs.FinMap as finmap
use Rattle.meta_types.specs.Text.{Text, text_cmp}
use Rattle.meta_types.specs.Rows.{BackSnap}
use Rattle.back_model.specs.Answers.{make_fails}
use Rattle.back_model.specs.Snaps.{Snaps}
use Rattle.back_model.specs.declared.faults.MakeFault.{MakeFault}

-- the snapshots of one snapshotter, and how often their device failed
pub record Shard : Type 0 where
  pub snapshotter : Text
  pub snaps : Snaps
  pub failures : ℕ

-- a snapshotter's name and a backend, by what the backend holds and how often it failed
abbrev pub shown : {Backend : Type 0} → (Backend → Snaps) → (Backend → ℕ) → Text × Backend → Shard
shown contents fails entry = record { snapshotter = entry.0; snaps = contents entry.1; failures = fails entry.1 }

-- a shard is stored as the tuple of its fields
abbrev pub shard_code : Coded Shard
shard_code =
    code_by (Text × (Snaps × ℕ)) (coded× (coded_list coded_ℕ) (coded× (finmap.code coded_ℕ (coded_option coded_ℕ)) coded_ℕ))
    (λ s. (s.snapshotter, (s.snaps, s.failures))) (λ p. record { snapshotter = p.0; snaps = p.1.0; failures = p.1.1 }) (λ _. refl)

-- the shards by their snapshotters, each once
abbrev pub AreApart : List Shard → Type 0
AreApart shards = IsStrictlySortedBy text_cmp (map (λ s. s.snapshotter) shards)

-- the shard of a snapshotter
abbrev pub shard_at : Text → List Shard → Option Shard
shard_at snapshotter shards = find (λ s. is_eq (text_cmp snapshotter s.snapshotter)) shards

-- what the shard of a snapshotter holds: where there is none, nothing
abbrev pub snaps_at : Text → List Shard → Snaps
snaps_at snapshotter shards = option_map_or (λ s. s.snaps) (shard_at snapshotter shards) finmap.empty

-- how often the device of a snapshotter's shard failed
abbrev pub failures_at : Text → List Shard → ℕ
failures_at snapshotter shards = option_map_or (λ s. s.failures) (shard_at snapshotter shards) 0

-- a shard in its place, instead of the one that its snapshotter had
abbrev pub put_shard : Shard → List Shard → List Shard
put_shard shard [] = shard ∷ []
put_shard shard (next ∷ shards) =
    match_ordering (text_cmp shard.snapshotter next.snapshotter) (shard ∷ next ∷ shards) (shard ∷ shards) (next ∷ put_shard shard shards)

-- a snapshot, as the store's definitions have it
abbrev pub back_snap : Text → ℕ × Option ℕ → BackSnap
back_snap snapshotter entry = record { snapshotter = snapshotter; number = entry.0; parent = entry.1 }

-- the snapshots of one shard, by number
abbrev pub snaps_in : Shard → List BackSnap
snaps_in shard = map (back_snap shard.snapshotter) (finmap.entries shard.snaps)

-- all snapshots, by snapshotter and number. A shard without snapshots counts as none
abbrev pub all_snaps : List Shard → List BackSnap
all_snaps shards = flat_map snaps_in shards

-- how often the devices of all shards failed
abbrev pub all_failures : List Shard → ℕ
all_failures [] = 0
all_failures (shard ∷ shards) = shard.failures + all_failures shards

-- what a shard holds after a making
abbrev pub snaps_after : Result (Unit {0}) MakeFault → Snaps → ℕ → Option ℕ → Snaps
snaps_after (Ok _) snaps number parent = finmap.insert snaps number parent
snaps_after (Err _) snaps number parent = snaps

-- the shard of a snapshotter after a making
abbrev pub shard_after : Result (Unit {0}) MakeFault → Text → List Shard → ℕ → Option ℕ → Shard
shard_after result snapshotter shards number parent = record {
  snapshotter = snapshotter;
  snaps = snaps_after result (snaps_at snapshotter shards) number parent;
  failures = failures_at snapshotter shards + make_fails result;
}

-- ---- where a snapshotter stands among items

module _ {X : Type 0} (name_of : X → Text) (name : Text) where
  -- the items before a place have lesser names
  abbrev pub AreLesser : List X → ℕ → Type 0
  AreLesser xs i = (k : ℕ) (d : X) → k < i → text_cmp name (name_of (get_or xs k d)) ≡ Greater

  -- the item with the name stands at the place, or would stand there
  abbrev pub IsPlace : List X → Result ℕ ℕ → Type 0
  IsPlace xs (Ok i) = (i < length xs) × ((d : X) → text_cmp name (name_of (get_or xs i d)) ≡ Equal) × AreLesser xs i
  IsPlace xs (Err i) = (i ≤ length xs) × ((d : X) → i < length xs → text_cmp name (name_of (get_or xs i d)) ≡ Less) × AreLesser xs i

-- a listed snapshot: its snapshotter, its number, and the number of its parent
abbrev pub listed_snap : Text × ℕ × Option ℕ → BackSnap
listed_snap entry = record { snapshotter = entry.0; number = entry.1; parent = entry.2 }
