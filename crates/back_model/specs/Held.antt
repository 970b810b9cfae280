-- What the backends of a store hold as a whole, and how often their devices failed. Ours, unless a
-- source stands beside.
use Rattle.std.specs.Prelude.{ℕ, ◌+◌, List, map}
use Rattle.meta_types.specs.Text.{Text}
use Rattle.meta_types.specs.Rows.{BackLists}
use Rattle.row_tables.specs.Arrived.{one_text, sorted}
use Rattle.back_model.specs.Shown.{all_snaps, all_failures, listed_snap}
use Rattle.back_model.specs.declared.backends.Backends.{Backends}
use Rattle.back_model.specs.declared.lent.LentBackends.{LentBackends}
use Rattle.back_model.specs.declared.lists.BackLists.{BackLists as Listed}

-- what the backends hold, by what those of blobs and of ingests hold
abbrev pub held : {S B I : Type 0} → (B → List Text) → (I → List ℕ) → Backends S B I → BackLists
held blobs ingests backends = record {
  blobs = blobs backends.blobs;
  snapshots = all_snaps backends.shards;
  ingests = ingests backends.ingests;
}

-- how often the devices of all backends failed, by how often those of blobs and of ingests did
abbrev pub failures : {S B I : Type 0} → (B → ℕ) → (I → ℕ) → Backends S B I → ℕ
failures blobs ingests backends =
    all_failures backends.shards + blobs backends.blobs + ingests backends.ingests

-- what is lent of the backends
abbrev pub lists_lent : LentBackends → BackLists
lists_lent lent = record {
  blobs = sorted one_text lent.blobs.now;
  snapshots = map listed_snap lent.snapshots.items;
  ingests = lent.ingests.items;
}

-- what was listed of the backends
abbrev pub lists_in : Listed → BackLists
lists_in lists = record {
  blobs = sorted one_text lists.blobs;
  snapshots = map listed_snap lists.snapshots.items;
  ingests = lists.ingests.items;
}
