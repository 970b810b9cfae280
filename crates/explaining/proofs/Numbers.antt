-- Which row a number is of.
use Rattle.std.proofs.Common.{append_assoc, append-nil, ◌≡◌, ℕ, ◌-◌, ◌<◌, ◌≤◌, List, [], ◌++◌, map, length, get_or, sym, ap, ◌∙◌, arith}
use Rattle.std.proofs.lemmas.List.{length-append, length-map, get_or_append_left, get_or-append_right, get_or-map}
use Rattle.meta_types.specs.Rows.{Records}
use Rattle.meta_types.specs.Paths.{Thing, ingest, content, snapshot}
use Rattle.meta_types.specs.declared.resource.Mode.TheVariants.{Full, Flat}
use Rattle.meta_types.specs.declared.rows.ContentRow.{ContentRow}
use Rattle.meta_types.specs.declared.rows.IngestRow.{IngestRow}
use Rattle.meta_types.specs.declared.rows.SnapRow.{SnapRow}
use Rattle.gc_graph.specs.declared.rows.StoreRows.{StoreRows}
use Rattle.gc_graph.specs.Stored.{records_of}
use Rattle.explaining.specs.ThingRows.{numbered, no_thing, thing_at}

-- the i-th of a list that stands first
pub in_first : {Row : Type 0} (thing : Row → Thing) (rows : List Row) (rest : List Thing) (i : ℕ)
    (row : Row) → i < length rows → row ≡ get_or rows i row
    → get_or (map thing rows ++ rest) i no_thing ≡ thing row
in_first thing rows rest i row lt is =
    let long : length (map thing rows) ≡ length rows = length-map rows thing in
    get_or_append_left (map thing rows) rest no_thing i (omega (arith, long, lt))
    ∙ get_or-map thing rows i row no_thing lt
    ∙ ap thing (sym is)

-- the i-th of what stands behind it
pub in_rest : {Row : Type 0} (thing : Row → Thing) (rows : List Row) (rest : List Thing) (i j : ℕ)
    → length rows ≤ i → j ≡ i - length rows
    → get_or (map thing rows ++ rest) i no_thing ≡ get_or rest j no_thing
in_rest thing rows rest i j le e =
    get_or-append_right (map thing rows) rest (length rows) i no_thing (length-map rows thing) le
    ∙ ap (λ k. get_or rest k no_thing) (sym e)

-- ---- each kind

module _ (stored : StoreRows) where
  abbrev records : Records
  records = records_of stored

  abbrev fulls : List Thing
  fulls = map (content Full) records.tables.content

  abbrev flats : List Thing
  flats = map (content Flat) records.tables.content

  abbrev snaps : List Thing
  snaps = map (snapshot Full) records.tables.snapshots

  abbrev flat_snaps : List Thing
  flat_snaps = map (snapshot Flat) records.tables.snapshots

  pub at_ingest : (n : ℕ) (row : IngestRow) → n < length stored.ingests.now → row ≡ get_or stored.ingests.now n row → thing_at records n ≡ ingest row
  at_ingest n row lt is = in_first ingest stored.ingests.now ((fulls ++ flats) ++ (snaps ++ flat_snaps)) n row lt is

  past_ingests : (n j : ℕ) → length stored.ingests.now ≤ n → j ≡ n - length stored.ingests.now → thing_at records n ≡ get_or (fulls ++ (flats ++ (snaps ++ flat_snaps))) j no_thing
  past_ingests n j le e = in_rest ingest stored.ingests.now ((fulls ++ flats) ++ (snaps ++ flat_snaps)) n j le e
      ∙ ap (λ (l : List Thing). get_or l j no_thing) (append_assoc fulls flats (snaps ++ flat_snaps))

  pub at_full : (n j : ℕ) (row : ContentRow) → length stored.ingests.now ≤ n → j ≡ n - length stored.ingests.now → j < length stored.content.now → row ≡ get_or stored.content.now j row → thing_at records n ≡ content Full row
  at_full n j row le e lt is = past_ingests n j le e ∙ in_first (content Full) stored.content.now (flats ++ (snaps ++ flat_snaps)) j row lt is

  past_fulls : (n j k : ℕ) → length stored.ingests.now ≤ n → j ≡ n - length stored.ingests.now → length stored.content.now ≤ j → k ≡ j - length stored.content.now → thing_at records n ≡ get_or (flats ++ (snaps ++ flat_snaps)) k no_thing
  past_fulls n j k le e le2 e2 = past_ingests n j le e ∙ in_rest (content Full) stored.content.now (flats ++ (snaps ++ flat_snaps)) j k le2 e2

  pub at_flat : (n j k : ℕ) (row : ContentRow) → length stored.ingests.now ≤ n → j ≡ n - length stored.ingests.now → length stored.content.now ≤ j → k ≡ j - length stored.content.now → k < length stored.content.now
      → row ≡ get_or stored.content.now k row → thing_at records n ≡ content Flat row
  at_flat n j k row le e le2 e2 lt is = past_fulls n j k le e le2 e2 ∙ in_first (content Flat) stored.content.now (snaps ++ flat_snaps) k row lt is

  past_flats : (n j k m : ℕ) → length stored.ingests.now ≤ n → j ≡ n - length stored.ingests.now → length stored.content.now ≤ j → k ≡ j - length stored.content.now → length stored.content.now ≤ k → m ≡ k - length stored.content.now
      → thing_at records n ≡ get_or (snaps ++ flat_snaps) m no_thing
  past_flats n j k m le e le2 e2 le3 e3 = past_fulls n j k le e le2 e2 ∙ in_rest (content Flat) stored.content.now (snaps ++ flat_snaps) k m le3 e3

  pub at_snap : (n j k m : ℕ) (row : SnapRow) → length stored.ingests.now ≤ n → j ≡ n - length stored.ingests.now → length stored.content.now ≤ j → k ≡ j - length stored.content.now → length stored.content.now ≤ k → m ≡ k - length stored.content.now
      → m < length stored.snapshots.now → row ≡ get_or stored.snapshots.now m row → thing_at records n ≡ snapshot Full row
  at_snap n j k m row le e le2 e2 le3 e3 lt is = past_flats n j k m le e le2 e2 le3 e3 ∙ in_first (snapshot Full) stored.snapshots.now flat_snaps m row lt is

  pub at_flat_snap : (n j k m q : ℕ) (row : SnapRow) → length stored.ingests.now ≤ n → j ≡ n - length stored.ingests.now → length stored.content.now ≤ j → k ≡ j - length stored.content.now → length stored.content.now ≤ k → m ≡ k - length stored.content.now
      → length stored.snapshots.now ≤ m → q ≡ m - length stored.snapshots.now → q < length stored.snapshots.now → row ≡ get_or stored.snapshots.now q row → thing_at records n ≡ snapshot Flat row
  at_flat_snap n j k m q row le e le2 e2 le3 e3 le4 e4 lt is = past_flats n j k m le e le2 e2 le3 e3
      ∙ in_rest (snapshot Full) stored.snapshots.now flat_snaps m q le4 e4
      ∙ ap (λ (l : List Thing). get_or l q no_thing) (sym (append-nil flat_snaps))
      ∙ in_first (snapshot Flat) stored.snapshots.now [] q row lt is

  pub snaps_left : (n j k m q : ℕ) → n < length (numbered records) → length stored.ingests.now ≤ n → j ≡ n - length stored.ingests.now → length stored.content.now ≤ j → k ≡ j - length stored.content.now → length stored.content.now ≤ k → m ≡ k - length stored.content.now
      → length stored.snapshots.now ≤ m → q ≡ m - length stored.snapshots.now → q < length stored.snapshots.now
  snaps_left n j k m q below le e le2 e2 le3 e3 le4 e4 =
      let i = map ingest records.tables.ingests in
      let a = length-append i ((fulls ++ flats) ++ (snaps ++ flat_snaps)) in
      let b = length-append (fulls ++ flats) (snaps ++ flat_snaps) in
      let d = length-append fulls flats in
      let f = length-append snaps flat_snaps in
      let li : length i ≡ length stored.ingests.now = length-map records.tables.ingests ingest in
      let lf : length fulls ≡ length stored.content.now = length-map records.tables.content (content Full) in
      let ll : length flats ≡ length stored.content.now = length-map records.tables.content (content Flat) in
      let ls : length snaps ≡ length stored.snapshots.now = length-map records.tables.snapshots (snapshot Full) in
      let lt : length flat_snaps ≡ length stored.snapshots.now = length-map records.tables.snapshots (snapshot Flat) in
      omega (arith, below, a, b, d, f, li, lf, ll, ls, lt, le, e, le2, e2, le3, e3, le4, e4)
