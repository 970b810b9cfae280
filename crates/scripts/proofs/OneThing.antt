-- A sound store has one thing a key.
use Rattle.std.proofs.Common.{◌≡◌, ◌∙◌, ℕ, true, List, [], ◌∷◌, ◌++◌, map, get_or, refl, sym, ap, subst, arith, inl, inr}
use Rattle.std.specs.Prelude.{Contains, IsTrue, bytes_eq}
use Rattle.std.specs.Cmp.Lexicographic.{same_text}
use Rattle.std.proofs.lemmas.Bool.{and_parts}
use Rattle.std.proofs.lemmas.List.Elements.{Contains-append_cases}
use Rattle.meta_types.specs.Text.{Text}
use Rattle.meta_types.specs.Keys.{Key, is_key}
use Rattle.meta_types.specs.Rows.{Records, State, LeaseRow, image_key, container_key, content_key, ingest_key, snap_key, lease_key}
use Rattle.meta_types.specs.Sound.{IsSound}
use Rattle.meta_types.specs.Paths.{Thing, image, container, lease, ingest, content, snapshot, in_both_modes, things}
use Rattle.meta_types.specs.Explanations.{mode_place, thing_key}
use Rattle.meta_types.specs.declared.resource.Mode.{Mode}
use Rattle.meta_types.specs.declared.rows.ContentRow.{ContentRow}
use Rattle.meta_types.specs.declared.rows.SnapRow.{SnapRow}
use Rattle.meta_types.specs.declared.resource.Mode.TheVariants.{Full, Flat}
use Rattle.meta_types.proofs.FilteredNames.{from_map}
use Rattle.meta_types.proofs.OneRowPerKey.{one_row}
use Rattle.explaining.specs.Explained.{OneThingPerKey}

-- a test of keys tells
keys_are_one : (a b : Key) → is_key a b ≡ true → a ≡ b
keys_are_one [] [] h = refl
keys_are_one [] (y ∷ ys) h = absurd cc
keys_are_one (x ∷ xs) [] h = absurd cc
keys_are_one (x ∷ xs) (y ∷ ys) h =
    let parts = and_parts (bytes_eq x y) (is_key xs ys) h in
    let first : x ≡ y = same_text x y (sym parts.0) in
    let rest : xs ≡ ys = keys_are_one xs ys parts.1 in
    (λ i. first i ∷ rest i)

-- the thing's row stands in the table of its kind
abbrev HasRow : Records → Thing → Type 0
HasRow records (image row) = Contains records.tables.images row
HasRow records (container row) = Contains records.tables.containers row
HasRow records (lease row) = Contains records.leases row
HasRow records (ingest row) = Contains records.tables.ingests row
HasRow records (content mode row) = Contains records.tables.content row
HasRow records (snapshot mode row) = Contains records.tables.snapshots row

module _ (records : Records) where
  -- of a kind's things, whose rows are those of its table
  of_kind : {Row : Type 0} (thing : Row → Thing) (rows : List Row)
      → ((row : Row) → Contains rows row → HasRow records (thing row)) → (t : Thing)
      → Contains (map thing rows) t → HasRow records t
  of_kind thing rows each t c = let found =
      from_map thing rows t c in subst (HasRow records) found.2 (each found.0 found.1)

  of_modes : {Row : Type 0} (thing : Mode → Row → Thing) (rows : List Row)
      → ((mode : Mode) (row : Row) → Contains rows row → HasRow records (thing mode row))
      → (t : Thing) → Contains (in_both_modes thing rows) t → HasRow records t
  of_modes thing rows each t c =
      elim (Contains-append_cases (map (thing Full) rows) (map (thing Flat) rows) t c) [
        | inl full ↦ of_kind (thing Full) rows (each Full) t full
        | inr flat ↦ of_kind (thing Flat) rows (each Flat) t flat
      ]

  abbrev images : List Thing
  images = map image records.tables.images

  abbrev with_containers : List Thing
  with_containers = images ++ map container records.tables.containers

  abbrev with_leases : List Thing
  with_leases = with_containers ++ map lease records.leases

  abbrev with_ingests : List Thing
  with_ingests = with_leases ++ map ingest records.tables.ingests

  abbrev with_content : List Thing
  with_content = with_ingests ++ in_both_modes content records.tables.content

  has_row : (t : Thing) → Contains (things records) t → HasRow records t
  has_row t c =
      elim (Contains-append_cases with_content (in_both_modes snapshot records.tables.snapshots) t
      c) [
        | inr s ↦ of_modes snapshot records.tables.snapshots (λ mode row r. r) t s
        | inl c ↦ elim
            (Contains-append_cases with_ingests (in_both_modes content records.tables.content) t c) [
              | inr s ↦ of_modes content records.tables.content (λ mode row r. r) t s
              | inl c ↦ elim
                  (Contains-append_cases with_leases (map ingest records.tables.ingests) t c) [
                    | inr s ↦ of_kind ingest records.tables.ingests (λ row r. r) t s
                    | inl c ↦ elim
                        (Contains-append_cases with_containers (map lease records.leases) t c) [
                          | inr s ↦ of_kind lease records.leases (λ row r. r) t s
                          | inl c ↦ elim
                              (Contains-append_cases images
                              (map container records.tables.containers) t c) [
                                | inr s ↦ of_kind container records.tables.containers (λ row r. r) t
                                    s
                                | inl s ↦ of_kind image records.tables.images (λ row r. r) t s
                              ]
                        ]
                  ]
            ]
      ]

-- the namespace and the name of a key, and the snapshotter between
abbrev two_of : Key → Key
two_of key = get_or key 1 [] ∷ get_or key 3 [] ∷ []

abbrev three_of : Key → Key
three_of key = get_or key 1 [] ∷ get_or key 2 [] ∷ get_or key 3 [] ∷ []

-- things of one key are in one mode
same_mode : (a b : Thing) → thing_key a ≡ thing_key b → mode_place a ≡ mode_place b
same_mode a b h = ap (λ (key : Key). get_or (get_or key 4 []) 0 0) h

one_content : (m n : Mode) (a b : ContentRow) → mode_place (content m a) ≡ mode_place (content n b)
    → a ≡ b → content m a ≡ content n b
one_content Full Full a b e same = ap (content Full) same
one_content Flat Flat a b e same = ap (content Flat) same
one_content Full Flat a b e same = absurd (omega (arith, e))
one_content Flat Full a b e same = absurd (omega (arith, e))

one_snapshot : (m n : Mode) (a b : SnapRow) → mode_place (snapshot m a) ≡ mode_place (snapshot n b)
    → a ≡ b → snapshot m a ≡ snapshot n b
one_snapshot Full Full a b e same = ap (snapshot Full) same
one_snapshot Flat Flat a b e same = ap (snapshot Flat) same
one_snapshot Full Flat a b e same = absurd (omega (arith, e))
one_snapshot Flat Full a b e same = absurd (omega (arith, e))

module _ (state : State) (s : IsSound state) where
  one_thing : (a b : Thing) → HasRow state.records a → HasRow state.records b
      → is_key (thing_key a) (thing_key b) ≡ true → a ≡ b
  one_thing (image a) (image b) ca cb same =
      let h = keys_are_one (thing_key (image a)) (thing_key (image b)) same in
      ap image
      (one_row image_key state.records.tables.images s.tables.images.in_order a b ca cb
      (ap two_of h))
  one_thing (image a) (container b) ca cb same = absurd cc
  one_thing (image a) (lease b) ca cb same = absurd cc
  one_thing (image a) (ingest b) ca cb same = absurd cc
  one_thing (image a) (content n b) ca cb same = absurd cc
  one_thing (image a) (snapshot n b) ca cb same = absurd cc
  one_thing (container a) (image b) ca cb same = absurd cc
  one_thing (container a) (container b) ca cb same =
      let h = keys_are_one (thing_key (container a)) (thing_key (container b)) same in
      ap container
      (one_row container_key state.records.tables.containers s.tables.containers.in_order a b ca
      cb (ap two_of h))
  one_thing (container a) (lease b) ca cb same = absurd cc
  one_thing (container a) (ingest b) ca cb same = absurd cc
  one_thing (container a) (content n b) ca cb same = absurd cc
  one_thing (container a) (snapshot n b) ca cb same = absurd cc
  one_thing (lease a) (image b) ca cb same = absurd cc
  one_thing (lease a) (container b) ca cb same = absurd cc
  one_thing (lease a) (lease b) ca cb same =
      let h = keys_are_one (thing_key (lease a)) (thing_key (lease b)) same in
      ap lease (one_row lease_key state.records.leases s.leases.in_order a b ca cb (ap two_of h))
  one_thing (lease a) (ingest b) ca cb same = absurd cc
  one_thing (lease a) (content n b) ca cb same = absurd cc
  one_thing (lease a) (snapshot n b) ca cb same = absurd cc
  one_thing (ingest a) (image b) ca cb same = absurd cc
  one_thing (ingest a) (container b) ca cb same = absurd cc
  one_thing (ingest a) (lease b) ca cb same = absurd cc
  one_thing (ingest a) (ingest b) ca cb same =
      let h = keys_are_one (thing_key (ingest a)) (thing_key (ingest b)) same in
      ap ingest
      (one_row ingest_key state.records.tables.ingests s.tables.ingests.in_order a b ca cb
      (ap two_of h))
  one_thing (ingest a) (content n b) ca cb same = absurd cc
  one_thing (ingest a) (snapshot n b) ca cb same = absurd cc
  one_thing (content m a) (image b) ca cb same = absurd cc
  one_thing (content m a) (container b) ca cb same = absurd cc
  one_thing (content m a) (lease b) ca cb same = absurd cc
  one_thing (content m a) (ingest b) ca cb same = absurd cc
  one_thing (content m a) (content n b) ca cb same =
      let h = keys_are_one (thing_key (content m a)) (thing_key (content n b)) same in
      one_content m n a b (same_mode (content m a) (content n b) h)
      (one_row content_key state.records.tables.content s.tables.content.in_order a b ca cb
      (ap two_of h))
  one_thing (content m a) (snapshot n b) ca cb same = absurd cc
  one_thing (snapshot m a) (image b) ca cb same = absurd cc
  one_thing (snapshot m a) (container b) ca cb same = absurd cc
  one_thing (snapshot m a) (lease b) ca cb same = absurd cc
  one_thing (snapshot m a) (ingest b) ca cb same = absurd cc
  one_thing (snapshot m a) (content n b) ca cb same = absurd cc
  one_thing (snapshot m a) (snapshot n b) ca cb same =
      let h = keys_are_one (thing_key (snapshot m a)) (thing_key (snapshot n b)) same in
      one_snapshot m n a b (same_mode (snapshot m a) (snapshot n b) h)
      (one_row snap_key state.records.tables.snapshots s.tables.snapshots.in_order a b ca cb
      (ap three_of h))

  pub one_thing_per_key : OneThingPerKey state.records
  one_thing_per_key a b ca cb same =
      one_thing a b (has_row state.records a ca) (has_row state.records b cb) same
