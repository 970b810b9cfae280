-- The last moment at which a path led to the row is the end of a root.
use Rattle.std.proofs.Common.{◌≡◌, ℕ, zero, suc, ◌+◌, ◌-◌, ◌/◌, ◌==◌, ◌<◌, ◌≤◌, Bool, true, false, List, [], ◌∷◌, ◌++◌, map, length, get_or, take, drop, refl, sym, ap, ◌∙◌, subst, inl, inr, arith, ℤ, pos, negsuc, Option, Some, None, cond, Bor}
use Rattle.std.specs.Prelude.{All, Contains, int_lt, int_le, not, ◌&&◌, option_map, if◌then◌else◌}
use Rattle.std.specs.List.{flat_map}
use Rattle.std.specs.List.Sorted.{IsSorted, IsPermutation}
use Rattle.std.specs.Option.{option_map_or}
use Rattle.std.specs.Ordering.{int_cmp, is_lt}
use Rattle.std.specs.declared.cmp.Ordering.TheVariants.{Less, Equal, Greater}
use mathlib.Core.Logic.{dite}
use Rattle.std.proofs.Math.Decide.{dec_lt}
use Rattle.std.proofs.lemmas.Bool.{both_ways, false≢true, cases_Bool}
use Rattle.std.proofs.lemmas.Bool.Decides.{nat_tests}
use Rattle.std.proofs.lemmas.Cmp.{int_cmp_total}
use Rattle.std.proofs.lemmas.List.{get_or-take, get_or-drop, length-drop, length-take-le}
use Rattle.std.proofs.lemmas.List.Elements.{Contains-append_left, Contains-append_right, Contains-get_or, All-contains}
use Rattle.std.proofs.lemmas.List.MinMax.{ranks_by}
use Rattle.std.proofs.lemmas.List.Sorted.{sorted_far, Contains-permutation}
use Rattle.meta_types.specs.CollectorLabels.{is_expired, expiry_of}
use Rattle.meta_types.specs.Rows.{Records, LeaseRow}
use Rattle.meta_types.specs.Paths.{Thing, image, container, lease, ingest, content, snapshot, things, images_expire, is_root, in_both_modes, IsPath}
use Rattle.meta_types.specs.Explanations.{Explains, ExplainsLast}
use Rattle.meta_types.specs.declared.instant.Instant.{Instant}
use Rattle.meta_types.specs.declared.resource.Mode.TheVariants.{Full, Flat}
use Rattle.meta_types.specs.declared.rows.ImageRow.{ImageRow}
use Rattle.meta_types.specs.declared.rows.IngestRow.{IngestRow}
use Rattle.meta_types.proofs.Members.{here, none_in_nothing}
use Rattle.gc_graph.specs.declared.rows.StoreRows.{StoreRows}
use Rattle.gc_graph.specs.Stored.{records_of}
use Rattle.gc_graph.proofs.Lists.{in_flat_map}
use Rattle.gc_graph.proofs.NodesApart.{All-map, All-append}
use Rattle.explaining.specs.LastPaths.{past, past_end, AreRising, IsLastOf}
use Rattle.explaining.proofs.Later.{lt_le, le_le, path_earlier}

-- ---- the order of moments

not_later : (a b : ℤ) → int_lt b a ≡ false → int_le a b ≡ true
not_later (pos a) (pos b) h = grind (arith, nat_tests)
not_later (pos a) (negsuc b) h = absurd (false≢true (sym h))
not_later (negsuc a) (pos b) h = refl
not_later (negsuc a) (negsuc b) h = grind (arith, nat_tests)

not_after_itself : (a : ℤ) → int_lt a a ≡ false
not_after_itself (pos a) = grind (arith, nat_tests)
not_after_itself (negsuc a) = grind (arith, nat_tests)

itself : (a : ℤ) → int_le a a ≡ true
itself a = not_later a a (not_after_itself a)

-- not both ways
no_cycle : (a b : ℤ) → int_lt a b ≡ true → int_le b a ≡ true → ⊥
no_cycle a b h k = both_ways (int_lt a a) (not_after_itself a) (lt_le a b a h k)

not_before : (a b : ℤ) → int_le a b ≡ false → int_lt b a ≡ true
not_before (pos a) (pos b) h = grind (arith, nat_tests)
not_before (pos a) (negsuc b) h = refl
not_before (negsuc a) (pos b) h = absurd (false≢true (sym h))
not_before (negsuc a) (negsuc b) h = grind (arith, nat_tests)

gone : (b : Bool) → not b ≡ false → b ≡ true
gone true h = refl
gone false h = absurd (false≢true (sym h))

stays : (b : Bool) → not b ≡ true → b ≡ false
stays true h = absurd (false≢true h)
stays false h = refl

-- ---- sorted ends

pub rising : (ends : List ℤ) → IsSorted int_cmp ends → AreRising ends
rising ends sorted i j d le lt =
    less (get_or ends j d) (get_or ends i d)
    (sorted_far (λ x y. is_lt (int_cmp x y)) (ranks_by int_cmp_total (λ (x : ℤ). x)) ends sorted i
    j d le lt)
  where
    less : (a b : ℤ) → is_lt (int_cmp a b) ≡ false → int_lt a b ≡ false
    less a b h = go (int_lt a b) h
      where
        go : (t : Bool) → is_lt (cond t Less (cond (int_lt b a) Greater Equal)) ≡ false → t ≡ false
        go true e = absurd (false≢true (sym e))
        go false e = refl

pub rising_front : (ends : List ℤ) (n : ℕ) → n ≤ length ends → AreRising ends
    → AreRising (take n ends)
rising_front ends n small r i j d le lt =
    let long = length-take-le n ends small in
    let below : j < n = omega (arith, long, lt) in
    (λ k. int_lt (get_or-take n ends j d below k)
    (get_or-take n ends i d (omega (arith, le, below)) k))
    ∙ r i j d le (omega (arith, below, small))

pub rising_back : (ends : List ℤ) (n : ℕ) → AreRising ends → AreRising (drop n ends)
rising_back ends n r i j d le lt =
    let long = length-drop n ends in
    (λ k. int_lt (get_or-drop n ends j d k) (get_or-drop n ends i d k))
    ∙ r (n + i) (n + j) d (omega (arith, le)) (omega (arith, long, lt))

default_free : (xs : List ℤ) (i : ℕ) → i < length xs → (a b : ℤ) → get_or xs i a ≡ get_or xs i b
default_free [] i lt a b = absurd (omega arith)
default_free (x ∷ xs) zero lt a b = refl
default_free (x ∷ xs) (suc i) lt a b = default_free xs i (omega arith) a b

-- a moment that stands there may be its own default
pub itself_there : (ends : List ℤ) (i : ℕ) → i < length ends
    → get_or ends i (get_or ends i (pos 0)) ≡ get_or ends i (pos 0)
itself_there ends i lt = default_free ends i lt (get_or ends i (pos 0)) (pos 0)

pub is_none : (n : ℕ) → (n == 0) ≡ true → n ≡ 0
is_none n h = grind (arith, nat_tests)

is_some : (n : ℕ) → (n == 0) ≡ false → 0 < n
is_some n h = grind (arith, nat_tests)

-- the middle of what isn't empty
pub is_within : (n : ℕ) → (n == 0) ≡ false → n / 2 < n
is_within n h = omega (arith, is_some n h)

-- ---- the path at a moment

module _ (records : Records) (asked : Thing → Bool) where
  abbrev NoneAt : ℤ → Type 0
  NoneAt at = Explains records at asked []

  -- none at a moment, none later
  none_later : (at later : ℤ) → int_le at later ≡ true → NoneAt at → NoneAt later
  none_later at later after none =
      λ thing path a p. none thing path a (path_earlier at later after records thing path p)

  -- ---- halving

  module _ (ends : List ℤ) (rises : AreRising ends) (middle : ℕ) (within : middle < length ends)
      (moment : ℤ) (is : get_or ends middle moment ≡ moment) where
    abbrev front : List ℤ
    front = take middle ends

    abbrev back : List ℤ
    back = drop (middle + 1) ends

    -- each stands in front of the middle, and isn't later; or not, and isn't earlier
    in_front : (end : ℤ) (k : ℕ) → k < length ends → get_or ends k end ≡ end → k < middle
        → Contains front end
    in_front end k below at less =
        let long = length-take-le middle ends (omega (arith, within)) in
        (k, omega (arith, long, less), get_or-take middle ends k end less ∙ at)

    in_back : (end : ℤ) (k : ℕ) → k < length ends → get_or ends k end ≡ end → middle < k
        → Contains back end
    in_back end k below at more =
        let place : middle + 1 + (k - (middle + 1)) ≡ k = omega (arith, more) in
        let long = length-drop (middle + 1) ends in (
          k - (middle + 1),
          omega (arith, long, below, more),
          get_or-drop (middle + 1) ends (k - (middle + 1)) end
              ∙ ap (λ (n : ℕ). get_or ends n end) place ∙ at,
        )

    from_front : (end : ℤ) → Contains front end → Contains ends end
    from_front end (k, below, at) =
        let long = length-take-le middle ends (omega (arith, within)) in
        let less : k < middle = omega (arith, below, long) in
        (k, omega (arith, less, within), sym (get_or-take middle ends k end less) ∙ at)

    from_back : (end : ℤ) → Contains back end → Contains ends end
    from_back end (k, below, at) = (
      middle + 1 + k,
      (let long = length-drop (middle + 1) ends in omega (arith, below, long)),
      sym (get_or-drop (middle + 1) ends k end) ∙ at,
    )

    not_earlier : (end : ℤ) (k : ℕ) → k < length ends → get_or ends k end ≡ end → middle ≤ k
        → int_le moment end ≡ true
    not_earlier end k below at le =
        not_later moment end
        ((λ i. int_lt (sym at i) ((sym is ∙ default_free ends middle within moment end) i))
        ∙ rises middle k end le below)

    not_more : (end : ℤ) (k : ℕ) → k < length ends → get_or ends k end ≡ end → k ≤ middle
        → int_le end moment ≡ true
    not_more end k below at le =
        not_later end moment
        ((λ i. int_lt ((sym is ∙ default_free ends middle within moment end) i) (sym at i))
        ∙ rises k middle end le within)

    -- none at the middle: the last is in front of it
    pub earlier : NoneAt moment → (path : List Thing) → IsLastOf records asked front path
        → IsLastOf records asked ends path
    earlier none path last = go path last
      where
        none_behind : (end : ℤ) (k : ℕ) → k < length ends → get_or ends k end ≡ end
            → (k < middle → ⊥) → NoneAt end
        none_behind end k below at off =
            none_later moment end (not_earlier end k below at (omega (arith, off))) none

        go : (xs : List Thing) → IsLastOf records asked front xs → IsLastOf records asked ends xs
        go [] each =
            λ end c. dite (dec_lt c.0 middle)
            (λ (less : c.0 < middle). each end (in_front end c.0 c.1 c.2 less))
            (λ (off : c.0 < middle → ⊥). none_behind end c.0 c.1 c.2 off)
        go (last ∷ path) (at, there, explains, each) = (
          at,
          from_front at there,
          explains,
          λ later c after. dite (dec_lt c.0 middle)
              (λ (less : c.0 < middle). each later (in_front later c.0 c.1 c.2 less) after)
              (λ (off : c.0 < middle → ⊥). none_behind later c.0 c.1 c.2 off),
        )

    module _ (last : Thing) (path : List Thing)
        (explains : Explains records moment asked (last ∷ path)) where
      -- none behind the middle: it is the last
      pub at_middle : IsLastOf records asked back [] → IsLastOf records asked ends (last ∷ path)
      at_middle none = (
        moment,
        (middle, within, is),
        explains,
        λ later c after. dite (dec_lt middle c.0)
            (λ (more : middle < c.0). none later (in_back later c.0 c.1 c.2 more))
            (λ (off : middle < c.0 → ⊥). absurd
            (no_cycle moment later after (not_more later c.0 c.1 c.2 (omega (arith, off))))),
      )

      -- else it is behind
      pub behind : (end : Thing) (rest : List Thing) → IsLastOf records asked back (end ∷ rest)
          → IsLastOf records asked ends (end ∷ rest)
      unfolding from_back
      behind end rest (at, there, is_there, each) =
          let whole = from_back at there in (
            at,
            whole,
            is_there,
            λ later c after. dite (dec_lt middle c.0)
                (λ (more : middle < c.0). each later (in_back later c.0 c.1 c.2 more) after)
                (λ (off : middle < c.0 → ⊥).
                absurd (no_cycle at later after
                (le_le later moment at (not_more later c.0 c.1 c.2 (omega (arith, off)))
                (late there)))),
          )
        where
          late : Contains back at → int_le moment at ≡ true
          late (k, below, is_at) =
              let whole = from_back at (k, below, is_at) in
              not_earlier at (middle + 1 + k) whole.1 whole.2 (omega arith)

  -- ---- the same, of paths that may have no thing

  -- there is no moment
  pub of_no_end : (ends : List ℤ) → length ends ≡ 0 → IsLastOf records asked ends []
  of_no_end ends none end (k, below, at) = absurd (omega (arith, none, below))

  module _ (ends : List ℤ) (rises : AreRising ends) (middle : ℕ) (within : middle < length ends)
      (moment : ℤ) (is : get_or ends middle moment ≡ moment) where
    pub front_is : (here path : List Thing) → length here ≡ 0 → Explains records moment asked here
        → IsLastOf records asked (take middle ends) path → IsLastOf records asked ends path
    front_is [] path none explains last =
        earlier ends rises middle within moment is explains path last
    front_is (x ∷ here) path none explains last = absurd (omega (arith, none))

    pub middle_is : (here path : List Thing) → (length here ≡ 0 → ⊥)
        → Explains records moment asked here → length path ≡ 0
        → IsLastOf records asked (drop (middle + 1) ends) path → IsLastOf records asked ends here
    middle_is [] path some explains none last = absurd (some refl)
    middle_is (x ∷ here) [] some explains none last =
        at_middle ends rises middle within moment is x here explains last
    middle_is (x ∷ here) (y ∷ path) some explains none last = absurd (omega (arith, none))

    pub back_is : (here path : List Thing) → (length here ≡ 0 → ⊥)
        → Explains records moment asked here → (length path ≡ 0 → ⊥)
        → IsLastOf records asked (drop (middle + 1) ends) path → IsLastOf records asked ends path
    back_is [] path some explains more last = absurd (some refl)
    back_is (x ∷ here) [] some explains more last = absurd (more refl)
    back_is (x ∷ here) (y ∷ path) some explains more last =
        behind ends rises middle within moment is x here explains y path last

  -- ---- the end of the root that a path begins with

  module _ (at : ℤ) (none : NoneAt at) (ends : List ℤ)
      (all : (thing : Thing) → Contains (things records) thing → (end : ℤ)
      → Contains (past_end records.profile at thing) end → Contains ends end) where
    -- a moment of the list, not earlier than this one
    abbrev HasEnd : ℤ → (ℤ → Type 0) → Type 0
    HasEnd moment holds = (end : ℤ) × Contains ends end × (int_le moment end ≡ true) × holds end

    -- a label's end
    labelled : (end : Option ℤ) (moment : ℤ)
        → option_map_or (λ expiry. int_lt expiry at) end false ≡ true
        → option_map_or (λ expiry. int_lt expiry moment) end false ≡ false
        → (e : ℤ) × Contains (past at end) e × (int_le moment e ≡ true)
        × (option_map_or (λ expiry. int_lt expiry e) end false ≡ false)
    labelled None moment h k = absurd (false≢true h)
    labelled (Some e) moment h k = (e, rw h (here e []), not_later moment e k, not_after_itself e)

    root_ends : (root : Thing) (moment : ℤ) → Contains (things records) root
        → is_root records.profile moment root ≡ true → is_root records.profile at root ≡ false
        → HasEnd moment (λ end. is_root records.profile end root ≡ true)
    root_ends (image row) moment c h k = go (images_expire records.profile) refl
      where
        go : (e : Bool) → images_expire records.profile ≡ e
            → HasEnd moment (λ end. is_root records.profile end (image row) ≡ true)
        go false e = absurd (false≢true (sym k ∙ ap (λ b. not (b && is_expired row.labels at)) e))
        go true e =
            let found =
            labelled (expiry_of row.labels) moment
            (gone (is_expired row.labels at)
            (sym (ap (λ b. not (b && is_expired row.labels at)) e) ∙ k))
            (stays (is_expired row.labels moment)
            (sym (ap (λ b. not (b && is_expired row.labels moment)) e) ∙ h)) in (
              found.0,
              all (image row) c found.0
                  (subst (λ (b : Bool). Contains (past at (if b then expiry_of row.labels else None))
                  found.0) (sym e) found.1),
              found.2,
              ap (λ b. not (b && is_expired row.labels found.0)) e ∙ ap not found.3,
            )
    root_ends (container row) moment c h k = absurd (false≢true (sym k))
    root_ends (lease row) moment c h k =
        let found =
        labelled (expiry_of row.labels) moment (gone (is_expired row.labels at) k)
        (stays (is_expired row.labels moment) h) in
        (found.0, all (lease row) c found.0 found.1, found.2, ap not found.3)
    root_ends (ingest row) moment c h k = own row.expires refl
      where
        own : (o : Option Instant) → row.expires ≡ o
            → HasEnd moment (λ end. is_root records.profile end (ingest row) ≡ true)
        own None e =
            absurd (false≢true
            (ap (λ (o : Option Instant). option_map_or (λ expiry. int_le moment expiry.0) o false)
            (sym e) ∙ h))
        own (Some end) e = (
          end.0,
          all (ingest row) c end.0
              (subst (λ (o : Option Instant). Contains (past at (option_map (λ x. x.0) o)) end.0)
              (sym e)
              (rw (not_before at end.0
              (ap (λ (o : Option Instant). option_map_or (λ expiry. int_le at expiry.0) o false)
              (sym e) ∙ k)) (here end.0 []))),
          ap (λ (o : Option Instant). option_map_or (λ expiry. int_le moment expiry.0) o false)
              (sym e) ∙ h,
          ap (λ (o : Option Instant). option_map_or (λ expiry. int_le end.0 expiry.0) o false) e
              ∙ itself end.0,
        )
    root_ends (content Full row) moment c h k =
        absurd (both_ways (is_root records.profile at (content Full row)) k h)
    root_ends (content Flat row) moment c h k = absurd (false≢true h)
    root_ends (snapshot Full row) moment c h k =
        absurd (both_ways (is_root records.profile at (snapshot Full row)) k h)
    root_ends (snapshot Flat row) moment c h k = absurd (false≢true h)

    -- a path that there isn't at this moment leads there until an end of the list
    until : (last : Thing) (path : List Thing) (moment : ℤ) → IsPath records moment last path
        → (IsPath records at last path → ⊥) → HasEnd moment (λ end. IsPath records end last path)
    until last [] moment p never = elim (cases_Bool (is_root records.profile at last)) [
      | inl root ↦ absurd (never (p.0, root))
      | inr ended ↦
          (let found = root_ends last moment p.0 p.1 ended in
          (found.0, found.1, found.2, (p.0, found.3)))
    ]
    until last (before ∷ path) moment p never =
        let found = until before path moment p.2 (λ q. never (p.0, p.1, q)) in
        (found.0, found.1, found.2, (p.0, p.1, found.3))

    pub last_of_all : (path : List Thing) → IsLastOf records asked ends path
        → ExplainsLast records asked path
    last_of_all [] each =
        λ moment thing path a p.
        let found = until thing path moment p (λ q. none thing path a q) in
        each found.0 found.1 thing path a found.3
    last_of_all (last ∷ path) (end, there, explains, each) = (
      end,
      explains,
      λ later after thing rest a p.
          let found = until thing rest later p (λ q. none thing rest a q) in
          each found.0 found.1 (lt_le end later found.0 after found.2) thing rest a found.3,
    )

-- ---- the list has the ends of all things

flat_map-map : {X Y Z : Type 0} (f : Y → List Z) (g : X → Y) (xs : List X)
    → flat_map f (map g xs) ≡ flat_map (λ x. f (g x)) xs
flat_map-map f g [] = refl
flat_map-map f g (x ∷ xs) = ap (λ rest. f (g x) ++ rest) (flat_map-map f g xs)

module _ (records : Records) (at : ℤ) where
  abbrev past_of : Thing → List ℤ
  past_of thing = past_end records.profile at thing

  abbrev of_images : List ℤ
  of_images = flat_map (λ row. past_of (image row)) records.tables.images

  abbrev of_leases : List ℤ
  of_leases = flat_map (λ row. past_of (lease row)) records.leases

  abbrev of_ingests : List ℤ
  of_ingests = flat_map (λ row. past_of (ingest row)) records.tables.ingests

  abbrev pub ends_of : List ℤ
  ends_of = of_images ++ of_leases ++ of_ingests

  abbrev IsThere : Thing → Type 0
  IsThere thing = (end : ℤ) → Contains (past_of thing) end → Contains ends_of end

  all_there : All IsThere (things records)
  all_there =
      All-append IsThere _ (in_both_modes snapshot records.tables.snapshots)
      (All-append IsThere _ (in_both_modes content records.tables.content)
      (All-append IsThere _ (map ingest records.tables.ingests)
      (All-append IsThere _ (map lease records.leases)
      (All-append IsThere (map image records.tables.images)
      (map container records.tables.containers)
      (All-map IsThere image records.tables.images
      (λ i d lt end c. Contains-append_left (of_images ++ of_leases) of_ingests end
      (Contains-append_left of_images of_leases end
      (in_flat_map (λ row. past_of (image row)) records.tables.images
      (get_or records.tables.images i d) end (Contains-get_or records.tables.images i d lt) c))))
      (All-map IsThere container records.tables.containers (λ i d lt end c. none_in_nothing end c)))
      (All-map IsThere lease records.leases
      (λ i d lt end c. Contains-append_left (of_images ++ of_leases) of_ingests end
      (Contains-append_right of_images of_leases end
      (in_flat_map (λ row. past_of (lease row)) records.leases (get_or records.leases i d) end
      (Contains-get_or records.leases i d lt) c)))))
      (All-map IsThere ingest records.tables.ingests
      (λ i d lt end c. Contains-append_right (of_images ++ of_leases) of_ingests end
      (in_flat_map (λ row. past_of (ingest row)) records.tables.ingests
      (get_or records.tables.ingests i d) end (Contains-get_or records.tables.ingests i d lt) c))))
      (All-append IsThere (map (content Full) records.tables.content)
      (map (content Flat) records.tables.content)
      (All-map IsThere (content Full) records.tables.content
      (λ i d lt end c. none_in_nothing end c))
      (All-map IsThere (content Flat) records.tables.content
      (λ i d lt end c. none_in_nothing end c))))
      (All-append IsThere (map (snapshot Full) records.tables.snapshots)
      (map (snapshot Flat) records.tables.snapshots)
      (All-map IsThere (snapshot Full) records.tables.snapshots
      (λ i d lt end c. none_in_nothing end c))
      (All-map IsThere (snapshot Flat) records.tables.snapshots
      (λ i d lt end c. none_in_nothing end c)))

  has_end : (thing : Thing) → Contains (things records) thing → IsThere thing
  has_end thing c = All-contains IsThere (things records) thing all_there c

-- the ends of borrowed rows
module _ (stored : StoreRows) (at : ℤ) where
  abbrev pub stored_ends : List ℤ
  stored_ends =
      flat_map (λ (row : Bor ImageRow). past_end stored.profile at (image row.now))
      stored.images.now
      ++ flat_map (λ (row : Bor LeaseRow). past_end stored.profile at (lease row.now))
      stored.leases.now
      ++ flat_map (λ (row : IngestRow). past_end stored.profile at (ingest row))
      stored.ingests.now

  same_ends : ends_of (records_of stored) at ≡ stored_ends
  same_ends =
      let images =
      flat_map-map (λ (row : ImageRow). past_end stored.profile at (image row))
      (λ (row : Bor ImageRow). row.now) stored.images.now in
      let leases =
      flat_map-map (λ (row : LeaseRow). past_end stored.profile at (lease row))
      (λ (row : Bor LeaseRow). row.now) stored.leases.now in
      let ingests : List ℤ =
      flat_map (λ (row : IngestRow). past_end stored.profile at (ingest row)) stored.ingests.now in
      (λ i. images i ++ leases i ++ ingests)

  pub all_ends : (ends : List ℤ) → IsPermutation stored_ends ends → (thing : Thing)
      → Contains (things (records_of stored)) thing → (end : ℤ)
      → Contains (past_end stored.profile at thing) end → Contains ends end
  all_ends ends p thing c end past =
      Contains-permutation stored_ends ends end p
      (subst (λ (l : List ℤ). Contains l end) same_ends
      (has_end (records_of stored) at thing c end past))
