-- Records without the row that is removed with a collection, and the rows that are listed then.
use Rattle.std.proofs.Common.{◌≡◌, Bool, true, false, List, [], ◌∷◌, map, filter, length, refl, sym, ap, ◌∙◌, subst, inl, inr}
use Rattle.std.proofs.Common.{Vec, Global}
use Rattle.std.specs.Prelude.{IsTrue, Option, Some, None}
use Rattle.std.proofs.lemmas.Bool.{cases_Bool}
use Rattle.std.proofs.lemmas.List.{length-map}
use Rattle.meta_types.specs.Text.{Text}
use Rattle.meta_types.specs.Keys.{Key, is_key, has_row, remove_row, are_in_order}
use Rattle.meta_types.specs.Rows.{Records, Tables, State, LeaseRow, image_key, lease_key}
use Rattle.meta_types.specs.Sound.{IsSound}
use Rattle.meta_types.specs.declared.rows.ImageRow.{ImageRow}
use Rattle.meta_types.proofs.Puts.{no_row_removed}
use Rattle.meta_types.proofs.Searched.{in_order_rest}
use Rattle.row_tables.specs.Arrived.{sorted, kept}
use Rattle.object_tables.specs.InKeyOrder.{in_key_order}
use Rattle.request_core.proofs.StepSound.{after_image_remove}
use Rattle.request_core.proofs.ContentSound.{after_lease_remove}
use Rattle.gc_graph.specs.Others.{is_other}
use Rattle.table_sweep.specs.InKeyOrder.{records_in_key_order}
use Rattle.table_sweep.specs.Stays.{FitRows, StayNumbered}
use Rattle.table_sweep.specs.declared.masks.Masks.{Masks}
use Rattle.table_sweep.proofs.SortedRows.{sorted_filter}
use Rattle.table_sweep.proofs.Planned.{kept_by}
use Rattle.collection.specs.Leaving.{less, less_images, less_leases, images_by, leases_by, listed_by, AreOthers}
use Rattle.collection.specs.declared.removal.RemovedRow.{RemovedRow}
use Rattle.collection.specs.declared.removal.RemovedRow.TheVariants as N
use Rattle.collection.specs.declared.leaving.Others.{Others}
use Rattle.collection.specs.declared.leaving.Others.TheVariants as O
use Rattle.collection.proofs.Bridges.{Agree}

-- ---- the rows of other keys

module _ {Row : Type 0} (key_of : Row → Key) (key : Key) where
  none_goes : (rows : List Row) → has_row key_of key rows ≡ false
      → filter (is_other key_of key) rows ≡ rows
  none_goes [] h = refl
  none_goes (row ∷ rows) h = elim (cases_Bool (is_key key (key_of row))) [
    | inl t ↦ absurd (cc (rw t at h))
    | inr f ↦ rw f (ap (λ rest. row ∷ rest) (none_goes rows (rw f at h)))
  ]

  -- of rows in order they are all but the one of the key
  others_are : (rows : List Row) → are_in_order key_of rows ≡ true
      → filter (is_other key_of key) rows ≡ remove_row key_of key rows
  others_are [] o = refl
  others_are (row ∷ rows) o = elim (cases_Bool (is_key key (key_of row))) [
    | inl t ↦ (
        let gone = no_row_removed key_of key (row ∷ rows) o in
        rw t (none_goes rows (rw t at gone)))
    | inr f ↦ rw f (ap (λ rest. row ∷ rest) (others_are rows (in_order_rest key_of row rows o)))
  ]

  -- whatever the order in which they arrived
  pub ordered_others : (rows : List Row) → IsTrue (are_in_order key_of (sorted key_of rows))
      → sorted key_of (filter (is_other key_of key) rows) ≡ remove_row key_of key
      (sorted key_of rows)
  ordered_others rows o =
      sorted_filter key_of (is_other key_of key) rows ∙ others_are (sorted key_of rows) o

-- ---- records

abbrev less_arrived : Option RemovedRow → Records → Records
less_arrived named arrived = record arrived {
  tables = record arrived.tables { images = less_images named arrived.tables.images };
  leases = less_leases named arrived.leases;
}

less_in_order : (arrived : Records) (named : Option RemovedRow)
    → IsTrue (are_in_order image_key (sorted image_key arrived.tables.images))
    → IsTrue (are_in_order lease_key (sorted lease_key arrived.leases))
    → records_in_key_order (less_arrived named arrived) ≡ less (records_in_key_order arrived) named
less_in_order arrived None i l = refl
less_in_order arrived (Some (N.Image ns name)) i l =
    λ k. record (records_in_key_order arrived) {
      tables = record (in_key_order arrived.tables) {
        images = ordered_others image_key (ns ∷ name ∷ []) arrived.tables.images i k;
      };
    }
less_in_order arrived (Some (N.Lease ns id)) i l =
    λ k. record (records_in_key_order arrived) {
      leases = ordered_others lease_key (ns ∷ id ∷ []) arrived.leases l k;
    }

-- the rows that are listed are in order the records without what is named
pub listed_in_order : (arrived : Records) (named : Option RemovedRow) (others : Others)
    → AreOthers named arrived.tables.images arrived.leases others
    → IsTrue (are_in_order image_key (sorted image_key arrived.tables.images))
    → IsTrue (are_in_order lease_key (sorted lease_key arrived.leases))
    → records_in_key_order (listed_by others arrived) ≡ less (records_in_key_order arrived) named
listed_in_order arrived named others a i l =
    (λ k. records_in_key_order (record arrived {
      tables = record arrived.tables { images = a.images_are k };
      leases = a.leases_are k;
    })) ∙ less_in_order arrived named i l

-- marks keep of rows that agree rows that agree
pub agree_listed : (others : Others) (a b : Records) → Agree a b
    → Agree (listed_by others a) (listed_by others b)
agree_listed others a b h = record {
  images = ap (images_by others) h.images;
  containers = h.containers;
  content = h.content;
  ingests = h.ingests;
  snapshots = h.snapshots;
  leases = ap (leases_by others) h.leases;
  profile = h.profile;
}

-- marks of rows are marks of the same rows
pub others_as : (named : Option RemovedRow) (others : Others) (images also : List ImageRow)
    (leases held : List LeaseRow) → images ≡ also → leases ≡ held
    → AreOthers named images leases others → AreOthers named also held others
others_as named others images also leases held i l a =
    subst (λ (rows : List LeaseRow). AreOthers named also rows others) l
    (subst (λ (rows : List ImageRow). AreOthers named rows leases others) i a)

-- marks of the rows of a test leave out the others
pub marks_keep : {Row : Type 0} (stays : Row → Bool) (rows : List Row) (marks : List Bool)
    → marks ≡ map stays rows
    → (length marks ≡ length rows) × (kept marks rows ≡ filter stays rows)
marks_keep stays rows marks is =
    (ap length is ∙ length-map rows stays, kept_by stays rows marks is)

-- what the marks of a removal's kind tell
module _ (records : Records) (ns name : Text) (marks : Vec Bool Global) where
  abbrev images_less : List ImageRow
  images_less = filter (is_other image_key (ns ∷ name ∷ [])) records.tables.images

  abbrev leases_less : List LeaseRow
  leases_less = filter (is_other lease_key (ns ∷ name ∷ [])) records.leases

  module _ (is : marks.items ≡ map (is_other image_key (ns ∷ name ∷ [])) records.tables.images) where
    pub other_images_are : (named : Option RemovedRow) → named ≡ Some (N.Image ns name)
        → AreOthers named records.tables.images records.leases (O.Images marks)
    other_images_are named e =
        let told = marks_keep (is_other image_key (ns ∷ name ∷ [])) records.tables.images
        marks.items is in
        subst (λ (n : Option RemovedRow).
        AreOthers n records.tables.images records.leases (O.Images marks)) (sym e)
        (record { fit = told.0; images_are = told.1; leases_are = refl })

    pub images_left : (new : Records)
        → new ≡ record records { tables = record records.tables { images = images_less } }
        → new ≡ listed_by (O.Images marks) records
    images_left new e =
        let told = marks_keep (is_other image_key (ns ∷ name ∷ [])) records.tables.images
        marks.items is in
        e ∙ (λ k. record records {
          tables = record records.tables { images = sym told.1 k };
        })

  module _ (is : marks.items ≡ map (is_other lease_key (ns ∷ name ∷ [])) records.leases) where
    pub other_leases_are : (named : Option RemovedRow) → named ≡ Some (N.Lease ns name)
        → AreOthers named records.tables.images records.leases (O.Leases marks)
    other_leases_are named e =
        let told = marks_keep (is_other lease_key (ns ∷ name ∷ [])) records.leases marks.items is in
        subst (λ (n : Option RemovedRow).
        AreOthers n records.tables.images records.leases (O.Leases marks)) (sym e)
        (record { fit = told.0; images_are = refl; leases_are = told.1 })

    pub leases_left : (new : Records) → new ≡ record records { leases = leases_less }
        → new ≡ listed_by (O.Leases marks) records
    leases_left new e =
        let told = marks_keep (is_other lease_key (ns ∷ name ∷ [])) records.leases marks.items is in
        e ∙ (λ k. record records { leases = sym told.1 k })

-- ---- sweeps

pub fit_as : (masks : Masks) (a b : Tables) (l m : List LeaseRow) → a ≡ b → l ≡ m
    → FitRows b m masks → FitRows a l masks
fit_as masks a b l m tables leases fit =
    subst (λ (t : Tables). FitRows t l masks) (sym tables)
    (subst (λ (held : List LeaseRow). FitRows b held masks) (sym leases) fit)

pub stay_as : (masks : Masks) (a b : Tables) → a ≡ b → StayNumbered b masks → StayNumbered a masks
stay_as masks a b tables stay = subst (λ (t : Tables). StayNumbered t masks) (sym tables) stay

-- ---- sound stores

pub sound_less : (state : State) (named : Option RemovedRow) → IsSound state
    → IsSound (record { records = less state.records named; backends = state.backends })
sound_less state None s = s
sound_less state (Some (N.Image ns name)) s =
    after_image_remove state (record { ns = ns; name = name }) s
sound_less state (Some (N.Lease ns id)) s =
    after_lease_remove state (record { ns = ns; name = id }) s
