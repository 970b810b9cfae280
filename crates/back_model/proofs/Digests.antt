-- Digests in a table, seen as a list in order.
use Rattle.std.proofs.Common.{◌≡◌, List, [], ◌∷◌, Bool, true, false, refl, sym, ◌∙◌, ap, inl, inr}
use Rattle.std.specs.Prelude.{bytes_eq, cond, None, Err}
use Rattle.std.specs.List.{list_any, AllByRecursion}
use Rattle.std.specs.List.Sorted.{IsStrictlySortedBy}
use Rattle.std.specs.declared.cmp.Ordering.{Ordering}
use Rattle.std.specs.declared.cmp.Ordering.TheVariants.{Less, Equal, Greater}
use Rattle.std.specs.Ordering.{is_lt, ordering_then}
use Rattle.std.proofs.lemmas.Bool.{cases_Bool, and_parts}
use Rattle.meta_types.specs.Text.{Text, text_cmp}
use Rattle.meta_types.specs.Keys.{has_row, add_row, remove_row, is_key, is_before, is_first, are_in_order}
use Rattle.meta_types.specs.Changes.{put_blob}
use Rattle.meta_types.specs.Faults.{Refuses, least_of}
use Rattle.meta_types.specs.declared.fault.Fault.{Fault}
use Rattle.meta_types.specs.declared.fault.Fault.TheVariants.{AlreadyExists}
use Rattle.meta_types.proofs.Ordered.{before_trans}
use Rattle.meta_types.proofs.Searched.{not_key, in_order_rest}
use Rattle.row_tables.specs.Arrived.{one_text, same_text, keys_equiv, sorted}
use Rattle.row_tables.proofs.Arrivals.{has_any}
use Rattle.back_model.specs.Objects.{has_blob, without_blob}
use Rattle.back_model.proofs.ShardPlaces.{none_apart, apart_first}

-- a text stands before another
abbrev stands : Text → Text → Bool
stands digest other = is_before (one_text digest) (one_text other)

less : (r : Ordering) → is_lt (ordering_then r Equal) ≡ true → r ≡ Less
less Less e = refl
less Equal e = absurd cc
less Greater e = absurd cc

first_rest : (digest x : Text) (ks : List Text) → stands digest x ≡ true → is_first one_text x ks ≡ true → is_first one_text digest ks ≡ true
first_rest digest x [] p q = refl
first_rest digest x (y ∷ ks) p q = before_trans (one_text digest) (one_text x) (one_text y) p q

-- a digest stands before all later ones
before_later : (digest : Text) (ks : List Text) → is_first one_text digest ks ≡ true → are_in_order one_text ks ≡ true → AllByRecursion (λ other. stands digest other ≡ true) ks
before_later digest [] p o = tt
before_later digest (x ∷ ks) p o =
    let parts = and_parts (is_first one_text x ks) (are_in_order one_text ks) o in
    (p, before_later digest ks (first_rest digest x ks p parts.0) parts.1)

all_less : (digest : Text) (ks : List Text) → AllByRecursion (λ other. stands digest other ≡ true) ks → AllByRecursion (λ other. text_cmp digest other ≡ Less) ks
all_less digest [] h = tt
all_less digest (x ∷ ks) h = (less (text_cmp digest x) h.0, all_less digest ks h.1)

-- the order of the table is the order of the bytes
pub ordered : (ks : List Text) → are_in_order one_text ks ≡ true → IsStrictlySortedBy text_cmp ks
ordered [] o = none_apart
ordered (x ∷ ks) o =
    let parts = and_parts (is_first one_text x ks) (are_in_order one_text ks) o in
    apart_first x ks (all_less x ks (before_later x ks parts.0 parts.1)) (ordered ks parts.1)

module _ (digest : Text) where
  pub has_digest : (ks : List Text) → has_row one_text (one_text digest) ks ≡ has_blob digest ks
  has_digest ks = has_any one_text (one_text digest) ks ∙ (λ i. list_any (λ other. sym (same_text digest other) i) ks)

  pub put_digest : (ks : List Text) → has_blob digest ks ≡ false → add_row one_text digest ks ≡ put_blob digest ks
  put_digest ks free = ap (λ b. cond b ks (add_row one_text digest ks)) (sym free)

  untouched : (x : Text) → bytes_eq digest x ≡ true → (ks : List Text) → AllByRecursion (λ other. stands x other ≡ true) ks → ks ≡ without_blob digest ks
  untouched x here [] h = refl
  untouched x here (y ∷ ks) h =
      let same : is_key (one_text digest) (one_text x) ≡ true = sym (same_text digest x) ∙ here in
      let other : is_key (one_text x) (one_text y) ≡ false = keys_equiv.symm (one_text x) (one_text y) ∙ not_key (one_text x) (one_text y) h.0 in
      let apart : bytes_eq digest y ≡ false = same_text digest y ∙ keys_equiv.congr (one_text digest) (one_text x) (one_text y) same ∙ other in
      rw apart (ap (λ rest. y ∷ rest) (untouched x here ks h.1))

  pub without_digest : (ks : List Text) → are_in_order one_text ks ≡ true → remove_row one_text (one_text digest) ks ≡ without_blob digest ks
  without_digest [] o = refl
  without_digest (x ∷ ks) o = elim (cases_Bool (bytes_eq digest x)) [
    | inl t ↦ (
        let parts = and_parts (is_first one_text x ks) (are_in_order one_text ks) o in
        rw t (untouched x t ks (before_later x ks parts.0 parts.1)))
    | inr f ↦ rw f (ap (λ rest. x ∷ rest) (without_digest ks (in_order_rest one_text x ks o)))
  ]

  -- ---- what a table of digests answers, by what is held now

  pub held_is : (copy : Text) (rows now : List Text) → copy ≡ digest → sorted one_text rows ≡ now → has_row one_text (one_text copy) (sorted one_text rows) ≡ has_blob digest now
  held_is copy rows now same view = ap (λ d. has_row one_text (one_text d) (sorted one_text rows)) same ∙ has_digest (sorted one_text rows) ∙ ap (has_blob digest) view

  pub put_is : (copy : Text) (rows now : List Text) → copy ≡ digest → sorted one_text rows ≡ now → has_row one_text (one_text copy) (sorted one_text rows) ≡ false → add_row one_text copy (sorted one_text rows) ≡ put_blob digest now
  put_is copy rows now same view free =
      ap (λ d. add_row one_text d (sorted one_text rows)) same
      ∙ ap (add_row one_text digest) view
      ∙ put_digest now (sym (held_is copy rows now same view) ∙ free)

  pub left_is : (rows now : List Text) → are_in_order one_text rows ≡ true → rows ≡ now → remove_row one_text (one_text digest) rows ≡ without_blob digest now
  left_is rows now o view = without_digest rows o ∙ ap (without_blob digest) view

-- a digest that was added was free
pub free_where_made : (there : Bool) → least_of false false there false ≡ None → there ≡ false
free_where_made true e = absurd cc
free_where_made false e = refl

-- it was there where that is the fault
pub held_where_there : (there : Bool) (fault : Fault) → Refuses {X = Unit {0}} (Err fault) (least_of false false there false) → fault ≡ AlreadyExists → there ≡ true
held_where_there true fault h is = refl
held_where_there false fault h is = absurd (cc (sym h ∙ is))

-- else it was free
pub free_where_refused : (there : Bool) (fault : Fault) → Refuses {X = Unit {0}} (Err fault) (least_of false false there false) → (fault ≡ AlreadyExists → ⊥) → there ≡ false
free_where_refused true fault h other = absurd (other h)
free_where_refused false fault h other = refl
