-- Entries and their texts: what a search and an edit of the entries mean for the labels.
use Rattle.std.proofs.Common.{◌≡◌, ℕ, ◌<◌, ◌≤◌, suc, ◌++◌, take, drop, get_or, slice_get, arith, bytes_eq, not, true, false, List, [], ◌∷◌, length, Some, None, Result, Ok, Err, String, Global, refl, sym, ap, subst, ◌∙◌}
use Rattle.std.proofs.lemmas.List.{length-map, map-append, map-set, take-map, drop-map, get_or-map}
use Rattle.std.proofs.lemmas.List.Sums.{prefix_len-le-length}
use Rattle.std.proofs.lemmas.List.Quantifiers.{position-Some}
use Rattle.std.proofs.lemmas.Slice.Eq.{bytes_eq-Decides}
use Rattle.std.proofs.lemmas.Option.{slice_get-map, slice_get_read}
use Rattle.std.proofs.lemmas.Bool.{and_parts}
use Rattle.std.specs.Prelude.{is_ok, IfOk, IfErr, OnErr, string_bytes, cond, ltb, option_map, slice_set, slice_index_or}
use Rattle.std.specs.List.{position, position_or_len, insert, remove, AllZip}
use Rattle.std.specs.Option.{option_map_or}
use Rattle.std.specs.List.Sorted.{IsBinarySearchResult, IsSearchInRange}
use Rattle.std.specs.Ordering.{ordering_then}
use Rattle.std.specs.declared.cmp.Ordering.{Ordering}
use Rattle.std.specs.declared.cmp.Ordering.TheVariants.{Less, Equal, Greater}
use Rattle.meta_types.specs.Text.{Text, texts_of, text_cmp}
use Rattle.meta_types.specs.Keys.{is_key, is_before, are_in_order, row_at}
use Rattle.meta_types.specs.Labels.{LabelList, label_key, has_label, value_of, put_label}
use Rattle.meta_types.proofs.Searched.{key_cmp, Finds, searched, position_or_len-map, has_row-map, are_in_order-map}
use Rattle.meta_types.proofs.RowAtPlace.{row_at_place}
use Rattle.meta_types.proofs.Puts.{placed, removed_found, set_found, inserted_found}

abbrev pub Entry : Type 0
Entry = String Global × String Global

abbrev pub text_of : Entry → Text × Text
text_of entry = (string_bytes entry.0, string_bytes entry.1)

-- keys of one text compare as the texts
pub key_cmp_text : (entry : Entry) (key : Text) → text_cmp (string_bytes entry.0) key ≡ key_cmp (λ e. label_key (text_of e)) (key ∷ []) entry
key_cmp_text entry key = sym (then_equal (text_cmp (string_bytes entry.0) key))
  where
    then_equal : (r : Ordering) → ordering_then r Equal ≡ r
    then_equal Less = refl
    then_equal Equal = refl
    then_equal Greater = refl

module _ (entries : List Entry) (key : Text) (found : Result ℕ ℕ) where
  -- what a search of the entries says of the labels
  pub label_found : Finds (λ e. label_key (text_of e)) (key ∷ []) entries found → Finds label_key (key ∷ []) (texts_of entries) found
  label_found s = record {
    there = s.there ∙ sym (has_row-map text_of label_key (key ∷ []) entries);
    at = at_of found s.at;
    gap = gap_of found s.gap;
  }
    where
      place_is : position_or_len (λ e. is_key (key ∷ []) (label_key (text_of e))) entries ≡ position_or_len (λ label. is_key (key ∷ []) (label_key label)) (texts_of entries)
      place_is = sym (position_or_len-map text_of (λ label. is_key (key ∷ []) (label_key label)) entries)

      at_of : (r : Result ℕ ℕ) → IfOk r (λ place. Some place ≡ position (λ e. is_key (key ∷ []) (label_key (text_of e))) entries)
          → IfOk r (λ place. Some place ≡ position (λ label. is_key (key ∷ []) (label_key label)) (texts_of entries))
      at_of (Ok i) e = e ∙ (λ j. cond (ltb (place_is j) (sym (length-map entries text_of) j)) (Some (place_is j)) None)
      at_of (Err i) e = tt

      gap_of : (r : Result ℕ ℕ) → IfErr r (λ place. place ≡ position_or_len (λ e. is_before (key ∷ []) (label_key (text_of e))) entries)
          → IfErr r (λ place. place ≡ position_or_len (λ label. is_before (key ∷ []) (label_key label)) (texts_of entries))
      gap_of (Ok i) e = tt
      gap_of (Err i) e = e ∙ sym (position_or_len-map text_of (λ label. is_before (key ∷ []) (label_key label)) entries)

  pub label_searched : are_in_order label_key (texts_of entries) ≡ true → IsSearchInRange found (length entries)
      → IsBinarySearchResult (key_cmp (λ e. label_key (text_of e)) (key ∷ [])) entries found → Finds label_key (key ∷ []) (texts_of entries) found
  label_searched o within h = label_found (searched (λ e. label_key (text_of e)) (key ∷ []) entries found (sym (are_in_order-map text_of label_key entries) ∙ o) within h)

-- the value beside a key that was found
pub value_found : (entries : List Entry) (key : Text) (place : ℕ) (entry : Entry) → Some place ≡ position (λ label. is_key (key ∷ []) (label_key label)) (texts_of entries)
    → entry ≡ get_or entries place entry → Some (string_bytes (get_or entries place entry).1) ≡ value_of (texts_of entries) key
value_found entries key place entry at is =
    let spot = placed (λ label. is_key (key ∷ []) (label_key label)) (texts_of entries) place at in
    let within : place < length entries = subst (λ n. place < n) (length-map entries text_of) spot.1 in
    let here : slice_get (texts_of entries) place ≡ Some (text_of entry) = slice_get-map text_of entries place ∙ ap (option_map text_of) (slice_get_read entries (length entries) place entry refl within is) in
    let row : row_at label_key (key ∷ []) (texts_of entries) ≡ Some (text_of entry) = row_at_place label_key (key ∷ []) (texts_of entries) ∙ ap (slice_get (texts_of entries)) spot.0 ∙ here in
    ap (λ (e : Entry). Some (string_bytes e.1)) (sym is) ∙ sym (ap (λ o. option_map_or (λ (label : Text × Text). Some label.1) o None) row)

-- ---- edits of the entries are edits of the labels

pub removed_texts : (entries : List Entry) (place : ℕ) → texts_of (remove entries place) ≡ remove (texts_of entries) place
removed_texts entries place = map-append text_of (take place entries) (drop (suc place) entries) ∙ (λ i. sym (take-map text_of place entries) i ++ sym (drop-map text_of (suc place) entries) i)

pub inserted_texts : (entries : List Entry) (place : ℕ) (entry : Entry) → texts_of (insert entries place entry) ≡ insert (texts_of entries) place (text_of entry)
inserted_texts entries place entry = map-append text_of (take place entries) (entry ∷ drop place entries) ∙ (λ i. sym (take-map text_of place entries) i ++ text_of entry ∷ sym (drop-map text_of place entries) i)

-- a label's key stays where its value is set
pub set_texts : (entries : List Entry) (place : ℕ) (entry : Entry) (value : String Global) (text : Text) → place < length entries → entry ≡ get_or entries place entry → string_bytes value ≡ text
    → texts_of (slice_set entries place (entry.0, value)) ≡ slice_set (texts_of entries) place ((slice_index_or (texts_of entries) place ([], [])).0, text)
set_texts entries place entry value text within is same =
    map-set text_of entries place (entry.0, value)
    ∙ (λ i. slice_set (texts_of entries) place ((sym (get_or-map text_of entries place entry ([], []) within ∙ ap text_of (sym is)) i).0, same i))

-- the same texts, copied
pub copied_texts : (entries copies : List Entry) → AllZip (λ x y. (string_bytes y.0 ≡ string_bytes x.0) × (string_bytes y.1 ≡ string_bytes x.1)) entries copies → texts_of copies ≡ texts_of entries
copied_texts [] [] same = refl
copied_texts [] (y ∷ ys) same = absurd same
copied_texts (x ∷ xs) [] same = absurd same
copied_texts (x ∷ xs) (y ∷ ys) same = λ i. (same.0.0 i, same.0.1 i) ∷ copied_texts xs ys same.1 i

-- ---- an edit at the place that a search gave

-- what a search says of the entries' texts, where they are known under another name
pub found_in : (slice entries : List Entry) (key : Text) (found : Result ℕ ℕ) → slice ≡ entries → is_ok found ≡ has_label (texts_of slice) key
    → IfOk found (λ place. Some place ≡ position (λ label. is_key (key ∷ []) (label_key label)) (texts_of slice))
    → IfErr found (λ place. place ≡ position_or_len (λ label. is_before (key ∷ []) (label_key label)) (texts_of slice)) → Finds label_key (key ∷ []) (texts_of entries) found
found_in slice entries key found same there at gap = subst (λ es. Finds label_key (key ∷ []) (texts_of es) found) same (record { there = there; at = at; gap = gap })

-- a gap is within the entries, or at their end
pub gap_within : (entries : List Entry) (key : Text) (place : ℕ) → Finds label_key (key ∷ []) (texts_of entries) (Err place) → place ≤ length entries
gap_within entries key place s = omega (arith, s.gap, prefix_len-le-length (λ label. not (is_before (key ∷ []) (label_key label))) (texts_of entries), length-map entries text_of)

module _ (labels : LabelList) (key value : Text) where
  pub put_empty : (new : LabelList) (found : Result ℕ ℕ) → Finds label_key (key ∷ []) labels found → bytes_eq value [] ≡ true
      → IfOk found (λ place. new ≡ remove labels place) → OnErr found (new ≡ labels) → new ≡ put_label key value labels
  put_empty new found s empty there gone = rw empty (removed_found label_key labels new found (key ∷ []) s there gone)

  pub put_over : (place : ℕ) → are_in_order label_key labels ≡ true → Finds label_key (key ∷ []) labels (Ok place) → bytes_eq value [] ≡ false
      → slice_set labels place ((slice_index_or labels place ([], [])).0, value) ≡ put_label key value labels
  put_over place o s filled =
      let is_there = (position-Some (λ label. is_key (key ∷ []) (label_key label)) labels place ([], []) (sym s.at)).1 in
      let same : key ≡ (slice_index_or labels place ([], [])).0 = (bytes_eq-Decides key (slice_index_or labels place ([], [])).0).0 (and_parts (bytes_eq key (slice_index_or labels place ([], [])).0) true is_there).0 in
      rw filled ((λ i. slice_set labels place (sym same i, value)) ∙ set_found label_key (key, value) labels place o s)

  pub put_new : (place : ℕ) → Finds label_key (key ∷ []) labels (Err place) → bytes_eq value [] ≡ false → insert labels place (key, value) ≡ put_label key value labels
  put_new place s filled = rw filled (inserted_found label_key (key, value) labels place s)
