-- Of the blobs, just those are owned that aren't among the removed ones.
use Rattle.std.proofs.Common.{◌≡◌, Bool, true, false, not, List, [], ◌∷◌, map, filter, refl, sym, ap, ◌∙◌, inl, inr, if◌then◌else◌}
use Rattle.std.specs.Prelude.{◌||◌, bytes_eq}
use Rattle.std.specs.List.{list_any}
use Rattle.std.proofs.lemmas.Bool.{cases_Bool}
use Rattle.std.proofs.lemmas.Slice.Eq.{bytes_eq-Decides}
use Rattle.meta_types.specs.Text.{Text}
use Rattle.row_tables.specs.Arrived.{one_text, sorted}
use Rattle.table_sweep.specs.BlobMarks.{is_unnamed, AreBlobMarks}
use Rattle.table_sweep.proofs.SortedRows.{sorted_filter, any_sorted}

or_left : (a b : Bool) → a ≡ true → (a || b) ≡ true
or_left a b h = rw h refl

or_right : (a b : Bool) → b ≡ true → (a || b) ≡ true
or_right true b h = refl
or_right false b h = h

module _ (owns : Text → Bool) where
  abbrev goes : Text → Bool
  goes digest = not (owns digest)

  -- an owned one isn't among those that go
  owned_stays : (digest : Text) → owns digest ≡ true → (blobs : List Text) → list_any (bytes_eq digest) (filter goes blobs) ≡ false
  owned_stays digest t [] = refl
  owned_stays digest t (x ∷ blobs) = go (owns x) refl (owned_stays digest t blobs)
    where
      go : (b : Bool) → owns x ≡ b → list_any (bytes_eq digest) (filter goes blobs) ≡ false
          → list_any (bytes_eq digest) (if not b then x ∷ filter goes blobs else filter goes blobs) ≡ false
      go true e rest = rest
      go false e rest = elim (cases_Bool (bytes_eq digest x)) [
        | inl s ↦ absurd (cc (sym t ∙ ap owns ((bytes_eq-Decides digest x).0 s) ∙ e))
        | inr f ↦ rw f rest
      ]

  -- another is, where it is a blob
  unowned_goes : (digest : Text) → owns digest ≡ false → (blobs : List Text) → list_any (bytes_eq digest) blobs ≡ true → list_any (bytes_eq digest) (filter goes blobs) ≡ true
  unowned_goes digest f [] h = h
  unowned_goes digest f (x ∷ blobs) h = elim (cases_Bool (bytes_eq digest x)) [
    | inl s ↦ (let here : owns x ≡ false = ap owns (sym ((bytes_eq-Decides digest x).0 s)) ∙ f in rw (here, s) refl)
    | inr n ↦ (let rest : list_any (bytes_eq digest) blobs ≡ true = rw n at h in go (owns x) (unowned_goes digest f blobs rest))
  ]
    where
      go : (b : Bool) → list_any (bytes_eq digest) (filter goes blobs) ≡ true
          → list_any (bytes_eq digest) (if not b then x ∷ filter goes blobs else filter goes blobs) ≡ true
      go true rest = rest
      go false rest = or_right (bytes_eq digest x) (list_any (bytes_eq digest) (filter goes blobs)) rest

  told : (digest : Text) (blobs : List Text) → list_any (bytes_eq digest) blobs ≡ true → owns digest ≡ is_unnamed (filter goes blobs) digest
  told digest blobs h = elim (cases_Bool (owns digest)) [
    | inl t ↦ t ∙ sym (ap not (owned_stays digest t blobs))
    | inr f ↦ f ∙ sym (ap not (unowned_goes digest f blobs h))
  ]

  each_told : (part blobs : List Text) → ((digest : Text) → list_any (bytes_eq digest) part ≡ true → list_any (bytes_eq digest) blobs ≡ true)
      → map owns part ≡ map (is_unnamed (filter goes blobs)) part
  each_told [] blobs inside = refl
  each_told (x ∷ part) blobs inside =
      let here : list_any (bytes_eq x) blobs ≡ true = inside x (or_left (bytes_eq x x) (list_any (bytes_eq x) part) ((bytes_eq-Decides x x).1 refl)) in
      let rest = each_told part blobs (λ digest h. inside digest (or_right (bytes_eq digest x) (list_any (bytes_eq digest) part) h)) in
      λ i. told x blobs here i ∷ rest i

  -- so marks of the owned ones are marks of those that aren't named
  pub marks_tell : (blobs names : List Text) (marks : List Bool) → marks ≡ map owns blobs → names ≡ filter goes (sorted one_text blobs) → AreBlobMarks names blobs marks
  marks_tell blobs names marks is named =
      let same : (digest : Text) → list_any (bytes_eq digest) (filter goes blobs) ≡ list_any (bytes_eq digest) names =
      λ digest. sym (any_sorted one_text (bytes_eq digest) (filter goes blobs)) ∙ ap (list_any (bytes_eq digest)) (sorted_filter one_text goes blobs ∙ sym named) in
      is ∙ each_told blobs blobs (λ digest h. h) ∙ (λ i. map (λ digest. not (same digest i)) blobs)
