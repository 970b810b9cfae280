-- The labels of the last pairs of a list.
use Rattle.std.proofs.Common.{◌≡◌, ◌∙◌, ℕ, zero, suc, ◌+◌, ◌-◌, ◌<◌, ◌≤◌, None, ap, Bool, true, false, ◌&&◌, List, [], ◌∷◌, length, get_or, drop, refl, sym, ap, arith, inl, inr, Err, drop-cons, subst}
use Rattle.std.proofs.Math.Numerals.{add-one}
use Rattle.std.proofs.lemmas.Bool.{cases_Bool, and_right}
use Rattle.meta_types.specs.Text.{Text}
use Rattle.meta_types.specs.Labels.{LabelList, are_labels, labels_of, takes_label, put_label}
use Rattle.meta_types.specs.Updates.{put_pairs, takes_pairs}
use Rattle.meta_types.specs.Faults.{Refuses, unless}
use Rattle.meta_types.specs.declared.fault.Fault.{Fault}
use Rattle.meta_types.specs.declared.fault.Fault.TheVariants.{InvalidArgument, OutOfMemory}
use Rattle.request_core.specs.Follows.{PutsTexts, reading}

module _ (start : LabelList) where
  -- the pairs over the labels that are there
  abbrev over : List (Text × Text) → LabelList
  over pairs = put_pairs pairs start

  abbrev taken : List (Text × Text) → Bool
  taken pairs = takes_pairs pairs start

  -- where the last pairs can't be written, all of them can't
  pub not_all : (pairs : List (Text × Text)) (k : ℕ) → taken (drop k pairs) ≡ false → taken pairs
      ≡ false
  not_all pairs zero f = f
  not_all [] (suc k) f = f
  not_all (pair ∷ pairs) (suc k) f = rw (not_all pairs k f) refl

  module _ (pairs : List (Text × Text)) (k : ℕ) (d : Text × Text) (lt : k < length pairs) where
    one_more : drop k pairs ≡ get_or pairs k d ∷ drop (k + 1) pairs
    one_more = rw add-one (drop-cons pairs k d lt)

    -- one pair more, from behind
    pub labels_more : put_label (get_or pairs k d).0 (get_or pairs k d).1
        (over (drop (k + 1) pairs)) ≡ over (drop k pairs)
    labels_more = sym (ap over one_more)

    -- it may be written, too
    pub allowed_more : taken (drop (k + 1) pairs) ≡ true
        → takes_label (get_or pairs k d).0 (get_or pairs k d).1 (over (drop (k + 1) pairs)) ≡ true
        → taken (drop k pairs) ≡ true
    allowed_more t more = ap taken one_more ∙ rw (t, more) refl

    -- a pair that can't be written refuses the whole; otherwise memory ran out
    pub refused_more : (X Y : Type 0) (fault : Fault) → Refuses {X = X} (Err fault)
        (unless (takes_label (get_or pairs k d).0 (get_or pairs k d).1 (over (drop (k + 1) pairs)))
        InvalidArgument)
        → PutsTexts (Err (reading fault)) (taken pairs) Y
    refused_more X Y fault r = elim (cases_Bool (takes_label (get_or pairs k d).0
        (get_or pairs k d).1 (over (drop (k + 1) pairs)))) [
          | inl t ↦ (
              let same : fault ≡ OutOfMemory = rw t at r in
              rw same tt)
          | inr f ↦ (
              let same : fault ≡ InvalidArgument = rw f at r in
              rw same (
                refl,
                not_all pairs k (ap taken one_more
                    ∙ and_right (taken (drop (k + 1) pairs)) _ f),
              ))
        ]

  -- one before the place is put
  module _ (entries : List (Text × Text)) (place : ℕ) (some : 0 < place)
      (within : place ≤ length entries) (held : LabelList)
      (allowed : taken (drop place entries) ≡ true) (held_is : held ≡ over (drop place entries))
      (entry : Text × Text) (at : entry ≡ get_or entries (place - 1) entry) (key value : Text)
      (key_is : key ≡ entry.0) (value_is : value ≡ entry.1) where
    abbrev k : ℕ
    k = place - 1

    next : k + 1 ≡ place
    next = omega arith

    inside : k < length entries
    inside = omega arith

    text_at : get_or entries k (key, value) ≡ (key, value)
    text_at = (λ i. get_or entries k (key_is i, value_is i)) ∙ sym at
        ∙ λ i. (sym key_is i, sym value_is i)

    held_next : over (drop (k + 1) entries) ≡ held
    held_next = ap (λ n. over (drop n entries)) next ∙ sym held_is

    pub put_is : (new : LabelList) → new ≡ put_label key value held → new
        ≡ over (drop (place - 1) entries)
    put_is new e = e ∙ (λ i. put_label (sym text_at i).0 (sym text_at i).1 (sym held_next i))
        ∙ labels_more entries k (key, value) inside

    taken_is : takes_label key value held ≡ takes_label (get_or entries k (key, value)).0
        (get_or entries k (key, value)).1 (over (drop (k + 1) entries))
    taken_is = λ i. takes_label (sym text_at i).0 (sym text_at i).1 (sym held_next i)

    pub still_allowed : unless (takes_label key value held) InvalidArgument ≡ None
        → taken (drop (place - 1) entries) ≡ true
    still_allowed e = allowed_more entries k (key, value) inside
        (ap (λ n. taken (drop n entries)) next ∙ allowed)
        (sym taken_is ∙ is_taken (takes_label key value held) e)
      where
        is_taken : (b : Bool) → unless b InvalidArgument ≡ None → b ≡ true
        is_taken true f = refl
        is_taken false f = absurd cc

    pub refused : (X Y : Type 0) (fault : Fault) → Refuses {X = X} (Err fault)
        (unless (takes_label key value held) InvalidArgument)
        → PutsTexts (Err (reading fault)) (taken entries) Y
    refused X Y fault r = refused_more entries k (key, value) inside X Y fault
        (subst (λ b. Refuses {X = X} (Err fault) (unless b InvalidArgument)) taken_is r)

-- over no label they are the labels that a request writes
pub over_none : (pairs : List (Text × Text)) → put_pairs pairs [] ≡ labels_of pairs
over_none [] = refl
over_none (pair ∷ pairs) = ap (put_label pair.0 pair.1) (over_none pairs)

pub taken_none : (pairs : List (Text × Text)) → takes_pairs pairs [] ≡ are_labels pairs
taken_none [] = refl
taken_none (pair ∷ pairs) = λ i. taken_none pairs i && takes_label pair.0 pair.1 (over_none pairs i)
