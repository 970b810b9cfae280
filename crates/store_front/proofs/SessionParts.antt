-- A session's part of the log, beside its list.
use Rattle.std.proofs.Common.{◌≡◌, ◌≢◌, ℕ, ◌+◌, ◌<◌, ◌≤◌, List, [], ◌∷◌, ◌++◌, length, get_or, take, drop, Bool, true, false, refl, sym, ◌∙◌, ap, arith, append_assoc, append-nil, rules}
use Rattle.std.specs.Prelude.{◌==◌, suc, cond, filter, map, slice_get, Some, None}
use Rattle.std.proofs.lemmas.List.{take_more, take-append-drop, map-append, length-append, length-take-le}
use Rattle.std.proofs.lemmas.List.Elements.{filter-append}
use Rattle.std.proofs.lemmas.Option.{slice_get-get_or, slice_get_past, slice_get_within, get_or_from_slice_get}
use Rattle.std.proofs.Math.Seq.{take-append_seam, get_or-append_seam, take-length}
use Rattle.meta_types.specs.Histories.{Entry}
use Rattle.store_front.specs.SessionEntries.{SessionEntry}
use Rattle.store_front.specs.Parts.{part, session_entry_of, DifferFirst}

pub part-append : (number : ℕ) (xs ys : List Entry)
    → part number (xs ++ ys) ≡ part number xs ++ part number ys
part-append number xs ys =
    ap (map session_entry_of) (filter-append (λ (e : Entry). e.session == number) xs ys) ∙ map-append session_entry_of (filter (λ (e : Entry). e.session == number) xs) (filter (λ (e : Entry). e.session == number) ys)

pub part-one : (number : ℕ) (e : Entry)
    → part number (e ∷ []) ≡ cond (e.session == number) (session_entry_of e ∷ []) []
part-one number e = elim (e.session == number) as (λ (b : Bool). map session_entry_of (cond b (e ∷ []) []) ≡ cond b (session_entry_of e ∷ []) []) [ true ↦ refl | false ↦ refl ]

-- the part of one entry more
pub part_more : (number : ℕ) (log : List Entry) (i : ℕ) (e : Entry) → i < length log
    → get_or log i e ≡ e
    → part number (take (i + 1) log) ≡ part number (take i log) ++ cond (e.session == number) (session_entry_of e ∷ []) []
part_more number log i e here is =
    ap (part number) (take_more log i e here ∙ ap (λ (x : Entry). take i log ++ x ∷ []) is) ∙ part-append number (take i log) (e ∷ []) ∙ ap (λ (l : List SessionEntry). part number (take i log) ++ l) (part-one number e)

seam : (number : ℕ) (log : List Entry) (i : ℕ) (e : Entry) → i < length log → get_or log i e ≡ e
    → (e.session == number) ≡ true
    → part number log ≡ part number (take i log) ++ session_entry_of e ∷ part number (drop (i + 1) log)
seam number log i e here is same =
    let more : part number (take (i + 1) log) ≡ part number (take i log) ++ session_entry_of e ∷ [] =
    part_more number log i e here is ∙ ap (λ (b : Bool). part number (take i log) ++ cond b (session_entry_of e ∷ []) []) same in
    ap (part number) (sym (take-append-drop (i + 1) log)) ∙ part-append number (take (i + 1) log) (drop (i + 1) log)
    ∙ ap (λ (l : List SessionEntry). l ++ part number (drop (i + 1) log)) more
    ∙ search (append_assoc, rules)

-- at this entry the list has another, or has ended
pub differs : (number : ℕ) (log : List Entry) (list : List SessionEntry) (i next : ℕ) (e : Entry)
    → i < length log → get_or log i e ≡ e → (e.session == number) ≡ true
    → part number (take i log) ≡ take next list → next ≤ length list
    → slice_get list next ≢ Some (session_entry_of e) → DifferFirst (part number log) list next
differs number log list i next e here is same so_far within other =
    let a = part number (take i log) in
    let t = session_entry_of e in
    let r = part number (drop (i + 1) log) in
    let s = seam number log i e here is same in
    let n : length a ≡ next = ap length so_far ∙ length-take-le next list within in
    let front : take (length a) (part number log) ≡ take next list = ap (take (length a)) s ∙ take-append_seam a (t ∷ r) ∙ so_far in
    let more : length (part number log) ≡ length a + suc (length r) = ap length s ∙ length-append a (t ∷ r) in
    let inside : length a < length (part number log) = omega arith in
    let at : slice_get (part number log) (length a) ≡ Some t =
    slice_get-get_or (part number log) (length a) t inside ∙ ap Some (ap (λ (l : List SessionEntry). get_or l (length a) t) s ∙ get_or-append_seam a t r t) in (
      ap (λ (k : ℕ). take k (part number log)) (sym n) ∙ front,
      λ h. other (sym h ∙ (ap (slice_get (part number log)) (sym n) ∙ at)),
    )

some_is_none : (list : List SessionEntry) (next : ℕ) → next < length list
    → slice_get list next ≡ None → ⊥
some_is_none [] next more h = absurd (omega arith)
some_is_none (x ∷ xs) next more h =
    let p = slice_get-get_or (x ∷ xs) next x more in cc

-- the log has ended and the list goes on
pub ends : (xs list : List SessionEntry) (next : ℕ) → xs ≡ take next list → next < length list
    → DifferFirst xs list next
ends xs list next so_far more =
    let n : length xs ≡ next = ap length so_far ∙ length-take-le next list (omega arith) in (
      ap (λ (k : ℕ). take k xs) (sym n) ∙ take-length xs ∙ so_far,
      λ h. some_is_none list next more (sym h ∙ slice_get_past xs next (omega arith)),
    )

-- an entry of another session
pub skips : (number : ℕ) (log : List Entry) (list : List SessionEntry) (i next : ℕ) (e : Entry)
    → i < length log → get_or log i e ≡ e → (e.session == number) ≡ false
    → part number (take i log) ≡ take next list
    → part number (take (i + 1) log) ≡ take next list
skips number log list i next e here is other so_far =
    part_more number log i e here is ∙ ap (λ (b : Bool). part number (take i log) ++ cond b (session_entry_of e ∷ []) []) other ∙ append-nil (part number (take i log)) ∙ so_far

-- an entry that stands in the list too
pub goes_on : (number : ℕ) (log : List Entry) (list : List SessionEntry) (i next : ℕ) (e : Entry)
    → i < length log → get_or log i e ≡ e → (e.session == number) ≡ true
    → part number (take i log) ≡ take next list → slice_get list next ≡ Some (session_entry_of e)
    → (part number (take (i + 1) log) ≡ take (next + 1) list) × (next + 1 ≤ length list)
goes_on number log list i next e here is same so_far at =
    let within = slice_get_within list next (session_entry_of e) at in
    let element : get_or list next (session_entry_of e) ≡ session_entry_of e = get_or_from_slice_get list next (session_entry_of e) (session_entry_of e) at in (
      part_more number log i e here is ∙ ap (λ (b : Bool). part number (take i log) ++ cond b (session_entry_of e ∷ []) []) same
          ∙ ap (λ (l : List SessionEntry). l ++ session_entry_of e ∷ []) so_far
          ∙ ap (λ (x : SessionEntry). take next list ++ x ∷ []) (sym element)
          ∙ sym (take_more list next (session_entry_of e) within),
      omega arith,
    )
