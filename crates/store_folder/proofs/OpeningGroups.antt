-- A note is looked for in the text up to the end of its groups.
use Rattle.std.proofs.Common.{◌≡◌, ◌∙◌, ap, sym, refl, ℕ, ◌-◌, ◌≤◌, ◌==◌, List, ◌∷◌, length, take, true, false, nat_le, inl, inr, bytes_eq, arith}
use Rattle.std.proofs.lemmas.Bool.Decides.{nat_tests}
use Rattle.std.proofs.lemmas.Bool.{cases_Bool, false≢true}
use Rattle.std.proofs.lemmas.List.{length-take-le}
use Rattle.journal.specs.Text.{journal_text, journal_end}
use Rattle.journal.specs.Notes.{ends_by, is_found}
use Rattle.journal.specs.declared.page.note.Note.{Note}
use Rattle.journal.proofs.Fronts.{slice_within}
use Rattle.store_folder.proofs.Growth.{text_long}

ends_within : (text : List ℕ) (till end : ℕ) (sum : List ℕ) → 65 ≤ till → end ≤ till
    → ends_by (take till text) end sum ≡ ends_by text end sum
ends_within text till end sum long le =
    ap (λ (t : List ℕ). bytes_eq t (35 ∷ sum))
    (slice_within till (end - 83) 65 text (omega (arith, long, le)))

-- it is looked for in the text up to the end of the groups
pub found_before : (first text : List ℕ) (groups : List (List (List ℕ))) (till : ℕ) (note : Note)
    → till ≤ length text → take till text ≡ journal_text first groups
    → is_found note text till
    ≡ is_found note (journal_text first groups) (journal_end first groups)
found_before first text groups till note within is =
    let size : till ≡ journal_end first groups =
    sym (length-take-le till text within) ∙ ap length is in
    let front : is_found note text till ≡ is_found note (take till text) till =
    elim (cases_Bool (note.end == 0)) [
      | inl none ↦ rw none refl
      | inr some ↦ elim (cases_Bool (nat_le note.end till)) [
        | inl near ↦
            let le : note.end ≤ till = grind (arith, nat_tests, near) in
            rw (some, near) (sym (ends_within text till note.end note.sum
            (long first groups till size note.end le some) le))
        | inr far ↦ rw (some, far) refl
      ]
    ] in
    front ∙ ap (λ (t : List ℕ). is_found note t till) is
    ∙ ap (is_found note (journal_text first groups)) size
  where
    nothing : (n : ℕ) → n ≡ 0 → (n == 0) ≡ true
    nothing n is = ap (λ (k : ℕ). k == 0) is

    long : (first : List ℕ) (groups : List (List (List ℕ))) (till : ℕ)
        → till ≡ journal_end first groups → (end : ℕ) → end ≤ till → (end == 0) ≡ false
        → 65 ≤ till
    long first groups till size end le some = elim (text_long first groups) [
      | inl empty ↦
          let zero_long = ap length empty in
          absurd (false≢true (sym some ∙ nothing end (omega (arith, le, size, zero_long))))
      | inr all ↦ omega (arith, all, size)
    ]
