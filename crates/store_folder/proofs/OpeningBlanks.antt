-- A file that never had a whole head has no lines.
use Rattle.std.proofs.Common.{◌≡◌, ◌⊎◌, ◌∙◌, ap, sym, refl, subst, ℕ, zero, suc, ◌+◌, ◌==◌, List, [], ◌∷◌, length, take, drop, get_or, Bool, true, false, ◌||◌, ◌&&◌, inl, inr, arith, get_or-take, get_or-drop}
use Rattle.std.proofs.lemmas.Bool.Decides.{nat_tests}
use Rattle.std.proofs.lemmas.Bool.{cases_Bool, false≢true}
use Rattle.std.proofs.lemmas.List.{take_all, get_or_past}
use Rattle.journal.specs.Head.{is_pair, believed, is_head_byte, is_blank, is_blank_from}
use Rattle.journal.specs.Selector.{other_counts}
use Rattle.journal.specs.Notes.{note_text}
use Rattle.journal.proofs.NoteTexts.{length-note_text}
use Rattle.journal.proofs.Selectors.{unselected}
use Rattle.store_folder.specs.Choices.{IsChoice}
use Rattle.store_folder.specs.declared.choosing.Selection.{Selection}
use Rattle.store_folder.specs.declared.choosing.Selection.TheVariants.{Missing, Nothing}
use Rattle.store_folder.specs.Folders.{FindsOf, Finds}
use Rattle.store_folder.specs.Openings.{has_step}
use Rattle.store_folder.proofs.OpeningPages.{page_none}

-- ---- its bytes (as in journal's proofs)

both_are : (a b : Bool) → (a && b) ≡ true → (a ≡ true) × (b ≡ true)
both_are true b both = (refl, both)
both_are false b both = absurd (false≢true both)

blank_at : (at : ℕ) (file : List ℕ) (i : ℕ) → is_blank_from at file ≡ true
    → ((get_or file i 0 == 0) || is_head_byte (at + i) (get_or file i 0)) ≡ true
blank_at at [] i is =
    ap (λ (b : ℕ). (b == 0) || is_head_byte (at + i) b) (get_or_past [] i 0 (omega arith))
blank_at at (byte ∷ file) zero is =
    let here : at + 0 ≡ at = omega arith in
    ap (λ (n : ℕ). (byte == 0) || is_head_byte n byte) here
    ∙ (both_are _ (is_blank_from (suc at) file) is).0
blank_at at (byte ∷ file) (suc i) is =
    let next : at + suc i ≡ suc at + i = omega arith in
    ap (λ (n : ℕ). (get_or file i 0 == 0) || is_head_byte n (get_or file i 0)) next
    ∙ blank_at (suc at) file i (both_are _ (is_blank_from (suc at) file) is).1

is_zero : (byte : ℕ) → ((byte == 0) || ((byte == 0) || false)) ≡ true → byte ≡ 0
is_zero byte is = elim (cases_Bool (byte == 0)) [
  | inl same ↦ grind (arith, nat_tests, same)
  | inr other ↦ absurd (false≢true (rw other at is))
]

-- no step of it is believed
unstepped : (marks : List ℕ) → get_or marks 0 0 ≡ 0 → get_or marks 1 0 ≡ 0
    → has_step marks ≡ false
unstepped [] one other = refl
unstepped (x ∷ []) one other = refl
unstepped (x ∷ y ∷ marks) one other =
    ap (λ (n : ℕ). is_pair n y) one ∙ ap (λ (n : ℕ). is_pair 0 n) other

module _ (file : List ℕ) (blank : is_blank file ≡ true) where
  byte_in : (at i : ℕ) → get_or (drop at (take 8192 file)) i 0 ≡ get_or (take 8192 file) (at + i) 0
  byte_in at i = get_or-drop at (take 8192 file) i 0

  pub blank_page : [] ≡ take 4096 (believed file)
  blank_page = page_none file (take 8192 file) refl (unstepped (drop 17 (take 8192 file))
      (byte_in 17 0 ∙ get_or-take 8192 file 17 0 (omega arith)
      ∙ is_zero (get_or file 17 0) (blank_at 0 file 17 blank))
      (byte_in 17 1 ∙ get_or-take 8192 file 18 0 (omega arith)
      ∙ is_zero (get_or file 18 0) (blank_at 0 file 18 blank)))

  pub blank_selects : other_counts file ≡ false
  blank_selects = unselected file (is_zero (get_or file 4091 0) (blank_at 0 file 4091 blank))
      (is_zero (get_or file 4092 0) (blank_at 0 file 4092 blank))

-- ---- its lines

-- no card stands there
pub none_there : (file standby : List ℕ) (lines : List (List ℕ)) → [] ≡ take 4096 (believed file)
    → FindsOf (believed file) standby lines → ⊥
none_there file standby lines none finds =
    let here : take 197 [] ≡ note_text finds.card =
    ap (take 197) none ∙ finds.belongs.stands in
    let empty : take {A = ℕ} 197 [] ≡ [] = take_all 197 [] (omega arith) in
    let size = ap length (sym empty ∙ here) in
    let long = length-note_text finds.card finds.belongs.is in
    omega (arith, size, long)

pub none_first : (first second : List ℕ) (lines : List (List ℕ)) → is_blank first ≡ true
    → Finds first second lines → ⊥
none_first first second lines blank finds =
    none_there first (believed second) lines (blank_page first blank)
    (rw (blank_selects first blank) at finds)

pub none_second : (first second : List ℕ) (lines : List (List ℕ)) → other_counts first ≡ true
    → ((length second ≡ 0) ⊎ (is_blank second ≡ true)) → Finds first second lines → ⊥
none_second first second lines is none finds = elim none [
  | inl empty ↦ none_there second (believed first) lines
      (blank_page second (ap is_blank (no_bytes second empty))) (rw is at finds)
  | inr blank ↦ none_there second (believed first) lines (blank_page second blank)
      (rw is at finds)
]
  where
    no_bytes : (file : List ℕ) → length file ≡ 0 → file ≡ []
    no_bytes [] none = refl
    no_bytes (b ∷ file) none = absurd (omega (arith, none))

-- a file that has to count is missing
pub missing_none : (first second : List ℕ) (lines : List (List ℕ)) (selection : Selection)
    (is_second : Bool) → selection ≡ Missing is_second → IsChoice first second selection
    → Finds first second lines → ⊥
missing_none first second lines selection true is choice finds =
    let so : IsChoice first second (Missing true) = subst (IsChoice first second) is choice in
    none_second first second lines so.0 so.1 finds
missing_none first second lines selection false is choice finds =
    let so : IsChoice first second (Missing false) = subst (IsChoice first second) is choice in
    none_first first second lines so.0 finds

-- there is no store
pub nothing_none : (first second : List ℕ) (lines : List (List ℕ)) (selection : Selection)
    → selection ≡ Nothing → IsChoice first second selection → Finds first second lines → ⊥
nothing_none first second lines selection is choice finds =
    let so : IsChoice first second Nothing = subst (IsChoice first second) is choice in
    none_first first second lines so.0 finds
