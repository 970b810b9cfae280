-- A note that is put, whole or not.
use Rattle.std.proofs.Common.{◌≡◌, ◌⊎◌, ◌∙◌, ap, sym, refl, subst, ℕ, ◌+◌, ◌-◌, ◌≤◌, List, length, take, drop, replicate, true, inl, inr, arith, length-drop}
use Rattle.std.proofs.lemmas.Bool.{false≢true}
use Rattle.std.proofs.lemmas.List.{length-take-le, length-replicate, drop-replicate}
use Rattle.journal.specs.Text.{is_torn}
use Rattle.journal.specs.Crashes.{Only, Mixes, PutCrash, written}
use Rattle.journal.specs.Notes.{note_text, IsNote, NoteLeft}
use Rattle.journal.specs.declared.page.note.Note.{Note}
use Rattle.journal.proofs.Fronts.{written_after}
use Rattle.journal.proofs.Over.{before, behind, size, there, again}
use Rattle.journal.proofs.Groups.{over_zeros}
use Rattle.journal.proofs.NoteTexts.{length-note_text, note_is_marked}
use Rattle.journal.proofs.Recovering.{mixed_zeros, holes_length}
use Rattle.journal.proofs.Tearing.{whole_or_torn}

-- ---- what is left

module _ (at : ℕ) (put : Note) (is : IsNote put) (text : List ℕ) where
  pub none_left : (c : List ℕ) → c ≡ text → NoteLeft at put text c
  none_left c same = record {
    before = ap (take at) same;
    behind = ap (drop (at + 197)) same;
    size = ap length same;
    note = λ note its stands.
        inl (ap (λ (t : List ℕ). take 197 (drop at t)) (sym same) ∙ stands);
  }

  -- torn bytes are no note
  no_note : (note : Note) (left : List ℕ) → IsNote note → left ≡ note_text note
      → is_torn left ≡ true → ⊥
  no_note note left its same torn =
      false≢true (sym (note_is_marked note its) ∙ ap is_torn (sym same) ∙ torn)

  module _ (fits : at + 197 ≤ length text) where
    old_long : length (take 197 (drop at text)) ≡ 197
    old_long = length-take-le 197 (drop at text)
        (let back = length-drop at text in omega (arith, back, fits))

    -- zeros over what stood there
    pub blank_left : (zeros mixed c : List ℕ) → zeros ≡ replicate 197 0
        → Mixes (take (length zeros) (drop at text)) zeros mixed → c ≡ written at mixed text
        → NoteLeft at put text c
    blank_left zeros mixed c are mixes same =
        let count : length zeros ≡ 197 = ap length are ∙ length-replicate {A = ℕ} 197 0 in
        let size_is = old_long in
        let old = take 197 (drop at text) in
        let mix : Mixes old (replicate (length old) 0) mixed =
        subst (λ (n : ℕ). Mixes old (replicate n 0) mixed) (sym size_is)
        (subst (λ (z : List ℕ). Mixes old z mixed) are
        (subst (λ (n : ℕ). Mixes (take n (drop at text)) zeros mixed) count mixes)) in
        let holes = mixed_zeros old mixed mix in
        let long : length mixed ≡ 197 = holes_length old mixed holes ∙ size_is in record {
          before = ap (take at) same ∙ before text mixed at 197 long fits;
          behind = ap (drop (at + 197)) same ∙ behind text mixed at 197 long fits;
          size = ap length same ∙ size text mixed at 197 long fits;
          note = λ note its stands.
              let left : mixed ≡ note_text note = sym (there text mixed at 197 long fits)
              ∙ ap (λ (t : List ℕ). take 197 (drop at t)) (sym same) ∙ stands in
              elim (whole_or_torn old mixed holes) [
                | inl whole ↦ inl (sym whole ∙ left)
                | inr torn ↦ absurd (no_note note mixed its left torn)
              ];
        }

    -- the note over zeros
    module _ (zeros mid : List ℕ) (are : zeros ≡ replicate 197 0)
        (blank : mid ≡ written at zeros text) where
      count : length zeros ≡ 197
      count = ap length are ∙ length-replicate {A = ℕ} 197 0

      zeros_there : take 197 (drop at mid) ≡ replicate 197 0
      zeros_there = ap (λ (t : List ℕ). take 197 (drop at t)) blank
          ∙ there text zeros at 197 count fits ∙ are

      mid_fits : at + 197 ≤ length mid
      mid_fits =
          let same = ap length blank in
          let long = size text zeros at 197 count fits in
          omega (arith, same, long, fits)

      -- nothing of it was put
      pub zeros_left : (c : List ℕ) → c ≡ mid → NoteLeft at put text c
      zeros_left c same = record {
        before = ap (take at) (same ∙ blank) ∙ before text zeros at 197 count fits;
        behind = ap (drop (at + 197)) (same ∙ blank) ∙ behind text zeros at 197 count fits;
        size = ap length (same ∙ blank) ∙ size text zeros at 197 count fits;
        note = λ note its stands. absurd (no_note note (replicate 197 0) its
            (sym (ap (λ (t : List ℕ). take 197 (drop at t)) same ∙ zeros_there) ∙ stands) refl);
      }

      pub text_left : (bytes mixed c : List ℕ) → bytes ≡ note_text put
          → Mixes (take (length bytes) (drop at mid)) bytes mixed → c ≡ written at mixed mid
          → NoteLeft at put text c
      text_left bytes mixed c whole mixes same =
          let size_is : length bytes ≡ 197 = ap length whole ∙ length-note_text put is in
          let mix : Mixes (replicate (length bytes) 0) bytes mixed =
          subst (λ (n : ℕ). Mixes (replicate n 0) bytes mixed) (sym size_is)
          (subst (λ (t : List ℕ). Mixes t bytes mixed) zeros_there
          (subst (λ (n : ℕ). Mixes (take n (drop at mid)) bytes mixed) size_is mixes)) in
          let holes = over_zeros bytes mixed mix in
          let long : length mixed ≡ 197 = holes_length bytes mixed holes ∙ size_is in
          let enough = mid_fits in record {
            before = ap (take at) same ∙ before mid mixed at 197 long enough ∙ ap (take at) blank
                ∙ before text zeros at 197 count fits;
            behind = ap (drop (at + 197)) same ∙ behind mid mixed at 197 long enough
                ∙ ap (drop (at + 197)) blank ∙ behind text zeros at 197 count fits;
            size = ap length same ∙ size mid mixed at 197 long enough ∙ ap length blank
                ∙ size text zeros at 197 count fits;
            note = λ note its stands.
                let left : mixed ≡ note_text note = sym (there mid mixed at 197 long enough)
                ∙ ap (λ (t : List ℕ). take 197 (drop at t)) (sym same) ∙ stands in
                elim (whole_or_torn bytes mixed holes) [
                  | inl all ↦ inr (sym left ∙ all ∙ whole)
                  | inr torn ↦ absurd (no_note note mixed its left torn)
                ];
          }

      -- all of it was
      pub put_whole : (bytes new : List ℕ) → bytes ≡ note_text put → new ≡ written at bytes mid
          → new ≡ written at (note_text put) text
      put_whole bytes new whole same =
          same ∙ ap (written at bytes) blank
          ∙ again text zeros at 197 count fits bytes (ap length whole ∙ length-note_text put is)
          ∙ ap (λ (b : List ℕ). written at b text) whole

-- ---- a call that a crash cut short

pub either_left : (at : ℕ) (put : Note) (text mid bytes : List ℕ) (old new : List ℕ → Type 0)
    → Only mid old → ((c : List ℕ) → c ≡ mid → NoteLeft at put text c)
    → (at + length bytes ≤ length mid → (mixed c : List ℕ)
    → Mixes (take (length bytes) (drop at mid)) bytes mixed → c ≡ written at mixed mid
    → NoteLeft at put text c)
    → ((c : List ℕ) → new c → old c)
    ⊎ ((at + length bytes ≤ length mid) × PutCrash mid at bytes new) → (c : List ℕ) → new c
    → NoteLeft at put text c
either_left at put text mid bytes old new only none some crash c may = elim crash [
  | inl fewer ↦ none c (only c (fewer c may))
  | inr cut ↦ let out = cut.1 c may in some cut.0 out.0 c out.1 out.2
]

-- ---- a page over zeros

-- behind the page there are zeros still
pub blank_behind : (put : Note) → IsNote put → (old zeros new : List ℕ)
    → zeros ≡ replicate (length old) 0 → 512 + 197 ≤ length zeros
    → new ≡ written 512 (note_text put) zeros
    → drop 4096 new ≡ replicate (length (drop 4096 new)) 0
blank_behind put is old zeros new are fits same =
    let n = length old in
    let back : drop 4096 new ≡ replicate (n - 4096) 0 =
    ap (drop 4096) same
    ∙ written_after 512 4096 (note_text put) zeros (omega (arith, fits))
    (let size = length-note_text put is in omega (arith, size))
    ∙ ap (drop 4096) are ∙ drop-replicate 4096 n 0 in
    let count : length (drop 4096 new) ≡ n - 4096 = ap length back
    ∙ length-replicate {A = ℕ} (n - 4096) 0 in
    back ∙ ap (λ (k : ℕ). replicate k 0) (sym count)
