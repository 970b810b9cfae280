-- What a start finds in two files.
use Rattle.std.proofs.Common.{◌≡◌, ◌⊎◌, ◌∙◌, ap, sym, refl, subst, ℕ, ◌++◌, List, [], ◌∷◌, take, drop, Bool, true, false, inl, inr, Option, Some, None}
use Rattle.journal.specs.Reading.{Found, found, sound}
use Rattle.journal.specs.Head.{believed}
use Rattle.journal.specs.Groups.{added}
use Rattle.journal.specs.Selector.{other_counts, AllSelect}
use Rattle.journal.specs.Text.{sum_of, place_text}
use Rattle.journal.specs.Notes.{first_sum}
use Rattle.journal.specs.declared.page.note.Note.{Note}
use Rattle.line_loop.specs.Runs.{FindsOnly, FindsEither}
use Rattle.line_loop.specs.JournalLines.{lines_of}
use Rattle.store_folder.specs.Folders.{Belongs, FindsIn, Finds, Tells, Left, MayTell}
use Rattle.store_folder.proofs.Growth.{found_more}

-- ---- one pair of files has one finding

one_first : (a b : Note) → b.identity ≡ a.identity → b.generation ≡ a.generation
    → first_sum b ≡ first_sum a
one_first a b store file =
    ap (λ (id : List ℕ). sum_of (id ++ place_text b.generation)) store
    ∙ ap (λ (n : ℕ). sum_of (a.identity ++ place_text n)) file

pub one_finding : (page text other : List ℕ) (lines more : List (List ℕ))
    → FindsIn page text other lines → FindsIn page text other more → more ≡ lines
one_finding page text other lines more one two =
    let same = one.belongs.one.counts two.card two.belongs.is two.belongs.stands in
    let first = one_first one.card two.card same.0 same.1 in
    let groups : two.groups ≡ one.groups = ap (λ (f : Found). f.groups) (sym two.sound
    ∙ ap (λ (s : List ℕ). found s text) first ∙ one.sound) in
    sym two.has ∙ ap lines_of groups ∙ one.has

-- so a start finds these lines
pub tells_these : (first second : List ℕ) (lines : List (List ℕ)) → Finds first second lines
    → (told : Option (List (List ℕ))) → Tells first second told → told ≡ Some lines
tells_these first second lines finds (Some others) tells =
    ap (λ (ls : List (List ℕ)). Some ls) (one_finding _ _ _ lines others finds tells)
tells_these first second lines finds None tells = absurd (tells lines finds)

-- ---- what is left is found

-- the file that counts, and one that belongs to it
pub finds_in : (page : List ℕ) (card : Note) (groups : List (List (List ℕ))) (a b : List ℕ)
    → take 4096 (believed a) ≡ page → Belongs page (believed b) card groups
    → found (first_sum card) (drop 4096 (believed a)) ≡ sound groups
    → FindsIn (take 4096 (believed a)) (drop 4096 (believed a)) (believed b) (lines_of groups)
finds_in page card groups a b paged belongs read = record {
  card = card;
  groups = groups;
  belongs = subst (λ (p : List ℕ). Belongs p (believed b) card groups) (sym paged) belongs;
  sound = read;
  has = refl;
}

-- the files in their order
pub either_in : (is_second : Bool) (counts other : List ℕ → Type 0) (lines more : List (List ℕ))
    → ((a : List ℕ) → counts a → is_second ≡ false → other_counts a ≡ false)
    → (is_second ≡ true → AllSelect true other)
    → (first second : List ℕ) → Left is_second counts other first second
    → ((a b : List ℕ) → counts a → other b
    → FindsIn (take 4096 (believed a)) (drop 4096 (believed a)) (believed b) lines
    ⊎ FindsIn (take 4096 (believed a)) (drop 4096 (believed a)) (believed b) more)
    → Finds first second lines ⊎ Finds first second more
either_in true counts other lines more active chosen first second left each =
    rw ((chosen refl first left.0).selector) (each second first left.1 left.0)
either_in false counts other lines more active chosen first second left each =
    rw (active first left.0 refl) (each first second left.0 left.1)

pub in_order : (is_second : Bool) (counts other : List ℕ → Type 0) (lines : List (List ℕ))
    → ((a : List ℕ) → counts a → is_second ≡ false → other_counts a ≡ false)
    → (is_second ≡ true → AllSelect true other)
    → (first second : List ℕ) → Left is_second counts other first second
    → ((a b : List ℕ) → counts a → other b
    → FindsIn (take 4096 (believed a)) (drop 4096 (believed a)) (believed b) lines)
    → Finds first second lines
in_order true counts other lines active chosen first second left each =
    rw ((chosen refl first left.0).selector) (each second first left.1 left.0)
in_order false counts other lines active chosen first second left each =
    rw (active first left.0 refl) (each first second left.0 left.1)

module _ (page : List ℕ) (card : Note) (is_second : Bool) (counts other : List ℕ → Type 0)
    (paged : (a : List ℕ) → counts a → take 4096 (believed a) ≡ page)
    (active : (a : List ℕ) → counts a → is_second ≡ false → other_counts a ≡ false)
    (chosen : is_second ≡ true → AllSelect true other) where
  -- whatever a crash leaves, a start finds these lines
  pub tells_only : (groups : List (List (List ℕ))) (kept : List (List ℕ))
      → ((b : List ℕ) → other b → Belongs page (believed b) card groups)
      → ((a : List ℕ) → counts a → found (first_sum card) (drop 4096 (believed a)) ≡ sound groups)
      → lines_of groups ≡ kept → FindsOnly kept (MayTell is_second counts other)
  tells_only groups kept belongs read has told may =
      tells_these may.0 may.1 (lines_of groups)
      (in_order is_second counts other (lines_of groups) active chosen may.0 may.1 may.2
      (λ a b here there. finds_in page card groups a b (paged a here) (belongs b there)
      (read a here))) told may.3
      ∙ ap (λ (ls : List (List ℕ)). Some ls) has

  -- where a write was cut short, those or more are
  pub tells_either : (groups mores : List (List (List ℕ))) (kept more : List (List ℕ))
      → ((b : List ℕ) → other b → Belongs page (believed b) card groups)
      → ((b : List ℕ) → other b → Belongs page (believed b) card mores)
      → ((a : List ℕ) → counts a
      → (found (first_sum card) (drop 4096 (believed a)) ≡ sound groups)
      ⊎ (found (first_sum card) (drop 4096 (believed a)) ≡ sound mores))
      → lines_of groups ≡ kept → lines_of mores ≡ more
      → FindsEither kept more (MayTell is_second counts other)
  tells_either groups mores kept more belongs belong read has have told may =
      elim (either_in is_second counts other (lines_of groups) (lines_of mores) active chosen
      may.0 may.1 may.2
      (λ a b here there. elim (read a here) [
        | inl before ↦ inl (finds_in page card groups a b (paged a here) (belongs b there) before)
        | inr now ↦ inr (finds_in page card mores a b (paged a here) (belong b there) now)
      ])) [
        | inl before ↦ inl (tells_these may.0 may.1 (lines_of groups) before told may.3
            ∙ ap (λ (ls : List (List ℕ)). Some ls) has)
        | inr now ↦ inr (tells_these may.0 may.1 (lines_of mores) now told may.3
            ∙ ap (λ (ls : List (List ℕ)). Some ls) have)
      ]

-- ---- more groups

pub belongs_more : (page other : List ℕ) (card : Note) (groups : List (List (List ℕ)))
    (lines : List (List ℕ)) → Belongs page other card groups
    → Belongs page other card (added groups lines)
belongs_more page other card groups [] belongs = belongs
belongs_more page other card groups (line ∷ lines) belongs = record {
  is = belongs.is;
  stands = belongs.stands;
  one = belongs.one;
  kept = λ note read now. found_more (first_sum card) groups ((line ∷ lines) ∷ []) note
      (belongs.kept note read now);
}
