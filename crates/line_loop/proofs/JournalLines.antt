-- On a journal as a log of lines.
use Rattle.std.proofs.Common.{◌≡◌, ◌∙◌, ap, sym, refl, ℕ, List, [], ◌∷◌, ◌++◌, Bool, append_assoc, Option, Some, inl, inr}
use Rattle.std.specs.Prelude.{IsTrue}
use Rattle.std.proofs.lemmas.List.{append-nil}
use Rattle.journal.specs.Text.{lines_text, AreLines, IsLine}
use Rattle.journal.specs.Reading.{found, sound}
use Rattle.journal.specs.Groups.{HasGroups, LeavesEither, added}
use Rattle.journal.proofs.Noise.{what_is_written_is_read}
use Rattle.journal.proofs.TextLines.{lines_text-append}
use Rattle.line_loop.specs.Runs.{FindsOnly, FindsEither}
use Rattle.line_loop.specs.JournalLines.{lines_of, lines_found, HasLines, MayFind}

lines_of-append : (a b : List (List (List ℕ))) → lines_of (a ++ b) ≡ lines_of a ++ lines_of b
lines_of-append [] b = refl
lines_of-append (group ∷ a) b = ap (λ (ls : List (List ℕ)). group ++ ls) (lines_of-append a b)
    ∙ sym (append_assoc group (lines_of a) (lines_of b))

-- the lines of groups to which one is added
pub lines_of-added : (groups : List (List (List ℕ))) (lines : List (List ℕ))
    → lines_of (added groups lines) ≡ lines_of groups ++ lines
lines_of-added groups [] = sym (append-nil (lines_of groups))
lines_of-added groups (line ∷ lines) = lines_of-append groups ((line ∷ lines) ∷ [])
    ∙ ap (λ (ls : List (List ℕ)). lines_of groups ++ ls) (append-nil (line ∷ lines))

-- a file that has groups is read as these
pub read_so : (first text last : List ℕ) (outcomes : List ℕ → Type 0) (end : ℕ)
    (groups : List (List (List ℕ))) → HasGroups text outcomes last end first groups
    → (c : List ℕ) → outcomes c → found first c ≡ sound groups
read_so first text last outcomes end groups has c left =
    ap (found first) (has.durable c left ∙ has.file)
    ∙ what_is_written_is_read first groups has.room has.each

-- the lines of groups that are found
pub finds_lines : (first : List ℕ) (groups : List (List (List ℕ))) (kept : List (List ℕ))
    (c : List ℕ) (lines : Option (List (List ℕ)))
    → lines_of groups ≡ kept → found first c ≡ sound groups
    → lines ≡ lines_found (found first c) → lines ≡ Some kept
finds_lines first groups kept c lines is same told =
    told ∙ ap lines_found same ∙ ap (λ (ls : List (List ℕ)). Some ls) is

-- where each crash leaves these groups, these lines are found
pub finds_only : (first : List ℕ) (groups : List (List (List ℕ))) (kept : List (List ℕ))
    (outcomes : List ℕ → Type 0)
    → lines_of groups ≡ kept
    → ((c : List ℕ) → outcomes c → found first c ≡ sound groups)
    → FindsOnly kept (MayFind first outcomes)
finds_only first groups kept outcomes is same lines may =
    finds_lines first groups kept may.0 lines is (same may.0 may.1) may.2

-- a file that has groups, and lines that wait
pub has_lines : (first : List ℕ) (clean : Bool) (text : List ℕ) (outcomes : List ℕ → Type 0)
    (last : List ℕ) (end : ℕ) (pending : List ℕ) (groups : List (List (List ℕ)))
    (kept waiting : List (List ℕ))
    → IsTrue clean → HasGroups text outcomes last end first groups → lines_of groups ≡ kept
    → AreLines waiting → pending ≡ lines_text waiting
    → HasLines first clean text outcomes last end pending kept waiting
has_lines first clean text outcomes last end pending groups kept waiting is has lines each waits =
    record {
      reads = is;
      groups = groups;
      has = has;
      is = lines;
      each = each;
      waits = waits;
      only = finds_only first groups kept outcomes lines
          (read_so first text last outcomes end groups has);
    }

-- a commit that a crash may cut short
pub finds_either : {first : List ℕ} {clean : Bool} {text : List ℕ} {outcomes : List ℕ → Type 0}
    {last : List ℕ} {end : ℕ} {pending : List ℕ} {kept waiting : List (List ℕ)}
    (new : List ℕ → Type 0)
    → (h : HasLines first clean text outcomes last end pending kept waiting)
    → LeavesEither first h.groups (added h.groups waiting) new
    → FindsEither kept (kept ++ waiting) (MayFind first new)
finds_either {first} {clean} {text} {outcomes} {last} {end} {pending} {kept} {waiting} new h either
    lines may =
    elim (either may.0 may.1) [
      | inl before ↦ inl (finds_lines first h.groups kept may.0 lines h.is before may.2)
      | inr more ↦ inr (finds_lines first (added h.groups waiting) (kept ++ waiting) may.0 lines
          (lines_of-added h.groups waiting
          ∙ ap (λ (ls : List (List ℕ)). ls ++ waiting) h.is) more may.2)
    ]

lines-both : (a b : List (List ℕ)) → AreLines a → AreLines b → AreLines (a ++ b)
lines-both [] b one other = other
lines-both (line ∷ a) b one other = (one.0, lines-both a b one.1 other)

-- a line more waits
pub one_more_waits : (waiting : List (List ℕ)) (line old new : List ℕ) → AreLines waiting
    → old ≡ lines_text waiting → IsLine line → new ≡ old ++ (line ++ 10 ∷ [])
    → AreLines (waiting ++ line ∷ []) × (new ≡ lines_text (waiting ++ line ∷ []))
one_more_waits waiting line old new each is of more = (
  lines-both waiting (line ∷ []) each (of, tt),
  more ∙ ap (λ (t : List ℕ). t ++ (line ++ 10 ∷ [])) is
      ∙ sym (lines_text-append waiting (line ∷ [])),
)
