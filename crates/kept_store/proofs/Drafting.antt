-- Groups that stand in a file, and lines that wait.
use Rattle.std.proofs.Common.{◌≡◌, ◌∙◌, ap, sym, refl, ℕ, List, [], ◌∷◌, ◌++◌, length, append_assoc}
use Rattle.journal.specs.Text.{lines_text, IsLine, AreLines}
use Rattle.journal.specs.Groups.{HasGroups, added}
use Rattle.journal.proofs.TextLines.{lines_text-append}
use Rattle.kept_store.specs.Checkpoints.{IsBlank, Drafts}

-- a blank file has no group
pub begun : (first text : List ℕ) (outcomes : List ℕ → Type 0) (last pending : List ℕ)
    → IsBlank text outcomes → last ≡ first → pending ≡ []
    → Drafts first text outcomes last 0 pending
begun first text outcomes last pending blank is none = record {
  groups = [];
  has = record {
    room = length text;
    each = tt;
    file = blank.zeros;
    sum = is;
    ends = refl;
    durable = blank.durable;
  };
  waiting = [];
  each = tt;
  waits = none;
}

lines_more : (lines : List (List ℕ)) (line : List ℕ) → AreLines lines → IsLine line
    → AreLines (lines ++ line ∷ [])
lines_more [] line all one = (one, tt)
lines_more (l ∷ lines) line all one = (all.0, lines_more lines line all.1 one)

-- one more line waits
more_waits : (first text : List ℕ) (outcomes : List ℕ → Type 0) (last : List ℕ) (end : ℕ)
    (old new line : List ℕ) → IsLine line → new ≡ (old ++ line) ++ 10 ∷ []
    → Drafts first text outcomes last end old → Drafts first text outcomes last end new
more_waits first text outcomes last end old new line one more d = record {
  groups = d.groups;
  has = d.has;
  waiting = d.waiting ++ line ∷ [];
  each = lines_more d.waiting line d.each one;
  waits = more ∙ append_assoc old line (10 ∷ [])
      ∙ ap (λ (t : List ℕ). t ++ (line ++ 10 ∷ [])) d.waits
      ∙ sym (lines_text-append d.waiting (line ∷ []));
}

module _ {Log : Type 0} (text : Log → List ℕ) (outcomes : Log → List ℕ → Type 0) where
  -- the same, where the rest of a journal is as it was
  pub pushed : (first : List ℕ) (log same : Log) (last sum : List ℕ) (end place : ℕ)
      (old new line : List ℕ)
      → same ≡ log → sum ≡ last → place ≡ end → IsLine line → new ≡ (old ++ line) ++ 10 ∷ []
      → Drafts first (text log) (outcomes log) last end old
      → Drafts first (text same) (outcomes same) sum place new
  pushed first log same last sum end place old new line logs sums places one more d =
      rw (logs, sums, places)
      (more_waits first (text log) (outcomes log) last end old new line one more d)

module _ (first text new : List ℕ) (outcomes left : List ℕ → Type 0) (last after : List ℕ)
    (end further : ℕ) where
  -- what makes room keeps the groups
  pub grown : (old pending : List ℕ) → pending ≡ old
      → ((first : List ℕ) (groups : List (List (List ℕ)))
      → HasGroups text outcomes last end first groups
      → HasGroups new left after further first groups)
      → Drafts first text outcomes last end old → Drafts first new left after further pending
  grown old pending same keeps d = record {
    groups = d.groups;
    has = keeps first d.groups d.has;
    waiting = d.waiting;
    each = d.each;
    waits = same ∙ d.waits;
  }

  -- the lines that waited are a group
  pub settled : (old pending : List ℕ) → pending ≡ []
      → ((first : List ℕ) (groups : List (List (List ℕ))) (lines : List (List ℕ))
      → HasGroups text outcomes last end first groups → AreLines lines → old ≡ lines_text lines
      → HasGroups new left after further first (added groups lines))
      → Drafts first text outcomes last end old → Drafts first new left after further pending
  settled old pending none more d = record {
    groups = added d.groups d.waiting;
    has = more first d.groups d.waiting d.has d.each d.waits;
    waiting = [];
    each = tt;
    waits = none;
  }
