-- A journal whose lines were done again makes the store.
use Rattle.std.proofs.Common.{◌≡◌, ◌∙◌, ap, sym, ℕ, List, take, replicate}
use Rattle.std.proofs.lemmas.List.{take_at}
use Rattle.meta_types.specs.Rows.{State, empty_store}
use Rattle.journal.specs.Text.{journal_text}
use Rattle.journal.specs.Groups.{HasGroups}
use Rattle.line_loop.specs.JournalLines.{lines_of}
use Rattle.kept_store.specs.Replays.{store_after, requests_in}
use Rattle.kept_store.specs.Checkpoints.{Makes}
use Rattle.kept_store.proofs.Replayed.{requests_in-journal}

-- the lines before the end of the groups are theirs
lines_before : (text first last : List ℕ) (outcomes : List ℕ → Type 0) (end : ℕ)
    (groups : List (List (List ℕ))) → HasGroups text outcomes last end first groups
    → requests_in (take end text) ≡ lines_of groups
lines_before text first last outcomes end groups has =
    ap (λ (t : List ℕ). requests_in (take end t)) has.file
    ∙ ap requests_in (take_at (journal_text first groups) (replicate has.room 0) end (sym has.ends))
    ∙ requests_in-journal first groups has.each

-- what was read again has the groups still
pub makes_again : (first text new last : List ℕ) (outcomes left : List ℕ → Type 0) (end : ℕ)
    (groups : List (List (List ℕ))) (store other : State)
    → HasGroups text outcomes last end first groups
    → new ≡ text → ((c : List ℕ) → left c → outcomes c)
    → other ≡ store_after empty_store (requests_in (take end text)) → store ≡ other
    → Makes first new left last end store
makes_again first text new last outcomes left end groups store other has same kept done one =
    record {
      groups = groups;
      has = record {
        room = has.room;
        each = has.each;
        file = same ∙ has.file;
        sum = has.sum;
        ends = has.ends;
        durable = λ c now. has.durable c (kept c now) ∙ sym same;
      };
      makes = one ∙ done
          ∙ ap (store_after empty_store) (lines_before text first last outcomes end groups has);
    }
