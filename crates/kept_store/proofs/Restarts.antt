-- A next start finds what was answered.
use Rattle.std.proofs.Common.{◌≡◌, ◌∙◌, ap, refl, sym, subst, ℕ, ◌+◌, List, [], ◌∷◌, ◌++◌, length, true, false, Option, append_assoc}
use Rattle.meta_types.specs.Rows.{State, empty_store}
use Rattle.line_loop.specs.Runs.{Entry, asked, replies, accepted, Trace, Start, Kept, Survives, Answers}
use Rattle.line_loop.specs.Reads.{heard, heard_whole}
use Rattle.line_loop.specs.Laws.{goes_on}
use Rattle.line_loop.proofs.Taking.{asked-append, trace-append}
use Rattle.line_loop.proofs.Reading.{Consumes-append}
use Rattle.line_loop.proofs.Writers.{Appends-append}
use Rattle.line_loop.proofs.Joining.{asks_both, first_answered}
use Rattle.kept_store.specs.Replays.{store_after, StepsOf, KeepsLines}
use Rattle.kept_store.specs.Restarts.{FindsAgain, KeepsStore}
use Rattle.kept_store.proofs.Replayed.{store_after-append, runs_replay}

-- where a run was after its first entries
record Middle {S : Type 0} (steps : StepsOf S) (from : S) (front : List Entry) : Type 0 where
  pub middle : S
  pub goes : Trace steps from front middle

module _ {S : Type 0} (steps : StepsOf S) (store_of : S → State)
    (keeps : KeepsLines steps store_of) where
  trace-front : (from to : S) (front rest : List Entry) → Trace steps from (front ++ rest) to
      → Middle steps from front
  trace-front from to [] rest goes = record { middle = from; goes = refl }
  trace-front from to (entry ∷ front) rest goes =
      let more = trace-front goes.0 to front rest goes.2 in
      record { middle = more.middle; goes = (goes.0, goes.1, more.goes) }

  finds_again : (start : Start S) (contents left : Option (List ℕ))
      (finds : Option (List (List ℕ)) → Type 0)
      → store_of start.service ≡ store_after empty_store start.kept
      → Kept steps start contents left finds
      → (found : Option (List (List ℕ))) → finds found
      → FindsAgain steps store_of start contents left found
  finds_again start contents left finds replayed kept found may =
      let s : Survives start.kept kept.trace kept.written found = kept.crash found may in
      let split = trace-front start.service kept.to s.front s.rest
      (subst (λ (es : List Entry). Trace steps start.service es kept.to) s.is kept.goes) in
      record {
        lines = start.kept ++ accepted s.front;
        sound = s.lines;
        front = s.front;
        middle = split.middle;
        goes = split.goes;
        finds = store_after-append empty_store start.kept (accepted s.front)
            ∙ ap (λ (t : State). store_after t (accepted s.front)) (sym replayed)
            ∙ sym (runs_replay steps store_of keeps start.service split.middle s.front split.goes);
        read = kept.read;
        consumes = kept.consumes;
        later = asked s.rest ++ kept.later;
        asks = kept.asks
            ∙ ap (λ (es : List Entry). asked es ++ kept.later) s.is
            ∙ ap (λ (ls : List (List ℕ)). ls ++ kept.later) (asked-append s.front s.rest)
            ∙ append_assoc (asked s.front) (asked s.rest) kept.later;
        written = kept.written;
        wrote = kept.wrote;
        bytes = s.bytes;
        answers = s.answers;
      }

  -- what survives is found again, where the store was the one of its log's lines
  pub keeps_store : (start : Start S) (contents left : Option (List ℕ))
      (finds : Option (List (List ℕ)) → Type 0) → Kept steps start contents left finds
      → KeepsStore steps store_of start contents left finds
  keeps_store start contents left finds kept =
      (kept, λ replayed found may. finds_again start contents left finds replayed kept found may)

  -- what a call stopped with is found behind what it did
  pub finds_both : (start : Start S) (mid : S) (contents : Option (List ℕ))
      (piece : List ℕ) (left : Option (List ℕ)) (holds : List (List ℕ) → List (List ℕ) → Type 0)
      → (one : Answers steps start false mid contents piece left holds)
      → (contents2 left2 : Option (List ℕ)) (found : Option (List (List ℕ)))
      → FindsAgain steps store_of (goes_on start mid contents piece left one.trace) contents2 left2
      found
      → FindsAgain steps store_of start contents2 left2 found
  finds_both start mid contents piece left holds one contents2 left2 found other = record {
    lines = other.lines;
    sound = other.sound;
    front = one.trace ++ other.front;
    middle = other.middle;
    goes = trace-append steps start.service mid other.middle one.trace other.front one.goes
        other.goes;
    finds = other.finds;
    read = one.read ++ other.read;
    consumes = Consumes-append start.unread left left2 one.read other.read one.consumes
        other.consumes;
    later = other.later;
    asks = sym (asks_both steps start mid contents piece left holds one true other.read)
        ∙ ap (λ (ls : List (List ℕ)). heard_whole (start.begun ++ one.read) ++ ls) other.asks
        ∙ ap (λ (ls : List (List ℕ)). ls ++ (asked other.front ++ other.later)) (sym one.asks)
        ∙ sym (append_assoc (asked one.trace) (asked other.front) other.later)
        ∙ ap (λ (ls : List (List ℕ)). ls ++ other.later) (sym (asked-append one.trace other.front));
    written = replies one.trace ++ other.written;
    wrote = Appends-append start.held contents contents2 (replies one.trace) other.written
        one.wrote other.wrote;
    bytes = length (replies one.trace) + other.bytes;
    answers = first_answered steps start mid contents piece left holds one other.front
        other.written other.bytes other.answers;
  }
