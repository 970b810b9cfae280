-- On a run as one of a script.
use Rattle.std.proofs.Common.{◌≡◌, ◌∙◌, ap, sym, refl, subst, ℕ, List, [], ◌∷◌, ◌++◌, drop, map, Bool, true, false, append_assoc, inl, inr, Option}
use Rattle.std.proofs.lemmas.Bool.{cases_Bool}
use Rattle.std.proofs.lemmas.List.{take-append-drop}
use Rattle.std.specs.List.{list_any}
use Rattle.journal.specs.Text.{is_line_feed}
use Rattle.journal.specs.Reading.{whole_lines, last_piece, onto_whole}
use Rattle.journal.proofs.TextLines.{whole_lines-none, last_piece-none}
use Rattle.line_loop.specs.Reads.{cut_long, last_line, heard, heard_whole}
use Rattle.line_loop.specs.Runs.{Entry, asked, replies, Trace, Start, Kept, Answers}
use Rattle.line_loop.specs.Scripts.{onto_first, lines_of, up_to_last, AnswersLines, Exchanged, answers_by, MayRefuse}

-- ---- the lines of a text, in both words

-- where a line feed stands there is a whole line
some_whole : (bytes : List ℕ) → list_any is_line_feed bytes ≡ true
    → (line : List ℕ) × (lines : List (List ℕ)) × (whole_lines bytes ≡ line ∷ lines)
some_whole [] has = cc has
some_whole (b ∷ bytes) has = elim (cases_Bool (is_line_feed b)) [
  | inl is ↦ ([], whole_lines bytes, rw is refl)
  | inr other ↦
      let more = some_whole bytes (rw other at has) in
      (b ∷ more.0, more.1, rw other (ap (onto_whole b) more.2))
]

onto_last : (b : ℕ) (bytes : List ℕ) → onto_first b (last_line bytes) ≡ (b ∷ bytes) ∷ []
onto_last b [] = refl
onto_last b (x ∷ bytes) = refl

lines_are : (text : List ℕ) → lines_of text ≡ whole_lines text ++ last_line (last_piece text)
lines_are [] = refl
lines_are (b ∷ bytes) = elim (cases_Bool (is_line_feed b)) [
  | inl is ↦ rw is (ap (λ (ls : List (List ℕ)). [] ∷ ls) (lines_are bytes))
  | inr other ↦ elim (cases_Bool (list_any is_line_feed bytes)) [
    | inl has ↦
        let some = some_whole bytes has in
        rw (other, has) (ap (onto_first b) (lines_are bytes)
        ∙ ap (λ (ls : List (List ℕ)). onto_first b (ls ++ last_line (last_piece bytes))) some.2
        ∙ sym (ap (λ (ls : List (List ℕ)). onto_whole b ls ++ last_line (last_piece bytes)) some.2))
    | inr none ↦
        rw (other, none) (ap (onto_first b) (lines_are bytes)
        ∙ ap (λ (ls : List (List ℕ)). onto_first b (ls ++ last_line (last_piece bytes)))
        (whole_lines-none bytes none)
        ∙ ap (λ (t : List ℕ). onto_first b (last_line t)) (last_piece-none bytes none)
        ∙ onto_last b bytes
        ∙ sym (ap (λ (ls : List (List ℕ)). onto_whole b ls ++ (b ∷ bytes) ∷ [])
        (whole_lines-none bytes none)))
  ]
]

wholes_are : (text : List ℕ) → lines_of (up_to_last text) ≡ whole_lines text
wholes_are [] = refl
wholes_are (b ∷ bytes) = elim (cases_Bool (is_line_feed b)) [
  | inl is ↦ rw is (rw is (ap (λ (ls : List (List ℕ)). [] ∷ ls) (wholes_are bytes)))
  | inr other ↦ elim (cases_Bool (list_any is_line_feed bytes)) [
    | inl has ↦
        let some = some_whole bytes has in
        rw (other, has) (rw other (ap (onto_first b) (wholes_are bytes)
        ∙ ap (onto_first b) some.2 ∙ sym (ap (onto_whole b) some.2)))
    | inr none ↦ rw (other, none) (sym (ap (onto_whole b) (whole_lines-none bytes none)))
  ]
]

pub heard_are : (text : List ℕ) → heard text ≡ map cut_long (lines_of text)
heard_are text = sym (ap (map cut_long) (lines_are text))

pub heard_wholes_are : (text : List ℕ) → heard_whole text ≡ map cut_long (lines_of
    (up_to_last text))
heard_wholes_are text = sym (ap (map cut_long) (wholes_are text))

-- ---- entries as answers

module _ {S : Type 0} (steps : S → List ℕ → List ℕ → Bool → S → Type 0) where
  answered : (from to : S) (trace : List Entry) (lines : List (List ℕ)) → Trace steps from trace to
      → asked trace ≡ map cut_long lines
      → AnswersLines (answers_by steps) from lines (replies trace)
  answered from to [] [] goes asks = refl
  answered from to [] (line ∷ lines) goes asks = cc asks
  answered from to (entry ∷ trace) [] goes asks = cc asks
  answered from to (entry ∷ trace) (line ∷ lines) goes asks =
      let one : entry.line ≡ cut_long line = cc asks in
      let others : asked trace ≡ map cut_long lines = cc asks in (
        entry.reply,
        goes.0,
        (
          entry.changes,
          subst (λ (l : List ℕ). steps from l entry.reply entry.changes goes.0) one goes.1,
        ),
        replies trace,
        refl,
        answered goes.0 to trace lines goes.2 others,
      )

  all_refused : MayRefuse steps → (from : S) (lines : List (List ℕ))
      → (rest : List ℕ) × AnswersLines (answers_by steps) from lines rest
  all_refused may from [] = ([], refl)
  all_refused may from (line ∷ lines) =
      let one = may from line in
      let others = all_refused may from lines in
      (one.0 ++ others.0, (one.0, from, one.1, others.0, refl, others.1))

  begun : MayRefuse steps → (from to : S) (trace : List Entry) (later lines : List (List ℕ))
      → Trace steps from trace to → map cut_long lines ≡ asked trace ++ later
      → (rest : List ℕ) × AnswersLines (answers_by steps) from lines (replies trace ++ rest)
  begun may from to [] later lines goes asks = all_refused may from lines
  begun may from to (entry ∷ trace) later [] goes asks = cc asks
  begun may from to (entry ∷ trace) later (line ∷ lines) goes asks =
      let one : entry.line ≡ cut_long line = cc asks in
      let others : map cut_long lines ≡ asked trace ++ later = cc asks in
      let more = begun may goes.0 to trace later lines goes.2 others in (
        more.0,
        (
          entry.reply,
          goes.0,
          (
            entry.changes,
            subst (λ (l : List ℕ). steps from l entry.reply entry.changes goes.0) one goes.1,
          ),
          replies trace ++ more.0,
          append_assoc entry.reply (replies trace) more.0,
          more.1,
        ),
      )

  -- what a run that began with nothing wrote up to the end answers all lines that it read
  pub answers_all : (start : Start S) (to : S) (contents : Option (List ℕ)) (piece : List ℕ)
      (left : Option (List ℕ))
      (holds : List (List ℕ) → List (List ℕ) → Type 0)
      → start.begun ≡ [] → Answers steps start true to contents piece left holds
      → Exchanged (λ read written.
      AnswersLines (answers_by steps) start.service (lines_of read) written)
      start.unread left start.held contents
  answers_all start to contents piece left holds none a = record {
    read = a.read;
    written = replies a.trace;
    consumes = a.consumes;
    appends = a.wrote;
    is = answered start.service to a.trace (lines_of a.read) a.goes
        (a.asks ∙ ap (λ (t : List ℕ). heard (t ++ a.read)) none ∙ heard_are a.read);
  }

  -- if the reader failed, what a run that began with nothing wrote answers the whole lines that it
  -- read
  pub answers_wholes : (start : Start S) (to : S) (contents : Option (List ℕ)) (piece : List ℕ)
      (left : Option (List ℕ))
      (holds : List (List ℕ) → List (List ℕ) → Type 0)
      → start.begun ≡ [] → Answers steps start false to contents piece left holds
      → Exchanged (λ read written.
      AnswersLines (answers_by steps) start.service (lines_of (up_to_last read)) written)
      start.unread left start.held contents
  answers_wholes start to contents piece left holds none a = record {
    read = a.read;
    written = replies a.trace;
    consumes = a.consumes;
    appends = a.wrote;
    is = answered start.service to a.trace (lines_of (up_to_last a.read)) a.goes
        (a.asks ∙ ap (λ (t : List ℕ). heard_whole (t ++ a.read)) none ∙ heard_wholes_are a.read);
  }

  -- if each line may be refused, what a run that began with nothing wrote begins an answer to what
  -- it read, whatever failed
  pub answers_begin : MayRefuse steps → (start : Start S) (contents left : Option (List ℕ))
      (finds : Option (List (List ℕ)) → Type 0)
      → start.begun ≡ [] → Kept steps start contents left finds
      → Exchanged (λ read written. (rest : List ℕ)
      × AnswersLines (answers_by steps) start.service (lines_of read) (written ++ rest))
      start.unread left start.held contents
  answers_begin may start contents left finds none k =
      let more = begun may start.service k.to k.trace k.later (lines_of k.read) k.goes
      (sym (ap (λ (t : List ℕ). heard (t ++ k.read)) none ∙ heard_are k.read) ∙ k.asks) in
      let parts : replies k.trace ≡ k.written ++ drop k.bytes (replies k.trace) =
      sym (take-append-drop k.bytes (replies k.trace))
      ∙ ap (λ (t : List ℕ). t ++ drop k.bytes (replies k.trace)) (sym k.answers) in
      record {
        read = k.read;
        written = k.written;
        consumes = k.consumes;
        appends = k.wrote;
        is = (
          drop k.bytes (replies k.trace) ++ more.0,
          subst (λ (t : List ℕ). AnswersLines (answers_by steps) start.service (lines_of k.read) t)
              (ap (λ (t : List ℕ). t ++ more.0) parts
              ∙ append_assoc k.written (drop k.bytes (replies k.trace)) more.0) more.1,
        );
      }
