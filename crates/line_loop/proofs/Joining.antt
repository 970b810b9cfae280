-- On two calls of a run, one behind the other: they are what one call is.
use Rattle.std.proofs.Common.{◌≡◌, ◌∙◌, ap, sym, subst, ℕ, ◌+◌, List, [], ◌++◌, length, take, Bool, true, false, append_assoc, refl, Option, Some}
use Rattle.std.proofs.Math.Seq.{take-append-add}
use Rattle.std.specs.Io.KnownBytes.{Appends}
use Rattle.line_loop.specs.Reads.{heard_whole, next_piece, heard_till, piece_till}
use Rattle.line_loop.specs.Runs.{Entry, asked, replies, accepted, Start, Survives, Kept, Answers}
use Rattle.line_loop.specs.Laws.{goes_on}
use Rattle.line_loop.proofs.Taking.{trace-append, asked-append, replies-append, accepted-append}
use Rattle.line_loop.proofs.Reading.{Consumes-append}
use Rattle.line_loop.proofs.Writers.{Appends-append}
use Rattle.line_loop.proofs.Cutting.{heard_on, whole_heard_on, next_piece_on}

-- what both read behind the piece of the first
both_read : (begun one other : List ℕ) → begun ++ (one ++ other) ≡ (begun ++ one) ++ other
both_read begun one other = sym (append_assoc begun one other)

-- what is heard of a text that is cut
heard_till_on : (at_end : Bool) (text more : List ℕ)
    → heard_till at_end (text ++ more) ≡ heard_whole text ++ heard_till at_end
    (next_piece text ++ more)
heard_till_on true text more = heard_on text more
heard_till_on false text more = whole_heard_on text more

piece_till_on : (at_end : Bool) (text more : List ℕ)
    → piece_till at_end (text ++ more) ≡ piece_till at_end (next_piece text ++ more)
piece_till_on true text more = refl
piece_till_on false text more = next_piece_on text more

module _ {S : Type 0} (steps : S → List ℕ → List ℕ → Bool → S → Type 0) (start : Start S) (mid : S)
    (contents : Option (List ℕ)) (piece : List ℕ) (left : Option (List ℕ)) (holds : List (List ℕ)
    → List (List ℕ) → Type 0)
    (one : Answers steps start false mid contents piece left holds) where
  -- the lines of both
  pub asks_both : (at_end : Bool) (read : List ℕ)
      → heard_whole (start.begun ++ one.read) ++ heard_till at_end (piece ++ read)
      ≡ heard_till at_end (start.begun ++ (one.read ++ read))
  asks_both at_end read =
      ap (λ (t : List ℕ). heard_whole (start.begun ++ one.read) ++ heard_till at_end (t ++ read))
      one.next
      ∙ sym (heard_till_on at_end (start.begun ++ one.read) read)
      ∙ ap (heard_till at_end) (sym (both_read start.begun one.read read))

  -- the lines that are kept then
  kept_both : (trace : List Entry)
      → (start.kept ++ accepted one.trace) ++ accepted trace
      ≡ start.kept ++ accepted (one.trace ++ trace)
  kept_both trace =
      append_assoc start.kept (accepted one.trace) (accepted trace)
      ∙ ap (λ (ls : List (List ℕ)). start.kept ++ ls) (sym (accepted-append one.trace trace))

  -- the second stopped, or went to the end
  pub answers_both : (at_end : Bool) (to : S) (contents2 : Option (List ℕ)) (piece2 : List ℕ)
      (left2 : Option (List ℕ))
      (holds2 : List (List ℕ) → List (List ℕ) → Type 0)
      → Answers steps
      (goes_on start mid contents piece left one.trace) at_end to contents2 piece2 left2 holds2
      → Answers steps start at_end to contents2 piece2 left2 holds2
  answers_both at_end to contents2 piece2 left2 holds2 other = record {
    trace = one.trace ++ other.trace;
    goes = trace-append steps start.service mid to one.trace other.trace one.goes other.goes;
    read = one.read ++ other.read;
    consumes = Consumes-append start.unread left left2 one.read other.read
        one.consumes other.consumes;
    asks = asked-append one.trace other.trace
        ∙ ap (λ (ls : List (List ℕ)). ls ++ asked other.trace) one.asks
        ∙ ap (λ (ls : List (List ℕ)). heard_whole (start.begun ++ one.read) ++ ls) other.asks
        ∙ asks_both at_end other.read;
    next = other.next
        ∙ ap (λ (t : List ℕ). piece_till at_end (t ++ other.read)) one.next
        ∙ sym (piece_till_on at_end (start.begun ++ one.read) other.read)
        ∙ ap (piece_till at_end) (sym (both_read start.begun one.read other.read));
    has = subst (λ (ls : List (List ℕ)). holds2 ls []) (kept_both other.trace) other.has;
    wrote = subst (λ (t : List ℕ). Appends start.held contents2 t)
        (sym (replies-append one.trace other.trace))
        (Appends-append start.held contents contents2 (replies one.trace) (replies other.trace)
        one.wrote other.wrote);
  }

  -- the replies of the first call are the first ones of both
  pub first_answered : (trace : List Entry) (written : List ℕ) (bytes : ℕ)
      → written ≡ take bytes (replies trace)
      → replies one.trace ++ written
      ≡ take (length (replies one.trace) + bytes) (replies (one.trace ++ trace))
  first_answered trace written bytes answers =
      let said = replies one.trace in
      ap (λ (t : List ℕ). said ++ t) answers
      ∙ sym (take-append-add said (replies trace) bytes)
      ∙ ap (take (length said + bytes)) (sym (replies-append one.trace trace))

  -- whatever the second does, a start finds what the first did and a front of the second
  pub kept_both_calls : (contents2 left2 : Option (List ℕ))
      (finds2 : Option (List (List ℕ)) → Type 0)
      → Kept steps (goes_on start mid contents piece left one.trace) contents2 left2 finds2
      → Kept steps start contents2 left2 finds2
  kept_both_calls contents2 left2 finds2 other = record {
    trace = one.trace ++ other.trace;
    to = other.to;
    goes = trace-append steps start.service mid other.to one.trace other.trace one.goes other.goes;
    read = one.read ++ other.read;
    consumes = Consumes-append start.unread left left2 one.read other.read one.consumes
        other.consumes;
    later = other.later;
    asks = sym (asks_both true other.read)
        ∙ ap (λ (ls : List (List ℕ)). heard_whole (start.begun ++ one.read) ++ ls) other.asks
        ∙ ap (λ (ls : List (List ℕ)). ls ++ (asked other.trace ++ other.later)) (sym one.asks)
        ∙ sym (append_assoc (asked one.trace) (asked other.trace) other.later)
        ∙ ap (λ (ls : List (List ℕ)). ls ++ other.later) (sym (asked-append one.trace other.trace));
    written = replies one.trace ++ other.written;
    wrote = Appends-append start.held contents contents2 (replies one.trace) other.written
        one.wrote other.wrote;
    bytes = length (replies one.trace) + other.bytes;
    answers = first_answered other.trace other.written other.bytes other.answers;
    crash = λ found may.
        let s : Survives (start.kept ++ accepted one.trace) other.trace other.written found =
        other.crash found may in
        record {
          front = one.trace ++ s.front;
          rest = s.rest;
          is = ap (λ (es : List Entry). one.trace ++ es) s.is
              ∙ sym (append_assoc one.trace s.front s.rest);
          lines = s.lines ∙ ap (λ (ls : List (List ℕ)). Some ls) (kept_both s.front);
          bytes = length (replies one.trace) + s.bytes;
          answers = first_answered s.front other.written s.bytes s.answers;
        };
  }
