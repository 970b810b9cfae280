-- On runs of a service, one behind the other, and what a start finds of them.
use Rattle.std.proofs.Common.{◌≡◌, ◌∙◌, ap, refl, sym, subst, ℕ, ◌+◌, List, [], ◌∷◌, ◌++◌, length, take, Bool, true, false, Option, Some, append_assoc, arith}
use Rattle.std.proofs.lemmas.List.{append-nil, take_all}
use Rattle.std.proofs.Math.Seq.{take-append-add}
use Rattle.std.specs.Io.KnownBytes.{Appends}
use Rattle.line_loop.specs.Reads.{heard, heard_whole, next_piece, heard_till, piece_till}
use Rattle.line_loop.specs.Runs.{Entry, if_changed, asked, replies, accepted, Trace, Start, from, Kept, Survives, Answers}
use Rattle.line_loop.proofs.Taking.{trace-append, asked-append, replies-append}
use Rattle.line_loop.proofs.Reading.{Consumes-none, Consumes-append}
use Rattle.line_loop.proofs.Writers.{Appends-none, Appends-append}
use Rattle.line_loop.proofs.Cutting.{heard_on, whole_heard_on, next_piece_on}
use Rattle.store_folder.specs.Serves.{MakesStep, Restores, Goes}

abbrev Lines : Type 0
Lines = List (List ℕ)

-- what is heard of a text that is cut
heard_cut : (at_end : Bool) (text more : List ℕ) → heard_till at_end (text ++ more)
    ≡ heard_whole text ++ heard_till at_end (next_piece text ++ more)
heard_cut true text more = heard_on text more
heard_cut false text more = whole_heard_on text more

-- and the piece that is kept then
piece_cut : (at_end : Bool) (text more : List ℕ)
    → piece_till at_end (text ++ more) ≡ piece_till at_end (next_piece text ++ more)
piece_cut true text more = refl
piece_cut false text more = next_piece_on text more

-- a text is the whole of its front
all_of_it : (text : List ℕ) → text ≡ take (length text) text
all_of_it text = sym (take_all (length text) text (omega arith))

module _ {S : Type 0} (steps : S → List ℕ → List ℕ → Bool → S → Type 0) where
  -- where a run was after its first entries
  record Middle (from : S) (front : List Entry) : Type 0 where
    pub middle : S
    pub goes : Trace steps from front middle

  trace-front : (from to : S) (front rest : List Entry) → Trace steps from (front ++ rest) to
      → Middle from front
  trace-front from to [] rest goes = record { middle = from; goes = refl }
  trace-front from to (entry ∷ front) rest goes =
      let more = trace-front goes.0 to front rest goes.2 in
      record { middle = more.middle; goes = (goes.0, goes.1, more.goes) }

  -- ---- what was answered

  -- nothing yet
  pub goes_none : (start : Start S)
      → Goes steps start start.service start.held start.begun start.unread
  goes_none start = record {
    trace = [];
    goes = refl;
    read = [];
    consumes = Consumes-none start.unread;
    hears = λ at_end more. refl;
    next = λ at_end more. refl;
    wrote = Appends-none start.held;
  }

  -- a run that stopped between two reads
  pub goes_run : (service to : S) (kept none : Lines) (held contents : Option (List ℕ))
      (begun piece : List ℕ) (unread left : Option (List ℕ)) (holds : Lines → Lines → Type 0)
      → Answers steps (from service kept held begun unread) false to contents piece left holds
      → Goes steps (from service none held begun unread) to contents piece left
  goes_run service to kept none held contents begun piece unread left holds run = record {
    trace = run.trace;
    goes = run.goes;
    read = run.read;
    consumes = run.consumes;
    hears = λ at_end more.
        ap (heard_till at_end) (sym (append_assoc begun run.read more))
        ∙ heard_cut at_end (begun ++ run.read) more
        ∙ ap (λ (ls : Lines). ls ++ heard_till at_end (next_piece (begun ++ run.read) ++ more))
        (sym run.asks)
        ∙ ap (λ (t : List ℕ). asked run.trace ++ heard_till at_end (t ++ more)) (sym run.next);
    next = λ at_end more.
        ap (piece_till at_end) (sym (append_assoc begun run.read more))
        ∙ piece_cut at_end (begun ++ run.read) more
        ∙ ap (λ (t : List ℕ). piece_till at_end (t ++ more)) (sym run.next);
    wrote = run.wrote;
  }

  -- what was answered, as of a run that began with other lines
  pub answers_as : (service to : S) (kept none : Lines) (at_end : Bool)
      (held contents : Option (List ℕ)) (begun piece : List ℕ) (unread left : Option (List ℕ))
      (holds so : Lines → Lines → Type 0)
      → (run : Answers steps (from service kept held begun unread) at_end to contents piece left
      holds)
      → so (none ++ accepted run.trace) []
      → Answers steps (from service none held begun unread) at_end to contents piece left so
  answers_as service to kept none at_end held contents begun piece unread left holds so run has =
      record {
        trace = run.trace;
        goes = run.goes;
        read = run.read;
        consumes = run.consumes;
        asks = run.asks;
        next = run.next;
        has = has;
        wrote = run.wrote;
      }

  -- ---- one part behind another

  module _ (start : Start S) (mid : S) (none : Lines) (held : Option (List ℕ)) (piece : List ℕ)
      (unread : Option (List ℕ)) (one : Goes steps start mid held piece unread) where
    pub goes_both : (to : S) (contents : Option (List ℕ)) (piece2 : List ℕ)
        (left : Option (List ℕ))
        → Goes steps (from mid none held piece unread) to contents piece2 left
        → Goes steps start to contents piece2 left
    goes_both to contents piece2 left two = record {
      trace = one.trace ++ two.trace;
      goes = trace-append steps start.service mid to one.trace two.trace one.goes two.goes;
      read = one.read ++ two.read;
      consumes = Consumes-append start.unread unread left one.read two.read one.consumes
          two.consumes;
      hears = λ at_end more.
          ap (λ (t : List ℕ). heard_till at_end (start.begun ++ t))
          (append_assoc one.read two.read more)
          ∙ one.hears at_end (two.read ++ more)
          ∙ ap (λ (ls : Lines). asked one.trace ++ ls) (two.hears at_end more)
          ∙ sym (append_assoc (asked one.trace) (asked two.trace)
          (heard_till at_end (piece2 ++ more)))
          ∙ ap (λ (ls : Lines). ls ++ heard_till at_end (piece2 ++ more))
          (sym (asked-append one.trace two.trace));
      next = λ at_end more.
          ap (λ (t : List ℕ). piece_till at_end (start.begun ++ t))
          (append_assoc one.read two.read more)
          ∙ one.next at_end (two.read ++ more)
          ∙ two.next at_end more;
      wrote = subst (λ (t : List ℕ). Appends start.held contents t)
          (sym (replies-append one.trace two.trace))
          (Appends-append start.held held contents (replies one.trace) (replies two.trace)
          one.wrote two.wrote);
    }

    pub answers_both : (at_end : Bool) (to : S) (contents : Option (List ℕ)) (piece2 : List ℕ)
        (left : Option (List ℕ)) (P : Type 0)
        → Answers steps (from mid none held piece unread) at_end to contents piece2 left
        (λ (ls ws : Lines). P)
        → Answers steps start at_end to contents piece2 left (λ (ls ws : Lines). P)
    answers_both at_end to contents piece2 left P two = record {
      trace = one.trace ++ two.trace;
      goes = trace-append steps start.service mid to one.trace two.trace one.goes two.goes;
      read = one.read ++ two.read;
      consumes = Consumes-append start.unread unread left one.read two.read one.consumes
          two.consumes;
      asks = asked-append one.trace two.trace
          ∙ ap (λ (ls : Lines). asked one.trace ++ ls) two.asks
          ∙ sym (one.hears at_end two.read);
      next = two.next ∙ sym (one.next at_end two.read);
      has = two.has;
      wrote = subst (λ (t : List ℕ). Appends start.held contents t)
          (sym (replies-append one.trace two.trace))
          (Appends-append start.held held contents (replies one.trace) (replies two.trace)
          one.wrote two.wrote);
    }

    pub restores_both : (makes : S → Lines → Type 0) (contents left : Option (List ℕ))
        (found : Option Lines)
        → Restores steps makes (from mid none held piece unread) contents left found
        → Restores steps makes start contents left found
    restores_both makes contents left found two = record {
      lines = two.lines;
      sound = two.sound;
      front = one.trace ++ two.front;
      middle = two.middle;
      goes = trace-append steps start.service mid two.middle one.trace two.front one.goes two.goes;
      finds = two.finds;
      read = one.read ++ two.read;
      consumes = Consumes-append start.unread unread left one.read two.read one.consumes
          two.consumes;
      later = two.later;
      asks = one.hears true two.read
          ∙ ap (λ (ls : Lines). asked one.trace ++ ls) two.asks
          ∙ sym (append_assoc (asked one.trace) (asked two.front) two.later)
          ∙ ap (λ (ls : Lines). ls ++ two.later) (sym (asked-append one.trace two.front));
      written = replies one.trace ++ two.written;
      wrote = Appends-append start.held held contents (replies one.trace) two.written
          one.wrote two.wrote;
      bytes = length (replies one.trace) + two.bytes;
      answers = ap (λ (t : List ℕ). replies one.trace ++ t) two.answers
          ∙ sym (take-append-add (replies one.trace) (replies two.front) two.bytes)
          ∙ ap (take (length (replies one.trace) + two.bytes))
          (sym (replies-append one.trace two.front));
    }

  -- ---- what a start finds

  module _ (makes : S → Lines → Type 0) where
    -- what made the service makes it with the lines accepted since
    pub makes_on : MakesStep steps makes → (from to : S) (lines : Lines) (entries : List Entry)
        → Trace steps from entries to → makes from lines → makes to (lines ++ accepted entries)
    makes_on each from to lines [] goes made =
        subst (λ (s : S). makes s (lines ++ [])) goes
        (subst (λ (ls : Lines). makes from ls) (sym (append-nil lines)) made)
    makes_on each from to lines (entry ∷ entries) goes made =
        subst (λ (ls : Lines). makes to ls)
        (append_assoc lines (if_changed entry.changes entry.line) (accepted entries))
        (makes_on each goes.0 to (lines ++ if_changed entry.changes entry.line) entries goes.2
        (each from goes.0 lines entry.line entry.reply entry.changes goes.1 made))

    -- of a run, whatever ended it
    pub restores_kept : MakesStep steps makes → (service : S) (kept none : Lines)
        (held contents : Option (List ℕ)) (begun : List ℕ) (unread left : Option (List ℕ))
        (finds : Option Lines → Type 0) → makes service kept
        → Kept steps (from service kept held begun unread) contents left finds
        → (found : Option Lines) → finds found
        → Restores steps makes (from service none held begun unread) contents left found
    restores_kept each service kept none held contents begun unread left finds made run found may =
        let s : Survives kept run.trace run.written found = run.crash found may in
        let split = trace-front service run.to s.front s.rest
        (subst (λ (es : List Entry). Trace steps service es run.to) s.is run.goes) in
        record {
          lines = kept ++ accepted s.front;
          sound = s.lines;
          front = s.front;
          middle = split.middle;
          goes = split.goes;
          finds = makes_on each service split.middle kept s.front split.goes made;
          read = run.read;
          consumes = run.consumes;
          later = asked s.rest ++ run.later;
          asks = run.asks
              ∙ ap (λ (es : List Entry). asked es ++ run.later) s.is
              ∙ ap (λ (ls : Lines). ls ++ run.later) (asked-append s.front s.rest)
              ∙ append_assoc (asked s.front) (asked s.rest) run.later;
          written = run.written;
          wrote = run.wrote;
          bytes = s.bytes;
          answers = s.answers;
        }

    -- between two runs, of lines that make the service
    pub restores_here : (start : Start S) (to : S) (contents : Option (List ℕ)) (piece : List ℕ)
        (left : Option (List ℕ)) (lines : Lines) (found : Option Lines)
        → Goes steps start to contents piece left → makes to lines → found ≡ Some lines
        → Restores steps makes start contents left found
    restores_here start to contents piece left lines found one made told = record {
      lines = lines;
      sound = told;
      front = one.trace;
      middle = to;
      goes = one.goes;
      finds = made;
      read = one.read;
      consumes = one.consumes;
      later = heard (piece ++ []);
      asks = ap (λ (t : List ℕ). heard (start.begun ++ t)) (sym (append-nil one.read))
          ∙ one.hears true [];
      written = replies one.trace;
      wrote = one.wrote;
      bytes = length (replies one.trace);
      answers = all_of_it (replies one.trace);
    }

    -- at the end of what is read
    pub restores_all : (start : Start S) (to : S) (contents : Option (List ℕ)) (piece : List ℕ)
        (left : Option (List ℕ)) (holds : Lines → Lines → Type 0) (lines : Lines)
        (found : Option Lines)
        → Answers steps start true to contents piece left holds → makes to lines
        → found ≡ Some lines → Restores steps makes start contents left found
    restores_all start to contents piece left holds lines found run made told = record {
      lines = lines;
      sound = told;
      front = run.trace;
      middle = to;
      goes = run.goes;
      finds = made;
      read = run.read;
      consumes = run.consumes;
      later = [];
      asks = sym run.asks ∙ sym (append-nil (asked run.trace));
      written = replies run.trace;
      wrote = run.wrote;
      bytes = length (replies run.trace);
      answers = all_of_it (replies run.trace);
    }
