-- On the lines that were answered, and what a start finds of them.
use Rattle.std.proofs.Common.{◌≡◌, ◌∙◌, ap, sym, refl, subst, Option, Some, ℕ, ◌+◌, List, [], ◌∷◌, ◌++◌, length, take, Bool, false, arith, append_assoc, inl, inr}
use Rattle.std.proofs.lemmas.List.{append-nil, take_all}
use Rattle.std.proofs.Math.Seq.{take-append-add}
use Rattle.std.specs.Io.KnownBytes.{Appends, Consumes, Keeps}
use Rattle.journal.proofs.TextLines.{HasNoFeed}
use Rattle.line_loop.specs.Reads.{longer_line, heard, heard_till, piece_till, IsPiece, Reads}
use Rattle.line_loop.specs.Runs.{Entry, asked, replies, if_changed, accepted, Trace, FindsOnly, Start, Kept, Answers}
use Rattle.line_loop.specs.Progress.{Serves, Breaks, Runs}
use Rattle.line_loop.specs.Settling.{Settles}
use Rattle.line_loop.proofs.Taking.{trace-append, asked-append, replies-append, accepted-append}
use Rattle.line_loop.proofs.Reading.{Consumes-Keeps, heard_first, heard_all, heard_last, heard_whole_are, next_is, reads_begun, reads_line, reads_piece, reads_more, reads_still}
use Rattle.line_loop.proofs.Writers.{Appends-none, Appends-append}

take_whole : (text : List ℕ) → text ≡ take (length text) text
take_whole text = sym (take_all (length text) text (omega arith))

-- the front of two texts
take_front : (text more : List ℕ) → text ≡ take (length text) (text ++ more)
take_front text more =
    sym (ap (λ (n : ℕ). take n (text ++ more)) (omega arith) ∙ take-append-add text more 0
    ∙ append-nil text)

abbrev Lines : Type 0
Lines = List (List ℕ)

abbrev Holds : Type 1
Holds = Lines → Lines → Type 0

abbrev Finds : Type 1
Finds = Option Lines → Type 0

module _ {S : Type 0} (steps : S → List ℕ → List ℕ → Bool → S → Type 0) (start : Start S) where
  -- nothing was answered yet
  pub serves_none : (holds : Holds) → holds start.kept [] → (out : List ℕ) → out ≡ []
      → Serves steps start holds start.service out start.held []
  serves_none holds has out empty = record {
    settled = [];
    waiting = [];
    middle = start.service;
    goes = refl;
    more = refl;
    asks = refl;
    has = subst (λ (ls : Lines). holds ls []) (sym (append-nil start.kept)) has;
    wrote = Appends-none start.held;
    replied = empty;
  }

  -- one line more is answered
  pub serves_line : (holds next : Holds) (from to : S) (out said : List ℕ)
      (contents : Option (List ℕ)) (lines : Lines) (line reply : List ℕ) (changes : Bool)
      → Serves steps start holds from out contents lines
      → steps from line reply changes to → said ≡ out ++ reply
      → ((kept waiting : Lines) → holds kept waiting
      → next kept (waiting ++ if_changed changes line))
      → Serves steps start next to said contents (lines ++ line ∷ [])
  serves_line holds next from to out said contents lines line reply changes s step replied appends =
      let entry : Entry = record { line = line; reply = reply; changes = changes } in
      record {
        settled = s.settled;
        waiting = s.waiting ++ entry ∷ [];
        middle = s.middle;
        goes = s.goes;
        more = trace-append steps s.middle from to s.waiting (entry ∷ []) s.more (to, step, refl);
        asks = ap (λ (ls : Lines). asked s.settled ++ ls) (asked-append s.waiting (entry ∷ []))
            ∙ sym (append_assoc (asked s.settled) (asked s.waiting) (line ∷ []))
            ∙ ap (λ (ls : Lines). ls ++ line ∷ []) s.asks;
        has = subst (λ (ls : Lines). next (start.kept ++ accepted s.settled) ls)
            (ap (λ (ls : Lines). accepted s.waiting ++ ls)
            (sym (append-nil (if_changed changes line)))
            ∙ sym (accepted-append s.waiting (entry ∷ [])))
            (appends (start.kept ++ accepted s.settled) (accepted s.waiting) s.has);
        wrote = s.wrote;
        replied = replied ∙ ap (λ (n : List ℕ). n ++ reply) s.replied
            ∙ ap (λ (r : List ℕ). replies s.waiting ++ r) (sym (append-nil reply))
            ∙ sym (replies-append s.waiting (entry ∷ []));
      }

  -- the replies that wait, in other words
  pub serves_put : (holds : Holds) (to : S) (out out2 : List ℕ) (contents : Option (List ℕ))
      (lines : Lines)
      → Serves steps start holds to out contents lines → out2 ≡ out
      → Serves steps start holds to out2 contents lines
  serves_put holds to out out2 contents lines s same = record {
    settled = s.settled;
    waiting = s.waiting;
    middle = s.middle;
    goes = s.goes;
    more = s.more;
    asks = s.asks;
    has = s.has;
    wrote = s.wrote;
    replied = same ∙ s.replied;
  }

  -- the lines that are kept then
  kept_all : (settled waiting : List Entry)
      → (start.kept ++ accepted settled) ++ accepted waiting
      ≡ start.kept ++ accepted (settled ++ waiting)
  kept_all settled waiting =
      append_assoc start.kept (accepted settled) (accepted waiting)
      ∙ ap (λ (ls : Lines). start.kept ++ ls) (sym (accepted-append settled waiting))

  -- what waited is kept, and its replies are written
  pub serves_settled : (holds next : Holds) (to : S) (out out2 : List ℕ)
      (contents contents2 : Option (List ℕ)) (lines : Lines)
      → Serves steps start holds to out contents lines
      → ((kept waiting : Lines) → holds kept waiting → next (kept ++ waiting) [])
      → Appends contents contents2 out → out2 ≡ []
      → Serves steps start next to out2 contents2 lines
  serves_settled holds next to out out2 contents contents2 lines s commits writes empty = record {
    settled = s.settled ++ s.waiting;
    waiting = [];
    middle = to;
    goes = trace-append steps start.service s.middle to s.settled s.waiting s.goes s.more;
    more = refl;
    asks = append-nil (asked (s.settled ++ s.waiting)) ∙ asked-append s.settled s.waiting ∙ s.asks;
    has = subst (λ (ls : Lines). next ls []) (kept_all s.settled s.waiting)
        (commits (start.kept ++ accepted s.settled) (accepted s.waiting) s.has);
    wrote = subst (λ (t : List ℕ). Appends start.held contents2 t)
        (ap (λ (t : List ℕ). replies s.settled ++ t) s.replied
        ∙ sym (replies-append s.settled s.waiting))
        (Appends-append start.held contents contents2 (replies s.settled) out s.wrote writes);
    replied = empty;
  }

  -- what waits may be lost
  pub breaks_still : (holds : Holds) (finds : Finds) (to : S) (out : List ℕ)
      (contents : Option (List ℕ)) (lines : Lines)
      → Serves steps start holds to out contents lines
      → ((kept waiting : Lines) → holds kept waiting → FindsOnly kept finds)
      → Breaks steps start finds contents lines
  breaks_still holds finds to out contents lines s same = record {
    trace = s.settled ++ s.waiting;
    to = to;
    goes = trace-append steps start.service s.middle to s.settled s.waiting s.goes s.more;
    asks = asked-append s.settled s.waiting ∙ s.asks;
    written = replies s.settled;
    wrote = s.wrote;
    bytes = length (replies s.settled);
    answers = take_front (replies s.settled) (replies s.waiting)
        ∙ ap (take (length (replies s.settled))) (sym (replies-append s.settled s.waiting));
    crash = λ found may. record {
      front = s.settled;
      rest = s.waiting;
      is = refl;
      lines = same (start.kept ++ accepted s.settled) (accepted s.waiting) s.has found may;
      bytes = length (replies s.settled);
      answers = take_whole (replies s.settled);
    };
  }

  -- a crash takes what waited, or leaves it, and replies only where it leaves it
  pub breaks_settling : (holds : Holds) (finds : Finds) (to : S) (out : List ℕ)
      (contents contents2 : Option (List ℕ)) (lines : Lines)
      → Serves steps start holds to out contents lines
      → ((kept waiting : Lines) → holds kept waiting
      → Settles kept waiting out finds contents contents2)
      → Breaks steps start finds contents2 lines
  breaks_settling holds finds to out contents contents2 lines s settles =
      let crash : Settles (start.kept ++ accepted s.settled) (accepted s.waiting) out finds contents
      contents2 = settles (start.kept ++ accepted s.settled) (accepted s.waiting) s.has in
      let bytes = length (replies s.settled) + crash.0 in
      let answers : replies s.settled ++ take crash.0 out
      ≡ take bytes (replies (s.settled ++ s.waiting)) =
      ap (λ (t : List ℕ). replies s.settled ++ take crash.0 t) s.replied
      ∙ sym (take-append-add (replies s.settled) (replies s.waiting) crash.0)
      ∙ ap (take bytes) (sym (replies-append s.settled s.waiting)) in
      record {
        trace = s.settled ++ s.waiting;
        to = to;
        goes = trace-append steps start.service s.middle to s.settled s.waiting s.goes s.more;
        asks = asked-append s.settled s.waiting ∙ s.asks;
        written = replies s.settled ++ take crash.0 out;
        wrote = Appends-append start.held contents contents2 (replies s.settled) (take crash.0 out)
            s.wrote crash.1;
        bytes = bytes;
        answers = answers;
        crash = λ found may. elim (crash.2 found may) [
          | inl all ↦ record {
            front = s.settled ++ s.waiting;
            rest = [];
            is = sym (append-nil (s.settled ++ s.waiting));
            lines = all ∙ ap (λ (ls : Lines). Some ls) (kept_all s.settled s.waiting);
            bytes = bytes;
            answers = answers;
          }
          | inr none ↦ record {
            front = s.settled;
            rest = s.waiting;
            is = refl;
            lines = none.0;
            bytes = length (replies s.settled);
            answers = ap (λ (t : List ℕ). replies s.settled ++ t) none.1
                ∙ append-nil (replies s.settled) ∙ take_whole (replies s.settled);
          }
        ];
      }

  -- the lines that were answered are the first ones of what was read
  pub kept_so : (finds : Finds) (contents left : Option (List ℕ)) (lines : Lines)
      (line rest : List ℕ)
      → Breaks steps start finds contents lines
      → Reads start.begun start.unread left lines line rest
      → Kept steps start contents left finds
  kept_so finds contents left lines line rest b r =
      let later = heard_first start.begun start.unread left lines line rest r in record {
        trace = b.trace;
        to = b.to;
        goes = b.goes;
        read = r.read;
        consumes = r.consumes;
        later = later.0;
        asks = later.1 ∙ ap (λ (ls : Lines). ls ++ later.0) (sym b.asks);
        written = b.written;
        wrote = b.wrote;
        bytes = b.bytes;
        answers = b.answers;
        crash = b.crash;
      }

  -- all of what was read was answered
  pub kept_whole : (finds : Finds) (contents left : Option (List ℕ)) (read : List ℕ)
      → Consumes start.unread left read
      → Breaks steps start finds contents (heard (start.begun ++ read))
      → Kept steps start contents left finds
  kept_whole finds contents left read consumes b = record {
    trace = b.trace;
    to = b.to;
    goes = b.goes;
    read = read;
    consumes = consumes;
    later = [];
    asks = sym b.asks ∙ sym (append-nil (asked b.trace));
    written = b.written;
    wrote = b.wrote;
    bytes = b.bytes;
    answers = b.answers;
    crash = b.crash;
  }

  -- whatever was answered, a start finds a front of it
  pub kept_still : (holds : Holds) (finds : Finds) (to : S) (out : List ℕ)
      (contents left : Option (List ℕ)) (line rest : List ℕ)
      → Runs steps start holds to out contents left line rest
      → ((kept waiting : Lines) → holds kept waiting → FindsOnly kept finds)
      → Kept steps start contents left finds
  kept_still holds finds to out contents left line rest r same =
      kept_so finds contents left r.lines line rest
      (breaks_still holds finds to out contents r.lines r.serves same) r.reads

  -- all that was answered is settled
  pub answers_so : (holds next : Holds) (to : S) (out : List ℕ) (contents contents2 : Option
      (List ℕ))
      (piece : List ℕ) (left : Option (List ℕ)) (lines : Lines) (at_end : Bool)
      → Serves steps start holds to out contents lines
      → ((kept waiting : Lines) → holds kept waiting → next (kept ++ waiting) [])
      → Appends contents contents2 out → (read : List ℕ) → Consumes start.unread left read
      → lines ≡ heard_till at_end (start.begun ++ read)
      → piece ≡ piece_till at_end (start.begun ++ read)
      → Answers steps start at_end to contents2 piece left next
  answers_so holds next to out contents contents2 piece left lines at_end s commits writes read
      consumes is end =
      let t = serves_settled holds next to out [] contents contents2 lines s commits writes refl in
      record {
        trace = s.settled ++ s.waiting;
        goes = trace-append steps start.service s.middle to s.settled s.waiting s.goes s.more;
        read = read;
        consumes = consumes;
        asks = asked-append s.settled s.waiting ∙ s.asks ∙ is;
        next = end;
        has = subst (λ (ls : Lines). next ls []) (kept_all s.settled s.waiting)
            (commits (start.kept ++ accepted s.settled) (accepted s.waiting) s.has);
        wrote = subst (λ (t : List ℕ). Appends start.held contents2 t)
            (ap (λ (t : List ℕ). replies s.settled ++ t) s.replied
            ∙ sym (replies-append s.settled s.waiting))
            (Appends-append start.held contents contents2 (replies s.settled) out s.wrote writes);
      }

  -- ---- with what was read

  -- a line was answered, and its reply isn't put yet
  pub runs_line : (holds next : Holds) (from to : S) (out out2 : List ℕ)
      (contents left : Option (List ℕ)) (line front later reply : List ℕ) (changes : Bool)
      → (r : Runs steps start holds from out contents left line (front ++ 10 ∷ later))
      → steps from (longer_line line front) reply changes to
      → ((kept waiting : Lines) → holds kept waiting
      → next kept (waiting ++ if_changed changes (longer_line line front)))
      → out2 ≡ out
      → Serves steps start next to (out2 ++ reply) contents
      (r.lines ++ longer_line line front ∷ [])
  runs_line holds next from to out out2 contents left line front later reply changes r step appends
      same =
      serves_line holds next from to out (out2 ++ reply) contents r.lines (longer_line line front)
      reply changes r.serves step (ap (λ (t : List ℕ). t ++ reply) same) appends

  -- its bytes were read
  pub runs_read : (holds next : Holds) (from to : S) (out out2 : List ℕ)
      (contents contents2 left : Option (List ℕ)) (line front later none : List ℕ)
      → (r : Runs steps start holds from out contents left line (front ++ 10 ∷ later))
      → HasNoFeed front → none ≡ []
      → Serves steps start next to out2 contents2 (r.lines ++ longer_line line front ∷ [])
      → Runs steps start next to out2 contents2 left none later
  runs_read holds next from to out out2 contents contents2 left line front later none r whole empty
      s = record {
        lines = r.lines ++ longer_line line front ∷ [];
        serves = s;
        reads = reads_line start.begun start.unread left r.lines line front later r.reads whole none
            empty;
      }

  pub kept_read : (holds : Holds) (finds : Finds) (from : S) (out : List ℕ)
      (contents contents2 left : Option (List ℕ)) (line front later : List ℕ)
      → (r : Runs steps start holds from out contents left line (front ++ 10 ∷ later))
      → HasNoFeed front
      → Breaks steps start finds contents2 (r.lines ++ longer_line line front ∷ [])
      → Kept steps start contents2 left finds
  kept_read holds finds from out contents contents2 left line front later r whole b =
      kept_so finds contents2 left (r.lines ++ longer_line line front ∷ []) [] later b
      (reads_line start.begun start.unread left r.lines line front later r.reads whole [] refl)

  -- the rest in other words
  pub runs_rest : (holds : Holds) (to : S) (out : List ℕ) (contents left : Option (List ℕ))
      (line rest other : List ℕ)
      → Runs steps start holds to out contents left line rest → rest ≡ other
      → Runs steps start holds to out contents left line other
  runs_rest holds to out contents left line rest other r same =
      subst (λ (t : List ℕ). Runs steps start holds to out contents left line t) same r

  -- a line goes on
  pub runs_piece : (holds : Holds) (to : S) (out : List ℕ) (contents left : Option (List ℕ))
      (line rest : List ℕ)
      → Runs steps start holds to out contents left line rest
      → HasNoFeed rest → (next : List ℕ) → next ≡ longer_line line rest
      → Runs steps start holds to out contents left next []
  runs_piece holds to out contents left line rest r whole next is = record {
    lines = r.lines;
    serves = r.serves;
    reads = reads_piece start.begun start.unread left r.lines line rest r.reads whole next is;
  }

  -- no line goes on: all lines were answered
  pub all_served : (holds : Holds) (to : S) (out : List ℕ) (contents left : Option (List ℕ))
      (line : List ℕ)
      → Runs steps start holds to out contents left line [] → line ≡ []
      → (read : List ℕ) × Consumes start.unread left read
      × Serves steps start holds to out contents (heard (start.begun ++ read))
  all_served holds to out contents left line r none = (
    r.reads.read,
    r.reads.consumes,
    subst (λ (ls : Lines). Serves steps start holds to out contents ls)
        (heard_all start.begun start.unread left r.lines line r.reads none) r.serves,
  )

  -- the line that goes on is the last one
  pub last_served : (holds next : Holds) (from to : S) (out : List ℕ) (contents left : Option
      (List ℕ))
      (line reply : List ℕ) (changes : Bool)
      → (r : Runs steps start holds from out contents left line [])
      → (line ≡ [] → ⊥) → steps from line reply changes to
      → ((kept waiting : Lines) → holds kept waiting
      → next kept (waiting ++ if_changed changes line))
      → Serves steps start next to (out ++ reply) contents (heard (start.begun ++ r.reads.read))
  last_served holds next from to out contents left line reply changes r some step appends =
      subst (λ (ls : Lines). Serves steps start next to (out ++ reply) contents ls)
      (heard_last start.begun start.unread left r.lines line r.reads some)
      (serves_line holds next from to out (out ++ reply) contents r.lines line reply changes
      r.serves step refl appends)

  -- the next bytes were read
  pub runs_more : (holds : Holds) (to : S) (out : List ℕ) (contents now left : Option (List ℕ))
      (line bytes : List ℕ)
      → Runs steps start holds to out contents now line [] → Consumes now left bytes
      → Runs steps start holds to out contents left line bytes
  runs_more holds to out contents now left line bytes r next = record {
    lines = r.lines;
    serves = r.serves;
    reads = reads_more start.begun start.unread now left r.lines line bytes r.reads next;
  }

  -- no bytes were read
  pub runs_still : (holds : Holds) (to : S) (out : List ℕ) (contents now left : Option (List ℕ))
      (line : List ℕ)
      → Runs steps start holds to out contents now line [] → Keeps now left
      → Runs steps start holds to out contents left line []
  runs_still holds to out contents now left line r same = record {
    lines = r.lines;
    serves = r.serves;
    reads = reads_still start.begun start.unread now left r.lines line [] r.reads same;
  }

  -- what waits is settled between two blocks
  pub runs_settled : (holds next : Holds) (to : S) (out out2 : List ℕ)
      (contents contents2 left : Option (List ℕ)) (line rest : List ℕ)
      → Runs steps start holds to out contents left line rest
      → ((kept waiting : Lines) → holds kept waiting → next (kept ++ waiting) [])
      → Appends contents contents2 out → out2 ≡ []
      → Runs steps start next to out2 contents2 left line rest
  runs_settled holds next to out out2 contents contents2 left line rest r commits writes empty =
      record {
        lines = r.lines;
        serves = serves_settled holds next to out out2 contents contents2 r.lines r.serves commits
            writes empty;
        reads = r.reads;
      }

  -- between two blocks each whole line is settled, and the piece of the next one is kept
  pub pauses_so : (holds next : Holds) (to : S) (out : List ℕ) (contents contents2 left : Option
      (List ℕ))
      (line : List ℕ)
      → Runs steps start holds to out contents left line []
      → ((kept waiting : Lines) → holds kept waiting → next (kept ++ waiting) [])
      → Appends contents contents2 out
      → Answers steps start false to contents2 line left next
  pauses_so holds next to out contents contents2 left line r commits writes =
      answers_so holds next to out contents contents2 line left
      r.lines false r.serves commits writes r.reads.read r.reads.consumes
      (heard_whole_are start.begun start.unread left r.lines line r.reads)
      (next_is start.begun start.unread left r.lines line r.reads)

  -- nothing was read yet
  pub pauses_begun : (holds : Holds) → holds start.kept [] → IsPiece start.begun
      → Answers steps start false start.service start.held
      start.begun start.unread holds
  pauses_begun holds has piece =
      let r : Reads start.begun start.unread start.unread [] start.begun [] =
      reads_begun start.begun start.unread start.begun piece refl in
      record {
        trace = [];
        goes = refl;
        read = r.read;
        consumes = r.consumes;
        asks = heard_whole_are start.begun start.unread start.unread [] start.begun r;
        next = next_is start.begun start.unread start.unread [] start.begun r;
        has = subst (λ (ls : Lines). holds ls []) (sym (append-nil start.kept)) has;
        wrote = Appends-none start.held;
      }

  -- no bytes were read
  pub pauses_still : (holds : Holds) (to : S) (contents now left : Option (List ℕ)) (line : List ℕ)
      → Answers steps start false to contents line now holds
      → Keeps now left
      → Answers steps start false to contents line left holds
  pauses_still holds to contents now left line a same = record {
    trace = a.trace;
    goes = a.goes;
    read = a.read;
    consumes = Consumes-Keeps start.unread now left a.read a.consumes same;
    asks = a.asks;
    next = a.next;
    has = a.has;
    wrote = a.wrote;
  }

  -- there is room
  pub runs_room : (holds next : Holds) (to same : S) (out out2 : List ℕ)
      (contents left : Option (List ℕ)) (line rest line2 : List ℕ)
      → Runs steps start holds to out contents left line rest
      → ((kept waiting : Lines) → holds kept waiting → next kept waiting)
      → same ≡ to → out2 ≡ out → line2 ≡ line
      → Runs steps start next same out2 contents left line2 rest
  runs_room holds next to same out out2 contents left line rest line2 r makes one three four =
      record {
        lines = r.lines;
        serves = record {
          settled = r.serves.settled;
          waiting = r.serves.waiting;
          middle = r.serves.middle;
          goes = r.serves.goes;
          more = subst (λ (s : S). Trace steps r.serves.middle r.serves.waiting s) (sym one)
              r.serves.more;
          asks = r.serves.asks;
          has = makes (start.kept ++ accepted r.serves.settled) (accepted r.serves.waiting)
              r.serves.has;
          wrote = r.serves.wrote;
          replied = three ∙ r.serves.replied;
        };
        reads = subst (λ (l : List ℕ). Reads start.begun start.unread left r.lines l rest)
            (sym four) r.reads;
      }

  -- nothing was read yet
  pub runs_begun : (holds : Holds) (out : List ℕ) → holds start.kept [] → out ≡ []
      → IsPiece start.begun
      → Runs steps start holds start.service out start.held start.unread start.begun []
  runs_begun holds out has empty piece = record {
    lines = [];
    serves = serves_none holds has out empty;
    reads = reads_begun start.begun start.unread start.begun piece refl;
  }
