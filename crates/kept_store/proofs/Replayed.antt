-- On stores after lines.
use Rattle.std.proofs.Common.{◌≡◌, ◌∙◌, ◌≤◌, ◌-◌, ap, refl, sym, ℕ, List, [], ◌∷◌, ◌++◌, take, length, ◌+◌, Bool, true, false, append_assoc, length-append, arith, Option, Some, None, inl, inr}
use Rattle.std.proofs.lemmas.Bool.{cases_Bool}
use Rattle.std.specs.Prelude.{not, filter}
use Rattle.std.specs.Option.{option_map_or}
use Rattle.meta_types.specs.Rows.{State}
use Rattle.journal.specs.Text.{is_commit, commit_line, group_sum, group_end, lines_from, journal_lines, journal_text, AreLines, AreGroups}
use Rattle.journal.specs.Reading.{Found, whole_lines}
use Rattle.journal.proofs.TextLines.{HasNoFeed, whole_lines-text, whole_lines-line, whole_lines-none}
use Rattle.journal.proofs.Groups.{lines_are_whole}
use Rattle.store_front.specs.NextNumber.{raised}
use Rattle.kept_store.specs.Numbers.{number_in}
use Rattle.scripts.specs.Changes.{after_line, Changes}
use Rattle.kept_store.specs.Replays.{after_kept_line, store_after, requests_among, requests_in, StepsOf, KeepsLines}
use Rattle.line_loop.specs.JournalLines.{lines_of, lines_found}
use Rattle.line_loop.specs.Runs.{Entry, if_changed, accepted, Trace}
use Rattle.kept_store.proofs.Unasked.{raises_none}

pub store_after-append : (state : State) (lines more : List (List ℕ))
    → store_after state (lines ++ more) ≡ store_after (store_after state lines) more
store_after-append state [] more = refl
store_after-append state (line ∷ lines) more =
    store_after-append (after_kept_line state line) lines more

abbrev plain : List ℕ → Bool
plain line = not (is_commit line)

kept_lines : (lines more : List (List ℕ)) → AreLines lines
    → filter plain (lines ++ more) ≡ lines ++ filter plain more
kept_lines [] more all = refl
kept_lines (line ∷ lines) more all =
    rw all.0.plain (ap (λ (ls : List (List ℕ)). line ∷ ls) (kept_lines lines more all.1))

in_lines : (before : List ℕ) (start : ℕ) (groups : List (List (List ℕ))) → AreGroups groups
    → filter plain (lines_from before start groups) ≡ lines_of groups
in_lines before start [] all = refl
in_lines before start (group ∷ groups) all =
    let line = commit_line before start group in
    let rest = lines_from (group_sum before group) (group_end before start group) groups in
    ap (filter plain) (append_assoc group (line ∷ line ∷ []) rest)
    ∙ kept_lines group (line ∷ line ∷ rest) all.0
    ∙ ap (λ (ls : List (List ℕ)). group ++ ls)
    (in_lines (group_sum before group) (group_end before start group) groups all.1)

-- the lines of a file without damage are found
pub undamaged : (f : Found) → f.is_damaged ≡ false → lines_found f ≡ Some (lines_of f.groups)
undamaged f none = rw none refl

-- the lines of a journal are those of its groups
pub requests_in-journal : (first : List ℕ) (groups : List (List (List ℕ))) → AreGroups groups
    → requests_in (journal_text first groups) ≡ lines_of groups
requests_in-journal first groups all =
    ap (filter plain)
    (whole_lines-text (journal_lines first groups) (lines_are_whole first 0 groups all))
    ∙ in_lines first 0 groups all

-- a line that raises no number is done as a request
pub unraised : (state new : State) (line : List ℕ) → number_in line ≡ None
    → new ≡ after_line state line → new ≡ after_kept_line state line
unraised state new line none done =
    done ∙ ap (λ (found : Option ℕ). option_map_or (λ (number : ℕ). raised number state) found
    (after_line state line)) (sym none)

-- any other raises the next number
pub raises : (state : State) (line : List ℕ) (number : ℕ) → number_in line ≡ Some number
    → raised number state ≡ after_kept_line state line
raises state line number some =
    ap (λ (found : Option ℕ). option_map_or (λ (number : ℕ). raised number state) found
    (after_line state line)) (sym some)

-- a line leaves the store that it leaves where it is kept, or it changes nothing
kept_line : (old new : State) (line : List ℕ) (changes : Bool) → Changes old line changes new
    → new ≡ store_after old (if_changed changes line)
kept_line old new line true is = unraised old new line (raises_none line is.1) is.0
kept_line old new line false is = is

module _ {S : Type 0} (steps : StepsOf S) (store_of : S → State)
    (keeps : KeepsLines steps store_of) where
  -- the store after a run is the one after its logged lines
  pub runs_replay : (from to : S) (entries : List Entry) → Trace steps from entries to
      → store_of to ≡ store_after (store_of from) (accepted entries)
  runs_replay from to [] goes = ap store_of (sym goes)
  runs_replay from to (entry ∷ entries) goes =
      runs_replay goes.0 to entries goes.2
      ∙ ap (λ (s : State). store_after s (accepted entries))
      (kept_line (store_of from) (store_of goes.0) entry.line entry.changes
      (keeps from goes.0 entry.line entry.reply entry.changes goes.1))
      ∙ sym (store_after-append (store_of from) (if_changed entry.changes entry.line)
      (accepted entries))

-- ---- replaying

requests-append : (a b : List (List ℕ))
    → requests_among (a ++ b) ≡ requests_among a ++ requests_among b
requests-append [] b = refl
requests-append (line ∷ a) b = elim (cases_Bool (plain line)) [
  | inl has ↦ rw has (ap (λ (ls : List (List ℕ)). line ∷ ls) (requests-append a b))
  | inr other ↦ rw other (requests-append a b)
]

-- a commit line is no request
pub commit_only : (state : State) (line : List ℕ) → is_commit line ≡ true
    → state ≡ store_after state (requests_among (line ∷ []))
commit_only state line commits = rw commits refl

-- any other is one
pub line_only : (state new : State) (line : List ℕ) → is_commit line ≡ false
    → new ≡ after_kept_line state line → new ≡ store_after state (requests_among (line ∷ []))
line_only state new line other done = rw other done

-- the requests of a text are one line's, and those behind it
in_first : (text line later : List ℕ) → text ≡ line ++ 10 ∷ later → HasNoFeed line
    → requests_in text ≡ requests_among (line ∷ []) ++ requests_in later
in_first text line later is whole =
    ap requests_among (ap whole_lines is ∙ whole_lines-line line later whole)
    ∙ requests-append (line ∷ []) (whole_lines later)

-- what a line, and then those behind it, leave
pub line_first : (state middle : State) (text line later : List ℕ) → text ≡ line ++ 10 ∷ later
    → HasNoFeed line → middle ≡ store_after state (requests_among (line ∷ []))
    → store_after middle (requests_in later) ≡ store_after state (requests_in text)
line_first state middle text line later is whole done =
    ap (λ (s : State). store_after s (requests_in later)) done
    ∙ sym (store_after-append state (requests_among (line ∷ [])) (requests_in later))
    ∙ ap (store_after state) (sym (in_first text line later is whole))

-- where no line is left, all was done
pub none_left : (state : State) (text : List ℕ) → HasNoFeed text
    → store_after state (requests_in text) ≡ state
none_left state text none =
    ap (λ (ls : List (List ℕ)). store_after state (requests_among ls))
    (whole_lines-none text none)

-- no byte is left to read
pub all_read : (state : State) (text : List ℕ) (at end : ℕ) → end ≤ at
    → store_after state (requests_in (take (end - at) text)) ≡ state
all_read state text at end past =
    let none : end - at ≡ 0 = omega (arith, past) in
    ap (λ (n : ℕ). store_after state (requests_in (take n text))) none

-- what a block of lines, and then those behind it, leave
pub block_first : (state middle : State) (text block later : List ℕ)
    → whole_lines text ≡ whole_lines block ++ whole_lines later
    → middle ≡ store_after state (requests_in block)
    → store_after state (requests_in text) ≡ store_after middle (requests_in later)
block_first state middle text block later is done =
    ap (λ (ls : List (List ℕ)). store_after state (requests_among ls)) is
    ∙ ap (store_after state) (requests-append (whole_lines block) (whole_lines later))
    ∙ store_after-append state (requests_in block) (requests_in later)
    ∙ ap (λ (s : State). store_after s (requests_in later)) (sym done)

-- ---- counting

commit_count : (line : List ℕ) → is_commit line ≡ true
    → length (requests_among (line ∷ [])) ≡ 0
commit_count line commits = rw commits refl

pub commit_counts : (n : ℕ) (line : List ℕ) → is_commit line ≡ true
    → n ≡ n + length (requests_among (line ∷ []))
commit_counts n line commits =
    let none = commit_count line commits in omega (arith, none)

line_count : (line : List ℕ) → is_commit line ≡ false
    → length (requests_among (line ∷ [])) ≡ 1
line_count line other = rw other refl

pub line_counts : (n m : ℕ) (line : List ℕ) → is_commit line ≡ false → m ≡ n + 1
    → m ≡ n + length (requests_among (line ∷ []))
line_counts n m line other more =
    let one = line_count line other in omega (arith, one, more)

-- a line more
pub first_counts : (n m : ℕ) (text line later : List ℕ) → text ≡ line ++ 10 ∷ later
    → HasNoFeed line → m ≡ n + length (requests_among (line ∷ []))
    → m + length (requests_in later) ≡ n + length (requests_in text)
first_counts n m text line later is whole counts =
    let both = ap (λ (ls : List (List ℕ)). length ls) (in_first text line later is whole)
    ∙ length-append (requests_among (line ∷ [])) (requests_in later) in
    omega (arith, both, counts)

pub none_counts : (n : ℕ) (text : List ℕ) → HasNoFeed text → n + length (requests_in text) ≡ n
none_counts n text none =
    let left : length (requests_in text) ≡ 0 =
    ap (λ (ls : List (List ℕ)). length (requests_among ls)) (whole_lines-none text none) in
    omega (arith, left)

pub all_counted : (n : ℕ) (text : List ℕ) (at end : ℕ) → end ≤ at
    → n + length (requests_in (take (end - at) text)) ≡ n
all_counted n text at end past =
    let none : end - at ≡ 0 = omega (arith, past) in
    let left : length (requests_in (take (end - at) text)) ≡ 0 =
    ap (λ (k : ℕ). length (requests_in (take k text))) none in
    omega (arith, left)

-- a block of lines more
pub block_counts : (n m : ℕ) (text block later : List ℕ)
    → whole_lines text ≡ whole_lines block ++ whole_lines later
    → m ≡ n + length (requests_in block)
    → n + length (requests_in text) ≡ m + length (requests_in later)
block_counts n m text block later is counts =
    let both = ap (λ (ls : List (List ℕ)). length (requests_among ls)) is
    ∙ ap (λ (ls : List (List ℕ)). length ls)
    (requests-append (whole_lines block) (whole_lines later))
    ∙ length-append (requests_in block) (requests_in later) in
    omega (arith, both, counts)

-- before the first block
pub none_done : (state : State) (text : List ℕ) (end : ℕ)
    → store_after state (requests_in (take (end - 0) text))
    ≡ store_after state (requests_in (take end text))
none_done state text end =
    let same : end - 0 ≡ end = omega arith in
    ap (λ (n : ℕ). store_after state (requests_in (take n text))) same

pub none_counted : (text : List ℕ) (end : ℕ)
    → 0 + length (requests_in (take (end - 0) text)) ≡ length (requests_in (take end text))
none_counted text end =
    let same : end - 0 ≡ end = omega arith in
    let kept : length (requests_in (take (end - 0) text)) ≡ length (requests_in (take end text)) =
    ap (λ (n : ℕ). length (requests_in (take n text))) same in
    omega (arith, kept)
