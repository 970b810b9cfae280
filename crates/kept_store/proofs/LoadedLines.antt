-- On stores after lines that are loaded.
use Rattle.std.proofs.Common.{◌≡◌, ◌∙◌, ap, refl, sym, ℕ, List, [], ◌∷◌, ◌++◌, Bool, true, false, Option, None, inl, inr}
use Rattle.std.proofs.lemmas.Bool.{cases_Bool}
use Rattle.std.proofs.lemmas.List.{append-nil}
use Rattle.std.proofs.lemmas.List.Elements.{filter-append}
use Rattle.std.specs.Prelude.{not, filter, codes, option_and_then}
use Rattle.std.specs.List.{list_any, AllByRecursion}
use Rattle.std.specs.Str.{is_utf8}
use Rattle.serde_json.specs.Data.{Data}
use Rattle.serde_json.specs.Read.{read}
use Rattle.serde_json.proofs.OnLiterals.{serde_json_on_literals}
use Rattle.meta_types.specs.Rows.{State}
use Rattle.journal.specs.Text.{is_commit, lines_text, journal_text, IsLine, AreLines, AreGroups}
use Rattle.journal.specs.Reading.{whole_lines}
use Rattle.journal.proofs.TextLines.{HasNoFeed, or_false, whole_lines-line, whole_lines-none, whole_lines-text}
use Rattle.request_line.specs.Lines.{command_from, command_in}
use Rattle.line_loop.specs.JournalLines.{lines_of}
use Rattle.kept_store.specs.Replays.{store_after, requests_among}
use Rattle.kept_store.specs.Loads.{is_end, loaded_among, loaded_in, is_open_behind, is_open_after, ScriptsLoad, GroupsLoad}
use Rattle.kept_store.proofs.Replayed.{store_after-append, requests_in-journal}
use Rattle.kept_store.proofs.Unasked.{none_of}

abbrev plain : List ℕ → Bool
plain line = not (is_commit line)

abbrev unended : List ℕ → Bool
unended line = not (is_end line)

-- ---- one line

-- an end is nothing to do
end_none : (line : List ℕ) → is_end line ≡ true → loaded_among (line ∷ []) ≡ []
end_none line ends = elim (cases_Bool (is_commit line)) [
  | inl commits ↦ rw commits refl
  | inr other ↦ rw (other, ends) refl
]

-- any other line is done as in a journal
other_same : (line : List ℕ) → is_end line ≡ false
    → loaded_among (line ∷ []) ≡ requests_among (line ∷ [])
other_same line goes = elim (cases_Bool (is_commit line)) [
  | inl commits ↦ rw commits refl
  | inr other ↦ rw (other, goes) refl
]

pub end_loaded : (state : State) (line : List ℕ) → is_end line ≡ true
    → state ≡ store_after state (loaded_among (line ∷ []))
end_loaded state line ends = ap (store_after state) (sym (end_none line ends))

pub other_loaded : (state new : State) (line : List ℕ) → is_end line ≡ false
    → new ≡ store_after state (requests_among (line ∷ []))
    → new ≡ store_after state (loaded_among (line ∷ []))
other_loaded state new line goes done = done ∙ ap (store_after state) (sym (other_same line goes))

-- ---- lines of a text

loaded-append : (a b : List (List ℕ))
    → loaded_among (a ++ b) ≡ loaded_among a ++ loaded_among b
loaded-append a b =
    ap (filter unended) (filter-append plain a b)
    ∙ filter-append unended (requests_among a) (requests_among b)

-- the lines of a text are one, and those behind it
lines_first : (text line later : List ℕ) → text ≡ line ++ 10 ∷ later → HasNoFeed line
    → whole_lines text ≡ line ∷ whole_lines later
lines_first text line later is whole = ap whole_lines is ∙ whole_lines-line line later whole

loaded_first : (text line later : List ℕ) → text ≡ line ++ 10 ∷ later → HasNoFeed line
    → loaded_in text ≡ loaded_among (line ∷ []) ++ loaded_in later
loaded_first text line later is whole =
    ap loaded_among (lines_first text line later is whole)
    ∙ loaded-append (line ∷ []) (whole_lines later)

-- what a line, and then those behind it, leave
pub line_loaded : (state middle : State) (text line later : List ℕ) → text ≡ line ++ 10 ∷ later
    → HasNoFeed line → middle ≡ store_after state (loaded_among (line ∷ []))
    → store_after middle (loaded_in later) ≡ store_after state (loaded_in text)
line_loaded state middle text line later is whole done =
    ap (λ (s : State). store_after s (loaded_in later)) done
    ∙ sym (store_after-append state (loaded_among (line ∷ [])) (loaded_in later))
    ∙ ap (store_after state) (sym (loaded_first text line later is whole))

-- where no line is left, all was done
pub none_loaded : (state : State) (text : List ℕ) → HasNoFeed text
    → store_after state (loaded_in text) ≡ state
none_loaded state text none =
    ap (λ (ls : List (List ℕ)). store_after state (loaded_among ls)) (whole_lines-none text none)

-- whether a checkpoint goes on behind a line, and then behind the others
pub line_opens : (before behind : Bool) (text line later : List ℕ) → text ≡ line ++ 10 ∷ later
    → HasNoFeed line → behind ≡ is_open_behind before line
    → is_open_after behind (whole_lines later) ≡ is_open_after before (whole_lines text)
line_opens before behind text line later is whole goes =
    ap (λ (b : Bool). is_open_after b (whole_lines later)) goes
    ∙ ap (is_open_after before) (sym (lines_first text line later is whole))

pub none_opens : (before : Bool) (text : List ℕ) → HasNoFeed text
    → is_open_after before (whole_lines text) ≡ before
none_opens before text none = ap (is_open_after before) (whole_lines-none text none)

-- ---- scripts and backups

are_whole : (lines : List (List ℕ)) → AreLines lines → AllByRecursion HasNoFeed lines
are_whole [] all = tt
are_whole (line ∷ lines) all = (all.0.whole, are_whole lines all.1)

both_whole : (lines more : List (List ℕ)) (mark : List ℕ) → AreLines lines → IsLine mark
    → AreLines more → AllByRecursion HasNoFeed (lines ++ mark ∷ more)
both_whole [] more mark all one others = (one.whole, are_whole more others)
both_whole (line ∷ lines) more mark all one others =
    (all.0.whole, both_whole lines more mark all.1 one others)

-- lines that end no checkpoint are all done
all_loaded : (lines rest : List (List ℕ)) → AreLines lines → list_any is_end lines ≡ false
    → loaded_among (lines ++ rest) ≡ lines ++ loaded_among rest
all_loaded [] rest all none = refl
all_loaded (line ∷ lines) rest all none =
    let both = or_false (is_end line) (list_any is_end lines) none in
    rw (all.0.plain, both.0)
    (ap (λ (ls : List (List ℕ)). line ∷ ls) (all_loaded lines rest all.1 both.1))

ended : (lines : List (List ℕ)) → list_any is_end lines ≡ false → filter unended lines ≡ lines
ended [] none = refl
ended (line ∷ lines) none =
    let both = or_false (is_end line) (list_any is_end lines) none in
    rw both.0 (ap (λ (ls : List (List ℕ)). line ∷ ls) (ended lines both.1))

behind_mark : (more : List (List ℕ)) (mark : List ℕ) → IsLine mark → is_end mark ≡ true
    → AreLines more → list_any is_end more ≡ false → loaded_among (mark ∷ more) ≡ more
behind_mark more mark one ends others none =
    loaded-append (mark ∷ []) more
    ∙ ap (λ (ls : List (List ℕ)). ls ++ loaded_among more) (end_none mark ends)
    ∙ ap loaded_among (sym (append-nil more))
    ∙ all_loaded more [] others none
    ∙ append-nil more

-- a script of a journal loads as the journal's lines
pub scripts_load : ScriptsLoad
scripts_load lines more mark all others none no_more one ends =
    ap loaded_among (whole_lines-text (lines ++ mark ∷ more)
    (both_whole lines more mark all one others))
    ∙ all_loaded lines (mark ∷ more) all none
    ∙ ap (λ (ls : List (List ℕ)). lines ++ ls) (behind_mark more mark one ends others no_more)

-- so do its groups
pub groups_load : GroupsLoad
groups_load first groups all none =
    ap (filter unended) (requests_in-journal first groups all) ∙ ended (lines_of groups) none

-- no JSON begins so
read_none : (rest : List ℕ) → read (codes "end " ++ rest) ≡ None
unfolding serde_json_on_literals
read_none rest = refl

-- a line that begins by "end " is read as no command
pub ends_ask_nothing : (rest : List ℕ) → command_in (codes "end " ++ rest) ≡ None
unfolding command_in
ends_ask_nothing rest =
    none_of (is_utf8 (codes "end " ++ rest)) _
    (ap (λ (d : Option Data). option_and_then command_from d) (read_none rest))
