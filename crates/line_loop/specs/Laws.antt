-- What holds of the calls of a run. Each statement is the contract of a function of the module
-- `laws`.
use Rattle.std.specs.Prelude.{◌≡◌, ℕ, List, ◌++◌, Bool, false, Option}
use Rattle.line_loop.specs.Reads.{heard, heard_whole, next_piece}
use Rattle.line_loop.specs.Runs.{Entry, accepted, Start, from, Kept, Answers}

-- Wherever a text is cut: behind the whole lines of its front those of the kept piece and the rest
-- are heard, and the piece that is kept then is the same.
abbrev pub CutsAreNotHeard : Type 0
CutsAreNotHeard = (text more : List ℕ)
    → (heard (text ++ more) ≡ heard_whole text ++ heard (next_piece text ++ more))
    × (heard_whole (text ++ more) ≡ heard_whole text ++ heard_whole (next_piece text ++ more))
    × (next_piece (text ++ more) ≡ next_piece (next_piece text ++ more))

-- where a call begins that follows one which stopped
abbrev pub goes_on : {S : Type 0} → Start S → S → Option (List ℕ) → List ℕ → Option (List ℕ)
    → List Entry
    → Start S
goes_on start mid contents piece left trace =
    from mid (start.kept ++ accepted trace) contents piece left

-- Of a call that stopped, and of one that goes on from there, what holds of the second holds of
-- both as of one call.
abbrev pub CallsJoin : {S L : Type 0} → (S → List ℕ → List ℕ → Bool → S → Type 0)
    → (L → List (List ℕ) → List (List ℕ) → Type 0) → (L → Option (List (List ℕ)) → Type 0) → Type 0
CallsJoin {S} {L} steps holds may_find = (start : Start S) (mid to : S)
    (contents contents2 : Option (List ℕ)) (piece piece2 : List ℕ) (left left2 : Option (List ℕ))
    (log log2 : L) (at_end : Bool)
    → (one : Answers steps start false mid contents piece left (holds log))
    → let next = goes_on start mid contents piece left one.trace in
    (Answers steps next at_end to contents2 piece2 left2 (holds log2)
    → Answers steps start at_end to contents2 piece2 left2 (holds log2))
    × (Kept steps next contents2 left2 (may_find log2)
    → Kept steps start contents2 left2 (may_find log2))
