-- What a writer in blocks holds. Ours, unless a source stands beside.
use Rattle.std.specs.Prelude.{ℕ, List, Option}
use Rattle.std.specs.Io.KnownBytes.{append_known}
use Rattle.metad.specs.declared.script_run.blocks.Blocks.{Blocks}

-- the writer that the bytes are handed on to
abbrev pub inner_of : {W : Type 0} → Blocks W → W
inner_of blocks = blocks.writer

-- the bytes that are kept back
abbrev pub kept_back : {W : Type 0} → Blocks W → List ℕ
kept_back blocks = blocks.bytes.items

-- the bytes of the writer below, where they are known, and then those that are kept back
abbrev pub contents_of : {W : Type 0} → (W → Option (List ℕ)) → Blocks W → Option (List ℕ)
contents_of contents blocks = append_known (contents (inner_of blocks)) (kept_back blocks)
