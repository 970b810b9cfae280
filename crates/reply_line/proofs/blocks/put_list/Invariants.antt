use Rattle.std.proofs.Common.{◌≡◌, ◌++◌, ◌∷◌, List, ℕ, map, drop, false}
use Rattle.serde_json.specs.Written.{items_text}
use Rattle.serde_json.specs.View.{items_of}
use Rattle.reply_line.specs.Blocks.{Puts}
use Rattle.reply_line.proofs.blocks.put_list.Given as goal

-- what was put so far is the text before the items that are left
abbrev pub invariant-loop-item : goal.invariant-loop-item
invariant-loop-item g l =
    (done : List ℕ) × Puts (g.W.Write.contents l.fn.writer) l.fn.block.items (g.W.Write.contents
    l.writer) l.block.items done
    × (done ++ items_text l.later (items_of (map g.T.PutJson.as_data (drop l.item-index l.list)))
    ≡ 91 ∷ items_text false (items_of (map g.T.PutJson.as_data l.list)))
