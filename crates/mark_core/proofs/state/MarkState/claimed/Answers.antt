use Rattle.std.proofs.Common.{◌≡◌, ℕ, List, ◌∙◌, ap, arith}
use Rattle.mark_core.specs.Bits.{bit_of, times}
use Rattle.mark_core.proofs.Counts.{contained, counted}
use Rattle.mark_core.proofs.BitLemmas.{bit_of-lt}
use Rattle.mark_core.proofs.state.MarkState.claimed.Goals as goal

-- the bits say the same as the list
pub returns : goal.returns
returns c =
    let found = c.self.inside.machine_state.found in
    let cl : List ℕ = c.args.self.now.claimed in
    let n : ℕ = c.args.node in
    let e : bit_of found.marks n ≡ times n cl =
    found.same n ∙ ap (λ m. times n m.claimed) c.self.view_is in
    let low = bit_of-lt found.marks n in (
      λ h. let b = c.has.ensures.0 h in contained n cl (omega arith),
      λ h. let b = counted n cl h in c.has.ensures.1 (omega arith),
    )
