use Rattle.std.proofs.Common.{◌≡◌, sym, ap, subst, ◌∙◌}
use Rattle.std.specs.Arc.{arc_value}
use Rattle.meta_types.specs.declared.kept.Kept.{Kept}
use Rattle.meta_types.specs.Digests.{AreBytes, bytes_in, text_of}
use Rattle.meta_types.proofs.HexDigits.{read_back}
use Rattle.meta_types.proofs.digest.Digest.bytes.Goals as goal

-- the text's digits are read back
pub returns-in-Short : goal.returns-in-Short
returns-in-Short c =
    let all = subst (λ (k : Kept). AreBytes k) c.in-Short.is c.self.invariant.0 in
    let named : bytes_in c.args.self.now ≡ c.in-Short.bytes = ap bytes_in (sym c.self.view_is ∙ ap
    text_of c.in-Short.is) ∙ read_back c.in-Short.bytes all.0 in
    c.as_slice.ensures ∙ sym named

pub returns-in-Long : goal.returns-in-Long
returns-in-Long c =
    let all = subst (λ (k : Kept). AreBytes k) c.in-Long.is c.self.invariant.0 in
    let named : bytes_in c.args.self.now ≡ arc_value c.in-Long.bytes = ap bytes_in (sym
    c.self.view_is ∙ ap text_of c.in-Long.is) ∙ read_back (arc_value c.in-Long.bytes) all.0 in
    c.as_slice-in-Long.ensures ∙ c.deref.ensures ∙ sym named
