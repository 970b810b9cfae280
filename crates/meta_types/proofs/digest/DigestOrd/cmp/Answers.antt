use Rattle.std.proofs.Common.{◌≡◌, ◌++◌, sym, ap, ◌∙◌}
use Rattle.std.specs.Prelude.{codes}
use Rattle.std.specs.Ordering.{nat_cmp}
use Rattle.std.specs.Cmp.Lexicographic.{slice_cmp}
use Rattle.hex.specs.Hex.{encode_lower}
use Rattle.meta_types.specs.Digests.{text_of}
use Rattle.meta_types.proofs.digest.DigestOrd.cmp.Goals as goal

pub returns-in-Short-Short : goal.returns-in-Short-Short
returns-in-Short-Short c =
    let left : c.args.self.now ≡ codes "sha256:" ++ encode_lower c.as_slice.result.now = sym
    c.self.view_is ∙ ap text_of c.in-Short-Short.is-0 ∙ ap (λ l. codes "sha256:" ++ encode_lower
    l) (sym c.as_slice.ensures) in
    let right : c.args.other.now ≡ codes "sha256:" ++ encode_lower
    c.as_slice-in-Short-Short.result.now = sym c.other.view_is ∙ ap text_of
    c.in-Short-Short.is-1 ∙ ap (λ l. codes "sha256:" ++ encode_lower l) (sym
    c.as_slice-in-Short-Short.ensures) in
    c.order.ensures (codes "sha256:") ∙ (λ i. slice_cmp nat_cmp (sym left i) (sym right i))

pub returns-in-Long-Long : goal.returns-in-Long-Long
returns-in-Long-Long c =
    let left : c.args.self.now ≡ codes "sha512:" ++ encode_lower c.as_slice-in-Long-Long.result.now
    = sym c.self.view_is ∙ ap text_of c.in-Long-Long.is-0 ∙ ap (λ l. codes "sha512:" ++
    encode_lower l) (sym (c.as_slice-in-Long-Long.ensures ∙ c.deref.ensures)) in
    let right : c.args.other.now ≡ codes "sha512:" ++ encode_lower
    c.as_slice-in-Long-Long-2.result.now = sym c.other.view_is ∙ ap text_of c.in-Long-Long.is-1
    ∙ ap (λ l. codes "sha512:" ++ encode_lower l) (sym (c.as_slice-in-Long-Long-2.ensures ∙
    c.deref-in-Long-Long.ensures)) in
    c.order-in-Long-Long.ensures (codes "sha512:") ∙ (λ i. slice_cmp nat_cmp (sym left i) (sym right
    i))
