use Rattle.std.proofs.Common.{◌≡◌, ◌-◌, ◌&&◌, ◌==◌, true, length, take, drop, sym, ap, ◌∙◌, arith, length-drop, bytes_eq}
use Rattle.std.proofs.lemmas.List.{take_all}
use Rattle.std.proofs.lemmas.Cmp.{nat_list_eq_equiv}
use Rattle.std.proofs.lemmas.Bool.Decides.{Decides-eqb}
use Rattle.std.specs.List.{list_all}
use Rattle.meta_types.specs.Text.{is_hexadecimal}
use Rattle.meta_types.proofs.text.is_hash.Goals as goal

pub returns-then-rest-digits : goal.returns-then-rest-digits
returns-then-rest-digits c =
    let p = c.args.prefix.now in
    let t = c.args.text.now in
    let all : take (length t - length p) (drop (length p) t) ≡ drop (length p) t = take_all (length t - length p) (drop (length p) t) (omega (arith, length-drop (length p) t)) in
    let front : bytes_eq (take (length p) t) p ≡ true = nat_list_eq_equiv.symm (take (length p) t) p ∙ sym c.starts_with.ensures.value ∙ c.if-not-starts_with.false in
    let long : (length (drop (length p) t) == c.args.digits) ≡ true = (Decides-eqb (length (drop (length p) t)) c.args.digits).1 (sym (ap length all) ∙ c.if-rest-digits.true) in
    c.are_hexadecimal.ensures ∙ (λ i. list_all is_hexadecimal (all i)) ∙ sym (λ i. front i && long i && list_all is_hexadecimal (drop (length p) t))
