-- On the members of a line, as the code goes over them.
use Rattle.std.proofs.Common.{◌≡◌, refl, List, [], ◌∷◌, Bor, map, is_some}
use Rattle.std.specs.List.{list_any, list_all}
use Rattle.std.specs.Str.{bytes_eq}
use Rattle.serde_json.specs.Data.{Members}
use Rattle.serde_json.specs.Find.{get_member}
use Rattle.serde_json.specs.View.{view, members_view}
use Rattle.serde_json.proofs.Views.{Entry}
use Rattle.meta_types.specs.Text.{Text}
use Rattle.request_line.specs.Lines.{is_text, are_texts, is_among}

pub is_among-borrowed : (key : Text) (ks : List (Bor Text))
    → list_any (λ k. bytes_eq k.now key) ks ≡ is_among key (map (λ k. k.now) ks)
is_among-borrowed key [] = refl
is_among-borrowed key (k ∷ ks) = rw (is_among-borrowed key ks) refl

pub are_texts_entries : (es : List Entry)
    → list_all (λ e. is_text (view e.1)) es ≡ are_texts (members_view es)
are_texts_entries [] = refl
are_texts_entries (e ∷ es) = rw (are_texts_entries es) refl

pub has_required-borrowed : (ms : Members) (ks : List (Bor Text))
    → list_all (λ k. is_some (get_member k.now ms)) ks
    ≡ list_all (λ k. is_some (get_member k ms)) (map (λ k. k.now) ks)
has_required-borrowed ms [] = refl
has_required-borrowed ms (k ∷ ks) = rw (has_required-borrowed ms ks) refl
