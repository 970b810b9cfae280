use Rattle.std.proofs.Common.{string_bytes, ◌∙◌, ap, sym, subst, map}
use Rattle.meta_types.specs.Steps.{answered}
use Rattle.meta_types.specs.declared.reply.Reply.TheVariants as R
use Rattle.gc_report.specs.Writing.{tokens_of, Adds}
use Rattle.gc_report.proofs.Adding.{one, both}
use Rattle.reply_line.specs.Replies.{answer_data}
use Rattle.reply_line.proofs.Printed.{answer_printed}
use Rattle.meta_types.specs.Listings.{listed_text}
use Rattle.std.proofs.lemmas.Simd.{map-map}
use Rattle.serde_json.specs.Data.{string, array}
use Rattle.serde_json.specs.View.{items_of}
use Rattle.gc_report.specs.Reports.{list_data}
use Rattle.reply_line.proofs.reply.listing_text.Goals as goal

-- the brace, the names, that it is ok, and the closing brace
pub returns : goal.returns
returns c =
    let empty = c.new-out.result in
    let same = sym (map-map string listed_text c.names.result.now) ∙ ap (map string) c.names.ensures in
    let names : Adds c.key.new.self c.write_list.new.out (tokens_of (list_data string c.args.listing.now)) =
    subst (λ ds. Adds c.key.new.self c.write_list.new.out (tokens_of (array (items_of ds)))) same c.in_ok-write_list.ensures in
    let all : Adds empty c.end_object.new.self (tokens_of (answer_data (answered (R.Names c.args.listing.now)))) =
    both (one empty c.begin_object.new.self c.in_ok-begin_object.ensures.room.0 c.in_ok-begin_object.ensures.ok)
    (both (one c.begin_object.new.self c.key.new.self c.in_ok-key.ensures.room.0 c.in_ok-key.ensures.ok)
    (both names (both c.in_ok-write_member.ensures
    (one c.write_member.new.out c.end_object.new.self c.in_ok-end_object.ensures.room.0 c.in_ok-end_object.ensures.ok)))) in
    answer_printed (answered (R.Names c.args.listing.now)) empty c.end_object.new.self (string_bytes c.into_text.result) c.new-out.ensures.tokens all c.into_text.ensures
