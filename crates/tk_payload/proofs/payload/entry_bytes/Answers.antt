use Rattle.std.proofs.Common.{List, ap, ◌∙◌}
use Rattle.json.specs.Token.{Token}
use Rattle.tk_payload.specs.Forms.{entry_json, entry_text}
use Rattle.tk_payload.specs.Writing.{appended}
use Rattle.tk_payload.proofs.EntryText.{text_is}
use Rattle.tk_payload.proofs.payload.entry_bytes.Goals as goal

pub returns-clause-text : goal.returns-clause-text
unfolding entry_text
returns-clause-text c =
    let j = entry_json c.args.entry.now in
    c.from_vec.ensures
    ∙ text_is c.write.new.out.before c.write.new.out.tokens j c.into_inner.result.items
    (c.write.ensures.before ∙ c.new-out.ensures.before ∙ c.new.ensures.items)
    (c.in_ok-write.ensures.ok ∙ ap (λ (ts : List Token). appended ts j) c.new-out.ensures.tokens)
    c.into_inner.ensures.items
