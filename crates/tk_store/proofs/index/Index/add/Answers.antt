use Rattle.std.proofs.Common.{rules, ◌≡◌, suc, ◌+◌, ◌%◌, ◌<◌, [], ◌∷◌, ◌++◌, length, get_or}
use Rattle.tk_journal.specs.Effects.{name_of}
use Rattle.tk_store.specs.Index.{hash_of}
use Rattle.tk_store.proofs.Adding.{index_added}
use Rattle.tk_store.proofs.Creates.{creates_own}
use Rattle.tk_store.proofs.index.Index.add.Goals as goal

pub returns-clause-index : goal.returns-clause-index
returns-clause-index c =
    let at : c.bucket-bucket.result ≡ hash_of (name_of c.args.entry.now.act) % length c.args.self.now.heads.items = search rules in
    let less : c.bucket-bucket.result < length c.args.self.now.heads.items = search rules in
    let made : c.len-made.result + 1 ≡ suc (length c.args.journal.now.history) = search rules in
    let next : c.index-next.result.now ≡ get_or c.args.self.now.heads.items c.bucket-bucket.result c.index-next.result.now = search rules in
    let links : c.push.new.self.items ≡ c.args.self.now.links.items ++ record { made = c.len-made.result + 1; next = c.index-next.result.now } ∷ [] = search rules in
    let versions : c.push-2.new.self.items ≡ c.args.self.now.versions.items ++ (c.len-made.result + 1) ∷ [] = search rules in
    let last : c.len.result ≡ suc (length c.args.self.now.links.items) = search rules in
    index_added c.args.journal.now.history c.args.self.now c.args.entry.now c.requires.index (creates_own c.args.entry.now.act c.requires.makes) _ c.bucket-bucket.result (c.len-made.result + 1) c.index-next.result.now c.len.result
    at less made next last (search rules) links versions
