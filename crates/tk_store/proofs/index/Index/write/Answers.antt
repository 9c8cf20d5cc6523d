use Rattle.std.proofs.Common.{rules, ◌≡◌, suc, ◌+◌, ◌-◌, ◌%◌, ◌<◌, length, get_or, refl, arith}
use Rattle.tk_journal.specs.Effects.{kind_of, name_of}
use Rattle.tk_store.specs.Index.{hash_of, is_of, walk}
use Rattle.tk_store.proofs.Knowing.{is_number, is_known}
use Rattle.tk_store.proofs.Writing.{index_set}
use Rattle.tk_store.proofs.index.Index.write.Goals as goal

pub returns-clause-index : goal.returns-clause-index
returns-clause-index c =
    let at : c.bucket.result ≡ hash_of (name_of c.args.entry.now.act) % length c.args.self.now.heads.items = search rules in
    let less : c.bucket.result < length c.args.self.now.heads.items = search rules in
    let first : c.index-head.result.now ≡ get_or c.args.self.now.heads.items c.bucket.result c.index-head.result.now = search rules in
    let is : c.found-number.result ≡ walk (is_of c.args.journal.now.history (kind_of c.args.entry.now.act) (name_of c.args.entry.now.act)) c.args.self.now.links.items (length c.args.self.now.links.items) c.index-head.result.now = search rules in
    let some : 0 < c.found-number.result = is_known c.args.journal.now.history c.args.self.now c.requires.index (kind_of c.args.entry.now.act) (name_of c.args.entry.now.act) c.bucket.result c.index-head.result.now c.found-number.result at less first is c.requires.there in
    let version : c.len.result + 1 ≡ suc (length c.args.journal.now.history) = search rules in
    index_set c.args.journal.now.history c.args.self.now c.args.entry.now c.requires.index c.requires.changes _ (c.found-number.result - 1) c.found-number.result (c.len.result + 1)
    (is_number c.args.journal.now.history c.args.self.now c.requires.index (kind_of c.args.entry.now.act) (name_of c.args.entry.now.act) c.bucket.result c.index-head.result.now c.found-number.result at less first is)
    (omega (arith, some)) version refl refl (search rules)
