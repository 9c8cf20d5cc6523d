use Rattle.std.proofs.Common.{rules, ◌≡◌, ◌-◌, ◌%◌, ◌<◌, ◌≤◌, length, get_or, arith}
use Rattle.tk_store.specs.Index.{hash_of, is_of, walk}
use Rattle.tk_store.proofs.Knowing.{known}
use Rattle.tk_store.proofs.index.Index.known.Goals as goal

pub returns : goal.returns
returns c =
    let at : c.bucket.result ≡ hash_of c.args.name.now % length c.args.self.now.heads.items = search rules in
    let less : c.bucket.result < length c.args.self.now.heads.items = search rules in
    let first : c.index-head.result.now ≡ get_or c.args.self.now.heads.items c.bucket.result c.index-head.result.now = search rules in
    let is : c.found-number.result ≡ walk (is_of c.args.journal.now.history c.args.kind c.args.name.now) c.args.self.now.links.items (length c.args.self.now.links.items) c.index-head.result.now = search rules in
    let within : c.found-number.result ≤ length c.args.self.now.links.items = search rules in
    let some : 0 < c.found-number.result = search rules in
    let link : c.index.result.now ≡ get_or c.args.self.now.links.items (c.found-number.result - 1) c.index.result.now = search rules in
    let version : c.index-2.result.now ≡ get_or c.args.self.now.versions.items (c.found-number.result - 1) c.index-2.result.now = search rules in
    known c.args.journal.now.history c.args.self.now c.requires c.args.kind c.args.name.now c.bucket.result c.index-head.result.now c.found-number.result at less first is
    (c.found-number.result - 1) (omega (arith, some)) (omega (arith, some, within)) c.index.result.now c.index-2.result.now link version
