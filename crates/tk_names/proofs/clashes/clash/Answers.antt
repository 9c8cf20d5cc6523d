use Rattle.std.proofs.Common.{◌≡◌, [], None, Some, sym, ◌∙◌, arith, below_more, bytes_eq, take}
use Rattle.std.specs.HashMap as hash
use Rattle.std.specs.List.{position}
use Rattle.std.proofs.lemmas.List.{get_or_read}
use Rattle.std.proofs.lemmas.Map.Text.{hash_map_updates_str}
use Rattle.tk_names.specs.Clash.{name_at}
use Rattle.tk_names.proofs.Earlier.{clash-none, clash-found, places-more, with_earlier-is}
use Rattle.tk_names.proofs.clashes.clash.Goals as goal

pub returns-in-Some : goal.returns-in-Some
returns-in-Some c =
    let names = c.args.names.now in
    let at = c.loop-place.place in
    let is : c.as_str.result.now ≡ name_at names at = c.as_str.ensures ∙ get_or_read names at _ (omega arith) c.index-names-place.is [] in
    let found : position (bytes_eq c.as_str.result.now) (take at names) ≡ Some c.in-Some.earlier = sym (c.loop-place.invariant.places c.as_str.result.now) ∙ (sym c.get.ensures.value ∙ (sym c.copied.ensures ∙ c.in-Some.is)) in
    sym (clash-found names c.in-Some.earlier at (omega arith) c.loop-place.invariant.none (with_earlier-is names at _ _ is found))

pub loop-place-preserved : goal.loop-place-preserved
loop-place-preserved c =
    let names = c.args.names.now in
    let at = c.loop-place.place in
    let key = c.as_str-in-loop-place.result.now in
    let first : c.as_str.result.now ≡ name_at names at = c.as_str.ensures ∙ get_or_read names at _ (omega arith) c.index-names-place.is [] in
    let is : key ≡ name_at names at = c.as_str-in-loop-place.ensures ∙ get_or_read names at _ (omega arith) c.index-names-place.is [] in
    let none : position (bytes_eq c.as_str.result.now) (take at names) ≡ None = sym (c.loop-place.invariant.places c.as_str.result.now) ∙ (sym c.get.ensures.value ∙ (sym c.copied.ensures ∙ c.in_default.is)) in
    let absent : hash.get_by (λ k. bytes_eq key k.now) c.loop-place.seen ≡ None = rw (is ∙ sym first) (c.loop-place.invariant.places c.as_str.result.now ∙ none) in
    record {
      places = λ q. hash_map_updates_str key c.loop-place.seen c.insert.new.self _ c.in_ok-insert.ensures.updates q
          ∙ places-more names at key (λ ds. hash.get_by (λ k. bytes_eq ds k.now) c.loop-place.seen) (omega arith) is c.loop-place.invariant.places absent q;
      none = below_more _ _ c.loop-place.invariant.none (with_earlier-is names at _ _ first none);
    }

pub returns : goal.returns
returns c = sym (clash-none c.args.names.now c.loop-place.place c.loop-place-test.false c.loop-place.invariant.none)
