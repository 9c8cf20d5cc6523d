use Rattle.std.proofs.Common.{◌≡◌, ◌+◌, ◌++◌, [], ◌∷◌, drop, filter, Bool, true, false, sym, ◌∙◌, ap, subst}
use Rattle.tk_outcome.specs.Walked.{once_each as firsts_of}
use Rattle.tk_outcome.proofs.Firsts.{has, none_seen, seen_at, unseen, unseen_at}
use Rattle.tk_outcome.proofs.fetching.once_each.Goals as goal

pub loop-spec-init : goal.loop-spec-init
loop-spec-init c =
    let specs = c.args.specs.now in
    subst (λ kept. kept ++ filter (unseen kept) (firsts_of specs) ≡ firsts_of specs) (sym c.new-firsts.ensures.items) (none_seen (firsts_of specs))

pub loop-spec-preserved-then-has_name : goal.loop-spec-preserved-then-has_name
loop-spec-preserved-then-has_name c =
    let kept = c.loop-spec.firsts.items in
    let spec = c.spec-item.result in
    let seen : has kept spec.name ≡ true = ap (has kept) (sym c.as_str.ensures) ∙ (ap (λ ks. has ks c.as_str.result.now) (sym c.as_slice.ensures.value) ∙ (sym c.has_name.ensures ∙ c.if-has_name.true)) in
    ap (λ ys. kept ++ ys) (sym (seen_at kept c.args.specs.now c.loop-spec.spec-index spec c.loop-spec-test.true c.spec-item.is seen)) ∙ c.loop-spec.invariant

pub loop-spec-preserved : goal.loop-spec-preserved
loop-spec-preserved c =
    let kept = c.loop-spec.firsts.items in
    let specs = c.args.specs.now in
    let spec = c.spec-item.result in
    let fresh : has kept spec.name ≡ false = ap (has kept) (sym c.as_str.ensures) ∙ (ap (λ ks. has ks c.as_str.result.now) (sym c.as_slice.ensures.value) ∙ (sym c.has_name.ensures ∙ c.if-has_name.false)) in
    let more : c.push.new.self.items ≡ kept ++ spec ∷ [] = c.in_ok-push.ensures.items ∙ ap (λ x. kept ++ x ∷ []) c.in_ok-copy.ensures in
    subst (λ ks. ks ++ filter (unseen ks) (firsts_of (drop (c.loop-spec.spec-index + 1) specs)) ≡ firsts_of specs) (sym more)
    (sym (unseen_at kept specs c.loop-spec.spec-index spec c.loop-spec-test.true c.spec-item.is fresh) ∙ c.loop-spec.invariant)
