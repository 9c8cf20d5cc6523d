use Rattle.std.proofs.Common.{ℕ, ◌+◌, take, List, [], ◌∷◌, inl, sym, ◌∙◌, ap, subst}
use Rattle.tk_disk.specs.Disk.{Only, over}
use Rattle.tk_durable.specs.Gates.{IsAddedOrNot, IsAdded}
use Rattle.tk_durable.proofs.Moments.{started, goes_on}
use Rattle.tk_durable.proofs.Gates.{first_crash, second_crash, opened}
use Rattle.std.proofs.lemmas.Result.{on_ok_weaker}
use Rattle.tk_durable.proofs.gate.add.Goals as goal

pub returns-in_err-write_at-2-clause-any_moment : goal.returns-in_err-write_at-2-clause-any_moment
returns-in_err-write_at-2-clause-any_moment g c t =
    let K = g.D.Disk in
    let d0 = c.args.disk.now in
    let old = K.content d0 in
    let P = IsAddedOrNot c.args.gate old c.args.bytes.now in
    let t1 = c.write_at.ensures.told.0 t in
    let t2 = c.sync.ensures.told.0 t1 in
    let first = first_crash c.args.gate old c.args.bytes.now (c.requires.long t) _ _ (c.requires.durable t) (c.write_at.ensures.torn t) in
    let at_start = started K.moment K.images_since d0 P (λ f left. inl (ap (λ (l : List ℕ). take (c.args.gate + 1) l) (c.requires.durable t f (g.met.D.Disk.only_now d0 f t left)))) in
    let behind = goes_on K.moment K.images_since d0 d0 c.write_at.new.self P _ at_start (c.write_at.ensures.time t) (λ f now. first f now) in
    let kept = goes_on K.moment K.images_since d0 c.write_at.new.self c.sync.new.self P _ behind (c.sync.ensures.time t1) (λ f now. first f ((c.sync.ensures.keeps t1).no_more f now)) in
    let is_staged = (c.sync.ensures.keeps t1).same ∙ c.in_ok-write_at.ensures.written t in
    let only = subst (λ (f : List ℕ). Only f (K.images c.sync.new.self)) is_staged (c.in_ok-sync.ensures.durable t1) in
    let second = second_crash c.args.gate old c.args.bytes.now (c.requires.long t) _ _ only (c.write_at-2.ensures.torn t2) in
    goes_on K.moment K.images_since d0 c.sync.new.self c.write_at-2.new.self P _ kept (c.write_at-2.ensures.time t2) second

pub returns-clause-any_moment : goal.returns-clause-any_moment
returns-clause-any_moment g c t =
    let K = g.D.Disk in
    let d0 = c.args.disk.now in
    let old = K.content d0 in
    let P = IsAddedOrNot c.args.gate old c.args.bytes.now in
    let t1 = c.write_at.ensures.told.0 t in
    let t2 = c.sync.ensures.told.0 t1 in
    let t3 = c.write_at-2.ensures.told.0 t2 in
    let first = first_crash c.args.gate old c.args.bytes.now (c.requires.long t) _ _ (c.requires.durable t) (c.write_at.ensures.torn t) in
    let at_start = started K.moment K.images_since d0 P (λ f left. inl (ap (λ (l : List ℕ). take (c.args.gate + 1) l) (c.requires.durable t f (g.met.D.Disk.only_now d0 f t left)))) in
    let behind = goes_on K.moment K.images_since d0 d0 c.write_at.new.self P _ at_start (c.write_at.ensures.time t) (λ f now. first f now) in
    let kept = goes_on K.moment K.images_since d0 c.write_at.new.self c.sync.new.self P _ behind (c.sync.ensures.time t1) (λ f now. first f ((c.sync.ensures.keeps t1).no_more f now)) in
    let is_staged = (c.sync.ensures.keeps t1).same ∙ c.in_ok-write_at.ensures.written t in
    let only = subst (λ (f : List ℕ). Only f (K.images c.sync.new.self)) is_staged (c.in_ok-sync.ensures.durable t1) in
    let second = second_crash c.args.gate old c.args.bytes.now (c.requires.long t) _ _ only (c.write_at-2.ensures.torn t2) in
    let torn = goes_on K.moment K.images_since d0 c.sync.new.self c.write_at-2.new.self P _ kept (c.write_at-2.ensures.time t2) second in
    goes_on K.moment K.images_since d0 c.write_at-2.new.self c.sync-2.new.self P _ torn (c.sync-2.ensures.time t3) (λ f now. second f ((c.sync-2.ensures.keeps t3).no_more f now))

pub returns-clause-added : goal.returns-clause-added
returns-clause-added g c = on_ok_weaker c.sync-2.result (λ _ t.
    let K = g.D.Disk in
    let old = K.content c.args.disk.now in
    let t1 = c.write_at.ensures.told.0 t in
    let t2 = c.sync.ensures.told.0 t1 in
    let t3 = c.write_at-2.ensures.told.0 t2 in
    let is_staged = (c.sync.ensures.keeps t1).same ∙ c.in_ok-write_at.ensures.written t in
    let is_opened = (c.sync-2.ensures.keeps t3).same ∙ c.in_ok-write_at-2.ensures.written t2 ∙ ap (λ (f : List ℕ). over f c.args.gate (1 ∷ [])) is_staged in
    subst (IsAdded c.args.gate old c.args.bytes.now) (sym is_opened) (opened c.args.gate old c.args.bytes.now (c.requires.long t))) c.sync-2.ensures.durable
