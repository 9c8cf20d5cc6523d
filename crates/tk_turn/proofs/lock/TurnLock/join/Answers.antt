use Rattle.std.proofs.Common.{[], ◌∷◌, rules, ap, sym, ◌∙◌, subst}
use Rattle.tk_turn.specs.Claims.{Claim, owns, joined, Follows}
use Rattle.tk_turn.specs.Views.{claim_in}
use Rattle.tk_turn.proofs.Shares.{joined_owns}
use Rattle.tk_turn.proofs.Calls.{seat_of, joins_as, compares_as, merged_me, compared, only_claim}
use Rattle.tk_turn.proofs.lock.TurnLock.join.Goals as goal

pub join_seat-requires : goal.join_seat-requires
join_seat-requires g c =
    let badge = c.replace-badge.ensures.value in
    let seat = c.into_seat-seat.ensures in
    let taken = c.into_seat.ensures in
    let mine = seat_of _ _ c.args.pass.now.claim c.pass.invariant (ap (λ v. v.claim) c.pass.view_is) (ap (λ b. b.views) (sym badge) ∙ seat.2) seat.3 in
    let theirs = seat_of _ _ c.args.other.claim c.other.invariant (ap (λ v. v.claim) c.other.view_is) taken.2 taken.3 in (
      seat.0 ∙ (ap (λ b. b.table_id) badge ∙ (ap (λ v. v.lock) c.pass.view_is ∙ (c.requires.lock.0 ∙ sym c.self.view_is))),
      taken.0 ∙ (ap (λ v. v.lock) c.other.view_is ∙ (c.requires.lock.1 ∙ sym c.self.view_is)),
      taken.3,
      search rules,
      joins_as g.S.Journaled.journal _ _ c.args.pass.now.claim _ _ c.args.other.claim (ap (λ m. m.0) mine) (ap (λ m. m.0) theirs) c.requires.first c.requires.other,
    )

pub load-requires : goal.load-requires
load-requires g c =
    let badge = c.replace-badge.ensures.value in
    let seat = c.into_seat-seat.ensures in
    let taken = c.into_seat.ensures in
    let pc = c.args.pass.now.claim in
    let oc = c.args.other.claim in
    let mine = seat_of _ _ pc c.pass.invariant (ap (λ v. v.claim) c.pass.view_is) (ap (λ b. b.views) (sym badge) ∙ seat.2) seat.3 in
    let theirs = seat_of _ _ oc c.other.invariant (ap (λ v. v.claim) c.other.view_is) taken.2 taken.3 in
    let both = merged_me _ _ _ pc oc mine theirs c.join_seat.ensures.2 in (
      c.join_seat.ensures.0 ∙ (seat.0 ∙ (ap (λ b. b.table_id) badge ∙ (ap (λ v. v.lock) c.pass.view_is ∙ (c.requires.lock.0 ∙ sym c.self.view_is)))),
      search rules,
      compares_as g.S.Journaled.journal _ _ _ (joined pc oc) (pc ∷ oc ∷ []) c.self.invariant.1 both,
    )

pub invariant_of-pass : goal.invariant_of-pass
invariant_of-pass g c =
    let badge = c.replace-badge.ensures.value in
    let seat = c.into_seat-seat.ensures in
    let taken = c.into_seat.ensures in
    let pc = c.args.pass.now.claim in
    let oc = c.args.other.claim in
    let mine = seat_of _ _ pc c.pass.invariant (ap (λ v. v.claim) c.pass.view_is) (ap (λ b. b.views) (sym badge) ∙ seat.2) seat.3 in
    let theirs = seat_of _ _ oc c.other.invariant (ap (λ v. v.claim) c.other.view_is) taken.2 taken.3 in
    let both = merged_me _ _ _ pc oc mine theirs c.join_seat.ensures.2 in
    let told = compared _ _ c.load.result pc oc both c.load.ensures.2 in
    only_claim _ (joined pc oc) _ c.into_badge.ensures.2 (ap (λ m. m.0) told.0)

pub returns : goal.returns
returns g c =
    let badge = c.replace-badge.ensures.value in
    let seat = c.into_seat-seat.ensures in
    let taken = c.into_seat.ensures in
    let pc = c.args.pass.now.claim in
    let oc = c.args.other.claim in
    let mine = seat_of _ _ pc c.pass.invariant (ap (λ v. v.claim) c.pass.view_is) (ap (λ b. b.views) (sym badge) ∙ seat.2) seat.3 in
    let theirs = seat_of _ _ oc c.other.invariant (ap (λ v. v.claim) c.other.view_is) taken.2 taken.3 in
    let both = merged_me _ _ _ pc oc mine theirs c.join_seat.ensures.2 in
    let told = compared _ _ c.load.result pc oc both c.load.ensures.2 in
    let claim = ap claim_in c.into_badge.ensures.2 ∙ ap (λ m. m.0.claim) told.0 in
    record {
      lock = c.into_badge.ensures.0 ∙ (c.load.ensures.0 ∙ (c.join_seat.ensures.0 ∙ (seat.0 ∙ (ap (λ b. b.table_id) badge ∙ ap (λ v. v.lock) c.pass.view_is))));
      claim = claim;
      owns = λ x. ap (λ (e : Claim). owns e x) claim ∙ joined_owns pc oc c.requires.first c.requires.other x;
      follows_first = subst (λ (e : Claim). Follows pc e.seen) (sym claim) told.1;
      follows_other = subst (λ (e : Claim). Follows oc e.seen) (sym claim) told.2;
    }
