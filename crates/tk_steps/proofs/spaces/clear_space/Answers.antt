use Rattle.std.proofs.Common.{◌≡◌, ◌<◌, ◌∙◌, List, Option, Some, ap, inr, length, subst, sym, ℕ}
use Rattle.std.specs.Prelude.{slice_get}
use Rattle.std.specs.Option.{IfSome}
use Rattle.std.proofs.lemmas.Option.{slice_get-get_or}
use Rattle.tk_steps.specs.May.{IsSpaceOf}
use Rattle.tk_steps.proofs.spaces.clear_space.Goals as goal

pub clear_own-requires : goal.clear_own-requires
clear_own-requires g c = record {
  own = inr (record {
    place = c.args.place;
    own = c.index-as_slice-place.result;
    planned =
        let within : c.args.place < length c.as_slice.result.now = subst (λ (l : List (List ℕ)). c.args.place < length l) (sym c.as_slice.ensures) c.requires.within in
        subst (λ (l : List (List ℕ)). slice_get l c.args.place ≡ Some c.index-as_slice-place.result) c.as_slice.ensures
        (slice_get-get_or c.as_slice.result.now c.args.place c.index-as_slice-place.result within ∙ ap Some (sym c.index-as_slice-place.is));
    lies = subst (λ (o : Option (List ℕ)). IfSome o (IsSpaceOf c.args.root.now c.args.pod.now.name c.index-as_slice-place.result)) c.in-Some.is c.in_ok-space.ensures;
  });
  unarmed = c.requires.unarmed;
  holds = c.requires.holds;
}
