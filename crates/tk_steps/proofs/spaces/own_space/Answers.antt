use Rattle.std.proofs.Common.{◌≡◌, ◌∙◌, List, ℕ, ap, subst, sym}
use Rattle.tk_space.specs.Apart.{IsWithin}
use Rattle.tk_space.specs.Space.{below, spaces_folder}
use Rattle.tk_steps.proofs.Behind.{within_below}
use Rattle.tk_steps.proofs.spaces.own_space.Goals as goal

pub returns : goal.returns
returns c =
    let spaces = spaces_folder c.args.root.now c.args.pod.now in
    let name = c.first_name.result.now in
    let rest = c.in-Some.rest.now in
    let folder : c.args.folder.now ≡ below spaces rest = sym c.as_str.ensures ∙ (c.in-Some.ensures ∙ ap (λ (p : List ℕ). below p rest) (c.as_str-2.ensures.value ∙ c.in_ok-path.ensures)) in
    let at : c.from_string.result ≡ below spaces name = c.from_string.ensures ∙ (c.in_ok-go_below.ensures ∙ ap (λ (p : List ℕ). below p name) c.in_ok-path.ensures) in
    record {
      space = name;
      at = at;
      within = subst (λ (f : List ℕ). IsWithin f c.args.folder.now) (sym at) (subst (IsWithin (below spaces name)) (sym folder) (within_below spaces name rest c.first_name.ensures));
    }
