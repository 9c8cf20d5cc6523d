use Rattle.std.proofs.Common.{◌≡◌, ◌∙◌, ap, find, Option, Some, None, option_map, refl}
use Rattle.std.specs.Prelude.{option_and_then, unwrap_or}
use Rattle.tk_validate.specs.declared.seen.Seen.{Seen}
use Rattle.tk_validate.specs.Seen.{is_of_name}
use Rattle.tk_validate.proofs.seen.layers.Layers.kind.Goals as goal

flat : {X Y : Type 0} (f : X → Option Y) (o : Option X) → unwrap_or (option_map f o) None ≡ option_and_then f o
flat f None = refl
flat f (Some x) = refl

pub returns : goal.returns
returns c = c.unwrap_or.ensures ∙ (ap (λ o. unwrap_or o None) c.get.ensures ∙ flat (λ (s : Seen). s.kind) (find (is_of_name c.args.name.now) c.args.self.now))
