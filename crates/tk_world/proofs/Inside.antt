-- What answers of calls come to together, and places in what stands inside.
use Rattle.std.proofs.Common.{◌≡◌, ◌<◌, ℕ, length, Some, Ok, Err, refl, sym, subst, get_or}
use Rattle.std.specs.Prelude.{Result, IfOk, OnOk, slice_get}
use Rattle.std.proofs.lemmas.Option.{slice_get_read}
use Rattle.tk_cache.specs.Views.{Kept}
use Rattle.tk_world.specs.declared.node.Node.{Node}
use Rattle.tk_world.specs.Whole.{IsWorld, Whole}

pub ok_both : {T E A B C : Type 0} (r : Result T E) → OnOk r A → OnOk r B → (A → B → C) → OnOk r C
ok_both (Ok x) a b f = f a b
ok_both (Err e) a b f = tt

pub if_both : {T E A : Type 0} {P Q : T → Type 0} (r : Result T E) → IfOk r P → OnOk r A → ((x : T) → P x → A → Q x) → IfOk r Q
if_both (Ok x) p a f = f x p a
if_both (Err e) p a f = tt

pub if_ok : {T E : Type 0} {P : T → Type 0} {C : Type 0} (r : Result T E) → IfOk r P → ((x : T) → P x → C) → OnOk r C
if_ok (Ok x) p f = f x p
if_ok (Err e) p f = tt

module _ (inside whole : Whole) (is : inside ≡ whole) (world : IsWorld whole) where
  pub stands_inside : IsWorld inside
  stands_inside = subst IsWorld (sym is) world

  pub controller_at : (i : ℕ) (cache : Kept) → i < length whole.controllers → cache ≡ get_or inside.controllers i cache → slice_get inside.controllers i ≡ Some cache
  controller_at i cache within value = slice_get_read inside.controllers (length inside.controllers) i cache refl (subst (λ (w : Whole). i < length w.controllers) (sym is) within) value

  pub node_at : (i : ℕ) (node : Node) → i < length whole.nodes → node ≡ get_or inside.nodes i node → slice_get inside.nodes i ≡ Some node
  node_at i node within value = slice_get_read inside.nodes (length inside.nodes) i node refl (subst (λ (w : Whole). i < length w.nodes) (sym is) within) value
