-- Histories that go on by what may be added.
use Rattle.std.proofs.Common.{◌≡◌, List, [], ◌∷◌, ◌++◌, sym, ◌∙◌, ap, subst}
use Rattle.std.proofs.lemmas.List.{append_assoc}
use Rattle.tk_edge.specs.declared.event.Event.{Event}
use Rattle.tk_steps.specs.May.{EachSince, Adds}

module _ (P : Event → List Event → Type 0) where
  pub adds_none : (h new : List Event) → new ≡ h → Adds P h new
  adds_none h new is = record { since = []; is = is; each = tt }

  pub adds_one : (e : Event) (old new : List Event) → new ≡ e ∷ old → P e old → Adds P old new
  adds_one e old new is may = record { since = e ∷ []; is = is; each = (may, tt) }

  each_append : (later sooner base : List Event) → EachSince P sooner base → EachSince P later (sooner ++ base) → EachSince P (later ++ sooner) base
  each_append [] sooner base first second = first
  each_append (e ∷ later) sooner base first second =
      (subst (P e) (sym (append_assoc later sooner base)) second.0, each_append later sooner base first second.1)

  pub adds_then : (a b c : List Event) → Adds P a b → Adds P b c → Adds P a c
  adds_then a b c first second = record {
    since = second.since ++ first.since;
    is = second.is ∙ (ap (λ (h : List Event). second.since ++ h) first.is ∙ sym (append_assoc second.since first.since a));
    each = each_append second.since first.since a first.each (subst (EachSince P second.since) first.is second.each);
  }

  -- what each event keeps, all of them keep
  module _ (Q : List Event → Type 0) (keeps : (e : Event) (h : List Event) → P e h → Q h → Q (e ∷ h)) where
    each_keeps : (since old : List Event) → EachSince P since old → Q old → Q (since ++ old)
    each_keeps [] old each q = q
    each_keeps (e ∷ since) old each q = keeps e (since ++ old) each.0 (each_keeps since old each.1 q)

    pub adds_keep : (old new : List Event) → Adds P old new → Q old → Q new
    adds_keep old new adds q = subst Q (sym adds.is) (each_keeps adds.since old adds.each q)

-- what may be added more freely
pub adds_more : (P R : Event → List Event → Type 0) → ((e : Event) (h : List Event) → P e h → R e h) → (old new : List Event) → Adds P old new → Adds R old new
adds_more P R more old new adds = record { since = adds.since; is = adds.is; each = go adds.since adds.each }
  where
    go : (since : List Event) → EachSince P since old → EachSince R since old
    go [] each = tt
    go (e ∷ since) each = (more e (since ++ old) each.0, go since each.1)
