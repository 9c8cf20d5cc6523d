-- The ends of the program exclude one another.
use Rattle.std.proofs.Common.{◌≡◌, ◌⊎◌, ◌<◌, ◌-◌, ◌^◌, ℕ, suc, List, Bool, true, false, length, refl, sym, ◌∙◌, ap, inl, inr, arith}
use Rattle.tk_edge.specs.declared.order.Order.{Order}
use Rattle.tk_edge.specs.declared.event.Event.{Event}
use Rattle.tk_pod.specs.Exits.{passes}
use Rattle.tk_enter.specs.declared.words.EntryWords.{EntryWords}
use Rattle.tk_enter.specs.declared.entering.Ended.{Ended}
use Rattle.tk_enter.specs.declared.entering.Ended.TheVariants as ways
use Rattle.tk_enter.specs.Enter.{Moment, began, ended, refused, Ends, IsRefused, Kills, Rises, EndsAs}
use Rattle.tk_enter.specs.Laws.{StatusTellsEnd, NoEndIsUsage, EndsAreApart}

pub status_tells_end : StatusTellsEnd
status_tells_end ways.Passed ways.Passed is = refl
status_tells_end ways.Broke ways.Broke is = refl
status_tells_end ways.Fault ways.Fault is = refl
status_tells_end ways.Cancelled ways.Cancelled is = refl
status_tells_end ways.Memory ways.Memory is = refl
status_tells_end ways.Passed ways.Broke is = absurd (omega (arith, is))
status_tells_end ways.Passed ways.Fault is = absurd (omega (arith, is))
status_tells_end ways.Passed ways.Cancelled is = absurd (omega (arith, is))
status_tells_end ways.Passed ways.Memory is = absurd (omega (arith, is))
status_tells_end ways.Broke ways.Passed is = absurd (omega (arith, is))
status_tells_end ways.Broke ways.Fault is = absurd (omega (arith, is))
status_tells_end ways.Broke ways.Cancelled is = absurd (omega (arith, is))
status_tells_end ways.Broke ways.Memory is = absurd (omega (arith, is))
status_tells_end ways.Fault ways.Passed is = absurd (omega (arith, is))
status_tells_end ways.Fault ways.Broke is = absurd (omega (arith, is))
status_tells_end ways.Fault ways.Cancelled is = absurd (omega (arith, is))
status_tells_end ways.Fault ways.Memory is = absurd (omega (arith, is))
status_tells_end ways.Cancelled ways.Passed is = absurd (omega (arith, is))
status_tells_end ways.Cancelled ways.Broke is = absurd (omega (arith, is))
status_tells_end ways.Cancelled ways.Fault is = absurd (omega (arith, is))
status_tells_end ways.Cancelled ways.Memory is = absurd (omega (arith, is))
status_tells_end ways.Memory ways.Passed is = absurd (omega (arith, is))
status_tells_end ways.Memory ways.Broke is = absurd (omega (arith, is))
status_tells_end ways.Memory ways.Fault is = absurd (omega (arith, is))
status_tells_end ways.Memory ways.Cancelled is = absurd (omega (arith, is))

pub no_end_is_usage : NoEndIsUsage
no_end_is_usage ways.Passed is = omega (arith, is)
no_end_is_usage ways.Broke is = omega (arith, is)
no_end_is_usage ways.Fault is = omega (arith, is)
no_end_is_usage ways.Cancelled is = omega (arith, is)
no_end_is_usage ways.Memory is = omega (arith, is)

-- histories of other lengths

not_refused : (w : EntryWords) (order : Order) (child exit : ℕ) (told : List Event) → ended w order child exit told ≡ refused w told → ⊥
not_refused w order child exit told is = let same : suc (suc (suc (suc (suc (length told))))) ≡ suc (length told) = ap length is in omega arith

not_killed : (w : EntryWords) (order : Order) (child other exit : ℕ) (told : List Event) → ended w order child exit told ≡ refused w (began w order other told) → ⊥
not_killed w order child other exit told is = let same : suc (suc (suc (suc (suc (length told))))) ≡ suc (suc (suc (length told))) = ap length is in omega arith

-- one exit passes or doesn't
not_both : (w : EntryWords) (order : Order) (first last : Moment) → Ends w order true first last → Ends w order false first last → ⊥
not_both w order first last e f =
    let same : ended w order e.child e.exit first.told ≡ ended w order f.child f.exit first.told = sym e.told ∙ f.told in
    let exits : e.exit ≡ f.exit = cc in
    let both : true ≡ false = sym e.is ∙ (ap (passes w.keep_going) exits ∙ f.is) in
    cc

-- a count that rose isn't as before
not_risen : (before now : ℕ) → before < 2 ^ 64 - 1 → Rises before now → now ≡ before → ⊥
not_risen before now below (inl once) same = omega arith
not_risen before now below (inr twice) same = omega arith

-- a command that ended isn't cancelled
not_cancelled : (w : EntryWords) (order : Order) (passed : Bool) (first last : Moment) → Ends w order passed first last → (last.told ≡ refused w first.told) ⊎ Kills w order first last → ⊥
not_cancelled w order passed first last e (inl told) = not_refused w order e.child e.exit first.told (sym e.told ∙ told)
not_cancelled w order passed first last e (inr k) = not_killed w order e.child k.child e.exit first.told (sym e.told ∙ k.told)

pub ends_are_apart : EndsAreApart
ends_are_apart w order gone first last one other below a b = apart one other a.how b.how
  where
    broke_passed : Ends w order true first last → Ends w order false first last ⊎ IsRefused w first last → ⊥
    broke_passed e (inl f) = not_both w order first last e f
    broke_passed e (inr r) = not_refused w order e.child e.exit first.told (sym e.told ∙ r.told)

    broke_cancelled : Ends w order false first last ⊎ IsRefused w first last → (last.told ≡ refused w first.told) ⊎ Kills w order first last → last.told ≡ refused w first.told
    broke_cancelled (inl e) how = absurd (not_cancelled w order false first last e how)
    broke_cancelled (inr r) how = r.told

    apart : (one other : Ended) → EndsAs w order gone first last one → EndsAs w order gone first last other → (one ≡ other) ⊎ (one ≡ ways.Memory) ⊎ (other ≡ ways.Memory) ⊎ (last.told ≡ refused w first.told)
    apart ways.Memory other a b = inr (inl refl)
    apart ways.Passed ways.Passed a b = inl refl
    apart ways.Broke ways.Broke a b = inl refl
    apart ways.Fault ways.Fault a b = inl refl
    apart ways.Cancelled ways.Cancelled a b = inl refl
    apart ways.Passed ways.Memory a b = inr (inr (inl refl))
    apart ways.Broke ways.Memory a b = inr (inr (inl refl))
    apart ways.Fault ways.Memory a b = inr (inr (inl refl))
    apart ways.Cancelled ways.Memory a b = inr (inr (inl refl))
    apart ways.Passed ways.Broke a b = absurd (broke_passed a.0 b.0)
    apart ways.Broke ways.Passed a b = absurd (broke_passed b.0 a.0)
    apart ways.Passed ways.Fault a b = absurd (not_risen first.faults last.faults below b a.1)
    apart ways.Fault ways.Passed a b = absurd (not_risen first.faults last.faults below a b.1)
    apart ways.Broke ways.Fault a b = absurd (not_risen first.faults last.faults below b a.1)
    apart ways.Fault ways.Broke a b = absurd (not_risen first.faults last.faults below a b.1)
    apart ways.Cancelled ways.Fault a b = absurd (not_risen first.faults last.faults below b a.1)
    apart ways.Fault ways.Cancelled a b = absurd (not_risen first.faults last.faults below a b.1)
    apart ways.Passed ways.Cancelled a b = absurd (not_cancelled w order true first last a.0 b.0.how)
    apart ways.Cancelled ways.Passed a b = absurd (not_cancelled w order true first last b.0 a.0.how)
    apart ways.Broke ways.Cancelled a b = inr (inr (inr (broke_cancelled a.0 b.0.how)))
    apart ways.Cancelled ways.Broke a b = inr (inr (inr (broke_cancelled b.0 a.0.how)))
