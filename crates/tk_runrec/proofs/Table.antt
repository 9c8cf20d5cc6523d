-- The first act of a run's rows, where the rows in the middle are looked at together.
use Rattle.std.proofs.Common.{◌≡◌, [], ◌∷◌, Option, Some, None, refl, sym}
use Rattle.tk_journal.specs.declared.act.Act.{Act}
use Rattle.tk_choice.specs.First.{first_act}

-- they give an act
pub middle_gives : (a b c d e f : Option Act) (act : Act) → a ≡ None → b ≡ None → first_act (c ∷ d ∷ e ∷ []) ≡ Some act → Some act ≡ first_act (a ∷ b ∷ c ∷ d ∷ e ∷ f ∷ [])
middle_gives (Some a) b c d e f act none_a none_b some = absurd (cc (none_a))
middle_gives None (Some b) c d e f act none_a none_b some = absurd (cc (none_b))
middle_gives None None (Some c) d e f act none_a none_b some = sym some
middle_gives None None None (Some d) e f act none_a none_b some = sym some
middle_gives None None None None (Some e) f act none_a none_b some = sym some
middle_gives None None None None None f act none_a none_b some = absurd (cc (some))

-- they give none
pub middle_misses : (a b c d e f : Option Act) → a ≡ None → b ≡ None → first_act (c ∷ d ∷ e ∷ []) ≡ None → f ≡ first_act (a ∷ b ∷ c ∷ d ∷ e ∷ f ∷ [])
middle_misses (Some a) b c d e f none_a none_b none = absurd (cc (none_a))
middle_misses None (Some b) c d e f none_a none_b none = absurd (cc (none_b))
middle_misses None None (Some c) d e f none_a none_b none = absurd (cc (none))
middle_misses None None None (Some d) e f none_a none_b none = absurd (cc (none))
middle_misses None None None None (Some e) f none_a none_b none = absurd (cc (none))
middle_misses None None None None None (Some f) none_a none_b none = refl
middle_misses None None None None None None none_a none_b none = refl
