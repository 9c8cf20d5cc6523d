-- Each event that a text tells may come: its actor exists, and it doesn't set the clock back.
use Rattle.std.proofs.Common.{◌≡◌, ℕ, ◌<◌, Bool, true, false, ◌&&◌, List, [], ◌∷◌, Option, Some, None, IfSome, codes, bytes_eq, nat_le, nat_lt, refl}
use Rattle.std.specs.Prelude.{All, unwrap_or}
use Rattle.std.proofs.lemmas.Bool.{and_parts, leb-true, ltb-true}
use Rattle.std.proofs.lemmas.List.Elements.{All-cons, All-nil}
use Rattle.serde_json.specs.Data.{Data}
use Rattle.tk_types.specs.declared.scenario.Event.{Event}
use Rattle.tk_types.specs.declared.scenario.Event.TheVariants.{Deliver, Relist, Clock, Round}
use Rattle.tk_types.specs.declared.scenario.Kind.{Kind}
use Rattle.tk_types.specs.declared.scenario.Viewer.{Viewer}
use Rattle.tk_types.specs.declared.scenario.Viewer.TheVariants.{Controller, Kubelet}
use Rattle.tk_types.specs.declared.scenario.Taker.TheVariants.{Runs as RunsOf, Tasks as TasksOf, Kubelet as KubeletOf}
use Rattle.tk_fields.specs.Get.{text_of}
use Rattle.tk_scenario.specs.declared.actors.Counts.{Counts}
use Rattle.tk_scenario.specs.Event.{ask_of, clock_of, deliver_all_of, deliver_of, event_by, event_of, last_moment, move_of, reading_after, relist_of, restart_of, round_of, turn_of}
use Rattle.tk_scenario.specs.Scenario.{event_told, events_from}
use Rattle.tk_scenario.specs.Words.{index_told, kind_told, number_told, only_if, status_told, taker_told, viewer_told, words_of}
use Rattle.tk_machine.specs.Events.{HasTaker, HasViewer, MayAllCome, MayCome}
use Rattle.tk_scenario_laws.specs.Laws.{IsTimely}
use Rattle.tk_scenario_laws.proofs.Told.{anything, either_told, first_told, mapped_told, next_told, only_if_told}

-- an index is below the number of its actors
below : (count i : ℕ) (is : Bool) → nat_lt i count ≡ is → IfSome (only_if is (Some i)) (λ i. i < count)
below count i true e = ltb-true i count e
below count i false e = tt

index_below : (count : ℕ) (word : List ℕ) → IfSome (index_told count word) (λ i. i < count)
index_below count word =
    next_told (λ i. Unit {0}) (λ i. i < count) (number_told word) (λ i. only_if (nat_lt i count) (Some i)) (anything (number_told word)) (λ i any. below count i (nat_lt i count) refl)

module _ (counts : Counts) where
  abbrev There : Viewer → Type 0
  There = HasViewer counts.controllers counts.kubelets

  viewer_there : (who i : List ℕ) → IfSome (viewer_told counts who i) There
  viewer_there who i =
      either_told There (bytes_eq who (codes "controller")) _ _
      (mapped_told There Controller (index_told counts.controllers i) (index_below counts.controllers i))
      (either_told There (bytes_eq who (codes "kubelet")) _ None
      (mapped_told There Kubelet (index_told counts.kubelets i) (index_below counts.kubelets i))
      tt)

  taker_there : (who i : List ℕ) → IfSome (taker_told counts who i) (HasTaker counts.controllers counts.kubelets)
  taker_there who i =
      let Has = HasTaker counts.controllers counts.kubelets in
      either_told Has (bytes_eq who (codes "runs")) _ _
      (mapped_told Has RunsOf (index_told counts.controllers i) (index_below counts.controllers i))
      (either_told Has (bytes_eq who (codes "tasks")) _ _
      (mapped_told Has TasksOf (index_told counts.controllers i) (index_below counts.controllers i))
      (either_told Has (bytes_eq who (codes "kubelet")) _ None
      (mapped_told Has KubeletOf (index_told counts.kubelets i) (index_below counts.kubelets i))
      tt))

  -- while the clock has a reading
  module _ (reading : ℕ) where
    abbrev Comes : Event → Type 0
    Comes event = MayCome counts.controllers counts.kubelets reading event × IsTimely event

    move_comes : (make : Viewer → Kind → ℕ → Event) → ((viewer : Viewer) (kind : Kind) (n : ℕ) → There viewer → Comes (make viewer kind n))
        → (who i kind n : List ℕ) → IfSome (move_of make counts who i kind n) Comes
    move_comes make comes who i kind n =
        next_told There Comes (viewer_told counts who i) _ (viewer_there who i) (λ viewer there.
        next_told (λ k. Unit {0}) Comes (kind_told kind) _ (anything (kind_told kind)) (λ k any.
        next_told (λ m. Unit {0}) Comes (number_told n) _ (anything (number_told n)) (λ m any. comes viewer k m there)))

    deliver_comes : (words : List (List ℕ)) → IfSome (deliver_of counts words) Comes
    deliver_comes (verb ∷ who ∷ i ∷ kind ∷ n ∷ []) =
        only_if_told Comes (bytes_eq verb (codes "deliver")) _ (move_comes Deliver (λ viewer k m there. (there, tt)) who i kind n)
    deliver_comes words = tt

    relist_comes : (words : List (List ℕ)) → IfSome (relist_of counts words) Comes
    relist_comes (verb ∷ who ∷ i ∷ kind ∷ p ∷ []) =
        only_if_told Comes (bytes_eq verb (codes "relist")) _ (move_comes Relist (λ viewer k m there. (there, tt)) who i kind p)
    relist_comes words = tt

    deliver_all_comes : (words : List (List ℕ)) → IfSome (deliver_all_of counts words) Comes
    deliver_all_comes (verb ∷ who ∷ i ∷ every ∷ []) =
        only_if_told Comes (bytes_eq verb (codes "deliver") && bytes_eq every (codes "all")) _
        (next_told There Comes (viewer_told counts who i) _ (viewer_there who i) (λ viewer there. (there, tt)))
    deliver_all_comes words = tt

    turn_comes : (words : List (List ℕ)) → IfSome (turn_of counts words) Comes
    turn_comes (verb ∷ who ∷ i ∷ []) =
        only_if_told Comes (bytes_eq verb (codes "turn")) _
        (next_told (HasTaker counts.controllers counts.kubelets) Comes (taker_told counts who i) _ (taker_there who i) (λ taker there. (there, tt)))
    turn_comes words = tt

    restart_comes : (words : List (List ℕ)) → IfSome (restart_of counts words) Comes
    restart_comes (verb ∷ who ∷ i ∷ []) =
        only_if_told Comes (bytes_eq verb (codes "restart")) _
        (next_told There Comes (viewer_told counts who i) _ (viewer_there who i) (λ viewer there. (there, tt)))
    restart_comes words = tt

    ask_comes : (words : List (List ℕ)) → IfSome (ask_of words) Comes
    ask_comes (verb ∷ name ∷ status ∷ []) =
        only_if_told Comes _ _
        (next_told (λ asked. Unit {0}) Comes (status_told status) _ (anything (status_told status)) (λ asked any. (tt, tt)))
    ask_comes words = tt

    moment_comes : (moment : ℕ) (is : Bool) → (nat_le reading moment && nat_le moment last_moment) ≡ is → IfSome (only_if is (Some (Clock moment))) Comes
    moment_comes moment true e =
        let both = and_parts (nat_le reading moment) (nat_le moment last_moment) e in
        (leb-true reading moment both.0, leb-true moment last_moment both.1)
    moment_comes moment false e = tt

    clock_comes : (words : List (List ℕ)) → IfSome (clock_of reading words) Comes
    clock_comes (verb ∷ m ∷ []) =
        only_if_told Comes (bytes_eq verb (codes "clock")) _
        (next_told (λ moment. Unit {0}) Comes (number_told m) _ (anything (number_told m)) (λ moment any. moment_comes moment _ refl))
    clock_comes words = tt

    round_comes : (words : List (List ℕ)) → IfSome (round_of words) Comes
    round_comes (verb ∷ []) = only_if_told Comes (bytes_eq verb (codes "round")) (Some Round) (tt, tt)
    round_comes words = tt

    by_words : (words : List (List ℕ)) → IfSome (event_by counts reading words) Comes
    by_words words =
        first_told Comes
        (deliver_of counts words
        ∷ deliver_all_of counts words
        ∷ relist_of counts words
        ∷ turn_of counts words
        ∷ restart_of counts words
        ∷ ask_of words
        ∷ clock_of reading words
        ∷ round_of words
        ∷ [])
        (deliver_comes words, (deliver_all_comes words, (relist_comes words, (turn_comes words, (restart_comes words, (ask_comes words, (clock_comes words, (round_comes words, tt))))))))

    -- `round` stands for a text that tells no event
    or_round : (found : Option Event) → IfSome found Comes → Comes (unwrap_or found Round)
    or_round None comes = (tt, tt)
    or_round (Some event) comes = comes

    told_comes : (d : Data) → Comes (event_told counts reading d)
    unfolding event_told
    told_comes d = or_round (event_of counts reading (text_of d)) (by_words (words_of (text_of d)))

  -- the clock goes on as the texts are read
  comes_first : (reading : ℕ) (event : Event) (later : List Event) → MayCome counts.controllers counts.kubelets reading event
      → MayAllCome counts.controllers counts.kubelets (reading_after reading event) later → MayAllCome counts.controllers counts.kubelets reading (event ∷ later)
  comes_first reading (Clock moment) later may rest = (may, rest)
  comes_first reading event later may rest = (may, rest)

  pub events_come : (reading : ℕ) (ds : List Data) → MayAllCome counts.controllers counts.kubelets reading (events_from counts reading ds)
  events_come reading [] = tt
  events_come reading (d ∷ ds) =
      let event = event_told counts reading d in
      let later = reading_after reading event in
      comes_first reading event (events_from counts later ds) (told_comes reading d).0 (events_come later ds)

  pub events_timely : (reading : ℕ) (ds : List Data) → All IsTimely (events_from counts reading ds)
  events_timely reading [] = All-nil IsTimely
  events_timely reading (d ∷ ds) =
      let event = event_told counts reading d in
      All-cons IsTimely event (events_from counts (reading_after reading event) ds) (told_comes reading d).1 (events_timely (reading_after reading event) ds)
