-- What is written of a part of an entry is read again: Fronts, Actor, Entry.
use Rattle.std.proofs.Common.{◌≡◌, List, [], ◌∷◌, Some, codes, refl}
use Rattle.json.specs.Token.{Token}
use Rattle.tk_payload.specs.Forms.{count, fields, fronts_json, actor_json, entry_json}
use Rattle.tk_payload.specs.Fits.{FrontsFits, ActorFits, EntryFits}
use Rattle.tk_payload.specs.Steps.{word_at}
use Rattle.tk_payload.specs.Reading.{fronts_at, actor_at, entry_at, actor_under, actor_kubelet_at}
use Rattle.tk_payload.proofs.Again.{Again, field, key_known, before, count_again_32, count_again_64}
use Rattle.tk_payload.proofs.ActAgain.{act_again}
use Rattle.tk_journal.specs.declared.entry.Fronts.{Fronts}
use Rattle.tk_journal.specs.declared.entry.Actor.{Actor}
use Rattle.tk_journal.specs.declared.entry.Actor.TheVariants as actors
use Rattle.tk_journal.specs.declared.entry.Entry.{Entry}

fronts_read : (x : Fronts) (rest : List Token) → FrontsFits x → fronts_at (before (fronts_json x) rest) ≡ Some (x, rest)
unfolding fronts_at
fronts_read x rest fits =
    rw (
      field count_again_64 (codes "pods") x.pods _ fits.2,
      field count_again_64 (codes "runs") x.runs _ fits.0,
      field count_again_64 (codes "task_runs") x.task_runs _ fits.1,
      fronts_at,
    ) refl

pub fronts_again : Again FrontsFits fronts_json fronts_at
fronts_again = record { again = fronts_read }

actor_read : (x : Actor) (rest : List Token) → ActorFits x → actor_at (before (actor_json x) rest) ≡ Some (x, rest)
unfolding actor_at word_at actor_under actor_kubelet_at
actor_read actors.Admission rest fits = refl
actor_read actors.User rest fits = refl
actor_read (actors.Runs x) rest fits = rw (key_known (codes "Runs") (count x) _, count_again_32.again x _ fits, actor_at, actor_under) refl
actor_read (actors.Tasks x) rest fits = rw (key_known (codes "Tasks") (count x) _, count_again_32.again x _ fits, actor_at, actor_under) refl
actor_read (actors.Kubelet number life) rest fits =
    rw (
      key_known (codes "Kubelet") (fields ((codes "life", count life) ∷ (codes "number", count number) ∷ [])) _,
      field count_again_32 (codes "life") life _ fits.1,
      field count_again_32 (codes "number") number _ fits.0,
      actor_at,
      actor_under,
      actor_kubelet_at,
    ) refl

pub actor_again : Again ActorFits actor_json actor_at
actor_again = record { again = actor_read }

entry_read : (x : Entry) (rest : List Token) → EntryFits x → entry_at (before (entry_json x) rest) ≡ Some (x, rest)
unfolding entry_at
entry_read x rest fits =
    rw (
      field act_again (codes "act") x.act _ fits.3,
      field actor_again (codes "actor") x.actor _ fits.0,
      field fronts_again (codes "fronts") x.fronts _ fits.1,
      field count_again_64 (codes "moment") x.moment _ fits.2,
      entry_at,
    ) refl

pub entry_again : Again EntryFits entry_json entry_at
entry_again = record { again = entry_read }
