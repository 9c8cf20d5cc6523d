-- A refusal that the history explains.
use Rattle.std.proofs.Common.{◌≡◌, ℕ, List, Option, Some, true, false, inl, inr, subst}
use Rattle.std.proofs.lemmas.Option.{same_Some}
use Rattle.std.proofs.Common.{sym, ◌∙◌, Bool}
use Rattle.tk_pod.specs.Exits.{passes}
use Rattle.tk_edge.specs.declared.event.Arming.{Arming}
use Rattle.tk_edge.specs.declared.event.Event.{Event}
use Rattle.tk_edge.specs.History.{Has, arming_of, exit_of, is_refused}
use Rattle.tk_process.specs.Before.{IsExplained, PostsFor}

-- the step before was refused
pub by_refusal : (arming : Arming) (child : ℕ) (told : List Event) → Has (arming_of child told) (PostsFor arming) → is_refused child told ≡ true → IsExplained arming told
by_refusal arming child told posts refused = record { child = child; other = posts.it; armed = posts.is; posts = posts.has; broke = inl refused }

-- it ended with an exit that doesn't pass
pub by_exit : (arming other : Arming) (child exit : ℕ) (told : List Event) → Has (arming_of child told) (PostsFor arming) → arming_of child told ≡ Some other → exit_of child told ≡ Some exit → passes other.keep_going exit ≡ false → IsExplained arming told
by_exit arming other child exit told posts armed exited fails =
    let same : posts.it ≡ other = same_Some posts.it other (sym posts.is ∙ armed) in
    record {
      child = child;
      other = other;
      armed = armed;
      posts = subst (PostsFor arming) same posts.has;
      broke = inr record { it = exit; is = exited; has = fails };
    }
