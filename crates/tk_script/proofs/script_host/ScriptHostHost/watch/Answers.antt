use Rattle.std.proofs.Common.{refl, ◌∙◌, ap, subst}
use Rattle.std.specs.Prelude.{Some}
use Rattle.tk_edge.specs.HostLog.{flags}
use Rattle.tk_edge.specs.Markers.{FollowsMarkers, IsFileOf}
use Rattle.tk_edge.specs.Plays.{IsPlayed}
use Rattle.tk_script.specs.ScriptHost.{Playing, plays_of, script_file, script_files}
use Rattle.tk_script.proofs.ScriptFiles.{markers_hold, watch_plays, watch_rest}
use Rattle.tk_script.proofs.script_host.ScriptHostHost.watch.Goals as goal

pub returns-clause-markers : goal.returns-clause-markers
returns-clause-markers c = subst (λ (p : Playing). FollowsMarkers c.args.child (flags p.log.killed c.args.child) p.log.told (Some (script_files p.scripts p.log.told)) c.in_ok-watch.watch) c.self.view_is (markers_hold _ _ _ _ _ c.in_ok-watch.ensures.exact)

pub returns-clause-played : goal.returns-clause-played
returns-clause-played c =
    subst (λ (p : Playing). IsPlayed (plays_of p) (flags p.log.killed c.args.child) c.args.child p.log.told c.in_ok-watch.watch) c.self.view_is
    (watch_plays c.self.inside.failures.failing _ _ _ _ _ c.in_ok-watch.ensures.exact)

pub returns-clause-others : goal.returns-clause-others
returns-clause-others c = (
  _,
  refl,
  λ path differ.
      watch_rest _ _ c.args.child path c.self.inside.played.log.told _ _ c.in_ok-watch.watch (c.watched-2.ensures.scripts ∙ c.in_ok-watch.ensures.scripts) c.watched-2.ensures.told c.in_ok-watch.ensures.told (λ own. differ (subst (λ (p : Playing). IsFileOf c.args.child p.log.told path) c.self.view_is own))
      ∙ ap (λ (p : Playing). script_file p.scripts path p.log.told) c.self.view_is,
)
