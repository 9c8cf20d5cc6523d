use Rattle.tk_steps.proofs.Moved.{moves_then}
use Rattle.std.proofs.Common.{◌≡◌, true}
use Rattle.tk_edge.specs.History.{was_put}
use Rattle.tk_space.specs.Space.{pod_folder}
use Rattle.tk_steps.specs.Paths.{start_path}
use Rattle.tk_steps.specs.Ready.{was_cleared, AreSpacesMade}
use Rattle.tk_steps.proofs.Readies.{cleared_by, cleared_stays, put_by, ready_made, spaces_stay}
use Rattle.tk_steps.proofs.arming.prepare.Goals as goal

pub returns-in_err-clear_spaces-clause-moves : goal.returns-in_err-clear_spaces-clause-moves
returns-in_err-clear_spaces-clause-moves g c = moves_then _ _ _ _ _ _ _ c.clear_own.ensures.moves c.clear_spaces.ensures.moves

pub returns-in_err-put_spaces-clause-moves : goal.returns-in_err-put_spaces-clause-moves
returns-in_err-put_spaces-clause-moves g c =
    moves_then _ _ _ _ _ _ _ c.clear_own.ensures.moves (moves_then _ _ _ _ _ _ _ c.clear_spaces.ensures.moves c.put_spaces.ensures.moves)

pub returns-in_err-put_own-clause-moves : goal.returns-in_err-put_own-clause-moves
returns-in_err-put_own-clause-moves g c =
    moves_then _ _ _ _ _ _ _ c.clear_own.ensures.moves
    (moves_then _ _ _ _ _ _ _ c.clear_spaces.ensures.moves (moves_then _ _ _ _ _ _ _ c.put_spaces.ensures.moves c.put_own.ensures.moves))

pub returns-clause-moves : goal.returns-clause-moves
returns-clause-moves g c =
    moves_then _ _ _ _ _ _ _ c.clear_own.ensures.moves
    (moves_then _ _ _ _ _ _ _ c.clear_spaces.ensures.moves
    (moves_then _ _ _ _ _ _ _ c.put_spaces.ensures.moves (moves_then _ _ _ _ _ _ _ c.put_own.ensures.moves c.put_scripts.ensures.moves)))

pub returns-clause-ready : goal.returns-clause-ready
returns-clause-ready g c =
    let root = c.args.root.now in
    let pod = c.args.pod.now in
    let folder = pod_folder root pod.name in
    let made : was_cleared folder (g.H.Host.told c.clear_own.new.host) ≡ true = cleared_by folder _ _ _ c.in_ok-folder.ensures c.in_ok-clear_own.ensures.cleared in
    let still : was_cleared folder (g.H.Host.told c.clear_spaces.new.host) ≡ true = cleared_stays root folder pod pod _ _ c.clear_spaces.ensures.moves made in
    let then : was_cleared folder (g.H.Host.told c.put_spaces.new.host) ≡ true = cleared_stays root folder pod pod _ _ c.put_spaces.ensures.moves still in
    let later : was_cleared folder (g.H.Host.told c.put_own.new.host) ≡ true = cleared_stays root folder pod pod _ _ c.put_own.ensures.moves then in
    let last : was_cleared folder (g.H.Host.told c.put_scripts.new.host) ≡ true = cleared_stays root folder pod pod _ _ c.put_scripts.ensures.moves later in
    let spaces : AreSpacesMade root pod.name pod.plan (g.H.Host.told c.put_own.new.host) = spaces_stay root pod.name pod.plan _ _ _ _ c.in_ok-put_own.ensures.put c.in_ok-put_spaces.ensures.spaces in
    let start : was_put (start_path root pod.name) (g.H.Host.told c.put_own.new.host) ≡ true = put_by (start_path root pod.name) _ _ _ _ c.in_ok-start.ensures c.in_ok-put_own.ensures.put in
    ready_made root pod.name pod.plan (g.H.Host.told c.put_own.new.host) (g.H.Host.told c.put_scripts.new.host) c.put_scripts.result last spaces start c.put_scripts.ensures.scripts c.put_scripts.ensures.puts
