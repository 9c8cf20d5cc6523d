-- Plans that are computed.
use Rattle.std.specs.Prelude.{◌≡◌, refl, [], ◌∷◌, Some, None, true, false, codes}
use Rattle.std.specs.Fmt.{digits}
use Rattle.tk_types.specs.declared.run.Start.TheVariants.{Ready}
use Rattle.tk_types.specs.declared.task.Step.{Step}
use Rattle.tk_types.specs.declared.task.TaskBody.{TaskBody}
use Rattle.tk_types.specs.declared.value.ParamType.TheVariants as types
use Rattle.tk_types.specs.declared.value.Value.TheVariants.{Str}
use Rattle.tk_journal.specs.declared.object.TaskRunState.{TaskRunState}
use Rattle.tk_journal.specs.declared.object.Plan.{Plan}
use Rattle.tk_journal.specs.Plan.{interpreter, script_file, dir_in, plan_of}

-- scripts

named_shell : interpreter (codes "#!/bin/bash -eu\necho a\n") ≡ Some (codes "/bin/bash" ∷ codes "-eu" ∷ [])
named_shell = refl

shell_alone : interpreter (codes "#!/bin/bash\necho a\n") ≡ Some (codes "/bin/bash" ∷ [])
shell_alone = refl

nothing_behind : interpreter (codes "#! /bin/bash\n") ≡ None
nothing_behind = refl

own_shell : script_file (codes "echo a\n") ≡ codes "#!/bin/sh\nset -e\necho a\n"
own_shell = refl

empty_script : script_file [] ≡ codes "#!/bin/sh\nset -e\n"
empty_script = refl

kept_script : script_file (codes "#!/bin/bash\n") ≡ codes "#!/bin/bash\n"
kept_script = refl

-- folders

below_the_pod : dir_in (codes "/work/p") (codes "src") ≡ codes "/work/p/src"
below_the_pod = refl

absolute : dir_in (codes "/work/p") (codes "/tmp") ≡ codes "/tmp"
absolute = refl

-- a second attempt, of a script and a command; the command's step continues on error

abbrev script_step : Step
script_step = record { name = None; command = []; args = codes "$(params.x)" ∷ []; script = Some (codes "cat $(workspaces.ws.path)/f > $(results.r.path)\n"); env = record { key = codes "N"; value = codes "$(context.taskRun.name)/$(context.task.retry-count)" } ∷ []; dir = None; keep_going = false }

abbrev command_step : Step
command_step = record { name = None; command = codes "test" ∷ codes "$(workspaces.ws.bound)" ∷ []; args = []; script = None; env = []; dir = Some (codes "d"); keep_going = true }

abbrev body_b : TaskBody
body_b = record {
  spec = record {
    params = record { name = codes "x"; kind = types.Str; properties = []; default_value = None } ∷ [];
    steps = script_step ∷ command_step ∷ [];
    results = record { name = codes "r"; kind = types.Str } ∷ [];
    spaces = record { name = codes "ws"; optional = false } ∷ [];
  };
  task_name = codes "b";
  outer = [];
  fallback = [];
  bound = record { name = codes "ws"; claim = Some (codes "c"); sub = [] } ∷ [];
}

abbrev task_run_b : TaskRunState
task_run_b = record {
  spec = record { name = codes "q"; body = body_b; params = record { name = codes "x"; value = Str (codes "v") } ∷ []; retries = 1; timeout = 0; start = Ready };
  root = codes "/work";
  run = None;
  pipeline = [];
  task = 0;
  index = 0;
  binding = record { params = record { name = codes "x"; value = Str (codes "v") } ∷ [] };
  marked = false;
  attempts = [];
  closed = None;
}

abbrev plan_b : Plan
plan_b = record {
  orders =
      record { pod = codes "q-pod-2"; step = 0; argv = codes "/bin/sh" ∷ codes "/work/q-pod-2/scripts/0" ∷ codes "v" ∷ []; env = record { key = codes "N"; value = codes "q/1" } ∷ []; dir = codes "/work/q-pod-2" }
      ∷ record { pod = codes "q-pod-2"; step = 1; argv = codes "test" ∷ codes "true" ∷ []; env = []; dir = codes "/work/q-pod-2/d" }
      ∷ [];
  scripts = codes "#!/bin/sh\nset -e\ncat /work/claims/c/f > /work/q-pod-2/results/r\n" ∷ [] ∷ [];
  keep = 2;
  results = record { name = codes "r"; kind = types.Str } ∷ [];
  folders = codes "/work/claims/c" ∷ [];
}

second_attempt : plan_of task_run_b 2 ≡ Some plan_b
unfolding digits
second_attempt = refl
