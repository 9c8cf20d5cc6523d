-- Workspaces that are declared, handed on and bound (Tekton, Workspaces).
use Rattle.std.specs.Prelude.{ℕ, List, [], ◌∷◌, Option, codes}
use Rattle.std.specs.Option.{option_map_or}
use Rattle.serde_json.specs.Data.{Data}
use Rattle.serde_json.specs.Find.{get}
use Rattle.tk_types.specs.declared.task.Space.{Space}
use Rattle.tk_types.specs.declared.task.SpaceSpec.{SpaceSpec}
use Rattle.tk_types.specs.declared.task.SpaceUse.{SpaceUse}
use Rattle.tk_types.specs.Fault.{bad_choice, bad_name, missing_field}
use Rattle.tk_types.specs.Place.{◌▸◌}
use Rattle.tk_types.specs.First.{first_of, refused_if}
use Rattle.tk_names.specs.Rules.{is_dns_label, is_object_name, is_sub_path}
use Rattle.tk_fields.specs.Check.{Check, in_order, no_object, text, text_that, truth}
use Rattle.tk_fields.specs.Get.{field, text_at, text_of, truth_at}
use Rattle.tk_fields.specs.Shape.{both, neither, object_by, optional, required, used_fields}
use Rattle.tk_manifest.specs.Parameter.{named, rows, used_field}

-- a workspace that a Task, or a Pipeline, declares
unfoldable pub task_space_keys : Check
task_space_keys = object_by (rows (codes "name" ∷ codes "optional" ∷ []) (codes "description" ∷ codes "mountPath" ∷ codes "readOnly" ∷ []) [])

unfoldable pub pipeline_space_keys : Check
pipeline_space_keys = object_by (rows (codes "name" ∷ codes "optional" ∷ []) (codes "description" ∷ []) [])

unfoldable pub space_fields : Check
space_fields = used_fields (required (codes "name") (named is_dns_label) ∷ optional (codes "optional") truth ∷ [])

unfoldable pub task_space : Check
task_space = in_order (task_space_keys ∷ space_fields ∷ [])

unfoldable pub pipeline_space : Check
pipeline_space = in_order (pipeline_space_keys ∷ space_fields ∷ [])

unfoldable pub space_spec_of : Data → SpaceSpec
space_spec_of d = record { name = text_at (codes "name") d; optional = truth_at (codes "optional") d }

-- a path below a workspace
unfoldable pub sub_path : Check
sub_path = used_field (optional (codes "subPath") (text_that is_sub_path bad_name))

-- a workspace that a pipeline task hands to its Task: the pipeline's of the same name where none is named
unfoldable pub space_use_keys : Check
space_use_keys = object_by (rows (codes "name" ∷ codes "workspace" ∷ codes "subPath" ∷ []) [] [])

unfoldable pub space_use_names : Check
space_use_names = used_fields (required (codes "name") (named is_dns_label) ∷ optional (codes "workspace") text ∷ [])

unfoldable pub space_use : Check
space_use = in_order (space_use_keys ∷ space_use_names ∷ sub_path ∷ [])

abbrev pub handed_on : Data → List ℕ
handed_on d = option_map_or text_of (get (codes "workspace") d) (text_at (codes "name") d)

unfoldable pub space_use_of : Data → SpaceUse
space_use_of d = record { name = text_at (codes "name") d; from = handed_on d; sub = text_at (codes "subPath") d }

-- a binding to a claim
unfoldable pub claim_keys : Check
claim_keys = object_by (rows (codes "claimName" ∷ []) (codes "readOnly" ∷ []) [])

unfoldable pub claim_name : Check
claim_name = used_field (required (codes "claimName") (named is_object_name))

unfoldable pub claim : Check
claim = in_order (claim_keys ∷ claim_name ∷ [])

-- a fresh folder or a claim; a missing one is told as the folder, one too many as the claim
unfoldable pub folder_and_claim : Check
folder_and_claim = used_fields (optional (codes "emptyDir") no_object ∷ optional (codes "persistentVolumeClaim") claim ∷ [])

unfoldable pub folder_or_claim : Check
folder_or_claim place d =
    first_of
    (refused_if (neither (codes "emptyDir") (codes "persistentVolumeClaim") d) (missing_field (place ▸ codes "emptyDir"))
    ∷ refused_if (both (codes "emptyDir") (codes "persistentVolumeClaim") d) (bad_choice (place ▸ codes "persistentVolumeClaim"))
    ∷ [])

unfoldable pub claim_of : Data → Option (List ℕ)
claim_of d = field (text_at (codes "claimName")) (codes "persistentVolumeClaim") d

-- a binding
unfoldable pub binding_keys : Check
binding_keys =
    object_by (rows
    (codes "name" ∷ codes "subPath" ∷ codes "emptyDir" ∷ codes "persistentVolumeClaim" ∷ [])
    []
    (codes "volumeClaimTemplate" ∷ codes "secret" ∷ codes "configMap" ∷ codes "projected" ∷ codes "csi" ∷ []))

abbrev pub space_name : Check
space_name = used_field (required (codes "name") (named is_dns_label))

unfoldable pub binding : Check
binding = in_order (binding_keys ∷ space_name ∷ sub_path ∷ folder_and_claim ∷ folder_or_claim ∷ [])

unfoldable pub binding_of : Data → Space
binding_of d = record { name = text_at (codes "name") d; claim = claim_of d; sub = text_at (codes "subPath") d }
