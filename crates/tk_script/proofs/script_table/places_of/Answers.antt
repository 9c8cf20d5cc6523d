use Rattle.std.proofs.Common.{◌≡◌, ◌∙◌, ◌+◌, ◌-◌, ◌<◌, length, drop, sym, ap, arith, string_bytes}
use Rattle.std.specs.HashMap.{get_by_text}
use Rattle.std.proofs.lemmas.Map.Text.{hash_map_updates_text}
use Rattle.tk_script.specs.declared.pod_script.PodScript.{PodScript}
use Rattle.tk_script.specs.ScriptHost.{script_of}
use Rattle.tk_script.proofs.Places.{placed_before}
use Rattle.tk_script.proofs.script_table.places_of.Goals as goal

pub loop-place-preserved : goal.loop-place-preserved
loop-place-preserved c =
    let at = c.loop-place.place - 1 in
    let on : at + 1 ≡ c.loop-place.place = omega (arith, c.loop-place-test.true) in
    let below : at < length c.args.pods.now = omega (arith, c.loop-place-test.true, c.loop-place.invariant.0) in (
      omega (arith, c.loop-place.invariant.0),
      λ q. placed_before c.args.pods.now (get_by_text c.loop-place.places) (get_by_text c.insert.new.self) (string_bytes c.in_ok-pod.pod) q at c.index-pods-place.result below c.index-pods-place.is
          (c.in_ok-pod.ensures.ok ∙ (c.as_str.ensures ∙ ap (λ (s : PodScript). s.pod) (sym c.index-pods-place.is)))
          (hash_map_updates_text (string_bytes c.in_ok-pod.pod) c.loop-place.places c.insert.new.self _ c.in_ok-insert.ensures.updates q)
          (c.loop-place.invariant.1 q ∙ ap (λ k. script_of (drop k c.args.pods.now) q) (sym on)),
    )
