use Rattle.std.proofs.Common.{◌≡◌, drop}
use Rattle.serde_json.specs.View.{items_view}
use Rattle.tk_results.specs.Read.{elements, texts_of}
use Rattle.tk_results.proofs.AllThere.{behind}
use Rattle.tk_results.proofs.strings.texts_of.Given as goal

-- what is made, and what the elements that are left give, is the result
abbrev pub invariant-loop-item : goal.invariant-loop-item
invariant-loop-item l = behind l.texts (texts_of (elements (items_view (drop l.item-index l.items)))) ≡ texts_of (elements (items_view l.items))
